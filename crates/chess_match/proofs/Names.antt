-- The name kept of an engine (`name_by`) is the value of its last `myname`, cut for a PGN tag: an item `myname` more
-- replaces it (`name_said`), any other item leaves it (`name_kept`).
use Rattle.std.proofs.Common.{◌≡◌, true, false, List, [], ◌∷◌, ◌++◌, refl, codes, bytes_eq}
use Rattle.chess_game.specs.Results.{cut_tag}
use Rattle.cecp_engine.specs.Items.{Item}
use Rattle.cecp_engine.proofs.shared.Items.{last_said-snoc}
use Rattle.chess_match.specs.ties.Represents.{name_by}

pub name_said : (items : List Item) (i : Item) → bytes_eq i.name (codes "myname") ≡ true
    → name_by (items ++ i ∷ []) ≡ cut_tag i.value.text
unfolding name_by
name_said items i e = rw (last_said-snoc (λ v. v.text) [] (codes "myname") items i, e) refl

pub name_kept : (items : List Item) (i : Item) → bytes_eq i.name (codes "myname") ≡ false
    → name_by (items ++ i ∷ []) ≡ name_by items
unfolding name_by
name_kept items i e = rw (last_said-snoc (λ v. v.text) [] (codes "myname") items i, e) refl
