-- A legal move begins on one of the 64 squares (begins_below). So the set of all pieces of a kind, of the side on move,
-- has the start of each legal move of that kind (all_men): that is `HasOrigins`, for any end square. For boards.
use Rattle.std.proofs.Common.{◌≡◌, ℕ, ◌<◌, true, ◌∙◌, arith}
use Rattle.std.proofs.lemmas.Bool.Decides.{nat_tests}
use Rattle.chess_base.specs.{declared.man.Kind.Kind, declared.man.Move.Move, declared.setup.Setup.Setup, Men.man_at, Men.is_man, Moves.is_legal, Moves.is_pseudo_legal}
use Rattle.chess_moves.specs.Sets.{contains, HasOrigins}

-- a legal move begins on one of the 64 squares
pub begins_below : (p : Setup) (m : Move) → is_legal p m ≡ true → m.from < 64
unfolding is_legal is_pseudo_legal
begins_below p m h = grind (arith, nat_tests, h)

-- the set of all pieces of the kind has the start of each legal move of the kind
pub all_men : (p : Setup) (kind : Kind) (to w : ℕ) → ((k : ℕ) → k < 64 → contains w k ≡ is_man p.side kind (man_at p.men k))
    → HasOrigins p kind to w
all_men p kind to w h = λ m legal man there. h m.from (begins_below p m legal) ∙ man
