-- What a piece of a known colour and kind attacks (attacks_as, king_is_near), that a move in its piece's pattern goes
-- where the piece attacks (attacks_of), and what is on a square after castling (after_castle) and after any other move
-- (after_no_castle): read off the definitions, by their parts.
use Rattle.std.proofs.Common.{◌≡◌, ◌≢◌, ℕ, ◌<◌, ◌≤◌, true, Option, Some, None, refl, ap, ◌∙◌, ◌==◌, ◌&&◌, not, nat_le}
use Rattle.std.proofs.lemmas.Bool.{and_parts, eqb-false, leb-true, not-true}
use Rattle.std.specs.{Int.abs_diff, Option.option_map_or}
use Rattle.chess_base.specs.{declared.castling.Castle.Castle, declared.man.Colour.Colour, declared.man.Kind.Kind, declared.man.Kind.TheVariants.King, declared.man.Man.Man, declared.man.Move.Move, declared.setup.Setup.Setup, Squares.file, Squares.rank, Attacks.attacks, Attacks.could_capture, Castling.castle_of, shared.Splits.could_capture_as}
use Rattle.chess_base.specs.Men.{Men, man_at, is_man, same_colour, same_kind}
use Rattle.chess_base.specs.Moves.{after, man_moves, men_after, after_castling, after_moving}
use Rattle.chess_base.proofs.{shared.Men.same_colour-true, shared.Men.same_kind-true, shared.Squares.get_or-map_squares}

-- what a piece attacks is what its colour and kind could capture; attacks_as says it of a square
as_kind : (men : Men) (a b : ℕ) (c : Colour) (k : Kind) (o : Option Man) → is_man c k o ≡ true
    → could_capture_as men o a b ≡ could_capture men c k a b
unfolding is_man
as_kind men a b c k None e = cc
as_kind men a b c k (Some x) e =
    let both = and_parts (same_colour c x.colour) (same_kind k x.kind) e in
    let colour : c ≡ x.colour = same_colour-true _ _ both.0 in
    let kind : k ≡ x.kind = same_kind-true _ _ both.1 in
    rw (colour, kind) refl

-- a piece of a known colour and kind
pub attacks_as : (men : Men) (a b : ℕ) (c : Colour) (k : Kind) → is_man c k (man_at men a) ≡ true
    → attacks men a b ≡ could_capture men c k a b
unfolding attacks
attacks_as men a b c k e = as_kind men a b c k (man_at men a) e

-- a king attacks the squares next to it
pub king_is_near : (men : Men) (c : Colour) (a b : ℕ) → could_capture men c King a b ≡ true
    → (a ≢ b) × (abs_diff (file a) (file b) ≤ 1) × (abs_diff (rank a) (rank b) ≤ 1)
unfolding could_capture
king_is_near men c a b e =
    let both = and_parts (not (a == b) && nat_le (abs_diff (file a) (file b)) 1) _ e in
    let first = and_parts (not (a == b)) _ both.0 in
    (eqb-false _ _ (not-true _ first.0), leb-true _ _ first.1, leb-true _ _ both.1)

-- what is on square s after a move: by `after_castling` if the move castles, otherwise by `after_moving`
on_square : (p : Setup) (m : Move) (s : ℕ) → s < 64
    → man_at (after p m).men s
    ≡ option_map_or (λ (k : Castle). after_castling p m k s) (castle_of p m) (after_moving p m s)
unfolding after men_after
on_square p m s h =
    get_or-map_squares (λ x. option_map_or (λ (k : Castle). after_castling p m k x) (castle_of p m) (after_moving p m x))
    s None h

-- what is on a square after castling, and after any other move
pub after_castle : (p : Setup) (m : Move) (k : Castle) (s : ℕ) → castle_of p m ≡ Some k → s < 64
    → man_at (after p m).men s ≡ after_castling p m k s
after_castle p m k s e h = on_square p m s h
    ∙ ap (λ o. option_map_or (λ (k : Castle). after_castling p m k s) o (after_moving p m s)) e

pub after_no_castle : (p : Setup) (m : Move) (s : ℕ) → castle_of p m ≡ None → s < 64
    → man_at (after p m).men s ≡ after_moving p m s
after_no_castle p m s e h = on_square p m s h
    ∙ ap (λ o. option_map_or (λ (k : Castle). after_castling p m k s) o (after_moving p m s)) e

-- a move in its piece's pattern goes where that piece attacks
pub attacks_of : (p : Setup) (m : Move) → man_moves p m ≡ true → attacks p.men m.from m.to ≡ true
unfolding man_moves
attacks_of p m e = (and_parts _ _ (and_parts _ _ e).0).1
