-- By the tests of the definitions, for any position: a move captures exactly if an enemy piece is on its end square, or
-- by en passant (captures_is); it resets the halfmove clock exactly if a pawn moves or an enemy piece is on its end
-- square (resets_clock_is), as only pawns capture en passant. Passed on: no piece attacks its own square.

-- no piece attacks its own square
pub use Rattle.chess_base.proofs.Rays.{could_capture-itself}
use Rattle.std.proofs.Common.{◌≡◌, ℕ, Bool, true, false, ◌||◌, ◌&&◌, Some, None, refl, ap, ◌∙◌, arith, is_some, if◌then◌else◌}
use Rattle.chess_base.specs.{declared.man.Kind.TheVariants.Pawn, declared.man.Move.Move, declared.setup.Setup.Setup, Squares.is_at, Attacks.attacks, Moves.is_en_passant, Moves.captured_square, Moves.resets_clock, shared.Parts.one_rank_back}
use Rattle.chess_base.specs.Men.{man_at, is_of, is_man, other}

-- one of two squares is chosen exactly if one of the two tests passes
some_by : (passes enemy : Bool) (x y : ℕ)
    → is_some (if passes then Some x else if enemy then Some y else None) ≡ (enemy || passes)
some_by true true x y = refl
some_by true false x y = refl
some_by false true x y = refl
some_by false false x y = refl

-- a move captures exactly if an enemy piece is on its end square, or by en passant
pub captures_is : (p : Setup) (m : Move)
    → is_some (captured_square p m) ≡ (is_of (other p.side) (man_at p.men m.to) || is_en_passant p m)
unfolding captured_square
captures_is p m =
    some_by (is_en_passant p m) (is_of (other p.side) (man_at p.men m.to)) (one_rank_back p.side m.to) m.to

-- a capture en passant is a pawn's move
passing : (pawn enemy hits target : Bool) → (pawn || (enemy || ((pawn && hits) && target))) ≡ (pawn || enemy)
passing pawn enemy hits target = grind arith

-- a move resets the clock exactly if a pawn moves or an enemy piece is on its end square
pub resets_clock_is : (p : Setup) (m : Move)
    → resets_clock p m ≡ (is_man p.side Pawn (man_at p.men m.from) || is_of (other p.side) (man_at p.men m.to))
unfolding resets_clock is_en_passant
resets_clock_is p m =
    let pawn = is_man p.side Pawn (man_at p.men m.from) in
    ap (λ v. pawn || v) (captures_is p m)
    ∙ passing pawn (is_of (other p.side) (man_at p.men m.to)) (attacks p.men m.from m.to) (is_at p.target m.to)
