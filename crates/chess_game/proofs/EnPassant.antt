-- A pawn's legal moves to the en passant target are just the legal captures en passant (captures_there): no pawn
-- advances to it, since one step back from it is the pawn that crossed it, and a double advance ends on another rank.
-- So whether one is legal is seen from the squares of pawns that may legally go there (some_start).
use Rattle.std.proofs.Common.{◌≡◌, ◌<◌, ℕ, inl, inr, Bool, true, not, ◌==◌, ◌&&◌, Option, Some, None, refl, sym, ap, ◌∙◌, arith}
use Rattle.std.proofs.lemmas.Bool.Decides.{nat_tests}
use Rattle.std.proofs.lemmas.Bool.{eqb-true, and_from, and_parts, both_ways}
use Rattle.std.specs.List.{list_any}
use Rattle.chess_base.specs.{declared.man.Colour.Colour, declared.man.Colour.TheVariants.White, declared.man.Colour.TheVariants.Black, declared.man.Kind.Kind, declared.man.Kind.TheVariants.Pawn, declared.man.Move.Move, declared.setup.Setup.Setup, MoveList.move_of, MoveList.moves, Moves.is_legal, Moves.is_en_passant, Moves.pawn_advances, shared.Parts.crossed_rank, shared.Parts.one_rank_back, Sound.IsSound}
use Rattle.chess_base.specs.Men.{man_at, is_man, other, first_rank, forward, pawn_rank}
use Rattle.chess_base.specs.Squares.{rank, is_at, some_square, squares}
use Rattle.chess_base.proofs.{shared.Changes.advance_goes, shared.Changes.at_target, shared.Changes.pawn_no_castling, shared.Men.is_man-colour, shared.Squares.some_square_same}
use Rattle.chess_base.proofs.shared.MoveKinds.{MoveKind, ManMoves, Castles, PawnMoves, Advances, Captures, TakesEnPassant, moves_from_pattern}
use Rattle.chess_moves.specs.{Promoting.would_promote, Sets.contains, Sets.HasLegalStarts}
use Rattle.chess_moves.proofs.{shared.LegalMoves.promotes_on_last_rank, shared.AnyMove.any_by_start}
use Rattle.chess_game.proofs.SomeKind.{not_none}

at_itself : (t : ℕ) → is_at (Some t) t ≡ true
at_itself t = grind arith

is_target : (p : Setup) (s t : ℕ) → p.target ≡ Some t → s ≡ t → is_at p.target s ≡ true
is_target p s t at there = rw (at, there) (at_itself t)

-- the target is on the rank that the enemy pawn has just crossed
target_rank : (p : Setup) (t : ℕ) → IsSound p → p.target ≡ Some t → rank t ≡ crossed_rank (other p.side)
target_rank p t sound at = (at_target p t sound.target (is_target p t t at refl)).0

-- the rank of a target is no last rank, so from the claim that it is anything follows
not_last : (c : Colour) (t : ℕ) → rank t ≡ crossed_rank (other c) → (rank t == first_rank (other c)) ≡ true
    → (A : Type 0) → A
not_last White t e h A = let last = eqb-true (rank t) 7 h in absurd (omega (arith, e, last))
not_last Black t e h A = let last = eqb-true (rank t) 0 h in absurd (omega (arith, e, last))

-- a capture en passant is a pawn's move
pawn_captures : (p : Setup) (m : Move) → is_en_passant p m ≡ true → is_man p.side Pawn (man_at p.men m.from) ≡ true
unfolding is_en_passant
pawn_captures p m h = grind (arith, h)

-- a capture en passant ends on the target
on_target : (p : Setup) (m : Move) (t : ℕ) → p.target ≡ Some t → is_en_passant p m ≡ true → m.to ≡ t
unfolding is_en_passant
on_target p m t at h = let there = rw at at h in grind (arith, nat_tests, there)

-- a legal move to the target doesn't promote
none_promoted : (p : Setup) (m : Move) (t : ℕ) → IsSound p → p.target ≡ Some t → is_legal p m ≡ true → m.to ≡ t
    → m.promotion ≡ None
unfolding would_promote
none_promoted p m t sound at legal there = by_promotion m.promotion refl
  where
    by_promotion : (o : Option Kind) → m.promotion ≡ o → o ≡ None
    by_promotion None e = refl
    by_promotion (Some k) e =
        let promoting = promotes_on_last_rank p m k e legal in
        let last : (rank m.to == first_rank (other p.side)) ≡ true = grind (arith, promoting) in
        not_last p.side m.to (ap rank there ∙ target_rank p t sound at) last (Some k ≡ None)

target_below : (c : Colour) (t : ℕ) → rank t ≡ crossed_rank (other c) → t < 64
target_below White t e = omega (arith, e)
target_below Black t e = omega (arith, e)

-- no pawn advances to the target: one step back is the pawn that crossed it, and a double advance ends elsewhere

-- from the target one rank back is where a pawn would come from by one step
back : (c : Colour) (a b : ℕ) → rank b ≡ crossed_rank (other c) → b ≡ forward c a → one_rank_back c b ≡ a
back White a b e f = omega (arith, e, f)
back Black a b e f = omega (arith, e, f)

-- two steps from the home rank don't end on the target's rank
too_far : (c : Colour) (a b : ℕ) → rank b ≡ crossed_rank (other c) → rank a ≡ pawn_rank c
    → b ≡ forward c (forward c a) → ⊥
too_far White a b e r f = omega (arith, e, r, f)
too_far Black a b e r f = omega (arith, e, r, f)

-- an advance to the target is impossible
none_advances : (p : Setup) (m : Move) → IsSound p → is_at p.target m.to ≡ true
    → is_man p.side Pawn (man_at p.men m.from) ≡ true → pawn_advances p m ≡ true → ⊥
none_advances p m sound at pawn e =
    let facts = at_target p m.to sound.target at in
    elim (advance_goes p m e) [
      | inl one ↦
          let enemy = rw (back p.side m.from m.to facts.0 one) at facts.2 in
          both_ways _ (is_man-colour p.side Pawn Pawn _ enemy) pawn
      | inr two ↦ too_far p.side m.from m.to facts.0 two.0 two.1
    ]

-- a pawn's legal move to the target is a capture en passant
captures_there : (p : Setup) (m : Move) → IsSound p → is_at p.target m.to ≡ true
    → is_man p.side Pawn (man_at p.men m.from) ≡ true → is_legal p m ≡ true → is_en_passant p m ≡ true
unfolding is_legal is_en_passant
captures_there p m sound at pawn legal = by_kind (moves_from_pattern p m (and_parts _ _ legal).0).kind
  where
    by_kind : MoveKind p m → is_en_passant p m ≡ true
    by_kind (ManMoves away none goes) = absurd (both_ways _ away pawn)
    by_kind (Castles w r castles right goes) = let none = pawn_no_castling p m pawn in cc
    by_kind (PawnMoves man fits (Advances e)) = absurd (none_advances p m sound at pawn e)
    by_kind (PawnMoves man fits (Captures e taken)) = and_from _ _ (and_from _ _ pawn e) at
    by_kind (PawnMoves man fits (TakesEnPassant e passed)) = and_from _ _ (and_from _ _ pawn e) at

-- some square of the board, as a test over the list of squares
squares_any : (f : ℕ → Bool) → list_any f squares ≡ some_square f
unfolding some_square
squares_any f = refl

-- whether a pawn may legally go to the target t (whether the set w of their squares has any) says whether some legal
-- move captures en passant
pub some_start : (p : Setup) (t w : ℕ) → IsSound p → p.target ≡ Some t → HasLegalStarts p Pawn t w
    → not (not (some_square (λ k. contains w k))) ≡ list_any (λ m. is_en_passant p m) (moves p)
some_start p t w sound at starts =
    not_none (some_square (λ k. contains w k))
    ∙ some_square_same (λ k. contains w k) captures (λ k l. starts k l ∙ same k)
    ∙ sym (squares_any captures)
    ∙ any_by_start p (λ m. is_en_passant p m) t (target_below p.side t (target_rank p t sound at)) (record {
      ends = λ m legal h. on_target p m t at h;
      stays = λ m legal h. none_promoted p m t sound at legal (on_target p m t at h);
    })
  where
    captures : ℕ → Bool
    captures k = is_en_passant p (move_of k t None) && is_legal p (move_of k t None)

    alike : (x y z : Bool) → (z ≡ true → x ≡ true → y ≡ true) → (y ≡ true → x ≡ true) → (x && z) ≡ (y && z)
    alike x y z h g = grind (arith, h, g)

    same : (k : ℕ) → (is_man p.side Pawn (man_at p.men k) && is_legal p (move_of k t None)) ≡ captures k
    same k = alike _ _ _
        (λ legal pawn. captures_there p (move_of k t None) sound (is_target p t t at refl) pawn legal)
        (λ e. pawn_captures p (move_of k t None) e)
