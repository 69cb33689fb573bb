-- Of two legal moves, if the second captures en passant, the first was the double advance of the pawn that it captures
-- (follows). By cases of the kind of the second move, it goes to the en passant target (to_target); the first left a
-- target only if it was a double advance over that square (target_of); and the pawn past the target is captured
-- (captured).
use Rattle.std.proofs.Common.{◌≡◌, ◌≢◌, ℕ, ◌<◌, ◌⊎◌, inl, inr, Bool, true, false, Option, Some, None, refl, sym, arith, ◌==◌, ◌||◌, if◌then◌else◌}
use Rattle.std.proofs.lemmas.Bool.{and_parts, and_from, both_ways, not-true, or_left, eqb-true, eq-eqb, ne_eqb, or_right}
use Rattle.chess_base.specs.{declared.man.Colour.Colour, declared.man.Colour.TheVariants.White, declared.man.Colour.TheVariants.Black, declared.man.Kind.TheVariants.King, declared.man.Kind.TheVariants.Pawn, declared.man.Move.Move, declared.setup.Setup.Setup, Squares.file, Squares.rank, Squares.is_at, Attacks.attacks, Sound.IsSound, Sound.no_pawn_on_end_ranks}
use Rattle.chess_base.specs.Men.{man_at, is_man, other, forward, pawn_rank}
use Rattle.chess_base.specs.Moves.{is_legal, after, is_double_advance, is_en_passant, captured_square, target_after}
use Rattle.chess_base.proofs.{shared.Castling.says_from_castling, shared.Castling.castling_says, shared.Castling.no_castle, shared.Changes.advance_goes, shared.Changes.pawn_no_castling, shared.LegalMoves.IsSound-after, shared.Squares.each_square-at, shared.Men.is_man-kind, shared.Men.is_of-none, shared.Men.other-other}
use Rattle.chess_base.proofs.shared.MoveKinds.{MoveKind, ManMoves, Castles, PawnMoves, Advances, Captures, TakesEnPassant, moves_from_pattern, is_double_advance-parts}
use Rattle.rules_laws.specs.EnPassant.{CapturesEnPassant, GoesTwoSquaresOver, EnPassantFollowsDoubleAdvance}
use Rattle.rules_laws.proofs.Pieces.{after_no_castle}

-- a pawn that advances, one square or two, stays on its file
on_one_file : (c : Colour) (a b : ℕ) → a < 64 → rank a ≢ 0 → (b ≡ forward c a) ⊎ ((rank a ≡ pawn_rank c) × (b ≡ forward c (forward c a)))
    → b < 64 → file b ≡ file a
on_one_file White a b h z (inl e) l = omega (arith, e)
on_one_file White a b h z (inr e) l = let f = e.1 in omega (arith, f)
on_one_file Black a b h z (inl e) l = omega (arith, e, z)
on_one_file Black a b h z (inr e) l = let f = e.1 in let r = e.0 in omega (arith, f, r, z)

-- ---- the capture goes to the target
off_first_rank : (q : Setup) (s : ℕ) → IsSound q → s < 64 → is_man q.side Pawn (man_at q.men s) ≡ true → rank s ≢ 0
unfolding no_pawn_on_end_ranks
off_first_rank q s sound l pawn e =
    let here = not-true _ (each_square-at _ sound.pawns s l) in
    both_ways _ here (and_from _ _ (of_side q.side pawn) (or_left _ _ (eq-eqb _ _ e)))
  where
    of_side : (c : Colour) → is_man c Pawn (man_at q.men s) ≡ true
        → (is_man White Pawn (man_at q.men s) || is_man Black Pawn (man_at q.men s)) ≡ true
    of_side White h = or_left _ _ h
    of_side Black h = or_right _ _ h

-- a pawn that goes to another file (on_one_file), to an empty square, attacks that square, and it is the target
to_target : (q : Setup) (m : Move) → IsSound q → CapturesEnPassant q m → m.from < 64 → m.to < 64 → MoveKind q m
    → (attacks q.men m.from m.to ≡ true) × (is_at q.target m.to ≡ true)
to_target q m sound h f l (ManMoves n at e) = absurd (both_ways _ n h.pawn)
to_target q m sound h f l (Castles w r at right e) =
    absurd (both_ways _ (is_man-kind q.side q.side King Pawn (man_at q.men m.from) refl
    (castling_says q m w (says_from_castling q m w at)).0) h.pawn)
to_target q m sound h f l (PawnMoves man fits (Advances e)) =
    absurd (h.aside (on_one_file q.side m.from m.to f (off_first_rank q m.from sound f h.pawn) (advance_goes q m e) l))
to_target q m sound h f l (PawnMoves man fits (Captures e taken)) =
    absurd (both_ways _ (is_of-none (other q.side) (man_at q.men m.to) (rw h.empty refl)) taken)
to_target q m sound h f l (PawnMoves man fits (TakesEnPassant e at)) = (e, at)

-- ---- where the target is, a double advance went over it
target_of : (double : Bool) (over s : ℕ) → is_at (if double then Some over else None) s ≡ true
    → (double ≡ true) × (over ≡ s)
target_of true over s e = (refl, eqb-true _ _ e)
target_of false over s e = cc

-- the ranks and files of a double advance from a pawn's initial rank, over square s
goes_over : (c : Colour) (m : Move) (s : ℕ) → rank m.from ≡ pawn_rank c → m.to ≡ forward c (forward c m.from)
    → forward c m.from ≡ s → GoesTwoSquaresOver c m s
goes_over White m s r e f = record {
  starts = (omega (arith, r, f), r);
  crosses = omega (arith, r, f);
  ends = (omega (arith, r, e, f), omega (arith, r, e, f));
}
goes_over Black m s r e f = record {
  starts = (omega (arith, r, f), r);
  crosses = omega (arith, r, f);
  ends = (omega (arith, r, e, f), omega (arith, r, e, f));
}

step_on : (c : Colour) (a b s : ℕ) → b ≡ forward c (forward c a) → forward c a ≡ s → b ≡ forward c s
step_on c a b s e f = rw (← f) e

-- the end of a double advance is past s, the square it goes over, and is on the board
past : (c : Colour) (a b s : ℕ) → rank a ≡ pawn_rank c → b ≡ forward c (forward c a) → forward c a ≡ s
    → (b ≢ s) × (b < 64)
past White a b s r e f = (λ g. omega (arith, r, e, f, g), omega (arith, r, e, f))
past Black a b s r e f = (λ g. omega (arith, r, e, f, g), omega (arith, r, e, f))

-- the pawn past the target is captured
captured : (q : Setup) (m : Move) (b : ℕ) → is_man q.side Pawn (man_at q.men m.from) ≡ true
    → attacks q.men m.from m.to ≡ true → is_at q.target m.to ≡ true → b ≡ forward (other q.side) m.to → b ≢ m.to
    → b < 64 → man_at (after q m).men b ≡ None
unfolding captured_square is_en_passant
captured q m b pawn hits at e n l =
    let here : (forward (other q.side) m.to == b) ≡ true = eq-eqb _ _ (sym e) in
    let none = no_castle q m (pawn_no_castling q m pawn) in
    rw (after_no_castle q m b none l, ne_eqb _ _ n, pawn, hits, at, here) (gone (man_at q.men b) (b == m.from))
  where
    gone : {A : Type 0} (x : Option A) (d : Bool) → (if d || true then None else x) ≡ None
    gone x true = refl
    gone x false = refl

pub follows : EnPassantFollowsDoubleAdvance
unfolding is_legal after target_after
follows p before m sound legal legal' h =
    let q = after p before in
    let moves = moves_from_pattern q m (and_parts _ _ legal').0 in
    let to = to_target q m (IsSound-after p before sound legal) h moves.from_in moves.to_in moves.kind in
    let target = target_of (is_double_advance p before) (forward p.side before.from) m.to to.1 in
    let double = is_double_advance-parts p before target.0 in
    let away = past p.side before.from before.to m.to double.1 double.2 target.1 in
    record {
      pawn = double.0;
      over = goes_over p.side before m.to double.1 double.2 target.1;
      captured = captured q m before.to h.pawn to.0 to.1
          (rw other-other (step_on p.side before.from before.to m.to double.2 target.1)) away.0 away.1;
    }
