-- For boards: the pieces after a move are those after its steps (men_after_by_steps), the pieces before it those after
-- the steps back (men_before_by_steps): shown square by square, for castling and for other moves apart. So it's known
-- what is on a square after a move (man_at-men_after): on one it doesn't touch what was there (man_after-same), and
-- where the mover lands, the mover (man_after-to).
use Rattle.std.proofs.Common.{◌≡◌, ℕ, ◌<◌, inl, inr, length, ◌==◌, Bool, ◌||◌, Option, Some, None, ◌≢◌, true, false, refl, sym, ap, ◌∙◌, arith, if◌then◌else◌}
use Rattle.std.proofs.lemmas.Bool.{cases_eq, eq-eqb, ne_eqb}
use Rattle.std.specs.Option.{option_map_or}
use Rattle.chess_base.specs.{declared.castling.Castle.Castle, declared.man.CastlingSide.CastlingSide, declared.man.Move.Move, declared.man.Man.Man, declared.man.Kind.TheVariants.King, declared.man.Kind.TheVariants.Rook, declared.steps.Steps.Steps, declared.setup.Saved.Saved, declared.setup.Setup.Setup, shared.Parts.one_rank_back, Squares.is_at, Steps.man_stepped, Steps.men_stepped}
use Rattle.chess_base.specs.Men.{Men, man_at, is_man, is_of, other}
use Rattle.chess_base.specs.Moves.{is_en_passant, arriving_man, captured_square, after_castling, after_moving, second_square_emptied, steps_of, men_after}
use Rattle.chess_base.specs.Before.{castling_undone, before_castling, before_moving, steps_back_by, steps_back, men_before}
use Rattle.chess_base.specs.Castling.{castling, castle_of, castle_from, mover_end, castling_rook_to}
use Rattle.chess_base.proofs.shared.Castling.{says_from_castling, castling_says, castle_there, no_castle}
use Rattle.chess_base.proofs.{shared.Changes.no_en_passant, shared.Men.is_man-kind, shared.Squares.get_or-map_squares, shared.Squares.length-map_squares, shared.Squares.map_squares-same}

-- the pieces after steps, as one list

-- after steps the board has 64 squares
pub length-men_stepped : (men : Men) (t : Steps) → length (men_stepped men t) ≡ 64
unfolding men_stepped
length-men_stepped men t = length-map_squares (man_stepped men t)

-- what is on a square after steps
pub man_at-men_stepped : (men : Men) (t : Steps) (s : ℕ) → s < 64 → man_at (men_stepped men t) s ≡ man_stepped men t s
unfolding men_stepped
man_at-men_stepped men t s h = get_or-map_squares (man_stepped men t) s None h

-- ---- the two cases of a move are its steps

-- a test for equal numbers, turned round
pub eqb_comm : (a b : ℕ) → (a == b) ≡ (b == a)
eqb_comm a b = elim (cases_eq a b) [
  | inl e ↦ eq-eqb _ _ e ∙ sym (eq-eqb _ _ (sym e))
  | inr n ↦ ne_eqb _ _ n ∙ sym (ne_eqb _ _ (λ e. n (sym e)))
]

-- `or` in either order
or_flip : (a b : Bool) → (a || b) ≡ (b || a)
or_flip a b = grind arith

-- on a square s other than m's end (`to`), a capture takes a piece only if it is en passant (`passes`)
emptied : (passes enemy : Bool) (behind to s : ℕ) → (s == to) ≡ false
    → is_at (if passes then Some behind else None) s
    ≡ is_at (if passes then Some behind else if enemy then Some to else None) s
emptied true enemy behind to s n = refl
emptied false true behind to s n = sym (eqb_comm to s ∙ n)
emptied false false behind to s n = refl

-- a piece that goes from `from` to `to`: what is then on s is the same by either order of the tests, if `q` and `r`
-- agree on all other squares
moved_by : (b : Bool) (to from s : ℕ) (x y : Option Man) (q r : Bool) → (to == s) ≡ b → (b ≡ false → q ≡ r)
    → (if to == s then x else if q || (from == s) then None else y)
    ≡ (if s == to then x else if (s == from) || r then None else y)
moved_by true to from s x y q r e h = let f = eqb_comm s to ∙ e in rw (e, f) refl
moved_by false to from s x y q r e h =
    let f = eqb_comm s to ∙ e in
    let g = h refl in
    rw (e, f, g, eqb_comm s from, or_flip (from == s) r) refl

-- a move that doesn't castle: its steps leave on s what the definition has there
moved : (p : Setup) (m : Move) (s : ℕ) → castle_of p m ≡ None
    → man_stepped p.men (steps_of p m) s ≡ after_moving p m s
unfolding mover_end castling_rook_to second_square_emptied captured_square
moved p m s e =
    let passes = is_en_passant p m in
    let behind = one_rank_back p.side m.to in
    let second = if passes then Some behind else None in
    let taken = if passes then Some behind else if is_of (other p.side) (man_at p.men m.to) then Some m.to else None in
    rw e (moved_by (m.to == s) m.to m.from s (arriving_man (man_at p.men m.from) m.promotion) (man_at p.men s)
    (is_at second s) (is_at taken s) refl
    (λ n. emptied passes (is_of (other p.side) (man_at p.men m.to)) behind m.to s (eqb_comm s m.to ∙ n)))

-- two pieces that arrive and two that leave: what is then on s is the same by either order of the tests
turned_round : (a b c d s : ℕ) (x y z : Option Man)
    → (if a == s then x else if b == s then y else if (c == s) || (d == s) then None else z)
    ≡ (if s == a then x else if s == b then y else if (s == d) || (s == c) then None else z)
turned_round a b c d s x y z = rw (eqb_comm s a, eqb_comm s b, eqb_comm s c, eqb_comm s d, or_flip (d == s) (c == s)) refl

-- a castling: its steps leave on s what the definition has there
castled : (p : Setup) (m : Move) (s : ℕ) (k : Castle) → castle_of p m ≡ Some k → k.king_from ≡ m.from
    → is_man p.side King (man_at p.men m.from) ≡ true
    → man_stepped p.men (steps_of p m) s ≡ after_castling p m k s
unfolding mover_end castling_rook_to second_square_emptied
castled p m s k e from king =
    let none : is_en_passant p m ≡ false =
    no_en_passant p m (is_man-kind _ _ _ _ _ refl king) in
    rw (e, none, ← from)
    (turned_round k.king_to k.rook_to k.rook_from k.king_from s (arriving_man (man_at p.men k.king_from) m.promotion)
    (Some (record { colour = p.side; kind = Rook })) (man_at p.men s))

-- what a castling says of the move
record IsCastling (p : Setup) (m : Move) (k : Castle) : Type 0 where
  pub king : is_man p.side King (man_at p.men m.from) ≡ true
  pub from : k.king_from ≡ m.from

-- a move with a castle is a castling with its squares
castling_of : (p : Setup) (m : Move) (k : Castle) → castle_of p m ≡ Some k → IsCastling p m k
castling_of p m k e = by (castling p m) refl
  where
    by : (o : Option CastlingSide) → castling p m ≡ o → IsCastling p m k
    by None at = let n : None ≡ Some k = sym (no_castle p m at) ∙ e in cc
    by (Some w) at =
        let there = castle_there p m w at in
        let is : Some (castle_from p.side w m.from there.0) ≡ Some k = sym there.2 ∙ e in
        let same : castle_from p.side w m.from there.0 ≡ k = cc in
        record {
          king = (castling_says _ _ _ (says_from_castling _ _ _ at)).0;
          from = sym (ap (λ (v : Castle). v.king_from) same);
        }

-- the steps of a move leave on s what the definition has there, whether it castles or not
by_cases : (p : Setup) (m : Move) (s : ℕ) (o : Option Castle) → castle_of p m ≡ o
    → option_map_or (λ k. after_castling p m k s) o (after_moving p m s) ≡ man_stepped p.men (steps_of p m) s
by_cases p m s None e = sym (moved p m s e)
by_cases p m s (Some k) e = let c = castling_of p m k e in sym (castled p m s k e c.from c.king)

-- the pieces after a move, by its steps
pub men_after_by_steps : (p : Setup) (m : Move) → men_after p m ≡ men_stepped p.men (steps_of p m)
unfolding men_after men_stepped
men_after_by_steps p m =
    map_squares-same (λ s. option_map_or (λ k. after_castling p m k s) (castle_of p m) (after_moving p m s))
    (man_stepped p.men (steps_of p m)) (λ s. by_cases p m s (castle_of p m) refl)

-- ---- and backwards

-- the steps back from a move leave on x what was there, whether it castled or not
back_by_cases : (q : Setup) (m : Move) (s : Saved) (x : ℕ) (o : Option Castle)
    → option_map_or (λ k. before_castling q m k x) o (before_moving q m s x)
    ≡ man_stepped q.men (steps_back_by (other q.side) q.men m s o) x
back_by_cases q m s x None = rw (eqb_comm x m.from, eqb_comm x m.to) refl
back_by_cases q m s x (Some k) =
    rw (
      eqb_comm x m.from,
      eqb_comm x k.rook_from,
      eqb_comm x k.king_to,
      eqb_comm x k.rook_to,
      or_flip (k.king_to == x) (k.rook_to == x),
    ) refl

-- the pieces before a move, by the steps back
pub men_before_by_steps : (q : Setup) (m : Move) (s : Saved)
    → men_before q m s ≡ men_stepped q.men (steps_back q m s)
unfolding men_before men_stepped steps_back
men_before_by_steps q m s =
    map_squares-same
    (λ x. option_map_or (λ k. before_castling q m k x) (castling_undone q m s) (before_moving q m s x))
    (man_stepped q.men (steps_back_by (other q.side) q.men m s (castling_undone q m s)))
    (λ x. back_by_cases q m s x (castling_undone q m s))

-- ---- square by square

-- what is on s after the move, by its steps
unfoldable pub man_after : Setup → Move → ℕ → Option Man
man_after p m s =
    if mover_end p m == s then arriving_man (man_at p.men m.from) m.promotion
    else if is_at (castling_rook_to p m) s then Some (record { colour = p.side; kind = Rook })
    else if is_at (second_square_emptied p m) s || (m.from == s) then None
    else man_at p.men s

-- after a move the board has 64 squares
pub length-men_after : (p : Setup) (m : Move) → length (men_after p m) ≡ 64
length-men_after p m = ap (λ (men : Men). length men) (men_after_by_steps p m) ∙ length-men_stepped p.men (steps_of p m)

-- what is on a square after a move
pub man_at-men_after : (p : Setup) (m : Move) (s : ℕ) → s < 64 → man_at (men_after p m) s ≡ man_after p m s
unfolding man_after
man_at-men_after p m s h =
    ap (λ (men : Men). man_at men s) (men_after_by_steps p m) ∙ man_at-men_stepped p.men (steps_of p m) s h

-- a square that a move doesn't touch stays as it was
pub man_after-same : (p : Setup) (m : Move) (s : ℕ) → mover_end p m ≢ s → m.from ≢ s
    → is_at (castling_rook_to p m) s ≡ false → is_at (second_square_emptied p m) s ≡ false
    → man_after p m s ≡ man_at p.men s
unfolding man_after
man_after-same p m s t f r l = rw (ne_eqb _ _ t, r, l, ne_eqb _ _ f) refl

-- the mover is on its last square
pub man_after-to : (p : Setup) (m : Move) → man_after p m (mover_end p m)
    ≡ arriving_man (man_at p.men m.from) m.promotion
unfolding man_after
man_after-to p m = rw (eq-eqb _ _ refl) refl
