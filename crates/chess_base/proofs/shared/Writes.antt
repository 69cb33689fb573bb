-- For boards: the pieces after steps, and so after a move, are those after four writes of squares, one after the other
-- (men_stepped-written, men_after-written). Shown for each square, by the last write to it: the mover's end, the second
-- piece's end, what that left, the start square.
use Rattle.std.proofs.Common.{◌≡◌, ℕ, ◌<◌, inl, inr, List, length, get_or, set, Bool, false, true, ◌||◌, cond, Option, None, Some, arith, refl, sym, ◌∙◌, length-set, get_or-set_other, get_or-set_same, ext_get_or}
use Rattle.std.proofs.lemmas.Bool.{cases_eq, eq-eqb, ne_eqb}
use Rattle.chess_base.specs.{declared.man.Move.Move, declared.man.Kind.TheVariants.Rook, Men.Men, Men.man_at, declared.setup.Setup.Setup, declared.steps.Steps.Steps, Steps.men_stepped, Castling.mover_end, Castling.castling_rook_to, Squares.is_at}
use Rattle.chess_base.specs.Moves.{arriving_man, second_square_emptied, steps_of, men_after}
use Rattle.chess_base.proofs.shared.MenAfter.{men_after_by_steps, length-men_stepped, man_at-men_stepped}

-- the list with v written at the index in the option o; unchanged if o is none
abbrev pub write : {X : Type 0} → List X → Option ℕ → X → List X
write xs None v = xs
write xs (Some s) v = set xs s v

-- a list is as long after a write
pub length-write : {X : Type 0} (xs : List X) (o : Option ℕ) (v : X) → length (write xs o v) ≡ length xs
length-write xs None v = refl
length-write xs (Some s) v = length-set xs s v

-- an element after a write: what was written there, or the one before
pub get_or-write : {X : Type 0} (xs : List X) (o : Option ℕ) (v : X) (i : ℕ) (d : X) → i < length xs
    → get_or (write xs o v) i d ≡ cond (is_at o i) v (get_or xs i d)
get_or-write xs None v i d h = refl
get_or-write xs (Some s) v i d h =
    elim (cases_eq s i) [
      | inl same ↦ let at : s < length xs = rw same h in rw (← same, eq-eqb _ _ refl) (get_or-set_same xs s v d at)
      | inr differs ↦ rw (ne_eqb _ _ differs) (get_or-set_other xs s i v d (λ e. differs (sym e)))
    ]

-- the writes of a move: the start square, what else is left, the castling rook's end, and the end square
abbrev pub written : Setup → Move → Men
written p m =
    set (write (write (set p.men m.from None) (second_square_emptied p m) None) (castling_rook_to p m)
    (Some (record { colour = p.side; kind = Rook }))) (mover_end p m)
    (arriving_man (man_at p.men m.from) m.promotion)

-- one of two tests in turn gives x exactly if one of them passes
either_none : {X : Type 0} (a b : Bool) (x y : X) → cond a x (cond b x y) ≡ cond (a || b) x y
either_none true b x y = refl
either_none false b x y = refl

-- the writes of steps
abbrev pub written_by : Men → Steps → Men
written_by men t = write (write (write (write men (Some t.from) None) t.second_from None) t.second_to t.second)
    (Some t.to) t.mover

-- the pieces after steps, by writes
pub men_stepped-written : (men : Men) (t : Steps) → length men ≡ 64 → men_stepped men t ≡ written_by men t
men_stepped-written men t l =
    let one = write men (Some t.from) None in
    let two = write one t.second_from None in
    let three = write two t.second_to t.second in
    let l1 : length one ≡ 64 = length-write men (Some t.from) None ∙ l in
    let l2 : length two ≡ 64 = length-write one t.second_from None ∙ l1 in
    let l3 : length three ≡ 64 = length-write two t.second_to t.second ∙ l2 in
    let l4 : length (written_by men t) ≡ 64 = length-write three (Some t.to) t.mover ∙ l3 in
    ext_get_or None (men_stepped men t) (written_by men t) (length-men_stepped men t ∙ sym l4) (λ i h.
    let in' : i < 64 = omega (arith, length-men_stepped men t) in
    let a = get_or-write men (Some t.from) None i None (omega arith) in
    let b = get_or-write one t.second_from None i None (omega arith) in
    let c = get_or-write two t.second_to t.second i None (omega arith) in
    let d = get_or-write three (Some t.to) t.mover i None (omega arith) in
    man_at-men_stepped men t i in' ∙ sym (d ∙ rw (c, b, a, either_none) refl))

-- the pieces after a move, by writes
pub men_after-written : (p : Setup) (m : Move) → length p.men ≡ 64 → men_after p m ≡ written p m
men_after-written p m l = men_after_by_steps p m ∙ men_stepped-written p.men (steps_of p m) l
