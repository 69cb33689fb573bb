-- Pieces put kind by kind on an empty board (none_put), on the squares of packed sets, make the board that the sets
-- say: square by square (kinds_put), so as a whole (men_all). In each kind's loop `PutsOn` is the invariant, put_more
-- its step, by whether a square is the one just filled, and put_all the end.
use mathlib.Core.Bool.{and-false}
use Rattle.std.proofs.Common.{◌≡◌, ◌≢◌, ℕ, ◌<◌, ◌==◌, ◌⊎◌, inl, inr, Bool, true, false, ◌&&◌, if◌then◌else◌, refl, sym, ◌∙◌, ap, subst, arith, Option, Some, None, List, [], ◌∷◌, length, set, get_or-set_same, get_or-set_other, length-set, replicate}
use Rattle.std.proofs.lemmas.Bool.{cases_Bool, cases_eq, eqb-true, ne_eqb}
use Rattle.std.proofs.lemmas.List.{ext_get_or, get_or-replicate}
use Rattle.std.specs.List.{list_any}
use Rattle.chess_base.specs.{declared.man.Colour.Colour, declared.man.Kind.Kind, declared.man.Man.Man, Men.Men, Men.man_at, shared.Below.from_below, Squares.squares}
use Rattle.chess_base.specs.declared.man.Kind.TheVariants.{King, Queen, Rook, Bishop, Knight, Pawn}
use Rattle.chess_base.proofs.shared.Squares.{length-from_below, get_or-from_below}
use Rattle.chess_moves.specs.Sets.{contains, members}
use Rattle.chess_moves.proofs.shared.AnyMove.{any-filter, any-square}
use Rattle.chess_game.specs.ties.Packed.{colour_in, man_of, man_in, men_in, put_at}
use Rattle.chess_game.specs.declared.packed.PackedMen.{PackedMen}

-- ---- what is in a set, and what is left of it

none_passes : (t : ℕ → Bool) (xs : List ℕ) → ((x : ℕ) → t x ≡ false) → list_any t xs ≡ false
none_passes t [] h = refl
none_passes t (x ∷ xs) h = rw (h x) (none_passes t xs h)

self_equal : (k : ℕ) → (k == k) ≡ true
self_equal k = grind arith

-- whether square k is a member of the set w
abbrev pub has : ℕ → ℕ → Bool
has w k = list_any (λ x. x == k) (members w)

pub not_member : (w k : ℕ) → contains w k ≡ false → has w k ≡ false
unfolding members
not_member w k out =
    any-filter (λ x. contains w x) (λ x. x == k) squares
    ∙ none_passes (λ x. contains w x && (x == k)) squares (λ x. other x (cases_Bool (x == k)))
  where
    other : (x : ℕ) → ((x == k) ≡ true) ⊎ ((x == k) ≡ false) → (contains w x && (x == k)) ≡ false
    other x (inl same) = let at : x ≡ k = eqb-true x k same in rw (at, out) refl
    other x (inr apart) = rw apart (and-false (contains w x))

pub is_member : (w k : ℕ) → k < 64 → contains w k ≡ true → has w k ≡ true
unfolding members
is_member w k low inside =
    any-filter (λ x. contains w x) (λ x. x == k) squares
    ∙ any-square (λ x. contains w x && (x == k)) k low (rw (inside, self_equal k) refl)

-- a square is in a set exactly where it is one of the set's members
has_is : (w k : ℕ) → k < 64 → contains w k ≡ has w k
has_is w k low = by_test (contains w k) refl
  where
    by_test : (b : Bool) → contains w k ≡ b → contains w k ≡ has w k
    by_test true e = e ∙ sym (is_member w k low e)
    by_test false e = e ∙ sym (not_member w k e)

-- the square that is taken out was there
taken_there : (w v s : ℕ) → s < 64 → members w ≡ s ∷ members v → contains w s ≡ true
taken_there w v s low taken =
    has_is w s low ∙ ap (λ ms. list_any (λ x. x == s) ms) taken ∙ rw (self_equal s) refl

-- each other square is left if it was there
others_left : (w v s k : ℕ) → k < 64 → members w ≡ s ∷ members v → k ≢ s → contains w k ≡ contains v k
others_left w v s k low taken apart =
    has_is w k low ∙ ap (λ ms. list_any (λ x. x == k) ms) taken ∙ rw (ne_eqb s k (λ e. apart (sym e))) refl
    ∙ sym (has_is v k low)

-- a set without members has no square
none_there : (w k : ℕ) → k < 64 → members w ≡ [] → contains w k ≡ false
none_there w k low none = has_is w k low ∙ ap (λ ms. list_any (λ x. x == k) ms) none

-- ---- one kind

-- whether a test holds doesn't matter if both results are the same
same_both : (b : Bool) (x : Option Man) → (if b then x else x) ≡ x
same_both true x = refl
same_both false x = refl

where_true : (b : Bool) (x y : Option Man) → b ≡ true → (if b then x else y) ≡ x
where_true b x y e = rw e refl

where_false : (b : Bool) (x y : Option Man) → b ≡ false → (if b then x else y) ≡ y
where_false b x y e = rw e refl

-- putting pieces of this kind on the squares that are left in `men` gives the same as putting them on the squares of
-- `all` in `old`
pub record PutsOn (p : PackedMen) (kind : Kind) (men : Men) (left : ℕ) (old : Men) (all : ℕ) : Type 0 where
  pub board : length men ≡ 64
  pub same : (k : ℕ) → k < 64 → put_at p left kind k (man_at men k) ≡ put_at p all kind k (man_at old k)

-- a step: the piece is put on square s, which is taken out of `left`, so that `rest` is left
more_put : (p : PackedMen) (kind : Kind) (men : Men) (left rest i s : ℕ) (old : Men) (all : ℕ) → i ≡ s → s < 64
    → members left ≡ s ∷ members rest → PutsOn p kind men left old all
    → PutsOn p kind (set men i (Some (record { colour = colour_in p s; kind = kind }))) rest old all
more_put p kind men left rest i s old all here inside taken h =
    record { board = length-set men i man ∙ h.board; same = same }
  where
    man : Option Man
    man = Some (record { colour = colour_in p s; kind = kind })

    on_it : put_at p rest kind s (man_at (set men i man) s) ≡ put_at p left kind s (man_at men s)
    on_it =
        let room : i < length men = omega (arith, h.board, here, inside) in
        let written : man_at (set men i man) s ≡ man =
        subst (λ n. man_at (set men i man) n ≡ man) here (get_or-set_same men i man None room) in
        ap (put_at p rest kind s) written ∙ same_both (contains rest s) man
        ∙ sym (where_true (contains left s) man (man_at men s) (taken_there left rest s inside taken))

    off_it : (k : ℕ) → k < 64 → k ≢ s
        → put_at p rest kind k (man_at (set men i man) k) ≡ put_at p left kind k (man_at men k)
    off_it k low apart =
        ap (put_at p rest kind k) (get_or-set_other men i k man None (λ e. apart (e ∙ here)))
        ∙ ap (λ b. if b then Some (record { colour = colour_in p k; kind = kind }) else man_at men k)
        (sym (others_left left rest s k low taken apart))

    same : (k : ℕ) → k < 64 → put_at p rest kind k (man_at (set men i man) k) ≡ put_at p all kind k (man_at old k)
    same k low = elim (cases_eq k s) [
      | inl is ↦ subst (λ n. put_at p rest kind n (man_at (set men i man) n) ≡ put_at p all kind n (man_at old n))
          (sym is)
          (on_it ∙ h.same s inside)
      | inr apart ↦ off_it k low apart ∙ h.same k low
    ]

-- the loop's step with the colour that the code reads: the piece is put on square s, so that `rest` is left
pub put_more : (p : PackedMen) (kind : Kind) (c : Colour) (men : Men) (left rest i s : ℕ) (old : Men) (all : ℕ)
    → c ≡ colour_in p s → i ≡ s → s < 64 → members left ≡ s ∷ members rest → PutsOn p kind men left old all
    → PutsOn p kind (set men i (Some (record { colour = c; kind = kind }))) rest old all
put_more p kind c men left rest i s old all is here inside taken h =
    rw is (more_put p kind men left rest i s old all here inside taken h)

-- at the end each square of the set has its piece
pub put_all : (p : PackedMen) (kind : Kind) (men : Men) (left : ℕ) (old : Men) (all : ℕ) → members left ≡ []
    → PutsOn p kind men left old all → (k : ℕ) → k < 64 → man_at men k ≡ put_at p all kind k (man_at old k)
put_all p _ men left old all none h k low =
    sym (where_false (contains left k) _ (man_at men k) (none_there left k low none)) ∙ h.same k low

-- ---- all kinds

-- the pieces of a later kind are put over those of an earlier one
by_kinds : (c : Colour) (king queen rook bishop knight pawn : Bool)
    → (if king then Some (record { colour = c; kind = King })
    else if queen then Some (record { colour = c; kind = Queen })
    else if rook then Some (record { colour = c; kind = Rook })
    else if bishop then Some (record { colour = c; kind = Bishop })
    else if knight then Some (record { colour = c; kind = Knight })
    else if pawn then Some (record { colour = c; kind = Pawn })
    else None)
    ≡ man_of c (if king then Some King
    else if queen then Some Queen
    else if rook then Some Rook
    else if bishop then Some Bishop
    else if knight then Some Knight
    else if pawn then Some Pawn
    else None)
by_kinds c king queen rook bishop knight pawn = grind arith

-- putting the kinds from pawns to kings, each over the last, gives on each square what the sets say
pub kinds_put : (p : PackedMen) (k : ℕ)
    → put_at p p.kings King k (put_at p p.queens Queen k (put_at p p.rooks Rook k (put_at p p.bishops Bishop k
    (put_at p p.knights Knight k (put_at p p.pawns Pawn k None)))))
    ≡ man_in p k
unfolding man_in
kinds_put p k =
    by_kinds (colour_in p k) (contains p.kings k) (contains p.queens k) (contains p.rooks k) (contains p.bishops k)
    (contains p.knights k) (contains p.pawns k)

-- pieces that are on each square as the sets say are those of the sets
pub men_all : (p : PackedMen) (men : Men) → length men ≡ 64 → ((k : ℕ) → k < 64 → man_at men k ≡ man_in p k)
    → men ≡ men_in p
unfolding men_in
men_all p men board h =
    ext_get_or None men (from_below 64 (man_in p)) (board ∙ sym (length-from_below 64 (man_in p)))
    (λ k l. let low : k < 64 = omega (arith, l, board) in
    h k low ∙ sym (get_or-from_below 64 (man_in p) k None low))

-- a board has no piece before any is put there
pub none_put : (k : ℕ) → k < 64 → man_at (replicate 64 None) k ≡ None
none_put k low = get_or-replicate 64 k None None low
