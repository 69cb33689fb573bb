-- A board without pieces has empty sets and the hash 0 (no_sets, no_kinds), and the occupied squares of any board are
-- those of both colours (occupied_by). For the loop that places the pieces one after another: at first the board is
-- empty (none_placed); after each piece the sets are those of the board without the pieces that are left (one_placed);
-- when none is left, all are placed (all_placed).
use Rattle.chess_base.proofs.shared.Men.{is_man-none, is_of-none}
use Rattle.std.proofs.Common.{◌≡◌, ◌≢◌, ◌⊎◌, ℕ, ◌<◌, inl, inr, Bool, true, false, not, ◌||◌, refl, sym, ◌∙◌, ap, arith, subst, Option, Some, None, is_none, [], ◌∷◌, length, length-set, set, get_or-set_same, get_or-set_other, slice_index, cond}
use Rattle.chess_base.specs.{declared.man.Colour.Colour, declared.man.Colour.TheVariants.White, declared.man.Colour.TheVariants.Black, declared.man.Kind.Kind, declared.man.Man.Man, Men.Men, Men.man_at, Men.is_of, shared.Parts.kind_number}
use Rattle.chess_base.specs.declared.man.Kind.TheVariants.{King, Queen, Rook, Bishop, Knight, Pawn}
use Rattle.chess_moves.specs.{PositionHash.xor_of, Sets.contains, Sets.members}
use Rattle.chess_moves.proofs.shared.PositionHash.{no_men_keys}
use Rattle.chess_bits.specs.{ties.Occupancy.IsOccupied, declared.sets.Sets.Sets, ties.KindSets.IsKinds, ties.BoardSets.IsSets}
use Rattle.chess_bits.proofs.{BoardSets.set_twice, BoardSets.same_written, Starts.first_gone, Starts.taken_first, Starts.none_left}
use Rattle.std.proofs.lemmas.Bool.{cases_eq, eq-eqb, ne_eqb}

-- ---- none

six : (e : ℕ) (kind : Kind) → slice_index (e ∷ e ∷ e ∷ e ∷ e ∷ e ∷ []) (kind_number kind) ≡ e
six e King = refl
six e Queen = refl
six e Rook = refl
six e Bishop = refl
six e Knight = refl
six e Pawn = refl

-- six empty sets are those of a colour on a board without pieces
pub no_kinds : (e : ℕ) (c : Colour) (men : Men) → ((k : ℕ) → contains e k ≡ false) → ((k : ℕ) → k < 64 → man_at men k ≡ None)
    → IsKinds (e ∷ e ∷ e ∷ e ∷ e ∷ e ∷ []) c men
no_kinds e c men empty none = record {
  of_kind = λ kind k low. ap (λ w. contains w k) (six e kind) ∙ empty k
      ∙ sym (is_man-none c kind (man_at men k) (ap (λ o. is_none o) (none k low)));
}

-- so these, and the hash 0, are the sets of a board without pieces
pub no_sets : (s : Sets) (men : Men) → ((k : ℕ) → k < 64 → man_at men k ≡ None) → IsKinds s.white.sets White men
    → IsKinds s.black.sets Black men
    → ((k : ℕ) → contains s.white.all k ≡ false) → ((k : ℕ) → contains s.black.all k ≡ false) → s.men_hash ≡ 0 → IsSets s men
no_sets s men none white black all_white all_black word = record {
  of_white = white;
  of_black = black;
  all_white = λ k low. all_white k ∙ sym (is_of-none White (man_at men k) (ap (λ o. is_none o) (none k low)));
  all_black = λ k low. all_black k ∙ sym (is_of-none Black (man_at men k) (ap (λ o. is_none o) (none k low)));
  men_hash = word ∙ ap (λ ns. xor_of ns) (sym (no_men_keys men none));
}

-- ---- all

some_of : (o : Option Man) → (is_of White o || is_of Black o) ≡ not (is_none o)
unfolding is_of
some_of None = refl
some_of (Some x) = by_colour x.colour
  where
    by_colour : (c : Colour) → (is_of White (Some (record { colour = c; kind = x.kind }))
        || is_of Black (Some (record { colour = c; kind = x.kind }))) ≡ true
    by_colour White = refl
    by_colour Black = refl

-- the occupied squares are those of both colours
pub occupied_by : (s : Sets) (men : Men) (w : ℕ) → IsSets s men
    → ((k : ℕ) → contains w k ≡ (contains s.white.all k || contains s.black.all k)) → IsOccupied w men
occupied_by s men w h union = record {
  of_men = λ k low. union k ∙ rw (h.all_white k low, h.all_black k low) (some_of (man_at men k));
}

-- ---- one after another

-- `part` is these pieces without those on squares of the set w
abbrev pub IsWithout : ℕ → Men → Men → Type 0
IsWithout w men part = (k : ℕ) → k < 64 → man_at part k ≡ cond (contains w k) None (man_at men k)

-- without the pieces on all occupied squares there is none
pub none_placed : (w : ℕ) (men part : Men) → IsOccupied w men → IsWithout w men part → (k : ℕ) → k < 64
    → man_at part k ≡ None
none_placed w men part occupied without k low =
    without k low ∙ by_case (contains w k) (man_at men k) (occupied.of_men k low)
  where
    by_case : (t : Bool) (o : Option Man) → t ≡ not (is_none o) → cond t None o ≡ None
    by_case true o e = refl
    by_case false None e = refl
    by_case false (Some x) e = cc

-- all are placed once none is left
pub all_placed : (w : ℕ) (men : Men) → members w ≡ [] → IsWithout w men men
all_placed w men e k low = rw (none_left w k low e) refl

-- the piece on s, the first square of w, is placed, and the squares of v are left
pub one_placed : (old new : Sets) (men : Men) (w v s : ℕ) → s < 64 → members w ≡ s ∷ members v
    → ((part : Men) → length part ≡ 64 → IsWithout w men part → IsSets old part)
    → ((part : Men) → length part ≡ 64 → man_at part s ≡ None → IsSets old part → IsSets new (set part s (man_at men s)))
    → (part : Men) → length part ≡ 64 → IsWithout v men part → IsSets new part
one_placed old new men w v s low e before step part all without =
    let inside : s < length part = omega (arith, all, low) in
    let bare : Men = set part s None in
    let long : length bare ≡ 64 = length-set part s None ∙ all in
    let here : man_at bare s ≡ None = get_or-set_same part s None None inside in
    let there : man_at part s ≡ man_at men s = without s low ∙ rw (first_gone w v s low e) refl in
    subst (IsSets new) (set_twice part s None (man_at men s) ∙ same_written part s (man_at men s) there)
    (step bare long here (before bare long (λ k l. at k l (cases_eq k s))))
  where
    at : (k : ℕ) → k < 64 → (k ≡ s) ⊎ (k ≢ s) → man_at (set part s None) k ≡ cond (contains w k) None (man_at men k)
    at k l (inl same) =
        let inside : s < length part = omega (arith, all, low) in
        rw (same, get_or-set_same part s None None inside, taken_first w v s s low e, eq-eqb s s refl) refl
    at k l (inr apart) =
        rw (get_or-set_other part s k None None apart, taken_first w v s k l e, ne_eqb s k (λ h. apart (sym h)))
        (without k l)
