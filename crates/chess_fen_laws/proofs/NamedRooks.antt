-- In Chess960 the letters of a castling field say of a right what the law states (`RightsAreNamed`): a right with its
-- rook exactly if one letter names that rook and no other names the right, no right exactly if no letter names it.
-- First, the search from the edge finds the outermost rook; then one letter, then a field of letters.
use Rattle.std.proofs.Common.{◌≡◌, ℕ, zero, suc, ◌+◌, ◌-◌, ◌%◌, ◌<◌, ◌≤◌, inl, inr, Bool, true, false, cond, eqb, ◌&&◌, ◌||◌, List, [], ◌∷◌, ◌++◌, map, Option, Some, None, refl, sym, ap, subst, ◌∙◌, arith, find}
use Rattle.std.specs.{List.AllByRecursion, List.filter, Option.option_map_or}
use Rattle.std.proofs.{lemmas.Bool.Decides.nat_tests, lemmas.List.Elements.filter-append}
use Rattle.std.proofs.lemmas.Bool.{and_parts, eqb-true, eq-eqb, cases_lt}
use Rattle.chess_base.specs.{declared.man.Colour.Colour, declared.man.CastlingSide.CastlingSide, declared.man.CastlingSide.TheVariants.KingSide, declared.man.CastlingSide.TheVariants.QueenSide, declared.man.Kind.TheVariants.Rook, declared.man.Variant.TheVariants.Fischerandom, Squares.file, Squares.rank, shared.Splits.right_is_sound_at}
use Rattle.chess_base.specs.Men.{Men, man_at, is_man, first_rank}
use Rattle.chess_base.specs.Castling.{home_square, king_square, is_to_side, right_is_sound, right_of}
use Rattle.chess_fen.specs.Texts.{first_letter, names_file}
use Rattle.chess_fen.specs.RightNames.{side_letter, from_edge, is_towards, names_right, rook_by, Absent, At, right_by, right_in}
use Rattle.chess_fen.proofs.shared.FileLetters.{Beside, beside, no_side_letter, own_file, file_back, file_in, names_own, rook_own}
use Rattle.chess_fen_laws.specs.{Laws.RightsAreNamed, NamedRooks.IsOutermost, NamedRooks.NamesRook, NamedRooks.NamesNone, NamedRooks.RightIsNamed}

-- ---- the outermost rook

-- the square of the first rank on which k more files are left in a search from the edge on that side
abbrev square_left : Colour → CastlingSide → ℕ → ℕ
square_left c KingSide k = home_square c k
square_left c QueenSide k = home_square c (7 - k)

-- the squares of the last k files of this search
squares_left : Colour → CastlingSide → ℕ → List ℕ
squares_left c w zero = []
squares_left c w (suc k) = square_left c w k ∷ squares_left c w k

-- the first rook among these squares
abbrev first_rook : Men → Colour → List ℕ → Option ℕ
first_rook men c squares = find (λ s. is_man c Rook (man_at men s)) squares

-- each square that the search meets is on the first rank
home_rank : (c : Colour) (w : CastlingSide) (k : ℕ) → k < 8 → rank (square_left c w k) ≡ first_rank c
home_rank c w k h = grind (arith, h)

-- of the file of square t in that search, how many files are left after it
abbrev files_left : CastlingSide → ℕ → ℕ
files_left KingSide t = t % 8
files_left QueenSide t = 7 - t % 8

left_few : (w : CastlingSide) (t : ℕ) → files_left w t < 8
left_few w t = grind arith

-- a square of the first rank is the one that the search meets when so many files are left
from_left : (c : Colour) (w : CastlingSide) (t : ℕ) → rank t ≡ first_rank c → square_left c w (files_left w t) ≡ t
from_left c w t h = grind (arith, h)

-- a square on the first rank that is further out than file k has more files left
further : (c : Colour) (w : CastlingSide) (k t : ℕ) → k < 8 → rank t ≡ first_rank c
    → is_to_side w (square_left c w k) t ≡ true → k < files_left w t
further c w k t l h e = grind (arith, nat_tests, l, h, e)

-- a square on the first rank that is further in than file k has fewer files left
nearer : (c : Colour) (w : CastlingSide) (k s : ℕ) → k < 8 → rank s ≡ first_rank c → files_left w s < k
    → is_to_side w s (square_left c w k) ≡ true
nearer c w k s l h e = grind (arith, nat_tests, l, h, e)

-- a rook of colour c is on the square where k files are left
abbrev RookLeft : Men → Colour → CastlingSide → ℕ → Bool
RookLeft men c w k = is_man c Rook (man_at men (square_left c w k))

-- if no rook is on the files further out, none is on a square beyond this one
beyond : (men : Men) (c : Colour) (w : CastlingSide) (k : ℕ) → k < 8
    → ((j : ℕ) → k < j → j < 8 → RookLeft men c w j ≡ false)
    → (t : ℕ) → rank t ≡ first_rank c → is_to_side w (square_left c w k) t ≡ true
    → is_man c Rook (man_at men t) ≡ false
beyond men c w k l above t h e =
    ap (λ x. is_man c Rook (man_at men x)) (sym (from_left c w t h))
    ∙ above (files_left w t) (further c w k t l h e) (left_few w t)

-- the first rook in the last k + 1 files is the outermost, if there is none further out: it is on the first of these
-- (b), or found among the other k
among_by : (men : Men) (c : Colour) (w : CastlingSide) (s k : ℕ) → k < 8 → (b : Bool) → RookLeft men c w k ≡ b
    → ((j : ℕ) → k < j → j < 8 → RookLeft men c w j ≡ false)
    → (((j : ℕ) → k ≤ j → j < 8 → RookLeft men c w j ≡ false) → first_rook men c (squares_left c w k) ≡ Some s
    → IsOutermost men c w s)
    → cond b (Some (square_left c w k)) (first_rook men c (squares_left c w k)) ≡ Some s → IsOutermost men c w s
among_by men c w s k l true at above rec e =
    let here : square_left c w k ≡ s = cc in
    subst (IsOutermost men c w) here
    (record { rook = at; home = home_rank c w k l; none_beyond = beyond men c w k l above })
among_by men c w s k l false at above rec e =
    rec (λ j low high. elim (cases_lt k j) [
      | inl past ↦ above j past high
      | inr on ↦ let same : j ≡ k = omega (arith, low, on) in ap (RookLeft men c w) same ∙ at
    ]) e

-- the first rook in the last k files is the outermost, if there is none further out
among : (men : Men) (c : Colour) (w : CastlingSide) (s k : ℕ) → k ≤ 8
    → ((j : ℕ) → k ≤ j → j < 8 → RookLeft men c w j ≡ false)
    → first_rook men c (squares_left c w k) ≡ Some s → IsOutermost men c w s
unfolding squares_left
among men c w s zero low above e = absurd cc
among men c w s (suc k) low above e =
    among_by men c w s k (omega (arith, low)) (RookLeft men c w k) refl (λ j past. above j (omega (arith, past)))
    (among men c w s k (omega (arith, low))) e

-- the rook that the search from the edge finds is the outermost
outermost : (men : Men) (c : Colour) (w : CastlingSide) (s : ℕ) → first_rook men c (from_edge c w) ≡ Some s
    → IsOutermost men c w s
unfolding squares_left
outermost men c KingSide s e =
    among men c KingSide s 8 (omega arith) (λ j low high. absurd (omega (arith, low, high))) e
outermost men c QueenSide s e =
    among men c QueenSide s 8 (omega arith) (λ j low high. absurd (omega (arith, low, high))) e

-- the outermost rook s is found in the last k files, if it is among these
found_from : (men : Men) (c : Colour) (w : CastlingSide) (s : ℕ) → IsOutermost men c w s → (k : ℕ) → k ≤ 8
    → files_left w s < k → first_rook men c (squares_left c w k) ≡ Some s
unfolding squares_left
found_from men c w s o zero low past = absurd (omega (arith, past))
found_from men c w s o (suc k) low past =
    elim (cases_lt (files_left w s) k) [
      | inl before ↦
          let l : k < 8 = omega (arith, low) in
          let none : RookLeft men c w k ≡ false =
          o.none_beyond (square_left c w k) (home_rank c w k l) (nearer c w k s l o.home before) in
          rw none (found_from men c w s o k (omega (arith, low)) before)
      | inr on ↦
          let same : files_left w s ≡ k = omega (arith, past, on) in
          let here : square_left c w k ≡ s = ap (square_left c w) (sym same) ∙ from_left c w s o.home in
          rw (here, o.rook) refl
    ]

-- so the search from the edge finds it
outer_found : (men : Men) (c : Colour) (w : CastlingSide) (s : ℕ) → IsOutermost men c w s
    → first_rook men c (from_edge c w) ≡ Some s
unfolding squares_left
outer_found men c KingSide s o = found_from men c KingSide s o 8 (omega arith) (left_few KingSide s)
outer_found men c QueenSide s o = found_from men c QueenSide s o 8 (omega arith) (left_few QueenSide s)

-- ---- what one letter says

-- a file's letter is that of the square that it gives
file_of : (c : Colour) (l : ℕ) → names_file c l ≡ true → l ≡ first_letter c + file (home_square c (l - first_letter c))
file_of c l e =
    let a : first_letter c ≤ l = grind (arith, nat_tests, e) in
    let b : l < first_letter c + 8 = grind (arith, nat_tests, e) in
    omega (arith, a, b)

-- this square is on the first rank
file_home : (c : Colour) (l : ℕ) → names_file c l ≡ true → rank (home_square c (l - first_letter c)) ≡ first_rank c
file_home c l e = let b : l < first_letter c + 8 = grind (arith, nat_tests, e) in omega (arith, b)

-- the letter is that of a file on that side of the king
abbrev IsFileTowards : Men → Colour → CastlingSide → ℕ → Bool
IsFileTowards men c w l = names_file c l && is_towards w (king_square men c) (home_square c (l - first_letter c))

-- a square whose file's letter doesn't name the right is not on that side of the king
away : (men : Men) (c : Colour) (w : CastlingSide) (s : ℕ) → rank s ≡ first_rank c
    → names_right men c w (first_letter c + file s) ≡ false → is_towards w (king_square men c) s ≡ false
away men c w s home e =
    let back = ap (is_towards w (king_square men c)) (file_back c s home) in
    grind (arith, e, no_side_letter c c w (file s) (file_in s), own_file c (file s) (file_in s), back)

-- a letter that doesn't pass `names_right` names no right on that side, as `NamesNone` says
none_says : (men : Men) (c : Colour) (w : CastlingSide) (l : ℕ) → names_right men c w l ≡ false → NamesNone men c w l
none_says men c w l e = record {
  not_side = λ at. (let f : true ≡ false = sym (ap (λ b. b || IsFileTowards men c w l) (eq-eqb l (side_letter c w) at))
      ∙ e in absurd cc);
  not_file = λ s home at. away men c w s home (ap (names_right men c w) (sym at) ∙ e);
}

-- the converse, by whether it is the side's letter (a) or that of a file on that side (b)
unnamed_by : (men : Men) (c : Colour) (w : CastlingSide) (l : ℕ) → NamesNone men c w l → (a b : Bool)
    → eqb l (side_letter c w) ≡ a → IsFileTowards men c w l ≡ b → (a || b) ≡ false
unnamed_by men c w l h true b at bt = absurd (h.not_side (eqb-true l (side_letter c w) at))
unnamed_by men c w l h false true at bt =
    let parts = and_parts (names_file c l) (is_towards w (king_square men c) (home_square c (l - first_letter c))) bt in
    let t : is_towards w (king_square men c) (home_square c (l - first_letter c)) ≡ true = parts.1 in
    let f = h.not_file (home_square c (l - first_letter c)) (file_home c l parts.0) (file_of c l parts.0) in
    let clash : true ≡ false = sym t ∙ f in
    absurd cc
unnamed_by men c w l h false false at bt = refl

-- a letter that names no right there doesn't pass `names_right`
unnamed : (men : Men) (c : Colour) (w : CastlingSide) (l : ℕ) → NamesNone men c w l → names_right men c w l ≡ false
unnamed men c w l h = unnamed_by men c w l h (eqb l (side_letter c w)) (IsFileTowards men c w l) refl refl

-- a letter that names the right and gives square s names the rook on s, as `NamesRook` says
some_by : (men : Men) (c : Colour) (w : CastlingSide) (l s : ℕ) → (a : Bool) → eqb l (side_letter c w) ≡ a
    → (a || IsFileTowards men c w l) ≡ true
    → cond a (first_rook men c (from_edge c w)) (Some (home_square c (l - first_letter c))) ≡ Some s
    → NamesRook men c w l s
some_by men c w l s true at named e = inl (eqb-true l (side_letter c w) at, outermost men c w s e)
some_by men c w l s false at named e =
    let whole : home_square c (l - first_letter c) ≡ s = cc in
    let f = (and_parts (names_file c l) (is_towards w (king_square men c) (home_square c (l - first_letter c))) named).0
    in
    inr (subst (λ t. l ≡ first_letter c + file t) whole (file_of c l f))

-- a letter that names the rook on s, as `NamesRook` says, passes `names_right` and gives s, for a right with its rook
-- there
names_it : (men : Men) (c : Colour) (w : CastlingSide) (l s : ℕ) → Beside men c w s → NamesRook men c w l s
    → (names_right men c w l ≡ true) × (rook_by men c w l ≡ Some s)
names_it men c w l s b (inl h) =
    let t : eqb l (side_letter c w) ≡ true = eq-eqb l (side_letter c w) h.0 in (
      ap (λ b. b || IsFileTowards men c w l) t,
      ap (λ b. cond b (first_rook men c (from_edge c w)) (Some (home_square c (l - first_letter c)))) t
          ∙ outer_found men c w s h.1,
    )
names_it men c w l s b (inr h) = (
  ap (names_right men c w) h ∙ names_own men c w s b,
  ap (rook_by men c w) h ∙ rook_own men c w s b.rook_rank,
)

-- ---- a field of letters

-- if none of the letters passes, each names no right there
all_none : (men : Men) (c : Colour) (w : CastlingSide) (ls : List ℕ) → filter (names_right men c w) ls ≡ []
    → AllByRecursion (NamesNone men c w) ls
all_none men c w [] e = tt
all_none men c w (x ∷ xs) e = by_test (names_right men c w x) refl e (all_none men c w xs)
  where
    by_test : (b : Bool) → names_right men c w x ≡ b
        → cond b (x ∷ filter (names_right men c w) xs) (filter (names_right men c w) xs) ≡ []
        → (filter (names_right men c w) xs ≡ [] → AllByRecursion (NamesNone men c w) xs)
        → AllByRecursion (NamesNone men c w) (x ∷ xs)
    by_test true t h later = absurd cc
    by_test false t h later = (none_says men c w x t, later h)

-- if each letter names no right on that side, none passes `names_right`
none_left : (men : Men) (c : Colour) (w : CastlingSide) (ls : List ℕ) → AllByRecursion (NamesNone men c w) ls
    → filter (names_right men c w) ls ≡ []
none_left men c w [] h = refl
none_left men c w (x ∷ xs) h =
    ap (λ b. cond b (x ∷ filter (names_right men c w) xs) (filter (names_right men c w) xs)) (unnamed men c w x h.0)
    ∙ none_left men c w xs h.1

-- letter l, at some place of the letters, names the right, and the others, before and after it, don't
abbrev One : Men → Colour → CastlingSide → ℕ → List ℕ → Type 0
One men c w l ls =
    (before : List ℕ) × (after : List ℕ) × (ls ≡ before ++ l ∷ after) × (names_right men c w l ≡ true)
    × AllByRecursion (NamesNone men c w) before × AllByRecursion (NamesNone men c w) after

-- if l is the only letter that passes `names_right`, it is the only one that names the right (`One`)
one_of : (men : Men) (c : Colour) (w : CastlingSide) (l : ℕ) (ls : List ℕ)
    → filter (names_right men c w) ls ≡ l ∷ [] → One men c w l ls
one_of men c w l [] e = absurd cc
one_of men c w l (x ∷ xs) e = by_test (names_right men c w x) refl e (one_of men c w l xs)
  where
    by_test : (b : Bool) → names_right men c w x ≡ b
        → cond b (x ∷ filter (names_right men c w) xs) (filter (names_right men c w) xs) ≡ l ∷ []
        → (filter (names_right men c w) xs ≡ l ∷ [] → One men c w l xs) → One men c w l (x ∷ xs)
    by_test true t h later =
        let first : x ≡ l = cc in
        let none : filter (names_right men c w) xs ≡ [] = cc in
        ([], xs, ap (λ k. k ∷ xs) first, ap (names_right men c w) (sym first) ∙ t, tt, all_none men c w xs none)
    by_test false t h later =
        let r = later h in
        (x ∷ r.0, r.1, ap (λ ys. x ∷ ys) r.2, r.3, (none_says men c w x t, r.4), r.5)

-- ---- the rooks that letters name

-- if the letters that name a right say that it is absent, there are none
no_letters : (men : Men) (c : Colour) (w : CastlingSide) (ls : List ℕ)
    → right_by (map (rook_by men c w) ls) ≡ Absent → ls ≡ []
no_letters men c w [] e = refl
no_letters men c w (x ∷ []) e = grind (arith, e)
no_letters men c w (x ∷ y ∷ ls) e = grind (arith, e)

-- if the letters that name a right say that its rook is on s, they are just one letter, and it gives s
one_letter : (men : Men) (c : Colour) (w : CastlingSide) (s : ℕ) (ls : List ℕ)
    → right_by (map (rook_by men c w) ls) ≡ At s → (l : ℕ) × (ls ≡ l ∷ []) × (rook_by men c w l ≡ Some s)
one_letter men c w s [] e = absurd cc
one_letter men c w s (x ∷ []) e = (x, refl, grind (arith, e))
one_letter men c w s (x ∷ y ∷ ls) e = grind (arith, e)

-- ---- the right

-- from what the letters say of a right (o: its rook, or none) to what the law says
named_by : (men : Men) (c : Colour) (w : CastlingSide) (text : List ℕ) (o : Option ℕ)
    → right_in Fischerandom men text c w ≡ option_map_or At o Absent → RightIsNamed text men c w o
named_by men c w text None e = all_none men c w text (no_letters men c w (filter (names_right men c w) text) e)
named_by men c w text (Some s) e =
    let k = one_letter men c w s (filter (names_right men c w) text) e in
    let r = one_of men c w k.0 text k.1 in
    (r.0, k.0, r.1, r.2, some_by men c w k.0 s (eqb k.0 (side_letter c w)) refl r.3 k.2, r.4, r.5)

-- from what the law says to what the letters say, for a right that is sound
said_by : (men : Men) (c : Colour) (w : CastlingSide) (text : List ℕ) (o : Option ℕ)
    → right_is_sound_at Fischerandom men c w o ≡ true → RightIsNamed text men c w o
    → right_in Fischerandom men text c w ≡ option_map_or At o Absent
said_by men c w text None sound h =
    ap (λ letters. right_by (map (rook_by men c w) letters)) (none_left men c w text h)
said_by men c w text (Some s) sound h =
    let it = names_it men c w h.1 s (beside men c w s sound) h.4 in
    ap (λ letters. right_by (map (rook_by men c w) letters))
    (ap (filter (names_right men c w)) h.3
    ∙ filter-append (names_right men c w) h.0 (h.1 ∷ h.2)
    ∙ ap (λ xs. xs ++ filter (names_right men c w) (h.1 ∷ h.2)) (none_left men c w h.0 h.5)
    ∙ ap (λ b. cond b (h.1 ∷ filter (names_right men c w) h.2) (filter (names_right men c w) h.2)) it.0
    ∙ ap (λ xs. h.1 ∷ xs) (none_left men c w h.2 h.6))
    ∙ ap (λ rook. right_by (rook ∷ [])) it.1

-- the law, by the two directions (named_by, said_by)
pub rights_named : RightsAreNamed
unfolding right_is_sound
rights_named text p c w is sound =
    let stands = subst (λ v. right_is_sound_at v p.men c w (right_of p.rights c w) ≡ true) is sound in (
      (λ e. named_by p.men c w text (right_of p.rights c w) e),
      (λ h. said_by p.men c w text (right_of p.rights c w) stands h),
    )
