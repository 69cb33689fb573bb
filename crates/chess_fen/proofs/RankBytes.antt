-- Reading a rank byte by byte (`read_rank`): a byte's squares are put after those so far, which keeps the loop's
-- invariant `RowSoFar` (more). The loop ends with a whole rank at eight squares (whole), and with none at more than
-- eight (overfull), or where the text ends before (cut_short).
use Rattle.std.proofs.Common.{◌≡◌, ℕ, zero, suc, ◌+◌, ◌-◌, ◌<◌, ◌≤◌, Bool, true, false, cond, eqb, leb, List, [], ◌∷◌, ◌++◌, length, get_or, set, take, drop, Option, Some, None, refl, sym, ap, ◌∙◌, arith, length-append, replicate, option_and_then}
use Rattle.std.proofs.{Math.Seq.take-length, Math.Seq.take-add, lemmas.Bool.Decides.nat_tests}
use Rattle.std.specs.List.{position_or_len}
use Rattle.std.proofs.lemmas.List.{at_drop_more, at_drop_all, take-replicate, drop-replicate, drop-drop, length-take, length-replicate, take-set, drop-set, drop-set-lt, length-set}
use Rattle.chess_base.specs.declared.man.Man.{Man}
use Rattle.chess_fen.specs.{declared.letters.Run.Run, Texts.squares_of}
use Rattle.chess_fen.specs.ties.Runs.{squares_in, at_lower, last_rank, placing, from_space, RankIsRead, NoRankIsRead}

-- the content of an empty square
abbrev pub no_man : Option Man
no_man = None

-- ---- a byte

-- a digit from 1 to 8 denotes as many empty squares
pub squares-digit : (c : ℕ) → 49 ≤ c → c ≤ 56 → squares_of c ≡ Some (replicate (c - 48) None)
squares-digit c low high = grind (arith, nat_tests)

-- where a rank hasn't eight squares, the text can't end the placement
not_last : (left : ℕ) (row above : List (Option Man)) → eqb (length row) 8 ≡ false → last_rank left row above ≡ None
not_last zero row above e = rw e refl
not_last (suc left) row above e = refl

-- where a rank hasn't eight squares (the test b fails), a slash denotes no board
not_lower : (left : ℕ) (b : Bool) (f : ℕ → Option (List (Option Man))) → b ≡ false
    → at_lower left (λ lower. cond b (f lower) None) ≡ None
not_lower zero b f e = refl
not_lower (suc left) b f e = rw e refl

-- a byte denotes no board if it denotes none as a space, as a slash, and as squares
pub all_none : (a b : Bool) (x y z : Option (List (Option Man))) → x ≡ None → y ≡ None → z ≡ None
    → cond a x (cond b y z) ≡ None
all_none a b x y z ex ey ez = grind (arith, ex, ey, ez)

-- where the rank hasn't eight squares, and reading on with the squares of the next byte gives no board, there is no
-- board
stuck : (left : ℕ) (row above : List (Option Man)) (c : ℕ) (cs : List ℕ) → eqb (length row) 8 ≡ false
    → option_and_then (λ squares. placing left (row ++ squares) above cs) (squares_of c) ≡ None
    → placing left row above (c ∷ cs) ≡ None
stuck left row above c cs e none =
    all_none (eqb c 32) (eqb c 47) (last_rank left row above)
    (at_lower left (λ lower. cond (eqb (length row) 8) (placing lower [] (row ++ above) cs) None))
    (option_and_then (λ squares. placing left (row ++ squares) above cs) (squares_of c)) (not_last left row above e)
    (not_lower left (eqb (length row) 8) (λ lower. placing lower [] (row ++ above) cs) e) none

-- more than eight squares are no rank
pub placing_over : (left : ℕ) (row above : List (Option Man)) (cs : List ℕ) → 8 < length row
    → placing left row above cs ≡ None
placing_over left row above [] h =
    let e : eqb (length row) 8 ≡ false = grind (arith, nat_tests) in not_last left row above e
placing_over left row above (c ∷ cs) h =
    let e : eqb (length row) 8 ≡ false = grind (arith, nat_tests) in
    stuck left row above c cs e (by_squares (squares_of c) (λ s. placing_over left (row ++ s) above cs
    (omega (arith, length-append row s))))
  where
    by_squares : (o : Option (List (Option Man)))
        → ((s : List (Option Man)) → placing left (row ++ s) above cs ≡ None)
        → option_and_then (λ s. placing left (row ++ s) above cs) o ≡ None
    by_squares None more = refl
    by_squares (Some s) more = more s

-- a byte that denotes squares is not one that denotes none
another : (c k : ℕ) (s : List (Option Man)) → squares_of k ≡ None → squares_of c ≡ Some s → eqb c k ≡ false
another c k s none is = grind (arith, nat_tests, none, is)

-- a byte that denotes squares adds them to the rank's
pub goes_on : (left : ℕ) (row above : List (Option Man)) (c : ℕ) (cs : List ℕ) (s : List (Option Man))
    → squares_of c ≡ Some s → placing left row above (c ∷ cs) ≡ placing left (row ++ s) above cs
goes_on left row above c cs s is =
    let space : eqb c 32 ≡ false = another c 32 s refl is in
    let stroke : eqb c 47 ≡ false = another c 47 s refl is in
    rw (space, stroke, is) refl

-- a byte that is no space may be skipped in looking for the first space
pub from_space-on : (c : ℕ) (cs : List ℕ) → eqb c 32 ≡ false → from_space (c ∷ cs) ≡ from_space cs
from_space-on c cs e =
    let next : 1 + position_or_len (λ b. eqb b 32) cs ≡ suc (position_or_len (λ b. eqb b 32) cs) = omega arith in
    rw (e, next) refl

-- ---- a rank

-- the invariant of `read_rank`: the squares before `file` were read from the first i bytes; with them the rest of
-- the text gives the board of the whole text. The squares from `file` on are still empty
pub record RowSoFar (text : List ℕ) (row : List (Option Man)) (file i : ℕ) : Type 0 where
  pub on : (left : ℕ) → (above : List (Option Man))
      → placing left (take file row) above (drop i text) ≡ placing left [] above text
  pub back : from_space (drop i text) ≡ from_space text
  pub empty : drop file row ≡ replicate (8 - file) None
  pub eight : length row ≡ 8
  pub within : file < 8

-- the squares of a run of eight at most: its first, and empty ones
filled : (r : Run) → 0 < r.squares → r.squares ≤ 8 → squares_in r ≡ Some (r.first ∷ replicate (r.squares - 1) None)
filled r some few = let t : leb r.squares 8 ≡ true = grind (arith, nat_tests) in rw t refl

-- putting a run's first square at `file` reads its n squares, since those after it are empty already
put : (row : List (Option Man)) (file n : ℕ) (first : Option Man) → length row ≡ 8
    → drop file row ≡ replicate (8 - file) None → 0 < n → file + n ≤ 8
    → take (file + n) (set row file first) ≡ take file row ++ first ∷ replicate (n - 1) None
put row file n first eight empty some fits =
    let others : drop (file + 1) row ≡ replicate (8 - file - 1) None =
    sym (drop-drop 1 file row) ∙ ap (drop 1) empty ∙ drop-replicate 1 (8 - file) None in
    let after : take n (first ∷ drop (file + 1) row) ≡ first ∷ replicate (n - 1) None =
    ap (λ k. take k (first ∷ drop (file + 1) row)) (one_on n some)
    ∙ ap (λ xs. first ∷ xs) (ap (take (n - 1)) others
    ∙ take-replicate (n - 1) (8 - file - 1) None (omega arith)) in
    take-add file n (set row file first)
    ∙ ap (λ xs. xs ++ take n (drop file (set row file first))) (take-set row file first)
    ∙ ap (λ xs. take file row ++ take n xs) (drop-set row file first (omega (arith, eight)))
    ∙ ap (λ xs. take file row ++ xs) after
  where
    one_on : (n : ℕ) → 0 < n → n ≡ suc (n - 1)
    one_on n h = omega arith

-- the squares after the run are empty as before
still_empty : (row : List (Option Man)) (file n : ℕ) (first : Option Man) → length row ≡ 8
    → drop file row ≡ replicate (8 - file) None → 0 < n → file + n ≤ 8
    → drop (file + n) (set row file first) ≡ replicate (8 - (file + n)) None
still_empty row file n first eight empty some fits =
    drop-set-lt (file + n) row file first (omega arith) ∙ sym (drop-drop n file row) ∙ ap (drop n) empty
    ∙ drop-replicate n (8 - file) None ∙ ap (λ k. replicate k None) (omega arith)

-- the next byte's run, if it fits into the rank, takes the reading one byte further with its squares
step : (text : List ℕ) (row : List (Option Man)) (file i : ℕ) (r : Run) → RowSoFar text row file i → i < length text
    → squares_of (get_or text i 0) ≡ squares_in r → 0 < r.squares → file + r.squares ≤ 8
    → ((left : ℕ) → (above : List (Option Man))
    → placing left (take (file + r.squares) (set row file r.first)) above (drop (i + 1) text)
    ≡ placing left [] above text)
    × (from_space (drop (i + 1) text) ≡ from_space text)
step text row file i r so_far h at some fits =
    let c = get_or text i 0 in
    let s = r.first ∷ replicate (r.squares - 1) None in
    let is : squares_of c ≡ Some s = at ∙ filled r some (omega arith) in
    let taken : take (file + r.squares) (set row file r.first) ≡ take file row ++ s =
    put row file r.squares r.first so_far.eight so_far.empty some fits in (
      (λ left above. rw taken (sym (at_drop_more (placing left (take file row) above) text i 0 h
          ∙ goes_on left (take file row) above c (drop (i + 1) text) s is) ∙ so_far.on left above)),
      sym (at_drop_more from_space text i 0 h ∙ from_space-on c (drop (i + 1) text) (another c 32 s refl is))
          ∙ so_far.back,
    )

-- the loop's step: the rank isn't full yet
pub more : (text : List ℕ) (row : List (Option Man)) (file i : ℕ) (r : Run) → RowSoFar text row file i → i < length text
    → squares_of (get_or text i 0) ≡ squares_in r → 0 < r.squares → file + r.squares < 8
    → RowSoFar text (set row file r.first) (file + r.squares) (i + 1)
more text row file i r so_far h at some fits =
    let s = step text row file i r so_far h at some (omega arith) in
    record {
      on = s.0;
      back = s.1;
      empty = still_empty row file r.squares r.first so_far.eight so_far.empty some (omega arith);
      eight = length-set row file r.first ∙ so_far.eight;
      within = omega arith;
    }

-- the loop's end: the rank has just eight squares
pub whole : (text : List ℕ) (row : List (Option Man)) (file i : ℕ) (r : Run) → RowSoFar text row file i
    → i < length text → squares_of (get_or text i 0) ≡ squares_in r → 0 < r.squares → file + r.squares ≡ 8
    → RankIsRead text (set row file r.first) (drop (i + 1) text)
whole text row file i r so_far h at some is =
    let s = step text row file i r so_far h at some (omega arith) in
    let eight : length (set row file r.first) ≡ 8 = length-set row file r.first ∙ so_far.eight in
    let all : take (file + r.squares) (set row file r.first) ≡ set row file r.first =
    ap (λ k. take k (set row file r.first)) (is ∙ sym eight) ∙ take-length (set row file r.first) in
    record {
      on = λ left above. sym (s.0 left above) ∙ ap (λ xs. placing left xs above (drop (i + 1) text)) all;
      back = sym s.1;
      eight = eight;
    }

-- if the next byte brings the rank to more than eight squares (so does a byte that denotes none, as a run of 9), no
-- rank is read
pub overfull : (text : List ℕ) (row : List (Option Man)) (file i : ℕ) (r : Run) → RowSoFar text row file i
    → i < length text → squares_of (get_or text i 0) ≡ squares_in r → 0 < r.squares → 8 < file + r.squares
    → NoRankIsRead text
overfull text row file i r so_far h at some over = λ left above.
    sym (so_far.on left above) ∙ at_drop_more (placing left (take file row) above) text i 0 h
    ∙ stuck left (take file row) above c (drop (i + 1) text) short (by_test (leb r.squares 8) refl left above)
  where
    c : ℕ
    c = get_or text i 0

    len : length (take file row) ≡ file
    len = omega (arith, length-take file row, so_far.eight, so_far.within)

    short : eqb (length (take file row)) 8 ≡ false
    short = let h : file < 8 = so_far.within in grind (arith, nat_tests, len)

    too_many : leb r.squares 8 ≡ false → squares_in r ≡ None
    too_many t = rw t refl

    by_test : (b : Bool) → leb r.squares 8 ≡ b → (left : ℕ) → (above : List (Option Man))
        → option_and_then (λ s. placing left (take file row ++ s) above (drop (i + 1) text)) (squares_of c) ≡ None
    by_test true t left above =
        let few : r.squares ≤ 8 = grind (arith, nat_tests) in
        let s = r.first ∷ replicate (r.squares - 1) None in
        rw (at ∙ filled r some few) (placing_over left (take file row ++ s) above (drop (i + 1) text)
        (omega (arith, length-append (take file row) s, len, length-replicate (r.squares - 1) no_man)))
    by_test false t left above = rw (at ∙ too_many t) refl

-- if the text ends before the rank has eight squares, no rank is read
pub cut_short : (text : List ℕ) (row : List (Option Man)) (file i : ℕ) → RowSoFar text row file i → length text ≤ i
    → NoRankIsRead text
cut_short text row file i so_far h = λ left above.
    sym (so_far.on left above) ∙ at_drop_all (placing left (take file row) above) text i h
    ∙ not_last left (take file row) above short
  where
    len : length (take file row) ≡ file
    len = omega (arith, length-take file row, so_far.eight, so_far.within)

    short : eqb (length (take file row)) 8 ≡ false
    short = let h : file < 8 = so_far.within in grind (arith, nat_tests, len)
