-- For `Place`, which counts lines and columns on from one offset of a text to a later one: they are known at the text's
-- beginning (known_at_start), and so at each later offset, by the bytes between (known_on), which also bound them, so
-- that they don't overflow. Then where a fault's wrong part is (either_moved), and that pieces are in place in a longer
-- text too (piece_there).
use Rattle.std.proofs.Common.{◌≡◌, ◌≤◌, ◌<◌, ℕ, ◌+◌, ◌-◌, eqb, Bool, true, false, not, cond, List, ◌++◌, length, take, drop, refl, sym, ap, ◌∙◌, append_assoc, length-drop, arith, take-add, if◌then◌else◌, reverse}
use Rattle.std.specs.List.{prefix_len, suffix_len, sum_by}
use Rattle.std.proofs.{lemmas.Bool.Decides.nat_tests, lemmas.List.Folds.prefix_len-append, lemmas.List.Sums.count_by-le-length, lemmas.List.Sums.prefix_len-le-length, lemmas.List.Sums.sum_by-append}
use Rattle.std.proofs.lemmas.List.{take-take, take-append-le, drop-append-le, length-take, length-reverse, reverse-append}
use Rattle.pgn_pieces.specs.Places.{breaks_line, line_ends, line_of, column_of}
use Rattle.pgn_verifier.specs.{declared.place.Place.Place, declared.start.TextStart.TextStart, ties.Counting.Known, ties.Counting.column_on, ties.OnTheWay.StandsAt, ties.OnTheWay.PieceStandsAt}
use Rattle.pgn_pieces.specs.{Stream.PieceSeen, laws.Places.IsInPlace}

-- how many bytes a text has after its last `\n` or `\r`
abbrev last_line_len : List ℕ → ℕ
last_line_len text = suffix_len (λ c. not (breaks_line c)) text

-- line ends of two texts add up
line_ends_after : (xs ys : List ℕ) → line_ends (xs ++ ys) ≡ line_ends xs + line_ends ys
line_ends_after = sum_by-append (λ c. if eqb c 10 then 1 else 0)

-- no text has more line ends than bytes
line_ends_few : (xs : List ℕ) → line_ends xs ≤ length xs
line_ends_few xs = count_by-le-length (λ c. eqb c 10) xs

last_few : (xs : List ℕ) → last_line_len xs ≤ length xs
last_few xs =
    let few = prefix_len-le-length (λ c. not (breaks_line c)) (reverse xs) in
    let same = length-reverse xs in omega (arith, few, same)

-- the last line of two texts is that of the second, or goes on from the first if the second ends no line
last_line_after : (xs ys : List ℕ) → last_line_len (xs ++ ys)
    ≡ cond (eqb (last_line_len ys) (length ys)) (length ys + last_line_len xs) (last_line_len ys)
last_line_after xs ys =
    let p : ℕ → Bool = λ c. not (breaks_line c) in
    ap (prefix_len p) (reverse-append xs ys) ∙ prefix_len-append p (reverse ys) (reverse xs)
    ∙ ap (λ n. cond (eqb (last_line_len ys) n) (n + last_line_len xs) (last_line_len ys)) (length-reverse ys)

-- the column after a text and these bytes
column_after : (xs ys : List ℕ) → last_line_len (xs ++ ys) + 1 ≡ column_on (last_line_len xs + 1) ys
column_after xs ys =
    ap (λ n. n + 1) (last_line_after xs ys) ∙ by_test (eqb (last_line_len ys) (length ys)) refl
  where
    by_test : (b : Bool) → eqb (last_line_len ys) (length ys) ≡ b
        → cond b (length ys + last_line_len xs) (last_line_len ys) + 1
        ≡ (if b then last_line_len xs + 1 + last_line_len ys else last_line_len ys + 1)
    by_test true e = let same : last_line_len ys ≡ length ys = grind (arith, nat_tests, e) in omega (arith, same)
    by_test false e = refl

-- a column grows by at most one for each byte, and is at least 1
column_few : (column : ℕ) (ys : List ℕ) → last_line_len ys ≤ length ys → 0 < column
    → (column_on column ys ≤ column + length ys) × (0 < column_on column ys)
column_few column ys h some = by_test (eqb (last_line_len ys) (length ys))
  where
    by_test : (b : Bool) → ((if b then column + last_line_len ys else last_line_len ys + 1) ≤ column + length ys)
        × (0 < (if b then column + last_line_len ys else last_line_len ys + 1))
    by_test true = (omega (arith, h), omega (arith, some))
    by_test false = (omega (arith, h, some), omega arith)

-- ---- from one offset of a text to the next

-- from the offset `a` of a text to the later one `b`, where the text begins in the input at `start`
module _ (start : TextStart) (input text : List ℕ) (a b : ℕ) (forward : a ≤ b) (within : b ≤ length text)
    (stands : StandsAt start input text)
  where
    bytes_before : (k : ℕ) → k ≤ length text
        → take (start.offset + k) input ≡ take start.offset input ++ take k text
    bytes_before k few =
        take-add start.offset k input
        ∙ ap (λ xs. take start.offset input ++ xs)
        (sym (take-take k (length text) (drop start.offset input) few) ∙ ap (take k) stands.bytes)

    abbrev between : List ℕ
    between = take (b - a) (drop a text)

    bytes_between : take (start.offset + b) input ≡ take (start.offset + a) input ++ between
    bytes_between =
        bytes_before b within
        ∙ ap (λ xs. take start.offset input ++ xs)
        (ap (λ n. take n text) (omega (arith, forward)) ∙ take-add a (b - a) text)
        ∙ sym (append_assoc (take start.offset input) (take a text) between)
        ∙ ap (λ xs. xs ++ between) (sym (bytes_before a (omega (arith, forward, within))))

    pub line_there : line_of input (start.offset + b) ≡ line_of input (start.offset + a) + line_ends between
    line_there =
        let all = ap line_ends bytes_between in
        let two = line_ends_after (take (start.offset + a) input) between in omega (arith, all, two)

    pub column_there : column_of input (start.offset + b) ≡ column_on (column_of input (start.offset + a)) between
    column_there = ap (λ xs. last_line_len xs + 1) bytes_between ∙ column_after (take (start.offset + a) input) between

-- line and column are known where the text begins, as it begins a line
pub known_at_start : (explain : Bool) (text : List ℕ) (start : TextStart)
    → Known explain text (record { start = start; offset = 0; line = start.line; column = 1 })
known_at_start explain text start = record {
  offset = omega arith;
  line = omega arith;
  column = omega arith;
  some = omega arith;
  here = λ input stands explains. (let there = stands explains in
      let first : start.offset + 0 ≡ start.offset = omega arith in record {
        line = ap (line_of input) first ∙ there.line;
        column = ap (column_of input) first ∙ there.column;
      });
}

-- and so at each later offset, by the bytes between
pub known_on : (explain : Bool) (text : List ℕ) (place : Place) (b line column : ℕ) → Known explain text place
    → place.offset ≤ b → b ≤ length text
    → line ≡ place.line + line_ends (take (b - place.offset) (drop place.offset text))
    → column ≡ column_on place.column (take (b - place.offset) (drop place.offset text))
    → Known explain text (record { start = place.start; offset = b; line = line; column = column })
known_on explain text place b line column known forward within lines columns =
    let between = take (b - place.offset) (drop place.offset text) in
    let taken = length-take (b - place.offset) (drop place.offset text) in
    let left = length-drop place.offset text in
    let line_few = known.line in
    let column_small = known.column in
    let ends = line_ends_few between in
    let wide = column_few place.column between (last_few between) known.some in
    let narrow = wide.0 in
    let positive = wide.1 in record {
      offset = within;
      line = omega (arith, lines, ends, taken, left, line_few, forward, within);
      column = omega (arith, columns, narrow, taken, left, column_small, forward, within);
      some = omega (arith, columns, positive);
      here = λ input stands explains. (let there = known.here input stands explains in record {
        line = line_there place.start input text place.offset b forward within (stands explains)
            ∙ ap (λ n. n + line_ends between) there.line ∙ sym lines;
        column = column_there place.start input text place.offset b forward within (stands explains)
            ∙ ap (λ n. column_on n between) there.column ∙ sym columns;
      });
    }

-- ---- one place or another

-- an offset in the input, by the code's branches and by the definition's
pub either_moved : (b : Bool) (start x y z : ℕ)
    → start + (if b then x else y + z) ≡ (if b then start + x else start + y + z)
either_moved true start x y z = refl
either_moved false start x y z = omega arith

-- ---- pieces

-- the pieces that begin a text are in their places also if more follows
pub piece_there : (text more : List ℕ) (before : List PieceSeen) (piece : PieceSeen) (number : ℕ) → IsInPlace text before piece
    → piece.offset ≤ length text → number ≡ sum_by (λ (p : PieceSeen). p.line_ends) before + 1
    → PieceStandsAt number (text ++ more) piece
piece_there text more before piece number placed within is = record {
  bytes = λ xs e. bytes_there xs (placed.bytes xs e);
  line = ap (λ ys. line_ends ys + 1) front ∙ placed.line ∙ sym is;
  column = ap (λ ys. last_line_len ys + 1) front ∙ placed.column;
}
  where
    front : take piece.offset (text ++ more) ≡ take piece.offset text
    front = take-append-le piece.offset text more within

    bytes_there : (xs : List ℕ) → take (length xs) (drop piece.offset text) ≡ xs
        → take (length xs) (drop piece.offset (text ++ more)) ≡ xs
    bytes_there xs e =
        let n = length-take (length xs) (drop piece.offset text) in
        let m = ap length e in
        ap (take (length xs)) (drop-append-le piece.offset text more within)
        ∙ take-append-le (length xs) (drop piece.offset text) more (omega (arith, n, m)) ∙ e
