-- Reports on games are written as lines, numbered on, and counted. The lines and counts of some reports and then of
-- more are those of all (took_after, counted_after, all_counted, by induction on the reports); where a write fails, a
-- beginning of all lines was written (broke_after, first_broke). `t` and `u` are the counts before and after the first
-- ones.
use Rattle.std.proofs.Common.{◌≡◌, ℕ, ◌+◌, cond, not, List, [], ◌∷◌, ◌++◌, length, Result, Ok, Err, refl, sym, ap, subst, ◌∙◌, append_assoc, append-nil, arith, count_by, sum_by}
use Rattle.std.proofs.lemmas.List.Sums.{sum_by-cons}
use Rattle.byte_devices.specs.Devices.{OutputState, Took, CutShort}
use Rattle.byte_devices.proofs.shared.Devices.{took_none, took_more, breaks_more, breaks_longer}
use Rattle.verify_options.specs.declared.options.VerifyOptions.{VerifyOptions}
use Rattle.pgn_verifier.specs.declared.tally.Tally.{Tally}
use Rattle.pgn_verifier.specs.Reports.{Report, Game, Faulty, Placed, written_line, report_lines, counts_of, is_game, plies_of}
use Rattle.pgn_verifier.specs.ties.OnTheWay.{next_number, Writes, counted, with_report}

-- ---- reports and those after them

-- the line of one report, with its span; or its lines, if it is on a fault that is explained
abbrev pub placed_line : VerifyOptions → List ℕ → ℕ → Placed → List ℕ
placed_line options input number r = written_line options input number r r.report

-- the lines of more reports follow those of the first, with their numbers going on
pub lines_after : (options : VerifyOptions) (input : List ℕ) (number : ℕ) (xs ys : List Placed)
    → report_lines options input number (xs ++ ys) ≡ report_lines options input number xs
    ++ report_lines options input (number + length xs) ys
lines_after options input number [] ys = ap (λ n. report_lines options input n ys) (omega arith)
lines_after options input number (x ∷ xs) ys =
    ap (λ t. placed_line options input number x ++ t) (lines_after options input (number + 1) xs ys)
    ∙ sym (append_assoc (placed_line options input number x) (report_lines options input (number + 1) xs)
    (report_lines options input (number + 1 + length xs) ys))
    ∙ ap (λ n. (placed_line options input number x ++ report_lines options input (number + 1) xs)
    ++ report_lines options input n ys) (omega arith)

-- ---- counts

-- counting some reports and then more is counting all
pub counted_after : (t : Tally) (xs ys : List Placed) → counted (counted t xs) ys ≡ counted t (xs ++ ys)
counted_after t [] ys = refl
counted_after t (x ∷ xs) ys = counted_after (with_report t x.report) xs ys

-- one report more counts a game without a fault, with its half-moves, or a game with one
games_one : (t : Tally) (r : Report) → (with_report t r).games ≡ t.games + cond (is_game r) 1 0
games_one t (Game plies outcome termination) = omega arith
games_one t (Faulty fault names wrong_at part why is_unread) = omega arith

moves_one : (t : Tally) (r : Report) → (with_report t r).half_moves ≡ t.half_moves + plies_of r
moves_one t (Game plies outcome termination) = refl
moves_one t (Faulty fault names wrong_at part why is_unread) = omega arith

faults_one : (t : Tally) (r : Report) → (with_report t r).faults ≡ t.faults + cond (not (is_game r)) 1 0
faults_one t (Game plies outcome termination) = omega arith
faults_one t (Faulty fault names wrong_at part why is_unread) = omega arith

-- counting these reports from `t` on adds to each count what they have of it
record Sums (t : Tally) (rs : List Placed) : Type 0 where
  pub games : (counted t rs).games ≡ t.games + count_by (λ (p : Placed). is_game p.report) rs
  pub half_moves : (counted t rs).half_moves ≡ t.half_moves + sum_by (λ (p : Placed). plies_of p.report) rs
  pub faults : (counted t rs).faults ≡ t.faults + count_by (λ (p : Placed). not (is_game p.report)) rs

-- with one report more before them
more : (t : Tally) (p : Placed) (rs : List Placed) → Sums (with_report t p.report) rs → Sums t (p ∷ rs)
more t p rs h =
    let a = sum_by-cons (λ (q : Placed). cond (is_game q.report) 1 0) p rs in
    let b = sum_by-cons (λ (q : Placed). plies_of q.report) p rs in
    let c = sum_by-cons (λ (q : Placed). cond (not (is_game q.report)) 1 0) p rs in
    let games = games_one t p.report in
    let half_moves = moves_one t p.report in
    let faults = faults_one t p.report in
    let rest_games = h.games in
    let rest_moves = h.half_moves in
    let rest_faults = h.faults in
    record {
      games = omega (arith, a, games, rest_games);
      half_moves = omega (arith, b, half_moves, rest_moves);
      faults = omega (arith, c, faults, rest_faults);
    }

-- it does so; by induction on the reports
sums_are : (t : Tally) (rs : List Placed) → Sums t rs
sums_are t [] = record { games = omega arith; half_moves = omega arith; faults = omega arith }
sums_are t (p ∷ rs) = more t p rs (sums_are (with_report t p.report) rs)

-- counts are the same if each of the three is
same_counts : (t u : Tally) → t.games ≡ u.games → t.half_moves ≡ u.half_moves → t.faults ≡ u.faults → t ≡ u
same_counts t u games half_moves faults = rw (sym games, sym half_moves, sym faults) refl

-- the counts of all reports
pub all_counted : (rs : List Placed) → counted (record { games = 0; half_moves = 0; faults = 0 }) rs ≡ counts_of rs
all_counted rs =
    let sums = sums_are (record { games = 0; half_moves = 0; faults = 0 }) rs in
    let games = sums.games in
    let half_moves = sums.half_moves in
    let faults = sums.faults in
    same_counts (counted (record { games = 0; half_moves = 0; faults = 0 }) rs) (counts_of rs)
    (omega (arith, games)) (omega (arith, half_moves)) (omega (arith, faults))

-- each report takes a number
next_after : (t : Tally) (x : Report) → next_number (with_report t x) ≡ next_number t + 1
next_after t (Game plies o e) = omega arith
next_after t (Faulty fault names at part why unread) = omega arith

-- each report is counted
numbers_after : (t : Tally) (xs : List Placed) → next_number (counted t xs) ≡ next_number t + length xs
numbers_after t [] = omega arith
numbers_after t (x ∷ xs) =
    let rest = numbers_after (with_report t x.report) xs in
    let one = next_after t x.report in
    omega (arith, rest, one)

-- so the number after some reports is that many higher
number_after : (t u : Tally) (xs : List Placed) → u ≡ counted t xs → next_number u ≡ next_number t + length xs
number_after t u xs h = ap next_number h ∙ numbers_after t xs

-- ---- writing

-- before the first report nothing is written
pub wrote_none : (options : VerifyOptions) (input : List ℕ) (t : Tally) (w : OutputState)
    → Took w w (report_lines options input (next_number t) [])
wrote_none options input t w = took_none w

-- the lines of the reports `xs` were written, and `u` has them counted; then those of `ys` come
module _ (options : VerifyOptions) (input : List ℕ) (t u : Tally) (w w' w'' : OutputState) (xs : List Placed)
    (took : Took w w' (report_lines options input (next_number t) xs)) (is : u ≡ counted t xs) where
  lines_are : (ys : List Placed) → report_lines options input (next_number t) (xs ++ ys)
      ≡ report_lines options input (next_number t) xs ++ report_lines options input (next_number u) ys
  lines_are ys = lines_after options input (next_number t) xs ys
      ∙ ap (λ n. report_lines options input (next_number t) xs ++ report_lines options input n ys)
      (sym (number_after t u xs is))

  pub took_after : (ys : List Placed) → Took w' w'' (report_lines options input (next_number u) ys)
      → Took w w'' (report_lines options input (next_number t) (xs ++ ys))
  took_after ys h = subst (Took w w'') (sym (lines_are ys))
      (took_more w w' w'' (report_lines options input (next_number t) xs)
      (report_lines options input (next_number u) ys) took h)

  pub broke_after : (ys : List Placed) → CutShort w' w'' (report_lines options input (next_number u) ys)
      → CutShort w w'' (report_lines options input (next_number t) (xs ++ ys))
  broke_after ys h = subst (CutShort w w'') (sym (lines_are ys))
      (breaks_more w w' w'' (report_lines options input (next_number t) xs)
      (report_lines options input (next_number u) ys) took h)

  pub writes_after : {E : Type 0} (result : Result Tally E) (ys : List Placed) → Writes options input u w' w'' result ys
      → Writes options input t w w'' result (xs ++ ys)
  writes_after (Ok v) ys h =
      (took_after ys h.0, h.1 ∙ ap (λ (x : Tally). counted x ys) is ∙ counted_after t xs ys)
  writes_after (Err e) ys h = broke_after ys h

-- the lines of one report alone are its own
pub one_line : (options : VerifyOptions) (input : List ℕ) (number : ℕ) (r : Placed) → placed_line options input number r
    ≡ report_lines options input number (r ∷ [])
one_line options input number r = sym (append-nil (placed_line options input number r))

-- the writer failed at the first of some lines, so it took a beginning of all
pub first_broke : (options : VerifyOptions) (input : List ℕ) (number : ℕ) (w w' : OutputState) (r : Placed)
    (rest : List Placed)
    → CutShort w w' (placed_line options input number r)
    → CutShort w w' (report_lines options input number (r ∷ rest))
first_broke options input number w w' r rest h =
    breaks_longer w w' (placed_line options input number r) (report_lines options input (number + 1) rest) h
