-- The reports on a collection's files, one after another, are those on the collection (files_alike): the pieces of the
-- files are those of the collection (pieces_of_files, by induction on the files), and a piece's reports only move with
-- its offset (moved_in). Counts are sums over the reports, so they add up (summed).
use Rattle.std.proofs.Common.{◌≡◌, ℕ, zero, suc, ◌+◌, Bool, true, false, List, [], ◌∷◌, ◌++◌, length, map, drop, Option, Some, None, Result, Ok, Err, refl, sym, ap, ◌∙◌, ◌&&◌, append-nil, length-append, arith, ap₂, cond, if◌then◌else◌, nat_le, nat_lt, not, is_some}
use Rattle.std.specs.List.{onto_first, concat, flat_map, sum_by}
use Rattle.std.specs.Option.{option_map_or, unwrap_or}
use Rattle.std.proofs.{Math.Path.fun_ext, lemmas.List.map-append, lemmas.List.Concat.flat_map-append, lemmas.List.Sums.sum_by-append, lemmas.List.Sums.sum_by-cons}
use Rattle.chess_pgn.specs.{GameRead.ending, declared.read.PgnEnd.PgnEnd}
use Rattle.pgn_pieces.specs.{Pieces.cut, Pieces.lines_of, Places.breaks_line, Stream.with_offsets, declared.pieces.TheConstants.PIECE_LEN}
use Rattle.pgn_pieces.proofs.shared.Cuts.{cut_is_all}
use Rattle.verify_options.specs.declared.options.Strictness.{Strictness}
use Rattle.pgn_verifier.specs.{Collection.AreCollectionReports, Explanations.explanation, Explanations.wrong_part, declared.game_fault.GameFault.GameFault, laws.Reasons.reason}
use Rattle.pgn_verifier.specs.Reports.{Report, Game, Faulty, Placed, game_begin, is_game, plies_of, counts_of}
use Rattle.pgn_verifier.specs.laws.Reported.{names_at, next_at, read_at, judged_at, game_placed, fault_placed, placed_then, placed_from, placed_of, placed_in, too_long_placed}
use Rattle.pgn_verifier_laws.specs.Files.{AreCutWherePiecesBegin, moved, one_after_another, IsSumOf, FilesAreVerifiedAlike}
use Rattle.pgn_verifier_laws.specs.Shards.{begins_in_tag, ends_in_moves}
use Rattle.pgn_verifier_laws.proofs.OnlyReports.{only_all}
use Rattle.pgn_verifier_laws.proofs.Shards.{lines_joined, shards_are_cut}

-- ---- the pieces of the files

-- a text with a line feed at its end has a first line
has_line : (cs : List ℕ) → (line : List ℕ) × (lines : List (List ℕ)) × (lines_of (cs ++ 10 ∷ []) ≡ line ∷ lines)
has_line [] = (10 ∷ [], [], refl)
has_line (c ∷ cs) = by_test (breaks_line c) (has_line cs)
  where
    by_test : (b : Bool)
        → (line : List ℕ) × (lines : List (List ℕ)) × (lines_of (cs ++ 10 ∷ []) ≡ line ∷ lines)
        → (line : List ℕ) × (lines : List (List ℕ))
        × ((if b then (c ∷ []) ∷ lines_of (cs ++ 10 ∷ []) else onto_first c (lines_of (cs ++ 10 ∷ []))) ≡ line ∷ lines)
    by_test true w = (c ∷ [], lines_of (cs ++ 10 ∷ []), refl)
    by_test false (line, lines, is) = (c ∷ line, lines, ap (onto_first c) is)

-- what follows after a whole line doesn't change that the text begins with a tag line
tag_first : (front rest : List ℕ) → begins_in_tag (lines_of (front ++ 10 ∷ [])) ≡ true
    → begins_in_tag (lines_of ((front ++ 10 ∷ []) ++ rest)) ≡ true
tag_first front rest h =
    ap begins_in_tag (lines_joined front rest) ∙ by_lines (lines_of (front ++ 10 ∷ [])) (has_line front) h
  where
    by_lines : (all : List (List ℕ)) → (line : List ℕ) × (lines : List (List ℕ)) × (all ≡ line ∷ lines)
        → begins_in_tag all ≡ true → begins_in_tag (all ++ lines_of rest) ≡ true
    by_lines [] (line, lines, is) h = absurd (cc)
    by_lines (first ∷ more) w h = h

-- a collection that is cut where pieces begin begins with a tag line, if its first file does
tag_begins : (file : List ℕ) (files : List (List ℕ)) → AreCutWherePiecesBegin (file ∷ files)
    → begins_in_tag (lines_of file) ≡ true → begins_in_tag (lines_of (concat (file ∷ files))) ≡ true
tag_begins file [] h tag = ap (λ text. begins_in_tag (lines_of text)) (append-nil file) ∙ tag
tag_begins file (next ∷ files) h tag =
    let ends = h.0 in
    ap (λ text. begins_in_tag (lines_of (text ++ concat (next ∷ files)))) ends.whole_lines
    ∙ tag_first ends.before (concat (next ∷ files))
    (sym (ap (λ text. begins_in_tag (lines_of text)) ends.whole_lines) ∙ tag)

-- by induction over the files, since each is cut where a piece begins
pieces_of_files : (files : List (List ℕ)) → AreCutWherePiecesBegin files → cut (concat files) ≡ flat_map cut files
pieces_of_files [] h = refl
pieces_of_files (file ∷ []) h = ap cut (append-nil file) ∙ sym (append-nil (cut file))
pieces_of_files (file ∷ next ∷ files) h =
    let ends = h.0 in
    let rest : List ℕ = concat (next ∷ files) in
    ap (λ text. cut (text ++ rest)) ends.whole_lines
    ∙ shards_are_cut ends.before rest (sym (ap (λ text. ends_in_moves (lines_of text)) ends.whole_lines) ∙ ends.moves)
    (tag_begins next files h.2 h.1)
    ∙ sym (ap (λ text. cut text ++ cut rest) ends.whole_lines)
    ∙ ap (λ ps. cut file ++ ps) (pieces_of_files (next ∷ files) h.2)

-- ---- reports at another offset

-- a report whose offsets are `by` higher
abbrev moved_placed : ℕ → Placed → Placed
moved_placed by p = record p {
  begin = by + p.begin;
  end = by + p.end;
  report = moved by p.report;
}

-- offsets are added in either order
grouped : (by start n : ℕ) → by + start + n ≡ by + (start + n)
grouped by start n = omega arith

-- the report on a game, if its text begins `by` later
game_moved : (draws : Bool) (by start : ℕ) (text : List ℕ) (at : ℕ) (end : PgnEnd)
    → game_placed (by + start) text at end (read_at draws text at).state
    ≡ moved_placed by (game_placed start text at end (read_at draws text at).state)
game_moved draws by start text at end =
    let there : Placed = moved_placed by (game_placed start text at end (read_at draws text at).state) in
    ap₂ (λ (b e : ℕ). record there { begin = b; end = e }) (grouped by start (game_begin text at))
    (grouped by start end.offset)

-- likewise the report on a fault
fault_moved : (draws goes_on : Bool) (by start : ℕ) (text : List ℕ) (at : ℕ) (next : Option ℕ) (fault : GameFault)
    → fault_placed draws goes_on (by + start) text at next fault (read_at draws text at).state
    ≡ moved_placed by (fault_placed draws goes_on start text at next fault (read_at draws text at).state)
fault_moved draws goes_on by start text at next fault =
    let wrong : ℕ = (wrong_part fault.kind text (game_begin text at) fault.offset).0 in
    let report : ℕ → ℕ → Report = λ offset place. Faulty (record fault { offset = offset }) (names_at text at) place
    (wrong_part fault.kind text (game_begin text at) fault.offset).1
    (explanation (read_at draws text at).state fault.kind
    (reason fault.kind (drop fault.offset text) (ending draws (read_at draws text at).state)))
    (goes_on && not (is_some next) && nat_lt fault.offset (length text)) in
    let here : Placed = fault_placed draws goes_on (by + start) text at next fault (read_at draws text at).state in
    let there : Placed = moved_placed by (fault_placed draws goes_on start text at next fault
    (read_at draws text at).state) in
    ap₂ (λ (b e : ℕ). record here { begin = b; end = e }) (grouped by start (game_begin text at))
    (grouped by start (unwrap_or next (length text)))
    ∙ ap₂ (λ (o w : ℕ). record there { report = report o w }) (grouped by start fault.offset) (grouped by start wrong)

-- the reports on at most n games from `at` on move with their text; by induction over n
moved_from : (goes_on : Bool) (strict : Strictness) (by start n : ℕ) (text : List ℕ) (at : ℕ)
    → placed_from goes_on strict (by + start) n text at
    ≡ map (moved_placed by) (placed_from goes_on strict start n text at)
unfolding placed_from
moved_from goes_on strict by start zero text at = refl
moved_from goes_on strict by start (suc n) text at =
    by_answer (judged_at strict text at) (λ m. moved_from goes_on strict by start n text m)
  where
    far : ℕ → List Placed
    far m = placed_from goes_on strict (by + start) n text m

    near : ℕ → List Placed
    near m = placed_from goes_on strict start n text m

    on : (next : Option ℕ) → ((m : ℕ) → far m ≡ map (moved_placed by) (near m))
        → option_map_or far next [] ≡ map (moved_placed by) (option_map_or near next [])
    on None later = refl
    on (Some m) later = later m

    by_answer : (r : Result (Option PgnEnd) GameFault) → ((m : ℕ) → far m ≡ map (moved_placed by) (near m))
        → placed_then strict.draws_of_2014 goes_on (by + start) text at (next_at goes_on text at) r
        (read_at strict.draws_of_2014 text at).state far
        ≡ map (moved_placed by)
        (placed_then strict.draws_of_2014 goes_on start text at (next_at goes_on text at) r
        (read_at strict.draws_of_2014 text at).state near)
    by_answer (Ok None) later = refl
    by_answer (Ok (Some end)) later =
        ap₂ (λ (p : Placed) (ps : List Placed). p ∷ ps) (game_moved strict.draws_of_2014 by start text at end)
        (later end.offset)
    by_answer (Err fault) later =
        ap₂ (λ (p : Placed) (ps : List Placed). p ∷ ps)
        (fault_moved strict.draws_of_2014 goes_on by start text at (next_at goes_on text at) fault)
        (on (next_at goes_on text at) later)

-- so do the reports on a piece, and on several (moved_all)
moved_in : (strict : Strictness) (by offset : ℕ) (bytes : List ℕ)
    → placed_in strict (record { offset = by + offset; bytes = bytes })
    ≡ map (moved_placed by) (placed_in strict (record { offset = offset; bytes = bytes }))
moved_in strict by offset bytes = by_test (nat_le (length bytes) PIECE_LEN)
  where
    by_test : (b : Bool)
        → (if b then placed_of true strict (by + offset) bytes
        else too_long_placed (record { offset = by + offset; bytes = bytes }) ∷ [])
        ≡ map (moved_placed by) (if b then placed_of true strict offset bytes
        else too_long_placed (record { offset = offset; bytes = bytes }) ∷ [])
    by_test true = moved_from true strict by offset (length bytes + 1) bytes 0
    by_test false =
        ap (λ (e : ℕ). record (too_long_placed (record { offset = by + offset; bytes = bytes })) { end = e } ∷ [])
        (grouped by offset (length bytes))

moved_all : (strict : Strictness) (by offset : ℕ) (all : List (List ℕ))
    → flat_map (placed_in strict) (with_offsets (by + offset) all)
    ≡ map (moved_placed by) (flat_map (placed_in strict) (with_offsets offset all))
moved_all strict by offset [] = refl
moved_all strict by offset (bytes ∷ more) =
    ap₂ (λ xs ys. xs ++ ys) (moved_in strict by offset bytes)
    (ap (λ k. flat_map (placed_in strict) (with_offsets k more)) (grouped by offset (length bytes))
    ∙ moved_all strict by (offset + length bytes) more)
    ∙ sym (map-append (moved_placed by) (placed_in strict (record { offset = offset; bytes = bytes }))
    (flat_map (placed_in strict) (with_offsets (offset + length bytes) more)))

-- ---- file after file

-- the pieces of two lists one after the other have the offsets that the second begins with
offsets_joined : (offset : ℕ) (front rest : List (List ℕ))
    → with_offsets offset (front ++ rest)
    ≡ with_offsets offset front ++ with_offsets (offset + length (concat front)) rest
offsets_joined offset [] rest =
    let none : offset ≡ offset + 0 = omega arith in ap (λ k. with_offsets k rest) none
offsets_joined offset (bytes ∷ more) rest =
    let all = length-append bytes (concat more) in
    let there : offset + length bytes + length (concat more) ≡ offset + length (bytes ++ concat more) =
    omega (arith, all) in
    ap (λ ps. record { offset = offset; bytes = bytes } ∷ ps)
    (offsets_joined (offset + length bytes) more rest
    ∙ ap (λ k. with_offsets (offset + length bytes) more ++ with_offsets k rest) there)

module _ (strict : Strictness) (reports : List ℕ → List Placed)
    (are : (text : List ℕ) → AreCollectionReports strict 0 (cut text) (reports text)) where
  -- by induction over the files
  file_after_file : (offset : ℕ) (files : List (List ℕ))
      → flat_map (placed_in strict) (with_offsets offset (flat_map cut files)) ≡ one_after_another reports offset files
  file_after_file offset [] = refl
  file_after_file offset (file ∷ files) =
      let none : offset ≡ offset + 0 = omega arith in
      ap (flat_map (placed_in strict)) (offsets_joined offset (cut file) (flat_map cut files))
      ∙ flat_map-append (placed_in strict) (with_offsets offset (cut file))
      (with_offsets (offset + length (concat (cut file))) (flat_map cut files))
      ∙ ap₂ (λ xs ys. xs ++ ys)
      (ap (λ k. flat_map (placed_in strict) (with_offsets k (cut file))) none
      ∙ moved_all strict offset 0 (cut file) ∙ ap (map (moved_placed offset)) (sym (only_all (are file))))
      (ap (λ text. flat_map (placed_in strict) (with_offsets (offset + length text) (flat_map cut files)))
      (cut_is_all file)
      ∙ file_after_file (offset + length file) files)

  -- ---- counts

  -- what a report counts doesn't depend on its offset
  module _ (counted : Report → ℕ) (kept : (by : ℕ) (report : Report) → counted (moved by report) ≡ counted report) where
    abbrev of_placed : Placed → ℕ
    of_placed p = counted p.report

    -- so moved reports have the same sum
    moved_sum : (by : ℕ) (placed : List Placed) → sum_by of_placed (map (moved_placed by) placed) ≡ sum_by of_placed placed
    moved_sum by [] = refl
    moved_sum by (p ∷ more) =
        sum_by-cons of_placed (moved_placed by p) (map (moved_placed by) more)
        ∙ ap₂ (λ a b. a + b) (kept by p.report) (moved_sum by more) ∙ sym (sum_by-cons of_placed p more)

    -- the sums of all files are added
    added : (offset : ℕ) (files : List (List ℕ))
        → sum_by of_placed (one_after_another reports offset files)
        ≡ sum_by (λ file. sum_by of_placed (reports file)) files
    added offset [] = refl
    added offset (file ∷ files) =
        let first = map (moved_placed offset) (reports file) in
        let later = one_after_another reports (offset + length file) files in
        sum_by-append of_placed first later
        ∙ ap₂ (λ a b. a + b) (moved_sum offset (reports file)) (added (offset + length file) files)
        ∙ sym (sum_by-cons (λ f. sum_by of_placed (reports f)) file files)

    -- and so are counts that are such sums
    pub summed : (count : List Placed → ℕ) → ((rs : List Placed) → count rs ≡ sum_by of_placed rs) → (files : List (List ℕ))
        → reports (concat files) ≡ one_after_another reports 0 files
        → count (reports (concat files)) ≡ sum_by (λ file. count (reports file)) files
    summed count is files alike =
        is (reports (concat files)) ∙ ap (sum_by of_placed) alike ∙ added 0 files
        ∙ ap (λ f. sum_by f files) (fun_ext (λ file. sym (is (reports file))))

  -- what a report counts as a game, and as a fault
  abbrev as_game : Report → ℕ
  as_game report = cond (is_game report) 1 0

  abbrev as_fault : Report → ℕ
  as_fault report = cond (not (is_game report)) 1 0

  game_kept : (by : ℕ) (report : Report) → as_game (moved by report) ≡ as_game report
  game_kept by (Game plies outcome termination) = refl
  game_kept by (Faulty fault names wrong_at part why is_unread) = refl

  moves_kept : (by : ℕ) (report : Report) → plies_of (moved by report) ≡ plies_of report
  moves_kept by (Game plies outcome termination) = refl
  moves_kept by (Faulty fault names wrong_at part why is_unread) = refl

  fault_kept : (by : ℕ) (report : Report) → as_fault (moved by report) ≡ as_fault report
  fault_kept by (Game plies outcome termination) = refl
  fault_kept by (Faulty fault names wrong_at part why is_unread) = refl

  pub sum_of_files : (files : List (List ℕ)) → AreCutWherePiecesBegin files → IsSumOf reports files
  sum_of_files files h =
      let alike : reports (concat files) ≡ one_after_another reports 0 files =
      only_all (are (concat files))
      ∙ ap (λ ps. flat_map (placed_in strict) (with_offsets 0 ps)) (pieces_of_files files h)
      ∙ file_after_file 0 files in record {
        alike = alike;
        games = summed as_game game_kept (λ rs. (counts_of rs).games) (λ rs. refl) files alike;
        half_moves = summed plies_of moves_kept (λ rs. (counts_of rs).half_moves) (λ rs. refl) files alike;
        faults = summed as_fault fault_kept (λ rs. (counts_of rs).faults) (λ rs. refl) files alike;
      }

-- the law, for any reports that are those of collections
pub files_alike : FilesAreVerifiedAlike
files_alike strict reports are files h = sum_of_files strict reports are files h
