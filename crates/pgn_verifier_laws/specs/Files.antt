-- A collection that is cut into files where pieces begin is reported as its files are, each by itself.
use Rattle.std.specs.Prelude.{◌≡◌, ⊤, ℕ, ◌+◌, true, List, [], ◌∷◌, ◌++◌, length, map}
use Rattle.std.specs.List.{concat, sum_by}
use Rattle.byte_devices.specs.Bytes.{new_line}
use Rattle.pgn_pieces.specs.Pieces.{cut, lines_of}
use Rattle.verify_options.specs.declared.options.Strictness.{Strictness}
use Rattle.pgn_verifier.specs.Collection.{AreCollectionReports}
use Rattle.pgn_verifier.specs.Reports.{Placed, Report, Game, Faulty, counts_of}
use Rattle.pgn_verifier_laws.specs.Shards.{begins_in_tag, ends_in_moves}

-- a file ends in a line of moves, and perhaps empty lines after it, and its last line has its `\n`
pub record EndsInMoves (file : List ℕ) : Type 0 where
  pub before : List ℕ
  pub whole_lines : file ≡ before ++ new_line ∷ []
  pub moves : ends_in_moves (lines_of file) ≡ true

-- a collection is cut into these files, in order, where pieces begin: each but the last ends in a line of moves, and
-- each but the first begins with a tag line, perhaps after a byte order mark
abbrev pub AreCutWherePiecesBegin : List (List ℕ) → Type 0
AreCutWherePiecesBegin [] = ⊤
AreCutWherePiecesBegin (file ∷ []) = ⊤
AreCutWherePiecesBegin (file ∷ next ∷ files) =
    EndsInMoves file × (begins_in_tag (lines_of next) ≡ true) × AreCutWherePiecesBegin (next ∷ files)

-- a report on a file, with its offsets counted from the collection's beginning instead of the file's; the file begins
-- there at the offset `by`
abbrev pub moved : ℕ → Report → Report
moved by (Game plies outcome termination) = Game plies outcome termination
moved by (Faulty fault names wrong_at part why is_unread) =
    Faulty (record fault { offset = by + fault.offset }) names (by + wrong_at) part why is_unread

-- the reports on these files, one after another, with offsets counted from the collection's beginning. `reports`: those
-- on each file by itself; the first file begins at this offset of the collection
abbrev pub one_after_another : (List ℕ → List Placed) → ℕ → List (List ℕ) → List Placed
one_after_another reports offset [] = []
one_after_another reports offset (file ∷ files) =
    map (λ (p : Placed). record p {
      begin = offset + p.begin;
      end = offset + p.end;
      report = moved offset p.report;
    }) (reports file)
    ++ one_after_another reports (offset + length file) files

-- the reports on a collection are those on its files, each by itself, and its counts are the sums of theirs
pub record IsSumOf (reports : List ℕ → List Placed) (files : List (List ℕ)) : Type 0 where
  pub alike : reports (concat files) ≡ one_after_another reports 0 files
  pub games : (counts_of (reports (concat files))).games
      ≡ sum_by (λ file. (counts_of (reports file)).games) files
  pub half_moves : (counts_of (reports (concat files))).half_moves
      ≡ sum_by (λ file. (counts_of (reports file)).half_moves) files
  pub faults : (counts_of (reports (concat files))).faults
      ≡ sum_by (λ file. (counts_of (reports file)).faults) files

-- if a collection is cut into files where pieces begin, what `verify --keep-going` reports of it (`reports`) is the sum
-- of what it reports of the files (`IsSumOf`)
abbrev pub FilesAreVerifiedAlike : Type 0
FilesAreVerifiedAlike = (strict : Strictness) (reports : List ℕ → List Placed)
    → ((text : List ℕ) → AreCollectionReports strict 0 (cut text) (reports text))
    → (files : List (List ℕ)) → AreCutWherePiecesBegin files → IsSumOf reports files
