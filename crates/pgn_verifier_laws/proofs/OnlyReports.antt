-- No other reports meet the definitions than those made by reading games one after another: a game is judged in one way
-- (only_judged), as a text has one split, so a text has one list of reports (only_reports), and so has a collection
-- (only_collection_reports). Without their spans the reports are the plain ones (same_on, same_of_collection). By
-- induction on the reports, the pieces, and how many games may come.
use Rattle.std.proofs.Common.{◌≡◌, ℕ, zero, suc, ◌+◌, Bool, List, [], ◌∷◌, ◌++◌, length, drop, Option, Some, None, true, false, not, ◌&&◌, is_some, nat_lt, Result, Ok, Err, refl, sym, ap, subst, ◌∙◌, append-nil, flat_map, MatchBool, nat_le, if◌then◌else◌}
use Rattle.std.proofs.{Math.Path.ap₂, Math.Path.fun_ext, lemmas.List.map-append}
use Rattle.std.specs.Option.{option_map_or, unwrap_or}
use Rattle.chess_game.specs.{Game.State, declared.game.TheConstants.MOST_MOVES}
use Rattle.chess_pgn.specs.{GameRead.GameRead, GameRead.ending, GameRead.pgn_read, GameRead.read_of_split, ResultTags.result_tag_of, UnknownVariants.unknown_variant_in, declared.read.PgnEnd.PgnEnd}
use Rattle.pgn_tokens.specs.{Split.IsSplit, Tokens.Token, Tokens.tokens_from}
use Rattle.byte_devices.specs.Bytes.{after_byte_order_mark}
use Rattle.pgn_tokens.proofs.shared.Tokens.{split_read}
use Rattle.pgn_pieces.specs.{Pieces.known_pieces, Stream.Piece, Stream.with_offsets, Stream.pieces, declared.pieces.TheConstants.PIECE_LEN}
use Rattle.verify_options.specs.declared.options.Strictness.{Strictness}
use Rattle.pgn_verifier.specs.{Collection.AreCollectionReports, Collection.no_piece, Collection.next_piece, Explanations.IsReason, Explanations.explanation, Explanations.shown, Explanations.wrong_part, GameFaults.judged, GameFaults.IsJudged, declared.game_fault.FaultKind.FaultKind, declared.game_fault.GameFault.GameFault, laws.Reasons.reason, shared.Contradictions.variation_in}
use Rattle.pgn_verifier.specs.declared.game_fault.FaultKind.TheVariants.{Pgn, InVariation, UnknownVariant, ResultDiffers, BoardSaysOtherwise}
use Rattle.chess_pgn.specs.declared.read.PgnFaultKind.TheVariants as pgn
use Rattle.pgn_verifier.specs.Reports.{Faulty, Placed, game_begin, names_of, AreReports, none_left, next_game, next_fault, AreReportsIn, spanning}
use Rattle.pgn_verifier_laws.proofs.OnlyReasons.{only_reason}
use Rattle.pgn_verifier.specs.laws.Reported.{Plain, PlainGame, PlainFault, is_at_begin, plain_of, plain_fault, without_spans, names_at, next_at, read_at, judged_at, report_then, fault_report, games_from, games_of, reports_on, reports_in, collection_reports, game_placed, fault_placed, placed_then, placed_from, placed_of, placed_on, placed_in, collection_placed, too_long_report, too_long_placed}
use Rattle.pgn_verifier.proofs.shared.ReportsAre.{are_reports_of, named, goes_on_there}

-- ---- one game

-- how a text is split from each offset on
same_split : (split : List ℕ → ℕ → List (ℕ × Token))
    → ((other : List ℕ) (from : ℕ) → IsSplit other from (split other from)) → split ≡ tokens_from
same_split split splits = fun_ext (λ other. fun_ext (λ from. split_read other (splits other from)))

-- a game's state and judgement are those that are computed
pub only_judged : (strict : Strictness) (text : List ℕ) (at : ℕ) (s : State) (answer : Result (Option PgnEnd) GameFault)
    → IsJudged strict text at s answer
    → (s ≡ (read_at strict.draws_of_2014 text at).state) × (answer ≡ judged_at strict text at)
unfolding pgn_read
only_judged strict text at s answer j =
    let all : List (ℕ × Token) = tokens_from text (after_byte_order_mark text at) in
    let same : j.tokens ≡ all = split_read text j.split in
    let read = sym j.read ∙ ap (read_of_split strict.draws_of_2014 MOST_MOVES (length text)) same in (
      ap (λ (r : GameRead). r.state) read,
      j.is
          ∙ ap (λ (split : List ℕ → ℕ → List (ℕ × Token)). judged strict (variation_in split text at s.start)
          (unknown_variant_in (length text) j.tokens) (result_tag_of (length text) j.tokens)
          (ending strict.draws_of_2014 s) j.ended)
          (same_split j.split_of j.splits)
          ∙ ap (λ (ts : List (ℕ × Token)). judged strict (variation_in tokens_from text at s.start)
          (unknown_variant_in (length text) ts) (result_tag_of (length text) ts)
          (ending strict.draws_of_2014 s) j.ended) same
          ∙ ap (λ (r : GameRead). judged strict (variation_in tokens_from text at r.state.start)
          (unknown_variant_in (length text) all) (result_tag_of (length text) all)
          (ending strict.draws_of_2014 r.state) r.answer) read,
    )

-- ---- a text

-- the report on a fault, whose part, names and reason are given
abbrev fault_given : Bool → ℕ → List ℕ → ℕ → Option ℕ → ℕ × List ℕ → GameFault → List ℕ → State → Option (List ℕ)
    → Placed
fault_given goes_on start text at next part fault names s reason =
    spanning (start + game_begin text at) (start + unwrap_or next (length text))
    (Faulty (record fault { offset = start + fault.offset }) names (start + part.0) part.1
    (explanation s fault.kind reason) (goes_on && not (is_some next) && nat_lt fault.offset (length text)))

-- what the reports are, if the first game was judged so: none, a report on a game and others, or a report on a fault
-- and the others after it
abbrev ReportsBy : Bool → Strictness → ℕ → List ℕ → ℕ → State → Result (Option PgnEnd) GameFault → List Placed → Type 0
ReportsBy goes_on strict start text at s (Ok None) reports = reports ≡ []
ReportsBy goes_on strict start text at s (Ok (Some end)) reports =
    (more : List Placed) × AreReports goes_on strict start text end.offset more
    × (reports ≡ game_placed start text at end s ∷ more)
ReportsBy goes_on strict start text at s (Err fault) reports =
    (more : List Placed)
    × AreReports goes_on strict start text (unwrap_or (next_at goes_on text at) (length text)) more
    × (reports ≡ fault_placed strict.draws_of_2014 goes_on start text at (next_at goes_on text at) fault s ∷ more)

-- it is the one that is made
fault_explained : (draws goes_on : Bool) (start : ℕ) (text : List ℕ) (at : ℕ) (next : Option ℕ) (part : ℕ × List ℕ)
    (fault : GameFault) (names : List ℕ) (s : State) (reason : Option (List ℕ)) → next ≡ next_at goes_on text at
    → part ≡ wrong_part fault.kind text (game_begin text at) fault.offset
    → names ≡ names_at text at → IsReason fault.kind (drop fault.offset text) (ending draws s) reason
    → fault_given goes_on start text at next part fault names s reason
    ≡ fault_placed draws goes_on start text at (next_at goes_on text at) fault s
fault_explained draws goes_on start text at next part fault names s reason there found are h =
    let own : ℕ × List ℕ = wrong_part fault.kind text (game_begin text at) fault.offset in
    ap (λ o. fault_given goes_on start text at o part fault names s reason) there
    ∙ ap (λ p. fault_given goes_on start text at (next_at goes_on text at) p fault names s reason) found
    ∙ ap (λ ns. fault_given goes_on start text at (next_at goes_on text at) own fault ns s reason) are
    ∙ ap (λ r. fault_given goes_on start text at (next_at goes_on text at) own fault (names_at text at) s r)
    (only_reason fault.kind (drop fault.offset text) (ending draws s) reason h)

module _ (goes_on : Bool) (strict : Strictness) (start : ℕ) (text : List ℕ) where
  abbrev ReportsAt : ℕ → List Placed → Type 0
  ReportsAt at reports =
      ReportsBy goes_on strict start text at (read_at strict.draws_of_2014 text at).state
      (judged_at strict text at) reports

  reports_at : {at : ℕ} {reports : List Placed} → AreReports goes_on strict start text at reports
      → ReportsAt at reports
  reports_at (none_left {at} {s} j) =
      let is = only_judged strict text at s (Ok None) j in
      subst (λ r. ReportsBy goes_on strict start text at (read_at strict.draws_of_2014 text at).state r []) is.1 refl
  reports_at (next_game {at} {s} {end} {reports} j h) =
      let is = only_judged strict text at s (Ok (Some end)) j in
      subst (λ r. ReportsBy goes_on strict start text at (read_at strict.draws_of_2014 text at).state r
      (game_placed start text at end s ∷ reports)) is.1
      (reports, h, ap (λ (g : State). game_placed start text at end g ∷ reports) is.0)
  reports_at (next_fault {at} {s} {fault} {reports} part reason next j found h there later) =
      let is = only_judged strict text at s (Err fault) j in
      let on : next ≡ next_at goes_on text at = there ∙ goes_on_there goes_on j in
      subst (λ r. ReportsBy goes_on strict start text at (read_at strict.draws_of_2014 text at).state r
      (fault_given goes_on start text at next part fault (names_of j.tokens) s reason ∷ reports)) is.1 (
        reports,
        subst (λ o. AreReports goes_on strict start text (unwrap_or o (length text)) reports) on later,
        ap (λ (p : Placed). p ∷ reports)
            (fault_explained strict.draws_of_2014 goes_on start text at next part fault (names_of j.tokens) s reason on
            found (named j) h)
            ∙ ap (λ (g : State). fault_placed strict.draws_of_2014 goes_on start text at
            (next_at goes_on text at) fault g ∷ reports) is.0,
      )

  -- any two lists of reports on the text are the same; by induction over the first
  one_list : {at : ℕ} {reports : List Placed} → AreReports goes_on strict start text at reports
      → (others : List Placed) → AreReports goes_on strict start text at others → others ≡ reports
  one_list (none_left {at} {s} j) others k =
      let is = only_judged strict text at s (Ok None) j in
      subst (λ r. ReportsBy goes_on strict start text at (read_at strict.draws_of_2014 text at).state r others)
      (sym is.1) (reports_at k)
  one_list (next_game {at} {s} {end} {reports} j h) others k =
      let is = only_judged strict text at s (Ok (Some end)) j in
      let more = subst (λ r. ReportsBy goes_on strict start text at
      (read_at strict.draws_of_2014 text at).state r others) (sym is.1)
      (reports_at k) in
      more.2
      ∙ ap (λ rs. game_placed start text at end (read_at strict.draws_of_2014 text at).state ∷ rs)
      (one_list h more.0 more.1) ∙ ap (λ (g : State). game_placed start text at end g ∷ reports) (sym is.0)
  one_list (next_fault {at} {s} {fault} {reports} part reason next j found h there later) others k =
      let is = only_judged strict text at s (Err fault) j in
      let on : next ≡ next_at goes_on text at = there ∙ goes_on_there goes_on j in
      let more = subst (λ r. ReportsBy goes_on strict start text at
      (read_at strict.draws_of_2014 text at).state r others) (sym is.1)
      (reports_at k) in
      let same : more.0 ≡ reports = one_list later more.0
      (subst (λ o. AreReports goes_on strict start text (unwrap_or o (length text)) more.0) (sym on) more.1) in
      more.2
      ∙ ap (λ rs. fault_placed strict.draws_of_2014 goes_on start text at (next_at goes_on text at) fault
      (read_at strict.draws_of_2014 text at).state ∷ rs) same
      ∙ ap (λ (g : State). fault_placed strict.draws_of_2014 goes_on start text at
      (next_at goes_on text at) fault g ∷ reports) (sym is.0)
      ∙ ap (λ (p : Placed). p ∷ reports)
      (sym (fault_explained strict.draws_of_2014 goes_on start text at next part fault (names_of j.tokens) s reason on
      found (named j) h))

  pub only_reports_of : (reports : List Placed) → AreReports goes_on strict start text 0 reports
      → reports ≡ placed_of goes_on strict start text
  only_reports_of reports h = one_list (are_reports_of goes_on strict start text) reports h

pub only_reports : (strict : Strictness) (start : ℕ) (text : List ℕ) (reports : List Placed)
    → AreReports false strict start text 0 reports → reports ≡ placed_on strict start text
only_reports strict start text reports h = only_reports_of false strict start text reports h

-- ---- pieces

-- a piece that is too long is reported as such; any other has the reports on its text
only_reports_in : (strict : Strictness) (piece : Piece) (reports : List Placed)
    → AreReportsIn strict piece.offset piece.bytes reports
    → reports ≡ placed_in strict piece
only_reports_in strict piece reports h = by_test (nat_le (length piece.bytes) PIECE_LEN) h
  where
    by_test : (b : Bool) → MatchBool b (AreReports true strict piece.offset piece.bytes 0 reports)
        (reports ≡ too_long_placed piece ∷ [])
        → reports ≡ (if b then placed_of true strict piece.offset piece.bytes else too_long_placed piece ∷ [])
    by_test true h = only_reports_of true strict piece.offset piece.bytes reports h
    by_test false h = h

-- so for all pieces one after another
pub only_all : {strict : Strictness} {offset : ℕ} {all : List (List ℕ)} {reports : List Placed}
    → AreCollectionReports strict offset all reports
    → reports ≡ flat_map (placed_in strict) (with_offsets offset all)
only_all {strict} no_piece = refl
only_all {strict} (next_piece {offset} {piece} {pieces} reports {more} h rest) =
    ap₂ (λ xs ys. xs ++ ys) (only_reports_in strict (record { offset = offset; bytes = piece }) reports h) (only_all rest)

pub only_collection_reports : (strict : Strictness) (ended : Bool) (text : List ℕ) (reports : List Placed)
    → AreCollectionReports strict 0 (known_pieces ended text) reports → reports ≡ collection_placed strict ended text
unfolding pieces
only_collection_reports strict ended text reports h = only_all h

-- ---- without their spans

-- a fault's report as such doesn't depend on where its game begins
record IsPlain (kind : FaultKind) (text : List ℕ) (start begin at : ℕ) : Type 0 where
  pub place : (if is_at_begin kind then start + at else start + (wrong_part kind text begin at).0)
      ≡ start + (wrong_part kind text at at).0
  pub word : (if is_at_begin kind then [] else (wrong_part kind text begin at).1)
      ≡ (if is_at_begin kind then [] else (wrong_part kind text at at).1)

-- by cases of the kind of fault: where its game begins (`begin`) makes no difference to place and word
is_plain : (kind : FaultKind) (text : List ℕ) (start begin at : ℕ) → IsPlain kind text start begin at
is_plain (Pgn pgn.BadTag) text start begin at = record { place = refl; word = refl }
is_plain (Pgn (pgn.BadFen fault)) text start begin at = record { place = refl; word = refl }
is_plain (Pgn pgn.BadToken) text start begin at = record { place = refl; word = refl }
is_plain (Pgn pgn.IllegalMove) text start begin at = record { place = refl; word = refl }
is_plain (Pgn pgn.AmbiguousMove) text start begin at = record { place = refl; word = refl }
is_plain (Pgn pgn.AfterEnd) text start begin at = record { place = refl; word = refl }
is_plain (Pgn pgn.TooLong) text start begin at = record { place = refl; word = refl }
is_plain (Pgn pgn.UnclosedComment) text start begin at = record { place = refl; word = refl }
is_plain (Pgn pgn.UnclosedVariation) text start begin at = record { place = refl; word = refl }
is_plain (Pgn pgn.NoResult) text start begin at = record { place = refl; word = refl }
is_plain (InVariation kind) text start begin at = record { place = refl; word = refl }
is_plain UnknownVariant text start begin at = record { place = refl; word = refl }
is_plain (ResultDiffers tag_len outcome) text start begin at = record { place = refl; word = refl }
is_plain BoardSaysOtherwise text start begin at = record { place = refl; word = refl }

-- the report on a fault without its span
plain_is : (draws goes_on : Bool) (start : ℕ) (text : List ℕ) (at : ℕ) (next : Option ℕ) (fault : GameFault)
    (s : State) → plain_of (fault_report draws goes_on start text at next fault s)
    ≡ plain_fault draws start text fault s
plain_is draws goes_on start text at next fault s =
    let plain = is_plain fault.kind text start (game_begin text at) fault.offset in
    ap₂ (λ n xs. PlainFault (record fault { offset = start + fault.offset }) n
    (xs ++ explanation s fault.kind (reason fault.kind (drop fault.offset text) (ending draws s))))
    plain.place plain.word

-- reports without their spans, of at most n games from `at` on; by induction over n
same_from : (goes_on : Bool) (strict : Strictness) (start n : ℕ) (text : List ℕ) (at : ℕ)
    → without_spans (placed_from goes_on strict start n text at) ≡ games_from goes_on strict start n text at
unfolding placed_from games_from
same_from goes_on strict start zero text at = refl
same_from goes_on strict start (suc n) text at =
    by_answer (judged_at strict text at) (λ next. same_from goes_on strict start n text next)
  where
    s : State
    s = (read_at strict.draws_of_2014 text at).state

    placed : ℕ → List Placed
    placed next = placed_from goes_on strict start n text next

    plain : ℕ → List Plain
    plain next = games_from goes_on strict start n text next

    on : (next : Option ℕ) → ((m : ℕ) → without_spans (placed m) ≡ plain m)
        → without_spans (option_map_or placed next []) ≡ option_map_or plain next []
    on None later = refl
    on (Some m) later = later m

    by_answer : (r : Result (Option PgnEnd) GameFault) → ((m : ℕ) → without_spans (placed m) ≡ plain m)
        → without_spans (placed_then strict.draws_of_2014 goes_on start text at (next_at goes_on text at) r s placed)
        ≡ report_then strict.draws_of_2014 start text (next_at goes_on text at) r s plain
    by_answer (Ok None) later = refl
    by_answer (Ok (Some end)) later =
        ap (λ rs. PlainGame (length s.moves) end.outcome end.termination ∷ rs) (later end.offset)
    by_answer (Err fault) later =
        ap₂ (λ (r : Plain) (rs : List Plain). r ∷ rs)
        (plain_is strict.draws_of_2014 goes_on start text at (next_at goes_on text at) fault s)
        (on (next_at goes_on text at) later)

pub same_of : (goes_on : Bool) (strict : Strictness) (start : ℕ) (text : List ℕ)
    → without_spans (placed_of goes_on strict start text) ≡ games_of goes_on strict start text
same_of goes_on strict start text = same_from goes_on strict start (length text + 1) text 0

pub same_on : (strict : Strictness) (start : ℕ) (text : List ℕ)
    → without_spans (placed_on strict start text) ≡ reports_on strict start text
same_on strict start text = same_of false strict start text

same_in : (strict : Strictness) (piece : Piece) → without_spans (placed_in strict piece) ≡ reports_in strict piece
same_in strict piece = by_test (nat_le (length piece.bytes) PIECE_LEN)
  where
    by_test : (b : Bool)
        → without_spans (if b then placed_of true strict piece.offset piece.bytes else too_long_placed piece ∷ [])
        ≡ (if b then games_of true strict piece.offset piece.bytes else too_long_report piece ∷ [])
    by_test true = same_of true strict piece.offset piece.bytes
    by_test false = ap (λ xs. PlainFault (record { kind = Pgn pgn.TooLong; offset = piece.offset }) piece.offset xs ∷ [])
        (append-nil (shown piece.bytes))

same_all : (strict : Strictness) (all : List Piece)
    → without_spans (flat_map (placed_in strict) all) ≡ flat_map (reports_in strict) all
same_all strict [] = refl
same_all strict (piece ∷ more) =
    map-append (λ (p : Placed). plain_of p.report) (placed_in strict piece) (flat_map (placed_in strict) more)
    ∙ ap₂ (λ xs ys. xs ++ ys) (same_in strict piece) (same_all strict more)

pub same_of_collection : (strict : Strictness) (ended : Bool) (text : List ℕ)
    → without_spans (collection_placed strict ended text) ≡ collection_reports strict ended text
same_of_collection strict ended text = same_all strict (pieces ended 0 text)
