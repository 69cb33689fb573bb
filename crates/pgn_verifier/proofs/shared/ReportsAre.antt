-- The reports that are made game by game (`placed_on`, and for a collection piece by piece) are those that the
-- relations ask for (judged_is, are_reports, are_collection_reports). The relations speak of some split of the text
-- into tokens; the tokens that are read one after another (`tokens_from`) are such a split. By induction on a bound for
-- the number of games left, and on the pieces.
use Rattle.std.proofs.Common.{◌≡◌, ℕ, zero, suc, ◌+◌, ◌<◌, ◌≤◌, Bool, List, [], ◌∷◌, length, drop, Option, Some, None, IfSome, true, false, not, ◌&&◌, is_some, nat_lt, Result, Ok, Err, IfOk, refl, sym, ap, subst, arith, flat_map, MatchBool, nat_le, if◌then◌else◌}
use Rattle.std.specs.Option.{option_map_or, unwrap_or}
use Rattle.chess_game.specs.{Game.State, declared.game.TheConstants.MOST_MOVES, declared.verdicts.Verdict.Verdict}
use Rattle.chess_pgn.specs.{GameRead.ending, GameRead.pgn_read, GameRead.read_of_split, ResultTags.result_tag_of, UnknownVariants.unknown_variant_in, GameEnds.game_end, declared.read.PgnEnd.PgnEnd, declared.read.PgnFault.PgnFault, declared.tagged_result.ResultTag.ResultTag}
use Rattle.pgn_tokens.specs.Tokens.{tokens_from}
use Rattle.byte_devices.specs.Bytes.{after_byte_order_mark}
use Rattle.chess_pgn.proofs.shared.Ends.{ends_in_text, end_in_text}
use Rattle.pgn_tokens.proofs.shared.Tokens.{none_from_end, read_split, split_read}
use Rattle.pgn_pieces.specs.{Pieces.known_pieces, Stream.Piece, Stream.with_offsets, Stream.pieces, declared.pieces.TheConstants.PIECE_LEN}
use Rattle.verify_options.specs.declared.options.Strictness.{Strictness}
use Rattle.pgn_verifier.specs.{Collection.AreCollectionReports, Collection.no_piece, Collection.next_piece, GameFaults.judged, GameFaults.IsJudged, shared.Contradictions.end_fault, shared.Contradictions.variation_in, declared.game_fault.GameFault.GameFault, laws.Reasons.reason}
use Rattle.pgn_verifier.specs.Reports.{Faulty, Placed, game_begin, names_of, AreReports, none_left, next_game, next_fault, AreReportsIn}
use Rattle.pgn_verifier.specs.Explanations.{explanation, wrong_part}
use Rattle.pgn_verifier.proofs.shared.TagReasons.{reason_is}
use Rattle.pgn_verifier.specs.laws.Reported.{names_at, next_at, read_at, judged_at, fault_placed, placed_then, placed_from, placed_of, placed_on, placed_in, collection_placed, too_long_placed}

-- ---- one game

-- what is judged of a text is what `IsJudged` asks for
pub judged_is : (strict : Strictness) (text : List ℕ) (at : ℕ)
    → IsJudged strict text at (read_at strict.draws_of_2014 text at).state (judged_at strict text at)
unfolding pgn_read
judged_is strict text at = record {
  tokens = tokens_from text (after_byte_order_mark text at);
  split = read_split text (after_byte_order_mark text at);
  split_of = tokens_from;
  splits = read_split;
  ended = (read_at strict.draws_of_2014 text at).answer;
  read = refl;
  is = refl;
}

-- ---- a text

-- what names a game, by the tokens by which it was judged
pub named : {strict : Strictness} {text : List ℕ} {at : ℕ} {s : State} {r : Result (Option PgnEnd) GameFault}
    → (j : IsJudged strict text at s r) → names_of j.tokens ≡ names_at text at
named {strict} {text} j = ap names_of (split_read text j.split)

-- the report on a fault, with its span, of a game whose names are given
abbrev pub fault_named : Bool → Bool → ℕ → List ℕ → ℕ → Option ℕ → GameFault → State → List ℕ → Placed
fault_named draws goes_on start text at next fault s names =
    record (fault_placed draws goes_on start text at next fault s) {
      report = Faulty (record fault { offset = start + fault.offset }) names
          (start + (wrong_part fault.kind text (game_begin text at) fault.offset).0)
          (wrong_part fault.kind text (game_begin text at) fault.offset).1
          (explanation s fault.kind (reason fault.kind (drop fault.offset text) (ending draws s)))
          (goes_on && not (is_some next) && nat_lt fault.offset (length text));
    }

-- if a game was read and judged without a fault, it ends after `at` and within `total` bytes
abbrev EndsIn : ℕ → ℕ → Result (Option PgnEnd) GameFault → Type 0
EndsIn total at r = IfOk r (λ o. IfSome o (λ e. (at < e.offset) × (e.offset ≤ total)))

-- a game that is judged ends where the game that was read ends
judged_end : (strict : Strictness) (variation : PgnEnd → Option PgnFault) (unknown : Option ℕ)
    (tag : Option ResultTag) (verdict : Option Verdict) (total at : ℕ) (r : Result (Option PgnEnd) PgnFault)
    → IfOk r (λ o. IfSome o (λ e. (at < e.offset) × (e.offset ≤ total)))
    → EndsIn total at (judged strict variation unknown tag verdict r)
judged_end strict variation unknown tag verdict total at (Ok None) h = tt
judged_end strict variation unknown tag verdict total at (Err f) h = tt
judged_end strict variation unknown tag verdict total at (Ok (Some end)) h =
    by_fault (end_fault strict variation unknown tag verdict end)
  where
    by_fault : (o : Option GameFault) → EndsIn total at (option_map_or Err o (Ok (Some end)))
    by_fault None = h
    by_fault (Some f) = tt

-- a game that is judged from `at` on ends after `at` and in the text
ends : (strict : Strictness) (text : List ℕ) (at : ℕ) → at ≤ length text
    → EndsIn (length text) at (judged_at strict text at)
ends strict text at h =
    judged_end strict (variation_in tokens_from text at (read_at strict.draws_of_2014 text at).state.start)
    (unknown_variant_in (length text) (tokens_from text (after_byte_order_mark text at)))
    (result_tag_of (length text) (tokens_from text (after_byte_order_mark text at)))
    (ending strict.draws_of_2014 (read_at strict.draws_of_2014 text at).state) (length text) at
    (read_at strict.draws_of_2014 text at).answer (ends_in_text strict.draws_of_2014 MOST_MOVES text at h)

-- where reading goes on after a fault, by the tokens by which the game was judged
pub goes_on_there : {strict : Strictness} {text : List ℕ} {at : ℕ} {s : State} {r : Result (Option PgnEnd) GameFault}
    → (goes_on : Bool) (j : IsJudged strict text at s r)
    → (if goes_on then game_end (length text) j.tokens else None) ≡ next_at goes_on text at
goes_on_there {strict} {text} goes_on j =
    ap (λ ts. if goes_on then game_end (length text) ts else None) (split_read text j.split)

-- that is later in the text
pub later_there : (goes_on : Bool) (text : List ℕ) (at : ℕ) → at ≤ length text
    → IfSome (next_at goes_on text at) (λ next. (at < next) × (next ≤ length text))
later_there true text at h = end_in_text text at h
later_there false text at h = tt

-- at a text's end no game is left
pub none_at_end : (strict : Strictness) (text : List ℕ) → judged_at strict text (length text) ≡ Ok None
unfolding pgn_read
none_at_end strict text =
    ap (λ ts. judged strict
    (variation_in tokens_from text (length text)
    (read_of_split strict.draws_of_2014 MOST_MOVES (length text) ts).state.start)
    (unknown_variant_in (length text) ts) (result_tag_of (length text) ts)
    (ending strict.draws_of_2014 (read_of_split strict.draws_of_2014 MOST_MOVES (length text) ts).state)
    (read_of_split strict.draws_of_2014 MOST_MOVES (length text) ts).answer) (none_from_end text)

-- the reports on a text, game by game; by induction on a bound for the number of games left
module _ (goes_on : Bool) (strict : Strictness) (start : ℕ) (text : List ℕ) where
  nothing_there : AreReports goes_on strict start text (length text) []
  nothing_there =
      none_left (subst (IsJudged strict text (length text) (read_at strict.draws_of_2014 text (length text)).state)
      (none_at_end strict text) (judged_is strict text (length text)))

  from_here : (n at : ℕ) → at ≤ length text → length text < n + at
      → AreReports goes_on strict start text at (placed_from goes_on strict start n text at)
  unfolding placed_from
  from_here zero at h k = absurd (omega (arith, h, k))
  from_here (suc n) at h k =
      by_answer (judged_at strict text at) (judged_is strict text at) (ends strict text at h)
      (λ m i j. from_here n m i j)
    where
      s : State
      s = (read_at strict.draws_of_2014 text at).state

      Later : Type 0
      Later = (m : ℕ) → m ≤ length text → length text < n + m
          → AreReports goes_on strict start text m (placed_from goes_on strict start n text m)

      after_fault : (next : Option ℕ) → IfSome next (λ m. (at < m) × (m ≤ length text)) → Later
          → AreReports goes_on strict start text (unwrap_or next (length text))
          (option_map_or (λ m. placed_from goes_on strict start n text m) next [])
      after_fault None h later = nothing_there
      after_fault (Some m) low later = let further = low.0 in later m low.1 (omega (arith, k, further))

      by_answer : (r : Result (Option PgnEnd) GameFault) → IsJudged strict text at s r → EndsIn (length text) at r
          → Later → AreReports goes_on strict start text at
          (placed_then strict.draws_of_2014 goes_on start text at (next_at goes_on text at) r s
          (λ m. placed_from goes_on strict start n text m))
      by_answer (Ok None) j i later = none_left j
      by_answer (Ok (Some end)) j i later =
          let low = i.0 in next_game j (later end.offset i.1 (omega (arith, k, low)))
      by_answer (Err fault) j i later =
          let rest : List ℕ = drop fault.offset text in
          let verdict : Option Verdict = ending strict.draws_of_2014 s in
          let next : Option ℕ = next_at goes_on text at in
          let more : List Placed = option_map_or (λ m. placed_from goes_on strict start n text m) next [] in
          subst (λ ns. AreReports goes_on strict start text at
          (fault_named strict.draws_of_2014 goes_on start text at next fault s ns ∷ more)) (named j)
          (next_fault (wrong_part fault.kind text (game_begin text at) fault.offset)
          (reason fault.kind rest verdict) next j refl (reason_is fault.kind rest verdict)
          (sym (goes_on_there goes_on j)) (after_fault next (later_there goes_on text at h) later))

  -- the reports on a text are those that `AreReports` asks for
  pub are_reports_of : AreReports goes_on strict start text 0 (placed_of goes_on strict start text)
  are_reports_of = from_here (length text + 1) 0 (omega arith) (omega arith)

-- and so are those up to the first fault
pub are_reports : (strict : Strictness) (start : ℕ) (text : List ℕ)
    → AreReports false strict start text 0 (placed_on strict start text)
are_reports strict start text = are_reports_of false strict start text

-- ---- pieces

-- the reports on a piece are those that `AreReportsIn` asks for
reports_are_in : (strict : Strictness) (piece : Piece)
    → AreReportsIn strict piece.offset piece.bytes (placed_in strict piece)
reports_are_in strict piece = by_test (nat_le (length piece.bytes) PIECE_LEN)
  where
    by_test : (b : Bool) → MatchBool b (AreReports true strict piece.offset piece.bytes 0
        (if b then placed_of true strict piece.offset piece.bytes else too_long_placed piece ∷ []))
        ((if b then placed_of true strict piece.offset piece.bytes else too_long_placed piece ∷ [])
        ≡ too_long_placed piece ∷ [])
    by_test true = are_reports_of true strict piece.offset piece.bytes
    by_test false = refl

-- the reports on pieces, one after another from `offset` on, are those that `AreCollectionReports` asks for
are_all : (strict : Strictness) (offset : ℕ) (all : List (List ℕ))
    → AreCollectionReports strict offset all (flat_map (placed_in strict) (with_offsets offset all))
are_all strict offset [] = no_piece
are_all strict offset (piece ∷ more) =
    next_piece (placed_in strict (record { offset = offset; bytes = piece }))
    (reports_are_in strict (record { offset = offset; bytes = piece })) (are_all strict (offset + length piece) more)

-- the reports on a collection are those that `AreCollectionReports` asks for
pub are_collection_reports : (strict : Strictness) (ended : Bool) (text : List ℕ)
    → AreCollectionReports strict 0 (known_pieces ended text) (collection_placed strict ended text)
unfolding pieces
are_collection_reports strict ended text = are_all strict 0 (known_pieces ended text)
