-- A game as it is written has no fault (written_games): it is read back (by a law, an argument here), its variant is
-- known, and neither its tag Result nor the board contradicts its outcome (nothing_contradicts).
use Rattle.std.proofs.Common.{◌≡◌, ℕ, Bool, true, false, List, [], ◌++◌, length, Option, Some, None, Ok, Err, refl, sym, ap, subst, ◌∙◌, option_and_then, if◌then◌else◌}
use Rattle.std.specs.Option.{option_map, option_map_or, option_or}
use Rattle.chess_game.specs.{Ends.verdict_result, Game.outcome_now, Game.verdict_now, Results.same_outcome, declared.game.TheConstants.MOST_MOVES, declared.results.Declared.Declared, declared.results.Outcome.Outcome, declared.verdicts.Verdict.Verdict}
use Rattle.chess_game.specs.declared.results.Outcome.TheVariants.{WhiteWins, BlackWins, Draw, Unfinished}
use Rattle.chess_game.specs.declared.verdicts.Verdict.TheVariants.{WhiteMates, BlackMates, Stalemate, InsufficientMaterial, FivefoldRepetition, SeventyFiveMoves}
use Rattle.chess_pgn.specs.{GameRead.GameRead, GameRead.ending, GameRead.not_of_2014, GameRead.pgn_read, ResultTags.result_tag_of, UnknownVariants.unknown_variant_in, declared.read.PgnEnd.PgnEnd, declared.read.PgnFault.PgnFault, declared.tagged_result.ResultTag.ResultTag}
use Rattle.pgn_tokens.specs.Tokens.{tokens_from}
use Rattle.pgn_writer.specs.{GameText.pgn, Terminations.termination_of}
use Rattle.byte_devices.specs.Bytes.{after_byte_order_mark}
use Rattle.verify_options.specs.declared.options.Strictness.{Strictness}
use Rattle.pgn_verifier.specs.{declared.game_fault.GameFault.GameFault, shared.Contradictions.end_fault, shared.Contradictions.looked_for, shared.Contradictions.variant_fault, shared.Contradictions.variation_in}
use Rattle.chess_pgn_laws.specs.PgnLaw.{PgnIsReadBack, ResultIsWritten, VariantIsWritten}
use Rattle.pgn_tokens.proofs.shared.Tokens.{read_split}
use Rattle.pgn_verifier.specs.GameFaults.{result_differs, board_says_otherwise, judged, IsJudged}
use Rattle.pgn_verifier.proofs.shared.ReportsAre.{judged_is}
use Rattle.pgn_verifier_laws.specs.WrittenGames.{WrittenGamesHaveNoFault}

same_self : (o : Outcome) → same_outcome o o ≡ true
same_self WhiteWins = refl
same_self BlackWins = refl
same_self Draw = refl
same_self Unfinished = refl

-- a tag Result with the game's outcome o agrees with its end
tag_agrees : (o : Outcome) (end : PgnEnd) (tag : Option ResultTag) → end.outcome ≡ o
    → option_and_then (λ (t : ResultTag). t.outcome) tag ≡ Some o → result_differs tag end ≡ None
tag_agrees o end None is named = absurd (cc)
tag_agrees o end (Some t) is named = rw (named, is, same_self o) refl

-- the board agrees with the outcome, which is its verdict's, if it has one
board_agrees : (v : Option Verdict) (d : Option Declared) (end : PgnEnd)
    → end.outcome ≡ option_map_or (λ (x : Declared). x.outcome) (option_or (option_map verdict_result v) d) Unfinished
    → board_says_otherwise v end ≡ None
board_agrees None d end is = refl
board_agrees (Some v) d end is = rw (is, same_self (verdict_result v).outcome) refl

-- nor does the verdict contradict it that ends the game for its reader
ending_agrees : (draws : Bool) (v : Option Verdict) (end : PgnEnd) → board_says_otherwise v end ≡ None
    → board_says_otherwise (if draws then v else option_and_then not_of_2014 v) end ≡ None
ending_agrees true v end h = h
ending_agrees false None end h = refl
ending_agrees false (Some WhiteMates) end h = h
ending_agrees false (Some BlackMates) end h = h
ending_agrees false (Some Stalemate) end h = h
ending_agrees false (Some InsufficientMaterial) end h = h
ending_agrees false (Some FivefoldRepetition) end h = refl
ending_agrees false (Some SeventyFiveMoves) end h = refl

-- what is no fault is none, looked for or not
looked_none : (looked : Bool) (fault : Option GameFault) → fault ≡ None → looked_for looked fault ≡ None
looked_none true fault none = none
looked_none false fault none = refl

nothing_contradicts : (strict : Strictness) → strict.variations ≡ false → (variation : PgnEnd → Option PgnFault)
    (unknown : Option ℕ) (tag : Option ResultTag) (v : Option Verdict) (end : PgnEnd) → unknown ≡ None
    → result_differs tag end ≡ None → board_says_otherwise v end ≡ None
    → end_fault strict variation unknown tag v end ≡ None
nothing_contradicts strict plain variation unknown tag v end known first second =
    rw (
      plain,
      looked_none strict.variant (variant_fault unknown) (ap variant_fault known),
      looked_none strict.result (result_differs tag end) first,
    ) (looked_none strict.board (board_says_otherwise v end) second)

-- what the tags Result and Variant of written games say
abbrev pub TagsAreWritten : Type 0
TagsAreWritten = ResultIsWritten × VariantIsWritten

pub written_games : PgnIsReadBack → TagsAreWritten → WrittenGamesHaveNoFault
written_games read (result, variant) strict plain tags s before after texts h =
    let text : List ℕ = before ++ pgn [] tags s ++ after in
    let begin : ℕ = after_byte_order_mark text (length before) in
    let r : GameRead = pgn_read strict.draws_of_2014 MOST_MOVES text (length before) in
    let back = read strict.draws_of_2014 MOST_MOVES tags s before after texts h in
    let unknown : Option ℕ = unknown_variant_in (length text) (tokens_from text begin) in
    let tag : Option ResultTag = result_tag_of (length text) (tokens_from text begin) in
    let named = result MOST_MOVES tags s before after texts h (tokens_from text begin) (read_split text begin) in
    let known = variant MOST_MOVES tags s before after texts h (tokens_from text begin) (read_split text begin) in
    let end : PgnEnd = record {
      outcome = outcome_now s;
      termination = Some (termination_of tags.ended (outcome_now s));
      offset = back.offset;
    } in
    record {
      read = r.state;
      end = end;
      judged = subst (IsJudged strict text (length before) r.state)
          (ap (judged strict (variation_in tokens_from text (length before) r.state.start) unknown tag
          (ending strict.draws_of_2014 r.state)) back.answer
          ∙ ap (λ fault. option_map_or Err fault (Ok (Some end)))
          (nothing_contradicts strict plain (variation_in tokens_from text (length before) r.state.start) unknown tag
          (ending strict.draws_of_2014 r.state) end known
          (tag_agrees (outcome_now s) end tag refl named)
          (ending_agrees strict.draws_of_2014 (verdict_now r.state) end
          (board_agrees (verdict_now r.state) r.state.declared end (sym back.outcome)))))
          (judged_is strict text (length before));
      start = back.start;
      moves = back.moves;
      outcome = refl;
      two_before_end = back.two_before_end;
    }
