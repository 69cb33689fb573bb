-- What is reported of a game, its end or its fault. `judge_past_draws` reads a game as if the draws of 2014 ended none,
-- and its answer is the definition's (none_judged, fault_judged, end_judged), with offsets in the text (ends_later,
-- fault_read) and a byte for each half-move (few_read). The game that it leaves may have another start, but has the
-- same position and verdict (Stands), so faults are explained alike (explained_alike).
use Rattle.std.proofs.Common.{◌≡◌, ◌∙◌, ◌<◌, ◌≤◌, ◌+◌, ◌++◌, ℕ, Bool, false, List, [], length, Option, Some, None, IfErr, IfOk, IfSome, Result, Ok, Err, ap, codes, if◌then◌else◌, subst, sym}
use Rattle.std.specs.Option.{option_map_or}
use Rattle.byte_devices.specs.Bytes.{after_byte_order_mark}
use Rattle.chess_base.specs.declared.setup.Setup.{Setup}
use Rattle.chess_fen.specs.Writing.{fen}
use Rattle.chess_game.specs.{Game.State, Game.current, declared.game.TheConstants.MOST_MOVES, declared.verdicts.Verdict.Verdict}
use Rattle.chess_pgn.specs.{GameRead.GameRead, GameRead.ending, ResultTags.result_tag_of, UnknownVariants.unknown_variant_in, declared.past_draws.ReadGame.ReadGame, declared.read.PgnEnd.PgnEnd, declared.read.PgnFault.PgnFault, declared.tagged_result.ResultTag.ResultTag, laws.Offsets.FaultsHaveOffsets, laws.Offsets.HalfMovesHaveBytes, PastDraws.IsAnswer, PastDraws.Stands}
use Rattle.pgn_tokens.specs.Tokens.{Token, tokens_from}
use Rattle.chess_pgn.proofs.shared.Ends.{ends_in_text}
use Rattle.verify_options.specs.declared.options.Strictness.{Strictness}
use Rattle.pgn_verifier.specs.{Explanations.explanation, Explanations.has_position, GameFaults.judged, declared.game_fault.FaultKind.FaultKind, declared.game_fault.FaultKind.TheVariants.Pgn, declared.game_fault.GameFault.GameFault, laws.Reasons.reason, laws.Reported.judged_of, laws.Reported.read_at, shared.Contradictions.end_fault, shared.Contradictions.variation_in, ties.Explaining.explanation_of, ties.Explaining.part_on}

-- a game stands for itself
pub stands_same : (draws : Bool) (g s : State) → g ≡ s → Stands draws g s
stands_same draws g s e = record { position = ap current e; ends = ap (ending draws) e }

-- a fault is explained by the position and the verdict alone, so alike for games that agree in these (Stands)
pub explained_alike : (draws : Bool) (g s : State) → Stands draws g s → (text : List ℕ) (kind : FaultKind)
    → explanation_of draws g text kind ≡ explanation_of draws s text kind
explained_alike draws g s alike text kind =
    ap (λ (p : Setup). (part_on kind text).1 ++ ((if has_position kind then codes " | " ++ fen p else [])
    ++ option_map_or (λ why. codes " | " ++ why) (reason kind text (ending draws g)) [])) alike.position
    ∙ ap (λ (v : Option Verdict). (part_on kind text).1 ++ explanation s kind (reason kind text v)) alike.ends

-- ---- a game that is read as if the draws of 2014 ended none

-- the game that is read from `at` on without the draws of 2014 (`r`), and its tags
module _ (strict : Strictness) (text : List ℕ) (at : ℕ) where
  abbrev r : GameRead
  r = read_at false text at

  abbrev unknown : Option ℕ
  unknown = unknown_variant_in (length text) (tokens_from text (after_byte_order_mark text at))

  abbrev tag : Option ResultTag
  tag = result_tag_of (length text) (tokens_from text (after_byte_order_mark text at))

  abbrev by_answer : Result (Option PgnEnd) PgnFault → Result (Option PgnEnd) GameFault
  by_answer answer = judged strict (variation_in tokens_from text at r.state.start) unknown tag
      (ending strict.draws_of_2014 r.state) answer

  pub none_judged : IsAnswer r (Ok None) → Ok None ≡ judged_of strict text at r
  none_judged is = ap by_answer (sym is)

  pub fault_judged : (fault : PgnFault) → IsAnswer r (Err fault)
      → Err (record { kind = Pgn fault.kind; offset = fault.offset }) ≡ judged_of strict text at r
  fault_judged fault is = ap by_answer (sym is)

  pub end_judged : (read : ReadGame) (g : State) (fault : Option GameFault) → strict.draws_of_2014 ≡ false
      → IsAnswer r (Ok (Some read)) → Stands false g r.state
      → fault ≡ end_fault strict (variation_in tokens_from text at read.start) unknown tag
      (ending strict.draws_of_2014 g) read.end
      → option_map_or Err fault (Ok (Some read.end)) ≡ judged_of strict text at r
  end_judged read g fault draws is alike found =
      let same : ending strict.draws_of_2014 g ≡ ending strict.draws_of_2014 r.state =
      ap (λ (b : Bool). ending b g) draws ∙ alike.ends ∙ ap (λ (b : Bool). ending b r.state) (sym draws) in
      let whole : Setup → Option Verdict → Result (Option PgnEnd) PgnFault → Result (Option PgnEnd) GameFault =
      λ p v answer. judged strict (variation_in tokens_from text at p) unknown tag v answer in
      ap (λ (f : Option GameFault). (let all : Result (Option PgnEnd) GameFault = option_map_or Err f
      (Ok (Some read.end))
      in all)) found
      ∙ ap (λ (p : Setup). whole p (ending strict.draws_of_2014 g) (Ok (Some read.end))) is.1
      ∙ ap (λ (v : Option Verdict). whole r.state.start v (Ok (Some read.end))) same
      ∙ ap by_answer (sym is.0)

  -- it ends in the text, after the offset where it is read
  pub ends_later : (read : ReadGame) → at ≤ length text → IsAnswer r (Ok (Some read))
      → (at < read.end.offset) × (read.end.offset ≤ length text)
  ends_later read h is =
      subst (λ (a : Result (Option PgnEnd) PgnFault). IfOk a (λ o. IfSome o (λ e. (at < e.offset)
      × (e.offset ≤ length text)))) is.0 (ends_in_text false MOST_MOVES text at h)

  pub fault_read : FaultsHaveOffsets → (fault : PgnFault) → at ≤ length text → IsAnswer r (Err fault)
      → fault.offset ≤ length text
  fault_read law fault h is =
      (subst (λ (a : Result (Option PgnEnd) PgnFault). IfErr a (λ f. (at ≤ f.offset) × (f.offset ≤ length text))) is
      (law false MOST_MOVES text at h)).1

  pub few_read : HalfMovesHaveBytes → (read : ReadGame) → at ≤ length text → IsAnswer r (Ok (Some read))
      → read.plies + at ≤ read.end.offset
  few_read law read h is =
      subst (λ n. n + at ≤ read.end.offset) (sym is.2)
      (subst (λ (a : Result (Option PgnEnd) PgnFault). IfOk a (λ o. IfSome o
      (λ e. length r.state.moves + at ≤ e.offset))) is.0 (law false MOST_MOVES text at h))
