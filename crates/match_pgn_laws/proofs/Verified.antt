-- What a match writes passes `verify` without a fault (matches_pass_verify): its games are playable (playable,
-- writable), and the text of playable games is verified without a fault, by a law of pgn_verifier_laws. So the reports
-- have the results of the games, which are those of the lines `[Result ..]` (same_results).
use Rattle.std.proofs.Common.{◌≡◌, ◌∙◌, ℕ, ◌+◌, ◌≤◌, ◌<◌, List, [], ◌∷◌, ◌++◌, length, map, take, None, false, refl, sym, ap, subst, codes, flat_map}
use Rattle.std.specs.List.{enumerate_from}
use Rattle.byte_devices.specs.Transfers.{OutputTook, all_of}
use Rattle.chess_base.specs.{Sound.IsSound, declared.man.Move.Move, declared.setup.Setup.Setup}
use Rattle.chess_game.specs.{Ends.verdict, Game.IsPlayable, Game.outcome_now, Results.outcome_text, declared.game.TheConstants.MOST_MOVES, declared.results.Outcome.Outcome}
use Rattle.chess_game.specs.declared.results.Outcome.TheVariants.{WhiteWins, BlackWins, Draw, Unfinished}
use Rattle.chess_match_laws.specs.OfActs.{EndsAtVerdicts, GamesAreLines, InEachMatch, OutcomesAreOfTheGame}
use Rattle.match_runner.specs.Games.{GameRecord, game_text, game_texts, tags_of}
use Rattle.chess_match.specs.declared.games_plan.GamesPlan.{GamesPlan}
use Rattle.verify_options.specs.declared.options.Strictness.{Strictness}
use Rattle.pgn_verifier.specs.{Reports.AreReports, laws.Reported.Plain, laws.Reported.placed_on, laws.Reported.reports_on, laws.Reported.without_spans}
use Rattle.pgn_verifier_laws.specs.WrittenGames.{AreWritable, TaggedGame, WrittenTextsHaveNoFault, report_of, written_text}
use Rattle.match_pgn_laws.specs.{Scores.result_lines, Scores.sum_of, Verified.MatchesPassVerify, Verified.result_reported}
use Rattle.match_pgn_laws.proofs.Games.{AreOfPlan, IsGame, is_game, is_line, is_sound, tag_texts, wrote}
use Rattle.match_pgn_laws.proofs.{ResultLines.result_tag, Summed.score_is, Summed.tag_of, Summed.tags_found}

-- ---- a game

-- the game of a match can be played: from a sound start by legal moves, not too many, and with no verdict before the
-- last
playable : GamesAreLines → InEachMatch EndsAtVerdicts → (plan : GamesPlan) (number : ℕ)
    (played : GameRecord) → IsGame plan number played → IsSound plan.start
    → IsPlayable (record { limit = MOST_MOVES; state = played.after.game.state })
playable lines ends plan number played g sound =
    let end = ends _ g.acts g.final g.is_match in record {
      start = is_sound plan number played g sound;
      line = is_line lines plan number played g;
      limit = subst (λ (ms : List Move). length ms ≤ MOST_MOVES) (sym g.moves) end.0;
      unended = subst (λ (p : Setup). (k : ℕ) → k < length played.after.game.state.moves
          → verdict p (take k played.after.game.state.moves) ≡ None) (sym g.start)
          (subst (λ (ms : List Move). (k : ℕ) → k < length ms → verdict plan.start (take k ms) ≡ None) (sym g.moves)
          end.1);
    }

-- ---- all games

-- the games of a match as they are written, numbered from `n` on
abbrev tagged : GamesPlan → ℕ → List GameRecord → List TaggedGame
tagged plan n games =
    map (λ g. (let t : TaggedGame = record { tags = tags_of plan g.0 g.1.end; state = g.1.after.game.state } in t))
    (enumerate_from n games)

-- so all games can be written as PGN, with their tags
writable : GamesAreLines → InEachMatch EndsAtVerdicts → OutcomesAreOfTheGame → (plan : GamesPlan) (n : ℕ)
    (games : List GameRecord) → IsSound plan.start → AreOfPlan plan n games
    → AreWritable (tagged plan n games)
writable lines ends outcomes plan n [] sound h = tt
writable lines ends outcomes plan n (g ∷ games) sound h = (
  tag_texts plan n g.end,
  playable lines ends plan n g (is_game outcomes plan n g h.0) sound,
  writable lines ends outcomes plan (n + 1) games sound h.1,
)

-- their text is that of the match
same_text : (plan : GamesPlan) (n : ℕ) (games : List GameRecord)
    → written_text (tagged plan n games) ≡ flat_map (λ g. game_text plan g.0 g.1) (enumerate_from n games)
same_text plan n [] = refl
same_text plan n (g ∷ games) = ap (λ t. game_text plan n g ++ t) (same_text plan (n + 1) games)

-- the line that a report's outcome has
tag_is : (o : Outcome) → codes "[Result \"" ++ outcome_text o ++ codes "\"]" ≡ result_tag o
tag_is WhiteWins = refl
tag_is BlackWins = refl
tag_is Draw = refl
tag_is Unfinished = refl

-- the results in their reports are the outcomes that the match reported
same_results : OutcomesAreOfTheGame → (plan : GamesPlan) (n : ℕ) (games : List GameRecord)
    → AreOfPlan plan n games
    → map result_reported (map report_of (tagged plan n games)) ≡ map tag_of games
same_results outcomes plan n [] h = refl
same_results outcomes plan n (g ∷ games) h =
    ap (λ l. l ∷ map result_reported (map report_of (tagged plan (n + 1) games)))
    (tag_is (outcome_now g.after.game.state) ∙ ap result_tag (sym (is_game outcomes plan n g h.0).outcome))
    ∙ ap (λ ls. tag_of g ∷ ls) (same_results outcomes plan (n + 1) games h.1)

-- ---- the law

-- the reports on a text are those that are made one after another
abbrev pub ReportsAreMade : Type 0
ReportsAreMade = (strict : Strictness) (start : ℕ) (text : List ℕ)
    → AreReports false strict start text 0 (placed_on strict start text)

-- and so they are without their spans
abbrev pub PlainReportsAreMade : Type 0
PlainReportsAreMade = (strict : Strictness) (start : ℕ) (text : List ℕ)
    → without_spans (placed_on strict start text) ≡ reports_on strict start text

pub matches_pass_verify : GamesAreLines → InEachMatch EndsAtVerdicts → OutcomesAreOfTheGame → ReportsAreMade
    → PlainReportsAreMade → WrittenTextsHaveNoFault → MatchesPassVerify
matches_pass_verify lines ends outcomes made plain faultless strict none plan result steps d d' sound scored played =
    let w = wrote plan result steps d d' scored played in
    let text : List ℕ = game_texts plan w.games in
    let found : result_lines text ≡ map tag_of w.games = tags_found outcomes lines plan 1 w.games sound w.of_plan in
    let reports : List Plain = map report_of (tagged plan 1 w.games) in
    let are : without_spans (placed_on strict 0 text) ≡ reports =
    plain strict 0 text ∙ ap (reports_on strict 0) (sym (same_text plan 1 w.games))
    ∙ faultless strict none 0 (tagged plan 1 w.games) (writable lines ends outcomes plan 1 w.games sound w.of_plan) in (
      text,
      subst (λ score. OutputTook d.output d'.output (all_of (text ++ score)))
          (score_is w.games ∙ ap sum_of (sym found)) w.written,
      record {
        reports = placed_on strict 0 text;
        are = made strict 0 text;
        results = ap (λ (all : List Plain). map result_reported all) are
            ∙ same_results outcomes plan 1 w.games w.of_plan ∙ sym found;
      },
    )
