-- The score line of a match is the sum of the lines `[Result ..]` above it (scores_are_sums): these lines are the
-- games' outcomes in order (tags_found), and counting games by their outcome and the side of the first engine is
-- counting such lines by turns (counted, score_is). Each by induction on the games.
use Rattle.std.proofs.Common.{◌≡◌, ◌∙◌, ℕ, ◌+◌, ◌%◌, Bool, List, [], ◌∷◌, ◌++◌, length, map, cond, refl, sym, ap, subst, arith, bytes_eq, codes, decimal, flat_map, ◌==◌}
use Rattle.std.specs.List.{count_by, enumerate_from}
use Rattle.std.proofs.{lemmas.List.length-map, lemmas.List.Sums.sum_by-cons}
use Rattle.byte_devices.specs.{Transfers.OutputTook, Transfers.all_of, Bytes.new_line}
use Rattle.chess_base.specs.{Men.other, Sound.IsSound, declared.man.Colour.TheVariants.White, declared.man.Colour.TheVariants.Black}
use Rattle.chess_game.specs.{Results.same_outcome, declared.results.Outcome.Outcome}
use Rattle.chess_game.specs.declared.results.Outcome.TheVariants.{WhiteWins, BlackWins, Draw, Unfinished}
use Rattle.chess_match.specs.Reasons.{win_of}
use Rattle.chess_match_laws.specs.OfActs.{GamesAreLines, OutcomesAreOfTheGame}
use Rattle.match_runner.specs.Games.{GameRecord, first_side, game_text, game_texts, score_line, tags_of}
use Rattle.chess_match.specs.declared.games_plan.GamesPlan.{GamesPlan}
use Rattle.match_pgn_laws.specs.Scores.{ScoresAreSums, games_with, result_lines, sum_of}
use Rattle.match_pgn_laws.proofs.Games.{AreOfPlan, is_game, is_line, is_sound, tag_texts, wrote}
use Rattle.match_pgn_laws.proofs.ResultLines.{game_found, result_tag}

-- ---- the lines `[Result ..]` of all games

-- the line of this game, by the outcome that was reported
abbrev pub tag_of : GameRecord → List ℕ
tag_of played = result_tag played.end.outcome

-- of the text of all games, the lines that begin with `[Result ` are the lines of the outcomes reported; by induction
-- on the games
pub tags_found : OutcomesAreOfTheGame → GamesAreLines → (plan : GamesPlan) (n : ℕ) (games : List GameRecord)
    → IsSound plan.start → AreOfPlan plan n games
    → result_lines (flat_map (λ g. game_text plan g.0 g.1) (enumerate_from n games)) ≡ map tag_of games
tags_found outcomes lines plan n [] sound h = refl
tags_found outcomes lines plan n (g ∷ games) sound h =
    let is = is_game outcomes plan n g h.0 in
    game_found (tags_of plan n g.end) g.after.game.state
    (flat_map (λ g. game_text plan g.0 g.1) (enumerate_from (n + 1) games)) (tag_texts plan n g.end)
    (is_sound plan n g is sound) (is_line lines plan n g is)
    ∙ ap (λ o. result_tag o ∷ result_lines (flat_map (λ g. game_text plan g.0 g.1) (enumerate_from (n + 1) games)))
    (sym is.outcome)
    ∙ ap (λ ls. tag_of g ∷ ls) (tags_found outcomes lines plan (n + 1) games sound h.1)

-- ---- counts

-- two outcomes have the same line just if they are the same
same_tag : (o w : Outcome) → bytes_eq (result_tag o) (result_tag w) ≡ same_outcome o w
same_tag WhiteWins WhiteWins = refl
same_tag WhiteWins BlackWins = refl
same_tag WhiteWins Draw = refl
same_tag WhiteWins Unfinished = refl
same_tag BlackWins WhiteWins = refl
same_tag BlackWins BlackWins = refl
same_tag BlackWins Draw = refl
same_tag BlackWins Unfinished = refl
same_tag Draw WhiteWins = refl
same_tag Draw BlackWins = refl
same_tag Draw Draw = refl
same_tag Draw Unfinished = refl
same_tag Unfinished WhiteWins = refl
same_tag Unfinished BlackWins = refl
same_tag Unfinished Draw = refl
same_tag Unfinished Unfinished = refl

-- how many games, numbered from `n` on, have the outcome that is wanted for their number, which is another for odd and
-- even numbers: the games whose lines are the wanted ones by turns
counted : (wanted : ℕ → Outcome) → ((k : ℕ) → wanted (k + 1 + 1) ≡ wanted k) → (n : ℕ) (games : List GameRecord)
    → count_by (λ g. same_outcome g.1.end.outcome (wanted g.0)) (enumerate_from n games)
    ≡ games_with (result_tag (wanted n)) (result_tag (wanted (n + 1))) (map tag_of games)
counted wanted turns n [] = refl
counted wanted turns n (g ∷ games) =
    sum_by-cons (λ (h : ℕ × GameRecord). cond (same_outcome h.1.end.outcome (wanted h.0)) 1 0) (n, g)
    (enumerate_from (n + 1) games)
    ∙ ap (λ k. cond (same_outcome g.end.outcome (wanted n)) 1 0 + k) (counted wanted turns (n + 1) games)
    ∙ ap (λ o. cond (same_outcome g.end.outcome (wanted n)) 1 0
    + games_with (result_tag (wanted (n + 1))) (result_tag o) (map tag_of games)) (turns n)
    ∙ ap (λ (b : Bool). cond b 1 0
    + games_with (result_tag (wanted (n + 1))) (result_tag (wanted n)) (map tag_of games))
    (sym (same_tag g.end.outcome (wanted n)))

-- the first engine's side returns after two games
first_turns : (k : ℕ) → first_side (k + 1 + 1) ≡ first_side k
first_turns k = let same : (k + 1 + 1) % 2 ≡ k % 2 = omega arith in
    ap (λ r. cond (r == 1) White Black) same

-- the line of a score, by its numbers
abbrev line_of : ℕ → ℕ → ℕ → ℕ → List ℕ
line_of first second drawn unfinished =
    codes "score first " ++ decimal first ++ codes " second " ++ decimal second
    ++ codes " drawn " ++ decimal drawn ++ codes " unfinished " ++ decimal unfinished ++ new_line ∷ []

-- the line of a score depends only on its four numbers
same_line : (a b c d a' b' c' d' : ℕ) → a ≡ a' → b ≡ b' → c ≡ c' → d ≡ d' → line_of a b c d ≡ line_of a' b' c' d'
same_line a b c d a' b' c' d' first second drawn unfinished =
    ap (λ n. line_of n b c d) first ∙ ap (λ n. line_of a' n c d) second ∙ ap (λ n. line_of a' b' n d) drawn
    ∙ ap (λ n. line_of a' b' c' n) unfinished

-- each of the four counts of the score (won by the first engine, by the second, drawn, unfinished) is such a count
pub score_is : (games : List GameRecord) → score_line games ≡ sum_of (map tag_of games)
score_is games = same_line _ _ _ _ _ _ _ _
    (counted (λ n. win_of (first_side n)) (λ k. ap win_of (first_turns k)) 1 games)
    (counted (λ n. win_of (other (first_side n))) (λ k. ap (λ c. win_of (other c)) (first_turns k)) 1 games)
    (counted (λ n. Draw) (λ k. refl) 1 games) (counted (λ n. Unfinished) (λ k. refl) 1 games)

-- ---- the law

pub scores_are_sums : GamesAreLines → OutcomesAreOfTheGame → ScoresAreSums
scores_are_sums lines outcomes plan result steps d d' sound scored played =
    let w = wrote plan result steps d d' scored played in
    let found : result_lines (game_texts plan w.games) ≡ map tag_of w.games =
    tags_found outcomes lines plan 1 w.games sound w.of_plan in (
      game_texts plan w.games,
      subst (λ score. OutputTook d.output d'.output (all_of (game_texts plan w.games ++ score)))
          (score_is w.games ∙ ap sum_of (sym found)) w.written,
      λ e. ap length found ∙ length-map w.games tag_of ∙ w.all e,
    )
