-- Each engine keeps its time control and its name, whichever side it has, and the tags of a game are as stated. Odd and
-- even numbers of games are two cases, as they decide which engine has White; in each the rest is computed.
use Rattle.std.proofs.Common.{◌≡◌, ◌∙◌, ℕ, ◌%◌, ◌==◌, if◌then◌else◌, List, refl, ap}
use Rattle.std.specs.Fmt.{digits}
use Rattle.chess_base.specs.{ByColour.of_colour, Men.same_colour, declared.by_colour.ByColour.ByColour, declared.man.Colour.Colour, declared.man.Colour.TheVariants.White, declared.man.Colour.TheVariants.Black}
use Rattle.cecp_engine.specs.Levels.{LevelSeen}
use Rattle.chess_game.specs.{Results.cut_tag, declared.results.Outcome.Outcome, declared.tags.HowEnded.HowEnded, declared.tags.HowEnded.TheVariants.TimeForfeit}
use Rattle.chess_match.specs.declared.games_plan.GamesPlan.{GamesPlan}
use Rattle.match_runner.specs.{Games.engine_command, Games.first_side, Games.player_name}
use Rattle.pgn_writer.specs.Terminations.{termination_of, termination_text}
use Rattle.match_runner_laws.specs.Players.{EachKeepsItsLevel, GamesAreTagged, Player}

-- the time controls of both sides, and the engine of a side, if the first engine has the side `first`
abbrev levels_if : GamesPlan → Colour → ByColour LevelSeen
levels_if plan first = record {
  white = if same_colour White first then plan.white_level else plan.black_level;
  black = if same_colour Black first then plan.white_level else plan.black_level;
}

abbrev player_if : GamesPlan → Colour → Colour → Player
player_if plan side first =
    (if same_colour side first then plan.white.now else plan.black.now, of_colour (levels_if plan first) side)

-- the first engine has White in odd games; in_even: Black in even games
in_odd : (number : ℕ) → number % 2 ≡ 1 → first_side number ≡ White
in_odd number h = ap (λ (n : ℕ). if n == 1 then White else Black) h

in_even : (number : ℕ) → number % 2 ≡ 0 → first_side number ≡ Black
in_even number h = ap (λ (n : ℕ). if n == 1 then White else Black) h

pub each_keeps_its_level : EachKeepsItsLevel
each_keeps_its_level plan number = record {
  odd = λ h. (ap (player_if plan White) (in_odd number h), ap (player_if plan Black) (in_odd number h));
  even = λ h. (ap (player_if plan White) (in_even number h), ap (player_if plan Black) (in_even number h));
}

-- ---- tags

-- the command of the engine of a side as a tag has it, if the first engine has the side `first`
abbrev tag_if : GamesPlan → Colour → Colour → List ℕ
tag_if plan side first = cut_tag (if same_colour side first then plan.white.now else plan.black.now)

-- the name of a side's engine in the tags, by the name that it gave itself
abbrev tag_of : GamesPlan → ℕ → Colour → List ℕ → List ℕ
tag_of plan number side name = player_name name (engine_command plan number side)

pub games_are_tagged : GamesAreTagged
unfolding digits
games_are_tagged = record {
  players = λ plan number end. record {
    odd_white = λ unnamed h. ap (tag_of plan number White) unnamed ∙ ap (tag_if plan White) (in_odd number h);
    odd_black = λ unnamed h. ap (tag_of plan number Black) unnamed ∙ ap (tag_if plan Black) (in_odd number h);
    even_white = λ unnamed h. ap (tag_of plan number White) unnamed ∙ ap (tag_if plan White) (in_even number h);
    even_black = λ unnamed h. ap (tag_of plan number Black) unnamed ∙ ap (tag_if plan Black) (in_even number h);
    named_white = λ named. ap (tag_of plan number White) named;
    named_black = λ named. ap (tag_of plan number Black) named;
  };
  event = λ plan end. refl;
  site = λ plan end. refl;
  date = λ plan end. refl;
  round = λ plan end. refl;
  ended = λ plan end. refl;
  late = λ plan end late lost. ap (λ (h : HowEnded). termination_text (termination_of h end.outcome)) late
      ∙ ap (λ (o : Outcome). termination_text (termination_of TimeForfeit o)) lost;
}
