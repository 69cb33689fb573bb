-- What a match waits for, and until which moment.
use Rattle.std.specs.Prelude.{◌≡◌, ◌+◌, ◌-◌, ◌^◌, ℕ, true, if◌then◌else◌, min, Option, None, Some, option_map}
use Rattle.std.specs.Option.{option_map_or}
use Rattle.cecp_engine.specs.Clocks.{remaining}
use Rattle.chess_match.specs.Acts.{awaits_line}
use Rattle.chess_match.specs.Effects.{Phase, Opening, Over}
use Rattle.chess_match.specs.declared.phase.Phase.{Phase as CorePhase}
use Rattle.chess_match.specs.declared.phase.Phase.TheVariants as core_in
use Rattle.chess_match.specs.declared.state.MatchState.{MatchState}
use Rattle.chess_match.specs.declared.run.Awaited.{Awaited}
use Rattle.chess_match.specs.declared.run.Awaited.TheVariants.{Line, Moment, Nothing}

-- a match in this phase waits for this: a line of the side `S`, the moment at the end of the opening of its turn, or
-- nothing, as it is over
abbrev pub IsAwaited : Phase → Awaited → Type 0
IsAwaited p (Line S) = awaits_line p S ≡ true
IsAwaited p (Moment S) = p ≡ Opening S
IsAwaited p (Nothing reason) = p ≡ Over reason

-- until which moment a line is waited for in this phase of the code, when its state is `core`. Before a move, if flags
-- fall without a line: the first moment at which the side has used more time than it had left. Otherwise, if replies
-- have a limit: the first at which the reply is owed for longer, but 0 while its time doesn't run yet. At most 2 ^ 64 -
-- 1; `None` if there is no limit
abbrev pub until_of : MatchState → CorePhase → Option ℕ
until_of core (core_in.AwaitMove S) =
    if core.patience.flag then Some (min (core.opened + remaining core.clocks S + 1) (2 ^ 64 - 1)) else None
until_of core _ =
    option_map (λ limit. option_map_or (λ since. min (since + limit + 1) (2 ^ 64 - 1)) core.since 0)
    core.patience.reply
