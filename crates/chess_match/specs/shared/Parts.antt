-- Parts of effects, and what is due after a line, by names that proofs use, here and in crates above.
use Rattle.std.specs.Prelude.{ℕ, if◌then◌else◌, List, [], ◌∷◌, ◌++◌, codes, Option, Some}
use Rattle.chess_base.specs.declared.man.Colour.{Colour}
use Rattle.chess_base.specs.declared.man.Colour.TheVariants.{White}
use Rattle.chess_base.specs.Options.{list_if}
use Rattle.cecp_engine.specs.EngineLines.{LineKind, Features}
use Rattle.chess_match.specs.Acts.{Block, blocks_from, is_over}
use Rattle.chess_match.specs.Effects.{Effect, Match, Phase, is_owed_move, move_line}
use Rattle.chess_game.specs.Ends.{result_text, verdict}
use Rattle.chess_match.specs.Reasons.{reported_reason, result_of}
use Rattle.chess_match.specs.Rules.{Rules}
use Rattle.chess_match.specs.declared.reason.Reason.{Reason}
use Rattle.chess_match.specs.Lines.{SentLine, Says}

-- the match `m` at the beginning of this phase: no line was counted in it yet
abbrev pub enter : Phase → Match → Match
enter phase m = record m { phase = phase; count = 0 }

-- the moment from which the time for a reply runs, after a line of this kind came at `moment` in a handshake: `moment`,
-- if it is a `feature` line; otherwise `since`, as before (`None`: it doesn't run yet)
abbrev pub since_counted : LineKind → ℕ → Option ℕ → Option ℕ
since_counted (Features text) moment since = Some moment
since_counted _ moment since = since

-- the match `m`, with `since` as it is after a line of this kind, which came at this moment in a handshake
abbrev pub counted : LineKind → ℕ → Match → Match
counted kind moment m = record m { since = since_counted kind moment m.since }

-- the blocks that are due after a line of the side `S` had the effect `done`: first the one for `S`; but if the match
-- is then over, first White's
abbrev pub blocks_after : Colour → Effect → List Block
blocks_after S done = blocks_from (if is_over done.after.phase then White else S) done.to

-- the last lines for the side `S`, if the match ends in the state `m` for this reason, and writing to `S` did not fail:
-- the last move, if it is owed; the result, such as `result 1-0 {Black resigns}`, by the board's verdict if there is
-- one, otherwise by the reason; and `quit`
abbrev pub farewell : Rules → Match → Reason → Colour → List SentLine
farewell r m reason S =
    list_if (is_owed_move m.phase S) (move_line r m S ∷ [])
    ++ (Says (codes "result " ++ result_text (result_of (reported_reason (verdict r.start m.played) reason)))
    ∷ Says (codes "quit") ∷ [])
