-- How a match's end is reported: outcome, comment, fault, and kind of end.
use Rattle.std.specs.Prelude.{ℕ, Bool, false, List, [], ◌∷◌, ◌++◌, codes, Option, None, Some, find, option_map}
use Rattle.chess_base.specs.declared.man.Colour.{Colour}
use Rattle.chess_base.specs.declared.man.Colour.TheVariants.{White, Black}
use Rattle.chess_base.specs.ByColour.{by_colour}
use Rattle.chess_base.specs.Men.{other, same_colour}
use Rattle.chess_game.specs.Ends.{verdict_result, claim_comment}
use Rattle.chess_game.specs.declared.verdicts.Verdict.{Verdict}
use Rattle.chess_game.specs.declared.results.Declared.{Declared}
use Rattle.chess_game.specs.declared.results.Outcome.{Outcome}
use Rattle.chess_game.specs.declared.results.Outcome.TheVariants.{WhiteWins, BlackWins, Draw, Unfinished}
use Rattle.chess_game.specs.declared.tags.HowEnded.{HowEnded}
use Rattle.chess_game.specs.declared.tags.HowEnded.TheVariants.{Normal, TimeForfeit, RulesInfraction}
use Rattle.chess_match.specs.declared.reason.MatchFault.{MatchFault}
use Rattle.chess_match.specs.declared.reason.MatchFault.TheVariants.{Ended, Read, Write, NoDone, NoPing, NoSetboard, Flood, NoVariant, NoHandshake, NoAnswer}
use Rattle.chess_match.specs.declared.reason.Reason.{Reason}
use Rattle.chess_match.specs.declared.reason.Reason.TheVariants.{Decided, Claimed, Agreed, Resigns, MovesIllegally, MovesOutOfTurn, ClaimsFalsely, RejectsLegalMove, Forfeits, ForfeitsToBareKing, GameTooLong, Faulted}

-- a side's name in comments
abbrev pub colour_name : Colour → List ℕ
colour_name c = by_colour (codes "White") (codes "Black") c

-- the outcome of a game that this side wins
abbrev pub win_of : Colour → Outcome
win_of c = by_colour WhiteWins BlackWins c

-- the comment on this fault after the side's name, as in `White has no ping`
abbrev pub fault_comment : MatchFault → List ℕ
fault_comment Ended = codes " ended its output"
fault_comment Read = codes " can not be read"
fault_comment Write = codes " can not be written"
fault_comment NoDone = codes " did not send done=1"
fault_comment NoPing = codes " has no ping"
fault_comment NoSetboard = codes " has no setboard"
fault_comment Flood = codes " sent too many lines"
fault_comment NoVariant = codes " has no fischerandom"
fault_comment NoHandshake = codes " sent no done=1 (a UCI engine needs polyglot)"
fault_comment NoAnswer = codes " did not answer"

-- how a match that ended for this reason is reported: outcome; comment, without braces; and how it ended, for the tag
-- Termination (always `unterminated` for the outcome `*`). `c` is the side that loses, but in `Faulted` the one whose
-- engine or device failed
abbrev pub reported : Reason → Outcome × List ℕ × HowEnded
reported (Decided v) = ((verdict_result v).outcome, (verdict_result v).comment, Normal)
reported (Claimed claim) = (Draw, claim_comment claim, Normal)
reported Agreed = (Draw, codes "Draw agreed", Normal)
reported (Resigns c) = (win_of (other c), colour_name c ++ codes " resigns", Normal)
reported (MovesIllegally c) = (win_of (other c), colour_name c ++ codes " makes an illegal move", RulesInfraction)
reported (MovesOutOfTurn c) = (win_of (other c), colour_name c ++ codes " moves out of turn", RulesInfraction)
reported (ClaimsFalsely c) = (win_of (other c), colour_name c ++ codes " makes a false claim", RulesInfraction)
reported (RejectsLegalMove c) = (win_of (other c), colour_name c ++ codes " rejects a legal move", RulesInfraction)
reported (Forfeits c) = (win_of (other c), colour_name c ++ codes " forfeits on time", TimeForfeit)
reported ForfeitsToBareKing = (Draw, codes "Time forfeit against a bare king", TimeForfeit)
reported GameTooLong = (Unfinished, codes "Game too long", Normal)
reported (Faulted c f) = (Unfinished, colour_name c ++ fault_comment f, Normal)

-- the outcome of a match that ended for this reason
abbrev pub outcome_by_reason : Reason → Outcome
outcome_by_reason reason = (reported reason).0

-- the comment on a match's end, such as `Black resigns`
abbrev pub comment_of : Reason → List ℕ
comment_of reason = (reported reason).1

-- the outcome and comment of a match that ended for this reason
abbrev pub result_of : Reason → Declared
result_of reason = record { outcome = (reported reason).0; comment = comment_of reason }

-- how a match that ended for this reason came to its end, for the tag Termination (PGN standard, section 9.8.1)
abbrev pub ended_by : Reason → HowEnded
ended_by reason = (reported reason).2

-- the reason reported of a match that ended for `reason`: the board's verdict, if any, even where a fault ended the
-- match; otherwise `reason`
abbrev pub reported_reason : Option Verdict → Reason → Reason
reported_reason (Some v) _ = Decided v
reported_reason None reason = reason

-- the side and fault, if any, reported of a match that ended for this reason: those of `Faulted`; otherwise, if writing
-- the last lines failed (`failed` says to which sides), `Write` and that side, or White if to both
abbrev pub reported_fault : Reason → (Colour → Bool) → Option (Colour × MatchFault)
reported_fault (Faulted c f) failed = Some (c, f)
reported_fault _ failed = option_map (λ side. (side, Write)) (find failed (White ∷ Black ∷ []))

-- the result declared in the game when the match ends for this reason; `None` if the board has a verdict
abbrev pub declared_at : Option Verdict → Reason → Option Declared
declared_at (Some v) reason = None
declared_at None reason = Some (result_of reason)

-- whether this reason is a failed write or flush to the side `S`
abbrev pub is_write_fault_of : Reason → Colour → Bool
is_write_fault_of (Faulted c Write) S = same_colour c S
is_write_fault_of _ S = false
