-- The match ends as `flag_row` says: drawn, if the other side has only its king, and otherwise lost on time. The game's
-- position is that of the match, so code and definition agree on which.
use Rattle.std.proofs.Common.{◌≡◌, true, false, sym}
use Rattle.chess_base.specs.Men.{other}
use Rattle.chess_game.specs.Line.{position_after}
use Rattle.chess_match.specs.Rules.{has_bare_king}
use Rattle.chess_match.proofs.state.MatchState.fall_flag.Goals as goal

pub returns-then-has_bare_king : goal.returns-then-has_bare_king
returns-then-has_bare_king g c r m p on s =
    let bare : has_bare_king (other c.args.side) (position_after r.start m.played).men ≡ true =
    rw (← s.moves, ← c.other.ensures) (sym (c.if-has_bare_king.ensures r p)) in
    rw bare (c.finish.ensures r _ m on s)

pub returns : goal.returns
returns g c r m p on s =
    let bare : has_bare_king (other c.args.side) (position_after r.start m.played).men ≡ false =
    rw (← s.moves, ← c.other.ensures) (sym (c.if-has_bare_king.ensures r p)) in
    rw bare (c.finish-2.ensures r _ m on s)
