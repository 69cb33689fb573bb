-- While the `pong 1` of an engine is awaited, the lines that it was sent last are those of its setup, byte by byte in
-- two cases (SetupLaw).
use Rattle.chess_match_laws.proofs.SetupLaw.{is_set_up}
use Rattle.chess_match_laws.proofs.laws.setups_are_these_lines.Goals as goal

pub returns : goal.returns
returns c = is_set_up
