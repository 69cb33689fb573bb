-- Each move sent has `usermove` before it exactly if the engine asked for it, act by act (PrefixLaw).
use Rattle.chess_match_laws.proofs.PrefixLaw.{prefixes_are_as_asked}
use Rattle.chess_match_laws.proofs.handshakes.prefixes_are_as_asked.Goals as goal

pub returns : goal.returns
returns c = prefixes_are_as_asked
