-- That each line is legal, and the FEN at its end, by computation (KnownLines).
use Rattle.rules_laws.proofs.KnownLines.{lines_lead_to_fens}
use Rattle.rules_laws.proofs.known.known_lines_lead_to_these_fens.Goals as goal

pub returns : goal.returns
returns c = lines_lead_to_fens
