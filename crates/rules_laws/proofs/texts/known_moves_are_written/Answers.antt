-- The SAN of 13 moves, and the texts of five by their squares, by computation (KnownTexts).
use Rattle.rules_laws.proofs.KnownTexts.{moves_are_shown, moves_are_written}
use Rattle.rules_laws.proofs.texts.known_moves_are_written.Goals as goal

pub returns-clause-san : goal.returns-clause-san
returns-clause-san c = moves_are_written

pub returns-clause-squares : goal.returns-clause-squares
returns-clause-squares c = moves_are_shown
