-- Of nine moves, that each text of one list denotes the move and none of another does, by computation (KnownTexts).
use Rattle.rules_laws.proofs.KnownTexts.{texts_denote_moves}
use Rattle.rules_laws.proofs.texts.known_texts_denote_moves.Goals as goal

pub returns : goal.returns
returns c = texts_denote_moves
