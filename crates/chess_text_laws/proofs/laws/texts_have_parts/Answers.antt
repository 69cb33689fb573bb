-- The clauses are lemmas: parts that are read have the text as theirs, and are read from their own text (Grammar of
-- chess_text, part by part: which comes next shows by its first byte, and a file letter is the start file only where a
-- square follows); what a text denotes and its shape follow from these parts (PartsOfTexts).
use Rattle.chess_text.proofs.shared.Parts.{denoted-parts, parts-denoted}
use Rattle.chess_text_laws.proofs.PartsOfTexts.{denoted_by_text, shaped_by_text}
use Rattle.chess_text_laws.proofs.laws.texts_have_parts.Goals as goal

pub returns-clause-read : goal.returns-clause-read
returns-clause-read c = denoted-parts

pub returns-clause-written : goal.returns-clause-written
returns-clause-written c = parts-denoted

pub returns-clause-denoted : goal.returns-clause-denoted
returns-clause-denoted c = denoted_by_text

pub returns-clause-shaped : goal.returns-clause-shaped
returns-clause-shaped c = shaped_by_text
