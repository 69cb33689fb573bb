-- For laws of what is written. The definition's lines (`lines_of`) are those that are filled from the first one on
-- (lines_are); filled_from is the text of tokens that are put into lines one by one. A token at the end of a line comes
-- after a space (line_text-push). Lines that are full are the definition's lines of their tokens (only_lines).
pub use Rattle.pgn_writer.proofs.FilledLines.{lines_are, filled_from, line_text-push, only_lines}
