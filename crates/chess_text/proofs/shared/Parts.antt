-- For laws of the parts of texts in crates above. A text denotes a described move exactly if it is castling's or of
-- parts that fit (is_denoted_so, denoted_so). Parts that are read have the text as theirs (denoted-parts), and are read
-- from their own text (parts-denoted). A text has a move's shape exactly by `has_form` (shape_is): one of castling
-- (castling_has) and one of parts (shape_parts). How a test of parts is taken apart: has-read, passing.
pub use Rattle.chess_text.proofs.Denotations.{passing, is_denoted_so, denoted_so}
pub use Rattle.chess_text.proofs.FormFacts.{has-read}
pub use Rattle.chess_text.proofs.Grammar.{denoted-parts, parts-denoted}
pub use Rattle.chess_text.proofs.OneMoveFits.{shape_parts}
pub use Rattle.chess_text.proofs.ShapeByForm.{castling_has, shape_is}
