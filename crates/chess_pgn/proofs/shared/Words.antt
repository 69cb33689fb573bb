-- For crates that look into what is read: what holds of a word's step for each kind of word holds for any word.
pub use Rattle.chess_pgn.proofs.StepKinds.{word_cases}
-- For laws of words: all digits are a number (number_kind), marks such as `!?` are marks (marks_by_kind, with the test
-- are_marks), and a word that begins with `A` or a greater byte may be a move (begins_as_move_kind).
pub use Rattle.chess_pgn.proofs.PgnWords.{number_kind, are_marks, marks_by_kind, begins_as_move_kind}
