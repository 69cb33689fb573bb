-- What stays as it was where text is added to a writer of lines.
use Rattle.std.specs.Prelude.{◌≡◌}
use Rattle.pgn_writer.specs.declared.line_writer.LineWriter.{LineWriter}

-- lines still go to the same writer (`ghost_name`), with the same prefix
pub record KeepsWriter {W : Type 0} (old new : LineWriter W) : Type 0 where
  pub prefix : new.prefix.now ≡ old.prefix.now
  pub writer : new.writer.ghost_name ≡ old.writer.ghost_name

-- lines still go to the same writer, with the same prefix, and the line that is begun has as many bytes as before
pub record KeepsLine {W : Type 0} (old new : LineWriter W) : Type 0 where
  pub prefix : new.prefix.now ≡ old.prefix.now
  pub writer : new.writer.ghost_name ≡ old.writer.ghost_name
  pub column : new.column ≡ old.column
