-- For laws of runs that read lines, the lines of a text byte by byte: a `\n` ends the line that has begun, and those of
-- the rest follow (ten_step); any other byte is added to that line (byte_step); and where no byte follows and the
-- stream hasn't ended, there is no line (none_from).
pub use Rattle.text_lines.proofs.LineParts.{byte_step, none_from, ten_step}
