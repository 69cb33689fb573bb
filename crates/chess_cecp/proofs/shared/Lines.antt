-- For laws of servers in crates above. first_lines: the complete lines of some bytes are the first lines of these and
-- more bytes. stays_ended: a server that ended with one of some lines responds to these and more lines as to these.
pub use Rattle.chess_cecp.proofs.LinesOn.{first_lines, stays_ended}
