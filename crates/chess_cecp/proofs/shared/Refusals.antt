-- For laws of sessions in crates above. refused_keeps: a line whose answer is a refusal (`Error ..`, `Illegal move ..`,
-- `tellusererror ..`) leaves the session as it was.
pub use Rattle.chess_cecp.proofs.Rows.{refused_keeps}
