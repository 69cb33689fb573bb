-- In a game of normal chess each row, but for `variant` and `protover`, is that of the table for normal chess only,
-- command by command (NormalRows).
use Rattle.chess_cecp_laws.proofs.NormalRows.{normal_rows}
use Rattle.chess_cecp_laws.proofs.laws.normal_chess_keeps_its_rows.Goals as goal

pub returns : goal.returns
returns c = normal_rows
