-- A written game is read back (the law that is called), so reading it ends without a fault, its variant is known, and
-- neither its tag Result nor the board contradicts its outcome (WrittenGames.written_games).
use Rattle.pgn_verifier_laws.proofs.WrittenGames.{written_games}
use Rattle.pgn_verifier_laws.proofs.laws.written_games_have_no_fault.Goals as goal

pub returns : goal.returns
returns c =
    written_games c.pgn_is_read_back.ensures.read
    (c.pgn_is_read_back.ensures.result, c.pgn_is_read_back.ensures.variant)
