-- That the fault is in the text: it is the first of two, one of the tag `Result` and one of the board, and both are in
-- the text (FaultsInText.first_within); the board's is at the game's end (board_within), if it is looked for at all
-- (looked_within).
use Rattle.std.proofs.Common.{length, sym, subst}
use Rattle.chess_pgn.specs.GameRead.{ending}
use Rattle.pgn_verifier.specs.GameFaults.{board_says_otherwise}
use Rattle.pgn_verifier.proofs.FaultsInText.{InText, first_within, board_within, looked_within}
use Rattle.pgn_verifier.proofs.contradiction.contradiction.Goals as goal

pub returns-clause-within : goal.returns-clause-within
returns-clause-within g c =
    let len = length c.args.text.now in
    let verdict = ending c.args.strict.draws_of_2014 c.args.game.now.state in
    subst (InText len) (sym c.or.ensures)
    (first_within len c.result_fault.result c.board_fault.result c.result_fault.ensures.within
    (subst (InText len) (sym c.board_fault.ensures)
    (looked_within len c.args.strict.board (board_says_otherwise verdict c.args.end)
    (board_within len verdict c.args.end c.requires.end))))
