-- The text is the unmarked SAN, written before the move was made, and then the mark of the position that `make` has
-- brought the board to: the SAN without a mark and the mark after the move, as the contract has them.
use Rattle.std.proofs.Common.{ap, ◌++◌, ◌∙◌}
use Rattle.chess_text.specs.San.{check_mark}
use Rattle.chess_text.proofs.writing.make_san.Goals as goal

pub returns-clause-text : goal.returns-clause-text
returns-clause-text g c =
    c.add_check_mark.ensures.text
    ∙ ap (λ q. c.unmarked_san-text.result.items ++ check_mark q) c.make-saved.ensures.position
    ∙ c.unmarked_san-text.ensures.text
