-- After a block that could not be sent to a side there is no block for it any more (`last`), so at most one fails
-- (`single`); and if a failed write to a side ended the match, a block for it failed (`reason`). All are of BrokenLaw.
use Rattle.chess_match_laws.proofs.BrokenLaw.{failed_blocks_are_last, one_block_fails, write_faults_are_of_blocks}
use Rattle.chess_match_laws.proofs.laws.failed_blocks_are_last.Goals as goal

pub returns-clause-last : goal.returns-clause-last
returns-clause-last c = failed_blocks_are_last

pub returns-clause-single : goal.returns-clause-single
returns-clause-single c = one_block_fails

pub returns-clause-reason : goal.returns-clause-reason
returns-clause-reason c = write_faults_are_of_blocks
