-- Lines, spans, where texts are read on, and pieces (WorkedReports), and names of faults, parts that are shown, and
-- reasons (WorkedExplanations), by computation.
use Rattle.pgn_verifier_laws.proofs.WorkedExplanations.{faults_are_called, parts_are_shown, reasons_are_given}
use Rattle.pgn_verifier_laws.proofs.WorkedReports.{games_are_found, pieces_begin, reports_are_written, texts_are_read_on}
use Rattle.pgn_verifier_laws.proofs.laws.reports_are_worked_out.Goals as goal

pub returns-clause-lines : goal.returns-clause-lines
returns-clause-lines c = reports_are_written

pub returns-clause-spans : goal.returns-clause-spans
returns-clause-spans c = games_are_found

pub returns-clause-read_on : goal.returns-clause-read_on
returns-clause-read_on c = texts_are_read_on

pub returns-clause-pieces : goal.returns-clause-pieces
returns-clause-pieces c = pieces_begin

pub returns-clause-names : goal.returns-clause-names
returns-clause-names c = faults_are_called

pub returns-clause-parts : goal.returns-clause-parts
returns-clause-parts c = parts_are_shown

pub returns-clause-reasons : goal.returns-clause-reasons
returns-clause-reasons c = reasons_are_given
