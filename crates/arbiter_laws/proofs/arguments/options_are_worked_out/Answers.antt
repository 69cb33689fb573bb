-- Each clause is a record of examples that are computed (WorkedOptions).
use Rattle.arbiter_laws.proofs.WorkedOptions.{dates_are_read, levels_are_read, options_mean, starts_are_asked}
use Rattle.arbiter_laws.proofs.arguments.options_are_worked_out.Goals as goal

pub returns-clause-levels : goal.returns-clause-levels
returns-clause-levels c = levels_are_read

pub returns-clause-starts : goal.returns-clause-starts
returns-clause-starts c = starts_are_asked

pub returns-clause-options : goal.returns-clause-options
returns-clause-options c = options_mean

pub returns-clause-dates : goal.returns-clause-dates
returns-clause-dates c = dates_are_read
