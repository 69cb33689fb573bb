-- The reports that are made by reading games one after another meet the definitions (ReportsAre of pgn_verifier), and
-- no others do (OnlyReports): so of a game, a text and a collection. Without their spans they are the plain ones
-- (same_on, same_of_collection of OnlyReports).
use Rattle.pgn_verifier.proofs.shared.ReportsAre.{judged_is, are_reports, are_collection_reports}
use Rattle.pgn_verifier_laws.proofs.OnlyReports.{only_judged, only_reports, only_collection_reports, same_on, same_of_collection}
use Rattle.pgn_verifier_laws.proofs.laws.reports_are_the_only_ones.Goals as goal

pub returns-clause-game : goal.returns-clause-game
returns-clause-game c = judged_is

pub returns-clause-no_other_game : goal.returns-clause-no_other_game
returns-clause-no_other_game c = only_judged

pub returns-clause-text : goal.returns-clause-text
returns-clause-text c = are_reports

pub returns-clause-no_other_of_text : goal.returns-clause-no_other_of_text
returns-clause-no_other_of_text c = only_reports

pub returns-clause-collection : goal.returns-clause-collection
returns-clause-collection c = are_collection_reports

pub returns-clause-no_other_of_collection : goal.returns-clause-no_other_of_collection
returns-clause-no_other_of_collection c = only_collection_reports

pub returns-clause-plain : goal.returns-clause-plain
returns-clause-plain c = same_on

pub returns-clause-plain_of_collection : goal.returns-clause-plain_of_collection
returns-clause-plain_of_collection c = same_of_collection
