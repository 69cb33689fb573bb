-- Each engine is sent `go` at most once: at each moment (GoLaw), and so in the whole match (in_each of Points). It was
-- sent it whenever the clock is read for the opening of one of its turns (GoLaw).
use Rattle.chess_match_laws.proofs.{GoLaw.go_is_sent_once, GoLaw.was_sent_go, Points.in_each}
use Rattle.chess_match_laws.specs.Rows.{GoIsSentOnce}
use Rattle.chess_match_laws.proofs.laws.go_is_sent_once.Goals as goal

pub returns-clause-whole : goal.returns-clause-whole
returns-clause-whole c = in_each GoIsSentOnce go_is_sent_once

pub returns-clause-so_far : goal.returns-clause-so_far
returns-clause-so_far c = go_is_sent_once

pub returns-clause-opened : goal.returns-clause-opened
returns-clause-opened c = was_sent_go
