-- Four phases await a line, and each has a function whose contract is the row of that phase; the phase of the core is
-- that of the match, so the row is the line's effect (CoreSteps.row_goes). In a handshake, the answers put into the
-- block are those to the items for the side that sent the line (Sends.answers_own).
use Rattle.std.proofs.Common.{ap, ◌∙◌}
use Rattle.chess_match.specs.ties.Represents.{phase_of}
use Rattle.chess_match.proofs.{CoreSteps.row_goes, CoreSteps.shaken_goes, Sends.answers_own}
use Rattle.chess_match.proofs.state.MatchState.line.Goals as goal

pub returns-in-Handshake-clause-goes : goal.returns-in-Handshake-clause-goes
returns-in-Handshake-clause-goes g c r m side text p h k s =
    let at = s.phase ∙ ap (phase_of c.args.self.now.opened) c.in-Handshake.is in
    rw (k, c.in-Handshake.is) (row_goes r _ _ _ _ _ _ m _ at
    (shaken_goes r _ _ _ _ _ _ _ m (c.handshake_line.ensures.goes r m p at s)))

pub returns-in-Setup-clause-goes : goal.returns-in-Setup-clause-goes
returns-in-Setup-clause-goes g c r m side text p h k s =
    let at = s.phase ∙ ap (phase_of c.args.self.now.opened) c.in-Setup.is in
    rw (k, c.in-Setup.is) (row_goes r _ _ _ _ _ _ m _ at (c.setup_line.ensures r m p at s))

pub returns-in-AwaitMove-clause-goes : goal.returns-in-AwaitMove-clause-goes
returns-in-AwaitMove-clause-goes g c r m side text p h k s =
    let at = s.phase ∙ ap (phase_of c.args.self.now.opened) c.in-AwaitMove.is in
    rw (k, c.in-AwaitMove.is) (row_goes r _ _ _ _ _ _ m _ at (c.before_line.ensures.goes r m p at s))

pub returns-in-AwaitPong-clause-goes : goal.returns-in-AwaitPong-clause-goes
returns-in-AwaitPong-clause-goes g c r m side text p h k s =
    let at = s.phase ∙ ap (phase_of c.args.self.now.opened) c.in-AwaitPong.is in
    rw (k, c.in-AwaitPong.is) (row_goes r _ _ _ _ _ _ m _ at (c.after_line.ensures r m _ p at s))

pub returns-in-Handshake-clause-answers : goal.returns-in-Handshake-clause-answers
returns-in-Handshake-clause-answers g c side h =
    answers_own _ _ _ _ side _ c.in-Handshake.is h c.handshake_line.ensures.answers
