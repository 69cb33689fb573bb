-- The phase of the core is that of the match, and says what the side owes: in its turn, before its move, the move
-- (`owe_move`); otherwise a reply (`owe_reply`).
use Rattle.std.proofs.Common.{ap, sym, ◌∙◌}
use Rattle.chess_base.specs.declared.man.Colour.{Colour}
use Rattle.chess_base.proofs.shared.Men.{same_colour-true}
use Rattle.chess_match.specs.{Acts.awaits_line, Acts.is_over, Effects.BeforeMove, Effects.Phase, ties.Represents.phase_of}
use Rattle.chess_match.proofs.{CoreSteps.owed_goes, CoreSteps.silence_goes, shared.MatchCases.on_when_read}
use Rattle.chess_match.proofs.state.MatchState.silent.Goals as goal

pub returns-in-Handshake : goal.returns-in-Handshake
returns-in-Handshake g c r m p aw s =
    let at = s.phase ∙ ap (phase_of c.args.self.now.opened) c.in-Handshake.is in
    silence_goes r _ _ _ _ c.args.side c.args.moment m _ at (c.owe_reply.ensures r _ m (ap is_over at) s)

pub returns-in-AwaitMove : goal.returns-in-AwaitMove
returns-in-AwaitMove g c r m p aw s =
    let at = s.phase ∙ ap (phase_of c.args.self.now.opened) c.in-AwaitMove.is in
    let here = same_colour-true _ c.args.side (ap (λ (q : Phase). awaits_line q c.args.side) (sym at) ∙ aw) in
    c.owe_move.ensures r m p (at ∙ ap (λ (x : Colour). BeforeMove x c.args.self.now.opened) here) s

pub returns-in-Setup : goal.returns-in-Setup
returns-in-Setup g c r m p aw s =
    owed_goes r _ _ _ _ c.args.side c.args.moment c.args.self.now.opened m _ c.in-Setup.is s.phase
    (c.owe_reply-in-Setup.ensures r _ m (on_when_read m.phase c.args.side aw) s)
