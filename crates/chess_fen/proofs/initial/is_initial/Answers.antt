-- Clause exact: a sound position has the FEN of normal chess's initial position exactly if it is that position
-- (one_initial of OneInitial).
use Rattle.std.proofs.Common.{subst, ◌∙◌}
use Rattle.chess_base.specs.Sound.{IsSound}
use Rattle.chess_fen.proofs.OneInitial.{one_initial}
use Rattle.chess_fen.proofs.initial.is_initial.Goals as goal

pub returns-clause-exact : goal.returns-clause-exact
returns-clause-exact c =
    let start : IsSound c.args.start.now = subst IsSound c.setup-start.ensures.value c.setup-start.ensures.sound in
    let initial = subst IsSound (c.setup-initial.ensures.value ∙ c.initial-initial.ensures) c.setup-initial.ensures.sound in
    rw (c.has_fen_of.ensures, c.initial-initial.ensures) (one_initial c.args.start.now start initial)
