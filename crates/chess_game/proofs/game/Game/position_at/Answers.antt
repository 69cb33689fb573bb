-- The first half-moves follow from the start too (follows_take of Kept), and the last position of these is the one that
-- they reach.
use Rattle.std.proofs.Common.{List, take, sym, ap, subst, ◌∙◌}
use Rattle.std.proofs.lemmas.List.{take-map}
use Rattle.chess_game.specs.{Line.position_after, ties.PlayedMoves.moves_of, ties.PlayedMoves.Follows, declared.game.PlayedMove.PlayedMove}
use Rattle.chess_game.proofs.Kept.{follows_take}
use Rattle.chess_game.proofs.game.Game.position_at.Goals as goal

pub last_position-requires : goal.last_position-requires
last_position-requires g c =
    subst (λ (ys : List PlayedMove). Follows c.self.inside.start.position ys)
    (sym (c.split_at.ensures.front ∙ ap (take c.args.ply) c.as_slice.ensures.value))
    (follows_take c.self.inside.start.position c.self.inside.played_moves.items c.args.ply c.self.invariant.0.follows)

pub returns : goal.returns
returns g c =
    let start = c.self.inside.start.position in
    let xs = c.self.inside.played_moves.items in
    rw (← c.self.view_is)
    (c.unpacked.ensures ∙ c.last_position.ensures
    ∙ ap (λ ys. position_after start (moves_of ys))
    (c.split_at.ensures.front ∙ ap (take c.args.ply) c.as_slice.ensures.value)
    ∙ ap (position_after start) (sym (take-map (λ (x : PlayedMove). x.made) c.args.ply xs)))
