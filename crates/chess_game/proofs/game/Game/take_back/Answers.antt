-- The last move was made in the position that the played moves before it reached, and is kept with what it captured: so
-- the board goes back to that position (taken of Kept). No verdict came before the last move, so none before the one
-- that is now the last (unended_fewer of Judged).
use Rattle.std.proofs.Common.{List, sym, ap, subst, ◌∙◌, arith}
use Rattle.chess_game.specs.{Line.position_after, ties.Buckets.IsIndexed, ties.PlayedMoves.moves_of, ties.PlayedMoves.Follows, declared.game.PlayedMove.PlayedMove}
use Rattle.chess_game.proofs.{Kept.taken, Kept.fewer, Kept.hashes_fewer, Judged.unended_fewer, Judged.last_is}
use Rattle.chess_game.proofs.game.Game.take_back.Goals as goal

pub take_back-requires : goal.take_back-requires
take_back-requires g c = (
  position_after c.self.inside.start.position (moves_of c.pop.new.self.items),
  taken c.self.inside.start.position c.self.inside.played_moves.items c.pop.new.self.items c.in-Some.played_move _ _ _
      c.self.invariant.0.follows c.in-Some.ensures.items c.self.invariant.0.at_end
      (c.last_position-before.ensures ∙ ap (λ ys. position_after c.self.inside.start.position (moves_of ys))
      c.as_slice.ensures.value) c.saved-saved.ensures,
)

pub last_position-before-requires : goal.last_position-before-requires
last_position-before-requires g c =
    subst (λ (ys : List PlayedMove). Follows c.self.inside.start.position ys) (sym c.as_slice.ensures.value)
    (fewer c.self.inside.start.position c.self.inside.played_moves.items c.pop.new.self.items c.in-Some.played_move
    c.self.invariant.0.follows c.in-Some.ensures.items)

pub invariant_of-self-in-Some : goal.invariant_of-self-in-Some
invariant_of-self-in-Some g c = (
  record {
    known = c.self.invariant.0.known;
    follows = fewer c.self.inside.start.position c.self.inside.played_moves.items c.pop.new.self.items
        c.in-Some.played_move
        c.self.invariant.0.follows c.in-Some.ensures.items;
    hashes = hashes_fewer g.B.Board.word_of c.self.inside.start c.self.inside.played_moves.items c.pop.new.self.items
        c.in-Some.played_move c.self.invariant.0.hashes c.in-Some.ensures.items;
    at_end = c.take_back.ensures.back (position_after c.self.inside.start.position (moves_of c.pop.new.self.items))
        (taken c.self.inside.start.position c.self.inside.played_moves.items c.pop.new.self.items c.in-Some.played_move
        _ _ _ c.self.invariant.0.follows c.in-Some.ensures.items c.self.invariant.0.at_end
        (c.last_position-before.ensures ∙ ap (λ ys. position_after c.self.inside.start.position (moves_of ys))
        c.as_slice.ensures.value) c.saved-saved.ensures);
  },
  unended_fewer c.self.inside.start.position c.self.inside.played_moves.items c.pop.new.self.items c.in-Some.played_move
      c.self.invariant.1 c.in-Some.ensures.items,
  record { few = omega arith; made = omega arith; bound = omega arith },
  c.pop-in-Some.ensures c.self.inside.start c.pop.new.self.items
      (subst (IsIndexed c.self.inside.index.heads.items c.self.inside.start) c.in-Some.ensures.items
      c.self.invariant.3),
)

pub pop-requires-in-Some : goal.pop-requires-in-Some
pop-requires-in-Some g c = (
  c.self.inside.start,
  c.pop.new.self.items,
  subst (IsIndexed c.self.inside.index.heads.items c.self.inside.start) c.in-Some.ensures.items
      c.self.invariant.3,
)

pub returns-in-Some-clause-answer : goal.returns-in-Some-clause-answer
returns-in-Some-clause-answer g c =
    rw (← c.self.view_is)
    (last_is c.self.inside.played_moves.items c.pop.new.self.items c.in-Some.played_move c.in-Some.ensures.items)
