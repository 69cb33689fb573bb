-- The game that is shown is playable: its start is sound; the moves are a line, since each that is kept was made in the
-- position before it (kept_line of Kept); and by the invariant they are no more than the limit.
use Rattle.std.proofs.{Common.◌≡◌, Common.length, Common.arith, lemmas.List.length-map}
use Rattle.chess_game.specs.{ties.PlayedMoves.moves_of, declared.game.PlayedMove.PlayedMove}
use Rattle.chess_game.proofs.Kept.{kept_line}
use Rattle.chess_game.proofs.game.Game.position.Goals as goal

pub returns-clause-playable : goal.returns-clause-playable
returns-clause-playable g c =
    rw (← c.self.view_is) (record {
      start = c.halfmove-sound.ensures.sound;
      line = kept_line c.self.inside.start.position c.self.inside.played_moves.items c.self.invariant.0.follows;
      limit = (let e : length (moves_of c.self.inside.played_moves.items) ≡ length c.self.inside.played_moves.items =
          length-map c.self.inside.played_moves.items (λ (x : PlayedMove). x.made) in omega arith);
      unended = c.self.invariant.1.before;
    })
