-- The invariant holds at first: the moves of all own pieces are all legal moves (from_men of Listed). Each call has
-- room: all legal moves of a sound position fit into a list, so those of the next piece do (fits_from).
use Rattle.std.proofs.Common.{◌≡◌, ◌<◌, ℕ}
use Rattle.chess_base.specs.{Men.man_at, Men.is_of, Sound.IsSound}
use Rattle.chess_moves.specs.Sets.{contains}
use Rattle.chess_bits.proofs.Listed.{from_men, fits_from}
use Rattle.chess_bits.proofs.bits.Bits.add_moves.Goals as goal

pub loop-from-init : goal.loop-from-init
loop-from-init c =
    let own : (k : ℕ) → k < 64 → contains c.all-men.result k ≡ is_of c.args.self.now.side (man_at c.args.self.now.men k) =
    rw (← c.self.view_is) (c.all-men.ensures c.self.inside.setup.men c.self.invariant.1) in
    rw c.requires (from_men c.args.self.now c.all-men.result own)

pub add_moves_of-requires-clause-room : goal.add_moves_of-requires-clause-room
add_moves_of-requires-clause-room c =
    let sound : IsSound c.args.self.now = rw (← c.self.view_is) c.self.invariant.0 in
    fits_from c.args.self.now c.loop-from.list.items _ c.in-Some.from _ sound c.in-Some.ensures c.loop-from.invariant
