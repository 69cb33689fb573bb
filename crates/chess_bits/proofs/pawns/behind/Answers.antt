-- A square from rank 2 on is in the result exactly if the next square ahead of it, for this colour, is in the set:
-- against the way of one colour is the way of the other, so it is `ahead` of the other colour (back).
use Rattle.std.proofs.Common.{◌≡◌, ℕ, ◌<◌, ◌≤◌, refl, ◌∙◌, le-leb}
use Rattle.chess_base.specs.{declared.man.Colour.Colour, declared.man.Colour.TheVariants.White, declared.man.Colour.TheVariants.Black, Men.forward, Men.other}
use Rattle.chess_bits.specs.ties.Goes.{IsAhead}
use Rattle.chess_moves.specs.Sets.{contains}
use Rattle.chess_bits.proofs.pawns.behind.Goals as goal

back : (c d : Colour) (s w k : ℕ) → d ≡ other c → IsAhead d s w → k < 64 → 8 ≤ k → contains w k ≡ contains s (forward c k)
back White d s w k e h low high = h.down e k
back Black d s w k e h low high = h.up e k low ∙ rw (le-leb 8 k high) refl

pub returns : goal.returns
returns c = λ k low high. back c.args.colour c.other.result c.args.squares c.ahead.result k c.other.ensures c.ahead.ensures low high
