-- With no piece on any square, empty sets and the hash 0 are the sets of the board (no_sets of Standing).
use Rattle.std.proofs.Common.{refl}
use Rattle.chess_base.specs.declared.man.Colour.TheVariants.{White, Black}
use Rattle.chess_bits.proofs.Standing.{no_sets}
use Rattle.chess_bits.proofs.sets.Sets.empty.Goals as goal

pub returns : goal.returns
returns c = λ men none. no_sets _ men none (c.empty.ensures.kinds White men none) (c.empty-2.ensures.kinds Black men none)
    c.empty.ensures.none c.empty-2.ensures.none refl
