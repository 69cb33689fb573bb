-- In a sound position a colour has exactly one king. So the set of its kings isn't empty, as `first` requires
-- (some_king of OneKing), and no square but its first has a king of this colour (alone).
use Rattle.chess_base.proofs.shared.Kings.{one_king_of}
use Rattle.std.proofs.Common.{sym, ◌∙◌, ap}
use Rattle.chess_base.specs.declared.man.Kind.TheVariants.{King}
use Rattle.chess_moves.specs.Sets.{contains}
use Rattle.chess_bits.proofs.OneKing.{some_king, alone}
use Rattle.chess_bits.proofs.bits.Bits.king.Goals as goal

pub first-requires : goal.first-requires
first-requires c =
    let kinds = c.of-men.ensures c.self.inside.setup.men c.self.invariant.1 in
    some_king c.self.inside.setup.men c.args.colour c.of-kings.result c.self.invariant.0.board
    (one_king_of c.self.inside.setup c.self.invariant.0 c.args.colour)
    (λ k low. ap (λ w. contains w k) c.of-kings.ensures ∙ kinds.of_kind King k low)

pub returns-clause-alone : goal.returns-clause-alone
returns-clause-alone c =
    let kinds = c.of-men.ensures c.self.inside.setup.men c.self.invariant.1 in
    rw (← c.self.view_is)
    (alone c.self.inside.setup.men c.args.colour c.first.result c.self.invariant.0.board
    (one_king_of c.self.inside.setup c.self.invariant.0 c.args.colour)
    (sym (ap (λ w. contains w c.first.result) c.of-kings.ensures
    ∙ kinds.of_kind King c.first.result c.first.ensures.in_range) ∙ c.first.ensures.nearest.here))
