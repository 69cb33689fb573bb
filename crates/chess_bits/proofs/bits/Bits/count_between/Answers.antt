-- `legal_promotions` gives one promotion (or `None`) for each legal move between the two squares, so the numbers of
-- both are equal.
use Rattle.std.proofs.Common.{length, sym, ap, ◌∙◌}
use Rattle.std.proofs.lemmas.List.{length-map}
use Rattle.chess_base.specs.MoveList.{move_of}
use Rattle.chess_bits.proofs.bits.Bits.count_between.Goals as goal

pub returns : goal.returns
returns c =
    sym (length-map c.legal_promotions.result.now (move_of c.args.from c.args.to)) ∙ ap length c.legal_promotions.ensures
