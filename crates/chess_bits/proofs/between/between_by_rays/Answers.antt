-- If a is not the lower square, the two are exchanged: what lies between two squares lies between them the other way
-- round (between_back of chess_base).
use Rattle.std.proofs.Common.{◌∙◌}
use Rattle.chess_base.specs.shared.Lines.{line_number}
use Rattle.chess_base.proofs.{shared.Geometry.between_back, shared.MenAfter.eqb_comm}
use Rattle.chess_bits.proofs.between.between_by_rays.Goals as goal

pub returns : goal.returns
returns c = λ l same k low.
    c.rising_between-2.ensures l (eqb_comm (line_number l c.args.b) (line_number l c.args.a) ∙ same) k low
    ∙ between_back c.args.b c.args.a k
