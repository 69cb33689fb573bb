-- Without a start square the list of moves is empty, which is read as `NoSuch`. With just one, the step from `NoSuch`
-- with its move (one_found, more_found of Origins) is the last one (last_found). The call of `with_starts`, for more,
-- needs no proof here: its contract is the same.
use Rattle.std.proofs.Common.{sym, ap, ◌∙◌, eqb-true, flat_map}
use Rattle.chess_moves.specs.Sets.{members}
use Rattle.chess_moves.proofs.shared.Members.{members_none}
use Rattle.chess_text.specs.{Moves.one_of, ties.Forms.denoted_start}
use Rattle.chess_text.specs.declared.reading.Reading.TheVariants as reads
use Rattle.chess_text.proofs.Origins.{last_found, more_found, one_found}
use Rattle.chess_text.proofs.reading.denoted_among.Goals as goal

pub returns-in_default : goal.returns-in_default
returns-in_default c =
    let f = denoted_start c.args.parts.now c.args.setup.now c.args.kind in
    sym (ap (λ ms. one_of (flat_map f ms)) c.in_default.ensures.0)

pub returns-then-is_empty : goal.returns-then-is_empty
returns-then-is_empty c =
    let f = denoted_start c.args.parts.now c.args.setup.now c.args.kind in
    last_found f c.with_start.result _ (members c.take_first.new.self)
    (members_none c.take_first.new.self
    (eqb-true c.take_first.new.self 0 (sym c.is_empty.ensures.zero ∙ c.if-is_empty.true)))
    (more_found f reads.NoSuch c.with_start.result _ c.in-Some.from (members c.args.starts)
    (members c.take_first.new.self) c.in-Some.ensures
    (one_found (flat_map f (members c.args.starts))) c.with_start.ensures)
