-- The pieces before are those taken out and those left, so the moves of both together are the moves of all (split of
-- KindsCounted), whether pawns or other pieces are counted. The moves of the pieces taken fit into a list, as
-- `count_officers` requires (some_fit of Counted).
use Rattle.std.proofs.Common.{◌+◌, length, ap, ◌∙◌, flat_map}
use Rattle.chess_moves.specs.{shared.MovesBySquares.moves_from, Sets.members}
use Rattle.chess_bits.proofs.{Counted.some_fit, KindsCounted.split}
use Rattle.chess_bits.proofs.bits.Bits.count_kind.Goals as goal

pub count_officers-requires-clause-few : goal.count_officers-requires-clause-few
count_officers-requires-clause-few c = some_fit c.args.self.now c.intersection-taken.result c.setup-sound.ensures.sound

pub returns-then-is_pawn : goal.returns-then-is_pawn
returns-then-is_pawn c =
    ap (λ n. n + length (flat_map (λ a. moves_from c.args.self.now a) (members c.without.result)))
    c.count_ordinary_pawns.ensures
    ∙ split (λ a. moves_from c.args.self.now a) c.args.men.now c.intersection-chosen.result c.intersection-taken.result
    c.without.result c.intersection-taken.ensures c.without.ensures

pub returns-else-is_pawn : goal.returns-else-is_pawn
returns-else-is_pawn c =
    ap (λ n. n + length (flat_map (λ a. moves_from c.args.self.now a) (members c.without.result)))
    c.count_officers.ensures
    ∙ split (λ a. moves_from c.args.self.now a) c.args.men.now c.intersection-chosen.result c.intersection-taken.result
    c.without.result c.intersection-taken.ensures c.without.ensures
