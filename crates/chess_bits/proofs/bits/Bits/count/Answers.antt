-- The result is the number of all legal moves, and no sum overflows. Each call counts the moves of the pieces that it
-- takes out of the set, and leaves the others to the next. So the sum counts the moves of all own pieces, which are all
-- legal moves (from_men of Listed); those of some pieces are 896 at most (some_fit of Counted).
use Rattle.std.proofs.Common.{◌≡◌, ◌<◌, ℕ, length, ap, arith}
use Rattle.chess_base.specs.Men.{man_at, is_of}
use Rattle.chess_moves.specs.Sets.{contains}
use Rattle.chess_bits.proofs.{Counted.some_fit, Listed.from_men}
use Rattle.chess_bits.proofs.bits.Bits.count.Goals as goal

pub count_each-others-requires-clause-few : goal.count_each-others-requires-clause-few
count_each-others-requires-clause-few c = some_fit c.args.self.now c.count_kind-queens.new.men
    c.setup-sound.ensures.sound

pub overflow_add-result : goal.overflow_add-result
overflow_add-result c = omega (arith, some_fit c.args.self.now c.all-men.result c.setup-sound.ensures.sound)

pub overflow_add-result-2 : goal.overflow_add-result-2
overflow_add-result-2 c = omega (arith, some_fit c.args.self.now c.all-men.result c.setup-sound.ensures.sound)

pub overflow_add-result-3 : goal.overflow_add-result-3
overflow_add-result-3 c = omega (arith, some_fit c.args.self.now c.all-men.result c.setup-sound.ensures.sound)

pub overflow_add-result-4 : goal.overflow_add-result-4
overflow_add-result-4 c = omega (arith, some_fit c.args.self.now c.all-men.result c.setup-sound.ensures.sound)

pub overflow_add-result-5 : goal.overflow_add-result-5
overflow_add-result-5 c = omega (arith, some_fit c.args.self.now c.all-men.result c.setup-sound.ensures.sound)

pub returns : goal.returns
returns c =
    let own : (k : ℕ) → k < 64 → contains c.all-men.result k ≡ is_of c.args.self.now.side (man_at c.args.self.now.men k) =
    rw (← c.self.view_is) (c.all-men.ensures c.self.inside.setup.men c.self.invariant.1) in
    let all = ap length (from_men c.args.self.now c.all-men.result own) in
    omega (arith, all)
