-- Each turn puts a piece on one square more (put_more of Unpacked); at the end all squares of the set have theirs
-- (put_all).
use Rattle.std.proofs.Common.{◌≡◌, ◌<◌, refl, ap, subst, length, arith}
use Rattle.std.proofs.lemmas.List.{nil_from_length}
use Rattle.chess_moves.specs.Sets.{members}
use Rattle.chess_game.proofs.Unpacked.{put_more, put_all}
use Rattle.chess_moves.proofs.shared.Members.{length_members}
use Rattle.chess_game.proofs.packed.PackedMen.put_kind.Goals as goal

pub loop-turn-init : goal.loop-turn-init
loop-turn-init c = (omega (arith, length_members c.args.set), record { board = omega arith; same = λ k low. refl })

pub loop-turn-preserved : goal.loop-turn-preserved
loop-turn-preserved c = (
  omega (arith, ap length c.in-Some.ensures, c.loop-turn.invariant.0),
  put_more c.args.self.now c.args.kind c.colour_at-colour.result c.loop-turn.men c.loop-turn.left c.take_first.new.self
      c.index.result c.in-Some.square c.args.men.now c.args.set c.colour_at-colour.ensures c.index.ensures.value
      (subst (λ n. n < 64) c.index.ensures.value c.index.ensures.in_range) c.in-Some.ensures c.loop-turn.invariant.1,
)

pub returns-in_default-clause-length : goal.returns-in_default-clause-length
returns-in_default-clause-length c = c.loop-turn.invariant.1.board

pub returns-in_default-clause-each : goal.returns-in_default-clause-each
returns-in_default-clause-each c =
    put_all c.args.self.now c.args.kind c.loop-turn.men c.loop-turn.left c.args.men.now c.args.set
    c.in_default.ensures.0
    c.loop-turn.invariant.1

pub returns-clause-length : goal.returns-clause-length
returns-clause-length c = c.loop-turn.invariant.1.board

pub returns-clause-each : goal.returns-clause-each
returns-clause-each c =
    let few : length (members c.loop-turn.left) ≡ 0 = omega (arith, c.loop-turn.invariant.0) in
    put_all c.args.self.now c.args.kind c.loop-turn.men c.loop-turn.left c.args.men.now c.args.set
    (nil_from_length (members c.loop-turn.left) few) c.loop-turn.invariant.1
