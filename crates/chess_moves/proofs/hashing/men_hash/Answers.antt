-- The result is the exclusive or of the keys of all pieces. By the loop's invariant `hash` is that of the pieces on the
-- squares before `number`; each turn joins the key of the piece on its square, or 0 if it is empty (xor_turn of
-- PositionHash), and after 64 turns all squares are joined (xor_end).
use Rattle.std.proofs.Common.{◌≡◌, ℕ, ◌∙◌, ap, arith}
use Rattle.chess_base.specs.Men.{man_at}
use Rattle.chess_moves.specs.PositionHash.{square_keys, keys_on, xor_of}
use Rattle.chess_moves.proofs.shared.PositionHash.{xor_turn, xor_end}
use Rattle.chess_moves.proofs.hashing.men_hash.Goals as goal

pub loop-number-preserved : goal.loop-number-preserved
loop-number-preserved c =
    let men = c.args.men.now in
    let here : c.square_hash-hash.result ≡ xor_of (keys_on men c.loop-number.number) = c.square_hash-hash.ensures
    ∙ ap (λ (i : ℕ). xor_of (square_keys c.new-square.result (man_at men i))) c.index.ensures.value
    ∙ ap (λ (s : ℕ). xor_of (keys_on men s)) c.new-square.ensures in
    rw here (xor_turn (keys_on men) c.loop-number.hash c.loop-number.number c.loop-number.invariant)

pub returns : goal.returns
returns c = xor_end c.args.men.now c.loop-number.hash c.loop-number.number c.loop-number.invariant (omega arith)
