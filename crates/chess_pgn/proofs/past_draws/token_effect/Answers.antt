-- The definition counts a word's offset back from the text's end, the code from its front: both are the same, as the
-- word begins in the text.
use Rattle.std.proofs.Common.{◌≡◌, ◌-◌, arith}
use Rattle.chess_pgn.proofs.past_draws.token_effect.Goals as goal

pub returns-in-Word : goal.returns-in-Word
returns-in-Word g c =
    let place : c.args.len - (c.args.len - c.args.offset) ≡ c.args.offset = omega (arith, c.requires.offset) in
    rw (c.in-Word.is, place) c.word_effect.ensures
