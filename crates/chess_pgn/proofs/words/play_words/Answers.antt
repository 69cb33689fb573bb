-- A word that is taken is the next token (some_word), and the step of that token is what was done (GameReads.one_more).
-- If the next word is not taken, the next token is no move that the game plays (LeftTokens.left_at).
use Rattle.std.proofs.Common.{refl}
use Rattle.chess_pgn.proofs.{GameReads.one_more, LeftTokens.left_at}
use Rattle.pgn_tokens.proofs.shared.Tokens.{some_word}
use Rattle.chess_pgn.proofs.words.play_words.Goals as goal

pub loop-tail-preserved : goal.loop-tail-preserved
loop-tail-preserved g c =
    let word = some_word c.args.text.now c.loop-tail.offset _ c.split_word.result.0.now c.split_word.result.1.now
    c.loop-tail.invariant.offset refl c.split_word.ensures.word c.split_word.ensures.rest
    (c.try_word.ensures.some c.if-not-try_word.false) in
    one_more c.args.text.now c.args.at c.args.game.now c.loop-tail.game c.try_word.new.game c.args.progress.now
    c.loop-tail.progress c.begun.result c.loop-tail.offset _ c.after_skipped-offset.result
    c.split_word.result.0.now c.try_word.result c.loop-tail.invariant word.tokens word.nearer
    c.try_word.ensures.limit c.if-not-try_word.false c.try_word.ensures.taken c.begun.ensures
    c.after_skipped-offset.ensures.alike c.after_skipped-offset.ensures.forward c.after_skipped-offset.ensures.within

pub returns-then-not-try_word-clause-left : goal.returns-then-not-try_word-clause-left
returns-then-not-try_word-clause-left g c =
    left_at c.try_word.new.game c.args.text.now c.loop-tail.offset _ c.split_word.result.0.now
    c.loop-tail.invariant.offset refl c.split_word.ensures.word (c.try_word.ensures.left c.if-not-try_word.true)
