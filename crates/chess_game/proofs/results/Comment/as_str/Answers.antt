-- A comment is ASCII, so UTF-8 (comment_is_utf8 of CommentTexts): the conversion can't fail, and the `unreachable!`
-- isn't reached.
use Rattle.chess_game.proofs.CommentTexts.{comment_is_utf8}
use Rattle.chess_game.proofs.results.Comment.as_str.Goals as goal

pub unreachable-requires : goal.unreachable-requires
unreachable-requires c =
    c.in-Err.ensures.cases.0 (rw c.as_bytes.ensures.value (comment_is_utf8 c.args.self.now c.as_bytes.ensures.valid))
