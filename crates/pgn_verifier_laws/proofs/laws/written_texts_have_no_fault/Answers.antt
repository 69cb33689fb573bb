-- Each written game is read back, and a text is read token by token (the laws that are called), so written games, one
-- after another, are reported as these games, without a fault (WrittenTexts.written_texts).
use Rattle.pgn_verifier_laws.proofs.WrittenTexts.{written_texts}
use Rattle.pgn_verifier_laws.proofs.laws.written_texts_have_no_fault.Goals as goal

pub returns : goal.returns
returns c =
    written_texts c.a_game_is_tags_and_moves.ensures.token_by_token c.pgn_is_read_back.ensures.read
    (c.pgn_is_read_back.ensures.result, c.pgn_is_read_back.ensures.variant)
