-- `tokens_from` is a split of the text (read_split of pgn_tokens), and any split is equal to it (split_read).
use Rattle.pgn_tokens.proofs.shared.Tokens.{read_split, split_read}
use Rattle.chess_pgn_laws.proofs.laws.a_text_has_one_split.Goals as goal

pub returns-clause-read : goal.returns-clause-read
returns-clause-read c = read_split

pub returns-clause-no_other : goal.returns-clause-no_other
returns-clause-no_other c = λ text at tokens h. split_read text h
