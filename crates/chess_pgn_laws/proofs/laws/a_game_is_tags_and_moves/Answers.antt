-- `pgn_read` is what the split `tokens_from` says of the game (read_split), and what any split says, since a text has
-- only one (only_read of chess_pgn). Token by token the same is read (reads_alike of chess_pgn, by induction on the
-- tokens).
use Rattle.std.proofs.Common.{ℕ, Bool, List, refl}
use Rattle.chess_pgn.specs.GameRead.{IsRead, pgn_read}
use Rattle.pgn_tokens.specs.Tokens.{tokens_from}
use Rattle.byte_devices.specs.Bytes.{after_byte_order_mark}
use Rattle.chess_pgn.proofs.shared.Games.{only_read, reads_alike}
use Rattle.pgn_tokens.proofs.shared.Tokens.{read_split}
use Rattle.chess_pgn_laws.proofs.laws.a_game_is_tags_and_moves.Goals as goal

-- what is read is what the only split of the text says
is_read : (draws : Bool) (limit : ℕ) (text : List ℕ) (at : ℕ)
    → IsRead draws limit text at (pgn_read draws limit text at)
unfolding pgn_read
is_read draws limit text at = record {
  tokens = tokens_from text (after_byte_order_mark text at);
  split = read_split text (after_byte_order_mark text at);
  is = refl;
}

pub returns-clause-read : goal.returns-clause-read
returns-clause-read c = is_read

pub returns-clause-no_other : goal.returns-clause-no_other
returns-clause-no_other c = only_read

pub returns-clause-token_by_token : goal.returns-clause-token_by_token
returns-clause-token_by_token c = reads_alike
