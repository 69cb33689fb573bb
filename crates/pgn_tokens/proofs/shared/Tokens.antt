-- For crates that look into tokens: the split of a text, its tokens one by one, and where they are.

-- where reading from an offset on begins; at the text's end there is no token
pub use Rattle.pgn_tokens.proofs.Beginnings.{none_from_end, not_before}
-- the next token at a byte of a word is that word
pub use Rattle.pgn_tokens.proofs.FirstWords.{some_word}
-- the last tag of a name is the same from before skipped tokens as from after them
pub use Rattle.pgn_tokens.proofs.SkippedTokens.{skipped}
-- a text has exactly one split, the one that is read
pub use Rattle.pgn_tokens.proofs.Splits.{read_split, split_read}
-- what is read at a text's front: a token of a kind, or a fault
pub use Rattle.pgn_tokens.proofs.TokenKinds.{TokenSays, begins_word, faulty, is_fault, known, no_percent, stays_longest, token_says, token_some}
-- what a token names by the bytes left there, such as a tag's string, is within the text
pub use Rattle.pgn_tokens.proofs.TokenPlaces.{token_within, within}
-- a text has exactly one split by kinds: the tokens that are read
pub use Rattle.pgn_tokens.proofs.TokenSplits.{kinds_read, read_kinds}
-- the tokens from an offset on are the first one, and those after it
pub use Rattle.pgn_tokens.proofs.Walk.{NextToken, enough, next_token, no_token, shorter, token_more}
