-- By Walk the token at the first byte that is left begins the list of tokens from there on, and the list goes on at the
-- offset after it, which is nearer to the end; a fault is the last (last_token), and where no byte is left there is
-- none (no_token_left). A word, which the code splits off directly, is that token too (FirstWords.next_word).
use Rattle.std.proofs.Common.{refl, sym, ◌∙◌, arith}
use Rattle.pgn_tokens.specs.Seen.{token_seen, fault_seen}
use Rattle.pgn_tokens.proofs.FirstWords.{next_word}
use Rattle.pgn_tokens.proofs.Walk.{NextToken, next_token, last_token, no_token_left}
use Rattle.pgn_tokens.proofs.token.next_token.Goals as goal

pub returns-in_default : goal.returns-in_default
returns-in_default c = no_token_left c.args.text.now c.args.at _ refl c.in_default.len_below

pub overflow_sub-result : goal.overflow_sub-result
overflow_sub-result c =
    (next_word c.args.text.now c.args.at _ c.split_word.result.0.now c.split_word.result.1.now c.requires refl
    c.in-len1-up.len_at_least (sym c.is_word_byte.ensures ∙ c.if-is_word_byte.true) c.split_word.ensures.word
    c.split_word.ensures.rest).fewer

pub returns-then-is_word_byte : goal.returns-then-is_word_byte
returns-then-is_word_byte c =
    let t = next_word c.args.text.now c.args.at _ c.split_word.result.0.now c.split_word.result.1.now c.requires refl
    c.in-len1-up.len_at_least (sym c.is_word_byte.ensures ∙ c.if-is_word_byte.true) c.split_word.ensures.word
    c.split_word.ensures.rest in
    (t.tokens, t.nearer, omega arith)

pub overflow_sub-result-in-Ok : goal.overflow_sub-result-in-Ok
overflow_sub-result-in-Ok c =
    (next_token c.args.text.now c.args.at c.begins_line.result _ c.requires c.begins_line.ensures refl
    c.in-len1-up.len_at_least (token_seen c.in-Ok.token) c.in-Ok.tail.now c.in-Ok.ensures).fewer

pub returns-in-Ok : goal.returns-in-Ok
returns-in-Ok c =
    let t : NextToken c.args.text.now c.args.at (token_seen c.in-Ok.token) c.in-Ok.tail.now =
    next_token c.args.text.now c.args.at c.begins_line.result _ c.requires c.begins_line.ensures refl
    c.in-len1-up.len_at_least (token_seen c.in-Ok.token) c.in-Ok.tail.now c.in-Ok.ensures in
    (t.tokens, t.nearer, omega arith)

pub returns-in-Err : goal.returns-in-Err
returns-in-Err c = last_token c.args.text.now c.args.at c.begins_line.result _ c.requires c.begins_line.ensures refl
    c.in-len1-up.len_at_least (fault_seen c.in-Err.fault) c.in-Err.ensures
