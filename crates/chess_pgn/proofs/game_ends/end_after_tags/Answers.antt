-- A token that doesn't end the game keeps the invariant (GameEnds.seeks_on). One that does is the first end
-- (GameEnds.found); at the text's end and at what can't be read there is none (none_to_end, none_readable). Where all
-- tags of a game come before `at`, this is the game's end (end_is).
use Rattle.std.proofs.Common.{◌≡◌, None, Some, refl, sym, ◌∙◌, rules}
use Rattle.pgn_tokens.specs.Seen.{token_seen}
use Rattle.chess_pgn.proofs.GameEnds.{seeks_on, found, none_to_end, none_readable, end_is}
use Rattle.pgn_tokens.proofs.shared.Tokens.{token_within}
use Rattle.chess_pgn.proofs.game_ends.end_after_tags.Goals as goal

pub loop-token-init : goal.loop-token-init
loop-token-init c = record { offset = c.requires; whole = refl }

pub ends_at-requires-clause-within : goal.ends_at-requires-clause-within
ends_at-requires-clause-within c =
    token_within c.args.text.now c.loop-token.offset (token_seen c.in-Ok-Some.token) _ c.loop-token.invariant.offset
    (rw c.in-Ok-Some.field-0-is at c.in-Ok-Some.ensures).0

pub loop-token-preserved : goal.loop-token-preserved
loop-token-preserved c =
    let next = rw c.in-Ok-Some.field-0-is at c.in-Ok-Some.ensures in
    let none : c.ends_at.result ≡ None = search rules in
    seeks_on c.args.text.now c.args.at c.loop-token.offset c.loop-token.invariant c.in-Ok-Some.token_end
    (token_seen c.in-Ok-Some.token) next.0 next.2 (sym c.ends_at.ensures ∙ none)

pub returns-in-Some : goal.returns-in-Some
returns-in-Some c from after =
    let next = rw c.in-Ok-Some.field-0-is at c.in-Ok-Some.ensures in
    let some : c.ends_at.result ≡ Some c.in-Some.end = search rules in
    end_is c.args.text.now from c.args.at (Some c.in-Some.end) after
    (sym (found c.args.text.now c.args.at c.loop-token.offset c.loop-token.invariant (token_seen c.in-Ok-Some.token) _
    next.0 c.in-Some.end (sym c.ends_at.ensures ∙ some)))

pub returns-in-Ok-None : goal.returns-in-Ok-None
returns-in-Ok-None c from after =
    end_is c.args.text.now from c.args.at None after
    (sym (none_to_end c.args.text.now c.args.at c.loop-token.offset c.loop-token.invariant
    (rw c.in-Ok-None.field-0-is at c.in-Ok-None.ensures)))

pub returns-in-Err : goal.returns-in-Err
returns-in-Err c from after =
    end_is c.args.text.now from c.args.at None after
    (sym (none_readable c.args.text.now c.args.at c.loop-token.offset c.loop-token.invariant c.in-Err.field-0
    c.in-Err.ensures))
