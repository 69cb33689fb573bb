-- A token keeps the invariant if it changes nothing (PastDraws.passed) or is a move (moved). The termination marker
-- (ended), a fault (stopped), the text's end (at_end) and what can't be read (unread) each end the game as reading with
-- its moves would.
use Rattle.std.proofs.Common.{◌∙◌, ap, false, length}
use Rattle.std.proofs.lemmas.Result.{err_from_is_err_and}
use Rattle.chess_game.specs.Game.{Seen, from_start}
use Rattle.chess_game.specs.declared.game.TheConstants.{MOST_MOVES}
use Rattle.chess_pgn.specs.GameRead.{moves_read}
use Rattle.pgn_tokens.specs.{Tokens.tokens_from, Seen.fault_seen, Seen.token_seen}
use Rattle.chess_pgn.proofs.PastDraws.{first, passed, moved, ended, stopped, at_end, unread}
use Rattle.pgn_tokens.proofs.shared.Tokens.{token_within}
use Rattle.chess_pgn.proofs.past_draws.read_moves.Goals as goal

pub loop-token-init : goal.loop-token-init
loop-token-init g c = (
  first c.args.text.now c.args.termination c.args.start.now c.args.game.now c.restart.new.self c.args.at c.requires
      c.restart.ensures,
  ap (λ (s : Seen). s.limit) c.restart.ensures,
)

pub token_effect-requires-clause-within : goal.token_effect-requires-clause-within
token_effect-requires-clause-within g c =
    token_within c.args.text.now c.loop-token.offset (token_seen c.in-Ok-Some.token) _
    c.loop-token.invariant.0.offset (rw c.in-Ok-Some.field-0-is at c.in-Ok-Some.ensures).0

pub loop-token-preserved : goal.loop-token-preserved
loop-token-preserved g c =
    let text = c.args.text.now in
    let all = moves_read false MOST_MOVES (length text) c.args.termination (from_start c.args.start.now)
    (tokens_from text c.args.at) in
    let next = rw c.in-Ok-Some.field-0-is at c.in-Ok-Some.ensures in (
      passed text c.args.termination all c.loop-token.game c.loop-token.plies c.loop-token.offset
          c.loop-token.invariant.0 (token_seen c.in-Ok-Some.token) c.in-Ok-Some.token_end next.0 next.1 next.2
          (rw c.in-Nothing.is at c.in_ok-effect-in-Ok-Some.ensures),
      c.loop-token.invariant.1,
    )

pub loop-token-preserved-in-Move : goal.loop-token-preserved-in-Move
loop-token-preserved-in-Move g c =
    let text = c.args.text.now in
    let all = moves_read false MOST_MOVES (length text) c.args.termination (from_start c.args.start.now)
    (tokens_from text c.args.at) in
    let next = rw c.in-Ok-Some.field-0-is at c.in-Ok-Some.ensures in (
      moved text c.args.termination all c.loop-token.game c.loop-token.plies c.loop-token.offset
          c.loop-token.invariant.0 (token_seen c.in-Ok-Some.token) c.in-Ok-Some.token_end next.0 next.1 next.2
          c.in-Move.next c.restart-in-Move.new.self (rw c.in-Move.is at c.in_ok-effect-in-Ok-Some.ensures)
          c.restart-in-Move.ensures,
      ap (λ (s : Seen). s.limit) c.restart-in-Move.ensures ∙ c.loop-token.invariant.1,
    )

pub returns-in-End-clause-read : goal.returns-in-End-clause-read
returns-in-End-clause-read g c =
    let text = c.args.text.now in
    let all = moves_read false MOST_MOVES (length text) c.args.termination (from_start c.args.start.now)
    (tokens_from text c.args.at) in
    let next = rw c.in-Ok-Some.field-0-is at c.in-Ok-Some.ensures in
    ended text c.args.termination all c.loop-token.game c.loop-token.plies c.loop-token.offset
    c.loop-token.invariant.0 (token_seen c.in-Ok-Some.token) (tokens_from text c.in-Ok-Some.token_end) next.0
    c.in-End.outcome c.in-End.end (rw c.in-End.is at c.in_ok-effect-in-Ok-Some.ensures)

pub returns-in_err-effect-in-Ok-Some-clause-read : goal.returns-in_err-effect-in-Ok-Some-clause-read
returns-in_err-effect-in-Ok-Some-clause-read g c =
    let text = c.args.text.now in
    let all = moves_read false MOST_MOVES (length text) c.args.termination (from_start c.args.start.now)
    (tokens_from text c.args.at) in
    let next = rw c.in-Ok-Some.field-0-is at c.in-Ok-Some.ensures in
    let p = err_from_is_err_and c.from_residual.result c.from_residual.ensures.1 in
    rw (p.1, p.2) (stopped text c.args.termination all c.loop-token.game c.loop-token.plies c.loop-token.offset
    c.loop-token.invariant.0 (token_seen c.in-Ok-Some.token) (tokens_from text c.in-Ok-Some.token_end) next.0
    c.in_err-effect-in-Ok-Some.field-0.0 c.in_err-effect-in-Ok-Some.ensures)

pub returns-in-Ok-None-clause-read : goal.returns-in-Ok-None-clause-read
returns-in-Ok-None-clause-read g c =
    let text = c.args.text.now in
    let all = moves_read false MOST_MOVES (length text) c.args.termination (from_start c.args.start.now)
    (tokens_from text c.args.at) in
    at_end text c.args.termination all c.loop-token.game c.loop-token.plies c.loop-token.offset
    c.loop-token.invariant.0 (rw c.in-Ok-None.field-0-is at c.in-Ok-None.ensures)

pub unread_fault-requires-clause-within : goal.unread_fault-requires-clause-within
unread_fault-requires-clause-within g c =
    token_within c.args.text.now c.loop-token.offset (fault_seen c.in-Err.fault) _ c.loop-token.invariant.0.offset
    c.in-Err.ensures

pub returns-in-Err-clause-read : goal.returns-in-Err-clause-read
returns-in-Err-clause-read g c =
    let text = c.args.text.now in
    let all = moves_read false MOST_MOVES (length text) c.args.termination (from_start c.args.start.now)
    (tokens_from text c.args.at) in
    unread text c.args.termination all c.loop-token.game c.loop-token.plies c.loop-token.offset
    c.loop-token.invariant.0 c.in-Err.fault c.unread_fault.result c.in-Err.ensures c.unread_fault.ensures
