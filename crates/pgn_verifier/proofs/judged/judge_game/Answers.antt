-- By `strict` the game is read with the draws of 2014 or without; in each branch the contract of the function called is
-- that of this one, with the flag put in.
use Rattle.std.proofs.Common.{◌≡◌, ◌∙◌, Bool, IfOk, IfSome, ap, length, subst, sym, true}
use Rattle.chess_pgn.specs.PastDraws.{Stands}
use Rattle.pgn_verifier.specs.laws.Reported.{judged_of, read_at}
use Rattle.pgn_verifier.proofs.Judging.{stands_same}
use Rattle.pgn_verifier.proofs.judged.judge_game.Goals as goal

pub returns-then-strict-clause-judged : goal.returns-then-strict-clause-judged
returns-then-strict-clause-judged c =
    c.judge_by_laws.ensures.judged
    ∙ ap (λ (b : Bool). judged_of c.args.strict c.args.text.now c.args.at (read_at b c.args.text.now c.args.at))
    (sym c.if-strict.true)

pub returns-then-strict-clause-plies : goal.returns-then-strict-clause-plies
returns-then-strict-clause-plies c =
    subst (λ (b : Bool). IfOk c.judge_by_laws.result (λ o. IfSome o
    (λ j. j.plies ≡ length (read_at b c.args.text.now c.args.at).state.moves))) (sym c.if-strict.true)
    c.judge_by_laws.ensures.plies

pub returns-then-strict-clause-game : goal.returns-then-strict-clause-game
returns-then-strict-clause-game c =
    subst (λ (b : Bool). Stands b c.judge_by_laws.new.game.state (read_at b c.args.text.now c.args.at).state)
    (sym c.if-strict.true)
    (stands_same true c.judge_by_laws.new.game.state (read_at true c.args.text.now c.args.at).state
    c.judge_by_laws.ensures.game)

pub returns-clause-judged : goal.returns-clause-judged
returns-clause-judged c =
    c.judge_past_draws.ensures.judged
    ∙ ap (λ (b : Bool). judged_of c.args.strict c.args.text.now c.args.at (read_at b c.args.text.now c.args.at))
    (sym c.if-strict.false)

pub returns-clause-plies : goal.returns-clause-plies
returns-clause-plies c =
    subst (λ (b : Bool). IfOk c.judge_past_draws.result (λ o. IfSome o
    (λ j. j.plies ≡ length (read_at b c.args.text.now c.args.at).state.moves))) (sym c.if-strict.false)
    c.judge_past_draws.ensures.plies

pub returns-clause-game : goal.returns-clause-game
returns-clause-game c =
    subst (λ (b : Bool). Stands b c.judge_past_draws.new.game.state (read_at b c.args.text.now c.args.at).state)
    (sym c.if-strict.false) c.judge_past_draws.ensures.game
