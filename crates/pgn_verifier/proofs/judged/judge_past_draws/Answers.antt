-- What was read of the game without the draws of 2014 is judged as the definition does: no game, a fault, or an end
-- with perhaps a fault there (Judging.none_judged, fault_judged, end_judged). The end and the fault are in the text
-- (Judging.ends_later, fault_read), and each half-move has a byte (few_read).
use Rattle.std.proofs.Common.{◌≡◌, ◌∙◌, None, Some, rules, sym}
use Rattle.pgn_verifier.specs.declared.game_fault.FaultKind.TheVariants.{Pgn}
use Rattle.pgn_verifier.proofs.Judging.{end_judged, ends_later, fault_judged, fault_read, few_read, none_judged}
use Rattle.pgn_verifier.proofs.judged.judge_past_draws.Goals as goal

pub returns-in-Ok-None-clause-judged : goal.returns-in-Ok-None-clause-judged
returns-in-Ok-None-clause-judged c =
    none_judged c.args.strict c.args.text.now c.args.at
    (rw c.in-Ok-None.field-0-is at c.in-Ok-None.ensures.answer)

pub end_fault_from-requires-clause-end : goal.end_fault_from-requires-clause-end
end_fault_from-requires-clause-end c =
    (ends_later c.args.strict c.args.text.now c.args.at c.in-Ok-Some.read c.requires.at
    (rw c.in-Ok-Some.field-0-is at c.in-Ok-Some.ensures.answer)).1

pub returns-in-Some-clause-judged : goal.returns-in-Some-clause-judged
returns-in-Some-clause-judged c =
    end_judged c.args.strict c.args.text.now c.args.at c.in-Ok-Some.read c.read_past_draws.new.game.state
    (Some c.in-Some.fault) c.requires.draws (rw c.in-Ok-Some.field-0-is at c.in-Ok-Some.ensures.answer)
    c.in-Ok-Some.ensures.game c.in-Some.ensures.fault

pub returns-in-None-clause-judged : goal.returns-in-None-clause-judged
returns-in-None-clause-judged c =
    end_judged c.args.strict c.args.text.now c.args.at c.in-Ok-Some.read c.read_past_draws.new.game.state None
    c.requires.draws (rw c.in-Ok-Some.field-0-is at c.in-Ok-Some.ensures.answer) c.in-Ok-Some.ensures.game
    c.in-None.ensures.fault

pub returns-in-None-clause-plies : goal.returns-in-None-clause-plies
returns-in-None-clause-plies c =
    let answer = rw c.in-Ok-Some.field-0-is at c.in-Ok-Some.ensures.answer in answer.2

pub returns-in-None-clause-further : goal.returns-in-None-clause-further
returns-in-None-clause-further c =
    (ends_later c.args.strict c.args.text.now c.args.at c.in-Ok-Some.read c.requires.at
    (rw c.in-Ok-Some.field-0-is at c.in-Ok-Some.ensures.answer)).0

pub returns-in-None-clause-within : goal.returns-in-None-clause-within
returns-in-None-clause-within c =
    (ends_later c.args.strict c.args.text.now c.args.at c.in-Ok-Some.read c.requires.at
    (rw c.in-Ok-Some.field-0-is at c.in-Ok-Some.ensures.answer)).1

pub returns-in-None-clause-few : goal.returns-in-None-clause-few
returns-in-None-clause-few c =
    few_read c.args.strict c.args.text.now c.args.at c.half_moves_have_bytes.ensures c.in-Ok-Some.read c.requires.at
    (rw c.in-Ok-Some.field-0-is at c.in-Ok-Some.ensures.answer)

pub returns-in-Err-clause-judged : goal.returns-in-Err-clause-judged
returns-in-Err-clause-judged c =
    let is : c.from.result ≡ record { kind = Pgn c.in-Err.fault.kind; offset = c.in-Err.fault.offset } = search rules in
    rw is (fault_judged c.args.strict c.args.text.now c.args.at c.in-Err.fault c.in-Err.ensures.answer)

pub returns-in-Err-clause-fault : goal.returns-in-Err-clause-fault
returns-in-Err-clause-fault c =
    let is : c.from.result ≡ record { kind = Pgn c.in-Err.fault.kind; offset = c.in-Err.fault.offset } = search rules in
    rw is (fault_read c.args.strict c.args.text.now c.args.at c.faults_have_offsets.ensures c.in-Err.fault
    c.requires.at c.in-Err.ensures.answer)
