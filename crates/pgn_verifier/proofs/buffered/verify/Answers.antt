-- Each way in which `verify` ends, by a `?` or at its end, is one lemma of Verifying, which says what became of input
-- and output.
use Rattle.std.proofs.{Common.rules, Common.Ok, Common.IfErr, lemmas.Result.err_from_is_err_and}
use Rattle.byte_devices.specs.{Devices.CutShort, declared.traits.WriteFault.WriteFault}
use Rattle.pgn_verifier.specs.ties.OnTheWay.{IsNotAll, WritesText, text_lines}
use Rattle.pgn_verifier.proofs.Verifying.{not_all_exit, no_memory, text_verified, text_broke_off}
use Rattle.pgn_verifier.proofs.buffered.verify.Goals as goal

pub returns-in_err-text-clause-ran : goal.returns-in_err-text-clause-ran
returns-in_err-text-clause-ran g c =
    let r = g.R.Input.seen c.args.input.now in
    let r' = g.R.Input.seen c.read_all.new.input in
    let why : IfErr c.from_residual.result (λ fault. IsNotAll r r' fault) = search rules in
    not_all_exit c.args.options r r' (g.W.Output.seen c.args.output.now) c.from_residual.result
    c.from_residual.ensures.0 why

pub returns-in_err-tables-clause-ran : goal.returns-in_err-tables-clause-ran
returns-in_err-tables-clause-ran g c =
    let p = err_from_is_err_and c.from_residual-in_err-tables.result c.from_residual-in_err-tables.ensures.1 in
    rw (p.1, p.2) (no_memory c.args.options (g.R.Input.seen c.args.input.now) (g.R.Input.seen c.read_all.new.input)
    (g.W.Output.seen c.args.output.now) c.in_ok-text.text.items c.in_ok-text.ensures.all)

pub returns-in_err-game-clause-ran : goal.returns-in_err-game-clause-ran
returns-in_err-game-clause-ran g c =
    let p = err_from_is_err_and c.from_residual-in_err-game.result c.from_residual-in_err-game.ensures.1 in
    rw (p.1, p.2) (no_memory c.args.options (g.R.Input.seen c.args.input.now) (g.R.Input.seen c.read_all.new.input)
    (g.W.Output.seen c.args.output.now) c.in_ok-text.text.items c.in_ok-text.ensures.all)

pub returns-in_err-verified-clause-ran : goal.returns-in_err-verified-clause-ran
returns-in_err-verified-clause-ran g c =
    let w = g.W.Output.seen c.args.output.now in
    let w' = g.W.Output.seen c.finish.new.output in
    let written : CutShort w w' (text_lines c.args.options c.in_ok-text.text.items) = search rules in
    let p = err_from_is_err_and c.from_residual-in_err-verified.result c.from_residual-in_err-verified.ensures.1 in
    rw (p.1, p.2) (text_broke_off c.args.options (g.R.Input.seen c.args.input.now) (g.R.Input.seen c.read_all.new.input)
    w w' c.in_ok-text.text.items c.in_ok-text.ensures.all written)

pub returns-clause-ran : goal.returns-clause-ran
returns-clause-ran g c =
    let w = g.W.Output.seen c.args.output.now in
    let w' = g.W.Output.seen c.finish.new.output in
    let written : WritesText {E = WriteFault} c.args.options c.in_ok-text.text.items w w' (Ok c.in_ok-verified.verified)
    = search rules in
    text_verified WriteFault c.args.options (g.R.Input.seen c.args.input.now) (g.R.Input.seen c.read_all.new.input) w w'
    c.in_ok-text.text.items c.in_ok-verified.verified c.in_ok-text.ensures.all written
