-- The grammar is built in the order of `arbiter_app`: a subcommand without global arguments is added as
-- `with_subcommand` adds it. The names of the variants are those that `match_command` holds.
use Rattle.std.proofs.{Common.◌∙◌, Common.ap, Common.ap₂, lemmas.Result.IfOk-weaker}
use Rattle.clap.specs.Words.{App, with_subcommand}
use Rattle.arbiter_grammar.proofs.grammar.arbiter_command.Goals as goal

pub returns : goal.returns
returns c =
    let top = λ (a : App). a.top in
    let found = c.in_ok-match_command.ensures.app in
    let e1 = c.in_ok-subcommand.ensures.shape c.session_command.ensures.local
    ∙ ap₂ with_subcommand c.in_ok-bare_command.ensures.app (ap top c.session_command.ensures.app) in
    let e2 = c.in_ok-subcommand-2.ensures.shape c.in_ok-verify_command.ensures.local
    ∙ ap₂ with_subcommand e1 (ap top c.in_ok-verify_command.ensures.app) in
    let e3 = c.in_ok-subcommand-3.ensures.shape c.in_ok-stub_command.ensures.local
    ∙ ap₂ with_subcommand e2 (ap top c.in_ok-stub_command.ensures.app) in
    IfOk-weaker c.subcommand-4.result _ _
    (λ r h. (found.0, h.shape c.in_ok-match_command.ensures.local ∙ ap₂ with_subcommand e3 (ap top found.1)))
    c.subcommand-4.ensures
