-- The command is built in the order of `verify_app`: an argument that isn't global is added as `with_rule` adds it, and
-- adds no global one to those before it.
use Rattle.std.proofs.Common.{rules, ◌≡◌, ◌∙◌, ap₂, codes, Bool, ◌||◌}
use Rattle.std.proofs.lemmas.Result.{IfOk-weaker}
use Rattle.clap.specs.Words.{rule_of, with_rule}
use Rattle.arbiter_grammar.specs.Grammar.{flag_rule, option_rule}
use Rattle.arbiter_grammar.proofs.grammar.verify_command.Goals as goal

pub returns-clause-app : goal.returns-clause-app
returns-clause-app c =
    let keep : rule_of c.flag.result ≡ flag_rule (codes "keep-going") = search rules in
    let quiet : rule_of c.flag-2.result ≡ flag_rule (codes "quiet") = search rules in
    let strict : rule_of c.flag-3.result ≡ flag_rule (codes "strict") = search rules in
    let e1 = c.in_ok-arg.ensures.shape c.flag.ensures.local ∙ ap₂ with_rule c.bare_verify_command.ensures.app keep in
    let explain : rule_of c.flag-4.result ≡ flag_rule (codes "explain") = search rules in
    let e2 = c.in_ok-arg-2.ensures.shape c.flag-2.ensures.local ∙ ap₂ with_rule e1 quiet in
    let e3 = c.in_ok-arg-3.ensures.shape c.flag-3.ensures.local ∙ ap₂ with_rule e2 strict in
    let e4 = c.in_ok-arg-4.ensures.shape c.flag-4.ensures.local ∙ ap₂ with_rule e3 explain in
    let spans : rule_of c.flag-5.result ≡ flag_rule (codes "spans") = search rules in
    let e5 = c.in_ok-arg-5.ensures.shape c.flag-5.ensures.local ∙ ap₂ with_rule e4 spans in
    let names : rule_of c.flag-6.result ≡ flag_rule (codes "names") = search rules in
    let e6 = c.in_ok-arg-6.ensures.shape c.flag-6.ensures.local ∙ ap₂ with_rule e5 names in
    let variations : rule_of c.flag-7.result ≡ flag_rule (codes "variations") = search rules in
    let e7 = c.in_ok-arg-7.ensures.shape c.flag-7.ensures.local ∙ ap₂ with_rule e6 variations in
    let ignore : rule_of c.option.result ≡ option_rule (codes "ignore") = search rules in
    IfOk-weaker c.arg-8.result _ _ (λ r h. h.shape c.option.ensures.local ∙ ap₂ with_rule e7 ignore) c.arg-8.ensures

pub returns-clause-local : goal.returns-clause-local
returns-clause-local c =
    let or : Bool → Bool → Bool = λ a b. a || b in
    let e1 = c.in_ok-arg.ensures.globals ∙ ap₂ or c.bare_verify_command.ensures.local c.flag.ensures.local in
    let e2 = c.in_ok-arg-2.ensures.globals ∙ ap₂ or e1 c.flag-2.ensures.local in
    let e3 = c.in_ok-arg-3.ensures.globals ∙ ap₂ or e2 c.flag-3.ensures.local in
    let e4 = c.in_ok-arg-4.ensures.globals ∙ ap₂ or e3 c.flag-4.ensures.local in
    let e5 = c.in_ok-arg-5.ensures.globals ∙ ap₂ or e4 c.flag-5.ensures.local in
    let e6 = c.in_ok-arg-6.ensures.globals ∙ ap₂ or e5 c.flag-6.ensures.local in
    let e7 = c.in_ok-arg-7.ensures.globals ∙ ap₂ or e6 c.flag-7.ensures.local in
    IfOk-weaker c.arg-8.result _ _ (λ r h. h.globals ∙ ap₂ or e7 c.option.ensures.local) c.arg-8.ensures
