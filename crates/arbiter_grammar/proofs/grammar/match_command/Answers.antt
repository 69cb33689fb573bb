-- The command is built in the order of `match_app`: an argument that isn't global is added as `with_rule` adds it, and
-- adds no global one to those before it.
use Rattle.std.proofs.Common.{rules, ◌≡◌, ◌∙◌, ap₂, codes, Bool, true, ◌||◌}
use Rattle.std.proofs.lemmas.Result.{IfOk-weaker}
use Rattle.clap.specs.Words.{rule_of, with_rule}
use Rattle.arbiter_grammar.specs.Grammar.{OptionNames, option_rule, flag_rule}
use Rattle.arbiter_grammar.proofs.grammar.match_command.Goals as goal

pub returns-clause-app : goal.returns-clause-app
returns-clause-app c =
    let level : rule_of c.option.result ≡ option_rule (codes "level") = search rules in
    let white_level : rule_of c.option-2.result ≡ option_rule (codes "white-level") = search rules in
    let black_level : rule_of c.option-3.result ≡ option_rule (codes "black-level") = search rules in
    let fen : rule_of c.option-4.result ≡ option_rule (codes "fen") = search rules in
    let date : rule_of c.option-5.result ≡ option_rule (codes "date") = search rules in
    let white : rule_of c.needed_option.result ≡ record (option_rule (codes "white")) { required = true } =
    search rules in
    let black : rule_of c.needed_option-2.result ≡ record (option_rule (codes "black")) { required = true } =
    search rules in
    let variant = c.variant_option.ensures.rule in
    let draws = c.draws_option.ensures.rule in
    let e1 = c.in_ok-arg.ensures.shape c.needed_option.ensures.local ∙ ap₂ with_rule c.command.ensures.app white in
    let e2 = c.in_ok-arg-2.ensures.shape c.needed_option-2.ensures.local ∙ ap₂ with_rule e1 black in
    let e3 = c.in_ok-arg-3.ensures.shape c.option.ensures.local ∙ ap₂ with_rule e2 level in
    let e4 = c.in_ok-arg-4.ensures.shape c.option-2.ensures.local ∙ ap₂ with_rule e3 white_level in
    let e5 = c.in_ok-arg-5.ensures.shape c.option-3.ensures.local ∙ ap₂ with_rule e4 black_level in
    let e6 = c.in_ok-arg-6.ensures.shape c.option-4.ensures.local ∙ ap₂ with_rule e5 fen in
    let e7 = c.in_ok-arg-7.ensures.shape c.games_option.ensures.local ∙ ap₂ with_rule e6 c.games_option.ensures.rule in
    let e8 = c.in_ok-arg-8.ensures.shape c.option-5.ensures.local ∙ ap₂ with_rule e7 date in
    let e9 = c.in_ok-arg-9.ensures.shape c.variant_option.ensures.local ∙ ap₂ with_rule e8 variant.2 in
    let falls : rule_of c.flag.result ≡ flag_rule (codes "flag") = search rules in
    let reply = c.reply_timeout_option.ensures in
    let e10 = c.in_ok-arg-10.ensures.shape c.draws_option.ensures.local ∙ ap₂ with_rule e9 draws.2 in
    let e11 = c.in_ok-arg-11.ensures.shape c.log_option.ensures.local ∙ ap₂ with_rule e10 c.log_option.ensures.rule in
    let e12 = c.in_ok-arg-12.ensures.shape c.flag.ensures.local ∙ ap₂ with_rule e11 falls in
    let names : OptionNames =
    record { variants = variant.0; draws = draws.0; variants_are = variant.1; draws_are = draws.1 } in
    IfOk-weaker c.arg-13.result _ _
    (λ r h. (names, h.shape reply.local ∙ ap₂ with_rule e12 reply.rule)) c.arg-13.ensures

pub returns-clause-local : goal.returns-clause-local
returns-clause-local c =
    let or : Bool → Bool → Bool = λ a b. a || b in
    let e1 = c.in_ok-arg.ensures.globals ∙ ap₂ or c.command.ensures.local c.needed_option.ensures.local in
    let e2 = c.in_ok-arg-2.ensures.globals ∙ ap₂ or e1 c.needed_option-2.ensures.local in
    let e3 = c.in_ok-arg-3.ensures.globals ∙ ap₂ or e2 c.option.ensures.local in
    let e4 = c.in_ok-arg-4.ensures.globals ∙ ap₂ or e3 c.option-2.ensures.local in
    let e5 = c.in_ok-arg-5.ensures.globals ∙ ap₂ or e4 c.option-3.ensures.local in
    let e6 = c.in_ok-arg-6.ensures.globals ∙ ap₂ or e5 c.option-4.ensures.local in
    let e7 = c.in_ok-arg-7.ensures.globals ∙ ap₂ or e6 c.games_option.ensures.local in
    let e8 = c.in_ok-arg-8.ensures.globals ∙ ap₂ or e7 c.option-5.ensures.local in
    let e9 = c.in_ok-arg-9.ensures.globals ∙ ap₂ or e8 c.variant_option.ensures.local in
    let e10 = c.in_ok-arg-10.ensures.globals ∙ ap₂ or e9 c.draws_option.ensures.local in
    let e11 = c.in_ok-arg-11.ensures.globals ∙ ap₂ or e10 c.log_option.ensures.local in
    let e12 = c.in_ok-arg-12.ensures.globals ∙ ap₂ or e11 c.flag.ensures.local in
    IfOk-weaker c.arg-13.result _ _ (λ r h. h.globals ∙ ap₂ or e12 c.reply_timeout_option.ensures.local) c.arg-13.ensures
