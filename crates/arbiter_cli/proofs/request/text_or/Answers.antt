-- What `clap` finds of an option is the first value in its row (first_value-rows). If it finds nothing, code and
-- definition both take the default.
use Rattle.std.proofs.Common.{rules, ◌≡◌, ◌∙◌, ap, Option, Some, None, unwrap_or, sym}
use Rattle.clap.specs.Words.{Text, first_value, found_of}
use Rattle.clap.proofs.WalkLemmas.{first_value-rows}
use Rattle.arbiter_cli.proofs.FoundTexts.{text_of}
use Rattle.arbiter_cli.proofs.request.text_or.Goals as goal

pub returns-in-Some : goal.returns-in-Some
returns-in-Some c =
    let f = found_of c.args.found.now in
    let is : c.get_str.result ≡ Some c.in-Some.text = search rules in
    let said : text_of c.get_str.result ≡ first_value f c.args.name.now = c.get_str.ensures in
    let or : Option Text → Text = λ o. unwrap_or o c.args.default.now in
    ap or (sym (ap text_of is) ∙ said ∙ first_value-rows f c.args.name.now)

pub returns-in-None : goal.returns-in-None
returns-in-None c =
    let f = found_of c.args.found.now in
    let is : c.get_str.result ≡ None = search rules in
    let said : text_of c.get_str.result ≡ first_value f c.args.name.now = c.get_str.ensures in
    let or : Option Text → Text = λ o. unwrap_or o c.args.default.now in
    ap or (sym (ap text_of is) ∙ said ∙ first_value-rows f c.args.name.now)
