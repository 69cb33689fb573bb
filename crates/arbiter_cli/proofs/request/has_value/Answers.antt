-- What `clap` finds of an option is the first value in its row (first_value-rows), and the code compares that with
-- `text`.
use Rattle.std.proofs.Common.{rules, ◌≡◌, ◌∙◌, ap, Bool, false, Option, Some, None, bytes_eq, sym}
use Rattle.std.specs.Option.{option_map_or}
use Rattle.clap.specs.Words.{Text, first_value, found_of}
use Rattle.clap.proofs.WalkLemmas.{first_value-rows}
use Rattle.arbiter_cli.proofs.FoundTexts.{text_of}
use Rattle.arbiter_cli.proofs.request.has_value.Goals as goal

pub returns-in-Some : goal.returns-in-Some
returns-in-Some c =
    let f = found_of c.args.found.now in
    let is : c.get_str.result ≡ Some c.in-Some.given = search rules in
    let said : text_of c.get_str.result ≡ first_value f c.args.name.now = c.get_str.ensures in
    let same : Option Text → Bool = λ o. option_map_or (λ t. bytes_eq t c.args.text.now) o false in
    c.eq.ensures ∙ ap same (sym (ap text_of is) ∙ said ∙ first_value-rows f c.args.name.now)

pub returns-in-None : goal.returns-in-None
returns-in-None c =
    let f = found_of c.args.found.now in
    let is : c.get_str.result ≡ None = search rules in
    let said : text_of c.get_str.result ≡ first_value f c.args.name.now = c.get_str.ensures in
    let same : Option Text → Bool = λ o. option_map_or (λ t. bytes_eq t c.args.text.now) o false in
    ap same (sym (ap text_of is) ∙ said ∙ first_value-rows f c.args.name.now)
