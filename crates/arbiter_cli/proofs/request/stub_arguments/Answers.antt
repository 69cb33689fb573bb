-- The arguments that `clap` finds are all values in the row of the stub's arguments, `words` (raw_values-rows), or none
-- where there is no row.
use Rattle.std.proofs.Common.{rules, ◌≡◌, ◌∙◌, ap, List, [], Option, Some, None, map, option_map, unwrap_or, sym, Bor, codes, IfOk}
use Rattle.std.proofs.lemmas.Result.{IfOk-weaker}
use Rattle.clap.specs.Words.{Text, found_of, matched_of, raw_values}
use Rattle.clap.proofs.WalkLemmas.{raw_values-rows}
use Rattle.arbiter_cli.proofs.request.stub_arguments.Goals as goal

-- the texts to which the references in a list refer; `None` without a list
abbrev texts_of : Option (Bor (List (Bor Text))) → Option (List Text)
texts_of = option_map (λ s. map (λ v. v.now) s.now)

pub returns-in-Some : goal.returns-in-Some
returns-in-Some c =
    let f = found_of c.args.found.now in
    let is : c.get_strs.result ≡ Some c.in-Some.arguments = search rules in
    let said : texts_of c.get_strs.result ≡ option_map raw_values (matched_of f (codes "words")) = search rules in
    let or : Option (List Text) → List Text = λ o. unwrap_or o [] in
    let all = ap or (sym (ap texts_of is) ∙ said ∙ raw_values-rows f (codes "words")) in
    let copied : IfOk c.to_vec.result (λ v. v.items ≡ c.in-Some.arguments.now) = search rules in
    IfOk-weaker c.to_vec.result _ _ (λ v e. ap (map (λ (w : Bor Text). w.now)) e ∙ all) copied

pub returns-in-None : goal.returns-in-None
returns-in-None c =
    let f = found_of c.args.found.now in
    let is : c.get_strs.result ≡ None = search rules in
    let said : texts_of c.get_strs.result ≡ option_map raw_values (matched_of f (codes "words")) = search rules in
    let or : Option (List Text) → List Text = λ o. unwrap_or o [] in
    let all = ap or (sym (ap texts_of is) ∙ said ∙ raw_values-rows f (codes "words")) in
    ap (map (λ (w : Bor Text). w.now)) c.new.ensures.items ∙ all
