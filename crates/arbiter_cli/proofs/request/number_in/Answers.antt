-- A value that was given is a number in its range, so it parses (accepts-Accepts); it is the first in the row of the
-- option (first_value-rows).
use Rattle.std.proofs.Common.{rules, ◌≡◌, ◌∙◌, ◌≤◌, ◌<◌, ◌^◌, ℕ, ap, Some, None, option_map, sym, arith, false}
use Rattle.clap.specs.Words.{first_of, first_value, found_of, rows_of}
use Rattle.clap.specs.declared.builder.value_parser.ValueParser.TheVariants as vp
use Rattle.clap.proofs.{WalkLemmas.first_value-rows, ValueTestLemmas.accepts-Accepts}
use Rattle.arbiter_cli.specs.Plans.{number_of}
use Rattle.arbiter_cli.proofs.FoundTexts.{text_of}
use Rattle.arbiter_cli.proofs.request.number_in.Goals as goal

-- a number up to 65,535 fits into 16 bits
within : (n most : ℕ) → n ≤ most → most ≤ 65535 → n < 2 ^ 16
within n most le limit = omega arith

pub unreachable-requires : goal.unreachable-requires
unreachable-requires c =
    let f = found_of c.args.found.now in
    let name = c.args.name.now in
    let most = c.requires.0 in
    let is : c.get_str.result ≡ Some c.in-Some.text = search rules in
    let said : text_of c.get_str.result ≡ first_value f name = c.get_str.ensures in
    let first : first_of name (rows_of f) ≡ Some c.in-Some.text.now =
    sym (first_value-rows f name) ∙ sym said ∙ ap text_of is in
    let ok = accepts-Accepts false (vp.Unsigned 1 most) c.in-Some.text.now
    (c.requires.2 c.in-Some.text.now first) in
    c.in-Err.ensures.value.0 (ok.0, within (number_of c.in-Some.text.now) most ok.3 c.requires.1)

pub returns-in-None : goal.returns-in-None
returns-in-None c =
    let f = found_of c.args.found.now in
    let is : c.get_str.result ≡ None = search rules in
    let said : text_of c.get_str.result ≡ first_value f c.args.name.now = c.get_str.ensures in
    ap (option_map number_of) (sym (ap text_of is) ∙ said ∙ first_value-rows f c.args.name.now)

pub returns-in-Ok : goal.returns-in-Ok
returns-in-Ok c =
    let f = found_of c.args.found.now in
    let is : c.get_str.result ≡ Some c.in-Some.text = search rules in
    let said : text_of c.get_str.result ≡ first_value f c.args.name.now = c.get_str.ensures in
    let read : c.in-Ok.number ≡ number_of c.in-Some.text.now = search rules in
    ap (λ (n : ℕ). Some n) read
    ∙ ap (option_map number_of) (sym (ap text_of is) ∙ said ∙ first_value-rows f c.args.name.now)
