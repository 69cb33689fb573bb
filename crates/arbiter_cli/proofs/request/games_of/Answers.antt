-- A value that was given is a number from 1 to 1,000 (accepts-Accepts), and without one there is one game.
use Rattle.std.proofs.Common.{rules, ◌≡◌, ◌∙◌, ◌≤◌, ℕ, ap, codes, Option, Some, None, option_map, refl, sym, arith, true, false, subst, unwrap_or}
use Rattle.std.specs.Option.{option_map_or}
use Rattle.clap.specs.Words.{Text, first_of, found_of, rows_of}
use Rattle.clap.specs.ValueTests.{is_unsigned_in}
use Rattle.clap.specs.declared.builder.value_parser.ValueParser.TheVariants as vp
use Rattle.clap.proofs.ValueTestLemmas.{accepts-Accepts}
use Rattle.arbiter_cli.specs.Plans.{number_of}
use Rattle.arbiter_cli.proofs.request.games_of.Goals as goal

-- a number that is read with 1 as its default
read_or : (o : Option Text) → unwrap_or (option_map number_of o) 1 ≡ option_map_or number_of o 1
read_or None = refl
read_or (Some t) = refl

-- the number of games is from 1 to 1,000: the grammar takes no other value, and without one it is 1
in_range : (o : Option Text) → ((t : Text) → o ≡ Some t → is_unsigned_in 1 1000 t ≡ true)
    → (1 ≤ option_map_or number_of o 1) × (option_map_or number_of o 1 ≤ 1000)
in_range None has = (omega arith, omega arith)
in_range (Some t) has = let ok = accepts-Accepts false (vp.Unsigned 1 1000) t (has t refl) in (ok.2, ok.3)

pub number_in-requires : goal.number_in-requires
number_in-requires c = (1000, omega arith, c.requires)

pub returns-clause-value : goal.returns-clause-value
returns-clause-value c =
    let o = first_of (codes "games") (rows_of (found_of c.args.found.now)) in
    let read : c.number_in.result ≡ option_map number_of o = search rules in
    let or : c.unwrap_or.result ≡ unwrap_or c.number_in.result 1 = search rules in
    or ∙ ap (λ (o : Option ℕ). unwrap_or o 1) read ∙ read_or o

pub returns-clause-range : goal.returns-clause-range
returns-clause-range c =
    let o = first_of (codes "games") (rows_of (found_of c.args.found.now)) in
    let read : c.number_in.result ≡ option_map number_of o = search rules in
    let or : c.unwrap_or.result ≡ unwrap_or c.number_in.result 1 = search rules in
    subst (λ n. (1 ≤ n) × (n ≤ 1000)) (sym (or ∙ ap (λ (o : Option ℕ). unwrap_or o 1) read ∙ read_or o))
    (in_range o c.requires)
