-- What `clap` finds of an option is the first value in its row (first_value-rows), so each field is as written;
-- where both engines are named, both are found.
use Rattle.std.proofs.Common.{rules, ◌≡◌, ◌∙◌, ap, codes, Option, Some, None, is_some, sym, arith, true, true≢false}
use Rattle.clap.specs.Words.{Text, first_value, found_of}
use Rattle.clap.proofs.WalkLemmas.{first_value-rows}
use Rattle.arbiter_cli.proofs.FoundTexts.{text_of}
use Rattle.arbiter_cli.proofs.request.match_request.Goals as goal

-- an option that was found can't be missing
gone : (o : Option Text) → o ≡ None → is_some o ≡ true → ⊥
gone o e s = true≢false (sym s ∙ ap is_some e)

pub returns-in_err-white-clause-needed : goal.returns-in_err-white-clause-needed
returns-in_err-white-clause-needed c = λ w b.
    let f = found_of c.args.found.now in
    let none : c.get_str.result ≡ None = search rules in
    let said : text_of c.get_str.result ≡ first_value f (codes "white") = search rules in
    absurd (gone _ (sym (first_value-rows f (codes "white")) ∙ sym said ∙ ap text_of none) w)

pub returns-in_err-black-clause-needed : goal.returns-in_err-black-clause-needed
returns-in_err-black-clause-needed c = λ w b.
    let f = found_of c.args.found.now in
    let none : c.get_str-2.result ≡ None = search rules in
    let said : text_of c.get_str-2.result ≡ first_value f (codes "black") = search rules in
    absurd (gone _ (sym (first_value-rows f (codes "black")) ∙ sym said ∙ ap text_of none) b)

pub number_in-requires : goal.number_in-requires
number_in-requires c = (999, omega arith, c.requires.1)

pub returns-clause-given : goal.returns-clause-given
returns-clause-given c =
    let f = found_of c.args.found.now in
    let white : c.get_str.result ≡ Some c.in_ok-white.white = search rules in
    let said1 : text_of c.get_str.result ≡ first_value f (codes "white") = search rules in
    let black : c.get_str-2.result ≡ Some c.in_ok-black.black = search rules in
    let said2 : text_of c.get_str-2.result ≡ first_value f (codes "black") = search rules in
    let said3 : text_of c.get_str-3.result ≡ first_value f (codes "white-level") = search rules in
    let said4 : text_of c.get_str-4.result ≡ first_value f (codes "black-level") = search rules in
    let said5 : text_of c.get_str-5.result ≡ first_value f (codes "fen") = search rules in
    record {
      white = sym (first_value-rows f (codes "white")) ∙ sym said1 ∙ ap text_of white;
      black = sym (first_value-rows f (codes "black")) ∙ sym said2 ∙ ap text_of black;
      level = search rules;
      white_level = said3 ∙ first_value-rows f (codes "white-level");
      black_level = said4 ∙ first_value-rows f (codes "black-level");
      fen = said5 ∙ first_value-rows f (codes "fen");
      games = search rules;
      games_range = search rules;
      date = search rules;
      variant = search rules;
      log = search rules;
      flag = search rules;
      reply = search rules;
      draws = search rules;
    }
