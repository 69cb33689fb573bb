-- What was entered is what the arguments ask for (Readings.some_asked), with all that its command needs, since `clap`
-- took the arguments (Readings.entered_well). The plan or fault made of it is a right reading of the arguments
-- (Readings.planned_reading).
use Rattle.std.proofs.Common.{rules, ◌≡◌, ap, sym, subst, map, Some, None, Ok}
use Rattle.arbiter_grammar.specs.Grammar.{IsParsed}
use Rattle.arbiter_cli.specs.ties.Requests.{IsRequestOf, asked, said_of}
use Rattle.arbiter_cli.proofs.Readings.{refused_reading, planned_reading, none_asked, some_asked, entered_well}
use Rattle.arbiter_cli.proofs.reading.read_words.Goals as goal
use Rattle.arbiter_cli.proofs.reading.read_words.Goals.{in-None, in-Some+in-Ok-request_in}

pub request_in-requires-clause-known : goal.request_in-requires-clause-known
request_in-requires-clause-known c =
    let texts = map (λ w. w.now) c.args.arguments.now in
    let is : c.entered.result ≡ Some (c.in-Some.name, c.in-Some.found) = search rules in
    let parsed : IsParsed texts (Ok c.in-Ok.matches) = c.in-Ok.ensures.parsed in
    (entered_well texts c.in-Ok.matches parsed c.entered.result c.entered.ensures c.in-Ok.ensures.complete
    (c.in-Some.name, c.in-Some.found) is).1

pub request_in-requires-clause-both : goal.request_in-requires-clause-both
request_in-requires-clause-both c =
    let texts = map (λ w. w.now) c.args.arguments.now in
    let is : c.entered.result ≡ Some (c.in-Some.name, c.in-Some.found) = search rules in
    let parsed : IsParsed texts (Ok c.in-Ok.matches) = c.in-Ok.ensures.parsed in
    (entered_well texts c.in-Ok.matches parsed c.entered.result c.entered.ensures c.in-Ok.ensures.complete
    (c.in-Some.name, c.in-Some.found) is).0

pub request_in-requires-clause-numbers : goal.request_in-requires-clause-numbers
request_in-requires-clause-numbers c =
    let texts = map (λ w. w.now) c.args.arguments.now in
    let is : c.entered.result ≡ Some (c.in-Some.name, c.in-Some.found) = search rules in
    let parsed : IsParsed texts (Ok c.in-Ok.matches) = c.in-Ok.ensures.parsed in
    (entered_well texts c.in-Ok.matches parsed c.entered.result c.entered.ensures c.in-Ok.ensures.complete
    (c.in-Some.name, c.in-Some.found) is).2

pub returns-in-Err : goal.returns-in-Err
returns-in-Err c = refused_reading (map (λ w. w.now) c.args.arguments.now) c.in-Err.error c.refusal.result
    c.in-Err.ensures.parsed c.refusal.ensures

pub returns : goal.returns
returns c =
    let texts = map (λ w. w.now) c.args.arguments.now in
    let m = c.in-Ok.matches in
    let parsed : IsParsed texts (Ok m) = c.in-Ok.ensures.parsed in
    let denoted : IsRequestOf (said_of (asked parsed.0 texts)) c.match-entered.request = elim c.match-entered.branch [
      | in-None w ↦
          let is : c.entered.result ≡ None = search rules in
          subst (IsRequestOf (said_of (asked parsed.0 texts))) (sym w.request-is)
          (ap (λ p. p.0) (none_asked texts m parsed c.entered.result c.entered.ensures is))
      | in-Some+in-Ok-request_in w ↦
          let is : c.entered.result ≡ Some (w.in-Some.name, w.in-Some.found) = search rules in
          let e = some_asked texts m parsed c.entered.result c.entered.ensures (w.in-Some.name, w.in-Some.found) is in
          subst (IsRequestOf (said_of (asked parsed.0 texts))) (sym w.request-is)
          (subst (λ p. IsRequestOf (said_of p) w.in-Ok-request_in.request) (sym e) w.in-Ok-request_in.ensures)
    ] in
    planned_reading parsed.0 texts parsed.1.0 c.match-entered.request denoted c.planned.result
    c.planned.ensures.plan c.planned.ensures.fault
