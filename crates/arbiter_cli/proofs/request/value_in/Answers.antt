-- What `clap` finds of an option is the first value in its row (first_value-rows).
use Rattle.std.proofs.Common.{◌≡◌, ◌∙◌}
use Rattle.clap.specs.Words.{first_value, found_of}
use Rattle.clap.proofs.WalkLemmas.{first_value-rows}
use Rattle.arbiter_cli.proofs.FoundTexts.{text_of}
use Rattle.arbiter_cli.proofs.request.value_in.Goals as goal

pub returns : goal.returns
returns c =
    let f = found_of c.args.found.now in
    let said : text_of c.get_str.result ≡ first_value f c.args.name.now = c.get_str.ensures in
    said ∙ first_value-rows f c.args.name.now
