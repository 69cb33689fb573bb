-- The grammars that code builds: each is that of the definitions, with some names of variants and of draws in memory.
use Rattle.std.specs.Prelude.{◌≡◌, codes, true}
use Rattle.clap.specs.Words.{App, new_app}
use Rattle.arbiter_grammar.specs.Grammar.{OptionNames, match_app, arbiter_app}

-- `arbiter` without its subcommands
abbrev pub bare_app : App
bare_app = let a = new_app (codes "arbiter") in
    record a { top = record a.top { has_version = true; no_binary_name = true; disable_help_subcommand = true } }

-- the code's grammar of the subcommand `match` (`app`) is the one defined, with the names of variants and of
-- draws somewhere in memory
abbrev pub GivesMatchApp : App → Type 0
GivesMatchApp app = (names : OptionNames) × (app ≡ match_app names)

-- the code's whole grammar (`app`) is the one defined, with the names of variants and of draws somewhere in memory
abbrev pub GivesArbiterApp : App → Type 0
GivesArbiterApp app = (names : OptionNames) × (app ≡ arbiter_app names)
