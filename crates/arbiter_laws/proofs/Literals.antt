-- What `clap` makes, by the program's grammar, of a few command lines that are written out, such as `verify` or
-- `--help`: the parse is computed. `names` are the names of variants and of draws, which the grammar holds in memory.
use Rattle.std.proofs.Common.{[], ◌∷◌, codes, refl}
use Rattle.clap.proofs.OnLiterals.{clap_on_literals}
use Rattle.clap.specs.declared.error.kind.ErrorKind.TheVariants.{DisplayHelp, DisplayVersion, MissingRequiredArgument}
use Rattle.arbiter_laws.specs.Arguments.{AreRefused, AskFor, VerifyAsBare}

pub none_asked : AskFor [] (codes "session")
unfolding clap_on_literals
none_asked =
    record { taken = λ names. refl; named = λ names. refl; bare = λ names. refl; ignores = λ names. refl }

pub session_asked : AskFor (codes "session" ∷ []) (codes "session")
unfolding clap_on_literals
session_asked =
    record { taken = λ names. refl; named = λ names. refl; bare = λ names. refl; ignores = λ names. refl }

pub verify_asked : AskFor (codes "verify" ∷ []) (codes "verify")
unfolding clap_on_literals
verify_asked =
    record { taken = λ names. refl; named = λ names. refl; bare = λ names. refl; ignores = λ names. refl }

pub verify_bare : VerifyAsBare (codes "verify" ∷ [])
unfolding clap_on_literals
verify_bare names = refl

pub help_refused : AreRefused (codes "--help" ∷ []) (DisplayHelp ∷ [])
unfolding clap_on_literals
help_refused names = refl

pub version_refused : AreRefused (codes "--version" ∷ []) (DisplayVersion ∷ [])
unfolding clap_on_literals
version_refused names = refl

pub bare_match_refused : AreRefused (codes "match" ∷ []) (MissingRequiredArgument ∷ [])
unfolding clap_on_literals
bare_match_refused names = refl
