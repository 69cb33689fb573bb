-- The law of the arguments says how each of them is refused, and with that what the program does
-- (RefusedArguments.shows_help, refuses_arguments).
use Rattle.std.proofs.Common.{[], ◌∷◌, codes, inl, inr, refl}
use Rattle.clap.specs.declared.error.kind.ErrorKind.TheVariants.{DisplayHelp, DisplayVersion, MissingRequiredArgument}
use Rattle.arbiter_laws.proofs.RefusedArguments.{refuses_arguments, shows_help}
use Rattle.arbiter_laws.proofs.program.refused_arguments_are_reported.Goals as goal

pub returns-clause-help : goal.returns-clause-help
returns-clause-help c =
    shows_help (codes "--help" ∷ []) DisplayHelp (inl refl) c.plain_arguments_are_refused.ensures.help

pub returns-clause-version : goal.returns-clause-version
returns-clause-version c =
    shows_help (codes "--version" ∷ []) DisplayVersion (inr refl) c.plain_arguments_are_refused.ensures.version

pub returns-clause-bare_match : goal.returns-clause-bare_match
returns-clause-bare_match c =
    refuses_arguments (codes "match" ∷ []) MissingRequiredArgument (λ e. absurd (cc)) (λ e. absurd (cc))
    c.plain_arguments_are_refused.ensures.bare_match
