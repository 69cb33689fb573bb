-- The text of an option's value as `clap` returns it, by a reference; `None` if it found none.
use Rattle.std.proofs.Common.{Option, option_map, Bor}
use Rattle.clap.specs.Words.{Text}

abbrev pub text_of : Option (Bor Text) → Option Text
text_of = option_map (λ s. s.now)
