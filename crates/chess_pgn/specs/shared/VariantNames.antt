-- What the text of a tag Variant names.
use Rattle.std.specs.Prelude.{ℕ, Bool, List, is_some}
use Rattle.std.specs.Option.{unwrap_or}
use Rattle.chess_base.specs.declared.man.Variant.{Variant}
use Rattle.chess_base.specs.declared.man.Variant.TheVariants.{Normal}
use Rattle.chess_pgn.specs.GameRead.{known_variant}

-- the variant that the text names; normal chess if it names none that is known
abbrev pub variant_named : List ℕ → Variant
variant_named text = unwrap_or (known_variant text) Normal

-- whether the text names a variant that is known
abbrev pub is_known_variant : List ℕ → Bool
is_known_variant text = is_some (known_variant text)
