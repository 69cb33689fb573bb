-- The pieces of both colours as sets of squares, and the exclusive or of their keys.
use Rattle.std.specs.Prelude.{◌≡◌}
use Rattle.chess_base.specs.declared.man.Colour.TheVariants.{White, Black}
use Rattle.chess_base.specs.Men.{Men}
use Rattle.chess_bits.specs.declared.sets.Sets.{Sets}
use Rattle.chess_bits.specs.ties.KindSets.{IsAll, IsKinds}
use Rattle.chess_moves.specs.PositionHash.{men_keys, xor_of}

-- the sets s are those of the pieces `men`: for each colour one set for each kind, and one of all; and `men_hash` is
-- the exclusive or of the Zobrist keys of all pieces on their squares
pub record IsSets (s : Sets) (men : Men) : Type 0 where
  pub of_white : IsKinds s.white.sets White men
  pub of_black : IsKinds s.black.sets Black men
  pub all_white : IsAll s.white.all White men
  pub all_black : IsAll s.black.all Black men
  pub men_hash : s.men_hash ≡ xor_of (men_keys men)
