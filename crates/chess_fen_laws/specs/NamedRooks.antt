-- Which rook a letter of a FEN of Chess960 names (X-FEN), and what the letters together say of a right.
use Rattle.std.specs.Prelude.{◌≡◌, ◌≢◌, ◌⊎◌, ℕ, ◌+◌, true, false, List, ◌∷◌, ◌++◌, Option, Some, None}
use Rattle.std.specs.List.{AllByRecursion}
use Rattle.chess_base.specs.declared.man.Colour.{Colour}
use Rattle.chess_base.specs.declared.man.CastlingSide.{CastlingSide}
use Rattle.chess_base.specs.declared.man.Kind.TheVariants.{Rook}
use Rattle.chess_base.specs.Squares.{file, rank}
use Rattle.chess_base.specs.Men.{Men, man_at, is_man, first_rank}
use Rattle.chess_base.specs.Castling.{king_square, is_to_side}
use Rattle.chess_fen.specs.Texts.{first_letter}
use Rattle.chess_fen.specs.RightNames.{side_letter, is_towards}

-- colour c's outermost rook on side w is on square s: on c's first rank no rook of c is nearer to that edge
pub record IsOutermost (men : Men) (c : Colour) (w : CastlingSide) (s : ℕ) : Type 0 where
  pub rook : is_man c Rook (man_at men s) ≡ true
  pub home : rank s ≡ first_rank c
  pub none_beyond : (t : ℕ) → rank t ≡ first_rank c → is_to_side w s t ≡ true → is_man c Rook (man_at men t) ≡ false

-- the letter names colour c's rook on square s for side w: it is the side's letter (K, Q, k or q), and that rook is the
-- outermost one; or it is the letter of the rook's file
abbrev pub NamesRook : Men → Colour → CastlingSide → ℕ → ℕ → Type 0
NamesRook men c w letter s = ((letter ≡ side_letter c w) × IsOutermost men c w s) ⊎ (letter ≡ first_letter c + file s)

-- the letter doesn't name colour c's right on side w: it is neither that side's letter (K, Q, k or q) nor that of a
-- file on that side of the king
pub record NamesNone (men : Men) (c : Colour) (w : CastlingSide) (letter : ℕ) : Type 0 where
  pub not_side : letter ≢ side_letter c w
  pub not_file : (s : ℕ) → rank s ≡ first_rank c → letter ≡ first_letter c + file s
      → is_towards w (king_square men c) s ≡ false

-- the text names colour c's right on side w as it is (a rook's square, or none): one letter names that rook, and no
-- other names the right; or no letter names the right
abbrev pub RightIsNamed : List ℕ → Men → Colour → CastlingSide → Option ℕ → Type 0
RightIsNamed text men c w None = AllByRecursion (NamesNone men c w) text
RightIsNamed text men c w (Some s) =
    (before : List ℕ) × (letter : ℕ) × (after : List ℕ)
    × (text ≡ before ++ letter ∷ after)
    × NamesRook men c w letter s
    × AllByRecursion (NamesNone men c w) before
    × AllByRecursion (NamesNone men c w) after
