-- The pieces of a position as sets of squares: White's pieces, and the pieces of each kind, of both colours.
use Rattle.std.specs.Prelude.{◌≡◌, ◌<◌, ℕ, Option, Some, None, if◌then◌else◌}
use Rattle.chess_base.specs.declared.man.Colour.{Colour}
use Rattle.chess_base.specs.declared.man.Colour.TheVariants.{White, Black}
use Rattle.chess_base.specs.declared.man.Kind.{Kind}
use Rattle.chess_base.specs.declared.man.Kind.TheVariants.{King, Queen, Rook, Bishop, Knight, Pawn}
use Rattle.chess_base.specs.declared.man.Man.{Man}
use Rattle.chess_base.specs.Men.{Men, man_at, is_of}
use Rattle.chess_base.specs.shared.Below.{from_below}
use Rattle.chess_moves.specs.Sets.{contains}
use Rattle.chess_game.specs.Ends.{is_kind}
use Rattle.chess_game.specs.declared.packed.PackedMen.{PackedMen}

-- the kind of the piece on square s, as the packed sets p say; none if no set of a kind has s
abbrev pub kind_in : PackedMen → ℕ → Option Kind
kind_in p s =
    if contains p.kings s then Some King
    else if contains p.queens s then Some Queen
    else if contains p.rooks s then Some Rook
    else if contains p.bishops s then Some Bishop
    else if contains p.knights s then Some Knight
    else if contains p.pawns s then Some Pawn
    else None

-- the colour of the piece on square s, as the packed sets p say: White if White's set has s, otherwise Black (also for
-- an empty square)
abbrev pub colour_in : PackedMen → ℕ → Colour
colour_in p s = if contains p.white s then White else Black

-- a piece of this colour and kind; none if there is no kind
abbrev pub man_of : Colour → Option Kind → Option Man
man_of c None = None
man_of c (Some kind) = Some (record { colour = c; kind = kind })

-- the piece on square s, as the packed sets p say, or none
unfoldable pub man_in : PackedMen → ℕ → Option Man
man_in p s = man_of (colour_in p s) (kind_in p s)

-- the pieces on all 64 squares, from a1 to h8, as the packed sets p say
unfoldable pub men_in : PackedMen → Men
men_in p = from_below 64 (man_in p)

-- the content of square s once a piece of this kind was put on each square of the set w, in the colour that the packed
-- sets p have for the square; o is the content before
abbrev pub put_at : PackedMen → ℕ → Kind → ℕ → Option Man → Option Man
put_at p w kind s o = if contains w s then Some (record { colour = colour_in p s; kind = kind }) else o

-- the packed sets p are right for square s with the content o: White's set has s if o is white, and a kind's set if o
-- is of that kind
pub record IsPackedAt (p : PackedMen) (s : ℕ) (o : Option Man) : Type 0 where
  pub white : contains p.white s ≡ is_of White o
  pub kings : contains p.kings s ≡ is_kind King o
  pub queens : contains p.queens s ≡ is_kind Queen o
  pub rooks : contains p.rooks s ≡ is_kind Rook o
  pub bishops : contains p.bishops s ≡ is_kind Bishop o
  pub knights : contains p.knights s ≡ is_kind Knight o
  pub pawns : contains p.pawns s ≡ is_kind Pawn o

-- the packed sets p are those of these pieces, on each of the 64 squares
abbrev pub ArePacked : PackedMen → Men → Type 0
ArePacked p men = (s : ℕ) → s < 64 → IsPackedAt p s (man_at men s)
