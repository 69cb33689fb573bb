-- Parts of the definitions as functions of the option that they look at: so a proof can take `None` and `Some` apart.
use Rattle.std.specs.Prelude.{ℕ, Bool, true, false, Option}
use Rattle.std.specs.Option.{option_map, option_map_or}
use Rattle.chess_base.specs.declared.castling.Castle.{Castle}
use Rattle.chess_base.specs.declared.man.Colour.{Colour}
use Rattle.chess_base.specs.declared.man.CastlingSide.{CastlingSide}
use Rattle.chess_base.specs.declared.man.Man.{Man}
use Rattle.chess_base.specs.declared.man.Move.{Move}
use Rattle.chess_base.specs.declared.man.Variant.{Variant}
use Rattle.chess_base.specs.declared.setup.Setup.{Setup}
use Rattle.chess_base.specs.Men.{Men}
use Rattle.chess_base.specs.Attacks.{could_capture}
use Rattle.chess_base.specs.Castling.{are_placed_for_castling, names_castling_with, castle_from, castles}
use Rattle.chess_base.specs.Moves.{man_moves}

-- the content `o` of square a, if it is a piece, could capture on square b, whatever is on b
abbrev pub could_capture_as : Men → Option Man → ℕ → ℕ → Bool
could_capture_as men o a b = option_map_or (λ x. could_capture men x.colour x.kind a b) o false

-- colour c's castling right on side w (`o`: its rook's square), if there is one, has its king and rook where castling
-- begins
abbrev pub right_is_sound_at : Variant → Men → Colour → CastlingSide → Option ℕ → Bool
right_is_sound_at v men c w o = option_map_or (are_placed_for_castling v men c w) o true

-- colour c has the castling right on side w (`o`: its rook's square), and the squares of move m name that castling
abbrev pub names_castling : Variant → Colour → Move → CastlingSide → Option ℕ → Bool
names_castling v c m w o = option_map_or (names_castling_with v c m w) o false

-- the four squares of colour c's castling on side w, with the king on k and the rook on `o` before it; none if `o` is
-- none
abbrev pub castle_with : Colour → CastlingSide → ℕ → Option ℕ → Option Castle
castle_with c w k o = option_map (castle_from c w k) o

-- the castling rook's square before the castling `o`; none if there is no castling
abbrev pub rook_from : Option Castle → Option ℕ
rook_from o = option_map (λ k. k.rook_from) o

-- the castling rook's square after the castling `o`; none if there is no castling
abbrev pub rook_to : Option Castle → Option ℕ
rook_to o = option_map (λ k. k.rook_to) o

-- a piece other than a pawn can make move m: as the castling `o`, if m is one, otherwise as the piece moves
abbrev pub castles_or_moves : Setup → Move → Option Castle → Bool
castles_or_moves p m o = option_map_or (castles p m) o (man_moves p m)
