-- The laws of FEN, each as one statement.
use Rattle.std.specs.Prelude.{◌≡◌, ℕ, true, ◌↔◌, List, Ok}
use Rattle.std.specs.Option.{option_map_or}
use Rattle.chess_base.specs.declared.man.CastlingSide.{CastlingSide}
use Rattle.chess_base.specs.declared.man.Colour.{Colour}
use Rattle.chess_base.specs.declared.man.Variant.TheVariants.{Fischerandom}
use Rattle.chess_base.specs.declared.setup.Setup.{Setup}
use Rattle.chess_base.specs.Castling.{right_of, right_is_sound}
use Rattle.chess_base.specs.Sound.{IsSound}
use Rattle.chess_fen.specs.Writing.{fen}
use Rattle.chess_fen.specs.Reading.{fen_reading_as}
use Rattle.chess_fen.specs.Denotation.{DenotesFenAs}
use Rattle.chess_fen.specs.RightNames.{Absent, At, right_in}
use Rattle.chess_fen_laws.specs.NamedRooks.{RightIsNamed}

-- the FEN that is written for a sound position denotes that position, in its variant
abbrev pub WrittenIsDenoted : Type 0
WrittenIsDenoted = (p : Setup) → IsSound p → DenotesFenAs p.variant (fen p) p

-- the FEN that is written for a sound position denotes no other position of its variant, sound or not
abbrev pub WrittenDenotesNoOther : Type 0
WrittenDenotesNoOther = (p q : Setup) → IsSound p → DenotesFenAs p.variant (fen p) q → q ≡ p

-- the FEN that is written for a sound position is read as that position, in its variant
abbrev pub WrittenIsReadBack : Type 0
WrittenIsReadBack = (p : Setup) → IsSound p → fen_reading_as p.variant (fen p) ≡ Ok p

-- in a position p of Chess960, for colour c's right on side w, if it is sound or not there: the letters of any text are
-- read (`right_in`) as this right with p's rook, or as no right, exactly if they name it so (`RightIsNamed`)
abbrev pub RightsAreNamed : Type 0
RightsAreNamed =
    (text : List ℕ) → (p : Setup) → (c : Colour) → (w : CastlingSide)
    → p.variant ≡ Fischerandom → right_is_sound p c w ≡ true
    → ((right_in Fischerandom p.men text c w ≡ option_map_or At (right_of p.rights c w) Absent) ↔
    RightIsNamed text p.men c w (right_of p.rights c w))
