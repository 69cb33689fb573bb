-- The position that a text denotes as FEN, or its first fault. Beyond the standard, the counters may be left out, and a
-- fullmove number of 0 is read as 1. Denotation and FenFaults say the same by relations.
use Rattle.std.specs.Prelude.{ℕ, max, codes, Bool, List, [], ◌∷◌, ◌++◌, length, Option, Some, None, Result, Ok, Err, ◌==◌, if◌then◌else◌}
use Rattle.std.specs.Option.{ok_or, option_map_or}
use Rattle.chess_base.specs.declared.man.Colour.{Colour}
use Rattle.chess_base.specs.declared.man.Colour.TheVariants.{White, Black}
use Rattle.chess_base.specs.declared.man.Variant.{Variant}
use Rattle.chess_base.specs.declared.man.Variant.TheVariants.{Normal}
use Rattle.chess_base.specs.declared.setup.Setup.{Setup}
use Rattle.chess_base.specs.Faults.{conditions_if, first_failing}
use Rattle.chess_base.specs.declared.fen_fault.FenFault.{FenFault}
use Rattle.chess_base.specs.declared.fen_fault.FenFault.TheVariants as faults
use Rattle.byte_devices.specs.Bytes.{byte}
use Rattle.text_lines.specs.Words.{short_number}
use Rattle.chess_fen.specs.RightNames.{names_rights_well, rights_in}
use Rattle.chess_fen.specs.Texts.{placement_of, is_castling_field, target_of, fields_of}

infixl 10 ◌>>=◌
-- f of a result's value, or its error. It joins the lines of a `do`: the first error is the result
abbrev pub ◌>>=◌ : {A B E : Type 0} → Result A E → (A → Result B E) → Result B E
(Ok x) >>= f = f x
(Err e) >>= f = Err e

-- the side that a FEN's second field denotes by w or b; otherwise `None`
abbrev pub side_of : List ℕ → Option Colour
side_of (c ∷ []) = if c == byte "w" then Some White else (if c == byte "b" then Some Black else None)
side_of _ = None

-- the conditions of a sound position, each as its fault and whether p meets it; `letters`: the castling field of p's
-- FEN
abbrev pub conditions_of : List ℕ → Setup → List (FenFault × Bool)
conditions_of letters p = conditions_if (names_rights_well p.variant p.men letters) p

-- the sound position that the fields denote as a FEN of variant v, or the first fault: `Fields` if they aren't six,
-- then that of the first field that denotes nothing, then of the first condition that fails
abbrev pub reading_in : Variant → List (List ℕ) → Result Setup FenFault
reading_in v (placement ∷ side ∷ castling ∷ target ∷ halfmove ∷ fullmove ∷ []) = do
  pieces ← ok_or (placement_of placement) faults.Placement
  colour ← ok_or (side_of side) faults.Side
  named ← if is_castling_field v castling then Ok (rights_in v pieces castling) else Err faults.Castling
  passed ← ok_or (target_of target) faults.EnPassant
  clock ← ok_or (short_number 6 halfmove) faults.Counters
  number ← ok_or (short_number 6 fullmove) faults.Counters
  p ← Ok (record {
    variant = v;
    men = pieces;
    side = colour;
    rights = named;
    target = passed;
    halfmove = clock;
    fullmove = max number 1;
  })
  option_map_or Err (first_failing (conditions_of castling p)) (Ok p)
reading_in v _ = Err faults.Fields

-- the sound position that a text denotes as a FEN of variant v, or its first fault. With just four fields, the counters
-- are 0 and 1
abbrev pub fen_reading_as : Variant → List ℕ → Result Setup FenFault
fen_reading_as v text = let fields = fields_of text in
    reading_in v (if length fields == 4 then fields ++ (codes "0" ∷ codes "1" ∷ []) else fields)

-- the same for a FEN of normal chess
abbrev pub fen_reading : List ℕ → Result Setup FenFault
fen_reading text = fen_reading_as Normal text
