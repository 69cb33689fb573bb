-- What a text's fault is, as a relation: a wrong number of fields, or the first field that denotes nothing, or the
-- first condition that fails.
use Rattle.std.specs.Prelude.{◌≡◌, ◌≢◌, ◌⊎◌, ℕ, false, List, ◌∷◌, length, Option, Some, IsTrue}
use Rattle.chess_base.specs.declared.man.Colour.{Colour}
use Rattle.chess_base.specs.declared.man.Variant.{Variant}
use Rattle.chess_base.specs.declared.man.Variant.TheVariants.{Normal}
use Rattle.chess_base.specs.declared.setup.Setup.{Setup}
use Rattle.chess_base.specs.Men.{Men}
use Rattle.chess_base.specs.Faults.{first_failing}
use Rattle.chess_base.specs.declared.fen_fault.FenFault.{FenFault}
use Rattle.chess_base.specs.declared.fen_fault.FenFault.TheVariants.{Fields, Placement, Side, Castling, EnPassant, Counters}
use Rattle.chess_fen.specs.Texts.{is_castling_field, fields_of}
use Rattle.chess_fen.specs.Writing.{side_text}
use Rattle.chess_fen.specs.Reading.{conditions_of}
use Rattle.chess_fen.specs.Denotation.{DenotesPlacement, DenotesTarget, DenotesCounters, DenotesText}

-- a FEN's first field denotes pieces
abbrev pub DenotesSomeMen : List ℕ → Type 0
DenotesSomeMen text = (men : Men) × DenotesPlacement text men

-- a FEN's second field is w or b
abbrev pub DenotesSomeSide : List ℕ → Type 0
DenotesSomeSide text = (colour : Colour) × (text ≡ side_text colour)

-- a FEN's fourth field denotes a target, or by a dash none
abbrev pub DenotesSomeTarget : List ℕ → Type 0
DenotesSomeTarget text = (target : Option ℕ) × DenotesTarget text target

-- the field that the fault is about denotes nothing, and each field before it something. The first four fields are a,
-- b, c and d; `more` are the two counters, if any. False for a fault about no field, such as `Kings`
abbrev pub IsFieldFault : Variant → List ℕ → List ℕ → List ℕ → List ℕ → List (List ℕ) → FenFault → Type 0
IsFieldFault v a b c d more Placement = (men : Men) → DenotesPlacement a men → ⊥
IsFieldFault v a b c d more Side = DenotesSomeMen a × ((colour : Colour) → b ≢ side_text colour)
IsFieldFault v a b c d more Castling = DenotesSomeMen a × DenotesSomeSide b × (is_castling_field v c ≡ false)
IsFieldFault v a b c d more EnPassant = DenotesSomeMen a × DenotesSomeSide b × IsTrue (is_castling_field v c)
    × ((target : Option ℕ) → DenotesTarget d target → ⊥)
IsFieldFault v a b c d more Counters = DenotesSomeMen a × DenotesSomeSide b × IsTrue (is_castling_field v c)
    × DenotesSomeTarget d × ((halfmove fullmove : ℕ) → DenotesCounters more halfmove fullmove → ⊥)
IsFieldFault v a b c d more f = ⊥

-- f is `Fields`, and the text has neither four nor six fields
abbrev pub HasWrongFieldCount : List ℕ → FenFault → Type 0
HasWrongFieldCount text f = (f ≡ Fields) × (length (fields_of text) ≢ 4) × (length (fields_of text) ≢ 6)

-- the text has four or six fields, and fault f is about the first that denotes nothing
abbrev pub IsMalformed : Variant → List ℕ → FenFault → Type 0
IsMalformed v text f =
    (a : List ℕ) × (b : List ℕ) × (c : List ℕ) × (d : List ℕ) × (more : List (List ℕ))
    × (fields_of text ≡ a ∷ b ∷ c ∷ d ∷ more)
    × ((length more ≡ 0) ⊎ (length more ≡ 2))
    × IsFieldFault v a b c d more f

-- each field denotes something, but the position is unsound, or a letter of the castling field names no right (`K` in
-- Chess960 without a white rook on rank 1): f is the fault of the first condition that fails
abbrev pub IsUnsound : Variant → List ℕ → FenFault → Type 0
IsUnsound v text f = (p : Setup) × (castling : List ℕ) × DenotesText v text castling p
    × (first_failing (conditions_of castling p) ≡ Some f)

-- f is the fault of the text as a FEN of variant v
abbrev pub IsFaultAs : Variant → List ℕ → FenFault → Type 0
IsFaultAs v text f = HasWrongFieldCount text f ⊎ IsMalformed v text f ⊎ IsUnsound v text f

-- f is the fault of the text as a FEN of normal chess
abbrev pub IsFault : List ℕ → FenFault → Type 0
IsFault text f = IsFaultAs Normal text f
