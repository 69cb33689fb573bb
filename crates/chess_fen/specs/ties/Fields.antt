-- What code cuts a FEN into.
use Rattle.std.specs.Prelude.{◌≡◌, List, ◌∷◌, ℕ, Option, Some, None, Err}
use Rattle.chess_base.specs.declared.fen_fault.FenFault.TheVariants as faults
use Rattle.chess_base.specs.declared.man.Variant.{Variant}
use Rattle.chess_fen.specs.declared.fields.Fields.{Fields}
use Rattle.chess_fen.specs.ties.Reader.{setup_by, setup_in}

-- the five fields f, which code cut out of a FEN after its first one, denote with any first field the same position
-- (or fault) as `fields`, the list of all fields after the first; where code found none (`None`), that list has a
-- wrong number of fields
abbrev pub FieldsAre : Option Fields → List (List ℕ) → Type 0
FieldsAre None fields = (v : Variant) → (placement : List ℕ) → setup_in v (placement ∷ fields) ≡ Err faults.Fields
FieldsAre (Some f) fields =
    (v : Variant) → (placement : List ℕ) → setup_in v (placement ∷ fields)
    ≡ setup_by v placement f.side.now f.castling.now f.target.now f.halfmove.now f.fullmove.now
