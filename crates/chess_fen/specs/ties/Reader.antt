-- How code reads the castling rights of a FEN, letter by letter. A right that is named wrongly is read as one with its
-- rook on a4 (`nowhere`). No right with its rook there is sound, so the position is refused.
use Rattle.std.specs.Prelude.{ℕ, max, codes, count_by, length, nat_lt, nat_le, ◌-◌, ◌==◌, Bool, ◌&&◌, List, [], ◌∷◌, map, find, Option, Some, None, Result, Ok, Err, unwrap_or, if◌then◌else◌}
use Rattle.std.specs.Bool.{then_some}
use Rattle.std.specs.List.{fold, list_all}
use Rattle.std.specs.Option.{ok_or}
use Rattle.chess_base.specs.declared.man.Kind.TheVariants.{Rook}
use Rattle.chess_base.specs.declared.man.Colour.{Colour}
use Rattle.chess_base.specs.declared.man.CastlingSide.{CastlingSide}
use Rattle.chess_base.specs.declared.man.Rights.{Rights}
use Rattle.chess_base.specs.declared.man.Variant.{Variant}
use Rattle.chess_base.specs.declared.man.Variant.TheVariants.{Normal, Fischerandom}
use Rattle.chess_base.specs.declared.setup.Setup.{Setup}
use Rattle.chess_base.specs.declared.fen_fault.FenFault.{FenFault}
use Rattle.chess_base.specs.declared.fen_fault.FenFault.TheVariants as faults
use Rattle.chess_base.specs.Men.{Men, man_at, is_man}
use Rattle.chess_base.specs.Castling.{home_square, king_square, rook_file, rights_by}
use Rattle.text_lines.specs.Words.{short_number}
use Rattle.chess_fen.specs.Reading.{◌>>=◌, side_of}
use Rattle.chess_fen.specs.RightNames.{side_letter, from_edge, is_towards}
use Rattle.chess_fen.specs.Texts.{placement_of, occurs, first_letter, names_file, may_name_right, is_castling_field, target_of}

-- ---- the letters

-- how often the byte c occurs in the text
abbrev pub times : ℕ → List ℕ → ℕ
times c text = count_by (λ b. b == c) text

-- the byte c may name a castling right, and occurs once in the text
abbrev pub names_once : Variant → List ℕ → ℕ → Bool
names_once v text c = may_name_right v c && (times c text == 1)

-- the text is one to four letters, each of which may name a right and occurs once
abbrev pub are_right_letters : Variant → List ℕ → Bool
are_right_letters v text = nat_lt 0 (length text) && nat_le (length text) 4 && list_all (names_once v text) text

-- normal chess: the castling right with this letter, given as its rook's square: `corner` if the letter is in the
-- castling field `letters`, otherwise `None`
abbrev pub right_named : List ℕ → ℕ → ℕ → Option ℕ
right_named letters letter corner = then_some (occurs letter letters) corner

-- ---- castling in Chess960

-- a square off the first ranks (a4), taken as the rook's square of a right that is named wrongly
abbrev pub nowhere : ℕ
nowhere = 24

-- the square of colour c's rook on its first rank that is nearest to the edge on side w, even if it is not on that side
-- of the king; `nowhere` if there is no rook
unfoldable pub outer_rook : Men → Colour → CastlingSide → ℕ
outer_rook men c w = unwrap_or (find (λ s. is_man c Rook (man_at men s)) (from_edge c w)) nowhere

-- the rook's square by which this letter names colour c's right on side w, or none if it names another right
abbrev pub named_square : Men → Colour → CastlingSide → ℕ → Option ℕ
named_square men c w letter =
    let s = home_square c (letter - first_letter c) in
    if letter == side_letter c w then Some (outer_rook men c w)
    else if names_file c letter && is_towards w (king_square men c) s then Some s
    else None

-- a right's rook by two letters, each of which names a square for it or none: the square if one does, none if neither
-- does, `nowhere` if both do
abbrev pub one_or_nowhere : Option ℕ → Option ℕ → Option ℕ
one_or_nowhere None o = o
one_or_nowhere (Some s) None = Some s
one_or_nowhere (Some s) (Some t) = Some nowhere

-- colour c's right on side w, as its rook's square, after these further letters; `found` is the one that the letters so
-- far named, if any
abbrev pub right_after_letters : Men → Colour → CastlingSide → Option ℕ → List ℕ → Option ℕ
right_after_letters men c w found letters = fold one_or_nowhere found (map (named_square men c w) letters)

-- ---- the fields

-- colour c's castling right on side w that a castling field's letters name, as the square of its rook; none if they
-- don't name it
abbrev pub right_by_letters : Variant → Men → List ℕ → Colour → CastlingSide → Option ℕ
right_by_letters Normal men letters c w = right_named letters (side_letter c w) (home_square c (rook_file w))
right_by_letters Fischerandom men letters c w = right_after_letters men c w None letters

-- the castling rights that a FEN's third field denotes in a position with these pieces; none if it is neither a dash
-- nor letters that may name rights
abbrev pub rights_of : Variant → Men → List ℕ → Option Rights
rights_of v men text = if is_castling_field v text then Some (rights_by (right_by_letters v men text)) else None

-- the position with these pieces that the five fields of a FEN after the first denote, or the fault of the first of
-- them that denotes nothing
abbrev pub setup_with : Variant → Men → List ℕ → List ℕ → List ℕ → List ℕ → List ℕ → Result Setup FenFault
setup_with v men side castling target halfmove fullmove = do
  colour ← ok_or (side_of side) faults.Side
  rights ← ok_or (rights_of v men castling) faults.Castling
  passed ← ok_or (target_of target) faults.EnPassant
  clock ← ok_or (short_number 6 halfmove) faults.Counters
  number ← ok_or (short_number 6 fullmove) faults.Counters
  Ok (record {
    variant = v;
    men = men;
    side = colour;
    rights = rights;
    target = passed;
    halfmove = clock;
    fullmove = max number 1;
  })

-- the position that the six fields of a FEN denote, sound or not, or the fault of the first field that denotes nothing
abbrev pub setup_by : Variant → List ℕ → List ℕ → List ℕ → List ℕ → List ℕ → List ℕ → Result Setup FenFault
setup_by v placement side castling target halfmove fullmove = do
  men ← ok_or (placement_of placement) faults.Placement
  setup_with v men side castling target halfmove fullmove

-- the position, sound or not, that six fields of a FEN denote, or four with the counters 0 and 1; or the fault
abbrev pub setup_in : Variant → List (List ℕ) → Result Setup FenFault
setup_in v (a ∷ b ∷ c ∷ d ∷ []) = setup_by v a b c d (codes "0") (codes "1")
setup_in v (a ∷ b ∷ c ∷ d ∷ e ∷ f ∷ []) = setup_by v a b c d e f
setup_in v _ = Err faults.Fields
