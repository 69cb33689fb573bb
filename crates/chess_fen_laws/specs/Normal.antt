-- FEN for normal chess alone (PGN standard of 1994, section 16.1): rights are named by K, Q, k and q, and king and rook
-- of each are on their initial squares. The pieces, side, target and counters are as in both variants.
use Rattle.std.specs.Prelude.{ℕ, max, ◌==◌, nat_lt, nat_le, Bool, not, ◌&&◌, ◌||◌, List, [], ◌∷◌, ◌++◌, length, count_by, decimal, codes, Option, Some, None, Result, Ok, Err, if◌then◌else◌}
use Rattle.std.specs.Bool.{then_some}
use Rattle.std.specs.List.{list_all, join_with_byte}
use Rattle.std.specs.Option.{ok_or, option_map_or}
use Rattle.std.specs.Str.{bytes_eq}
use Rattle.chess_base.specs.declared.fen_fault.FenFault.{FenFault}
use Rattle.chess_base.specs.declared.fen_fault.FenFault.TheVariants as faults
use Rattle.chess_base.specs.declared.man.Colour.TheVariants.{White, Black}
use Rattle.chess_base.specs.declared.man.CastlingSide.TheVariants.{KingSide, QueenSide}
use Rattle.chess_base.specs.declared.man.Rights.{Rights}
use Rattle.chess_base.specs.declared.man.Variant.TheVariants.{Normal}
use Rattle.chess_base.specs.declared.setup.Setup.{Setup}
use Rattle.chess_base.specs.declared.setup.TheConstants.{COUNTER_LIMIT}
use Rattle.chess_base.specs.Attacks.{is_in_check}
use Rattle.chess_base.specs.Faults.{first_failing}
use Rattle.byte_devices.specs.Bytes.{byte, space}
use Rattle.chess_base.specs.Men.{other}
use Rattle.chess_base.specs.Sound.{has_one_king, no_pawn_on_end_ranks, has_at_most_16, target_is_sound}
use Rattle.chess_base_laws.specs.Normal.{normal_right_is_sound_at}
use Rattle.text_lines.specs.Words.{short_number}
use Rattle.chess_fen.specs.Reading.{◌>>=◌, side_of}
use Rattle.chess_fen.specs.Texts.{placement_of, target_of, fields_of, occurs}
use Rattle.chess_fen.specs.Writing.{placement_text, side_text, target_text}

-- ---- written

-- the letter c as text if the castling right (a rook's square, or none) is there, otherwise nothing
abbrev pub letter_if : Option ℕ → ℕ → List ℕ
letter_if None c = []
letter_if (Some corner) c = c ∷ []

-- a FEN's third field: the letters of the castling rights that are there, in the order KQkq, or a dash
abbrev pub normal_rights_text : Rights → List ℕ
normal_rights_text r =
    let letters = letter_if r.white.king_side (byte "K") ++ letter_if r.white.queen_side (byte "Q")
    ++ letter_if r.black.king_side (byte "k") ++ letter_if r.black.queen_side (byte "q") in
    if length letters == 0 then codes "-" else letters

-- the FEN of a position of normal chess: its six fields, with one space between them
abbrev pub normal_fen : Setup → List ℕ
normal_fen p = join_with_byte space (placement_text p.men ∷ side_text p.side ∷ normal_rights_text p.rights ∷ target_text
    p.target ∷ decimal p.halfmove ∷ decimal p.fullmove ∷ [])

-- ---- read

-- the byte c is K, Q, k or q, and occurs once in the text
abbrev pub normal_names_once : List ℕ → ℕ → Bool
normal_names_once text c = occurs c (codes "KQkq") && (count_by (λ b. b == c) text == 1)

-- the text has the form of a castling field: a dash, or one to four of the letters K, Q, k and q, none twice
abbrev pub normal_is_castling : List ℕ → Bool
normal_is_castling text = bytes_eq text (codes "-")
    || (nat_lt 0 (length text) && nat_le (length text) 4 && list_all (normal_names_once text) text)

-- the castling right with this letter, given as its rook's square: `corner` if the letter is in the castling field
-- `letters`, otherwise none
abbrev pub normal_right_named : List ℕ → ℕ → ℕ → Option ℕ
normal_right_named letters letter corner = then_some (occurs letter letters) corner

-- the castling rights that the letters of a castling field name, as rooks' squares: h1 (7) for K, a1 (0) for Q, h8 (63)
-- for k, a8 (56) for q
abbrev pub normal_rights_named : List ℕ → Rights
normal_rights_named letters = record {
  white = record {
    king_side = normal_right_named letters (byte "K") 7;
    queen_side = normal_right_named letters (byte "Q") 0;
  };
  black = record {
    king_side = normal_right_named letters (byte "k") 63;
    queen_side = normal_right_named letters (byte "q") 56;
  };
}

-- the castling rights that a FEN's third field denotes; none if it doesn't have the form of one
abbrev pub normal_rights_of : List ℕ → Option Rights
normal_rights_of text = if normal_is_castling text then Some (normal_rights_named text) else None

-- the position that the fields of a FEN denote, sound or not; or the fault of the first field that denotes nothing
abbrev pub normal_setup_by : List ℕ → List ℕ → List ℕ → List ℕ → List ℕ → List ℕ → Result Setup FenFault
normal_setup_by placement side castling target halfmove fullmove = do
  men ← ok_or (placement_of placement) faults.Placement
  colour ← ok_or (side_of side) faults.Side
  rights ← ok_or (normal_rights_of castling) faults.Castling
  passed ← ok_or (target_of target) faults.EnPassant
  clock ← ok_or (short_number 6 halfmove) faults.Counters
  number ← ok_or (short_number 6 fullmove) faults.Counters
  Ok (record {
    variant = Normal;
    men = men;
    side = colour;
    rights = rights;
    target = passed;
    halfmove = clock;
    fullmove = max number 1;
  })

-- the position that a list of a FEN's fields denotes, sound or not, or the fault; counters that are left out are 0 and
-- 1
abbrev pub normal_setup_in : List (List ℕ) → Result Setup FenFault
normal_setup_in (a ∷ b ∷ c ∷ d ∷ []) = normal_setup_by a b c d (codes "0") (codes "1")
normal_setup_in (a ∷ b ∷ c ∷ d ∷ e ∷ f ∷ []) = normal_setup_by a b c d e f
normal_setup_in _ = Err faults.Fields

-- each castling right that is there has its king and its rook on their initial squares
abbrev pub normal_rights_are_sound : Setup → Bool
normal_rights_are_sound p =
    normal_right_is_sound_at p.men White KingSide p.rights.white.king_side
    && normal_right_is_sound_at p.men White QueenSide p.rights.white.queen_side
    && normal_right_is_sound_at p.men Black KingSide p.rights.black.king_side
    && normal_right_is_sound_at p.men Black QueenSide p.rights.black.queen_side

-- the fault of the first condition of soundness that the position fails; none if it meets them all
unfoldable pub normal_fault : Setup → Option FenFault
normal_fault p =
    first_failing
    ((faults.Counters, nat_le p.halfmove COUNTER_LIMIT && nat_le 1 p.fullmove && nat_le p.fullmove COUNTER_LIMIT)
    ∷ (faults.Kings, has_one_king p.men White && has_one_king p.men Black)
    ∷ (faults.Pawns, no_pawn_on_end_ranks p.men)
    ∷ (faults.Men, has_at_most_16 p.men White && has_at_most_16 p.men Black)
    ∷ (faults.Castling, normal_rights_are_sound p)
    ∷ (faults.EnPassant, target_is_sound p)
    ∷ (faults.Check, not (is_in_check p.men (other p.side)))
    ∷ [])

-- `Ok p` if position p is sound, otherwise the fault of the first condition that it fails
abbrev pub normal_sound : Setup → Result Setup FenFault
normal_sound p = option_map_or Err (normal_fault p) (Ok p)

-- the sound position that a text denotes as a FEN of normal chess, or its first fault
abbrev pub normal_fen_reading : List ℕ → Result Setup FenFault
normal_fen_reading text = normal_setup_in (fields_of text) >>= normal_sound
