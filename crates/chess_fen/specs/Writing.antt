-- The one FEN written for a position (PGN standard of 1994, section 16.1). The target is written even if no pawn can
-- capture there; numbers have no leading zeros.
use Rattle.std.specs.Prelude.{ℕ, Bool, true, false, ◌+◌, ◌*◌, ◌==◌, if◌then◌else◌, length, List, [], ◌∷◌, map, take, drop, Option, Some, None, is_none, decimal, codes}
use Rattle.std.specs.List.{filter_map, join_with_byte, prefix_len}
use Rattle.std.specs.Option.{option_map, option_map_or}
use Rattle.chess_base.specs.declared.man.Man.{Man}
use Rattle.chess_base.specs.declared.man.Colour.{Colour}
use Rattle.chess_base.specs.declared.man.Variant.{Variant}
use Rattle.chess_base.specs.declared.man.Rights.{Rights}
use Rattle.chess_fen.specs.RightNames.{all_rights, right_letter}
use Rattle.chess_base.specs.declared.setup.Setup.{Setup}
use Rattle.chess_base.specs.Letters.{square_text, letter}
use Rattle.byte_devices.specs.Bytes.{byte, space}
use Rattle.chess_base.specs.ByColour.{by_colour}
use Rattle.chess_base.specs.Castling.{right_of}
use Rattle.chess_base.specs.Initial.{initial_setup}
use Rattle.std.specs.Str.{bytes_eq}

-- the text of squares of one rank: a letter for each piece, a digit for each run of empty squares. `in_run`: the square
-- before these is empty, so the digit of a run at the front is already written
abbrev pub squares_text : Bool → List (Option Man) → List ℕ
squares_text in_run [] = []
squares_text in_run (Some man ∷ row) = letter man ∷ squares_text false row
squares_text true (None ∷ row) = squares_text true row
squares_text false (None ∷ row) = (byte "0" + prefix_len is_none (None ∷ row)) ∷ squares_text true row

-- the text of a rank, from file a on, as "4P3"
abbrev pub fen_rank : List (Option Man) → List ℕ
fen_rank row = squares_text false row

-- a FEN's first field: the text of the eight ranks, rank 8 first, with slashes between
unfoldable pub placement_text : List (Option Man) → List ℕ
placement_text men = join_with_byte (byte "/")
    (map (λ rank. fen_rank (take 8 (drop (8 * rank) men))) (7 ∷ 6 ∷ 5 ∷ 4 ∷ 3 ∷ 2 ∷ 1 ∷ 0 ∷ []))

-- a FEN's second field: w or b for the side on move
abbrev pub side_text : Colour → List ℕ
side_text = by_colour (codes "w") (codes "b")

-- a FEN's third field: the rights' letters, in normal chess KQkq, in Chess960 the rooks' files in the same order; or a
-- dash
abbrev pub rights_text : Variant → Rights → List ℕ
rights_text v rights =
    let letters = filter_map (λ r. option_map (right_letter v r.0 r.1) (right_of rights r.0 r.1)) all_rights in
    if length letters == 0 then codes "-" else letters

-- a FEN's fourth field: the name of the en passant target, or a dash
abbrev pub target_text : Option ℕ → List ℕ
target_text target = option_map_or square_text target (codes "-")

-- a position's FEN: its six fields, with one space between them
abbrev pub fen : Setup → List ℕ
fen p = join_with_byte space (placement_text p.men ∷ side_text p.side ∷ rights_text p.variant p.rights ∷ target_text
    p.target ∷ decimal p.halfmove ∷ decimal p.fullmove ∷ [])

-- a position has the FEN of normal chess's initial position; of all sound positions only that one has it
abbrev pub is_initial : Setup → Bool
is_initial start = bytes_eq (fen start) (fen initial_setup)
