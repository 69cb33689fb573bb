-- Which moves a text denotes (PGN standard of 1994, section 8.2.3). This project's additions to the standard: a move by
-- its two squares (g1f3, e1g1), castling with the digit 0, a promotion in a small letter or without `=`, a capture
-- without `x`, more of the start square than is needed, and any run of the marks + # ! ?.
use Rattle.std.specs.Prelude.{ℕ, ◌==◌, Bool, true, false, ◌||◌, if◌then◌else◌, List, [], ◌∷◌, ◌++◌, map, flat_map, Option, Some, None, is_some, IsTrue, codes}
use Rattle.std.specs.List.{list_any, filter}
use Rattle.std.specs.Option.{option_map, option_map_or}
use Rattle.std.specs.Str.{bytes_eq}
use Rattle.chess_base.specs.declared.man.CastlingSide.{CastlingSide}
use Rattle.chess_base.specs.declared.man.CastlingSide.TheVariants.{KingSide, QueenSide}
use Rattle.chess_base.specs.declared.man.Kind.{Kind}
use Rattle.chess_base.specs.declared.man.Kind.TheVariants.{Pawn}
use Rattle.chess_base.specs.declared.man.Move.{Move}
use Rattle.chess_base.specs.declared.setup.Setup.{Setup}
use Rattle.chess_base.specs.Coordinates.{small_letter_text}
use Rattle.chess_base.specs.Letters.{kinds, square_text}
use Rattle.chess_base.specs.Options.{list_if}
use Rattle.chess_base.specs.Men.{man_at, same_kind}
use Rattle.chess_base.specs.Moves.{captured_square, is_legal}
use Rattle.chess_base.specs.Castling.{castling, by_side}
use Rattle.chess_base.specs.MoveList.{moves, all_moves}
use Rattle.chess_base.specs.Squares.{file, rank}
use Rattle.chess_text.specs.declared.described.Described.{Described}
use Rattle.chess_text.specs.declared.reading.Reading.{Reading}
use Rattle.chess_text.specs.declared.reading.Reading.TheVariants as reads
use Rattle.chess_text.specs.Parts.{unmarked, kind_text, file_text, rank_text, ◌·◌}

-- ---- described moves

-- move m of position p, legal or not, as texts can describe it: its piece's kind (`man`), both squares, promotion and
-- side of castling (`None` without), and whether it captures, also en passant. `None` if its start square is empty
unfoldable pub described : Setup → Move → Option Described
described p m =
    option_map (λ x. record {
      man = x.kind;
      from = m.from;
      to = m.to;
      promotion = m.promotion;
      captures = is_some (captured_square p m);
      castles = castling p m;
    }) (man_at p.men m.from)

-- ---- texts

-- what may be written of the start square `from` after a piece's letter: nothing, the file, the rank, or both, as in
-- Nf3, Ngf3, N1f3 and Ng1f3
abbrev pub start_texts : ℕ → List (List ℕ)
start_texts from = [] ∷ file_text (file from) ∷ rank_text (rank from) ∷ square_text from ∷ []

-- what may be written before the end square: nothing, for a capture also `x`
abbrev pub capture_texts : Bool → List (List ℕ)
capture_texts captures = [] ∷ list_if captures (codes "x" ∷ [])

-- the texts of a promotion to k: each of `signs` (such as `=`), then k's letter, capital or small: =Q, =q; without a
-- promotion (`None`) only the empty text
abbrev pub promotion_texts : List (List ℕ) → Option Kind → List (List ℕ)
promotion_texts signs None = [] ∷ []
promotion_texts signs (Some k) = signs · (kind_text k ∷ small_letter_text k ∷ [])

-- the texts of move d by its two squares: g1f3, e7e8q, e7e8Q, castling e1g1, and in Chess960, to the rook, e1h1
abbrev pub texts_by_squares : Described → List (List ℕ)
texts_by_squares d = (square_text d.from ∷ []) · (square_text d.to ∷ []) · promotion_texts ([] ∷ []) d.promotion

-- the texts of move d by its piece's letter: Nf3, Ng1f3, Nxf3; none for a pawn's move or castling
abbrev pub texts_by_letter : Described → List (List ℕ)
texts_by_letter d = if same_kind d.man Pawn || is_some d.castles then []
    else (kind_text d.man ∷ []) · start_texts d.from · capture_texts d.captures · (square_text d.to ∷ [])

-- what may be written before the end square of a pawn's move d: its start file or start square, each for a capture also
-- with `x`; if it stays on its file, also nothing. So e2e4 may be e4, ee4 or e2e4, and the capture e4d5 may be ed5,
-- exd5, e4d5 or e4xd5
abbrev pub pawn_starts : Described → List (List ℕ)
pawn_starts d = list_if (file d.from == file d.to) ([] ∷ [])
    ++ (file_text (file d.from) ∷ square_text d.from ∷ []) · capture_texts d.captures

-- the texts of move d as a pawn's, such as e4 and exd5, with a promotion e8Q, e8=q and e7e8=Q; none if another piece
-- makes it
abbrev pub texts_of_pawn : Described → List (List ℕ)
texts_of_pawn d = list_if (same_kind Pawn d.man)
    (pawn_starts d · (square_text d.to ∷ []) · promotion_texts ([] ∷ codes "=" ∷ []) d.promotion)

-- the texts of castling, with the letter O or the digit 0: O-O, 0-0 to the king's side, O-O-O, 0-0-0 to the queen's
abbrev pub castling_texts : CastlingSide → List (List ℕ)
castling_texts = by_side (codes "O-O" ∷ codes "0-0" ∷ []) (codes "O-O-O" ∷ codes "0-0-0" ∷ [])

-- the text, without its marks, denotes move d: as castling, by its two squares, by its piece's letter, or as a pawn's
unfoldable pub denotes_described : List ℕ → Described → Bool
denotes_described text d = list_any (bytes_eq (unmarked text))
    (option_map_or castling_texts d.castles [] ++ (texts_by_squares d ++ (texts_by_letter d ++ texts_of_pawn d)))

-- all descriptions of moves, possible or not: each kind of piece, start, end, promotion or none, capture or not,
-- castling side or none
unfoldable pub all_described : List Described
all_described = flat_map (λ man. flat_map (λ m. flat_map (λ takes. map (λ castles.
    record { man = man; from = m.from; to = m.to; promotion = m.promotion; captures = takes; castles = castles })
    (None ∷ Some KingSide ∷ Some QueenSide ∷ [])) (false ∷ true ∷ [])) all_moves) kinds

-- the text has a move's shape, such as Nf3, not Nf9: it denotes one of `all_described`
unfoldable pub shape : List ℕ → Bool
shape text = list_any (λ d. denotes_described text d) all_described

-- the text denotes move m, legal or not, in position p: Nf3, Ng1f3, g1f3 and Nf3+ all denote g1f3 in the initial
-- position. No text denotes a move from an empty square
unfoldable pub denotes : Setup → List ℕ → Move → Bool
denotes p text m = option_map_or (denotes_described text) (described p m) false

-- ---- reading

-- the reading of a text that denotes just these legal moves: `Move` for one, `Ambiguous` for several, `NoSuch` for none
abbrev pub one_of : List Move → Reading
one_of [] = reads.NoSuch
one_of (m ∷ []) = reads.Move m
one_of (m ∷ n ∷ ms) = reads.Ambiguous

-- what the text is read as in position p: `NotAMove` without a move's shape; otherwise `one_of` the legal moves that it
-- denotes
unfoldable pub reading : Setup → List ℕ → Reading
reading p text = if shape text then one_of (filter (λ m. denotes p text m) (moves p)) else reads.NotAMove

-- a text with this reading has a move's shape: any reading but `NotAMove`
abbrev pub has_shape : Reading → Bool
has_shape reads.NotAMove = false
has_shape _ = true

-- if the reading is a move, it is legal in position p
abbrev pub IsLegalReading : Setup → Reading → Type 0
IsLegalReading p (reads.Move m) = IsTrue (is_legal p m)
IsLegalReading p reads.Ambiguous = Unit {0}
IsLegalReading p reads.NoSuch = Unit {0}
IsLegalReading p reads.NotAMove = Unit {0}
