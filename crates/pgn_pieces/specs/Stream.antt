-- The pieces of an input, returned one after another.
use Rattle.std.specs.Prelude.{◌≡◌, ℕ, ◌+◌, Bool, true, false, nat_le, if◌then◌else◌, List, [], ◌∷◌, ◌++◌, length, map, take, Option, Some, None, Result, Ok, Err}
use Rattle.byte_devices.specs.Devices.{InputState}
use Rattle.pgn_pieces.specs.declared.pieces.PieceFault.{PieceFault}
use Rattle.pgn_pieces.specs.declared.pieces.TheConstants.{PIECE_LEN}
use Rattle.pgn_pieces.specs.Pieces.{known_pieces, HasRead, IsCause}
use Rattle.pgn_pieces.specs.Places.{line_ends}

-- how far an input is cut into pieces
pub record State : Type 0 where
  -- where the current piece begins in the input
  pub offset : ℕ
  -- its bytes so far; if it is too long, only some bytes with the same length, first 40 bytes and number of line ends
  pub part : List ℕ
  -- the bytes read after these
  pub coming : List ℕ
  pub ended : Bool

-- the state before the first read
abbrev pub unread : State
unread = record { offset = 0; part = []; coming = []; ended = false }

-- the state after the current piece of `s`: the next one has no bytes so far
abbrev pub past_piece : State → State
past_piece s = record { offset = s.offset + length s.part; part = []; coming = s.coming; ended = s.ended }

-- a piece: the offset of its first byte in the input, and its bytes
pub record Piece : Type 0 where
  pub offset : ℕ
  pub bytes : List ℕ

-- the pieces with these bytes, one after another in the input from this offset on
abbrev pub with_offsets : ℕ → List (List ℕ) → List Piece
with_offsets offset [] = []
with_offsets offset (bytes ∷ rest) =
    record { offset = offset; bytes = bytes } ∷ with_offsets (offset + length bytes) rest

-- the known pieces of a text at this offset of the input. `ended`: the input ends with the text; if not, the last piece
-- may continue and is left out
unfoldable pub pieces : Bool → ℕ → List ℕ → List Piece
pieces ended offset text = with_offsets offset (known_pieces ended text)

-- what a caller sees of a piece: its first offset in the input and the one after its last, its first 40 bytes, how many
-- lines end in it, and its bytes
pub record PieceSeen : Type 0 where
  pub offset : ℕ
  pub end : ℕ
  pub beginning : List ℕ
  pub line_ends : ℕ
  -- `None` if it has more than 16,777,216
  pub bytes : Option (List ℕ)

-- what a caller sees of the piece with these bytes at this offset of the input
abbrev pub piece_at : ℕ → List ℕ → PieceSeen
piece_at offset bytes = record {
  offset = offset;
  end = offset + length bytes;
  beginning = take 40 bytes;
  line_ends = line_ends bytes;
  bytes = if nat_le (length bytes) PIECE_LEN then Some bytes else None;
}

-- what a caller sees of the `pieces` of a text at this offset of the input
abbrev pub pieces_seen : Bool → ℕ → List ℕ → List PieceSeen
pieces_seen ended offset text = map (λ (piece : Piece). piece_at piece.offset piece.bytes) (pieces ended offset text)

-- what a caller sees of the current piece of `s`, with its bytes so far
abbrev pub current : State → PieceSeen
current s = piece_at s.offset s.part

-- the pieces still to come: the first begins at this offset of the input, `part` of it was read, and `text` follows.
-- `ended`: the input ends with `text`; if not, the last piece is left out
abbrev pub pieces_after_part : Bool → ℕ → List ℕ → List ℕ → List PieceSeen
pieces_after_part ended offset part text = pieces_seen ended offset (part ++ text)

-- the pieces still to come in the state `s`, the current one first, if `rest` follows what was read. `ended`: the input
-- ends after it
abbrev pub pieces_held : Bool → State → List ℕ → List PieceSeen
pieces_held ended s rest = pieces_after_part ended s.offset s.part (s.coming ++ rest)

-- the input may still give `rest`, and end after it if `ended`. If it has ended already (the first argument), it gives
-- no bytes and stays at its end
abbrev pub MayFollow : Bool → Bool → List ℕ → Type 0
MayFollow false ended rest = Unit {0}
MayFollow true ended rest = (ended ≡ true) × (rest ≡ [])

-- `s` is the state once just this text was read, between the input's states `r` and `r'`, and accounts for all its
-- bytes
pub record IsStateOf (s : State) (r r' : InputState) (text : List ℕ) : Type 0 where
  pub read : HasRead s.ended r r' text
  pub all : s.offset + (length s.part + length s.coming) ≡ length text

-- a call for the next piece, after this text was read, takes the state `s` to `s'`; it may read `more`. `r`: the
-- input's state before the text was read; `r'`: that after the call. `Ok true`: `s'` has the next piece, and the pieces
-- still to come before the call are this one and then those still to come, however the input continues. `Ok false`: the
-- input has ended, and no piece is left. A fault: what was read has the end of no further piece
abbrev pub Next : State → State → InputState → InputState → List ℕ → Result Bool PieceFault → Type 0
Next s s' r r' text (Ok true) = (more : List ℕ) × IsStateOf s' r r' (text ++ more)
    × (s.ended ≡ true → (s'.ended ≡ true) × (more ≡ []))
    × ((ended : Bool) (rest : List ℕ) → MayFollow s'.ended ended rest
    → pieces_held ended (past_piece s) (more ++ rest) ≡ current s' ∷ pieces_held ended (past_piece s') rest)
Next s s' r r' text (Ok false) = (more : List ℕ) × HasRead true r r' (text ++ more) × (s.ended ≡ true → more ≡ [])
    × (pieces_held true (past_piece s) more ≡ [])
Next s s' r r' text (Err e) = (more : List ℕ) × IsCause r r' (text ++ more) e × (s.ended ≡ false)
    × (pieces_held false (past_piece s) more ≡ [])
