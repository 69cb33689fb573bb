-- What the steps of cutting do to the bytes that are held.
use Rattle.std.specs.Prelude.{◌≡◌, ◌≤◌, ◌<◌, ◌^◌, ℕ, ◌+◌, Bool, true, false, ◌||◌, ◌==◌, List, [], ◌∷◌, ◌++◌, length, take, drop, Result, Ok, Err}
use Rattle.std.specs.List.{list_any, concat}
use Rattle.byte_devices.specs.Devices.{InputState, GavePiece, FailedToRead}
use Rattle.pgn_pieces.specs.declared.piece_end.Seen.{Seen}
use Rattle.pgn_pieces.specs.declared.piece_end.Step.{Step}
use Rattle.pgn_pieces.specs.declared.piece_end.Step.TheVariants.{Begins, Waits, Belongs}
use Rattle.pgn_pieces.specs.declared.pieces.PieceFault.{PieceFault}
use Rattle.pgn_pieces.specs.declared.pieces.PieceFault.TheVariants.{ReadFailed, NoMemory, InputTooLong}
use Rattle.pgn_pieces.specs.declared.pieces.TheConstants.{PIECE_LEN}
use Rattle.pgn_pieces.specs.Pieces.{lines_of, is_tag_line, is_event_line, is_moves_line, begins_piece, cut}
use Rattle.pgn_pieces.specs.shared.Cutting.{cut_lines, piece_of}
use Rattle.pgn_pieces.specs.Places.{breaks_line, line_ends}
use Rattle.pgn_pieces.specs.Stream.{State}

-- the state s with the next `n` of the bytes that were read (`coming`) added to the current piece
abbrev pub passed : ℕ → State → State
passed n s =
    record { offset = s.offset; part = s.part ++ take n s.coming; coming = drop n s.coming; ended = s.ended }

-- whether `\n` or `\r` is among these bytes
abbrev pub has_line_end : List ℕ → Bool
has_line_end = list_any breaks_line

-- these bytes are a line's, or the rest of one, with the byte that ends it, and no more
pub record IsWhole (line : List ℕ) : Type 0 where
  pub body : List ℕ
  pub end : ℕ
  pub all : line ≡ body ++ end ∷ []
  pub ends : breaks_line end ≡ true
  pub plain : has_line_end body ≡ false

-- ---- the lines of a piece

-- both lines are of the same kind
pub record SameKind (line line' : List ℕ) : Type 0 where
  pub tag : is_tag_line line ≡ is_tag_line line'
  pub event : is_event_line line ≡ is_event_line line'
  pub moves : is_moves_line line ≡ is_moves_line line'

-- either line is a tag line or an Event line if the other is one
pub record SameTag (line line' : List ℕ) : Type 0 where
  pub tag : is_tag_line line ≡ is_tag_line line'
  pub event : is_event_line line ≡ is_event_line line'

-- the kind of a line that begins with these bytes is known, however it continues
abbrev pub IsDecided : List ℕ → Type 0
IsDecided line = (more : List ℕ) → SameKind (line ++ more) line

-- `line`: the bytes so far of a piece's last line. `true`: it has begun and may continue, and its kind is known;
-- `false`: it has no bytes yet
abbrev pub MayGoOn : Bool → List ℕ → Type 0
MayGoOn false line = line ≡ []
MayGoOn true line = IsDecided line

-- `seen` is what is known of the lines of a piece, `before` and then the beginning of one more, `line`
pub record AreSeen (seen : Seen) (before : List (List ℕ)) (line : List ℕ) : Type 0 where
  pub belongs : begins_piece before line ≡ false
  pub moves : seen.moves ≡ (list_any is_moves_line before || is_moves_line line)
  pub event : seen.event ≡ (list_any is_event_line before || is_event_line line)

-- `seen` is what is known of the lines of a piece that has the bytes `piece` so far: the lines `before`, and then the
-- beginning of one more, `line`
pub record HasSeen (seen : Seen) (piece : List ℕ) : Type 0 where
  pub before : List (List ℕ)
  pub line : List ℕ
  pub all : piece ≡ concat before ++ line
  pub plain : has_line_end line ≡ false
  pub cuts : (rest : List ℕ) → cut (piece ++ rest) ≡ cut_lines before (lines_of (line ++ rest))
  pub are : AreSeen seen before line
  pub inside : MayGoOn seen.inside line

-- the piece ends before this text, however that goes on
pub record Ends (piece text : List ℕ) : Type 0 where
  pub cuts : (rest : List ℕ) → cut (piece ++ (text ++ rest)) ≡ piece ∷ cut (text ++ rest)
  pub some : 0 < length piece
  pub more : 0 < length text

-- what was found of a whole line (`IsWhole`) after what was seen of a piece: the piece ends before it (true), or
-- the line belongs to it
abbrev pub SeesWhole : Seen → Seen → List ℕ → Bool → Type 0
SeesWhole seen seen' line true = (piece more : List ℕ) → HasSeen seen piece → Ends piece (line ++ more)
SeesWhole seen seen' line false = (piece : List ℕ) → HasSeen seen piece → HasSeen seen' (piece ++ line)

-- what was found of the line with which a text begins: it begins the next piece; it isn't known yet whether it does; or
-- the text's first `n` bytes belong to the piece. `seen` and `seen'`: what is known of the piece's lines, before and
-- after
abbrev pub Steps : Seen → Seen → List ℕ → Step → Type 0
Steps seen seen' text Begins = (piece : List ℕ) → HasSeen seen piece → Ends piece text
Steps seen seen' text Waits =
    (seen' ≡ seen) × ((piece : List ℕ) → HasSeen seen piece → cut (piece ++ text) ≡ piece_of (piece ++ text))
Steps seen seen' text (Belongs n) = (0 < n) × (n ≤ length text)
    × ((piece : List ℕ) → HasSeen seen piece → HasSeen seen' (piece ++ take n text))

-- what was found of a text that comes after what was seen of a piece: the piece ends after `n` bytes of it (true); or
-- it goes on after them (false), and has all of the text if nothing follows
abbrev pub Looks : Seen → Seen → List ℕ → Bool → ℕ → Type 0
Looks seen seen' text true n = (n ≤ length text)
    × ((piece : List ℕ) → HasSeen seen piece → Ends (piece ++ take n text) (drop n text))
Looks seen seen' text false n = (n ≤ length text)
    × ((piece : List ℕ) → HasSeen seen piece → HasSeen seen' (piece ++ take n text)
    × (cut (piece ++ text) ≡ piece_of (piece ++ text)))

-- ---- the bytes that are held

-- what looking for the piece's end does to the state, from `s` to `s'`
abbrev pub FindsEnd : State → State → Seen → Seen → Bool → Type 0
FindsEnd s s' seen seen' found = (n : ℕ) × (s' ≡ passed n s) × Looks seen seen' s.coming found n

-- both lists of bytes have as many bytes, the same first 40, and as many line ends
pub record SameCounts (bytes bytes' : List ℕ) : Type 0 where
  pub len : length bytes' ≡ length bytes
  pub beginning : take 40 bytes' ≡ take 40 bytes
  pub line_ends : line_ends bytes' ≡ line_ends bytes

-- `part` is held of a piece with the bytes `piece`: these bytes, or if they are too many, others with the same counts
abbrev pub IsLike : List ℕ → List ℕ → Type 0
IsLike piece part = SameCounts piece part × (length piece ≤ PIECE_LEN → part ≡ piece)

-- a step from `s` to `s'` changed nothing but the bytes of a piece that is too long
pub record LetGo (s s' : State) : Type 0 where
  pub part : IsLike s.part s'.part
  pub offset : s'.offset ≡ s.offset
  pub coming : s'.coming ≡ s.coming
  pub ended : s'.ended ≡ s.ended

-- the state `s` after a read that gave the bytes `more`; if there are none, the input has ended
abbrev pub with_more : List ℕ → State → State
with_more more s =
    record { offset = s.offset; part = s.part; coming = s.coming ++ more; ended = length more == 0 }

-- one read of the input, from its state `r` to `r'`, takes the state `s` to `s'`: after `Ok` the bytes read were added
-- to `s`; after a fault `s'` is `s`
abbrev pub Adds : {A : Type 0} → State → State → InputState → InputState → Result A PieceFault → Type 0
Adds s s' r r' (Ok _) = (more : List ℕ) × GavePiece r r' more × (s' ≡ with_more more s)
Adds s s' r r' (Err ReadFailed) = FailedToRead r r' × (s' ≡ s)
Adds s s' r r' (Err NoMemory) = (r' ≡ r) × (s' ≡ s)
Adds s s' r r' (Err InputTooLong) = (r' ≡ r) × (s' ≡ s)
    × (2 ^ 63 ≤ s.offset + (length s.part + length s.coming) + 2 ^ 16)
