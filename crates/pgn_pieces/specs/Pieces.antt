-- A collection of games is cut into pieces: each is read as a text of its own.
use Rattle.std.specs.Prelude.{◌≡◌, ◌≤◌, ◌^◌, ℕ, zero, suc, ◌+◌, ◌-◌, Bool, true, false, ◌&&◌, ◌||◌, not, ◌==◌, nat_lt, if◌then◌else◌, List, [], ◌∷◌, ◌++◌, length, map, reverse, take, drop, codes, Option, Some, None}
use Rattle.std.specs.Io.KnownBytes.{Consumes, IsAtEnd}
use Rattle.std.specs.List.{onto_first, take_while, prefix_len, list_any, list_all, concat, fold}
use Rattle.std.specs.Option.{option_map, option_map_or}
use Rattle.std.specs.Str.{bytes_eq}
use Rattle.byte_devices.specs.Bytes.{byte, is_blank, is_digit, is_name_byte, after_byte, after_byte_order_mark}
use Rattle.byte_devices.specs.Devices.{InputState, saturating_increment}
use Rattle.pgn_pieces.specs.Places.{breaks_line}
use Rattle.pgn_pieces.specs.declared.pieces.PieceFault.{PieceFault}
use Rattle.pgn_pieces.specs.declared.pieces.PieceFault.TheVariants.{ReadFailed, NoMemory, InputTooLong}

-- ---- the lines of a text

-- a text's lines, each with the `\n` or `\r` that ends it, if any. The `\n` of `\r\n` is a line of its own:
-- `a\r\nb` has the lines `a\r`, `\n` and `b`
abbrev pub lines_of : List ℕ → List (List ℕ)
lines_of [] = []
lines_of (c ∷ cs) = if breaks_line c then (c ∷ []) ∷ lines_of cs else onto_first c (lines_of cs)

-- a text from its first byte on that fails the test; empty without one
abbrev pub drop_while : (ℕ → Bool) → List ℕ → List ℕ
drop_while test text = drop (prefix_len test text) text

-- a line's front, which (but for a `%`) decides its kind: its first 256 bytes, without a byte order mark and then
-- without spaces and tabs at their beginning
abbrev pub front_of : List ℕ → List ℕ
front_of line = let first = take 256 line in drop_while is_blank (drop (after_byte_order_mark first 0) first)

-- the letters, digits and `_` right after a text's first byte, maybe none: `Event` in `[Event "x"]`
abbrev pub tag_name : List ℕ → List ℕ
tag_name front = take_while is_name_byte (drop 1 front)

-- a text after its first byte, `tag_name`, and any spaces and tabs: `"x"]` in `[Event "x"]`
abbrev pub after_name : List ℕ → List ℕ
after_name front = drop_while is_blank (drop (length (tag_name front)) (drop 1 front))

-- whether a text begins as a tag does: `[`, a name, any spaces and tabs, and `"`
abbrev pub begins_tag : List ℕ → Bool
begins_tag front = bytes_eq (take 1 front) (codes "[") && nat_lt 0 (length (tag_name front))
    && bytes_eq (take 1 (after_name front)) (codes "\"")

-- whether a line is a tag line, such as `[Event "a"]`: its front begins as a tag does
abbrev pub is_tag_line : List ℕ → Bool
is_tag_line line = begins_tag (front_of line)

-- whether a line is a tag line whose first tag is Event
abbrev pub is_event_line : List ℕ → Bool
is_event_line line = is_tag_line line && bytes_eq (tag_name (front_of line)) (codes "Event")

-- whether a line counts as empty: it begins with `%`, or its front begins with `;` or has nothing but white space
abbrev pub is_empty_line : List ℕ → Bool
is_empty_line line = bytes_eq (take 1 line) (codes "%") || bytes_eq (take 1 (front_of line)) (codes ";")
    || list_all (λ c. is_blank c || (c == 13) || (c == 10)) (front_of line)

-- a text from its first quote on that no backslash escapes: `"]` of `a\"b"]`; empty without one. `kept`: whether
-- a backslash before the text escapes its first byte
abbrev pub from_quote : Bool → List ℕ → List ℕ
from_quote kept [] = []
from_quote kept (c ∷ rest) = if not kept && c == byte "\"" then c ∷ rest else from_quote (not kept && c == byte "\\") rest

-- a text after the string of the tag at its front, and any spaces and tabs: `] e4` in `[a "b" ] e4`; empty if the
-- string isn't closed
abbrev pub after_string : List ℕ → List ℕ
after_string text = drop_while is_blank (drop 1 (from_quote false (drop 1 (after_name text))))

-- a text after the tag, comment (`{x}`), glyph (`$1`), dot or mark (`!` or `?`) at its front, and any spaces and tabs:
-- `e4` in `[a "b"] e4`. `None` if it begins with none of these, the tag has no `]` after its string, or the comment
-- no `}`
abbrev pub after_part : List ℕ → Option (List ℕ)
after_part text = option_map (drop_while is_blank) (if begins_tag text then after_byte (byte "]") (after_string text)
    else (if bytes_eq (take 1 text) (codes "{") then after_byte (byte "}") (drop_while (λ c. not (c == byte "}")) text)
    else (if bytes_eq (take 1 text) (codes "$") then Some (drop_while is_digit (drop 1 text))
    else (if list_any (λ c. list_any (λ k. c == k) (codes ".!?")) (take 1 text) then Some (drop 1 text) else None))))

-- a text after the tags, comments and so on at its front (the parts that `after_part` skips), at most this many
unfoldable pub after_parts : ℕ → List ℕ → List ℕ
after_parts zero text = text
after_parts (suc more) text = option_map_or (after_parts more) (after_part text) text

-- whether a text begins with `[`, and ends before a tag there is closed: in the name (perhaps empty, as in `[ `), in
-- the string, or in the spaces and tabs after either
abbrev pub ends_in_tag : List ℕ → Bool
ends_in_tag text = bytes_eq (take 1 text) (codes "[")
    && ((length (after_name text) == 0) || begins_tag text && (length (after_string text) == 0))

-- whether a tag line has more than parts and a comment: `rest`, its front after all parts (`after_parts`), begins with
-- a byte that neither ends the line nor begins a comment. `ended`: whether the line's end is in its front; if not, a
-- tag in which the front ends doesn't count
abbrev pub has_more : Bool → List ℕ → Bool
has_more ended rest = list_any (λ c. not (list_any (λ k. c == k) (codes "\r\n{;"))) (take 1 rest)
    && (ended || not (ends_in_tag rest))

-- whether a line counts as one of moves. One that is no tag line does unless it is empty, as `1. e4`, words in a `{`
-- comment, or `[ Event "x" ]`. A tag line does if more than parts is on it (`has_more`): moves, as in
-- `[White "a"] {x} 1. e4`, or a tag that isn't closed, as in `[White "a`. A front has no more than 256 parts
abbrev pub is_moves_line : List ℕ → Bool
is_moves_line line = let front = front_of line in
    if is_tag_line line then has_more (list_any breaks_line front) (after_parts 256 front) else not (is_empty_line line)

-- ---- the pieces of a text

-- whether a line begins a new piece after one with the lines `piece`: a tag line does if `piece` has a line of moves,
-- an Event line also if `piece` has an Event line
abbrev pub begins_piece : List (List ℕ) → List ℕ → Bool
begins_piece piece line = is_tag_line line
    && (list_any is_moves_line piece || (is_event_line line && list_any is_event_line piece))

-- these pieces (lists of lines, the last piece first) and one line more, which begins a piece or is added to the last
abbrev pub with_line : List (List (List ℕ)) → List ℕ → List (List (List ℕ))
with_line [] line = (line ∷ []) ∷ []
with_line (last ∷ before) line =
    if begins_piece last line then (line ∷ []) ∷ last ∷ before else (last ++ line ∷ []) ∷ before

-- the pieces that a text is cut into, in order, each as its bytes
abbrev pub cut : List ℕ → List (List ℕ)
cut text = reverse (map concat (fold with_line [] (lines_of text)))

-- the pieces that are known of an input that gave this text: all if it has `ended`; otherwise all but the last, which
-- may continue
abbrev pub known_pieces : Bool → List ℕ → List (List ℕ)
known_pieces ended text = let all = cut text in if ended then all else take (length all - 1) all

-- ---- what was read of an input

-- from the input's state `r` to `r'` just this text was read, and no failed read and no silence was counted. `ended`:
-- the input's end was reached, and reported by one read
pub record HasRead (ended : Bool) (r r' : InputState) (text : List ℕ) : Type 0 where
  pub bytes : Consumes r.known_bytes r'.known_bytes text
  pub failures : r'.failure_count ≡ r.failure_count
  pub ends : r'.end_count ≡ (if ended then saturating_increment r.end_count else r.end_count)
  pub silences : r'.silence_count ≡ r.silence_count
  pub at_end : ended ≡ true → IsAtEnd r'.known_bytes

-- from the input's state `r` to `r'` this text was read, then one read failed; no end and no silence was counted
pub record GaveThenFailed (r r' : InputState) (text : List ℕ) : Type 0 where
  pub bytes : Consumes r.known_bytes r'.known_bytes text
  pub failures : r'.failure_count ≡ saturating_increment r.failure_count
  pub ends : r'.end_count ≡ r.end_count
  pub silences : r'.silence_count ≡ r.silence_count

-- from the input's state `r` to `r'`, this fault may be why nothing was read after this text; no end was reported
abbrev pub IsCause : InputState → InputState → List ℕ → PieceFault → Type 0
IsCause r r' text ReadFailed = GaveThenFailed r r' text
-- memory ran out, which the input doesn't show
IsCause r r' text NoMemory = HasRead false r r' text
IsCause r r' text InputTooLong = HasRead false r r' text × (2 ^ 63 ≤ length text + 2 ^ 16)
