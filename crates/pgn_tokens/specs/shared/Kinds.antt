-- The tokens of a text by their kinds: the split of specs/Split, where a token is the longest of its kind.
use Rattle.std.specs.Prelude.{◌≡◌, ℕ, ◌+◌, ◌-◌, ◌<◌, ◌⊎◌, Bool, true, false, ◌||◌, List, [], ◌∷◌, ◌++◌, length, drop, codes, ◌==◌}
use Rattle.std.specs.List.{list_all, list_any}
use Rattle.byte_devices.specs.Bytes.{is_digit, byte, new_line}
use Rattle.pgn_tokens.specs.Split.{lacks, skips_line, IsInside, IsGap, OpensTag, IsString, HasOpenComment}
use Rattle.pgn_tokens.specs.Tokens.{Token, Skip, Tag, Word, Bad_tag, Unclosed_comment, Unclosed_variation, Bad, is_white_space, is_word_byte, begins_line}

-- the closing of a tag: a quote, a gap, `]`
abbrev pub ClosesTag : List ℕ → Type 0
ClosesTag text = (gap : List ℕ) × IsGap false gap × (text ≡ byte "\"" ∷ (gap ++ codes "]"))

-- the text is a tag with this name, this string and this closing
abbrev pub IsTag : List ℕ → List ℕ → List ℕ → List ℕ → Type 0
IsTag name string closing text =
    (opening : List ℕ) × OpensTag name opening × IsString string × ClosesTag closing
    × (text ≡ opening ++ (string ++ closing))

-- ---- tokens

-- the kinds of tokens: `Blank` is white space or a dot, `Line` a skipped line, `Nag` a numeric annotation glyph,
-- `Symbol` a word
pub data Kind : Type 0 where
  Blank : Kind
  Line : Kind
  Comment : Kind
  Nag : Kind
  Variation : Kind
  Tag_pair : (name string closing : List ℕ) → Kind
  Asterisk : Kind
  Symbol : Kind

-- the text is a token of this kind; `b`: whether its first byte begins a line
abbrev pub IsOf : Bool → Kind → List ℕ → Type 0
IsOf b Blank text = (c : ℕ) × (text ≡ c ∷ []) × ((is_white_space c || c == byte ".") ≡ true)
IsOf b Line text = (c : ℕ) × (rest : List ℕ) × (text ≡ c ∷ rest) × (skips_line b c ≡ true)
    × (lacks new_line rest ≡ true)
IsOf b Comment text = (inside : List ℕ) × (text ≡ byte "{" ∷ inside ++ byte "}" ∷ []) × (lacks (byte "}") inside ≡ true)
IsOf b Nag text = (digits : List ℕ) × (text ≡ byte "$" ∷ digits) × (list_all is_digit digits ≡ true)
IsOf b Variation text = (inside : List ℕ) × (text ≡ byte "(" ∷ inside ++ byte ")" ∷ []) × IsInside false inside
IsOf b (Tag_pair name string closing) text = IsTag name string closing text
IsOf b Asterisk text = text ≡ codes "*"
IsOf b Symbol text = (0 < length text) × (list_all is_word_byte text ≡ true)

-- of `front ++ rest`, `front` is the longest beginning of which P holds
pub record IsLongest (P : List ℕ → Type 0) (front rest : List ℕ) : Type 0 where
  pub is : P front
  -- P holds of no longer beginning
  pub longest : (more others : List ℕ) → rest ≡ more ++ others → P (front ++ more) → more ≡ []

-- the token that reading makes of a text of this kind, after which `to_end` bytes come. The number in a tag's token
-- counts the bytes left at the tag's string
abbrev pub token_of : Kind → List ℕ → ℕ → Token
token_of (Tag_pair name string closing) text to_end = Tag name string (length (string ++ closing) + to_end)
token_of Asterisk text to_end = Word text
token_of Symbol text to_end = Word text
token_of Blank text to_end = Skip
token_of Line text to_end = Skip
token_of Comment text to_end = Skip
token_of Nag text to_end = Skip
token_of Variation text to_end = Skip

-- ---- what can't be read

-- no beginning of the text is a token; `b`: whether its first byte begins a line
abbrev pub HasNoToken : Bool → List ℕ → Type 0
HasNoToken b text = (kind : Kind) (front rest : List ℕ) → text ≡ front ++ rest → IsOf b kind front → ⊥

-- the text begins with a comment that isn't closed, or with a variation in which one isn't; `to_end` bytes are left at
-- that comment's `{`
abbrev pub HasUnclosedComment : List ℕ → ℕ → Type 0
HasUnclosedComment text to_end =
    ((comment : List ℕ) × (text ≡ byte "{" ∷ comment) × (lacks (byte "}") comment ≡ true) × (to_end ≡ length text))
    ⊎ ((inner : List ℕ) × (text ≡ byte "(" ∷ inner) × HasOpenComment inner to_end)

-- this token is the fault of a text that begins with no token (`HasNoToken`, which is not claimed here), by the text's
-- first byte. After `(` it is an unclosed comment inside if there is one, otherwise the unclosed variation
abbrev pub IsFault : List ℕ → Token → Type 0
IsFault text (Unclosed_comment to_end) = HasUnclosedComment text to_end
IsFault text Unclosed_variation =
    ((rest : List ℕ) × (text ≡ byte "(" ∷ rest)) × ((to_end : ℕ) → HasUnclosedComment text to_end → ⊥)
IsFault text Bad_tag = (rest : List ℕ) × (text ≡ byte "[" ∷ rest)
IsFault text Bad = (c : ℕ) × (rest : List ℕ) × (text ≡ c ∷ rest) × (list_any (λ k. c == k) (codes "{([") ≡ false)
IsFault text Skip = ⊥
IsFault text (Tag name string to_end) = ⊥
IsFault text (Word word) = ⊥

-- ---- the split

-- the text from the offset `at` on is split into these tokens, each paired with the number of bytes left where it
-- begins
pub data IsSplitByKinds (text : List ℕ) : ℕ → List (ℕ × Token) → Type 0 where
  ended : {at : ℕ} → drop at text ≡ [] → IsSplitByKinds text at []
  -- `front`, the longest token of some kind, and then the tokens of the rest
  token : {at : ℕ} (kind : Kind) (front rest : List ℕ) {tokens : List (ℕ × Token)} → drop at text ≡ front ++ rest
      → IsLongest (IsOf (begins_line text at) kind) front rest → IsSplitByKinds text (at + length front) tokens
      → IsSplitByKinds text at ((length text - at, token_of kind front (length rest)) ∷ tokens)
  stopped : {at : ℕ} {fault : Token} → HasNoToken (begins_line text at) (drop at text) → IsFault (drop at text) fault
      → IsSplitByKinds text at ((length text - at, fault) ∷ [])
