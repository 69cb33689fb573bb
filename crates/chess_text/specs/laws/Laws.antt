-- The laws of moves' texts that code calls, each as one statement; and the words in which laws, also those of
-- chess_text_laws, state what texts and their parts are.
use Rattle.std.specs.Prelude.{◌≡◌, ℕ, ◌≤◌, ◌==◌, Bool, false, ◌||◌, ◌⊎◌, List, [], ◌∷◌, length, Some, IsTrue, ◌<◌, IfSome}
use Rattle.byte_devices.specs.Bytes.{is_digit, is_letter, byte}
use Rattle.std.specs.List.{list_all}
use Rattle.chess_base.specs.declared.man.CastlingSide.{CastlingSide}
use Rattle.chess_base.specs.declared.man.Move.{Move}
use Rattle.chess_base.specs.declared.setup.Setup.{Setup}
use Rattle.chess_base.specs.Moves.{is_legal}
use Rattle.chess_base.specs.Sound.{IsSound}
use Rattle.chess_text.specs.declared.described.Described.{Described}
use Rattle.chess_text.specs.declared.parts.Parts.{Parts}
use Rattle.chess_text.specs.declared.reading.Reading.TheVariants as reads
use Rattle.chess_text.specs.Parts.{unmarked}
use Rattle.chess_text.specs.shared.Fitting.{parts_text, parts_fit}
use Rattle.chess_text.specs.Moves.{denotes, reading}
use Rattle.chess_text.specs.laws.CastlingTexts.{is_castling_text}
use Rattle.chess_text.specs.San.{san}
use Rattle.chess_base.specs.declared.man.Kind.{Kind}
use Rattle.chess_base.specs.declared.man.Kind.TheVariants.{King, Pawn}

-- a move's text names pieces of this kind by a letter: all kinds but the pawn
abbrev pub HasLetter : Kind → Type 0
HasLetter Pawn = ⊥
HasLetter k = Unit {0}

-- a pawn may become a piece of this kind: queen, rook, bishop or knight
abbrev pub CanPromote : Kind → Type 0
CanPromote Pawn = ⊥
CanPromote King = ⊥
CanPromote k = Unit {0}

-- these can be the parts of a text: files and ranks below 8, an end square below 64, no letter for a pawn, a promotion
-- to what a pawn may become
pub record AreParts (q : Parts) : Type 0 where
  pub letter_is : IfSome q.letter HasLetter
  pub file_is : IfSome q.file (λ f. f < 8)
  pub rank_is : IfSome q.rank (λ r. r < 8)
  pub to_is : q.end.to < 64
  pub promotion_is : IfSome q.end.promotion (λ p. CanPromote p.kind)

-- the text denotes move m in position p, and no other legal move
abbrev pub DenotesAlone : Setup → List ℕ → Move → Type 0
DenotesAlone p text m = IsTrue (denotes p text m)
    × ((n : Move) → IsTrue (is_legal p n) → IsTrue (denotes p text n) → n ≡ m)

-- the bytes that SAN may have: letters, digits, + # = and -
abbrev pub is_san_byte : ℕ → Bool
is_san_byte c = is_letter c || is_digit c || (c == byte "+") || (c == byte "#") || (c == byte "=") || (c == byte "-")

-- the first byte of the text is a letter
abbrev pub begins_with_letter : List ℕ → Bool
begins_with_letter [] = false
begins_with_letter (c ∷ cs) = is_letter c

-- the SAN of a legal move of a sound position has two to seven bytes
abbrev pub SanIsShort : Type 0
SanIsShort = (p : Setup) → (m : Move) → IsSound p → IsTrue (is_legal p m)
    → (2 ≤ length (san p m)) × (length (san p m) ≤ 7)

-- the SAN of a legal move of a sound position has only letters, digits, + # = and -
abbrev pub SanHasBytes : Type 0
SanHasBytes = (p : Setup) → (m : Move) → IsSound p → IsTrue (is_legal p m)
    → IsTrue (list_all (λ c. is_san_byte c) (san p m))

-- the SAN of a legal move of a sound position begins with a letter, as no move number and no result in PGN does
abbrev pub SanBeginsWithLetter : Type 0
SanBeginsWithLetter = (p : Setup) → (m : Move) → IsSound p → IsTrue (is_legal p m)
    → IsTrue (begins_with_letter (san p m))

-- if a text is read in a position as a move, this move is legal there
abbrev pub ReadMovesAreLegal : Type 0
ReadMovesAreLegal = (p : Setup) → (text : List ℕ) → (m : Move) → reading p text ≡ reads.Move m → IsTrue (is_legal p m)

-- the text denotes the described move d: d is castling, and the text names it; or, but for its marks, the text is that
-- of parts (letter, file, rank, `x`, end) that fit d. Unlike `denotes_described`, this needs no lists of texts
abbrev pub IsDenoted : List ℕ → Described → Type 0
IsDenoted text d =
    ((w : CastlingSide) × (d.castles ≡ Some w) × IsTrue (is_castling_text text w))
    ⊎ ((q : Parts) × IfSome q.letter HasLetter × (unmarked text ≡ parts_text q) × IsTrue (parts_fit q d))
