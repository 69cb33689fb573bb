-- A text that names castling to a side (`O-O`, `0-0`, `O-O-O`, `0-0-0`) can't be read as parts, and names no other side
-- (castling_from_name): by computation for each of the four texts.
use Rattle.std.proofs.Common.{◌≡◌, ℕ, inl, inr, Bool, true, false, List, [], ◌∷◌, None, refl, codes, bytes_eq}
use Rattle.std.proofs.{lemmas.Bool.or_cases, lemmas.Slice.Eq.bytes_eq-Decides}
use Rattle.std.specs.List.{list_any}
use Rattle.chess_base.specs.{declared.man.CastlingSide.CastlingSide, declared.man.CastlingSide.TheVariants.KingSide, declared.man.CastlingSide.TheVariants.QueenSide}
use Rattle.chess_text.specs.{shared.Reader.parts_at, Moves.castling_texts, ties.Forms.same_side}

-- the text is one of those of castling to side w
abbrev pub names_side : List ℕ → CastlingSide → Bool
names_side text w = list_any (bytes_eq text) (castling_texts w)

-- the text can't be read as parts (letter, squares, promotion), and names castling to side w and to no other
pub record IsCastling (text : List ℕ) (w : CastlingSide) : Type 0 where
  pub no_parts : parts_at text ≡ None
  pub names : (v : CastlingSide) → names_side text v ≡ same_side w v

-- `IsCastling` from the tests for both sides
castling_by : (text : List ℕ) (w : CastlingSide) → parts_at text ≡ None
    → names_side text KingSide ≡ same_side w KingSide → names_side text QueenSide ≡ same_side w QueenSide
    → IsCastling text w
castling_by text w none king queen = record { no_parts = none; names = by_side }
  where
    by_side : (v : CastlingSide) → names_side text v ≡ same_side w v
    by_side KingSide = king
    by_side QueenSide = queen

pub letters_kingside : IsCastling (codes "O-O") KingSide
letters_kingside = castling_by (codes "O-O") KingSide refl refl refl

pub letters_queenside : IsCastling (codes "O-O-O") QueenSide
letters_queenside = castling_by (codes "O-O-O") QueenSide refl refl refl

-- a text that is one of two texts of castling to side w is a text of castling to it
one_of_two : (text a b : List ℕ) (w : CastlingSide) → IsCastling a w → IsCastling b w
    → list_any (bytes_eq text) (a ∷ b ∷ []) ≡ true → IsCastling text w
one_of_two text a b w at_a at_b e =
    elim (or_cases (bytes_eq text a) (list_any (bytes_eq text) (b ∷ [])) e) [
      | inl h ↦ let is : text ≡ a = (bytes_eq-Decides text a).0 h in rw is at_a
      | inr h ↦ elim (or_cases (bytes_eq text b) false h)
          [ inl k ↦ let is : text ≡ b = (bytes_eq-Decides text b).0 k in rw is at_b | inr k ↦ absurd cc ]
    ]

-- a text in the list of side w is a text of castling to that side alone
pub castling_from_name : (text : List ℕ) (w : CastlingSide) → names_side text w ≡ true → IsCastling text w
castling_from_name text KingSide e = one_of_two text (codes "O-O") (codes "0-0") KingSide letters_kingside
    (castling_by (codes "0-0") KingSide refl refl refl) e
castling_from_name text QueenSide e = one_of_two text (codes "O-O-O") (codes "0-0-0") QueenSide letters_queenside
    (castling_by (codes "0-0-0") QueenSide refl refl refl) e
