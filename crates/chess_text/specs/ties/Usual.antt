-- The parts of texts of the usual shapes (e4, Nf3, exd5, Nxd5, Nbd2), as code reads them in one step.
use Rattle.std.specs.Prelude.{ℕ, ◌+◌, ◌-◌, ◌*◌, ◌==◌, Bool, true, false, ◌&&◌, if◌then◌else◌, List, [], ◌∷◌, Option, Some, None}
use Rattle.std.specs.Option.{option_map}
use Rattle.chess_base.specs.Letters.{is_file_letter, is_rank_digit}
use Rattle.byte_devices.specs.Bytes.{byte}
use Rattle.chess_base.specs.declared.man.Kind.{Kind}
use Rattle.chess_base.specs.declared.man.Kind.TheVariants.{Pawn}
use Rattle.chess_text.specs.declared.parts.Parts.{Parts}
use Rattle.chess_text.specs.shared.Reader.{lettered_kinds, kind_from}

-- the bytes f and r name a square: a file's letter and a rank's digit
abbrev pub names_square : ℕ → ℕ → Bool
names_square f r = is_file_letter f && is_rank_digit r

-- the parts with this letter, start file and `x`, and the end square that the bytes f and r name
abbrev pub parts_to : Option Kind → Option ℕ → Bool → ℕ → ℕ → Parts
parts_to letter file takes f r = record {
  letter = letter;
  file = file;
  rank = None;
  takes = takes;
  end = record { to = 8 * (r - byte "1") + (f - byte "a"); promotion = None };
}

-- the parts of a text with the piece's letter c, this start file and `x`, and the end square that f and r name; none if
-- c is no piece's letter
abbrev pub lettered_to : ℕ → Option ℕ → Bool → ℕ → ℕ → Option Parts
lettered_to c file takes f r = option_map (λ k. parts_to (Some k) file takes f r) (kind_from lettered_kinds c)

-- the parts of a text of four bytes, of which the last two name a square, as exd5, Nxd5 or Nbd2; none for any other
abbrev pub four_at : ℕ → ℕ → ℕ → ℕ → Option Parts
four_at c d f r =
    if d == byte "x" then (if is_file_letter c then Some (parts_to None (Some (c - byte "a")) true f r)
    else lettered_to c None true f r)
    else (if is_file_letter d then lettered_to c (Some (d - byte "a")) false f r else None)

-- the parts of a text of a usual shape, without marks: e4, Nf3, exd5, Nxd5 or Nbd2; none for any other
abbrev pub usual_at : List ℕ → Option Parts
usual_at [] = None
usual_at (f ∷ []) = None
usual_at (f ∷ r ∷ []) = if names_square f r then Some (parts_to None None false f r) else None
usual_at (c ∷ f ∷ r ∷ []) = if names_square f r then lettered_to c None false f r else None
usual_at (c ∷ d ∷ f ∷ r ∷ []) = if names_square f r then four_at c d f r else None
usual_at (c ∷ d ∷ e ∷ f ∷ r ∷ rest) = None

-- the kind of piece that a text of a usual shape moves: that of its letter, without one a pawn
abbrev pub usual_kind : Option Kind → Kind
usual_kind None = Pawn
usual_kind (Some k) = k
