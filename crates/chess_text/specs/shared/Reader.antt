-- The parts of a text as they are read from the front. Which part comes next shows by its first byte, except for a file
-- letter: it begins the end square if the text can be read so (e4), and otherwise is the start file (exd5).
use Rattle.std.specs.Prelude.{ℕ, ◌+◌, ◌-◌, ◌*◌, ◌==◌, Bool, true, false, ◌&&◌, ◌||◌, if◌then◌else◌, List, [], ◌∷◌, find, Option, Some, None}
use Rattle.std.specs.Option.{option_map}
use Rattle.chess_base.specs.declared.man.Kind.{Kind}
use Rattle.chess_base.specs.Letters.{white_letter, is_file_letter, is_rank_digit}
use Rattle.byte_devices.specs.Bytes.{byte}
use Rattle.chess_text.specs.declared.parts.Parts.{Parts}
use Rattle.chess_text.specs.declared.parts.End.{End}
use Rattle.chess_text.specs.declared.parts.Promotion.{Promotion}
use Rattle.chess_base.specs.declared.man.Kind.TheVariants.{King, Queen, Rook, Bishop, Knight, Pawn}
use Rattle.chess_base.specs.declared.man.Colour.TheVariants.{Black}
use Rattle.chess_base.specs.declared.man.Man.{Man}
use Rattle.chess_base.specs.Men.{same_colour, same_kind}

-- the kinds of piece that a move's text names by a letter: all but the pawn
abbrev pub lettered_kinds : List Kind
lettered_kinds = King ∷ Queen ∷ Rook ∷ Bishop ∷ Knight ∷ []

-- the pieces that a pawn may become (3.7)
abbrev pub promoted : List Kind
promoted = Queen ∷ Rook ∷ Bishop ∷ Knight ∷ []

-- the one of `kinds` with the capital letter c, if there is one
abbrev pub kind_from : List Kind → ℕ → Option Kind
kind_from kinds c = find (λ k. white_letter k == c) kinds

-- the first value if it is there, otherwise the second
abbrev pub or_else : {A : Type 0} → Option A → Option A → Option A
or_else (Some x) o = Some x
or_else None o = o

-- the promotion to the piece with the letter c, capital or small; none if a pawn can't become it. `equals`: `=` was
-- before the letter
abbrev pub promotion_by : Bool → ℕ → Option Promotion
promotion_by equals c =
    or_else (option_map (λ k. record { kind = k; equals = equals; small = false }) (kind_from promoted c))
    (option_map (λ k. record { kind = k; equals = equals; small = true }) (kind_from promoted (c - 32)))

-- the promotion by the letter that this piece has in FEN, where Black's letters are small; none for a king or a pawn
abbrev pub promotion_to : Bool → Man → Option Promotion
promotion_to equals m =
    if same_kind m.kind King || same_kind m.kind Pawn then None
    else Some (record { kind = m.kind; equals = equals; small = same_colour m.colour Black })

-- the promotion that the text after the end square denotes (Q, q, =Q or =q): `Some None` if that text is empty, `None`
-- if it is anything else
abbrev pub promotion_at : List ℕ → Option (Option Promotion)
promotion_at [] = Some None
promotion_at (c ∷ []) = option_map Some (promotion_by false c)
promotion_at (c ∷ d ∷ []) = if c == byte "=" then option_map Some (promotion_by true d) else None
promotion_at (c ∷ d ∷ e ∷ cs) = None

-- the end square and the promotion that make up a text, as e4 or e8=Q; otherwise none
abbrev pub end_at : List ℕ → Option End
end_at [] = None
end_at (f ∷ []) = None
end_at (f ∷ r ∷ rest) =
    if is_file_letter f && is_rank_digit r
    then option_map (λ p. record { to = 8 * (r - byte "1") + (f - byte "a"); promotion = p }) (promotion_at rest)
    else None

-- of a text of the form [x]end, as xd5 or e8=Q, whether it begins with `x`, and its end; otherwise none
abbrev pub takes_at : List ℕ → Option (Bool × End)
takes_at [] = None
takes_at (c ∷ rest) = if c == byte "x" then option_map (λ e. (true, e)) (end_at rest) else option_map (λ e. (false, e))
    (end_at (c ∷ rest))

-- of a text of the form [rank][x]end, as 1xf3 or f3, the start rank if it is named, whether `x` is there, and the end;
-- otherwise none
abbrev pub rank_at : List ℕ → Option (Option ℕ × Bool × End)
rank_at [] = None
rank_at (c ∷ rest) =
    if is_rank_digit c then option_map (λ (x : Bool × End). (Some (c - byte "1"), x.0, x.1)) (takes_at rest)
    else option_map (λ (x : Bool × End). (None, x.0, x.1)) (takes_at (c ∷ rest))

-- a move's parts, put together: letter, start file, and from x the start rank, whether there is `x`, and the end
abbrev pub with_parts : Option Kind → Option ℕ → Option ℕ × Bool × End → Parts
with_parts letter file x = record { letter = letter; file = file; rank = x.0; takes = x.1; end = x.2 }

-- the parts of the text after the piece's letter, which is given. A file letter at its front is the end square's if the
-- text can be read so (e4), otherwise the start's (exd5)
abbrev pub file_at : Option Kind → List ℕ → Option Parts
file_at letter [] = None
file_at letter (c ∷ rest) =
    or_else (option_map (with_parts letter None) (rank_at (c ∷ rest)))
    (if is_file_letter c then option_map (with_parts letter (Some (c - byte "a"))) (rank_at rest) else None)

-- the parts of the text `c ∷ rest`: c is a piece's letter if a kind is given, otherwise it belongs to the squares
abbrev pub at_letter : Option Kind → ℕ → List ℕ → Option Parts
at_letter None c rest = file_at None (c ∷ rest)
at_letter (Some k) c rest = file_at (Some k) rest

-- the parts of a move's text without marks (letter, start file, start rank, `x`, end square, promotion); none if it
-- isn't made of such parts
abbrev pub parts_at : List ℕ → Option Parts
parts_at [] = None
parts_at (c ∷ rest) = at_letter (kind_from lettered_kinds c) c rest
