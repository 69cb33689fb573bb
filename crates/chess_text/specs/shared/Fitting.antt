-- The parts of a text, and whether they fit a move: [letter][file][rank][x]square[[=]promotion].
use Rattle.std.specs.Prelude.{ℕ, ◌+◌, ◌==◌, Bool, true, false, not, ◌&&◌, ◌||◌, if◌then◌else◌, List, [], ◌∷◌, ◌++◌, Option, is_some, is_none}
use Rattle.std.specs.Option.{option_eq, option_map, option_map_or}
use Rattle.chess_base.specs.declared.man.CastlingSide.TheVariants.{KingSide, QueenSide}
use Rattle.chess_base.specs.declared.man.Kind.{Kind}
use Rattle.chess_base.specs.declared.man.Kind.TheVariants.{Pawn}
use Rattle.chess_base.specs.shared.Parts.{optional}
use Rattle.chess_base.specs.Letters.{white_letter, square_text}
use Rattle.byte_devices.specs.Bytes.{byte}
use Rattle.chess_base.specs.Men.{same_kind}
use Rattle.chess_base.specs.Squares.{file, rank}
use Rattle.chess_text.specs.declared.described.Described.{Described}
use Rattle.chess_text.specs.declared.parts.End.{End}
use Rattle.chess_text.specs.declared.parts.Parts.{Parts}
use Rattle.chess_text.specs.declared.parts.Promotion.{Promotion}
use Rattle.chess_base.specs.Options.{list_if}
use Rattle.chess_text.specs.Parts.{unmarked, kind_text, file_text, rank_text}
use Rattle.chess_text.specs.laws.CastlingTexts.{is_castling_text}
use Rattle.chess_text.specs.shared.Reader.{parts_at}

-- the value `o` is there, and the test holds for it
abbrev pub passes : {A : Type 0} → (A → Bool) → Option A → Bool
passes test o = option_map_or test o false

-- ---- the text of parts

-- a promotion's letter, capital or small
abbrev pub promotion_letter : Promotion → ℕ
promotion_letter p = if p.small then white_letter p.kind + 32 else white_letter p.kind

-- a promotion as text: the letter of the new piece, after `=` if that is written: =Q, Q or q
abbrev pub promotion_text : Promotion → List ℕ
promotion_text p = list_if p.equals (byte "=" ∷ []) ++ promotion_letter p ∷ []

-- the end of a move's text: the end square and the promotion, if there is one: e8=Q
abbrev pub end_text : End → List ℕ
end_text e = square_text e.to ++ optional promotion_text e.promotion

-- the text of the parts that are there: letter, file, rank, `x`, end square, promotion: Ng1xf3, e8=Q
abbrev pub parts_text : Parts → List ℕ
parts_text q = optional kind_text q.letter
    ++ (optional file_text q.file ++ (optional rank_text q.rank ++ (list_if q.takes (byte "x" ∷ []) ++ end_text q.end)))

-- ---- the forms

-- the text names no file or rank (`named`), or names n
abbrev pub admits : Option ℕ → ℕ → Bool
admits named n = option_map_or (λ t. t == n) named true

-- the text names a file or rank (`named`), and it is n
abbrev pub names : Option ℕ → ℕ → Bool
names named n = option_map_or (λ t. t == n) named false

-- the text names a kind of piece by its letter (`named`), and it is k
abbrev pub names_kind : Option Kind → Kind → Bool
names_kind named k = option_map_or (λ t. same_kind t k) named false

-- the promotion that the text names (`named`) is the move's (`o`): both to one kind, or both none
abbrev pub promotes_so : Option Promotion → Option Kind → Bool
promotes_so named o = option_eq same_kind (option_map (λ t. t.kind) named) o

-- the text names a promotion (`named`) with `=`
abbrev pub has_equals : Option Promotion → Bool
has_equals named = option_map_or (λ t. t.equals) named false

-- the parts q denote move d, castling too, by its two squares and its promotion, as g1f3, e1g1 or e7e8q
unfoldable pub is_by_squares : Parts → Described → Bool
is_by_squares q d =
    is_none q.letter && names q.file (file d.from) && names q.rank (rank d.from) && not q.takes && (q.end.to == d.to)
    && not (has_equals q.end.promotion) && promotes_so q.end.promotion d.promotion

-- the parts q denote move d, not castling, by its piece's letter (a pawn has none) and end square: Nf3, Ngf3 or Nxf3.
-- A file or rank that they name is the start square's; with `x` the move is a capture
unfoldable pub is_by_letter : Parts → Described → Bool
is_by_letter q d =
    names_kind q.letter d.man && is_none d.castles && admits q.file (file d.from) && admits q.rank (rank d.from)
    && (not q.takes || d.captures) && (q.end.to == d.to) && is_none q.end.promotion

-- the parts q denote move d, a pawn's that stays on its file, by its end square and promotion alone, as e4 or e8=Q
unfoldable pub is_straight : Parts → Described → Bool
is_straight q d =
    is_none q.letter && is_none q.file && is_none q.rank && not q.takes && same_kind Pawn d.man
    && (file d.from == file d.to)
    && (q.end.to == d.to) && promotes_so q.end.promotion d.promotion

-- the parts q denote move d, a pawn's, by its start file, end square and promotion, as exd5 or exd8=Q. A rank that they
-- name is the start square's; with `x` the move is a capture
unfoldable pub is_by_file : Parts → Described → Bool
is_by_file q d =
    is_none q.letter && names q.file (file d.from) && admits q.rank (rank d.from) && same_kind Pawn d.man
    && (not q.takes || d.captures) && (q.end.to == d.to) && promotes_so q.end.promotion d.promotion

-- the parts q denote move d: by its squares, by its letter, or as a pawn's, straight or by its file
unfoldable pub parts_fit : Parts → Described → Bool
parts_fit q d = is_by_squares q d || is_by_letter q d || is_straight q d || is_by_file q d

-- the parts can be those of a move's text: a letter without a promotion (Nf3); or no letter, and either a start file
-- (exd5, e2e4) or neither start rank nor `x` (e4, e8=Q)
unfoldable pub is_form : Parts → Bool
is_form q = if is_some q.letter then is_none q.end.promotion else is_some q.file || (is_none q.rank && not q.takes)

-- ---- by the parts of a text

-- the text, without its marks (+ # ! ?), is made of a move's parts, and these pass the test
unfoldable pub has_parts : (Parts → Bool) → List ℕ → Bool
has_parts test text = passes test (parts_at (unmarked text))

-- the text denotes castling, or its parts can be those of a move's text
unfoldable pub has_form : List ℕ → Bool
has_form text = is_castling_text text KingSide || is_castling_text text QueenSide || has_parts is_form text

-- the text denotes the described move d: d is castling, and the text denotes this castling; or its parts denote d
unfoldable pub fits_text : List ℕ → Described → Bool
fits_text text d = passes (is_castling_text text) d.castles || has_parts (λ q. parts_fit q d) text
