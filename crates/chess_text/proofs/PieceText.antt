-- The SAN of a move that is not castling, without its mark, is the text of its parts (piece_written): for the start
-- square by cases of what is written of it, then for a pawn's move and for another piece's.
use Rattle.std.proofs.Common.{◌≡◌, ℕ, Bool, true, false, not, cond, List, [], ◌∷◌, ◌++◌, Option, Some, None, refl, ap, ◌∙◌, if◌then◌else◌, option_map}
use Rattle.chess_base.specs.{declared.man.Kind.Kind, declared.man.Kind.TheVariants.Pawn, shared.Parts.optional, Letters.square_text, Men.same_kind, Squares.file, Squares.rank, Options.list_if}
use Rattle.byte_devices.specs.Bytes.{byte}
use Rattle.chess_text.specs.{declared.described.Described.Described, declared.parts.Promotion.Promotion, declared.writing.Disambiguation.Disambiguation, Parts.kind_text, Parts.file_text, Parts.rank_text, shared.Fitting.promotion_text, shared.Fitting.parts_text, San.start_text, San.piece_text}
use Rattle.chess_text.specs.ties.SanParts.{some_on_file, some_on_rank, distinction, disambiguate, if_written, pawn_parts, lettered_parts, piece_parts}

-- a promotion as SAN writes it: `=` and the capital letter
abbrev as_promotion : Option Kind → Option Promotion
as_promotion o = option_map (λ k. record { kind = k; equals = true; small = false }) o

-- `=` and the letter are the text of this part
promotion_is : (o : Option Kind) → optional (λ k. byte "=" ∷ kind_text k) o ≡ optional promotion_text (as_promotion o)
promotion_is None = refl
promotion_is (Some k) = refl

-- ---- the start square

-- the start's file as text, if SAN writes it
abbrev file_part : Disambiguation → ℕ → List ℕ
file_part start from = optional file_text (if_written start.file (file from))

-- the start's rank as text, if SAN writes it
abbrev rank_part : Disambiguation → ℕ → List ℕ
rank_part start from = optional rank_text (if_written start.rank (rank from))

-- what the definition writes of the start square beside others is these two parts
start_is : (from : ℕ) (others rest : List ℕ)
    → start_text from others ++ rest
    ≡ file_part (disambiguate from others) from ++ (rank_part (disambiguate from others) from ++ rest)
start_is from [] rest = refl
start_is from (o ∷ os) rest = by_tests (some_on_file (file from) (o ∷ os)) (some_on_rank (rank from) (o ∷ os))
  where
    by_tests : (x y : Bool)
        → cond (not x) (file_text (file from)) (cond (not y) (rank_text (rank from)) (square_text from)) ++ rest
        ≡ file_part (cond (not x) (distinction true false)
        (cond (not y) (distinction false true) (distinction true true))) from
        ++ (rank_part (cond (not x) (distinction true false)
        (cond (not y) (distinction false true) (distinction true true))) from ++ rest)
    by_tests false y = refl
    by_tests true false = refl
    by_tests true true = refl

-- ---- the text

-- what SAN writes from `x` on, by the definition
abbrev tail_text : Described → List ℕ
tail_text d = list_if d.captures (byte "x" ∷ [])
    ++ (square_text d.to ++ optional (λ k. byte "=" ∷ kind_text k) d.promotion)

-- what the text of the SAN's parts has from `x` on
abbrev tail_parts : Described → List ℕ
tail_parts d = list_if d.captures (byte "x" ∷ []) ++
    (square_text d.to ++ optional promotion_text (as_promotion d.promotion))

tail_is : (d : Described) → tail_text d ≡ tail_parts d
tail_is d = ap (λ v. list_if d.captures (byte "x" ∷ []) ++ (square_text d.to ++ v)) (promotion_is d.promotion)

-- the file that a pawn's capture begins with is a part that is written for captures only
pawn_start : (c : Bool) (f : ℕ) (rest : List ℕ)
    → list_if c (file_text f) ++ rest ≡ optional file_text (if_written c f) ++ rest
pawn_start true f rest = refl
pawn_start false f rest = refl

-- the SAN of a pawn's move is the text of `pawn_parts`
pawn_written : (d : Described) → list_if d.captures (file_text (file d.from)) ++ tail_text d ≡ parts_text (pawn_parts d)
pawn_written d = pawn_start d.captures (file d.from) (tail_text d)
    ∙ ap (λ v. optional file_text (if_written d.captures (file d.from)) ++ v) (tail_is d)

-- the SAN of another piece's move is the text of `lettered_parts`
lettered_written : (others : List ℕ) (d : Described)
    → (kind_text d.man ++ start_text d.from others) ++ tail_text d ≡ parts_text (lettered_parts others d)
lettered_written others d =
    ap (λ v. kind_text d.man ++ v) (start_is d.from others (tail_text d)
    ∙ ap (λ v. file_part (disambiguate d.from others) d.from ++ (rank_part (disambiguate d.from others) d.from ++ v))
    (tail_is d))

abbrev by_kind : Bool → List ℕ → Described → List ℕ
by_kind pawn others d =
    (if pawn then list_if d.captures (file_text (file d.from)) else kind_text d.man ++ start_text d.from others)
    ++ tail_text d

pub piece_written : (others : List ℕ) (d : Described) → piece_text others d ≡ parts_text (piece_parts others d)
unfolding piece_parts
piece_written others d = by_test (same_kind d.man Pawn)
  where
    by_test : (pawn : Bool)
        → by_kind pawn others d ≡ parts_text (if pawn then pawn_parts d else lettered_parts others d)
    by_test true = pawn_written d
    by_test false = lettered_written others d
