-- The bytes of the FEN of a sound position: each is ASCII from the space on (fen_plain), so the FEN is UTF-8
-- (fen_is_utf8). No field has a space (32), as a field's bytes are from 45 on (fields_plain), and no rank a slash (47),
-- as a rank's are from 48 on (rows_plain). By the letters, digits and squares that are written; a sound position's
-- counters have at most six digits (counters_fit), its target is on rank 3 or 6 (target_fits).
use Rattle.std.proofs.Common.{sym, ◌≡◌, ℕ, zero, suc, ◌+◌, ◌*◌, ◌/◌, ◌%◌, ◌<◌, ◌≤◌, ◌⊎◌, true, List, [], ◌∷◌, ◌++◌, length, take, drop, map, Option, Some, None, subst, arith, rules, ◌∙◌, decimal, IfSome, IsAscii, IsUtf8, append-nil, length-take}
use Rattle.std.specs.{List.AllByRecursion, Str.Parse.digits_value}
use Rattle.std.proofs.{lemmas.Bool.Decides.nat_tests, lemmas.Fmt.digits_decimal, lemmas.Str.IsUtf8-from_ascii, lemmas.Str.Parse.IsNumeralModel, lemmas.Str.Parse.IsDigitsTest, lemmas.Str.Parse.numerals_by_value}
use Rattle.chess_base.specs.{declared.man.Man.Man, declared.man.Kind.Kind, declared.man.Colour.Colour, declared.man.Colour.TheVariants.White, declared.man.Colour.TheVariants.Black, declared.man.CastlingSide.CastlingSide, declared.man.CastlingSide.TheVariants.KingSide, declared.man.CastlingSide.TheVariants.QueenSide, declared.man.Rights.Rights, declared.man.Variant.Variant, declared.man.Variant.TheVariants.Normal, declared.man.Variant.TheVariants.Fischerandom, declared.setup.Setup.Setup, Letters.white_letter, Letters.letter, Letters.letter_by, Men.Men, Sound.IsSound, shared.Parts.target_is_sound_at}
use Rattle.chess_fen.specs.shared.Rows.{run_text, row_text}
use Rattle.chess_fen.specs.shared.RightTexts.{or_dash, right_text}
use Rattle.chess_fen.specs.ties.Loops.{ranks_down}
use Rattle.chess_fen.proofs.{RightLetters.rights_are, WrittenRanks.row_is}
use Rattle.chess_base.proofs.shared.Parts.{target_is_sound_is}
use Rattle.chess_fen.specs.RightNames.{right_letter}
use Rattle.chess_fen.specs.Writing.{fen_rank, placement_text, side_text, rights_text, target_text, fen}
use Rattle.chess_fen.proofs.Joined.{IsPlain, Plain, all_append, each_weaker, Plain-join}

-- a byte from k on is plain if it is between the quote (34) and the backslash (92), or between the backslash and 128
low : (k b : ℕ) → k ≤ b → 34 < b → b < 92 → IsPlain k b
low k b least over under = (least, omega arith, (λ e. omega (arith, e)), (λ e. omega (arith, e)))

high : (k b : ℕ) → k ≤ b → 92 < b → b < 128 → IsPlain k b
high k b least over under = (least, under, (λ e. omega (arith, e)), (λ e. omega (arith, e)))

-- ---- numbers

-- each byte is a digit
abbrev DigitBytes : List ℕ → Type 0
DigitBytes ds = AllByRecursion (λ c. (48 ≤ c) × (c ≤ 57)) ds

-- `DigitBytes` is built from the first digit and the rest, as the library's lemma on numerals wants
says_bytes : IsDigitsTest DigitBytes
says_bytes = record { empty = tt; parts = λ c cs p. (search rules, p.1); more = λ c cs d p. (search rules, p) }

-- each numeral of base 10 has digits only
own_bytes : IsNumeralModel DigitBytes (digits_value 10)
own_bytes = numerals_by_value _ says_bytes

-- digits are plain from 45 on
digits_plain : (ds : List ℕ) → DigitBytes ds → Plain 45 ds
digits_plain [] p = tt
digits_plain (c ∷ cs) p =
    let least : 48 ≤ c = p.0.0 in
    let most : c ≤ 57 = p.0.1 in
    (low 45 c (omega arith) (omega arith) (omega arith), digits_plain cs p.1)

-- a counter's text is plain
decimal_plain : (n : ℕ) → n < 1000000 → Plain 45 (decimal n)
decimal_plain n h = digits_plain (decimal n) (digits_decimal own_bytes n (omega arith))

-- ---- placement

-- a white piece's letter is from B (66) to R (82)
pub white_range : (kind : Kind) → (66 ≤ white_letter kind) × (white_letter kind ≤ 82)
white_range k = (grind arith, grind arith)

-- a piece's letter is plain from 48 on
letter_plain : (colour : Colour) (kind : Kind) → IsPlain 48 (letter_by colour kind)
letter_plain White kind =
    let range = white_range kind in
    low 48 (white_letter kind) (omega (arith, range)) (omega (arith, range)) (omega (arith, range))
letter_plain Black kind =
    let range = white_range kind in
    high 48 (white_letter kind + 32) (omega (arith, range)) (omega (arith, range)) (omega (arith, range))

-- the digit for a run of empty squares before a plain text
run_plain : (n : ℕ) (rest : List ℕ) → n ≤ 8 → Plain 48 rest → Plain 48 (run_text n ++ rest)
run_plain zero rest h p = p
run_plain (suc n) rest h p = (low 48 (48 + suc n) (omega arith) (omega arith) (omega arith), p)

-- the text of a rank's squares, of which n empty ones are already counted
row_plain : (squares : List (Option Man)) (n : ℕ) → n + length squares ≤ 8 → Plain 48 (row_text n squares)
row_plain [] n h = subst (Plain 48) (append-nil (run_text n)) (run_plain n [] (omega arith) tt)
row_plain (None ∷ squares) n h = row_plain squares (suc n) (omega arith)
row_plain (Some man ∷ squares) n h = run_plain n (letter man ∷ row_text 0 squares) (omega arith)
    (letter_plain man.colour man.kind, row_plain squares 0 (omega arith))

-- the texts of the n lowest ranks are plain from 48 on, so they have no slash
pub rows_plain : (n : ℕ) (men : List (Option Man)) → AllByRecursion (Plain 48) (map fen_rank (ranks_down n men))
rows_plain zero men = tt
rows_plain (suc n) men =
    let row : List (Option Man) = take 8 (drop (8 * n) men) in (
      subst (Plain 48) (row_is row 0) (row_plain row 0 (omega (arith, length-take 8 (drop (8 * n) men)))),
      rows_plain n men,
    )

-- the whole placement, with slashes between its ranks, is plain from 45 on, so it has no space
placement_plain : (men : List (Option Man)) → Plain 45 (placement_text men)
unfolding placement_text
placement_plain men = Plain-join 47 45 (map fen_rank (ranks_down 8 men)) (low 45 47 (omega arith) (omega arith)
    (omega arith)) (each_weaker 45 48 (map fen_rank (ranks_down 8 men)) (omega arith) (rows_plain 8 men))

-- ---- side, rights and target

-- the text of the side is plain from 45 on
side_plain : (colour : Colour) → Plain 45 (side_text colour)
side_plain White = (high 45 119 (omega arith) (omega arith) (omega arith), tt)
side_plain Black = (high 45 98 (omega arith) (omega arith) (omega arith), tt)

-- so is the letter of a right
right_letter_plain : (v : Variant) (c : Colour) (w : CastlingSide) (s : ℕ) → IsPlain 45 (right_letter v c w s)
right_letter_plain Normal White KingSide s = low 45 75 (omega arith) (omega arith) (omega arith)
right_letter_plain Normal White QueenSide s = low 45 81 (omega arith) (omega arith) (omega arith)
right_letter_plain Normal Black KingSide s = high 45 107 (omega arith) (omega arith) (omega arith)
right_letter_plain Normal Black QueenSide s = high 45 113 (omega arith) (omega arith) (omega arith)
right_letter_plain Fischerandom White w s = low 45 (65 + s % 8) (omega arith) (omega arith) (omega arith)
right_letter_plain Fischerandom Black w s = high 45 (97 + s % 8) (omega arith) (omega arith) (omega arith)

-- so is the text of a right, a letter or nothing
right_plain : (v : Variant) (c : Colour) (w : CastlingSide) (right : Option ℕ) → Plain 45 (right_text v c w right)
right_plain v c w (Some s) = (right_letter_plain v c w s, tt)
right_plain v c w None = tt

-- the text `-`
dash : Plain 45 (45 ∷ [])
dash = (low 45 45 (omega arith) (omega arith) (omega arith), tt)

-- a plain text, or `-` if it is empty
dash_plain : (text : List ℕ) → Plain 45 text → Plain 45 (or_dash text)
dash_plain [] p = dash
dash_plain (c ∷ cs) p = p

-- so is the text of all rights
rights_plain : (v : Variant) (r : Rights) → Plain 45 (rights_text v r)
rights_plain v r =
    let P = IsPlain 45 in
    let a = right_text v White KingSide r.white.king_side in
    let b = right_text v White QueenSide r.white.queen_side in
    let c = right_text v Black KingSide r.black.king_side in
    let d = right_text v Black QueenSide r.black.queen_side in
    subst (Plain 45) (sym (rights_are v r)) (dash_plain (((a ++ b) ++ c) ++ d)
    (all_append P ((a ++ b) ++ c) d
    (all_append P (a ++ b) c (all_append P a b (right_plain v White KingSide r.white.king_side)
    (right_plain v White QueenSide r.white.queen_side)) (right_plain v Black KingSide r.black.king_side))
    (right_plain v Black QueenSide r.black.queen_side)))

-- a target has rank 3 or 6
target_rank : (men : Men) (c : Colour) (target : Option ℕ) → target_is_sound_at men c target ≡ true
    → IfSome target (λ square. (square / 8 ≡ 2) ⊎ (square / 8 ≡ 5))
target_rank men c None e = tt
target_rank men c (Some t) e = grind (arith, nat_tests, e)

-- the target of a sound position is on rank 3 or 6 (2 or 5 counted from 0)
pub target_fits : (p : Setup) → IsSound p → IfSome p.target (λ square. (square / 8 ≡ 2) ⊎ (square / 8 ≡ 5))
target_fits p h = target_rank p.men p.side p.target (sym (target_is_sound_is p) ∙ h.target)

-- so is the text of the target
target_plain : (target : Option ℕ) → IfSome target (λ square. (square / 8 ≡ 2) ⊎ (square / 8 ≡ 5))
    → Plain 45 (target_text target)
target_plain None h = dash
target_plain (Some t) h = (
  high 45 (97 + t % 8) (omega arith) (omega arith) (omega arith),
  (low 45 (49 + t / 8) (omega arith) (omega arith) (grind (arith, h)), tt),
)

-- ---- the text

-- the fields of a position's FEN
abbrev pub fields : Setup → List (List ℕ)
fields p = placement_text p.men ∷ side_text p.side ∷ rights_text p.variant p.rights ∷ target_text p.target
    ∷ decimal p.halfmove ∷ decimal p.fullmove ∷ []

-- the counters of a sound position have at most six digits
pub counters_fit : (p : Setup) → IsSound p → (p.halfmove < 1000000) × (p.fullmove < 1000000)
counters_fit p h =
    let half = h.halfmove in
    let full = h.fullmove_high in
    (grind (arith, nat_tests, half), grind (arith, nat_tests, full))

-- no field of a sound position's FEN has a space
pub fields_plain : (p : Setup) → IsSound p → AllByRecursion (Plain 45) (fields p)
fields_plain p h =
    let fit = counters_fit p h in (
      placement_plain p.men,
      (
        side_plain p.side,
        (
          rights_plain p.variant p.rights,
          (
            target_plain p.target (target_fits p h),
            (decimal_plain p.halfmove fit.0, (decimal_plain p.fullmove fit.1, tt)),
          ),
        ),
      ),
    )

-- the whole FEN is plain from the space on
pub fen_plain : (p : Setup) → IsSound p → Plain 32 (fen p)
fen_plain p h = Plain-join 32 32 (fields p) (omega arith, omega arith, (λ e. omega (arith, e)), (λ e. omega (arith, e)))
    (each_weaker 32 45 (fields p) (omega arith) (fields_plain p h))

-- plain texts are ASCII
ascii : (text : List ℕ) → Plain 32 text → IsAscii text
ascii [] p i = omega arith
ascii (c ∷ cs) p zero = p.0.1
ascii (c ∷ cs) p (suc i) = ascii cs p.1 i

-- a sound position's FEN is UTF-8, since it is ASCII
pub fen_is_utf8 : (p : Setup) → IsSound p → IsUtf8 (fen p)
fen_is_utf8 p h = IsUtf8-from_ascii (fen p) (ascii (fen p) (fen_plain p h))
