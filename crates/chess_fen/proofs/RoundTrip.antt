-- The FEN that is written for a sound position is read as this position (written-fen), with its rights named rightly
-- (written-well). The text is cut into the fields that were joined (fen_fields), and each of these is read back:
-- counters (number-decimal), rights, target, and pieces by ranks (rank_denotes).
use Rattle.std.proofs.Common.{◌≡◌, ℕ, zero, suc, ◌+◌, ◌*◌, ◌<◌, ◌≤◌, inl, inr, true, eqb, leb, ltb, List, [], ◌∷◌, ◌++◌, length, take, drop, map, Option, Some, None, refl, sym, ap, subst, ◌∙◌, arith, rules, take-add, replicate, decimal, is_some, Ok, max, append-nil, length-take, length-drop, take_all, length-append}
use Rattle.std.specs.{Bool.then_some, Option.option_flatten, List.AllZip, List.list_all, List.slice_split, Str.Parse.digits_value}
use Rattle.std.proofs.{lemmas.Bool.Decides.nat_tests, lemmas.Fmt.digits_decimal, lemmas.Fmt.decimal_is_IsNumeral, lemmas.Fmt.decimal_nonempty, lemmas.Str.Parse.IsNumeralModel, lemmas.Str.Parse.numerals_by_value}
use Rattle.chess_base.specs.{declared.man.Man.Man, declared.man.Colour.Colour, declared.man.Colour.TheVariants.White, declared.man.Colour.TheVariants.Black, declared.man.CastlingSide.CastlingSide, declared.man.CastlingSide.TheVariants.KingSide, declared.man.CastlingSide.TheVariants.QueenSide, declared.man.Rights.Rights, declared.man.Variant.Variant, declared.man.Variant.TheVariants.Normal, declared.man.Variant.TheVariants.Fischerandom, declared.setup.Setup.Setup, Letters.letter, Men.Men, Sound.IsSound, shared.Splits.right_is_sound_at}
use Rattle.byte_devices.specs.Bytes.{is_digit}
use Rattle.chess_base.specs.Castling.{home_square, rook_file, right_of, right_is_sound}
use Rattle.chess_base.proofs.shared.Castling.{right_is_sound_of}
use Rattle.text_lines.specs.Words.{short_number}
use Rattle.chess_fen.specs.RightNames.{side_letter, right_in, names_rights_well, rook_of}
use Rattle.chess_fen.specs.Texts.{from_top, placement_of, occurs, may_name_right, is_castling_field, fields_of}
use Rattle.chess_fen.specs.Writing.{fen_rank, placement_text, side_text, rights_text, target_text, fen}
use Rattle.chess_fen.specs.{Denotation.DenotesSquares, Denotation.DenotesRank, ties.Reader.right_named}
use Rattle.chess_fen.specs.shared.Rows.{run_text, row_text}
use Rattle.chess_fen.specs.shared.RightTexts.{or_dash}
use Rattle.chess_fen.specs.ties.Loops.{ranks_down, ranks_text}
use Rattle.chess_fen.proofs.{DenotedFields.placement-denoted, DenotedFields.side-text, DenotedFields.target-denoted, RightLetters.letters, RightLetters.rights_are, RightsBack.Stand, RightsBack.right_back, RightsBack.text_is_castling, WrittenRanks.moved, WrittenRanks.row_is, Lengths.short_decimal, Joined.each_weaker, Joined.slice_split-join, Joined.fields_of-join, Steps.denoted_in, Steps.third}
use Rattle.chess_fen.proofs.RooksNamed.{option_in, options_are_well, rook_is, wells_as_options}
use Rattle.chess_fen.proofs.FenBytes.{target_fits, rows_plain, fields, counters_fit, fields_plain}

-- ---- numbers

-- each numeral is of digits, and `digits_value` is its value
pub own : IsNumeralModel (λ ds. list_all is_digit ds ≡ true) (digits_value 10)
own = numerals_by_value _ (search rules)

-- a counter's text is read as the counter
pub number-decimal : (n : ℕ) → n < 1000000 → short_number 6 (decimal n) ≡ Some n
number-decimal n h =
    let some : 0 < length (decimal n) = decimal_nonempty n (omega arith) in
    let short : length (decimal n) ≤ 6 = short_decimal n h in
    let t0 : ltb 0 (length (decimal n)) ≡ true = grind (arith, nat_tests) in
    let t1 : leb (length (decimal n)) 6 ≡ true = grind (arith, nat_tests) in
    let t2 = digits_decimal own n (omega arith) in
    rw (t0, t1, t2, (decimal_is_IsNumeral n (omega arith)).1) refl

-- ---- rights and target

abbrev rights_of_four : Option ℕ → Option ℕ → Option ℕ → Option ℕ → Rights
rights_of_four a b c d = record {
  white = record { king_side = a; queen_side = b };
  black = record { king_side = c; queen_side = d };
}

-- what is written for the rights of normal chess has the form of a castling field
is_castling : (a b c d : Option ℕ) → is_castling_field Normal (rights_text Normal (rights_of_four a b c d)) ≡ true
unfolding may_name_right
is_castling (Some a) (Some b) (Some c) (Some d) = refl
is_castling (Some a) (Some b) (Some c) None = refl
is_castling (Some a) (Some b) None (Some d) = refl
is_castling (Some a) (Some b) None None = refl
is_castling (Some a) None (Some c) (Some d) = refl
is_castling (Some a) None (Some c) None = refl
is_castling (Some a) None None (Some d) = refl
is_castling (Some a) None None None = refl
is_castling None (Some b) (Some c) (Some d) = refl
is_castling None (Some b) (Some c) None = refl
is_castling None (Some b) None (Some d) = refl
is_castling None (Some b) None None = refl
is_castling None None (Some c) (Some d) = refl
is_castling None None (Some c) None = refl
is_castling None None None (Some d) = refl
is_castling None None None None = refl

-- and in it K, Q, k and q occur for the rights that are there
says : (a b c d : Option ℕ) (k : Colour) (w : CastlingSide)
    → occurs (side_letter k w) (rights_text Normal (rights_of_four a b c d))
    ≡ is_some (right_of (rights_of_four a b c d) k w)
says a b c d White KingSide = grind arith
says a b c d White QueenSide = grind arith
says a b c d Black KingSide = grind arith
says a b c d Black QueenSide = grind arith

-- an available right in normal chess has its rook on its corner
on_corner : (men : Men) (c : Colour) (w : CastlingSide) (right : Option ℕ) → right_is_sound_at Normal men c w right
    ≡ true → then_some (is_some right) (home_square c (rook_file w)) ≡ right
on_corner men c w None e = refl
on_corner men c w (Some s) e =
    let at : s ≡ home_square c (rook_file w) = grind (arith, nat_tests, e) in ap Some (sym at)

-- in normal chess the castling field that is written gives back each right
right_read : (men : Men) (r : Rights) → Stand Normal men r → (c : Colour) (w : CastlingSide)
    → right_named (rights_text Normal r) (side_letter c w) (home_square c (rook_file w)) ≡ right_of r c w
right_read men r s c w = ap (λ b. then_some b (home_square c (rook_file w)))
    (says r.white.king_side r.white.queen_side r.black.king_side r.black.queen_side c w)
    ∙ on_corner men c w (right_of r c w) (s c w)

-- what is written for the rights of a position has the form of a castling field, and names them
record ReadBack (v : Variant) (men : Men) (r : Rights) : Type 0 where
  castling : is_castling_field v (rights_text v r) ≡ true
  rights : (c : Colour) (w : CastlingSide) → option_in v men (rights_text v r) c w ≡ Some (right_of r c w)

-- in both variants the castling field of available rights is read back
are_read : (v : Variant) (men : Men) (r : Rights) → Stand v men r → ReadBack v men r
are_read Normal men r s =
    record {
      castling = is_castling r.white.king_side r.white.queen_side r.black.king_side r.black.queen_side;
      rights = λ c w. ap Some (right_read men r s c w);
    }
are_read Fischerandom men r s = record {
  castling = text_is_castling men r s;
  rights = λ c w. right_back men r c w s;
}

read_back : (p : Setup) → IsSound p → ReadBack p.variant p.men p.rights
unfolding right_is_sound
read_back p h = are_read p.variant p.men p.rights (λ c w. right_is_sound_of p h c w)

-- ---- ranks

-- the digit for n empty squares, in front of a text of other squares, denotes these squares in front
run_denotes : (n : ℕ) (text : List ℕ) (squares : List (Option Man)) → n ≤ 8 → DenotesSquares text squares
    → DenotesSquares (run_text n ++ text) (replicate n None ++ squares)
run_denotes zero text squares h s = s
run_denotes (suc n) text squares h s = (
  replicate (suc n) None ∷ s.0,
  (inr (suc n, omega arith, h, refl, refl), s.1),
  ap (λ xs. replicate (suc n) None ++ xs) s.2,
)

-- the text that is written for squares, after n empty ones, denotes these
row_denotes : (squares : List (Option Man)) (n : ℕ) → n + length squares ≤ 8
    → DenotesSquares (row_text n squares) (replicate n None ++ squares)
row_denotes [] n h =
    subst (λ text. DenotesSquares text (replicate n None ++ [])) (append-nil (run_text n))
    (run_denotes n [] [] (omega arith) ([], tt, refl))
row_denotes (None ∷ squares) n h =
    subst (DenotesSquares (row_text (suc n) squares)) (moved n squares) (row_denotes squares (suc n) (omega arith))
row_denotes (Some man ∷ squares) n h =
    let s = row_denotes squares 0 (omega arith) in
    run_denotes n (letter man ∷ row_text 0 squares) (Some man ∷ squares) (omega arith) (
      (Some man ∷ []) ∷ s.0,
      (inl (man, refl, refl), s.1),
      ap (λ xs. Some man ∷ xs) s.2,
    )

-- the text of a rank denotes its squares
pub rank_denotes : (row : List (Option Man)) → length row ≡ 8 → DenotesSquares (fen_rank row) row
rank_denotes row h = subst (λ text. DenotesSquares text row) (row_is row 0) (row_denotes row 0 (omega arith))

-- ---- placement

ranks_denote : (n : ℕ) (men : List (Option Man)) → 8 * n ≤ length men
    → AllZip DenotesRank (map fen_rank (ranks_down n men)) (ranks_down n men)
ranks_denote zero men h = tt
ranks_denote (suc n) men h =
    let row : List (Option Man) = take 8 (drop (8 * n) men) in
    let eight : length row ≡ 8 = omega (arith, length-take 8 (drop (8 * n) men), length-drop (8 * n) men) in
    ((rank_denotes row eight, eight), ranks_denote n men (omega arith))

-- the ranks put together again, lowest first, are the board
stacked : (n : ℕ) (men : List (Option Man)) → from_top (ranks_down n men) ≡ take (8 * n) men
stacked zero men = refl
stacked (suc n) men =
    let at : 8 * suc n ≡ 8 * n + 8 = omega arith in
    ap (λ squares. squares ++ take 8 (drop (8 * n) men)) (stacked n men)
    ∙ sym (ap (λ k. take k men) at ∙ take-add (8 * n) 8 men)

-- the pieces that are written are read back
placement-text : (men : List (Option Man)) → length men ≡ 64 → placement_of (placement_text men) ≡ Some men
unfolding placement_text
placement-text men all =
    let parts : slice_split (λ c. eqb c 47) (ranks_text 8 men) ≡ map fen_rank (ranks_down 8 men) =
    slice_split-join 47 (fen_rank (take 8 (drop 56 men))) (map fen_rank (ranks_down 7 men)) (rows_plain 8 men) in
    placement-denoted (placement_text men) men (
      ranks_down 8 men,
      refl,
      subst (λ texts. AllZip DenotesRank texts (ranks_down 8 men)) (sym parts) (ranks_denote 8 men (omega arith)),
      sym (stacked 8 men ∙ take_all 64 men (omega arith)),
    )

placement_some : (men : List (Option Man)) → 0 < length (placement_text men)
unfolding placement_text
placement_some men = omega (arith, length-append (fen_rank (take 8 (drop 56 men))) (47 ∷ ranks_text 7 men))

-- ---- the fields

side_some : (colour : Colour) → 0 < length (side_text colour)
side_some White = omega arith
side_some Black = omega arith

dash_some : (text : List ℕ) → 0 < length (or_dash text)
dash_some [] = omega arith
dash_some (c ∷ cs) = omega arith

rights_some : (v : Variant) (r : Rights) → 0 < length (rights_text v r)
rights_some v r = subst (λ text. 0 < length text) (sym (rights_are v r)) (dash_some (letters v r))

target_some : (target : Option ℕ) → 0 < length (target_text target)
target_some None = omega arith
target_some (Some t) = omega arith

-- ---- the text

-- the fields of a position's FEN
pub fen_fields : (p : Setup) → IsSound p → fields_of (fen p) ≡ fields p
fen_fields p h =
    let fit = counters_fit p h in
    fields_of-join (placement_text p.men) (side_text p.side ∷ rights_text p.variant p.rights ∷ target_text p.target
    ∷ decimal p.halfmove ∷ decimal p.fullmove ∷ []) (each_weaker 33 45 (fields p) (omega arith) (fields_plain p h)) (
      placement_some p.men,
      (
        side_some p.side,
        (
          rights_some p.variant p.rights,
          (
            target_some p.target,
            (decimal_nonempty p.halfmove (omega (arith, fit.0)), (decimal_nonempty p.fullmove (omega (arith, fit.1)), tt)),
          ),
        ),
      ),
    )

-- the rights that are read of the castling field are those of the position
rights_back : (p : Setup) → ReadBack p.variant p.men p.rights → (c : Colour) (w : CastlingSide)
    → rook_of (right_in p.variant p.men (rights_text p.variant p.rights) c w) ≡ right_of p.rights c w
rights_back p back c w = rook_is p.variant p.men (rights_text p.variant p.rights) c w
    ∙ ap (λ (o : Option (Option ℕ)). option_flatten o) (back.rights c w)

-- the fields of a sound position's FEN are read as the position
pub written-fen : (p : Setup) → IsSound p → denoted_in p.variant (fields_of (fen p)) ≡ Ok p
written-fen p h =
    let fit = counters_fit p h in
    let some : 0 < p.fullmove = let e = h.fullmove_low in grind (arith, nat_tests, e) in
    let counted : max p.fullmove 1 ≡ p.fullmove = omega (arith, some) in
    let back = read_back p h in
    let t = rights_back p back in
    ap (denoted_in p.variant) (fen_fields p h) ∙ rw (
      placement-text p.men h.board,
      side-text p.side,
      back.castling,
      target-denoted (target_text p.target) p.target (refl, target_fits p h),
      number-decimal p.halfmove fit.0,
      number-decimal p.fullmove fit.1,
      counted,
      t White KingSide,
      t White QueenSide,
      t Black KingSide,
      t Black QueenSide,
    ) refl

-- the castling field of a sound position's FEN names no right wrongly
pub written-well : (p : Setup) → IsSound p → names_rights_well p.variant p.men (third (fields_of (fen p))) ≡ true
written-well p h =
    let t = (read_back p h).rights in
    let well : options_are_well p.variant p.men (rights_text p.variant p.rights) ≡ true =
    rw (t White KingSide, t White QueenSide, t Black KingSide, t Black QueenSide) refl in
    ap (λ fields. names_rights_well p.variant p.men (third fields)) (fen_fields p h)
    ∙ wells_as_options p.variant p.men (rights_text p.variant p.rights) ∙ well
