-- The start of a game that was read is sound, if the variant's initial position is (start_sound, by induction on the
-- tokens): a FEN that is read gives a sound position with 64 squares (fen_sound), since it is refused where one of the
-- conditions fails, and no other token changes the start (token_sound).
use Rattle.std.proofs.Common.{◌≡◌, ◌∙◌, ℕ, zero, suc, ◌*◌, Bool, true, false, eqb, List, [], ◌∷◌, ◌++◌, length, length-append, map, take, drop, Option, Some, None, Result, Ok, Err, refl, sym, ap, subst, arith, codes, if◌then◌else◌, max, option_and_then, ◌==◌}
use Rattle.std.specs.{List.slice_split, List.flat_map, Option.ok_or, Option.option_map, Option.option_map_or}
use Rattle.std.proofs.lemmas.Bool.Decides.{nat_tests}
use Rattle.chess_base.specs.{Faults.conditions, Faults.first_failing, Faults.setup_fault, Sound.IsSound, declared.fen_fault.FenFault.FenFault, declared.man.Colour.Colour, declared.man.Man.Man, declared.man.Rights.Rights, declared.man.Variant.Variant, declared.setup.Setup.Setup}
use Rattle.chess_base.specs.declared.fen_fault.FenFault.TheVariants as faults
use Rattle.chess_base.proofs.shared.Sound.{first_failing-conditions_if, IsSound-from_no_fault}
use Rattle.chess_fen.specs.Reading.{◌>>=◌, conditions_of, fen_reading_as, reading_in, side_of}
use Rattle.chess_fen.specs.RightNames.{names_rights_well, rights_in}
use Rattle.chess_fen.specs.Texts.{all_there, fields_of, from_top, is_castling_field, placement_of, rank_of, squares_of, target_of}
use Rattle.text_lines.specs.Words.{short_number}
use Rattle.pgn_tokens.specs.Tokens.{Token, Tag}
use Rattle.chess_pgn_laws.specs.GameOfTokens.{if_read, is_fen, start_by, tagged_start}

-- ---- 64 squares

-- what is on the squares of a rank, or of the board
abbrev Row : Type 0
Row = List (Option Man)

-- a rank that was read has 8 squares
eight : (text : List ℕ) (row : Row) → rank_of text ≡ Some row → length row ≡ 8
eight text row is =
    at (option_map (λ parts. flat_map (λ squares. squares) parts) (all_there (map squares_of text))) is
  where
    by_length : (r : Row) (b : Bool) → (length r == 8) ≡ b → (if b then Some r else None) ≡ Some row → length row ≡ 8
    by_length r true e h =
        let same : r ≡ row = cc in
        ap length (sym same) ∙ grind (arith, nat_tests, e)
    by_length r false e h = absurd (cc)

    at : (o : Option Row) → option_and_then (λ r. if length r == 8 then Some r else None) o ≡ Some row → length row ≡ 8
    at None h = absurd (cc)
    at (Some r) h = by_length r (length r == 8) refl h

-- ranks that were read have 8 squares each, put together from the first rank on
rows_long : (texts : List (List ℕ)) (rows : List Row) → all_there (map rank_of texts) ≡ Some rows
    → length (from_top rows) ≡ 8 * length texts
rows_long [] rows is = let none : rows ≡ [] = cc in ap (λ r. length (from_top r)) none
rows_long (text ∷ texts) rows is =
    at (rank_of text) refl (all_there (map rank_of texts)) refl (rows_long texts) is
  where
    at : (o : Option Row) → rank_of text ≡ o → (more : Option (List Row)) → all_there (map rank_of texts) ≡ more
        → ((found : List Row) → all_there (map rank_of texts) ≡ Some found → length (from_top found) ≡ 8 * length texts)
        → option_and_then (λ x. option_map (λ xs. x ∷ xs) more) o ≡ Some rows
        → length (from_top rows) ≡ 8 * length (text ∷ texts)
    at None e more f others h = absurd (cc)
    at (Some row) e None f others h = absurd (cc)
    at (Some row) e (Some found) f others h =
        let same : row ∷ found ≡ rows = cc in
        let long = length-append (from_top found) row in
        let short = eight text row e in
        let rest = others found f in
        ap (λ r. length (from_top r)) (sym same) ∙ omega (arith, long, short, rest)

board_long : (text : List ℕ) (men : Row) → placement_of text ≡ Some men → length men ≡ 64
board_long text men is = at (length (slice_split (λ c. eqb c 47) text) == 8) refl is
  where
    ranks : List (List ℕ)
    ranks = slice_split (λ c. eqb c 47) text

    by_rows : (o : Option (List Row)) → all_there (map rank_of ranks) ≡ o → length ranks ≡ 8
        → option_map from_top o ≡ Some men → length men ≡ 64
    by_rows None e long h = absurd (cc)
    by_rows (Some rows) e long h =
        let same : from_top rows ≡ men = cc in
        let all = rows_long ranks rows e in
        ap length (sym same) ∙ omega (arith, all, long)

    at : (b : Bool) → (length ranks == 8) ≡ b
        → (if b then option_map from_top (all_there (map rank_of ranks)) else None) ≡ Some men → length men ≡ 64
    at false e h = absurd (cc)
    at true e h =
        by_rows (all_there (map rank_of ranks)) refl (let long : length ranks ≡ 8 = grind (arith, nat_tests, e) in long) h

-- ---- a FEN

-- conditions that all hold, without one of them
without : {A : Type 0} (n : ℕ) (x : A × Bool) (xs : List (A × Bool))
    → first_failing (take n xs ++ x ∷ drop n xs) ≡ None → first_failing xs ≡ None
without zero x xs h = at x.1 h
  where
    at : (b : Bool) → (if b then first_failing xs else Some x.0) ≡ None → first_failing xs ≡ None
    at true k = k
    at false k = absurd (cc)
without (suc n) x [] h = refl
without (suc n) x (y ∷ xs) h = at y.1 h (without n x xs)
  where
    at : (b : Bool) → (if b then first_failing (take n xs ++ x ∷ drop n xs) else Some y.0) ≡ None
        → (first_failing (take n xs ++ x ∷ drop n xs) ≡ None → first_failing xs ≡ None)
        → (if b then first_failing xs else Some y.0) ≡ None
    at true k more = more k
    at false k more = absurd (cc)

-- if no fault is found, what is read is the position
unfaulted : (o : Option FenFault) (p q : Setup) → option_map_or Err o (Ok p) ≡ Ok q → (o ≡ None) × (p ≡ q)
unfaulted None p q h = (refl, (let same : p ≡ q = cc in same))
unfaulted (Some f) p q h = absurd (cc)

-- a position of 64 squares is read only if the conditions of `IsSound` are met
sound_if : (letters : List ℕ) (p q : Setup) → length p.men ≡ 64
    → option_map_or Err (first_failing (conditions_of letters p)) (Ok p) ≡ Ok q → IsSound q
unfolding setup_fault
sound_if letters p q long h =
    let is = unfaulted (first_failing (conditions_of letters p)) p q h in
    subst IsSound is.1 (IsSound-from_no_fault p long (without 4 (faults.Castling, names_rights_well p.variant p.men letters)
    (conditions p) (sym (first_failing-conditions_if (names_rights_well p.variant p.men letters) p) ∙ is.0)))

-- the position of these parts
abbrev made : Variant → Row → Colour → Rights → Option ℕ → ℕ → ℕ → Setup
made v men colour rights passed clock number = record {
  variant = v;
  men = men;
  side = colour;
  rights = rights;
  target = passed;
  halfmove = clock;
  fullmove = max number 1;
}

-- what is read, once the pieces are
abbrev read_on : Variant → List ℕ → Row → Option Colour → Result Rights FenFault → Option (Option ℕ) → Option ℕ
    → Option ℕ → Result Setup FenFault
read_on v letters men side castling target halfmove fullmove = do
  colour ← ok_or side faults.Side
  rights ← castling
  passed ← ok_or target faults.EnPassant
  clock ← ok_or halfmove faults.Counters
  number ← ok_or fullmove faults.Counters
  p ← Ok (made v men colour rights passed clock number)
  option_map_or Err (first_failing (conditions_of letters p)) (Ok p)

-- by cases of what each field was read as
on_sound : (v : Variant) (letters : List ℕ) (men : Row) (side : Option Colour) (castling : Result Rights FenFault)
    (target : Option (Option ℕ)) (halfmove fullmove : Option ℕ) (q : Setup) → length men ≡ 64
    → read_on v letters men side castling target halfmove fullmove ≡ Ok q → IsSound q
on_sound v letters men None castling target halfmove fullmove q long h = absurd (cc)
on_sound v letters men (Some side) (Err e) target halfmove fullmove q long h = absurd (cc)
on_sound v letters men (Some side) (Ok rights) None halfmove fullmove q long h = absurd (cc)
on_sound v letters men (Some side) (Ok rights) (Some target) None fullmove q long h = absurd (cc)
on_sound v letters men (Some side) (Ok rights) (Some target) (Some clock) None q long h = absurd (cc)
on_sound v letters men (Some side) (Ok rights) (Some target) (Some clock) (Some number) q long h =
    sound_if letters (made v men side rights target clock number) q long h

six_sound : (v : Variant) (placement side castling target halfmove fullmove : List ℕ) (q : Setup)
    → reading_in v (placement ∷ side ∷ castling ∷ target ∷ halfmove ∷ fullmove ∷ []) ≡ Ok q → IsSound q
six_sound v placement side castling target halfmove fullmove q h = at (placement_of placement) refl h
  where
    at : (o : Option Row) → placement_of placement ≡ o → (do
      men ← ok_or o faults.Placement
      read_on v castling men (side_of side)
          (if is_castling_field v castling then Ok (rights_in v men castling) else Err faults.Castling)
          (target_of target) (short_number 6 halfmove) (short_number 6 fullmove)) ≡ Ok q → IsSound q
    at None e k = absurd (cc)
    at (Some men) e k = on_sound v castling men (side_of side)
        (if is_castling_field v castling then Ok (rights_in v men castling) else Err faults.Castling)
        (target_of target) (short_number 6 halfmove) (short_number 6 fullmove) q (board_long placement men e) k

-- only six fields are read, so by six_sound
fields_sound : (v : Variant) (fields : List (List ℕ)) (q : Setup) → reading_in v fields ≡ Ok q → IsSound q
fields_sound v (a ∷ b ∷ c ∷ d ∷ e ∷ f ∷ []) q h = six_sound v a b c d e f q h
fields_sound v [] q h = absurd (cc)
fields_sound v (a ∷ []) q h = absurd (cc)
fields_sound v (a ∷ b ∷ []) q h = absurd (cc)
fields_sound v (a ∷ b ∷ c ∷ []) q h = absurd (cc)
fields_sound v (a ∷ b ∷ c ∷ d ∷ []) q h = absurd (cc)
fields_sound v (a ∷ b ∷ c ∷ d ∷ e ∷ []) q h = absurd (cc)
fields_sound v (a ∷ b ∷ c ∷ d ∷ e ∷ f ∷ g ∷ more) q h = absurd (cc)

fen_sound : (v : Variant) (text : List ℕ) (q : Setup) → fen_reading_as v text ≡ Ok q → IsSound q
fen_sound v text q h =
    fields_sound v (if length (fields_of text) == 4 then fields_of text ++ (codes "0" ∷ codes "1" ∷ [])
    else fields_of text) q h

-- ---- the last FEN

-- a tag FEN keeps the start sound
read_sound : (v : Variant) (text : List ℕ) (p : Setup) (r : Result Setup FenFault) → fen_reading_as v text ≡ r
    → IsSound p → IsSound (if_read p r)
read_sound v text p (Ok q) e h = fen_sound v text q e
read_sound v text p (Err fault) e h = h

token_sound : (v : Variant) (p : Setup) (t : Token) → IsSound p → IsSound (start_by v p t)
token_sound v p (Tag name text to_end) h = at (is_fen name)
  where
    at : (b : Bool) → IsSound (if b then if_read p (fen_reading_as v text) else p)
    at true = read_sound v text p (fen_reading_as v text) refl h
    at false = h
token_sound v p _ h = h

-- by induction over the tokens
pub start_sound : (v : Variant) (p : Setup) (tokens : List (ℕ × Token)) → IsSound p → IsSound (tagged_start v p tokens)
start_sound v p [] h = h
start_sound v p (t ∷ ts) h = start_sound v (start_by v p t.1) ts (token_sound v p t.1 h)
