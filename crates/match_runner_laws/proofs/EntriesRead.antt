-- The lines of a log are read back from its text: a line is cut at the space after its moment, after its mark and its
-- engine's name, and at its `\n`, each in only one way (line_cut, logs_have_one_reading). The log of notes is the text
-- of their lines (log_is).
use Rattle.std.proofs.Common.{◌≡◌, ◌∙◌, ℕ, Bool, true, false, List, [], ◌∷◌, ◌++◌, map, refl, sym, ap, append_assoc, append-nil, Some, None, arith, rules, ◌==◌, codes, decimal, flat_map, if◌then◌else◌}
use Rattle.std.proofs.{lemmas.Bool.and_parts, lemmas.Bool.Decides.nat_tests, lemmas.List.append_cancel_left, lemmas.List.Concat.flat_map-append, lemmas.Fmt.decimal_injective, lemmas.Fmt.digits_decimal, lemmas.Str.Parse.IsNumeralModel, lemmas.Str.Parse.numerals_by_value}
use Rattle.std.specs.{Fmt.digits, Str.Parse.digits_value, List.AllByRecursion, List.list_all}
use Rattle.byte_devices.specs.Bytes.{byte, is_digit, new_line, shown_byte}
use Rattle.chess_base.specs.{Men.same_colour, declared.man.Colour.Colour}
use Rattle.chess_match.specs.Events.{Line, Opened, Silent, OutputEnds, FailsToRead, FailsToWrite}
use Rattle.chess_match.specs.Notes.{Note, Happened, Gives}
use Rattle.match_runner.specs.Log.{engine_name, lines_in, log_from, log_line, moment_after, note_text}
use Rattle.match_runner_laws.specs.Entries.{Entry, IsShown, LogLinesLook, LogsHaveOneReading, entries_from, entries_text, is_printable, note_entries}

-- how the log names an engine: that of `--white` (`is_first`) is `first`
abbrev engine_text : Bool → List ℕ
engine_text is_first = if is_first then codes "first : " else codes "second: "

-- no byte is `c`
abbrev Without : ℕ → List ℕ → Type 0
Without c bs = AllByRecursion (λ b. (b == c) ≡ false) bs

-- a byte that is c doesn't differ from it
differ : (c y : ℕ) → c ≡ y → (y == c) ≡ false → ⊥
differ c y e n = grind (arith, nat_tests)

-- two texts that agree are cut alike at the first `c`
cut : (c : ℕ) (xs ys zs ws : List ℕ) → Without c xs → Without c ys → xs ++ c ∷ zs ≡ ys ++ c ∷ ws
    → (xs ≡ ys) × (zs ≡ ws)
cut c [] [] zs ws h k e = (refl, cc)
cut c [] (y ∷ ys) zs ws h (n, k) e = let same : c ≡ y = cc in absurd (differ c y same n)
cut c (x ∷ xs) [] zs ws (n, h) k e = let same : c ≡ x = cc in absurd (differ c x same n)
cut c (x ∷ xs) (y ∷ ys) zs ws (n, h) (m, k) e =
    let rest : xs ++ c ∷ zs ≡ ys ++ c ∷ ws = cc in
    let p = cut c xs ys zs ws h k rest in
    let same : x ≡ y = cc in (ap (λ (b : ℕ). b ∷ xs) same ∙ ap (λ (l : List ℕ). y ∷ l) p.0, p.1)

-- decimal numbers are read back from their digits
numeral : IsNumeralModel (λ ds. list_all is_digit ds ≡ true) (digits_value 10)
numeral = numerals_by_value _ (search rules)

digit_byte : (c : ℕ) → is_digit c ≡ true → (c == 32) ≡ false
digit_byte c h = grind (arith, nat_tests)

-- a number's digits have no space in them
digits_without : (ds : List ℕ) → list_all is_digit ds ≡ true → Without 32 ds
digits_without [] h = tt
digits_without (c ∷ cs) h =
    let p = and_parts (is_digit c) (list_all is_digit cs) h in (digit_byte c p.0, digits_without cs p.1)

printable_byte : (c : ℕ) → is_printable c ≡ true → (shown_byte c ≡ c) × ((c == new_line) ≡ false)
printable_byte c h = (grind (arith, nat_tests), grind (arith, nat_tests))

-- a text of printable ASCII is shown as it is, and has no line feed
shown_text : (t : List ℕ) → list_all is_printable t ≡ true → (map shown_byte t ≡ t) × Without new_line t
shown_text [] h = (refl, tt)
shown_text (c ∷ cs) h =
    let p = and_parts (is_printable c) (list_all is_printable cs) h in
    let b = printable_byte c p.0 in
    let r = shown_text cs p.1 in
    (ap (λ (d : ℕ). d ∷ map shown_byte cs) b.0 ∙ ap (λ (l : List ℕ). c ∷ l) r.0, (b.1, r.1))

-- a line of the log and what follows it, as one text that is cut from the left: number, space, mark, engine, text, line
-- feed
spread : (first : Colour) (moment mark : ℕ) (side : Colour) (text shows rest : List ℕ) → map shown_byte text ≡ shows
    → log_line moment mark (engine_name first side) text ++ rest
    ≡ decimal moment ++ 32 ∷ mark ∷ (engine_text (same_colour side first) ++ (shows ++ new_line ∷ rest))
spread first moment mark side text shows rest e =
    let number : List ℕ = decimal moment in
    let engine : List ℕ = engine_text (same_colour side first) in
    let head : List ℕ = (number ++ 32 ∷ mark ∷ []) ++ engine in
    let shown : List ℕ = map shown_byte text in
    append_assoc (head ++ shown) (new_line ∷ []) rest
    ∙ append_assoc head shown (new_line ∷ rest)
    ∙ ap (λ (l : List ℕ). head ++ (l ++ new_line ∷ rest)) e
    ∙ append_assoc (number ++ 32 ∷ mark ∷ []) engine (shows ++ new_line ∷ rest)
    ∙ append_assoc number (32 ∷ mark ∷ []) (engine ++ (shows ++ new_line ∷ rest))

head_is : (x y : ℕ) (xs ys : List ℕ) → x ∷ xs ≡ y ∷ ys → x ≡ y
head_is x y xs ys e = cc

tail_is : (x y : ℕ) (xs ys : List ℕ) → x ∷ xs ≡ y ∷ ys → xs ≡ ys
tail_is x y xs ys e = cc

-- two texts that begin with an engine's name begin with the same one
engine_cut : (a b : Bool) (xs ys : List ℕ) → engine_text a ++ xs ≡ engine_text b ++ ys → (a ≡ b) × (xs ≡ ys)
engine_cut true true xs ys e = (refl, append_cancel_left (codes "first : ") xs ys e)
engine_cut false false xs ys e = (refl, append_cancel_left (codes "second: ") xs ys e)
engine_cut true false xs ys e = let same = head_is 102 115 _ _ e in absurd (omega (arith, same))
engine_cut false true xs ys e = let same = head_is 115 102 _ _ e in absurd (omega (arith, same))

side_is : (a b first : Colour) → same_colour a first ≡ same_colour b first → a ≡ b
side_is a b first e = grind (arith, e)

abbrev entry : ℕ → ℕ → Colour → List ℕ → Entry
entry m k s t = record { moment = m; mark = k; side = s; text = t }

-- lines with equal parts are equal
entry_is : (m n k l : ℕ) (a b : Colour) (t u : List ℕ) → m ≡ n → k ≡ l → a ≡ b → t ≡ u → entry m k a t ≡ entry n l b u
entry_is m n k l a b t u e f g h =
    ap (λ v. entry v k a t) e ∙ ap (λ v. entry n v a t) f ∙ ap (λ v. entry n l v t) g ∙ ap (λ v. entry n l b v) h

-- two texts that are equal and begin with a line begin with the same line
line_cut : (first : Colour) (e f : Entry) (xs ys : List ℕ) → IsShown e → IsShown f
    → log_line e.moment e.mark (engine_name first e.side) e.text ++ xs
    ≡ log_line f.moment f.mark (engine_name first f.side) f.text ++ ys
    → (e ≡ f) × (xs ≡ ys)
line_cut first e f xs ys (small, plain) (small', plain') same =
    let s = shown_text e.text plain in
    let s' = shown_text f.text plain' in
    let apart = sym (spread first e.moment e.mark e.side e.text e.text xs s.0) ∙ same
    ∙ spread first f.moment f.mark f.side f.text f.text ys s'.0 in
    let number = cut 32 (decimal e.moment) (decimal f.moment) _ _
    (digits_without _ (digits_decimal numeral e.moment small))
    (digits_without _ (digits_decimal numeral f.moment small')) apart in
    let mark = head_is e.mark f.mark _ _ number.1 in
    let engine = engine_cut (same_colour e.side first) (same_colour f.side first) _ _
    (tail_is e.mark f.mark _ _ number.1) in
    let text = cut new_line e.text f.text xs ys s.1 s'.1 engine.1 in (
      entry_is _ _ _ _ _ _ _ _ (decimal_injective e.moment f.moment small small' number.0) mark
          (side_is e.side f.side first engine.0) text.0,
      text.1,
    )

never_empty : (xs : List ℕ) (y : ℕ) (ys : List ℕ) → xs ++ y ∷ ys ≡ [] → ⊥
never_empty [] y ys e = cc
never_empty (x ∷ xs) y ys e = cc

not_empty : (first : Colour) (e : Entry) (rest : List ℕ) → IsShown e
    → log_line e.moment e.mark (engine_name first e.side) e.text ++ rest ≡ [] → ⊥
not_empty first e rest (small, plain) h =
    never_empty (decimal e.moment) _ _
    (sym (spread first e.moment e.mark e.side e.text e.text rest (shown_text e.text plain).0) ∙ h)

pub logs_have_one_reading : LogsHaveOneReading
logs_have_one_reading first [] [] h k e = refl
logs_have_one_reading first [] (y ∷ ys) h (s, k) e = absurd (not_empty first y (entries_text first ys) s (sym e))
logs_have_one_reading first (x ∷ xs) [] (s, h) k e = absurd (not_empty first x (entries_text first xs) s e)
logs_have_one_reading first (x ∷ xs) (y ∷ ys) (s, h) (t, k) e =
    let p = line_cut first x y (entries_text first xs) (entries_text first ys) s t e in
    let q = logs_have_one_reading first xs ys h k p.1 in
    ap (λ (v : Entry). v ∷ xs) p.0 ∙ ap (λ (l : List Entry). y ∷ l) q

-- ---- the lines of notes

-- the lines that an engine is sent, as lines of the log
sent_are : (first : Colour) (moment : ℕ) (c : Colour) (texts : List (List ℕ))
    → flat_map (log_line moment (byte ">") (engine_name first c)) texts
    ≡ entries_text first (map (λ text. record { moment = moment; mark = byte ">"; side = c; text = text }) texts)
sent_are first moment c [] = refl
sent_are first moment c (t ∷ ts) =
    ap (λ (l : List ℕ). log_line moment (byte ">") (engine_name first c) t ++ l) (sent_are first moment c ts)

-- the text of a note is that of its lines
note_is : (first : Colour) (moment : ℕ) (n : Note)
    → note_text (engine_name first) moment n ≡ entries_text first (note_entries moment n)
note_is first moment (Happened (Line c (Some text) now)) =
    sym (append-nil (log_line now (byte "<") (engine_name first c) text))
note_is first moment (Happened (Line c None now)) =
    sym (append-nil (log_line now (byte "!") (engine_name first c) (codes "line too long")))
note_is first moment (Happened (Opened c now)) = refl
note_is first moment (Happened (Silent c now)) =
    sym (append-nil (log_line now (byte "!") (engine_name first c) (codes "no line")))
note_is first moment (Happened (OutputEnds c)) =
    sym (append-nil (log_line moment (byte "!") (engine_name first c) (codes "output ended")))
note_is first moment (Happened (FailsToRead c)) =
    sym (append-nil (log_line moment (byte "!") (engine_name first c) (codes "read failed")))
note_is first moment (Happened (FailsToWrite c)) =
    sym (append-nil (log_line moment (byte "!") (engine_name first c) (codes "write failed")))
note_is first moment (Gives c bytes) = sent_are first moment c (lines_in bytes)

-- a log is the text of its lines
pub log_is : (first : Colour) (moment : ℕ) (notes : List Note)
    → log_from first moment notes ≡ entries_text first (entries_from moment notes)
log_is first moment [] = refl
log_is first moment (n ∷ notes) =
    ap (λ (l : List ℕ). l ++ log_from first (moment_after moment n) notes) (note_is first moment n)
    ∙ ap (λ (l : List ℕ). entries_text first (note_entries moment n) ++ l)
    (log_is first (moment_after moment n) notes)
    ∙ sym (flat_map-append (λ (e : Entry). log_line e.moment e.mark (engine_name first e.side) e.text)
    (note_entries moment n) (entries_from (moment_after moment n) notes))

-- ---- lines worked out

pub log_lines_look : LogLinesLook
unfolding digits
log_lines_look = record {
  line = refl;
  given = refl;
  too_long = refl;
  silent = refl;
  opened = refl;
  ended = refl;
  unread = refl;
  unwritten = refl;
  shown = refl;
  killed = refl;
  both_killed = refl;
  first_has_black = refl;
  after_line = refl;
  after_opening = refl;
  after_silence = refl;
  no_output = refl;
  no_memory = refl;
  not_started = λ command is.
      ap (λ (name : List ℕ). codes "arbiter: " ++ (codes "can not start " ++ name) ++ new_line ∷ []) is;
  faulty = λ comment is. ap (λ (text : List ℕ).
      codes "arbiter: " ++ (codes "game " ++ decimal 3 ++ codes ": " ++ text) ++ new_line ∷ []) is;
}
