-- The only line of a game's text that begins with `[Result ` is that of its tag Result (game_found): the other tags
-- have other names (tag_found), and the lines of moves have no `[` at all (inner_game). All lines are cut right, since
-- no tag or move has a line feed in it (tags_in_line, inner_lines). By induction on lines and tokens.
use Rattle.std.proofs.Common.{◌≡◌, ◌∙◌, ℕ, ◌≤◌, Bool, true, false, ◌&&◌, ◌||◌, cond, eqb, List, [], ◌∷◌, ◌++◌, length, take, refl, sym, ap, subst, append_assoc, append-nil, arith, bytes_eq, codes, decimal, not, nat_le}
use Rattle.std.specs.List.{AllByRecursion, filter, list_all, onto_first, slice_split}
use Rattle.std.specs.Str.Parse.{AllDigits}
use Rattle.std.proofs.{lemmas.Bool.and_from, lemmas.Bool.and_parts, lemmas.Bool.leb-true, lemmas.Bool.Decides.nat_tests, lemmas.Fmt.decimal_is_IsNumeral, lemmas.List.Elements.filter-append, lemmas.List.Folds.list_all-append, lemmas.Str.Parse.digit_from_value}
use Rattle.chess_base.specs.{Moves.after, Options.list_if, Sound.IsSound, declared.man.Colour.Colour, declared.man.Colour.TheVariants.White, declared.man.Colour.TheVariants.Black, declared.man.Move.Move, declared.setup.Setup.Setup}
use Rattle.chess_base.proofs.shared.LegalMoves.{IsSound-after}
use Rattle.chess_fen.specs.Writing.{fen, is_initial}
use Rattle.chess_fen.proofs.shared.Plain.{Plain, fen_plain}
use Rattle.chess_game.specs.{Game.State, Game.outcome_now, Line.IsLine, Results.outcome_text, declared.results.Outcome.Outcome}
use Rattle.chess_game.specs.declared.results.Outcome.TheVariants.{WhiteWins, BlackWins, Draw, Unfinished}
use Rattle.chess_text.specs.{San.is_fischerandom, San.san, laws.Laws.is_san_byte}
use Rattle.chess_text.proofs.shared.San.{san_bytes}
use Rattle.chess_pgn_laws.specs.PgnLaw.{AreTagTexts}
use Rattle.pgn_writer.specs.{GameText.game_tokens, GameText.pgn, GameText.tag_lines, Terminations.termination_of, Terminations.termination_text, declared.tags.Tags.Tags, declared.termination.Termination.Termination, shared.Lines.lines_begun, shared.Lines.lines_from, shared.NumberedMoves.number_if_due, shared.NumberedMoves.numbered_moves}
use Rattle.pgn_writer.specs.Written.{ended, escaped, lines_of, tag_line}
use Rattle.pgn_writer.specs.declared.termination.Termination.TheVariants as ending
use Rattle.pgn_writer.proofs.{shared.GameTexts.game_numbered, shared.Lines.lines_are}
use Rattle.match_pgn_laws.specs.Scores.{result_lines}
use Rattle.chess_pgn_laws.proofs.shared.Bytes.{list_all-weaker}

-- ---- lines of a text

-- a byte that ends no line
abbrev in_line : ℕ → Bool
in_line c = not (eqb c 10)

-- whether a line begins with `[Result `
abbrev is_result : List ℕ → Bool
is_result line = bytes_eq (take 8 line) (codes "[Result ")

-- cutting a text at its line feeds (10) gives the first line, if that has none in it, and then the lines of the rest
split_line : (line rest : List ℕ) → list_all in_line line ≡ true
    → slice_split (λ c. eqb c 10) (line ++ 10 ∷ rest) ≡ line ∷ slice_split (λ c. eqb c 10) rest
split_line [] rest h = refl
split_line (c ∷ cs) rest h =
    let both = and_parts (in_line c) (list_all in_line cs) h in by_test (eqb c 10) both.0 (split_line cs rest both.1)
  where
    by_test : (b : Bool) → not b ≡ true
        → slice_split (λ c. eqb c 10) (cs ++ 10 ∷ rest) ≡ cs ∷ slice_split (λ c. eqb c 10) rest
        → cond b ([] ∷ slice_split (λ c. eqb c 10) (cs ++ 10 ∷ rest))
        (onto_first c (slice_split (λ c. eqb c 10) (cs ++ 10 ∷ rest))) ≡ (c ∷ cs) ∷ slice_split (λ c. eqb c 10) rest
    by_test true e more = absurd (cc)
    by_test false e more = ap (onto_first c) more

-- these lines, none of which has a `\n` in it
abbrev AreLines : List (List ℕ) → Type 0
AreLines lines = AllByRecursion (λ line. list_all in_line line ≡ true) lines

-- so it gives these lines, and then those of the rest; and of these the ones with `[Result ` (lines_found)
lines_split : (lines : List (List ℕ)) (rest : List ℕ) → AreLines lines
    → slice_split (λ c. eqb c 10) (ended [] lines ++ rest) ≡ lines ++ slice_split (λ c. eqb c 10) rest
lines_split [] rest h = refl
lines_split (line ∷ lines) rest h =
    ap (slice_split (λ c. eqb c 10))
    (append_assoc (line ++ 10 ∷ []) (ended [] lines) rest ∙ append_assoc line (10 ∷ []) (ended [] lines ++ rest))
    ∙ split_line line (ended [] lines ++ rest) h.0 ∙ ap (λ ls. line ∷ ls) (lines_split lines rest h.1)

lines_found : (lines : List (List ℕ)) (rest : List ℕ) → AreLines lines
    → result_lines (ended [] lines ++ rest) ≡ filter is_result lines ++ result_lines rest
lines_found lines rest h =
    ap (filter is_result) (lines_split lines rest h)
    ∙ filter-append is_result lines (slice_split (λ c. eqb c 10) rest)

-- ---- moves: no `\n`, and no `[`

-- a byte that is neither a line feed (10) nor `[` (91), and texts of such bytes
abbrev is_inner : ℕ → Bool
is_inner c = not (eqb c 10) && not (eqb c 91)

abbrev AreInner : List (List ℕ) → Type 0
AreInner texts = AllByRecursion (λ text. list_all is_inner text ≡ true) texts

-- if all bytes of two texts pass a test, so do all of both together; and the same of two lists
joined : (p : ℕ → Bool) (xs ys : List ℕ) → list_all p xs ≡ true → list_all p ys ≡ true → list_all p (xs ++ ys) ≡ true
joined p xs ys h k = list_all-append p xs ys ∙ and_from (list_all p xs) (list_all p ys) h k

all_joined : (P : List ℕ → Type 0) (xs ys : List (List ℕ)) → AllByRecursion P xs → AllByRecursion P ys
    → AllByRecursion P (xs ++ ys)
all_joined P [] ys h k = k
all_joined P (x ∷ xs) ys h k = (h.0, all_joined P xs ys h.1 k)

inner_is_in_line : (c : ℕ) → is_inner c ≡ true → in_line c ≡ true
inner_is_in_line c h = (and_parts (in_line c) (not (eqb c 91)) h).0

-- texts of such bytes are lines, none begins with `[Result ` (no_result), and so none is found (none_found)
inner_lines : (lines : List (List ℕ)) → AreInner lines → AreLines lines
inner_lines [] h = tt
inner_lines (line ∷ lines) h = (list_all-weaker is_inner in_line inner_is_in_line line h.0, inner_lines lines h.1)

no_result : (line : List ℕ) → list_all is_inner line ≡ true → is_result line ≡ false
no_result [] h = refl
no_result (c ∷ cs) h =
    let here = (and_parts (is_inner c) (list_all is_inner cs) h).0 in
    by_test (eqb c 91) (and_parts (in_line c) (not (eqb c 91)) here).1
  where
    by_test : (b : Bool) → not b ≡ true → (b && bytes_eq (take 7 cs) (codes "Result ")) ≡ false
    by_test true e = cc
    by_test false e = refl

none_found : (lines : List (List ℕ)) → AreInner lines → filter is_result lines ≡ []
none_found [] h = refl
none_found (line ∷ lines) h = rw (no_result line h.0) (none_found lines h.1)

-- tokens that are put in lines: the lines have such bytes only, if the tokens do
inner_from : (line : List ℕ) (ts : List (List ℕ)) → list_all is_inner line ≡ true → AreInner ts
    → AreInner (lines_from line ts)
inner_from line [] h all = (h, tt)
inner_from line (t ∷ ts) h all =
    by_test (nat_le (length (line ++ 32 ∷ t)) 79)
    (inner_from (line ++ 32 ∷ t) ts (joined is_inner line (32 ∷ t) h all.0) all.1) (inner_from t ts all.0 all.1)
  where
    by_test : (b : Bool) → AreInner (lines_from (line ++ 32 ∷ t) ts) → AreInner (lines_from t ts)
        → AreInner (cond b (lines_from (line ++ 32 ∷ t) ts) (line ∷ lines_from t ts))
    by_test true here next = here
    by_test false here next = (h, next)

inner_begun : (ts : List (List ℕ)) → AreInner ts → AreInner (lines_begun ts)
inner_begun [] h = tt
inner_begun (t ∷ ts) h = inner_from t ts h.0 h.1

-- ---- the tokens of moves

-- digits are such bytes, and so are numbers, the bytes of SAN, and outcomes; so all tokens of a game are (inner_game)
inner_digits : (text : List ℕ) → AllDigits 10 text → list_all is_inner text ≡ true
inner_digits [] h = refl
inner_digits (c ∷ cs) h =
    let range = digit_from_value c h.0 in
    let a : eqb c 10 ≡ false = grind (arith, nat_tests) in
    let b : eqb c 91 ≡ false = grind (arith, nat_tests) in
    rw (a, b) (inner_digits cs h.1)

inner_number : (n : ℕ) (dots : List ℕ) → n ≤ 999999 → list_all is_inner dots ≡ true
    → list_all is_inner (decimal n ++ dots) ≡ true
inner_number n dots h k =
    joined is_inner (decimal n) dots (inner_digits (decimal n) (decimal_is_IsNumeral n (omega arith)).0.1) k

san_is_inner : (c : ℕ) → is_san_byte c ≡ true → is_inner c ≡ true
san_is_inner c h = grind (arith, nat_tests, h)

inner_numbers : (c : Colour) (is_first : Bool) (n : ℕ) (ts : List (List ℕ)) → n ≤ 999999 → AreInner ts
    → AreInner (number_if_due c is_first n ++ ts)
inner_numbers White is_first n ts h rest = (inner_number n (codes ".") h refl, rest)
inner_numbers Black true n ts h rest = (inner_number n (codes "...") h refl, rest)
inner_numbers Black false n ts h rest = rest

-- the tokens of legal moves: their numbers and their SAN
inner_moves : (is_first : Bool) (p : Setup) (ms : List Move) (ts : List (List ℕ)) → IsSound p → IsLine p ms
    → AreInner ts → AreInner (numbered_moves is_first p ms ++ ts)
inner_moves is_first p [] ts sound line rest = rest
inner_moves is_first p (m ∷ ms) ts sound line rest =
    let tail = inner_moves false (after p m) ms ts (IsSound-after p m sound line.0) line.1 rest in
    let own : list_all is_inner (san p m) ≡ true =
    list_all-weaker (λ c. is_san_byte c) is_inner san_is_inner (san p m) (san_bytes p m sound line.0) in
    let tokens : numbered_moves is_first p (m ∷ ms) ++ ts ≡ number_if_due p.side is_first p.fullmove
    ++ san p m ∷ (numbered_moves false (after p m) ms ++ ts) = simp append_assoc in
    rw tokens (inner_numbers p.side is_first p.fullmove _ (leb-true _ _ sound.fullmove_high) (own, tail))

inner_outcome : (o : Outcome) → list_all is_inner (outcome_text o) ≡ true
inner_outcome WhiteWins = refl
inner_outcome BlackWins = refl
inner_outcome Draw = refl
inner_outcome Unfinished = refl

inner_game : (s : State) → IsSound s.start → IsLine s.start s.moves → AreInner (lines_of (game_tokens s))
inner_game s sound line =
    subst AreInner (sym (lines_are (game_tokens s)))
    (inner_begun (game_tokens s) (subst AreInner (sym (game_numbered s))
    (inner_moves true s.start s.moves (outcome_text (outcome_now s) ∷ []) sound line
    (inner_outcome (outcome_now s), tt))))

-- ---- tags

-- a tag's text with `\` before its quotes has no line feed, if the text has none
escaped_in_line : (text : List ℕ) → list_all in_line text ≡ true → list_all in_line (escaped text) ≡ true
escaped_in_line [] h = refl
escaped_in_line (c ∷ cs) h =
    let both = and_parts (in_line c) (list_all in_line cs) h in
    by_test (eqb c 34 || eqb c 92) both.0 (escaped_in_line cs both.1)
  where
    by_test : (b : Bool) → in_line c ≡ true → list_all in_line (escaped cs) ≡ true
        → list_all in_line (cond b (92 ∷ c ∷ []) (c ∷ []) ++ escaped cs) ≡ true
    by_test true e more = and_from (in_line c) (list_all in_line (escaped cs)) e more
    by_test false e more = and_from (in_line c) (list_all in_line (escaped cs)) e more

-- the line of a tag has no line feed, if its name and text have none
tag_in_line : (name text : List ℕ) → list_all in_line name ≡ true → list_all in_line text ≡ true
    → list_all in_line (tag_line name text) ≡ true
tag_in_line name text h k =
    joined in_line (codes "[" ++ name ++ codes " \"" ++ escaped text) (codes "\"]")
    (joined in_line (codes "[" ++ name ++ codes " \"") (escaped text)
    (joined in_line (codes "[" ++ name) (codes " \"") h refl) (escaped_in_line text k)) refl

-- printable ASCII has no line feed, nor has a FEN, an outcome or the text of a termination
printable_in_line : (text : List ℕ) → AllByRecursion (λ c. (32 ≤ c) × (c ≤ 126)) text → list_all in_line text ≡ true
printable_in_line [] all = refl
printable_in_line (c ∷ cs) all =
    let low = all.0.0 in
    let e : eqb c 10 ≡ false = grind (arith, nat_tests) in
    rw e (printable_in_line cs all.1)

plain_in_line : (text : List ℕ) → Plain 32 text → list_all in_line text ≡ true
plain_in_line [] all = refl
plain_in_line (c ∷ cs) all =
    let low = all.0.0 in
    let e : eqb c 10 ≡ false = grind (arith, nat_tests) in
    rw e (plain_in_line cs all.1)

outcome_in_line : (o : Outcome) → list_all in_line (outcome_text o) ≡ true
outcome_in_line WhiteWins = refl
outcome_in_line BlackWins = refl
outcome_in_line Draw = refl
outcome_in_line Unfinished = refl

termination_in_line : (t : Termination) → list_all in_line (termination_text t) ≡ true
termination_in_line ending.Abandoned = refl
termination_in_line ending.Adjudication = refl
termination_in_line ending.Death = refl
termination_in_line ending.Emergency = refl
termination_in_line ending.Normal = refl
termination_in_line ending.RulesInfraction = refl
termination_in_line ending.TimeForfeit = refl
termination_in_line ending.Unterminated = refl

-- so no line of a tag has one in it: each tag in turn, those of FEN, SetUp and Variant only if they are written
tags_in_line : (t : Tags) (s : State) → AreTagTexts t → IsSound s.start → AreLines (tag_lines t s)
tags_in_line t s h sound = (
  tag_in_line (codes "Event") t.event refl (printable_in_line t.event h.event.printable),
  (
    tag_in_line (codes "Site") t.site refl (printable_in_line t.site h.site.printable),
    (
      tag_in_line (codes "Date") t.date refl (printable_in_line t.date h.date.printable),
      (
        tag_in_line (codes "Round") t.round refl (printable_in_line t.round h.round.printable),
        (
          tag_in_line (codes "White") t.white refl (printable_in_line t.white h.white.printable),
          (
            tag_in_line (codes "Black") t.black refl (printable_in_line t.black h.black.printable),
            (
              tag_in_line (codes "Result") (outcome_text (outcome_now s)) refl (outcome_in_line (outcome_now s)),
              start_then (is_fischerandom s.start.variant || not (is_initial s.start)),
            ),
          ),
        ),
      ),
    ),
  ),
)
  where
    how : Termination
    how = termination_of t.ended (outcome_now s)

    last : (b : Bool) → AreLines (list_if b (tag_line (codes "Variant") (codes "fischerandom") ∷ []))
    last true = (refl, tt)
    last false = tt

    start_then : (b : Bool)
        → AreLines (list_if b (tag_line (codes "FEN") (fen s.start) ∷ tag_line (codes "SetUp") (codes "1") ∷ [])
        ++ tag_line (codes "Termination") (termination_text how)
        ∷ list_if (is_fischerandom s.start.variant) (tag_line (codes "Variant") (codes "fischerandom") ∷ []))
    start_then true = (
      tag_in_line (codes "FEN") (fen s.start) refl (plain_in_line (fen s.start) (fen_plain s.start sound)),
      (
        refl,
        (
          tag_in_line (codes "Termination") (termination_text how) refl (termination_in_line how),
          last (is_fischerandom s.start.variant),
        ),
      ),
    )
    start_then false = (
      tag_in_line (codes "Termination") (termination_text how) refl (termination_in_line how),
      last (is_fischerandom s.start.variant),
    )

-- the line of the tag Result
abbrev pub result_tag : Outcome → List ℕ
result_tag o = tag_line (codes "Result") (outcome_text o)

-- of the lines of tags only that of Result begins with `[Result `, whichever tags are written
tag_found : (t : Tags) (s : State) → filter is_result (tag_lines t s) ≡ result_tag (outcome_now s) ∷ []
tag_found t s = by_tests (is_fischerandom s.start.variant || not (is_initial s.start)) (is_fischerandom s.start.variant)
  where
    how : List ℕ
    how = termination_text (termination_of t.ended (outcome_now s))

    by_tests : (b c : Bool) → filter is_result
        (tag_line (codes "Event") t.event ∷ tag_line (codes "Site") t.site ∷ tag_line (codes "Date") t.date
        ∷ tag_line (codes "Round") t.round ∷ tag_line (codes "White") t.white ∷ tag_line (codes "Black") t.black
        ∷ result_tag (outcome_now s)
        ∷ list_if b (tag_line (codes "FEN") (fen s.start) ∷ tag_line (codes "SetUp") (codes "1") ∷ [])
        ++ tag_line (codes "Termination") how
        ∷ list_if c (tag_line (codes "Variant") (codes "fischerandom") ∷ []))
        ≡ result_tag (outcome_now s) ∷ []
    by_tests true true = refl
    by_tests true false = refl
    by_tests false true = refl
    by_tests false false = refl

-- ---- a game

-- the lines of a game's text, and of what follows it, that begin with `[Result `: the game's own one first
pub game_found : (t : Tags) (s : State) (rest : List ℕ) → AreTagTexts t → IsSound s.start → IsLine s.start s.moves
    → result_lines (pgn [] t s ++ rest) ≡ result_tag (outcome_now s) ∷ result_lines rest
unfolding pgn
game_found t s rest texts sound line =
    let tags : List (List ℕ) = tag_lines t s in
    let moves : List (List ℕ) = lines_of (game_tokens s) in
    let inner = inner_game s sound line in
    let empty : AreLines ([] ∷ []) = (refl, tt) in
    let are : AreLines (tags ++ [] ∷ moves ++ [] ∷ []) =
    all_joined (λ l. list_all in_line l ≡ true) (tags ++ [] ∷ moves) ([] ∷ [])
    (all_joined (λ l. list_all in_line l ≡ true) tags ([] ∷ moves) (tags_in_line t s texts sound)
    (refl, inner_lines moves inner)) empty in
    lines_found (tags ++ [] ∷ moves ++ [] ∷ []) rest are
    ∙ ap (λ found. found ++ result_lines rest)
    (filter-append is_result (tags ++ [] ∷ moves) ([] ∷ [])
    ∙ append-nil (filter is_result (tags ++ [] ∷ moves))
    ∙ filter-append is_result tags ([] ∷ moves)
    ∙ ap (λ found. filter is_result tags ++ found) (none_found moves inner)
    ∙ append-nil (filter is_result tags)
    ∙ tag_found t s)
