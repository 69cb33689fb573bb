-- What the tags of a written game's text say. The text's tags are listed with their strings (tags_of), of which the
-- last `Result` is the outcome and the last `Variant` the variant's name, if any (result_string, variant_string).
-- Reading the text, the last tag with a name says what this list says (text_says), by induction on the list, since the
-- tokens after the tags stop the search (moves_stop).
use Rattle.std.proofs.Common.{◌≡◌, ℕ, ◌<◌, ◌≤◌, Bool, true, false, cond, eqb, List, [], ◌∷◌, ◌++◌, length, map, Option, Some, None, refl, ap, subst, ◌∙◌, append_assoc, arith, bytes_eq, leb-true, codes, decimal, not}
use Rattle.std.specs.{List.list_all, List.AllByRecursion, Option.option_map, Option.option_or}
use Rattle.chess_base.specs.{declared.man.Colour.Colour, declared.man.Colour.TheVariants.White, declared.man.Colour.TheVariants.Black, declared.man.Move.Move, declared.man.Variant.Variant, declared.man.Variant.TheVariants.Normal, declared.man.Variant.TheVariants.Fischerandom, declared.setup.Setup.Setup, Moves.after, Options.list_if, Sound.IsSound}
use Rattle.chess_fen.specs.Writing.{fen, is_initial}
use Rattle.chess_game.specs.{Game.State, Game.outcome_now, Results.outcome_text, declared.results.Outcome.Outcome}
use Rattle.chess_game.specs.declared.results.Outcome.TheVariants.{WhiteWins, BlackWins, Draw, Unfinished}
use Rattle.pgn_writer.specs.{declared.tags.Tags.Tags, declared.termination.Termination.Termination, GameText.tag_lines, GameText.game_tokens, shared.TagGroups.fen_lines, shared.TagGroups.start_lines_in, shared.TagGroups.last_lines, shared.NumberedMoves.number_if_due, shared.NumberedMoves.numbered_moves, Terminations.termination_text, Terminations.termination_of, shared.Lines.next_column, Written.escaped, Written.tag_line, Written.ended}
use Rattle.chess_pgn.specs.{declared.word_kind.WordKind.TheVariants.Number, laws.WordKinds.word_kind}
use Rattle.pgn_tokens.specs.LastTags.{may_precede_tags, named_tag}
use Rattle.chess_pgn_laws.specs.PgnLaw.{AreTagTexts}
use Rattle.pgn_tokens.specs.Tokens.{Token, Skip, Tag, Word, is_word_byte, token_at, tokens_of}
use Rattle.chess_text.specs.San.{san}
use Rattle.pgn_writer.proofs.{shared.GameTexts.game_numbered, shared.Lines.filled_from}
use Rattle.chess_pgn_laws.proofs.{PgnFen.fen_bare, PgnPieces.termination_bare, LastTexts.text_from}
use Rattle.chess_pgn_laws.proofs.PgnTags.{is_in_line, bare_in_line, is_tag_name, tag_token, tag_line_bytes, tag_text_in_line}
use Rattle.chess_pgn.proofs.shared.Words.{are_marks, marks_by_kind, number_kind}
use Rattle.pgn_tokens.proofs.shared.Tokens.{enough, shorter}
use Rattle.chess_pgn_laws.proofs.WrittenWords.{word_token, decimal_digits, decimal_some, number_bytes}

-- ---- tags by their names and texts

-- the lines of these tags
abbrev lines_of : List (List ℕ × List ℕ) → List (List ℕ)
lines_of tags = map (λ tag. tag_line tag.0 tag.1) tags

-- each has a name, and a text in one line
abbrev AreTags : List (List ℕ × List ℕ) → Type 0
AreTags tags = AllByRecursion (λ tag. (is_tag_name tag.0 ≡ true) × (list_all is_in_line tag.1 ≡ true)) tags

-- the string of the last of them with this name; `v` if there is none
abbrev pub string_of : List ℕ → Option (List ℕ) → List (List ℕ × List ℕ) → Option (List ℕ)
string_of name v [] = v
string_of name v (tag ∷ tags) = string_of name (cond (bytes_eq tag.0 name) (Some (escaped tag.1)) v) tags

-- the tags of a start that is not the initial position
abbrev fen_tags : Setup → List (List ℕ × List ℕ)
fen_tags start = (codes "FEN", fen start) ∷ (codes "SetUp", codes "1") ∷ []

-- the tags that give a game's start: none for the initial position of normal chess
abbrev start_tags : Variant → Setup → List (List ℕ × List ℕ)
start_tags Normal start = cond (is_initial start) [] (fen_tags start)
start_tags Fischerandom start = fen_tags start

-- the tags at the end: Termination, and Variant in Chess960
abbrev last_tags : Variant → Termination → List (List ℕ × List ℕ)
last_tags Normal t = (codes "Termination", termination_text t) ∷ []
last_tags Fischerandom t =
    (codes "Termination", termination_text t) ∷ (codes "Variant", codes "fischerandom") ∷ []

-- all tags of a game
abbrev pub tags_of : Tags → State → List (List ℕ × List ℕ)
tags_of t s =
    (codes "Event", t.event) ∷ (codes "Site", t.site) ∷ (codes "Date", t.date) ∷ (codes "Round", t.round)
    ∷ (codes "White", t.white) ∷ (codes "Black", t.black) ∷ (codes "Result", outcome_text (outcome_now s))
    ∷ (start_tags s.start.variant s.start ++ last_tags s.start.variant (termination_of t.ended (outcome_now s)))

-- the lines that are written are those of these tags
lines_are : (t : Tags) (s : State) → tag_lines t s ≡ lines_of (tags_of t s)
lines_are t s =
    ap (λ lines. tag_line (codes "Event") t.event ∷ tag_line (codes "Site") t.site ∷ tag_line (codes "Date") t.date
    ∷ tag_line (codes "Round") t.round ∷ tag_line (codes "White") t.white ∷ tag_line (codes "Black") t.black
    ∷ tag_line (codes "Result") (outcome_text (outcome_now s)) ∷ lines)
    (by_variant s.start.variant (termination_of t.ended (outcome_now s)))
  where
    by_test : (b : Bool) (u : Termination)
        → list_if (not b) (fen_lines s.start) ++ last_lines Normal u
        ≡ lines_of (cond b [] (fen_tags s.start) ++ last_tags Normal u)
    by_test true u = refl
    by_test false u = refl

    by_variant : (v : Variant) (u : Termination)
        → start_lines_in v s.start ++ last_lines v u ≡ lines_of (start_tags v s.start ++ last_tags v u)
    by_variant Normal u = by_test (is_initial s.start) u
    by_variant Fischerandom u = refl

pub outcome_in_line : (o : Outcome) → list_all is_in_line (outcome_text o) ≡ true
outcome_in_line WhiteWins = refl
outcome_in_line BlackWins = refl
outcome_in_line Draw = refl
outcome_in_line Unfinished = refl

-- the tags of a game have names, and texts in one line
are_tags : (t : Tags) → AreTagTexts t → (s : State) → IsSound s.start → AreTags (tags_of t s)
are_tags t texts s sound = (
  (refl, tag_text_in_line t.event texts.event),
  (
    (refl, tag_text_in_line t.site texts.site),
    (
      (refl, tag_text_in_line t.date texts.date),
      (
        (refl, tag_text_in_line t.round texts.round),
        (
          (refl, tag_text_in_line t.white texts.white),
          (
            (refl, tag_text_in_line t.black texts.black),
            (
              (refl, outcome_in_line (outcome_now s)),
              by_variant s.start.variant (termination_of t.ended (outcome_now s)),
            ),
          ),
        ),
      ),
    ),
  ),
)
  where
    start_in_line : list_all is_in_line (fen s.start) ≡ true
    start_in_line = bare_in_line (fen s.start) (fen_bare s.start sound)

    termination_in_line : (u : Termination) → list_all is_in_line (termination_text u) ≡ true
    termination_in_line u = bare_in_line (termination_text u) (termination_bare u)

    by_test : (b : Bool) (u : Termination) → AreTags (cond b [] (fen_tags s.start) ++ last_tags Normal u)
    by_test true u = ((refl, termination_in_line u), tt)
    by_test false u = ((refl, start_in_line), ((refl, refl), ((refl, termination_in_line u), tt)))

    by_variant : (v : Variant) (u : Termination) → AreTags (start_tags v s.start ++ last_tags v u)
    by_variant Normal u = by_test (is_initial s.start) u
    by_variant Fischerandom u =
        ((refl, start_in_line), ((refl, refl), ((refl, termination_in_line u), ((refl, refl), tt))))

-- the string of the tag Result, and of the tag Variant
pub result_string : (t : Tags) (s : State)
    → string_of (codes "Result") None (tags_of t s) ≡ Some (escaped (outcome_text (outcome_now s)))
result_string t s = by_variant s.start.variant (termination_of t.ended (outcome_now s))
  where
    found : Option (List ℕ)
    found = Some (escaped (outcome_text (outcome_now s)))

    by_test : (b : Bool) (u : Termination)
        → string_of (codes "Result") found (cond b [] (fen_tags s.start) ++ last_tags Normal u) ≡ found
    by_test true u = refl
    by_test false u = refl

    by_variant : (v : Variant) (u : Termination)
        → string_of (codes "Result") found (start_tags v s.start ++ last_tags v u) ≡ found
    by_variant Normal u = by_test (is_initial s.start) u
    by_variant Fischerandom u = refl

-- the string of the tag Variant: only Chess960 has it
abbrev pub variant_string_of : Variant → Option (List ℕ)
variant_string_of Normal = None
variant_string_of Fischerandom = Some (codes "fischerandom")

pub variant_string : (t : Tags) (s : State)
    → string_of (codes "Variant") None (tags_of t s) ≡ variant_string_of s.start.variant
variant_string t s = by_variant s.start.variant (termination_of t.ended (outcome_now s))
  where
    by_test : (b : Bool) (u : Termination)
        → string_of (codes "Variant") None (cond b [] (fen_tags s.start) ++ last_tags Normal u) ≡ None
    by_test true u = refl
    by_test false u = refl

    by_variant : (v : Variant) (u : Termination)
        → string_of (codes "Variant") None (start_tags v s.start ++ last_tags v u) ≡ variant_string_of v
    by_variant Normal u = by_test (is_initial s.start) u
    by_variant Fischerandom u = refl

-- the first of some lines, with its line feed, and what follows
line_first : (line : List ℕ) (lines : List (List ℕ)) (rest : List ℕ)
    → ended [] (line ∷ lines) ++ rest ≡ line ++ 10 ∷ (ended [] lines ++ rest)
line_first line lines rest =
    append_assoc (line ++ 10 ∷ []) (ended [] lines) rest ∙ append_assoc line (10 ∷ []) (ended [] lines ++ rest)

-- ---- tokens

module _ (name : List ℕ) where
  -- the string of the last tag of the name from a text on; `v` if there is none
  abbrev pub said_on : Option (List ℕ) → Bool → List ℕ → Option (List ℕ)
  said_on v begins text = text_from name v (tokens_of (length text) begins text)

  -- what a token says
  abbrev says : Option (List ℕ) → Token → Option (List ℕ)
  says v t = option_or (option_map (λ tag. tag.0) (named_tag name t)) v

  -- what is said once the token t and the rest of the text are known, as `text_from` goes on
  said_then : Option (List ℕ) → ℕ → Token × List ℕ → ℕ → Option (List ℕ)
  said_then v c t most = cond (may_precede_tags t.0) (text_from name (says v t.0) (tokens_of most (eqb c 10) t.1)) v

  -- a token that may precede tags: what it says replaces v, and reading goes on after it
  token_says : (v u : Option (List ℕ)) (begins : Bool) (c : ℕ) (rest : List ℕ) (token : Token) (more : List ℕ)
      → token_at begins c rest ≡ (token, more) → may_precede_tags token ≡ true → says v token ≡ u
      → said_on v begins (c ∷ rest) ≡ said_on u (eqb c 10) more
  unfolding tokens_of said_then
  token_says v u begins c rest token more is may said =
      let few : length more ≤ length rest = subst (λ (t : Token × List ℕ). length t.1 ≤ length rest) is
      (shorter begins c rest) in
      ap (λ (t : Token × List ℕ). said_then v c t (length rest)) is
      ∙ ap (λ b. cond b (text_from name (says v token) (tokens_of (length rest) (eqb c 10) more)) v) may
      ∙ ap (λ w. text_from name w (tokens_of (length rest) (eqb c 10) more)) said
      ∙ ap (text_from name u) (enough (length rest) (length more) (eqb c 10) more few (omega arith))

  -- a token that may not, such as a number: v is what the tags say
  token_stops : (v : Option (List ℕ)) (begins : Bool) (c : ℕ) (rest : List ℕ) (token : Token) (more : List ℕ)
      → token_at begins c rest ≡ (token, more) → may_precede_tags token ≡ false → said_on v begins (c ∷ rest) ≡ v
  unfolding tokens_of said_then
  token_stops v begins c rest token more is may =
      ap (λ (t : Token × List ℕ). said_then v c t (length rest)) is
      ∙ ap (λ b. cond b (text_from name (says v token) (tokens_of (length rest) (eqb c 10) more)) v) may

  -- a line feed says nothing
  line_end_says : (v : Option (List ℕ)) (begins : Bool) (rest : List ℕ)
      → said_on v begins (10 ∷ rest) ≡ said_on v true rest
  unfolding token_at
  line_end_says v true rest = token_says v v true 10 rest Skip rest refl refl refl
  line_end_says v false rest = token_says v v false 10 rest Skip rest refl refl refl

  -- ---- lines of tags, and an empty line

  -- lines of tags and an empty line, one after another
  tags_say : (v : Option (List ℕ)) (begins : Bool) (tags : List (List ℕ × List ℕ)) (rest : List ℕ) → AreTags tags
      → said_on v begins (ended [] (lines_of tags ++ [] ∷ []) ++ rest) ≡ said_on (string_of name v tags) true rest
  tags_say v begins [] rest are = line_end_says v begins rest
  tags_say v begins (tag ∷ tags) rest are =
      let more : List ℕ = ended [] (lines_of tags ++ [] ∷ []) ++ rest in
      let string : List ℕ = escaped tag.1 ++ 34 ∷ 93 ∷ 10 ∷ more in
      let u : Option (List ℕ) = cond (bytes_eq tag.0 name) (Some (escaped tag.1)) v in
      ap (said_on v begins) (line_first (tag_line tag.0 tag.1) (lines_of tags ++ [] ∷ []) rest
      ∙ tag_line_bytes tag.0 tag.1 (10 ∷ more))
      ∙ token_says v u begins 91 (tag.0 ++ 32 ∷ 34 ∷ string) (Tag tag.0 (escaped tag.1) (length string)) (10 ∷ more)
      (tag_token begins tag.0 tag.1 (10 ∷ more) are.0.0 are.0.1) refl
      (by_test (bytes_eq tag.0 name) (escaped tag.1) (length string))
      ∙ line_end_says u false more
      ∙ tags_say u true tags rest are.1
    where
      by_test : (b : Bool) (string : List ℕ) (left : ℕ)
          → option_or (option_map (λ (found : List ℕ × ℕ). found.0) (cond b (Some (string, left)) None)) v
          ≡ cond b (Some string) v
      by_test true string left = refl
      by_test false string left = refl

  -- ---- the first token of the moves

  -- an outcome stops the search; so does a number (number_stops), so do the moves of a game (moves_stop)
  outcome_stops : (v : Option (List ℕ)) (o : Outcome) (begins : Bool) (rest : List ℕ)
      → said_on v begins (outcome_text o ++ 10 ∷ rest) ≡ v
  unfolding token_at
  outcome_stops v WhiteWins begins rest = token_stops v begins 49 (45 ∷ 48 ∷ 10 ∷ rest) (Word (codes "1-0"))
      (10 ∷ rest) (word_token begins 49 (45 ∷ 48 ∷ []) 10 rest refl refl) refl
  outcome_stops v BlackWins begins rest = token_stops v begins 48 (45 ∷ 49 ∷ 10 ∷ rest) (Word (codes "0-1"))
      (10 ∷ rest) (word_token begins 48 (45 ∷ 49 ∷ []) 10 rest refl refl) refl
  outcome_stops v Draw begins rest = token_stops v begins 49 (47 ∷ 50 ∷ 45 ∷ 49 ∷ 47 ∷ 50 ∷ 10 ∷ rest)
      (Word (codes "1/2-1/2")) (10 ∷ rest)
      (word_token begins 49 (47 ∷ 50 ∷ 45 ∷ 49 ∷ 47 ∷ 50 ∷ []) 10 rest refl refl) refl
  outcome_stops v Unfinished true rest =
      token_stops v true 42 (10 ∷ rest) (Word (codes "*")) (10 ∷ rest) refl refl
  outcome_stops v Unfinished false rest =
      token_stops v false 42 (10 ∷ rest) (Word (codes "*")) (10 ∷ rest) refl refl

  digits_stop : (v : Option (List ℕ)) (word : List ℕ) (begins : Bool) (rest : List ℕ) → 0 < length word
      → list_all is_word_byte word ≡ true → word_kind word ≡ Number → said_on v begins (word ++ 46 ∷ rest) ≡ v
  digits_stop v [] begins rest some all kind = absurd (omega arith)
  digits_stop v (c ∷ cs) begins rest some all kind = token_stops v begins c (cs ++ 46 ∷ rest) (Word (c ∷ cs))
      (46 ∷ rest) (word_token begins c cs 46 rest all refl) (marks_by_kind (c ∷ cs) ∙ ap are_marks kind)

  number_stops : (v : Option (List ℕ)) (n : ℕ) (begins : Bool) (rest : List ℕ) → n ≤ 999999
      → said_on v begins (decimal n ++ 46 ∷ rest) ≡ v
  number_stops v n begins rest h =
      let digits = decimal_digits n h in
      digits_stop v (decimal n) begins rest (decimal_some n h) (number_bytes (decimal n) digits)
      (number_kind (decimal n) digits)

  moves_stop : (v : Option (List ℕ)) (p : Setup) (ms : List Move) (o : Outcome) (rest : List ℕ) → p.fullmove ≤ 999999
      → said_on v true (filled_from [] 0 (numbered_moves true p ms ++ outcome_text o ∷ []) ++ 10 ∷ rest) ≡ v
  moves_stop v p [] o rest few = by_outcome o
    where
      by_outcome : (o : Outcome) → said_on v true (filled_from [] 0 (outcome_text o ∷ []) ++ 10 ∷ rest) ≡ v
      by_outcome WhiteWins = outcome_stops v WhiteWins true (10 ∷ rest)
      by_outcome BlackWins = outcome_stops v BlackWins true (10 ∷ rest)
      by_outcome Draw = outcome_stops v Draw true (10 ∷ rest)
      by_outcome Unfinished = outcome_stops v Unfinished true (10 ∷ rest)
  moves_stop v p (m ∷ ms) o rest few = by_colour p.side
    where
      tail : List (List ℕ)
      tail = (san p m ∷ numbered_moves false (after p m) ms) ++ outcome_text o ∷ []

      dotted : (dots more : List ℕ) → said_on v true (((decimal p.fullmove ++ 46 ∷ dots) ++ more) ++ 10 ∷ rest) ≡ v
      dotted dots more =
          let text : ((decimal p.fullmove ++ 46 ∷ dots) ++ more) ++ 10 ∷ rest
          ≡ decimal p.fullmove ++ 46 ∷ (dots ++ (more ++ 10 ∷ rest)) = simp append_assoc in
          ap (said_on v true) text ∙ number_stops v p.fullmove true (dots ++ (more ++ 10 ∷ rest)) few

      by_colour : (c : Colour) → said_on v true (filled_from [] 0
          (((number_if_due c true p.fullmove ++ san p m ∷ []) ++ numbered_moves false (after p m) ms)
          ++ outcome_text o ∷ []) ++ 10 ∷ rest) ≡ v
      by_colour White = dotted [] (filled_from [] (next_column 0 (decimal p.fullmove ++ codes ".")) tail)
      by_colour Black = dotted (46 ∷ 46 ∷ []) (filled_from [] (next_column 0 (decimal p.fullmove ++ codes "...")) tail)

  -- ---- the whole text

  pub text_says : (t : Tags) → AreTagTexts t → (s : State) → IsSound s.start → (begins : Bool) (rest : List ℕ)
      → said_on None begins (ended [] (tag_lines t s ++ [] ∷ []) ++ (filled_from [] 0 (game_tokens s) ++ 10 ∷ rest))
      ≡ string_of name None (tags_of t s)
  text_says t texts s sound begins rest =
      let moves : List ℕ = filled_from [] 0 (game_tokens s) ++ 10 ∷ rest in
      ap (λ lines. said_on None begins (ended [] (lines ++ [] ∷ []) ++ moves)) (lines_are t s)
      ∙ tags_say None begins (tags_of t s) moves (are_tags t texts s sound)
      ∙ ap (λ ts. said_on (string_of name None (tags_of t s)) true (filled_from [] 0 ts ++ 10 ∷ rest)) (game_numbered s)
      ∙ moves_stop (string_of name None (tags_of t s)) s.start s.moves (outcome_now s) rest
      (leb-true s.start.fullmove 999999 sound.fullmove_high)
