-- What is read of a game is defined by its tags (the variant, the last `FEN`, `Termination`) and then its moves
-- (`pgn_read`); the code reads token by token, with a step for each. Both give the same (tokens_are, reads_alike): by
-- induction on the tokens after the tags, and then on the tags. As a text has only one split into tokens, what any
-- split says of the game is the same too (only_read, as_said).
use Rattle.std.proofs.Common.{◌≡◌, ℕ, suc, ◌+◌, ◌-◌, Bool, true, false, cond, List, [], ◌∷◌, ◌++◌, length, take, drop, Option, Some, None, Result, Ok, Err, refl, sym, ap, ◌∙◌, arith, bytes_eq, take-append-drop, append-nil, ◌&&◌, ◌||◌, nat_lt, is_some, codes, map, slice_get, option_and_then}
use Rattle.std.specs.List.{list_all, list_any, prefix_len, take_while, filter_map, cons_option, last_or}
use Rattle.std.specs.Option.{option_map_or, unwrap_or}
use Rattle.std.specs.Result.{ok_prefix, result_err, result_map_both}
use Rattle.std.proofs.{lemmas.Bool.and_parts, lemmas.List.Folds.length-prefix_len, lemmas.Slice.Eq.bytes_eq-Decides}
use Rattle.chess_base.specs.{declared.fen_fault.FenFault.FenFault, declared.man.Variant.Variant, declared.setup.Setup.Setup, Initial.initial_setup_of}
use Rattle.byte_devices.specs.Bytes.{is_digit, after_byte_order_mark}
use Rattle.chess_fen.specs.Reading.{fen_reading_as}
use Rattle.chess_game.specs.Game.{Seen, State, from_start, played, current, with_state as left_at}
use Rattle.chess_pgn.specs.{declared.read.PgnEnd.PgnEnd, declared.read.PgnFault.PgnFault, declared.read.PgnFaultKind.TheVariants.BadTag, declared.read.PgnFaultKind.TheVariants.BadFen, declared.word_kind.WordKind.WordKind, laws.WordKinds.word_kind}
use Rattle.pgn_tokens.specs.Marks.{is_marks}
use Rattle.chess_game.specs.declared.results.Outcome.{Outcome}
use Rattle.chess_text.specs.{declared.reading.Reading.Reading, Moves.reading}
use Rattle.chess_text.specs.declared.reading.Reading.TheVariants as reads
use Rattle.pgn_writer.specs.{declared.termination.Termination.Termination, Terminations.termination_named, Outcomes.outcome_of}
use Rattle.chess_pgn.specs.GameRead.{GameRead, ending, tagged_variant, pgn_read, failed, moves_read, fen_read, read_after_tags, read_of_split, IsRead}
use Rattle.chess_pgn.specs.shared.Rows.{Goes_on, Ends, move_row, row, after_row, with_fault, last_start}
use Rattle.pgn_tokens.specs.shared.TagsNamed.{tags_named}
use Rattle.chess_pgn.specs.laws.TokenByToken.{SoFar, Step, On, word_step, move_step, fen_step, step, read_rest_with, game_of, termination_after, tokens_read}
use Rattle.pgn_tokens.specs.LastTags.{says_nothing, may_precede_tags, tag_section, last_tag}
use Rattle.chess_pgn.specs.declared.word_kind.WordKind.TheVariants.{End, Number, Marks, Move}
use Rattle.pgn_tokens.specs.Tokens.{Token, Skip, Tag, Word, Bad_tag, Unclosed_comment, Unclosed_variation, Bad, tokens_from}
use Rattle.chess_pgn.proofs.{PgnWords.are_marks, PgnWords.marks_by_kind, FenVariants.initial_variant, FenVariants.read_variant, RowsRead.moves_by_row}
use Rattle.pgn_tokens.proofs.{shared.Bytes.run_passes, shared.Tokens.split_read}

-- ---- words, where `met` and `begun` say what came before them

abbrev so_far : Bool → Bool → Option Termination → State → SoFar
so_far met begun t s = record { state = s; is_met = met; is_begun = begun; termination = t }

-- what reading has found so far: here of a game whose numbers or moves have begun
abbrev started : Option Termination → State → SoFar
started t s = so_far true true t s

-- a word's step, read on from there (`later`), gives the same as its row of the table, read on from there (`next`)
module _ (draws : Bool) (limit total : ℕ) (termination : Option Termination) (met begun : Bool) (s : State)
    (later : SoFar → GameRead) (next : State → GameRead)
    (same : (r : State) → later (started termination r) ≡ next r) where
  by_reading : (left : ℕ) (word : List ℕ) (over room : Bool) (r : Reading)
      → is_some (ending draws s) ≡ over → nat_lt (length s.moves) limit ≡ room
      → read_rest_with (move_step draws limit (so_far met begun termination s) (total - left) r) later
      ≡ after_row termination s (move_row draws limit s (total - left) r) next
  by_reading left word over room reads.NotAMove o e = refl
  by_reading left word true room (reads.Move m) o e = rw o refl
  by_reading left word false true (reads.Move m) o e = rw (o, e) (same (played s m))
  by_reading left word false false (reads.Move m) o e = rw (o, e) refl
  by_reading left word true room reads.Ambiguous o e = rw o refl
  by_reading left word false true reads.Ambiguous o e = rw (o, e) refl
  by_reading left word false false reads.Ambiguous o e = rw (o, e) refl
  by_reading left word true room reads.NoSuch o e = rw o refl
  by_reading left word false true reads.NoSuch o e = rw (o, e) refl
  by_reading left word false false reads.NoSuch o e = rw (o, e) refl

  -- by the kind of a word, whatever kinds are
  by_kind : {K : Type 0} (left : ℕ) (word : List ℕ) (end : Outcome → K) (number marks move : K) (steps : K → Step)
      (o : Option Outcome) (is_number is_mark : Bool)
      → ((o : Outcome) → read_rest_with (steps (end o)) later
      ≡ after_row termination s (Ends o (total - left + length word)) next)
      → read_rest_with (steps number) later ≡ next s
      → (option_map_or end o (cond is_number number (cond is_mark marks move)) ≡ marks
      → read_rest_with (steps marks) later ≡ next s)
      → read_rest_with (steps move) later
      ≡ after_row termination s (move_row draws limit s (total - left) (reading (current s) word)) next
      → read_rest_with (steps (option_map_or end o (cond is_number number (cond is_mark marks move)))) later
      ≡ after_row termination s (option_map_or (λ k. Ends k (total - left + length word)) o
      (cond (is_number || is_mark) (Goes_on s) (move_row draws limit s (total - left) (reading (current s) word)))) next
  by_kind left word end number marks move steps (Some o) is_number is_mark e n m r = e o
  by_kind left word end number marks move steps None true is_mark e n m r = n
  by_kind left word end number marks move steps None false true e n m r = m refl
  by_kind left word end number marks move steps None false false e n m r = r

  by_word : (left : ℕ) (word : List ℕ)
      → (word_kind word ≡ Marks → later (so_far met begun termination s) ≡ next s)
      → read_rest_with (step draws limit total (so_far met begun termination s) left (Word word)) later
      ≡ after_row termination s (row draws limit total s (left, Word word)) next
  by_word left word marks =
      by_kind left word End Number Marks Move
      (λ k. word_step draws limit (so_far met begun termination s) (total - left) word k) (outcome_of word)
      (list_all is_digit word) (is_marks word) (λ o. refl) (same s) marks
      (by_reading left word (is_some (ending draws s)) (nat_lt (length s.moves) limit)
      (reading (current s) word) refl refl)

-- ---- after the tags

-- after the tags both read the same, token by token
moves_are : (draws : Bool) (limit total : ℕ) (termination : Option Termination) (s : State) (ts : List (ℕ × Token))
    → game_of draws limit total (started termination s) ts ≡ moves_read draws limit total termination s ts
moves_are draws limit total termination s [] = refl
moves_are draws limit total termination s (t ∷ ts) =
    by_token t.0 t.1 (λ r. moves_are draws limit total termination r ts)
    ∙ sym (moves_by_row draws limit total termination s t ts)
  where
    by_token : (left : ℕ) (t : Token)
        → ((r : State)
        → game_of draws limit total (started termination r) ts ≡ moves_read draws limit total termination r ts)
        → read_rest_with (step draws limit total (started termination s) left t) (λ g. game_of draws limit total g ts)
        ≡ after_row termination s (row draws limit total s (left, t))
        (λ r. moves_read draws limit total termination r ts)
    by_token left Skip same = same s
    by_token left (Tag name string at_string) same = refl
    by_token left (Word word) same =
        by_word draws limit total termination true true s (λ g. game_of draws limit total g ts)
        (λ r. moves_read draws limit total termination r ts) same left word (λ e. same s)
    by_token left Bad_tag same = refl
    by_token left (Unclosed_comment brace) same = refl
    by_token left Unclosed_variation same = refl
    by_token left Bad same = refl

-- ---- where the tags end

-- what the last tag Termination names
abbrev pub termination_in : List (ℕ × Token) → Option Termination
termination_in tags = option_and_then (λ tag. termination_named tag.0) (last_tag (codes "Termination") tags)

-- what is read after the tags, where `met` says whether there was one, and `termination` is what the last tag
-- Termination names
abbrev after_tags_by : Bool → ℕ → ℕ → Option Termination → State → Bool → List (ℕ × Token) → GameRead
after_tags_by draws limit total termination s met ((to_end, Bad_tag) ∷ rest) =
    failed s BadTag (total - to_end)
after_tags_by draws limit total termination s false [] = record { state = s; answer = Ok None }
after_tags_by draws limit total termination s met rest = moves_read draws limit total termination s rest

-- whether a token is a tag
abbrev is_tag : ℕ × Token → Bool
is_tag (to_end, Tag name string at_string) = true
is_tag _ = false

-- if tokens come after the tags, or if there was one
after_tags_is : (draws : Bool) (limit total : ℕ) (s : State) (tags rest : List (ℕ × Token))
    → (rest ≡ [] → list_any is_tag tags ≡ true)
    → read_after_tags draws limit total s tags rest
    ≡ after_tags_by draws limit total (termination_in tags) s (list_any is_tag tags) rest
after_tags_is draws limit total s tags [] met =
    ap (λ b. after_tags_by draws limit total (termination_in tags) s b []) (sym (met refl))
after_tags_is draws limit total s tags ((left, Skip) ∷ rest) met = refl
after_tags_is draws limit total s tags ((left, Tag name string at_string) ∷ rest) met = refl
after_tags_is draws limit total s tags ((left, Word word) ∷ rest) met = refl
after_tags_is draws limit total s tags ((left, Bad_tag) ∷ rest) met = refl
after_tags_is draws limit total s tags ((left, Unclosed_comment brace) ∷ rest) met = refl
after_tags_is draws limit total s tags ((left, Unclosed_variation) ∷ rest) met = refl
after_tags_is draws limit total s tags ((left, Bad) ∷ rest) met = refl

-- of tokens after which tags may come, one is a tag if one says something
one_is_tag : (tokens : List (ℕ × Token)) → list_all (λ t. may_precede_tags t.1) tokens ≡ true
    → list_all (λ t. says_nothing t.1) tokens ≡ false → list_any is_tag tokens ≡ true
one_is_tag [] all some = absurd (cc)
one_is_tag ((left, Skip) ∷ ts) all some = one_is_tag ts all some
one_is_tag ((left, Tag name string at_string) ∷ ts) all some = refl
one_is_tag ((left, Word word) ∷ ts) all some = by_marks (is_marks word) all some (one_is_tag ts)
  where
    by_marks : (b : Bool) → b && list_all (λ (t : ℕ × Token). may_precede_tags t.1) ts ≡ true
        → b && list_all (λ (t : ℕ × Token). says_nothing t.1) ts ≡ false
        → (list_all (λ (t : ℕ × Token). may_precede_tags t.1) ts ≡ true
        → list_all (λ (t : ℕ × Token). says_nothing t.1) ts ≡ false → list_any is_tag ts ≡ true)
        → list_any is_tag ts ≡ true
    by_marks true h k more = more h k
    by_marks false h k more = absurd (cc)
one_is_tag ((left, Bad_tag) ∷ ts) all some = absurd (cc)
one_is_tag ((left, Unclosed_comment brace) ∷ ts) all some = absurd (cc)
one_is_tag ((left, Unclosed_variation) ∷ ts) all some = absurd (cc)
one_is_tag ((left, Bad) ∷ ts) all some = absurd (cc)

-- what reading has found so far of a game of which only tags were read (`met`: at least one), and which starts at p
abbrev opened : Bool → Option Termination → Setup → SoFar
opened met termination p = so_far met false termination (from_start p)

-- no tags come first in these tokens: there are none, or the first can't be among tags
abbrev Stops : List (ℕ × Token) → Type 0
Stops [] = Unit {0}
Stops (t ∷ ts) = may_precede_tags t.1 ≡ false

-- the first token after the tags: from there on both read the same
first_token : (draws : Bool) (limit total : ℕ) (met : Bool) (termination : Option Termination) (s : State)
    (ts : List (ℕ × Token))
    (left : ℕ) (t : Token) → may_precede_tags t ≡ false
    → read_rest_with (step draws limit total (so_far met false termination s) left t)
    (λ g. game_of draws limit total g ts)
    ≡ after_tags_by draws limit total termination s met ((left, t) ∷ ts)
first_token draws limit total met termination s ts left Skip h = absurd (cc)
first_token draws limit total met termination s ts left (Tag name string at_string) h = absurd (cc)
first_token draws limit total met termination s ts left (Word word) h =
    by_word draws limit total termination met false s (λ g. game_of draws limit total g ts)
    (λ r. moves_read draws limit total termination r ts) (λ r. moves_are draws limit total termination r ts) left word
    (λ e. let no : true ≡ false = sym (ap are_marks e) ∙ sym (marks_by_kind word) ∙ h in absurd (cc))
    ∙ sym (moves_by_row draws limit total termination s (left, Word word) ts)
first_token draws limit total met termination s ts left Bad_tag h = refl
first_token draws limit total met termination s ts left (Unclosed_comment brace) h = refl
first_token draws limit total met termination s ts left Unclosed_variation h = refl
first_token draws limit total met termination s ts left Bad h = refl

-- so they do where the tags end
tags_end : (draws : Bool) (limit total : ℕ) (met : Bool) (termination : Option Termination) (p : Setup)
    (rest : List (ℕ × Token))
    → Stops rest → game_of draws limit total (opened met termination p) rest
    ≡ after_tags_by draws limit total termination (from_start p) met rest
tags_end draws limit total true termination p [] h = refl
tags_end draws limit total false termination p [] h = refl
tags_end draws limit total met termination p (t ∷ ts) h =
    first_token draws limit total met termination (from_start p) ts t.0 t.1 h

-- ---- the tags

-- what the last of these values gives, or else the one before
last_value : {A B : Type 0} (f : A → Option B) (o : Option A) (xs : List A) (d : Option B)
    → option_map_or f (last_or o xs) d ≡ option_map_or f (last_or None xs) (option_map_or f o d)
last_value f None [] d = refl
last_value f (Some a) [] d = refl
last_value f o (x ∷ xs) d = last_value f (Some x) xs d ∙ sym (last_value f (Some x) xs (option_map_or f o d))

-- the last of these values, or else the one before (`o`), or else `d`
last_unwrapped : {A : Type 0} (o : Option A) (xs : List A) (d : A)
    → unwrap_or (last_or o xs) d ≡ unwrap_or (last_or None xs) (unwrap_or o d)
last_unwrapped None [] d = refl
last_unwrapped (Some a) [] d = refl
last_unwrapped o (x ∷ xs) d = last_unwrapped (Some x) xs d ∙ sym (last_unwrapped (Some x) xs (unwrap_or o d))

-- what the last tag Termination names, where `before` is known before these tags
abbrev termination_from : Option Termination → List (ℕ × Token) → Option Termination
termination_from before tags =
    option_map_or (λ tag. termination_named tag.0) (last_or None (tags_named (codes "Termination") tags)) before

-- what a tag FEN gives, by how its text was read
abbrev with_place : ℕ → ℕ → Result Setup FenFault → Result Setup PgnFault
with_place total at_string r =
    result_map_both (λ start. start) (λ fault. record { kind = BadFen fault; offset = total - at_string }) r

-- how each tag `FEN` among these tags was read, in this variant
abbrev pub fens : ℕ → Variant → List (ℕ × Token) → List (Result Setup PgnFault)
fens total v tags = map (fen_read total v) (tags_named (codes "FEN") tags)

-- what the definition says of a game by its tags: the fault of the first bad FEN among `fs`, or what is read after the
-- tags in the game that starts at the last FEN's position. `p` is the start without a FEN
abbrev said : Bool → ℕ → ℕ → Option Termination → Setup → List (Result Setup PgnFault) → Bool → List (ℕ × Token)
    → GameRead
said draws limit total termination p fs met rest =
    option_map_or (with_fault (from_start (last_start p fs))) (slice_get (filter_map result_err fs) 0)
    (after_tags_by draws limit total termination (from_start (last_start p fs)) met rest)

-- reading tags and then `rest` token by token gives what these say together, if `before` and `p` are what tags before
-- them have said
abbrev Whole : Bool → ℕ → ℕ → Variant → Bool → Option Termination → Setup → List (ℕ × Token) → List (ℕ × Token) → Type 0
Whole draws limit total v met before p tags rest =
    game_of draws limit total (opened met before p) (tags ++ rest)
    ≡ said draws limit total (termination_from before tags) p (fens total v tags) (met || list_any is_tag tags) rest

-- a FEN that denotes a position gives the start, unless one after it does
next_start : (p q : Setup) (fs : List (Result Setup PgnFault)) → last_start p (Ok q ∷ fs) ≡ last_start q fs
next_start p q fs =
    last_unwrapped (Some q) (ok_prefix fs) p

module _ (draws : Bool) (limit total : ℕ) (v : Variant) (rest : List (ℕ × Token)) (stops : Stops rest) where
  no_tags : (met : Bool) (before : Option Termination) (p : Setup) → Whole draws limit total v met before p [] rest
  no_tags true before p = tags_end draws limit total true before p rest stops
  no_tags false before p = tags_end draws limit total false before p rest stops

  -- a tag FEN
  by_fen : (met : Bool) (before : Option Termination) (p : Setup) (left at_string : ℕ) (string : List ℕ)
      (tags : List (ℕ × Token)) (r : Result Setup FenFault) → fen_reading_as v string ≡ r
      → ((q : Setup) → q.variant ≡ v → Whole draws limit total v true before q tags rest)
      → read_rest_with (fen_step (opened met before p) (total - at_string) r)
      (λ g. game_of draws limit total g (tags ++ rest))
      ≡ said draws limit total (termination_from before tags) p
      (with_place total at_string r ∷ fens total v tags) true rest
  by_fen met before p left at_string string tags (Ok q) e later =
      later q (read_variant v string q e)
      ∙ ap (λ t. option_map_or (with_fault (from_start t)) (slice_get (filter_map result_err (fens total v tags)) 0)
      (after_tags_by draws limit total (termination_from before tags) (from_start t) true rest))
      (sym (next_start p q (fens total v tags)))
  by_fen met before p left at_string string tags (Err f) e later = refl

  or_true : (b x : Bool) → (b || (true || x)) ≡ true
  or_true true x = refl
  or_true false x = refl

  termination_step : (before : Option Termination) (left at_string : ℕ) (name string : List ℕ) (tags : List (ℕ × Token))
      → termination_from before ((left, Tag name string at_string) ∷ tags)
      ≡ termination_from (termination_after before name string) tags
  termination_step before left at_string name string tags = by_test (bytes_eq name (codes "Termination"))
    where
      by_test : (b : Bool)
          → option_map_or (λ (tag : List ℕ × ℕ). termination_named tag.0)
          (last_or None (cons_option (cond b (Some (string, at_string)) None)
          (tags_named (codes "Termination") tags))) before
          ≡ termination_from (cond b (termination_named string) before) tags
      by_test true = last_value (λ (tag : List ℕ × ℕ). termination_named tag.0) (Some (string, at_string))
          (tags_named (codes "Termination") tags) before
      by_test false = refl

  one_tag : (met : Bool) (before : Option Termination) (p : Setup) (left at_string : ℕ) (name string : List ℕ)
      (tags : List (ℕ × Token)) → p.variant ≡ v
      → ((t : Option Termination) (q : Setup) → q.variant ≡ v → Whole draws limit total v true t q tags rest)
      → Whole draws limit total v met before p ((left, Tag name string at_string) ∷ tags) rest
  one_tag met before p left at_string name string tags of later = by_test (bytes_eq name (codes "FEN")) refl
    where
      by_test : (b : Bool) → bytes_eq name (codes "FEN") ≡ b
          → Whole draws limit total v met before p ((left, Tag name string at_string) ∷ tags) rest
      by_test true e =
          let is : name ≡ codes "FEN" = (bytes_eq-Decides name (codes "FEN")).0 e in
          let no_end : bytes_eq name (codes "Termination") ≡ false = ap (λ n. bytes_eq n (codes "Termination")) is in
          rw (e, no_end, or_true met (list_any is_tag tags))
          (ap (λ u. read_rest_with (fen_step (opened met before p) (total - at_string) (fen_reading_as u string))
          (λ g. game_of draws limit total g (tags ++ rest))) of
          ∙ by_fen met before p left at_string string tags (fen_reading_as v string) refl (λ q k. later before q k))
      by_test false e =
          ap (λ b. read_rest_with
          (cond b (fen_step (opened met before p) (total - at_string) (fen_reading_as p.variant string))
          (On (record (opened met before p) { is_met = true; termination = termination_after before name string })))
          (λ g. game_of draws limit total g (tags ++ rest))) e
          ∙ later (termination_after before name string) p of
          ∙ rw (e, or_true met (list_any is_tag tags), termination_step before left at_string name string tags) refl

  marks_are : (k : WordKind) → are_marks k ≡ true → k ≡ Marks
  marks_are (End o) h = absurd (cc)
  marks_are Number h = absurd (cc)
  marks_are Marks h = refl
  marks_are Move h = absurd (cc)

  one_token : (met : Bool) (before : Option Termination) (p : Setup) (left : ℕ) (t : Token) (tags : List (ℕ × Token))
      → p.variant ≡ v → may_precede_tags t ≡ true
      → ((m : Bool) (t : Option Termination) (q : Setup) → q.variant ≡ v → Whole draws limit total v m t q tags rest)
      → Whole draws limit total v met before p ((left, t) ∷ tags) rest
  one_token met before p left Skip tags of h later = later met before p of
  one_token met before p left (Tag name string at_string) tags of h later =
      one_tag met before p left at_string name string tags of (λ t q k. later true t q k)
  one_token met before p left (Word word) tags of h later =
      ap (λ k. read_rest_with (word_step draws limit (opened met before p) (total - left) word k)
      (λ g. game_of draws limit total g (tags ++ rest))) (marks_are (word_kind word) (sym (marks_by_kind word) ∙ h))
      ∙ later met before p of
  one_token met before p left Bad_tag tags of h later = absurd (cc)
  one_token met before p left (Unclosed_comment brace) tags of h later = absurd (cc)
  one_token met before p left Unclosed_variation tags of h later = absurd (cc)
  one_token met before p left Bad tags of h later = absurd (cc)

  all_tags : (met : Bool) (before : Option Termination) (p : Setup) (tags : List (ℕ × Token)) → p.variant ≡ v
      → list_all (λ t. may_precede_tags t.1) tags ≡ true → Whole draws limit total v met before p tags rest
  all_tags met before p [] of h = no_tags met before p
  all_tags met before p (t ∷ tags) of h =
      let both = and_parts (may_precede_tags t.1) (list_all (λ (u : ℕ × Token). may_precede_tags u.1) tags) h in
      one_token met before p t.0 t.1 tags of both.0 (λ m e q k. all_tags m e q tags k both.1)

-- ---- where the tags end in a list of tokens

-- what comes after all tokens that may be among tags begins with no such token
tags_stop : (xs : List (ℕ × Token))
    → Stops (drop (length (take_while (λ (t : ℕ × Token). may_precede_tags t.1) xs)) xs)
tags_stop [] = tt
tags_stop (t ∷ ts) = by_test (may_precede_tags t.1) refl (tags_stop ts)
  where
    n : ℕ
    n = prefix_len (λ (u : ℕ × Token). may_precede_tags u.1) ts

    by_test : (b : Bool) → may_precede_tags t.1 ≡ b → Stops (drop (length (take n ts)) ts)
        → Stops (drop (length (take (cond b (1 + n) 0) (t ∷ ts))) (t ∷ ts))
    by_test true e more =
        let next : 1 + n ≡ suc n = omega arith in
        rw next more
    by_test false e more = e

-- the first elements that pass a test, and the others, are the list
rest_is : (p : ℕ × Token → Bool) (xs : List (ℕ × Token)) → take_while p xs ++ drop (length (take_while p xs)) xs ≡ xs
rest_is p xs = ap (λ n. take_while p xs ++ drop n xs) (length-prefix_len p xs) ∙ take-append-drop (prefix_len p xs) xs

-- what a last tag Termination names, in the two forms in which the definitions have it
none_before : (o : Option (List ℕ × ℕ)) → option_map_or (λ (tag : List ℕ × ℕ). termination_named tag.0) o None
    ≡ option_and_then (λ (tag : List ℕ × ℕ). termination_named tag.0) o
none_before None = refl
none_before (Some tag) = refl

-- tokens that say nothing of a game
nothing_read_of : (draws : Bool) (limit total : ℕ) (v : Variant) (p : Setup) (termination : Option Termination)
    (tokens : List (ℕ × Token)) → list_all (λ t. says_nothing t.1) tokens ≡ true
    → game_of draws limit total (opened false termination p) tokens ≡ record { state = from_start p; answer = Ok None }
nothing_read_of draws limit total v p termination [] h = refl
nothing_read_of draws limit total v p termination ((left, Skip) ∷ ts) h =
    nothing_read_of draws limit total v p termination ts h
nothing_read_of draws limit total v p termination ((left, Word word) ∷ ts) h =
    let both = and_parts (is_marks word) (list_all (λ (t : ℕ × Token). says_nothing t.1) ts) h in
    ap (λ k. read_rest_with (word_step draws limit (opened false termination p) (total - left) word k)
    (λ g. game_of draws limit total g ts)) (marks_are draws limit total v [] tt (word_kind word)
    (sym (marks_by_kind word) ∙ both.0))
    ∙ nothing_read_of draws limit total v p termination ts both.1
nothing_read_of draws limit total v p termination ((left, Tag name string at_string) ∷ ts) h = absurd (cc)
nothing_read_of draws limit total v p termination ((left, Bad_tag) ∷ ts) h = absurd (cc)
nothing_read_of draws limit total v p termination ((left, Unclosed_comment brace) ∷ ts) h = absurd (cc)
nothing_read_of draws limit total v p termination ((left, Unclosed_variation) ∷ ts) h = absurd (cc)
nothing_read_of draws limit total v p termination ((left, Bad) ∷ ts) h = absurd (cc)

-- they give no start
no_start : (v : Variant) (name : List ℕ) (tokens : List (ℕ × Token)) → list_all (λ t. says_nothing t.1) tokens ≡ true
    → tags_named name (tag_section tokens) ≡ []
no_start v name [] h = refl
no_start v name (t ∷ ts) h =
    let both = and_parts (says_nothing t.1) (list_all (λ (u : ℕ × Token). says_nothing u.1) ts) h in
    by_token t.1 both.0 (no_start v name ts both.1)
  where
    n : ℕ
    n = prefix_len (λ (u : ℕ × Token). may_precede_tags u.1) ts

    next : 1 + n ≡ suc n
    next = omega arith

    by_token : (u : Token) → says_nothing u ≡ true → tags_named name (tag_section ts) ≡ []
        → tags_named name (tag_section ((t.0, u) ∷ ts)) ≡ []
    by_token Skip k more = rw next more
    by_token (Word word) k more = rw (k, next) more
    by_token (Tag other string at_string) k more = absurd (cc)
    by_token Bad_tag k more = absurd (cc)
    by_token (Unclosed_comment brace) k more = absurd (cc)
    by_token Unclosed_variation k more = absurd (cc)
    by_token Bad k more = absurd (cc)

-- what the tags and then the moves say of some tokens is what is read of them token by token
pub tokens_are : (draws : Bool) (limit total : ℕ) (ts : List (ℕ × Token))
    → read_of_split draws limit total ts ≡ tokens_read draws limit total ts
tokens_are draws limit total ts = by_nothing (list_all (λ (t : ℕ × Token). says_nothing t.1) ts) refl
  where
    v : Variant
    v = tagged_variant (tag_section ts)

    p : ℕ × Token → Bool
    p = λ (t : ℕ × Token). may_precede_tags t.1

    tags : List (ℕ × Token)
    tags = tag_section ts

    rest : List (ℕ × Token)
    rest = drop (length tags) ts

    s : State
    s = from_start (last_start (initial_setup_of v) (fens total v tags))

    met : list_all (λ (t : ℕ × Token). says_nothing t.1) ts ≡ false → rest ≡ [] → list_any is_tag tags ≡ true
    met some none =
        let all : tags ≡ ts = sym (ap (λ xs. tags ++ xs) none ∙ append-nil tags) ∙ rest_is p ts in
        one_is_tag tags (run_passes p ts) (ap (list_all (λ (t : ℕ × Token). says_nothing t.1)) all ∙ some)

    by_nothing : (b : Bool) → list_all (λ (t : ℕ × Token). says_nothing t.1) ts ≡ b
        → cond b (record { state = s; answer = Ok None })
        (option_map_or (with_fault s) (slice_get (filter_map result_err (fens total v tags)) 0)
        (read_after_tags draws limit total s tags rest))
        ≡ tokens_read draws limit total ts
    by_nothing true h =
        ap (λ (tagged : List (List ℕ × ℕ)). record {
          state = from_start (last_start (initial_setup_of v) (map (fen_read total v) tagged));
          answer = Ok None;
        }) (no_start v (codes "FEN") ts h)
        ∙ sym (nothing_read_of draws limit total v (initial_setup_of v) None ts h)
    by_nothing false h =
        ap (λ (r : GameRead). option_map_or (with_fault s) (slice_get (filter_map result_err (fens total v tags)) 0) r)
        (after_tags_is draws limit total s tags rest (met h))
        ∙ ap (λ e. said draws limit total e (initial_setup_of v) (fens total v tags) (list_any is_tag tags) rest)
        (sym (none_before (last_or None (tags_named (codes "Termination") tags))))
        ∙ sym (all_tags draws limit total v rest (tags_stop ts) false None (initial_setup_of v) tags (initial_variant v)
        (run_passes p ts))
        ∙ ap (game_of draws limit total (opened false None (initial_setup_of v))) (rest_is p ts)

-- what is read of a text is what is read of it token by token
pub reads_alike : (draws : Bool) (limit : ℕ) (text : List ℕ) (at : ℕ)
    → pgn_read draws limit text at ≡ tokens_read draws limit (length text)
    (tokens_from text (after_byte_order_mark text at))
unfolding pgn_read
reads_alike draws limit text at =
    tokens_are draws limit (length text) (tokens_from text (after_byte_order_mark text at))

-- anything that a split of the text says of the game is what is read of it, as a text has only one split
pub only_read : (draws : Bool) (limit : ℕ) (text : List ℕ) (at : ℕ) (r : GameRead) → IsRead draws limit text at r
    → r ≡ pgn_read draws limit text at
unfolding pgn_read
only_read draws limit text at r h =
    h.is ∙ ap (read_of_split draws limit (length text)) (split_read text h.split)

-- so a result and a game that were read are what any such reading says; for the clause `said` of `read_pgn`
pub as_said : (draws : Bool) (limit : ℕ) (text : List ℕ) (at : ℕ) (old new : Seen)
    (result : Result (Option PgnEnd) PgnFault)
    → result ≡ (pgn_read draws limit text at).answer → new ≡ left_at old (pgn_read draws limit text at).state
    → (r : GameRead) → IsRead draws limit text at r → (result ≡ r.answer) × (new ≡ left_at old r.state)
as_said draws limit text at old new result answer state r is =
    let same : pgn_read draws limit text at ≡ r = sym (only_read draws limit text at r is) in
    (answer ∙ ap (λ (x : GameRead). x.answer) same, state ∙ ap (λ (x : GameRead). left_at old x.state) same)
