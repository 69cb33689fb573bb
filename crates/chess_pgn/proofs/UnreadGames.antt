-- A game with a fault at what can't be read has no end (unread_have_no_end, a law): the split of the text stops there,
-- and no token before ends the game, since reading continued after each. By induction on the tokens.
use Rattle.std.proofs.Common.{◌≡◌, ℕ, ◌+◌, ◌-◌, ◌<◌, ◌≤◌, Bool, true, false, cond, not, List, [], ◌∷◌, ◌++◌, length, take, drop, Option, Some, None, Result, Ok, Err, IfErr, refl, sym, ap, subst, ◌∙◌, arith, bytes_eq, codes, if◌then◌else◌, is_some, nat_lt, option_map, slice_get, length-append, length-drop}
use Rattle.std.specs.List.{cons_option, filter_map, list_all, list_any}
use Rattle.std.proofs.lemmas.Bool.{and_parts}
use Rattle.std.specs.Option.{option_map_or}
use Rattle.byte_devices.specs.Bytes.{after_byte_order_mark, is_digit}
use Rattle.chess_base.specs.{declared.fen_fault.FenFault.FenFault, declared.setup.Setup.Setup}
use Rattle.chess_fen.specs.Reading.{fen_reading_as}
use Rattle.chess_game.specs.Game.{from_start, played, current}
use Rattle.chess_game.specs.declared.results.Outcome.{Outcome}
use Rattle.chess_text.specs.{declared.reading.Reading.Reading, Moves.reading}
use Rattle.chess_text.specs.declared.reading.Reading.TheVariants as reads
use Rattle.pgn_writer.specs.Outcomes.{outcome_of}
use Rattle.chess_pgn.specs.{declared.read.PgnEnd.PgnEnd, declared.read.PgnFault.PgnFault, declared.read.PgnFaultKind.PgnFaultKind, GameEnds.ends_at, GameEnds.game_end, GameRead.GameRead, GameRead.ending, GameRead.tagged_variant, laws.Unreadable.is_unreadable, laws.Unreadable.UnreadableGamesHaveNoEnd, laws.WordKinds.word_kind}
use Rattle.pgn_tokens.specs.{LastTags.may_precede_tags, LastTags.tag_section, Marks.is_marks, TagsPassed.after_tags}
use Rattle.chess_pgn.specs.declared.read.PgnFaultKind.TheVariants.{BadFen, BadToken, IllegalMove, AmbiguousMove, AfterEnd, TooLong, NoResult}
use Rattle.chess_pgn.specs.declared.word_kind.WordKind.TheVariants.{End, Number, Marks, Move}
use Rattle.chess_pgn.specs.laws.TokenByToken.{SoFar, Step, On, fails, unless_full, move_step, word_step, fen_step, tag_step, termination_after, step, read_rest_with, game_of, nothing_read, tokens_read}
use Rattle.pgn_tokens.specs.Tokens.{Token, Skip, Tag, Word, is_word_byte, begins_line, tokens_from}
use Rattle.pgn_tokens.specs.Split.{IsToken, blank, line, comment, glyph, variation, tag, asterisk, word, IsFaultOf, inner_comment, other, IsSplit, ended, token, stopped}
use Rattle.pgn_tokens.proofs.{shared.Bytes.pick, shared.Tags.tags_end, shared.Tags.tags_on, shared.Tokens.read_split}
use Rattle.chess_pgn.proofs.{GameEnds.first_end, GamesByTags.reads_alike, StepKinds.word_cases}

-- ---- answers

-- the answer with this fault; and that without one
abbrev faulty : PgnFault → Result (Option PgnEnd) PgnFault
faulty f = Err f

abbrev well : Option PgnEnd → Result (Option PgnEnd) PgnFault
well o = Ok o

same_fault : (f g : PgnFault) → faulty f ≡ faulty g → f ≡ g
same_fault f g e = cc

never_well : (o : Option PgnEnd) (f : PgnFault) → well o ≡ faulty f → ⊥
never_well o f e = cc

-- a fault at what can be read is none at what can't
never : (text : List ℕ) (at : ℕ) (kind : PgnFaultKind) (f : PgnFault) → is_unreadable text at kind ≡ false
    → faulty (record { kind = kind; offset = at }) ≡ faulty f → is_unreadable text f.offset f.kind ≡ true → ⊥
never text at kind f readable e h =
    let same : f ≡ record { kind = kind; offset = at } = sym (same_fault (record { kind = kind; offset = at }) f e) in
    let no : true ≡ false =
    sym h ∙ ap (λ (g : PgnFault). is_unreadable text g.offset g.kind) same ∙ readable in absurd (cc)

-- ---- one token

-- the tokens among which the end is looked for: once a game is begun all, before that those after its tags
abbrev left_over : Bool → List (ℕ × Token) → List (ℕ × Token)
left_over begun tokens = cond begun tokens (after_tags tokens)

-- a token that doesn't end the game, and after which tags may come
passed : (total n : ℕ) (t : Token) (ts : List (ℕ × Token)) (begun : Bool) → ends_at total (n, t) ≡ None
    → may_precede_tags t ≡ true → first_end total (left_over begun ts) ≡ None
    → first_end total (left_over begun ((n, t) ∷ ts)) ≡ None
passed total n t ts true none may h = ap (λ o. slice_get (cons_option o (filter_map (ends_at total) ts)) 0) none ∙ h
passed total n t ts false none may h = ap (first_end total) (tags_on (n, t) ts (sym may)) ∙ h

-- one after which none may come
stayed : (total n : ℕ) (t : Token) (ts : List (ℕ × Token)) (begun : Bool) → ends_at total (n, t) ≡ None
    → may_precede_tags t ≡ false → first_end total ts ≡ None
    → first_end total (left_over begun ((n, t) ∷ ts)) ≡ None
stayed total n t ts true none may h = ap (λ o. slice_get (cons_option o (filter_map (ends_at total) ts)) 0) none ∙ h
stayed total n t ts false none may h =
    ap (first_end total) (tags_end (n, t) ts may)
    ∙ ap (λ o. slice_get (cons_option o (filter_map (ends_at total) ts)) 0) none ∙ h

-- if reading the game stopped at what can't be read, no token before ends the game: by induction on the split of the
-- text, from its end
module _ (draws : Bool) (limit : ℕ) (text : List ℕ) where
  abbrev HasNoEnd : Bool → List (ℕ × Token) → Type 0
  HasNoEnd begun tokens = first_end (length text) (left_over begun tokens) ≡ None

  -- what is to be shown of these tokens
  abbrev Later : List (ℕ × Token) → Type 0
  Later tokens = (g : SoFar) (f : PgnFault) → (game_of draws limit (length text) g tokens).answer ≡ faulty f
      → is_unreadable text f.offset f.kind ≡ true → HasNoEnd g.is_begun tokens

  module _ (at : ℕ) (ts : List (ℕ × Token)) (later : Later ts) (g : SoFar) where
    -- and of one token more, by what it does
    abbrev Leaves : Token → Step → Type 0
    Leaves t s = (f : PgnFault)
        → (read_rest_with s (λ h. game_of draws limit (length text) h ts)).answer ≡ faulty f
        → is_unreadable text f.offset f.kind ≡ true → HasNoEnd g.is_begun ((length text - at, t) ∷ ts)

    by_fault : (t : Token) (kind : PgnFaultKind) (offset : ℕ) → is_unreadable text offset kind ≡ false
        → Leaves t (fails g kind offset)
    by_fault t kind offset readable f e h = absurd (never text offset kind f readable e h)

    skipped : Leaves Skip (On g)
    skipped f e h = passed (length text) (length text - at) Skip ts g.is_begun refl refl (later g f e h)

    -- a tag
    module _ (name string : List ℕ) (left : ℕ) where
      by_tag : (next : SoFar) → next.is_begun ≡ false → g.is_begun ≡ false → Leaves (Tag name string left) (On next)
      by_tag next before first f e h =
          subst (λ b. HasNoEnd b ((length text - at, Tag name string left) ∷ ts)) (sym first)
          (ap (first_end (length text)) (tags_on (length text - at, Tag name string left) ts refl)
          ∙ subst (λ b. HasNoEnd b ts) before (later next f e h))

      by_fen : (offset : ℕ) (r : Result Setup FenFault) → g.is_begun ≡ false
          → Leaves (Tag name string left) (fen_step g offset r)
      by_fen offset (Ok start) first = by_tag (record g { state = from_start start; is_met = true }) first first
      by_fen offset (Err fault) first = by_fault (Tag name string left) (BadFen fault) offset refl

      tagged : Leaves (Tag name string left) (step draws limit (length text) g (length text - at)
          (Tag name string left))
      tagged = by_begun g.is_begun refl
        where
          by_begun : (b : Bool) → g.is_begun ≡ b → Leaves (Tag name string left) (cond b
              (fails g NoResult (length text - (length text - at))) (tag_step g name string (length text - left)))
          by_begun true first = by_fault (Tag name string left) NoResult (length text - (length text - at)) refl
          by_begun false first = pick (Leaves (Tag name string left)) (bytes_eq name (codes "FEN")) _ _
              (λ _. by_fen (length text - left) (fen_reading_as g.state.start.variant string) first)
              (λ _. by_tag (record g { is_met = true; termination = termination_after g.termination name string })
              first first)

    -- a word, which begins with a byte of words, and is no outcome
    module _ (w : List ℕ) (within : at ≤ length text)
        (begins : list_any is_word_byte (take 1 (drop at text)) ≡ true) (none : outcome_of w ≡ None) where
      ends_none : ends_at (length text) (length text - at, Word w) ≡ None
      ends_none = ap (option_map (λ outcome. length text - (length text - at) + length w)) none

      full : (offset : ℕ) (next : Step) → Leaves (Word w) next → Leaves (Word w) (unless_full draws limit g offset next)
      full offset next h = pick (Leaves (Word w)) (is_some (ending draws g.state)) _ _
          (λ _. by_fault (Word w) AfterEnd offset refl)
          (λ _. pick (Leaves (Word w)) (nat_lt (length g.state.moves) limit) _ _ (λ _. h)
          (λ _. by_fault (Word w) TooLong offset refl))

      begun : (next : SoFar) → next.is_begun ≡ true → may_precede_tags (Word w) ≡ false → Leaves (Word w) (On next)
      begun next is may f e h =
          stayed (length text) (length text - at) (Word w) ts g.is_begun ends_none may
          (subst (λ b. HasNoEnd b ts) is (later next f e h))

      by_reading : (r : Reading) → may_precede_tags (Word w) ≡ false
          → Leaves (Word w) (move_step draws limit g (length text - (length text - at)) r)
      by_reading reads.NotAMove may =
          let back : length text - (length text - at) ≡ at = omega (arith, within) in
          by_fault (Word w) BadToken (length text - (length text - at))
          (ap (λ k. not (list_any is_word_byte (take 1 (drop k text)))) back ∙ ap not begins)
      by_reading (reads.Move m) may = full (length text - (length text - at))
          (On (record g { state = played g.state m; is_met = true; is_begun = true }))
          (begun (record g { state = played g.state m; is_met = true; is_begun = true }) refl may)
      by_reading reads.Ambiguous may = full (length text - (length text - at))
          (fails g AmbiguousMove (length text - (length text - at)))
          (by_fault (Word w) AmbiguousMove (length text - (length text - at)) refl)
      by_reading reads.NoSuch may = full (length text - (length text - at))
          (fails g IllegalMove (length text - (length text - at)))
          (by_fault (Word w) IllegalMove (length text - (length text - at)) refl)

      worded : Leaves (Word w) (step draws limit (length text) g (length text - at) (Word w))
      worded = word_cases
          (λ s may. may_precede_tags (Word w) ≡ may → Leaves (Word w) (s g (length text - (length text - at))))
          draws limit w
          (λ o may f e h. absurd (never_well _ f e))
          (λ may. begun (record g { is_met = true; is_begun = true }) refl may)
          (λ may f e h. passed (length text) (length text - at) (Word w) ts g.is_begun ends_none may (later g f e h))
          (λ may. by_reading (reading (current g.state) w) may) refl

    -- an outcome ends the game without a fault
    finished : (w : List ℕ) (o : Outcome) → outcome_of w ≡ Some o
        → Leaves (Word w) (step draws limit (length text) g (length text - at) (Word w))
    finished w o is f e h =
        let end : word_kind w ≡ End o =
        ap (λ k. option_map_or End k (if list_all is_digit w then Number else if is_marks w then Marks else Move)) is in
        absurd (never_well _ f (ap (λ k. (read_rest_with
        (word_step draws limit g (length text - (length text - at)) w k)
        (λ u. game_of draws limit (length text) u ts)).answer) (sym end) ∙ e))

  -- a word begins with a byte of words
  first_byte : (at : ℕ) (front rest : List ℕ) → drop at text ≡ front ++ rest → 0 < length front
      → list_all is_word_byte front ≡ true → list_any is_word_byte (take 1 (drop at text)) ≡ true
  first_byte at [] rest e some all = absurd (omega (arith, some))
  first_byte at (c ∷ front) rest e some all =
      let first : is_word_byte c ≡ true = (and_parts (is_word_byte c) (list_all is_word_byte front) all).0 in
      ap (λ xs. list_any is_word_byte (take 1 xs)) e ∙ rw first refl

  one_token : (at : ℕ) (rest : List ℕ) {front : List ℕ} {t : Token} (ts : List (ℕ × Token)) → Later ts
      → drop at text ≡ front ++ rest → IsToken (begins_line text at) (length rest) front t
      → Later ((length text - at, t) ∷ ts)
  one_token at rest ts later e (blank h) g = skipped at ts later g
  one_token at rest ts later e (line h k) g = skipped at ts later g
  one_token at rest ts later e (comment body h) g = skipped at ts later g
  one_token at rest ts later e (glyph h) g = skipped at ts later g
  one_token at rest ts later e (variation h) g = skipped at ts later g
  one_token at rest ts later e (tag {name} {opening} {string} {gap} {closing} o s k is) g =
      tagged at ts later g name string (length (string ++ closing) + length rest)
  one_token at rest ts later e asterisk g = λ f k h. absurd (never_well _ f k)
  one_token at rest ts later e (word {text = w} some all) g = by_outcome (outcome_of w) refl
    where
      within : at ≤ length text
      within = omega (arith, ap length e, length-append w rest, length-drop at text, some)

      by_outcome : (o : Option Outcome) → outcome_of w ≡ o
          → Leaves at ts later g (Word w) (step draws limit (length text) g (length text - at) (Word w))
      by_outcome None is = worded at ts later g w within (first_byte at w rest e some all) is
      by_outcome (Some o) is = finished at ts later g w o is

  -- ---- all tokens

  -- what can't be read ends no game
  last_one : {xs : List ℕ} {t : Token} (n : ℕ) (any : Bool) → IsFaultOf xs t → HasNoEnd any ((n, t) ∷ [])
  last_one n any comment = stayed (length text) n _ [] any refl refl refl
  last_one n any (inner_comment h) = stayed (length text) n _ [] any refl refl refl
  last_one n any (variation h) = stayed (length text) n _ [] any refl refl refl
  last_one n any tag = stayed (length text) n _ [] any refl refl refl
  last_one n any (other h) = stayed (length text) n _ [] any refl refl refl

  none_of_none : (any : Bool) → HasNoEnd any []
  none_of_none true = refl
  none_of_none false = refl

  no_end : {at : ℕ} {tokens : List (ℕ × Token)} → IsSplit text at tokens → Later tokens
  no_end (ended e) g f k h = none_of_none g.is_begun
  no_end (token {at} {front} {t} {tokens} (rest, e, is) longest more) g f k h =
      one_token at rest tokens (no_end more) e is g f k h
  no_end (stopped {at} {fault} none is) g f k h = last_one (length text - at) g.is_begun is

pub unread_have_no_end : UnreadableGamesHaveNoEnd
unread_have_no_end draws limit text at =
    let begin : ℕ = after_byte_order_mark text at in
    subst (λ (r : GameRead). IfErr r.answer (λ f. is_unreadable text f.offset f.kind ≡ true
    → game_end (length text) (tokens_from text begin) ≡ None)) (sym (reads_alike draws limit text at))
    (by_answer (tokens_read draws limit (length text) (tokens_from text begin)).answer
    (no_end draws limit text (read_split text begin)
    (nothing_read (tagged_variant (tag_section (tokens_from text begin))))))
  where
    by_answer : (r : Result (Option PgnEnd) PgnFault)
        → ((f : PgnFault) → r ≡ faulty f → is_unreadable text f.offset f.kind ≡ true
        → game_end (length text) (tokens_from text (after_byte_order_mark text at)) ≡ None)
        → IfErr r (λ f. is_unreadable text f.offset f.kind ≡ true
        → game_end (length text) (tokens_from text (after_byte_order_mark text at)) ≡ None)
    by_answer (Ok o) h = tt
    by_answer (Err f) h = h f refl
