-- What reading does with each part of a written game's text (a number, a move in SAN, a termination marker, a line of a
-- tag). Each is one token, besides dots and the line's end, whose step in the reader is computed: it takes the state to
-- the state with that part (Takes, TakesLine), or ends the game (outcome_ends). PgnMoves and PgnWhole put them
-- together.
use Rattle.std.proofs.Common.{◌≡◌, ℕ, suc, ◌+◌, ◌-◌, ◌<◌, ◌≤◌, Bool, true, false, eqb, List, [], ◌∷◌, ◌++◌, length, Option, Some, None, refl, ap, subst, ◌∙◌, append_assoc, arith, bytes_eq, Ok, is_some, codes, decimal, IsTrue, nat_lt}
use Rattle.std.specs.List.{list_all}
use Rattle.std.proofs.{lemmas.Bool.and_parts, lemmas.Bool.Decides.nat_tests}
use Rattle.chess_base.specs.{declared.man.Move.Move, declared.setup.Setup.Setup, Sound.IsSound, Moves.is_legal}
use Rattle.chess_fen.specs.{Reading.fen_reading_as, Writing.fen}
use Rattle.chess_fen_laws.specs.Laws.{WrittenIsReadBack}
use Rattle.chess_game.specs.Game.{State, from_start, played, current, verdict_now}
use Rattle.chess_game.specs.{Results.outcome_text, declared.results.Outcome.Outcome}
use Rattle.chess_game.specs.declared.results.Outcome.TheVariants.{WhiteWins, BlackWins, Draw, Unfinished}
use Rattle.pgn_writer.specs.{declared.termination.Termination.Termination, Terminations.termination_text, Terminations.termination_named, Written.escaped, Written.tag_line}
use Rattle.pgn_writer.specs.declared.termination.Termination.TheVariants as ending
use Rattle.chess_pgn.specs.{GameRead.GameRead, GameRead.declared_after, laws.WordKinds.word_kind}
use Rattle.chess_pgn.specs.laws.TokenByToken.{SoFar, On, Stop, move_step, word_step, fen_step, step, read_rest_with, game_of}
use Rattle.chess_text.specs.{Moves.reading, San.san}
use Rattle.pgn_tokens.specs.Tokens.{Token, Skip, Tag, Word, is_word_byte, token_at, tokens_of}
use Rattle.chess_pgn_laws.proofs.PgnFen.{fen_bare}
use Rattle.chess_pgn_laws.proofs.PgnTags.{is_in_line, is_bare, bare_escaped, bare_in_line, is_tag_name, tag_token, tag_line_bytes}
use Rattle.pgn_tokens.proofs.{shared.Bytes.differs, shared.Tokens.enough, shared.Tokens.shorter}
use Rattle.chess_pgn.proofs.{shared.Games.still_open, shared.Words.number_kind}
use Rattle.chess_pgn_laws.proofs.WrittenWords.{word_token, move_kind, decimal_digits, decimal_some, number_bytes, san_bytes_in_word}
use Rattle.chess_text.proofs.shared.San.{san_read, san_short, san_bytes, san_letter}

-- reading goes on with a text, where a line begins or not
abbrev pub read_on : Bool → ℕ → ℕ → SoFar → Bool → List ℕ → GameRead
read_on draws limit total g begins text = game_of draws limit total g (tokens_of (length text) begins text)

-- ---- the game so far

-- with its tags, or some of them
abbrev pub tagged : Bool → Option Termination → State → SoFar
tagged met t s = record { state = s; is_met = met; is_begun = false; termination = t }

-- after a number
abbrev pub begun : SoFar → SoFar
begun g = record { state = g.state; is_met = true; is_begun = true; termination = g.termination }

-- after a move
abbrev pub moved : SoFar → Move → SoFar
moved g m = record { state = played g.state m; is_met = true; is_begun = true; termination = g.termination }

-- ended by an outcome's word
abbrev pub ended_game : Option Termination → State → Outcome → ℕ → GameRead
ended_game t s o offset = record {
  state = record s { declared = declared_after (is_some (verdict_now s)) o };
  answer = Ok (Some (record { outcome = o; termination = t; offset = offset }));
}

-- ---- the termination that a tag names

-- the texts of terminations have no byte that is escaped, and name their termination again (termination_back)
pub termination_bare : (u : Termination) → list_all is_bare (termination_text u) ≡ true
termination_bare ending.Abandoned = refl
termination_bare ending.Adjudication = refl
termination_bare ending.Death = refl
termination_bare ending.Emergency = refl
termination_bare ending.Normal = refl
termination_bare ending.RulesInfraction = refl
termination_bare ending.TimeForfeit = refl
termination_bare ending.Unterminated = refl

termination_back : (u : Termination) → termination_named (termination_text u) ≡ Some u
unfolding termination_named
termination_back ending.Abandoned = refl
termination_back ending.Adjudication = refl
termination_back ending.Death = refl
termination_back ending.Emergency = refl
termination_back ending.Normal = refl
termination_back ending.RulesInfraction = refl
termination_back ending.TimeForfeit = refl
termination_back ending.Unterminated = refl

-- ---- one token

module _ (draws : Bool) (limit total : ℕ) where
  -- what follows the first token's step
  step_then : SoFar → ℕ → Token × List ℕ → ℕ → ℕ → GameRead
  step_then g c t left most = read_rest_with (step draws limit total g left t.0)
      (λ h. game_of draws limit total h (tokens_of most (eqb c 10) t.1))

  -- reading goes on after a token
  pub token_on : (g h : SoFar) (begins : Bool) (c : ℕ) (rest : List ℕ) (token : Token) (tail : List ℕ)
      → token_at begins c rest ≡ (token, tail) → step draws limit total g (suc (length rest)) token ≡ On h
      → read_on draws limit total g begins (c ∷ rest) ≡ read_on draws limit total h (eqb c 10) tail
  unfolding tokens_of step_then
  token_on g h begins c rest token tail is next =
      let few : length tail ≤ length rest =
      subst (λ (t : Token × List ℕ). length t.1 ≤ length rest) is (shorter begins c rest) in
      ap (λ (t : Token × List ℕ). step_then g c t (suc (length rest)) (length rest)) is
      ∙ ap (λ s. read_rest_with s (λ k. game_of draws limit total k (tokens_of (length rest) (eqb c 10) tail))) next
      ∙ ap (game_of draws limit total h) (enough (length rest) (length tail) (eqb c 10) tail few (omega arith))

  -- reading ends at a token
  pub token_ends : (g : SoFar) (begins : Bool) (c : ℕ) (rest : List ℕ) (token : Token) (tail : List ℕ) (r : GameRead)
      → token_at begins c rest ≡ (token, tail) → step draws limit total g (suc (length rest)) token ≡ Stop r
      → read_on draws limit total g begins (c ∷ rest) ≡ r
  unfolding tokens_of step_then
  token_ends g begins c rest token tail r is next =
      ap (λ (t : Token × List ℕ). step_then g c t (suc (length rest)) (length rest)) is
      ∙ ap (λ s. read_rest_with s (λ k. game_of draws limit total k (tokens_of (length rest) (eqb c 10) tail))) next

  -- ---- skipped bytes

  -- a space, a line feed or a dot is skipped
  pub skip_space : (g : SoFar) (begins : Bool) (rest : List ℕ)
      → read_on draws limit total g begins (32 ∷ rest) ≡ read_on draws limit total g false rest
  unfolding token_at
  skip_space g true rest = token_on g g true 32 rest Skip rest refl refl
  skip_space g false rest = token_on g g false 32 rest Skip rest refl refl

  pub skip_line_end : (g : SoFar) (begins : Bool) (rest : List ℕ)
      → read_on draws limit total g begins (10 ∷ rest) ≡ read_on draws limit total g true rest
  unfolding token_at
  skip_line_end g true rest = token_on g g true 10 rest Skip rest refl refl
  skip_line_end g false rest = token_on g g false 10 rest Skip rest refl refl

  skip_dot : (g : SoFar) (begins : Bool) (rest : List ℕ)
      → read_on draws limit total g begins (46 ∷ rest) ≡ read_on draws limit total g false rest
  unfolding token_at
  skip_dot g true rest = token_on g g true 46 rest Skip rest refl refl
  skip_dot g false rest = token_on g g false 46 rest Skip rest refl refl

  -- ---- words

  -- a text takes the game from one to another, where a byte of no word follows
  abbrev pub Takes : SoFar → SoFar → List ℕ → Type 0
  Takes g h text = (begins : Bool) (d : ℕ) (rest : List ℕ) → is_word_byte d ≡ false
      → read_on draws limit total g begins (text ++ d ∷ rest) ≡ read_on draws limit total h false (d ∷ rest)

  -- a word whose step is known, with a byte after it that is in no word
  word_takes : (g h : SoFar) (word : List ℕ) → 0 < length word → list_all is_word_byte word ≡ true
      → ((offset : ℕ) → word_step draws limit g offset word (word_kind word) ≡ On h) → Takes g h word
  word_takes g h [] some all next = absurd (omega arith)
  word_takes g h (c ∷ cs) some all next = λ begins d rest ends.
      let here = (and_parts (is_word_byte c) (list_all is_word_byte cs) all).0 in
      token_on g h begins c (cs ++ d ∷ rest) (Word (c ∷ cs)) (d ∷ rest) (word_token begins c cs d rest all ends)
      (next (total - suc (length (cs ++ d ∷ rest))))
      ∙ ap (λ b. read_on draws limit total h b (d ∷ rest)) (differs is_word_byte c 10 here refl)

  -- a number
  number_takes : (g : SoFar) (n : ℕ) → n ≤ 999999 → Takes g (begun g) (decimal n)
  number_takes g n h =
      let digits = decimal_digits n h in
      word_takes g (begun g) (decimal n) (decimal_some n h) (number_bytes (decimal n) digits)
      (λ offset. ap (word_step draws limit g offset (decimal n)) (number_kind (decimal n) digits))

  pub white_number : (g : SoFar) (n : ℕ) → n ≤ 999999 → Takes g (begun g) (decimal n ++ codes ".")
  white_number g n h = λ begins d rest ends.
      ap (read_on draws limit total g begins) (append_assoc (decimal n) (46 ∷ []) (d ∷ rest))
      ∙ number_takes g n h begins 46 (d ∷ rest) refl
      ∙ skip_dot (begun g) false (d ∷ rest)

  pub black_number : (g : SoFar) (n : ℕ) → n ≤ 999999 → Takes g (begun g) (decimal n ++ codes "...")
  black_number g n h = λ begins d rest ends.
      ap (read_on draws limit total g begins) (append_assoc (decimal n) (46 ∷ 46 ∷ 46 ∷ []) (d ∷ rest))
      ∙ number_takes g n h begins 46 (46 ∷ 46 ∷ d ∷ rest) refl
      ∙ skip_dot (begun g) false (46 ∷ 46 ∷ d ∷ rest)
      ∙ skip_dot (begun g) false (46 ∷ d ∷ rest)
      ∙ skip_dot (begun g) false (d ∷ rest)

  -- a legal move, where there is no verdict and the limit admits one more
  san_step : (g : SoFar) (offset : ℕ) (p : Setup) (m : Move) → IsSound p → IsTrue (is_legal p m) → current g.state ≡ p
      → verdict_now g.state ≡ None → length g.state.moves < limit
      → move_step draws limit g offset (reading (current g.state) (san p m)) ≡ On (moved g m)
  san_step g offset p m sound legal at none few =
      let room : nat_lt (length g.state.moves) limit ≡ true = grind (arith, nat_tests) in
      ap (λ q. move_step draws limit g offset (reading q (san p m))) at
      ∙ ap (move_step draws limit g offset) (san_read p m sound legal)
      ∙ (let unended = still_open draws g.state none in rw (unended, room) refl)

  pub san_takes : (g : SoFar) (p : Setup) (m : Move) → IsSound p → IsTrue (is_legal p m) → current g.state ≡ p
      → verdict_now g.state ≡ None → length g.state.moves < limit → Takes g (moved g m) (san p m)
  san_takes g p m sound legal at none few =
      word_takes g (moved g m) (san p m) (omega (arith, (san_short p m sound legal).0))
      (san_bytes_in_word (san p m) (san_bytes p m sound legal))
      (λ offset. ap (word_step draws limit g offset (san p m)) (move_kind (san p m) (san_letter p m sound legal))
      ∙ san_step g offset p m sound legal at none few)

  -- ---- the termination

  pub outcome_ends : (g : SoFar) (o : Outcome) (begins : Bool) (d : ℕ) (rest : List ℕ) → is_word_byte d ≡ false
      → read_on draws limit total g begins (outcome_text o ++ d ∷ rest)
      ≡ ended_game g.termination g.state o (total - length (outcome_text o ++ d ∷ rest) + length (outcome_text o))
  unfolding token_at
  outcome_ends g WhiteWins begins d rest off =
      token_ends g begins 49 (45 ∷ 48 ∷ d ∷ rest) (Word (codes "1-0")) (d ∷ rest) _
      (word_token begins 49 (45 ∷ 48 ∷ []) d rest refl off) refl
  outcome_ends g BlackWins begins d rest off =
      token_ends g begins 48 (45 ∷ 49 ∷ d ∷ rest) (Word (codes "0-1")) (d ∷ rest) _
      (word_token begins 48 (45 ∷ 49 ∷ []) d rest refl off) refl
  outcome_ends g Draw begins d rest off = token_ends g begins 49 (47 ∷ 50 ∷ 45 ∷ 49 ∷ 47 ∷ 50 ∷ d ∷ rest)
      (Word (codes "1/2-1/2")) (d ∷ rest) _ (word_token begins 49 (47 ∷ 50 ∷ 45 ∷ 49 ∷ 47 ∷ 50 ∷ []) d rest refl off)
      refl
  outcome_ends g Unfinished true d rest off = token_ends g true 42 (d ∷ rest) (Word (codes "*")) (d ∷ rest) _ refl refl
  outcome_ends g Unfinished false d rest off =
      token_ends g false 42 (d ∷ rest) (Word (codes "*")) (d ∷ rest) _ refl refl

  -- ---- lines of tags

  -- a line takes the game from one to another
  abbrev pub TakesLine : SoFar → SoFar → List ℕ → Type 0
  TakesLine g h line = (begins : Bool) (rest : List ℕ)
      → read_on draws limit total g begins (line ++ 10 ∷ rest) ≡ read_on draws limit total h true rest

  -- an empty line changes nothing
  pub empty_line : (g : SoFar) → TakesLine g g []
  empty_line g begins rest = skip_line_end g begins rest

  -- a line of a tag whose step is known
  tag_takes : (g h : SoFar) (name text : List ℕ) → is_tag_name name ≡ true → list_all is_in_line text ≡ true
      → ((left string : ℕ) → step draws limit total g left (Tag name (escaped text) string) ≡ On h)
      → TakesLine g h (tag_line name text)
  tag_takes g h name text named line next begins rest =
      let string : List ℕ = escaped text ++ 34 ∷ 93 ∷ 10 ∷ rest in
      ap (read_on draws limit total g begins) (tag_line_bytes name text (10 ∷ rest))
      ∙ token_on g h begins 91 (name ++ 32 ∷ 34 ∷ string) (Tag name (escaped text) (length string)) (10 ∷ rest)
      (tag_token begins name text (10 ∷ rest) named line)
      (next (suc (length (name ++ 32 ∷ 34 ∷ string))) (length string))
      ∙ skip_line_end h false rest

  -- a tag that is neither FEN nor Termination only counts as met
  pub plain_tag : (met : Bool) (t : Option Termination) (s : State) (name text : List ℕ) → is_tag_name name ≡ true
      → bytes_eq name (codes "FEN") ≡ false → bytes_eq name (codes "Termination") ≡ false
      → list_all is_in_line text ≡ true → TakesLine (tagged met t s) (tagged true t s) (tag_line name text)
  plain_tag met t s name text named other different line =
      tag_takes (tagged met t s) (tagged true t s) name text named line (λ left string. rw (other, different) refl)

  pub termination_tag : (t : Option Termination) (s : State) (u : Termination)
      → TakesLine (tagged true t s) (tagged true (Some u) s) (tag_line (codes "Termination") (termination_text u))
  termination_tag t s u =
      let bare = termination_bare u in
      tag_takes (tagged true t s) (tagged true (Some u) s) (codes "Termination") (termination_text u) refl
      (bare_in_line (termination_text u) bare) (λ left string.
      ap (λ o. On (tagged true o s)) (ap termination_named (bare_escaped (termination_text u) bare)
      ∙ termination_back u))

  pub fen_tag : WrittenIsReadBack → (t : Option Termination) (s : State) (p : Setup) → IsSound p
      → s.start.variant ≡ p.variant → TakesLine (tagged true t s) (tagged true t (from_start p))
      (tag_line (codes "FEN") (fen p))
  fen_tag law t s p sound same =
      let bare = fen_bare p sound in
      tag_takes (tagged true t s) (tagged true t (from_start p)) (codes "FEN") (fen p) refl (bare_in_line (fen p) bare)
      (λ left string.
      ap (λ text. fen_step (tagged true t s) (total - string) (fen_reading_as s.start.variant text))
      (bare_escaped (fen p) bare)
      ∙ ap (fen_step (tagged true t s) (total - string)) (ap (λ v. fen_reading_as v (fen p)) same ∙ law p sound))
