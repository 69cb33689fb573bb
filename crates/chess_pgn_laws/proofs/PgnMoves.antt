-- Reading the moves of a game's text, which are in lines of at most 79 bytes, plays them one after another
-- (moves_read): by induction on the moves. A token is followed by a space or a line feed (filled_ends), so it is read
-- whole; where the lines break doesn't matter.
use Rattle.std.proofs.Common.{◌≡◌, ℕ, suc, ◌+◌, ◌-◌, ◌<◌, ◌≤◌, Bool, true, false, not, ◌&&◌, cond, eqb, leb, List, [], ◌∷◌, ◌++◌, length, take, Option, None, refl, sym, ap, ◌∙◌, append_assoc, append-nil, arith, leb-true, length-append, codes, decimal}
use Rattle.std.proofs.{Math.Seq.take-append_seam, lemmas.Bool.Decides.nat_tests}
use Rattle.chess_base.specs.{declared.man.Colour.Colour, declared.man.Colour.TheVariants.White, declared.man.Colour.TheVariants.Black, declared.man.Move.Move, declared.setup.Setup.Setup, Moves.after, Sound.IsSound}
use Rattle.chess_base_laws.specs.Laws.{AfterIsSound}
use Rattle.chess_game.specs.{Ends.verdict, Line.position_after, Line.IsLine, Results.outcome_text, declared.results.Outcome.Outcome}
use Rattle.chess_game.specs.declared.results.Outcome.TheVariants.{WhiteWins, BlackWins, Draw, Unfinished}
use Rattle.pgn_writer.specs.{declared.termination.Termination.Termination, shared.NumberedMoves.number_if_due, shared.NumberedMoves.numbered_moves}
use Rattle.chess_pgn.specs.{GameRead.GameRead, laws.TokenByToken.SoFar}
use Rattle.pgn_tokens.specs.Tokens.{is_word_byte}
use Rattle.chess_text.specs.San.{san}
use Rattle.pgn_writer.specs.shared.Lines.{fits_line, wrapped_token, next_column, line_close}
use Rattle.pgn_writer.proofs.shared.Lines.{filled_from}
use Rattle.chess_pgn_laws.proofs.PgnPieces.{read_on, Takes, begun, white_number, black_number, san_takes, skip_space, skip_line_end, ended_game, outcome_ends}
use Rattle.chess_text.proofs.shared.San.{san_short}
use Rattle.chess_game.proofs.shared.Lines.{position_after-snoc}

-- ---- tokens in filled lines

-- after a token that isn't empty the line is begun
column_after : (column : ℕ) (t : List ℕ) → 0 < length t → 0 < next_column column t
column_after column t some = by_test (fits_line column t)
  where
    by_test : (b : Bool) → 0 < cond b (column + 1 + length t) (length t)
    by_test true = omega arith
    by_test false = some

-- and it is then closed by a line feed
close_after : (column : ℕ) → 0 < column → line_close column ≡ 10 ∷ []
close_after column some = let e : eqb column 0 ≡ false = grind (arith, nat_tests) in rw e refl

-- a text that begins with a byte of no word
record EndsWord (text : List ℕ) : Type 0 where
  first : ℕ
  rest : List ℕ
  is : text ≡ first ∷ rest
  off : is_word_byte first ≡ false

-- the text after a token begins with a byte of no word: a space, or a line feed
filled_ends : (column : ℕ) (ts : List (List ℕ)) (rest : List ℕ) → 0 < column
    → EndsWord (filled_from [] column ts ++ rest)
filled_ends column [] rest some = record {
  first = 10;
  rest = rest;
  is = ap (λ xs. xs ++ rest) (close_after column some);
  off = refl;
}
filled_ends column (t ∷ ts) rest some = by_test (eqb column 0) (grind (arith, nat_tests))
    (leb (column + 1 + length t) 79) (filled_from [] (next_column column t) ts)
  where
    by_test : (a : Bool) → a ≡ false → (b : Bool) (more : List ℕ)
        → EndsWord ((cond (not a && b) (32 ∷ t) (cond a [] (10 ∷ []) ++ t) ++ more) ++ rest)
    by_test true e b more = absurd (cc)
    by_test false e true more = record { first = 32; rest = (t ++ more) ++ rest; is = refl; off = refl }
    by_test false e false more = record { first = 10; rest = (t ++ more) ++ rest; is = refl; off = refl }

-- a token is part of its text in the line
placed_long : (column : ℕ) (t : List ℕ) → length t ≤ length (wrapped_token [] column t)
placed_long column t = by_test (eqb column 0) (leb (column + 1 + length t) 79)
  where
    by_test : (a b : Bool) → length t ≤ length (cond (not a && b) (32 ∷ t) (cond a [] (10 ∷ []) ++ t))
    by_test true b = omega arith
    by_test false true = omega arith
    by_test false false = omega arith

-- the last token and the end of its line are part of the text
pub filled_long : (column : ℕ) (ts : List (List ℕ)) (t : List ℕ) → 0 < length t
    → length t < length (filled_from [] column (ts ++ t ∷ []))
filled_long column [] t some =
    omega (
      arith,
      length-append (wrapped_token [] column t) (line_close (next_column column t)),
      placed_long column t,
      ap length (close_after (next_column column t) (column_after column t some)),
    )
filled_long column (u ∷ ts) t some =
    omega (
      arith,
      length-append (wrapped_token [] column u) (filled_from [] (next_column column u) (ts ++ t ∷ [])),
      filled_long (next_column column u) ts t some,
    )

-- no outcome's text is empty
pub outcome_some : (o : Outcome) → 0 < length (outcome_text o)
outcome_some WhiteWins = omega arith
outcome_some BlackWins = omega arith
outcome_some Draw = omega arith
outcome_some Unfinished = omega arith

-- ---- reading

-- so many of them were read; a first number may be after them
abbrev pub read_so_far : Option Termination → Setup → List Move → Bool → SoFar
read_so_far t start done is_begun = record {
  state = record { start = start; moves = done; declared = None };
  is_met = true;
  is_begun = is_begun;
  termination = t;
}

module _ (draws : Bool) (limit total : ℕ) where
  -- what is before a token in its line is skipped
  placed_read : (g : SoFar) (begins : Bool) (column : ℕ) (t more : List ℕ) (r : GameRead)
      → ((b : Bool) → read_on draws limit total g b (t ++ more) ≡ r)
      → read_on draws limit total g begins (wrapped_token [] column t ++ more) ≡ r
  placed_read g begins column t more r reads = by_test (eqb column 0) (leb (column + 1 + length t) 79)
    where
      by_test : (a b : Bool)
          → read_on draws limit total g begins (cond (not a && b) (32 ∷ t) (cond a [] (10 ∷ []) ++ t) ++ more) ≡ r
      by_test true b = reads begins
      by_test false true = skip_space draws limit total g begins (t ++ more) ∙ reads false
      by_test false false = skip_line_end draws limit total g begins (t ++ more) ∙ reads true

  -- a token, and what follows it
  token_read : (g h : SoFar) (begins : Bool) (column : ℕ) (t : List ℕ) (ts : List (List ℕ)) (rest : List ℕ)
      (r : GameRead) → Takes draws limit total g h t → 0 < length t
      → read_on draws limit total h false (filled_from [] (next_column column t) ts ++ rest) ≡ r
      → read_on draws limit total g begins (filled_from [] column (t ∷ ts) ++ rest) ≡ r
  token_read g h begins column t ts rest r takes some reads =
      let more : List ℕ = filled_from [] (next_column column t) ts in
      let next = filled_ends (next_column column t) ts rest (column_after column t some) in
      ap (read_on draws limit total g begins) (append_assoc (wrapped_token [] column t) more rest)
      ∙ placed_read g begins column t (more ++ rest) r (λ b.
      ap (λ xs. read_on draws limit total g b (t ++ xs)) next.is ∙ takes b next.first next.rest next.off
      ∙ ap (read_on draws limit total h false) (sym next.is) ∙ reads)

  -- the last token, which is the outcome
  pub outcome_read : (g : SoFar) (begins : Bool) (column : ℕ) (o : Outcome) (rest : List ℕ)
      → read_on draws limit total g begins (filled_from [] column (outcome_text o ∷ []) ++ rest)
      ≡ ended_game g.termination g.state o (total - length (outcome_text o ++ 10 ∷ rest) + length (outcome_text o))
  outcome_read g begins column o rest =
      let t : List ℕ = outcome_text o in
      ap (read_on draws limit total g begins)
      (append_assoc (wrapped_token [] column t) (line_close (next_column column t)) rest)
      ∙ placed_read g begins column t (line_close (next_column column t) ++ rest) _ (λ b.
      ap (λ xs. read_on draws limit total g b (t ++ (xs ++ rest)))
      (close_after (next_column column t) (column_after column t (outcome_some o)))
      ∙ outcome_ends draws limit total g o b 10 rest refl)

  -- ---- the moves of a game

  -- what is read from there is the same wherever a line began
  abbrev pub Reads : Option Termination → Setup → List Move → List (List ℕ) → List ℕ → GameRead → Type 0
  Reads said start done ts rest r = (is_begun begins : Bool) (column : ℕ)
      → read_on draws limit total (read_so_far said start done is_begun) begins (filled_from [] column ts ++ rest) ≡ r

  -- the number before a move, where there is one (c: the side on move), is passed over
  number_read : (said : Option Termination) (start : Setup) (done : List Move) (c : Colour) (is_first : Bool) (n : ℕ)
      (ts : List (List ℕ)) (rest : List ℕ) (r : GameRead) → n ≤ 999999 → Reads said start done ts rest r
      → Reads said start done (number_if_due c is_first n ++ ts) rest r
  number_read said start done White is_first n ts rest r h reads is_begun begins column =
      let g : SoFar = read_so_far said start done is_begun in
      let t : List ℕ = decimal n ++ codes "." in
      token_read g (begun g) begins column t ts rest r (white_number draws limit total g n h)
      (omega (arith, length-append (decimal n) (codes "."))) (reads true false (next_column column t))
  number_read said start done Black true n ts rest r h reads is_begun begins column =
      let g : SoFar = read_so_far said start done is_begun in
      let t : List ℕ = decimal n ++ codes "..." in
      token_read g (begun g) begins column t ts rest r (black_number draws limit total g n h)
      (omega (arith, length-append (decimal n) (codes "..."))) (reads true false (next_column column t))
  number_read said start done Black false n ts rest r h reads is_begun begins column = reads is_begun begins column

  -- the whole game that is read
  pub record IsWhole (start : Setup) (all : List Move) : Type 0 where
    pub few : length all ≤ limit
    pub unended : (k : ℕ) → k < length all → verdict start (take k all) ≡ None

  pub moves_read : AfterIsSound → (said : Option Termination) (start : Setup) (all : List Move) → IsWhole start all
      → (last_token rest : List ℕ) (r : GameRead) → Reads said start all (last_token ∷ []) rest r
      → (is_first : Bool) (p : Setup) (done ms : List Move) → done ++ ms ≡ all → position_after start done
      ≡ p → IsSound p → IsLine p ms → Reads said start done (numbered_moves is_first p ms ++ last_token ∷ []) rest r
  moves_read law said start all whole o rest r ended is_first p done [] same at sound line is_begun begins column =
      ap (λ d. read_on draws limit total (read_so_far said start d is_begun) begins
      (filled_from [] column (o ∷ []) ++ rest))
      (sym (append-nil done) ∙ same) ∙ ended is_begun begins column
  moves_read law said start all whole o rest r ended is_first p done (m ∷ ms) same at sound line is_begun begins
      column =
      let more : List (List ℕ) = numbered_moves false (after p m) ms ++ o ∷ [] in
      let count : length all ≡ length done + suc (length ms) = ap length (sym same) ∙ length-append done (m ∷ ms) in
      let here : take (length done) all ≡ done = ap (take (length done)) (sym same) ∙ take-append_seam done (m ∷ ms) in
      let open_yet : verdict start done ≡ None =
      ap (verdict start) (sym here) ∙ whole.unended (length done) (omega arith) in
      let room : length done < limit = omega (arith, whole.few) in
      let tail = moves_read law said start all whole o rest r ended false (after p m) (done ++ m ∷ []) ms
      (append_assoc done (m ∷ []) ms ∙ same) (position_after-snoc start done m ∙ ap (λ q. after q m) at)
      (law p m sound line.0) line.1 in
      let tokens : numbered_moves is_first p (m ∷ ms) ++ o ∷ [] ≡ number_if_due p.side is_first p.fullmove
      ++ san p m ∷ more = simp append_assoc in
      ap (λ ts. read_on draws limit total (read_so_far said start done is_begun) begins
      (filled_from [] column ts ++ rest))
      tokens
      ∙ number_read said start done p.side is_first p.fullmove (san p m ∷ more) rest r
      (leb-true _ _ sound.fullmove_high) (λ x b k.
      token_read (read_so_far said start done x) (read_so_far said start (done ++ m ∷ []) true) b k (san p m) more rest
      r (san_takes draws limit total (read_so_far said start done x) p m sound line.0 at open_yet room)
      (omega (arith, (san_short p m sound line.0).0)) (tail true false (next_column k (san p m)))) is_begun
      begins column
