-- For `read_line`, which reads a line of moves (a game's own, or a variation's) and calls itself for the variations in
-- it. By its loop's invariant (LineReads) the first fault from here on, in the position reached, is the line's first
-- fault; a lemma for each thing that a token does keeps it or ends the loop. Last: each fault is in the text
-- (fault_within), by induction on how many variations may be open, and on the tokens.
use Rattle.std.proofs.Common.{◌≡◌, ℕ, zero, suc, ◌+◌, ◌-◌, ◌≤◌, Bool, true, false, cond, List, [], ◌∷◌, length, Option, Some, None, IfSome, IfErr, Result, Ok, Err, refl, sym, ap, subst, ◌∙◌, inl, inr, arith}
use Rattle.std.specs.{Option.option_map_or, Option.option_or, Result.result_err}
use Rattle.chess_base.specs.{declared.man.Move.Move, declared.setup.Setup.Setup, Moves.after}
use Rattle.chess_pgn.specs.{declared.read.PgnFault.PgnFault, declared.read.PgnFaultKind.PgnFaultKind, declared.read.PgnFaultKind.TheVariants.BadToken, declared.read.PgnFaultKind.TheVariants.TooLong}
use Rattle.pgn_tokens.specs.Seen.{token_seen}
use Rattle.pgn_tokens.specs.Tokens.{Token, Skip, Tag, Word, Bad_tag, Unclosed_comment, Unclosed_variation, Bad, tokens_from}
use Rattle.pgn_tokens.specs.VariationTokens.{is_variation}
use Rattle.chess_pgn.specs.Variations.{line_fault, variation_fault}
use Rattle.chess_pgn.specs.{laws.LineEnds.is_end, shared.LineTokens.after_token, shared.LineTokens.token_move}
use Rattle.pgn_tokens.specs.declared.token.Token as code
use Rattle.pgn_tokens.specs.declared.token.Token.TheVariants as seen
use Rattle.chess_pgn.specs.ties.LineSteps.{EndsLine, IsUnread, inside, opening, played}
use Rattle.chess_pgn.proofs.LineKinds.{line_by_kind}

-- the line was read from `at` up to `here`, where its position is `p`, and `before` is the position before its last
-- move, from which a variation begins: the first fault from here on is that of the whole line. `tags`: whether tags are
-- passed over in it; `depth`: how many more variations may be open
pub record LineReads (tags : Bool) (depth : ℕ) (text : List ℕ) (start : Setup) (at : ℕ) (before : Option Setup)
    (p : Setup) (here : ℕ) : Type 0 where
  pub offset : here ≤ length text
  pub whole : line_fault tags text (inside depth text) before p (tokens_from text here)
      ≡ line_fault tags text (inside depth text) None start (tokens_from text at)

-- this holds at the line's first token
pub begun : (tags : Bool) (depth : ℕ) (text : List ℕ) (start p : Setup) (at : ℕ) → at ≤ length text → p ≡ start
    → LineReads tags depth text start at None p at
begun tags depth text start p at h is = record {
  offset = h;
  whole = ap (λ q. line_fault tags text (inside depth text) None q (tokens_from text at)) is;
}

-- ---- one token

-- how a variation begins: with this position and depth, or not, with this fault
abbrev opened : Setup × ℕ → Result (Setup × ℕ) PgnFault
opened r = Ok r

abbrev not_begun : PgnFault → Result (Setup × ℕ) PgnFault
not_begun fault = Err fault

-- two variations that begin alike have the same position and depth
opened_alike : (r other : Setup × ℕ) → opened r ≡ opened other → r ≡ other
opened_alike r other e = cc

fault_alike : (fault other : PgnFault) → not_begun fault ≡ not_begun other → fault ≡ other
fault_alike fault other e = cc

-- what a token gives, by its offset, whether it is a variation, and whether it is a `)`
abbrev by_kind : Bool → List ℕ → (Setup → ℕ → Option PgnFault) → Option Setup → Setup → Token → List (ℕ × Token) → ℕ
    → Bool → Bool → Option PgnFault
by_kind tags text inner before p token more at opens closes = cond opens
    (option_or (option_map_or (λ first. inner first at) before (Some (record { kind = BadToken; offset = at })))
    (line_fault tags text inner before p more))
    (cond closes None (after_token at before p (token_move tags p token) (λ c q. line_fault tags text inner c q more)))

-- the first fault from a token on, by its kind
of_token : (tags : Bool) (text : List ℕ) (inner : Setup → ℕ → Option PgnFault) (before : Option Setup) (p : Setup)
    (token : Token) (more : List (ℕ × Token)) (at : ℕ) (opens closes : Bool) → at ≤ length text
    → is_variation text at token ≡ opens → is_end text at token ≡ closes
    → line_fault tags text inner before p ((length text - at, token) ∷ more)
    ≡ by_kind tags text inner before p token more at opens closes
of_token tags text inner before p token more at opens closes h is ends =
    let back : length text - (length text - at) ≡ at = omega (arith, h) in
    line_by_kind tags text inner before p (length text - at) more token
    ∙ ap (λ k. by_kind tags text inner before p token more k (is_variation text k token) (is_end text k token)) back
    ∙ ap (λ b. by_kind tags text inner before p token more at b (is_end text at token)) is
    ∙ ap (by_kind tags text inner before p token more at opens) ends

-- a round of the loop, at the token `token`, after which reading goes on at `tail`
module _ (tags : Bool) (depth : ℕ) (text : List ℕ) (start : Setup) (at : ℕ) (before : Option Setup) (p : Setup)
    (here tail : ℕ) (token : Token) (r : LineReads tags depth text start at before p here) (k : tail ≤ length text)
    (is : tokens_from text here ≡ (length text - here, token) ∷ tokens_from text tail) where
  -- what the token gives is what is left
  left : (opens closes : Bool) → is_variation text here token ≡ opens → is_end text here token ≡ closes
      → by_kind tags text (inside depth text) before p token (tokens_from text tail) here opens closes
      ≡ line_fault tags text (inside depth text) None start (tokens_from text at)
  left opens closes v e =
      sym (of_token tags text (inside depth text) before p token (tokens_from text tail) here opens closes r.offset v e)
      ∙ ap (line_fault tags text (inside depth text) before p) (sym is) ∙ r.whole

  abbrev Plays : Result (Option Setup) PgnFault → Setup → Type 0
  Plays result q = (c : Option Setup) (later : Option Setup → Setup → Option PgnFault)
      → after_token here c p (token_move tags p token) later ≡ played c result q later

  -- a token that is no variation and no `)`
  taken : (result : Result (Option Setup) PgnFault) (q : Setup) → is_variation text here token ≡ false
      → is_end text here token ≡ false → Plays result q
      → played before result q (λ c s. line_fault tags text (inside depth text) c s (tokens_from text tail))
      ≡ line_fault tags text (inside depth text) None start (tokens_from text at)
  taken result q v e plays =
      sym (plays before (λ c s. line_fault tags text (inside depth text) c s (tokens_from text tail)))
      ∙ left false false v e

  -- one that is passed over
  pub passed_over : (q : Setup) → is_variation text here token ≡ false → is_end text here token ≡ false
      → Plays (Ok None) q → LineReads tags depth text start at before q tail
  passed_over q v e plays = record { offset = k; whole = taken (Ok None) q v e plays }

  -- a move
  pub moved_on : (first q : Setup) → is_variation text here token ≡ false → is_end text here token ≡ false
      → Plays (Ok (Some first)) q → LineReads tags depth text start at (Some first) q tail
  moved_on first q v e plays = record { offset = k; whole = taken (Ok (Some first)) q v e plays }

  -- a fault
  pub faulty : (fault : PgnFault) (q : Setup) → is_variation text here token ≡ false
      → is_end text here token ≡ false → Plays (Err fault) q
      → Some fault ≡ line_fault tags text (inside depth text) None start (tokens_from text at)
  faulty fault q v e plays = taken (Err fault) q v e plays

  -- what a variation gives, from where it begins
  abbrev within : Option Setup → Option PgnFault
  within o = option_or (option_map_or (λ first. inside depth text first here) o
      (Some (record { kind = BadToken; offset = here })))
      (line_fault tags text (inside depth text) before p (tokens_from text tail))

  of_variation : is_variation text here token ≡ true → within before
      ≡ line_fault tags text (inside depth text) None start (tokens_from text at)
  of_variation v = left true (is_end text here token) v refl

  -- a variation that can't begin
  pub not_opened : (fault : PgnFault) → is_variation text here token ≡ true → Err fault ≡ opening depth before here
      → Some fault ≡ line_fault tags text (inside depth text) None start (tokens_from text at)
  unfolding variation_fault
  not_opened fault v h = by_opening depth before h refl refl
    where
      by_opening : (n : ℕ) (o : Option Setup) → Err fault ≡ opening n o here → n ≡ depth → o ≡ before
          → Some fault ≡ line_fault tags text (inside depth text) None start (tokens_from text at)
      by_opening n None e m same =
          let is_bad = fault_alike fault (record { kind = BadToken; offset = here }) e in
          ap Some is_bad ∙ ap within same ∙ of_variation v
      by_opening zero (Some first) e m same =
          let is_long = fault_alike fault (record { kind = TooLong; offset = here }) e in
          ap Some is_long
          ∙ ap (λ d. option_or (inside d text first here) (line_fault tags text (inside depth text) before p
          (tokens_from text tail))) m ∙ ap within same ∙ of_variation v
      by_opening (suc n) (Some first) e m same = absurd (cc)

  -- the line in a variation, of which these are the start and the depth
  inner_is : (first : Setup) (n : ℕ) → Ok (first, n) ≡ opening depth before here
      → (inside depth text first here ≡ line_fault false text (inside n text) None first (tokens_from text (here + 1)))
      × (before ≡ Some first)
  unfolding variation_fault
  inner_is first n h = by_opening depth before h refl refl
    where
      by_opening : (m : ℕ) (o : Option Setup) → Ok (first, n) ≡ opening m o here → m ≡ depth → o ≡ before
          → (inside depth text first here
          ≡ line_fault false text (inside n text) None first (tokens_from text (here + 1))) × (before ≡ Some first)
      by_opening m None e is_depth same = absurd (cc)
      by_opening zero (Some other) e is_depth same = absurd (cc)
      by_opening (suc m) (Some other) e is_depth same =
          let alike = opened_alike (first, n) (other, m) e in (
            ap (λ d. inside d text first here) (sym is_depth)
                ∙ ap (λ (r : Setup × ℕ). line_fault false text (inside r.1 text) None first
                (tokens_from text (here + 1))) (sym alike),
            sym same ∙ ap Some (ap (λ (r : Setup × ℕ). r.0) (sym alike)),
          )

  -- a variation with a fault
  pub faulty_inside : (first : Setup) (n : ℕ) (fault : PgnFault) → is_variation text here token ≡ true
      → Ok (first, n) ≡ opening depth before here
      → Some fault ≡ line_fault false text (inside n text) None first (tokens_from text (here + 1))
      → Some fault ≡ line_fault tags text (inside depth text) None start (tokens_from text at)
  faulty_inside first n fault v h f =
      let inner = inner_is first n h in
      ap (λ o. option_or o (line_fault tags text (inside depth text) before p (tokens_from text tail)))
      (f ∙ sym inner.0) ∙ ap within (sym inner.1) ∙ of_variation v

  -- a variation without one: the line continues in the same position
  pub went_inside : (first : Setup) (n : ℕ) (q : Setup) → is_variation text here token ≡ true
      → Ok (first, n) ≡ opening depth before here
      → None ≡ line_fault false text (inside n text) None first (tokens_from text (here + 1)) → q ≡ p
      → LineReads tags depth text start at before q tail
  went_inside first n q v h none same =
      let inner = inner_is first n h in record {
        offset = k;
        whole = ap (λ s. line_fault tags text (inside depth text) before s (tokens_from text tail)) same
            ∙ ap (λ o. option_or o (line_fault tags text (inside depth text) before p (tokens_from text tail)))
            (none ∙ sym inner.0) ∙ ap within (sym inner.1) ∙ of_variation v;
      }

-- a token that can be read ends no line
pub goes_on : (text : List ℕ) (at : ℕ) (token : code.Token) → is_end text at (token_seen token) ≡ false
goes_on text at seen.Skip = refl
goes_on text at (seen.Tag t) = refl
goes_on text at (seen.Word word) = refl

-- ---- the end

-- what can't be read is no variation, and a bad token
unread_is : (tags : Bool) (text : List ℕ) (at : ℕ) (p : Setup) (token : Token) → IsUnread token
    → (is_variation text at token ≡ false) × (token_move tags p token ≡ Err BadToken)
unread_is tags text at p Skip h = absurd h
unread_is tags text at p (Tag name string left) h = absurd h
unread_is tags text at p (Word word) h = absurd h
unread_is tags text at p Bad_tag h = (refl, refl)
unread_is tags text at p (Unclosed_comment left) h = (refl, refl)
unread_is tags text at p Unclosed_variation h = (refl, refl)
unread_is tags text at p Bad h = (refl, refl)

-- the line ends at its `)` or at the text's end, without a fault
pub ended : (tags : Bool) (depth : ℕ) (text : List ℕ) (start : Setup) (at : ℕ) (before : Option Setup) (p : Setup)
    (here : ℕ)
    → LineReads tags depth text start at before p here → EndsLine text here
    → None ≡ line_fault tags text (inside depth text) None start (tokens_from text at)
ended tags depth text start at before p here r (inl none) =
    ap (line_fault tags text (inside depth text) before p) (sym none) ∙ r.whole
ended tags depth text start at before p here r (inr (token, is, h, closes)) =
    sym (of_token tags text (inside depth text) before p token [] here false true r.offset
    (unread_is tags text here p token h).0 closes) ∙ ap (line_fault tags text (inside depth text) before p) (sym is) ∙ r.whole

-- a token that can't be read, and is no `)`, is the line's fault
pub unread : (tags : Bool) (depth : ℕ) (text : List ℕ) (start : Setup) (at : ℕ) (before : Option Setup) (p : Setup)
    (here : ℕ) (fault : PgnFault) → LineReads tags depth text start at before p here
    → fault ≡ record { kind = BadToken; offset = here }
    → (t : Token) × (tokens_from text here ≡ (length text - here, t) ∷ []) × IsUnread t
    × (is_end text here t ≡ false)
    → Some fault ≡ line_fault tags text (inside depth text) None start (tokens_from text at)
unread tags depth text start at before p here fault r bad (token, is, h, opens) =
    let both = unread_is tags text here p token h in
    ap Some bad
    ∙ ap (λ m. after_token here before p m (λ c q. line_fault tags text (inside depth text) c q [])) (sym both.1)
    ∙ sym (of_token tags text (inside depth text) before p token [] here false false r.offset both.0 opens)
    ∙ ap (line_fault tags text (inside depth text) before p) (sym is) ∙ r.whole

-- ---- faults are in the text

-- the fault, if there is one, is at most at this offset
abbrev pub InText : ℕ → Option PgnFault → Type 0
InText len fault = IfSome fault (λ f. f.offset ≤ len)

-- the first of two faults is in the text if both are
first_within : (len : ℕ) (first second : Option PgnFault) → InText len first → InText len second
    → InText len (option_or first second)
first_within len (Some fault) second h k = h
first_within len None second h k = k

-- the first fault of a line is in the text if those of its variations are; by induction on the tokens
line_within : (tags : Bool) (text : List ℕ) (inner : Setup → ℕ → Option PgnFault)
    → ((p : Setup) (from : ℕ) → from ≤ length text → InText (length text) (inner p from))
    → (tokens : List (ℕ × Token)) (before : Option Setup) (p : Setup)
    → InText (length text) (line_fault tags text inner before p tokens)
line_within tags text inner h [] before p = tt
line_within tags text inner h ((n, token) ∷ more) before p =
    subst (InText (length text)) (sym (line_by_kind tags text inner before p n more token))
    (by_kinds (λ c q. line_within tags text inner h more c q) (is_variation text (length text - n) token)
    (is_end text (length text - n) token))
  where
    by_before : (o : Option Setup) → InText (length text) (option_map_or
        (λ first. inner first (length text - n)) o (Some (record { kind = BadToken; offset = length text - n })))
    by_before None = omega arith
    by_before (Some first) = h first (length text - n) (omega arith)

    by_move : ((c : Option Setup) (q : Setup) → InText (length text) (line_fault tags text inner c q more))
        → (m : Result (Option Move) PgnFaultKind)
        → InText (length text) (after_token (length text - n) before p m (λ c q. line_fault tags text inner c q more))
    by_move rest (Ok None) = rest before p
    by_move rest (Ok (Some m)) = rest (Some p) (after p m)
    by_move rest (Err kind) = omega arith

    by_kinds : ((c : Option Setup) (q : Setup) → InText (length text) (line_fault tags text inner c q more))
        → (opens closes : Bool)
        → InText (length text) (by_kind tags text inner before p token more (length text - n) opens closes)
    by_kinds rest true closes =
        first_within (length text) _ (line_fault tags text inner before p more) (by_before before) (rest before p)
    by_kinds rest false true = tt
    by_kinds rest false false = by_move rest (token_move tags p token)

-- the first fault of a variation is in the text; by induction on how many more may be open
variation_within : (depth : ℕ) (text : List ℕ) (p : Setup) (from : ℕ) → from ≤ length text
    → InText (length text) (inside depth text p from)
unfolding variation_fault
variation_within zero text p from h = h
variation_within (suc depth) text p from h =
    line_within false text (inside depth text) (λ q i k. variation_within depth text q i k)
    (tokens_from text (from + 1)) None p

-- so is that of a game's own line
pub fault_within : (tags : Bool) (depth : ℕ) (text : List ℕ) (start : Setup) (at : ℕ)
    → InText (length text) (line_fault tags text (inside depth text) None start (tokens_from text at))
fault_within tags depth text start at =
    line_within tags text (inside depth text) (variation_within depth text) (tokens_from text at) None start

-- the fault of what was returned
pub of_error : (len : ℕ) (r : Result (Unit {0}) PgnFault) → InText len (result_err r)
    → IfErr r (λ f. f.offset ≤ len)
of_error len (Ok u) h = tt
of_error len (Err fault) h = h
