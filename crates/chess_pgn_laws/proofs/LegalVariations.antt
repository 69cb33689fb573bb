-- If no variation of a game has a fault, each move of the game and of its variations is legal where it is made
-- (variations_legal): by induction over how deep variations are nested (variation_legal), and within a line, over its
-- tokens (line_legal). A move that is read is legal by a law (ReadMovesAreLegal, a premise).
use Rattle.std.proofs.Common.{◌≡◌, ℕ, zero, suc, ◌+◌, ◌-◌, Bool, true, false, cond, List, [], ◌∷◌, length, Option, Some, None, Result, Ok, Err, refl, sym, ap, ◌∙◌, ◌||◌, is_some}
use Rattle.std.specs.{List.list_all, List.list_any, Option.option_map_or, Option.option_or}
use Rattle.byte_devices.specs.Bytes.{is_digit}
use Rattle.chess_base.specs.{declared.man.Move.Move, declared.setup.Setup.Setup, Moves.after}
use Rattle.chess_text.specs.{declared.reading.Reading.Reading, Moves.reading, laws.Laws.ReadMovesAreLegal}
use Rattle.chess_text.specs.declared.reading.Reading.TheVariants as reads
use Rattle.pgn_writer.specs.Outcomes.{outcome_of}
use Rattle.chess_pgn.specs.{declared.read.PgnFault.PgnFault, declared.read.PgnFaultKind.PgnFaultKind, declared.read.PgnFaultKind.TheVariants.BadToken, declared.variations.TheConstants.MOST_NESTED}
use Rattle.pgn_tokens.specs.Marks.{is_marks}
use Rattle.pgn_tokens.specs.Tokens.{Token, Skip, Tag, Word, Bad_tag, Unclosed_comment, Unclosed_variation, Bad}
use Rattle.pgn_tokens.specs.VariationTokens.{is_variation}
use Rattle.chess_pgn.specs.Variations.{line_fault, variation_fault}
use Rattle.chess_pgn.specs.{laws.LineEnds.is_end, shared.LineTokens.word_move, shared.LineTokens.token_move, shared.LineTokens.after_token}
use Rattle.chess_pgn.proofs.shared.Games.{line_by_kind}
use Rattle.chess_pgn_laws.specs.LegalVariations.{is_passed, IsLegalLine, no_more, closed, passed, move, variation, VariationsAreLegal}

-- a token's move is m, without a fault; `none_found`: it makes no move
abbrev found : Move → Result (Option Move) PgnFaultKind
found m = Ok (Some m)

-- if the word's move is found, it denotes this move
read_as : (r : Reading) (m : Move) → word_move r ≡ found m → r ≡ reads.Move m
read_as (reads.Move n) m h = let same : n ≡ m = cc in ap reads.Move same
read_as reads.NotAMove m h = absurd (cc)
read_as reads.Ambiguous m h = absurd (cc)
read_as reads.NoSuch m h = absurd (cc)

none_of_two : (a b : Option PgnFault) → option_or a b ≡ None → (a ≡ None) × (b ≡ None)
none_of_two None b h = (refl, h)
none_of_two (Some f) b h = absurd (cc)

abbrev none_found : Result (Option Move) PgnFaultKind
none_found = Ok None

-- a word that is read always has a move or a fault
never_none : (r : Reading) → word_move r ≡ none_found → ⊥
never_none (reads.Move m) h = cc
never_none reads.NotAMove h = cc
never_none reads.Ambiguous h = cc
never_none reads.NoSuch h = cc

-- a token that makes no move is passed over
over : (tags : Bool) (p : Setup) (token : Token) → token_move tags p token ≡ none_found → is_passed token ≡ true
over tags p Skip h = refl
over tags p (Tag name text left) h = refl
over tags p (Word word) h = by_kind (is_some (outcome_of word) || (list_all is_digit word || is_marks word)) h
  where
    by_kind : (b : Bool) → cond b none_found (word_move (reading p word)) ≡ none_found → b ≡ true
    by_kind true e = refl
    by_kind false e = absurd (never_none (reading p word) e)
over tags p Bad_tag h = absurd (cc)
over tags p (Unclosed_comment left) h = absurd (cc)
over tags p Unclosed_variation h = absurd (cc)
over tags p Bad h = absurd (cc)

-- a token that makes a move is a word that denotes it
data Moves (p : Setup) (m : Move) : Token → Type 0 where
  by_word : (word : List ℕ) → reading p word ≡ reads.Move m → Moves p m (Word word)

moves : (tags : Bool) (p : Setup) (token : Token) (m : Move) → token_move tags p token ≡ found m → Moves p m token
moves tags p Skip m h = absurd (cc)
moves tags p (Tag name text left) m h = by_tags tags h
  where
    by_tags : (b : Bool) → cond b none_found (Err BadToken) ≡ found m → Moves p m (Tag name text left)
    by_tags true e = absurd (cc)
    by_tags false e = absurd (cc)
moves tags p (Word word) m h = by_kind (is_some (outcome_of word) || (list_all is_digit word || is_marks word)) h
  where
    by_kind : (b : Bool) → cond b none_found (word_move (reading p word)) ≡ found m → Moves p m (Word word)
    by_kind true e = absurd (cc)
    by_kind false e = by_word word (read_as (reading p word) m e)
moves tags p Bad_tag m h = absurd (cc)
moves tags p (Unclosed_comment left) m h = absurd (cc)
moves tags p Unclosed_variation m h = absurd (cc)
moves tags p Bad m h = absurd (cc)

module _ (law : ReadMovesAreLegal) (tokens : List ℕ → ℕ → List (ℕ × Token)) (text : List ℕ) where
  line_legal : (tags : Bool) (inner : Setup → ℕ → Option PgnFault)
      → ((p : Setup) (from : ℕ) → inner p from ≡ None → IsLegalLine (tokens text) text None p (tokens text (from + 1)))
      → (all : List (ℕ × Token)) (before : Option Setup) (p : Setup) → line_fault tags text inner before p all ≡ None
      → IsLegalLine (tokens text) text before p all
  line_legal tags inner h [] before p e = no_more
  line_legal tags inner h ((left, token) ∷ more) before p e =
      by_kind (λ b q k. line_legal tags inner h more b q k) (is_variation text (length text - left) token)
      (is_end text (length text - left) token) refl refl
      (sym (line_by_kind tags text inner before p left more token) ∙ e)
    where
      by_before : ((b : Option Setup) (q : Setup) → line_fault tags text inner b q more ≡ None
          → IsLegalLine (tokens text) text b q more)
          → (o : Option Setup) → is_variation text (length text - left) token ≡ true
          → option_or (option_map_or (λ start. inner start (length text - left)) o
          (Some (record { kind = BadToken; offset = length text - left }))) (line_fault tags text inner o p more) ≡ None
          → IsLegalLine (tokens text) text o p ((left, token) ∷ more)
      by_before rest None v k = absurd (cc)
      by_before rest (Some start) v k =
          let rest_of = line_fault tags text inner (Some start) p more in
          let both = none_of_two (inner start (length text - left)) rest_of k in
          variation v (h start (length text - left) both.0) (rest (Some start) p both.1)

      by_word_of : ((b : Option Setup) (q : Setup) → line_fault tags text inner b q more ≡ None
          → IsLegalLine (tokens text) text b q more)
          → (m : Move) (t : Token) → Moves p m t → line_fault tags text inner (Some p) (after p m) more ≡ None
          → IsLegalLine (tokens text) text before p ((left, t) ∷ more)
      by_word_of rest m t (by_word word denoted) k = move m denoted (law p word m denoted) (rest (Some p) (after p m) k)

      by_move : ((b : Option Setup) (q : Setup) → line_fault tags text inner b q more ≡ None
          → IsLegalLine (tokens text) text b q more)
          → (r : Result (Option Move) PgnFaultKind) → token_move tags p token ≡ r
          → is_variation text (length text - left) token ≡ false
          → after_token (length text - left) before p r (λ b q. line_fault tags text inner b q more) ≡ None
          → IsLegalLine (tokens text) text before p ((left, token) ∷ more)
      by_move rest (Ok None) is v k = passed v (over tags p token is) (rest before p k)
      by_move rest (Ok (Some m)) is v k = by_word_of rest m token (moves tags p token m is) k
      by_move rest (Err kind) is v k = absurd (cc)

      by_kind : ((b : Option Setup) (q : Setup) → line_fault tags text inner b q more ≡ None
          → IsLegalLine (tokens text) text b q more)
          → (opens ends : Bool) → is_variation text (length text - left) token ≡ opens
          → is_end text (length text - left) token ≡ ends
          → cond opens (option_or (option_map_or (λ start. inner start (length text - left)) before
          (Some (record { kind = BadToken; offset = length text - left }))) (line_fault tags text inner before p more))
          (cond ends None (after_token (length text - left) before p (token_move tags p token)
          (λ b q. line_fault tags text inner b q more))) ≡ None
          → IsLegalLine (tokens text) text before p ((left, token) ∷ more)
      by_kind rest true ends v w k = by_before rest before v k
      by_kind rest false true v w k = closed w
      by_kind rest false false v w k = by_move rest (token_move tags p token) refl v k

  -- a variation that is nested at most `depth` deep, and begins at the bracket at the offset `from`, where the position
  -- is p
  variation_legal : (depth : ℕ) (p : Setup) (from : ℕ) → variation_fault tokens depth text p from ≡ None
      → IsLegalLine (tokens text) text None p (tokens text (from + 1))
  unfolding variation_fault
  variation_legal zero p from h = absurd (cc)
  variation_legal (suc depth) p from h =
      line_legal false (λ q i. variation_fault tokens depth text q i) (λ q i k. variation_legal depth q i k)
      (tokens text (from + 1)) None p h

pub variations_legal : ReadMovesAreLegal → VariationsAreLegal
variations_legal law tokens text start at some h =
    line_legal law tokens text true (λ p from. variation_fault tokens MOST_NESTED text p from)
    (variation_legal law tokens text MOST_NESTED) (tokens text at) None start
    (by_test (list_any (λ (t : ℕ × Token). is_variation text (length text - t.0) t.1) (tokens text at)) some h)
  where
    by_test : (b : Bool) → b ≡ true → cond b (line_fault true text
        (λ p from. variation_fault tokens MOST_NESTED text p from) None start (tokens text at)) None ≡ None
        → line_fault true text (λ p from. variation_fault tokens MOST_NESTED text p from) None start (tokens text at)
        ≡ None
    by_test true e k = k
    by_test false e k = absurd (cc)
