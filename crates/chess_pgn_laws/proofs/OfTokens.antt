-- A game that is read is that of its first tokens (game_of_tokens, a law). The state of the reader after some tokens is
-- what these tokens say (IsSoFar: start, moves, termination). By cases of the next token (word, tag, anything else) the
-- reader's step keeps that, or stops rightly (Leaves); of_tokens is the induction on the tokens.
use mathlib.Core.Bool.{or-true, or-false, or_assoc}
use Rattle.std.proofs.Common.{◌≡◌, ℕ, ◌-◌, ◌<◌, Bool, true, false, not, cond, ◌||◌, List, [], ◌∷◌, ◌++◌, length, Option, Some, None, Result, Ok, Err, refl, sym, ap, subst, ◌∙◌, append_assoc, append-nil, bytes_eq, codes, is_some, nat_lt}
use Rattle.std.specs.List.{list_any}
use Rattle.std.proofs.{lemmas.Bool.ltb-true, lemmas.Bool.and_parts, lemmas.List.Concat.flat_map-append, lemmas.List.Folds.list_any-append, lemmas.Slice.Eq.bytes_eq-Decides}
use Rattle.chess_base.specs.{declared.fen_fault.FenFault.FenFault, declared.man.Move.Move as Played, declared.man.Variant.Variant, declared.setup.Setup.Setup, Initial.initial_setup_of}
use Rattle.chess_fen.specs.Reading.{fen_reading_as}
use Rattle.chess_game.specs.{declared.verdicts.Verdict.Verdict, Game.current, Line.position_after}
use Rattle.chess_text.specs.{declared.reading.Reading.Reading, Moves.reading}
use Rattle.chess_text.specs.declared.reading.Reading.TheVariants as reads
use Rattle.chess_pgn.specs.{declared.read.PgnFaultKind.PgnFaultKind, declared.word_kind.WordKind.WordKind, GameRead.GameRead, GameRead.ending, GameRead.tagged_variant, laws.WordKinds.word_kind}
use Rattle.pgn_tokens.specs.LastTags.{tag_section}
use Rattle.chess_pgn.specs.declared.read.PgnFaultKind.TheVariants.{BadFen, BadToken, IllegalMove, AmbiguousMove, AfterEnd, TooLong, UnclosedComment, UnclosedVariation, NoResult}
use Rattle.pgn_writer.specs.declared.termination.Termination.{Termination}
use Rattle.chess_pgn.specs.declared.word_kind.WordKind.TheVariants.{End, Number, Marks, Move}
use Rattle.chess_pgn.specs.laws.TokenByToken.{SoFar, Step, On, Stop, game_of, read_rest_with, step, nothing_read, move_step, word_step, tag_step, fen_step, fails, unless_full, termination_after}
use Rattle.chess_pgn_laws.specs.GameOfTokens.{begins, counts, is_fen, can_be_taken, can_all_be_taken, if_move, move_words_of, move_words, start_by, tagged_start, termination_by_token, tagged_termination, AreReadAs, unless_closed, move_fault, word_fault, fault_at, token_fault, StopsAt, IsOfTokens, GamesAreOfTokens, game_by, is_number_or_move, is_outcome}
use Rattle.pgn_tokens.specs.Tokens.{Token, Skip, Tag, Word, Bad_tag, Unclosed_comment, Unclosed_variation, Bad}
use Rattle.chess_pgn.proofs.shared.Games.{tokens_are, read_variant, initial_variant}

-- ---- tests

or_left : (a b : Bool) → (a || b) ≡ false → a ≡ false
or_left true b e = absurd (cc)
or_left false b e = refl

-- a test of one element more is a test of the elements, or of that one
any_more : (p : ℕ × Token → Bool) (ts : List (ℕ × Token)) (t : ℕ × Token)
    → list_any p (ts ++ t ∷ []) ≡ (list_any p ts || p t)
any_more p ts t = list_any-append p ts (t ∷ []) ∙ ap (λ b. list_any p ts || b) (or-false (p t))

-- ---- one token more

-- one word more that denotes a move is one move more, if the game is open and has room
read_more : (draws : Bool) (limit : ℕ) (start : Setup) (done : List Played) (ws : List (List ℕ)) (ms : List Played)
    (w : List ℕ) (m : Played) → AreReadAs draws limit start done ws ms
    → ending draws (game_by start (done ++ ms)) ≡ None → length (done ++ ms) < limit
    → reading (position_after start (done ++ ms)) w ≡ reads.Move m
    → AreReadAs draws limit start done (ws ++ w ∷ []) (ms ++ m ∷ [])
read_more draws limit start done [] [] w m h none few k =
    let same = append-nil done in (
      ap (λ ds. ending draws (game_by start ds)) (sym same) ∙ none,
      subst (λ ds. length ds < limit) same few,
      ap (λ ds. reading (position_after start ds) w) (sym same) ∙ k,
      tt,
    )
read_more draws limit start done [] (n ∷ ms) w m h none few k = absurd h
read_more draws limit start done (v ∷ ws) [] w m h none few k = absurd h
read_more draws limit start done (v ∷ ws) (n ∷ ms) w m h none few k =
    let same : (done ++ n ∷ []) ++ ms ≡ done ++ n ∷ ms = append_assoc done (n ∷ []) ms in (
      h.0,
      h.1,
      h.2,
      read_more draws limit start (done ++ n ∷ []) ws ms w m h.3
          (ap (λ ds. ending draws (game_by start ds)) same ∙ none)
          (subst (λ ds. length ds < limit) (sym same) few) (ap (λ ds. reading (position_after start ds) w) same ∙ k),
    )

-- the start, the termination, the words of moves, and what can be taken, of one token more: each is a step from the
-- tokens before
start_more : (v : Variant) (p : Setup) (ts : List (ℕ × Token)) (t : ℕ × Token)
    → tagged_start v p (ts ++ t ∷ []) ≡ start_by v (tagged_start v p ts) t.1
start_more v p [] t = refl
start_more v p (u ∷ ts) t = start_more v (start_by v p u.1) ts t

termination_more : (o : Option Termination) (ts : List (ℕ × Token)) (t : ℕ × Token)
    → tagged_termination o (ts ++ t ∷ []) ≡ termination_by_token (tagged_termination o ts) t.1
termination_more o [] t = refl
termination_more o (u ∷ ts) t = termination_more (termination_by_token o u.1) ts t

words_more : (ts : List (ℕ × Token)) (t : ℕ × Token) → move_words (ts ++ t ∷ []) ≡ move_words ts ++ move_words_of t.1
words_more ts t = flat_map-append (λ (u : ℕ × Token). move_words_of u.1) ts (t ∷ [])
    ∙ ap (λ v. move_words ts ++ v) (append-nil (move_words_of t.1))

taken_more : (v : Variant) (begun : Bool) (ts : List (ℕ × Token)) (t : ℕ × Token) → can_all_be_taken v begun ts ≡ true
    → can_be_taken v (begun || list_any (λ u. begins u.1) ts) t.1 ≡ true
    → can_all_be_taken v begun (ts ++ t ∷ []) ≡ true
taken_more v begun [] t h k = rw (ap (λ b. can_be_taken v b t.1) (sym (or-false begun)) ∙ k) refl
taken_more v begun (u ∷ ts) t h k =
    let both = and_parts (can_be_taken v begun u.1) (can_all_be_taken v (begun || begins u.1) ts) h in
    let here : can_be_taken v ((begun || begins u.1) || list_any (λ w. begins w.1) ts) t.1 ≡ true =
    ap (λ b. can_be_taken v b t.1) (or_assoc begun (begins u.1) (list_any (λ w. begins w.1) ts)) ∙ k in
    rw both.0 (taken_more v (begun || begins u.1) ts t both.1 here)

-- the tag FEN is not the tag Termination
fen_says_no_end : (name : List ℕ) → is_fen name ≡ true → bytes_eq name (codes "Termination") ≡ false
fen_says_no_end name e = ap (λ n. bytes_eq n (codes "Termination")) ((bytes_eq-Decides name (codes "FEN")).0 e)

-- an option that holds nothing is `None`
none_by : (o : Option Verdict) → is_some o ≡ false → o ≡ None
none_by None e = refl
none_by (Some x) e = absurd (cc)

module _ (draws : Bool) (limit total : ℕ) (v : Variant) where
  -- the game of these tokens
  record IsSoFar (done : List (ℕ × Token)) (g : SoFar) : Type 0 where
    can_be : can_all_be_taken v false done ≡ true
    start : g.state.start ≡ tagged_start v (initial_setup_of v) done
    variant : g.state.start.variant ≡ v
    moves : AreReadAs draws limit g.state.start [] (move_words done) g.state.moves
    undeclared : g.state.declared ≡ None
    met : list_any (λ t. counts t.1) done ≡ g.is_met
    begun : list_any (λ t. begins t.1) done ≡ g.is_begun
    said : tagged_termination None done ≡ g.termination
    fresh : g.is_begun ≡ false → (g.state.moves ≡ []) × (move_words done ≡ [])

  -- the game `h` after the token `t` is what the token makes of the game `g` before it, part by part as in IsSoFar
  record IsNext (done : List (ℕ × Token)) (t : Token) (g h : SoFar) : Type 0 where
    can_be : can_be_taken v g.is_begun t ≡ true
    start : h.state.start ≡ start_by v g.state.start t
    variant : h.state.start.variant ≡ v
    moves : AreReadAs draws limit h.state.start [] (move_words done ++ move_words_of t) h.state.moves
    undeclared : h.state.declared ≡ None
    met : (g.is_met || counts t) ≡ h.is_met
    begun : (g.is_begun || begins t) ≡ h.is_begun
    said : termination_by_token g.termination t ≡ h.termination
    fresh : h.is_begun ≡ false → (h.state.moves ≡ []) × (move_words done ++ move_words_of t ≡ [])

  -- so the state is what the tokens say with this token too
  more : (done : List (ℕ × Token)) (left : ℕ) (t : Token) (g h : SoFar) → IsSoFar done g → IsNext done t g h
      → IsSoFar (done ++ (left, t) ∷ []) h
  more done left t g h s n = record {
    can_be = taken_more v false done (left, t) s.can_be (ap (λ b. can_be_taken v b t) s.begun ∙ n.can_be);
    start = n.start ∙ ap (λ p. start_by v p t) s.start ∙ sym (start_more v (initial_setup_of v) done (left, t));
    variant = n.variant;
    moves =
        subst (λ ws. AreReadAs draws limit h.state.start [] ws h.state.moves) (sym (words_more done (left, t))) n.moves;
    undeclared = n.undeclared;
    met = any_more (λ u. counts u.1) done (left, t) ∙ ap (λ b. b || counts t) s.met ∙ n.met;
    begun = any_more (λ u. begins u.1) done (left, t) ∙ ap (λ b. b || begins t) s.begun ∙ n.begun;
    said = termination_more None done (left, t) ∙ ap (λ o. termination_by_token o t) s.said ∙ n.said;
    fresh = λ e. ((n.fresh e).0, words_more done (left, t) ∙ (n.fresh e).1);
  }

  -- a token that has no move adds no word of a move
  same_words : (done : List (ℕ × Token)) (t : Token) → move_words_of t ≡ []
      → move_words done ++ move_words_of t ≡ move_words done
  same_words done t none = ap (λ ws. move_words done ++ ws) none ∙ append-nil (move_words done)

  -- a token without a move that changes only what is met, begun or said of the termination
  quiet : (done : List (ℕ × Token)) (t : Token) (g : SoFar) (met begun : Bool) (o : Option Termination) → IsSoFar done g
      → move_words_of t ≡ [] → g.state.start ≡ start_by v g.state.start t
      → can_be_taken v g.is_begun t ≡ true → (g.is_met || counts t) ≡ met → (g.is_begun || begins t) ≡ begun
      → termination_by_token g.termination t ≡ o
      → IsNext done t g (record { state = g.state; is_met = met; is_begun = begun; termination = o })
  quiet done t g met begun o s none start can is_met is_begun said = record {
    can_be = can;
    start = start;
    variant = s.variant;
    moves =
        subst (λ ws. AreReadAs draws limit g.state.start [] ws g.state.moves) (sym (same_words done t none)) s.moves;
    undeclared = s.undeclared;
    met = is_met;
    begun = is_begun;
    said = said;
    fresh = λ e. let f = s.fresh (or_left g.is_begun (begins t) (is_begun ∙ e)) in (f.0, same_words done t none ∙ f.1);
  }

  -- ---- what a step leaves: the game of one token more, or at a stop that of the tokens before

  record IsStopped (done : List (ℕ × Token)) (t : ℕ × Token) (r : GameRead) : Type 0 where
    can_be : can_all_be_taken v false done ≡ true
    start : r.state.start ≡ tagged_start v (initial_setup_of v) done
    moves : AreReadAs draws limit r.state.start [] (move_words done) r.state.moves
    stop : (ts : List (ℕ × Token)) → StopsAt draws limit total v done (t ∷ ts) r.state r.answer

  abbrev Leaves : List (ℕ × Token) → ℕ × Token → Step → Type 0
  Leaves done t (On h) = IsSoFar (done ++ t ∷ []) h
  Leaves done t (Stop r) = IsStopped done t r

  -- a token with a fault stops the reading, with that fault
  fault_leaves : (done : List (ℕ × Token)) (left : ℕ) (t : Token) (g : SoFar) (kind : PgnFaultKind) (offset : ℕ)
      → IsSoFar done g → token_fault draws limit total v g.is_begun g.state left t
      ≡ Some (record { kind = kind; offset = offset }) → Leaves done (left, t) (fails g kind offset)
  fault_leaves done left t g kind offset s e = record {
    can_be = s.can_be;
    start = s.start;
    moves = s.moves;
    stop = λ ts. (s.undeclared, ap (λ b. token_fault draws limit total v b g.state left t) s.begun ∙ e);
  }

  -- ---- moves

  module _ (done : List (ℕ × Token)) (left : ℕ) (word : List ℕ) (g : SoFar) (kind : word_kind word ≡ Move)
      (s : IsSoFar done g) where
    move_fails : (r : Reading) → reading (current g.state) word ≡ r → (k : PgnFaultKind)
        → move_fault draws limit g.state r ≡ Some k → Leaves done (left, Word word) (fails g k (total - left))
    move_fails r is k e =
        fault_leaves done left (Word word) g k (total - left) s
        (ap (λ w. fault_at (total - left) (word_fault draws limit g.state word w)) kind
        ∙ ap (λ q. fault_at (total - left) (move_fault draws limit g.state q)) is
        ∙ ap (fault_at (total - left)) e)

    open_leaves : (r : Reading) → reading (current g.state) word ≡ r → (o : Option PgnFaultKind)
        → move_fault draws limit g.state r ≡ unless_closed draws limit g.state o → (next : Step)
        → (is_some (ending draws g.state) ≡ false → nat_lt (length g.state.moves) limit ≡ true
        → Leaves done (left, Word word) next)
        → Leaves done (left, Word word) (unless_full draws limit g (total - left) next)
    open_leaves r is o fault next later = by_tests (is_some (ending draws g.state)) refl
        (nat_lt (length g.state.moves) limit) refl
      where
        by_tests : (a : Bool) → is_some (ending draws g.state) ≡ a → (b : Bool)
            → nat_lt (length g.state.moves) limit ≡ b
            → Leaves done (left, Word word) (cond a (fails g AfterEnd (total - left))
            (cond b next (fails g TooLong (total - left))))
        by_tests true ea b eb = move_fails r is AfterEnd
            (fault ∙ ap (λ x. cond x (Some AfterEnd) (cond (nat_lt (length g.state.moves) limit) o (Some TooLong))) ea)
        by_tests false ea true eb = later ea eb
        by_tests false ea false eb = move_fails r is TooLong
            (fault ∙ ap (λ x. cond x (Some AfterEnd) (cond (nat_lt (length g.state.moves) limit) o (Some TooLong))) ea
            ∙ ap (λ y. cond y o (Some TooLong)) eb)

    shut : (r : Reading) → reading (current g.state) word ≡ r → (k : PgnFaultKind)
        → move_fault draws limit g.state r ≡ unless_closed draws limit g.state (Some k)
        → Leaves done (left, Word word) (unless_full draws limit g (total - left) (fails g k (total - left)))
    shut r is k fault =
        open_leaves r is (Some k) fault (fails g k (total - left))
        (λ ea eb. move_fails r is k
        (fault ∙ ap
        (λ x. cond x (Some AfterEnd) (cond (nat_lt (length g.state.moves) limit) (Some k) (Some TooLong))) ea
        ∙ ap (λ y. cond y (Some k) (Some TooLong)) eb))

    one_word : move_words_of (Word word) ≡ word ∷ []
    one_word = ap (if_move word) kind

    played_next : (m : Played) → reading (current g.state) word ≡ reads.Move m → is_some (ending draws g.state) ≡ false
        → nat_lt (length g.state.moves) limit ≡ true
        → IsNext done (Word word) g
        (record {
          state = record {
            start = g.state.start;
            moves = g.state.moves ++ m ∷ [];
            declared = g.state.declared;
          };
          is_met = true;
          is_begun = true;
          termination = g.termination;
        })
    played_next m is none few = record {
      can_be = ap (λ k. not (is_outcome k)) kind;
      start = refl;
      variant = s.variant;
      moves = subst (λ ws. AreReadAs draws limit g.state.start [] (move_words done ++ ws) (g.state.moves ++ m ∷ []))
          (sym one_word) (read_more draws limit g.state.start [] (move_words done) g.state.moves word m s.moves
          (none_by (ending draws g.state) none) (ltb-true (length g.state.moves) limit few) is);
      undeclared = s.undeclared;
      met = ap (λ k. g.is_met || is_number_or_move k) kind ∙ or-true g.is_met;
      begun = ap (λ k. g.is_begun || is_number_or_move k) kind ∙ or-true g.is_begun;
      said = refl;
      fresh = λ e. absurd (cc);
    }

    move_leaves : (r : Reading) → reading (current g.state) word ≡ r
        → Leaves done (left, Word word) (move_step draws limit g (total - left) r)
    move_leaves reads.NotAMove is = move_fails reads.NotAMove is BadToken refl
    move_leaves reads.Ambiguous is = shut reads.Ambiguous is AmbiguousMove refl
    move_leaves reads.NoSuch is = shut reads.NoSuch is IllegalMove refl
    move_leaves (reads.Move m) is =
        open_leaves (reads.Move m) is None refl _
        (λ none few. more done left (Word word) g _ s (played_next m is none few))

  -- a word: an outcome ends the game, a number or marks are passed over, a move is read
  word_leaves : (done : List (ℕ × Token)) (left : ℕ) (word : List ℕ) (g : SoFar) (k : WordKind) → word_kind word ≡ k
      → IsSoFar done g → Leaves done (left, Word word) (word_step draws limit g (total - left) word k)
  word_leaves done left word g (End o) kind s = record {
    can_be = s.can_be;
    start = s.start;
    moves = s.moves;
    stop = λ ts. (word, refl, kind, refl, sym s.said, refl);
  }
  word_leaves done left word g Number kind s =
      more done left (Word word) g _ s
      (quiet done (Word word) g true true g.termination s (ap (if_move word) kind) refl
      (ap (λ k. not (is_outcome k)) kind) (ap (λ k. g.is_met || is_number_or_move k) kind ∙ or-true g.is_met)
      (ap (λ k. g.is_begun || is_number_or_move k) kind ∙ or-true g.is_begun) refl)
  word_leaves done left word g Marks kind s =
      more done left (Word word) g _ s
      (quiet done (Word word) g g.is_met g.is_begun g.termination s (ap (if_move word) kind) refl
      (ap (λ k. not (is_outcome k)) kind) (ap (λ k. g.is_met || is_number_or_move k) kind ∙ or-false g.is_met)
      (ap (λ k. g.is_begun || is_number_or_move k) kind ∙ or-false g.is_begun) refl)
  word_leaves done left word g Move kind s = move_leaves done left word g kind s (reading (current g.state) word) refl

  -- ---- tags

  module _ (done : List (ℕ × Token)) (left string : ℕ) (name text : List ℕ) (g : SoFar) (open_yet : g.is_begun ≡ false)
      (s : IsSoFar done g) where
    same : (r : Result Setup FenFault) → fen_reading_as g.state.start.variant text ≡ r → fen_reading_as v text ≡ r
    same r e = ap (λ u. fen_reading_as u text) (sym s.variant) ∙ e

    fen_leaves : is_fen name ≡ true → (r : Result Setup FenFault) → fen_reading_as v text ≡ r
        → Leaves done (left, Tag name text string) (fen_step g (total - string) r)
    fen_leaves e (Err fault) f = fault_leaves done left (Tag name text string) g (BadFen fault) (total - string) s
        (rw (open_yet, e, f) refl)
    fen_leaves e (Ok start) f =
        let none : move_words done ++ [] ≡ [] = append-nil (move_words done) ∙ (s.fresh open_yet).1 in
        more done left (Tag name text string) g _ s (record {
          can_be = rw (open_yet, e, f) refl;
          start = rw (e, f) refl;
          variant = read_variant v text start f;
          moves = subst (λ ws. AreReadAs draws limit start [] ws []) (sym none) tt;
          undeclared = refl;
          met = or-true g.is_met;
          begun = or-false g.is_begun;
          said = rw (fen_says_no_end name e) refl;
          fresh = λ x. (refl, none);
        })

    tag_leaves : (b : Bool) → is_fen name ≡ b
        → Leaves done (left, Tag name text string)
        (cond b (fen_step g (total - string) (fen_reading_as g.state.start.variant text))
        (On (record {
          state = g.state;
          is_met = true;
          is_begun = g.is_begun;
          termination = termination_after g.termination name text;
        })))
    tag_leaves true e = fen_leaves e (fen_reading_as g.state.start.variant text) (same _ refl)
    tag_leaves false e =
        more done left (Tag name text string) g _ s
        (quiet done (Tag name text string) g true g.is_begun (termination_after g.termination name text) s
        refl (rw e refl)
        (rw (open_yet, e) refl) (or-true g.is_met) (or-false g.is_begun) refl)

  -- ---- all tokens

  step_leaves : (done : List (ℕ × Token)) (left : ℕ) (t : Token) (g : SoFar) → IsSoFar done g
      → Leaves done (left, t) (step draws limit total g left t)
  step_leaves done left Skip g s = more done left Skip g g s
      (quiet done Skip g g.is_met g.is_begun g.termination s refl refl refl (or-false g.is_met) (or-false g.is_begun)
      refl)
  step_leaves done left (Tag name text string) g s = by_begun g.is_begun refl
    where
      by_begun : (b : Bool) → g.is_begun ≡ b → Leaves done (left, Tag name text string)
          (cond b (fails g NoResult (total - left)) (tag_step g name text (total - string)))
      by_begun true e = fault_leaves done left (Tag name text string) g NoResult (total - left) s (rw e refl)
      by_begun false e = tag_leaves done left string name text g e s (is_fen name) refl
  step_leaves done left (Word word) g s = word_leaves done left word g (word_kind word) refl s
  step_leaves done left Bad_tag g s = fault_leaves done left Bad_tag g _ (total - left) s refl
  step_leaves done left (Unclosed_comment brace) g s =
      fault_leaves done left (Unclosed_comment brace) g UnclosedComment (total - brace) s refl
  step_leaves done left Unclosed_variation g s =
      fault_leaves done left Unclosed_variation g UnclosedVariation (total - left) s refl
  step_leaves done left Bad g s = fault_leaves done left Bad g BadToken (total - left) s refl

  -- by induction over the tokens `ts` that are left, after `done`
  of_tokens : (tokens done ts : List (ℕ × Token)) (g : SoFar) → done ++ ts ≡ tokens → IsSoFar done g
      → IsOfTokens draws limit total v tokens (game_of draws limit total g ts)
  of_tokens tokens done [] g all s = record {
    taken = done;
    others = [];
    all = all;
    can_be = s.can_be;
    start = s.start;
    moves = s.moves;
    stop = at_end g.is_met s.met;
  }
    where
      at_end : (met : Bool) → list_any (λ t. counts t.1) done ≡ met
          → StopsAt draws limit total v done [] g.state
          (cond met (Err (record { kind = NoResult; offset = total })) (Ok None))
      at_end true e = (s.undeclared, e, refl)
      at_end false e = (s.undeclared, e)
  of_tokens tokens done (t ∷ ts) g all s = by_step tokens done t ts all
      (λ k l. of_tokens tokens (done ++ t ∷ []) ts k (append_assoc done (t ∷ []) ts ∙ all) l)
      (step draws limit total g t.0 t.1) (step_leaves done t.0 t.1 g s)
    where
      by_step : (tokens done : List (ℕ × Token)) (t : ℕ × Token) (ts : List (ℕ × Token)) → done ++ t ∷ ts ≡ tokens
          → ((k : SoFar) → IsSoFar (done ++ t ∷ []) k → IsOfTokens draws limit total v tokens
          (game_of draws limit total k ts))
          → (x : Step) → Leaves done t x → IsOfTokens draws limit total v tokens
          (read_rest_with x (λ k. game_of draws limit total k ts))
      by_step tokens done t ts all later (Stop r) k =
          record {
            taken = done;
            others = t ∷ ts;
            all = all;
            can_be = k.can_be;
            start = k.start;
            moves = k.moves;
            stop = k.stop ts;
          }
      by_step tokens done t ts all later (On k) l = later k l

-- the law, from the reader's beginning
pub game_of_tokens : GamesAreOfTokens
game_of_tokens draws limit text at r read =
    let v : Variant = tagged_variant (tag_section read.tokens) in
    subst (IsOfTokens draws limit (length text) v read.tokens)
    (sym (read.is ∙ tokens_are draws limit (length text) read.tokens))
    (of_tokens draws limit (length text) v read.tokens [] read.tokens (nothing_read v) refl
    (record {
      can_be = refl;
      start = refl;
      variant = initial_variant v;
      moves = tt;
      undeclared = refl;
      met = refl;
      begun = refl;
      said = refl;
      fresh = λ e. (refl, refl);
    }))
