-- Games that are counted are games by the Laws, by what `GamesAreOfTokens` says of their tokens: each move's word
-- denotes just one legal move (`told`, by induction on the words), no verdict came before the last move (unended), and
-- a marker ends the game (ended_at). So it is for all reports on a text (counted_games) and on a piece
-- (counted_games_of_pieces), by induction on the reports.
use Rattle.std.proofs.Common.{◌≡◌, ◌∙◌, ℕ, zero, suc, ◌+◌, ◌-◌, ◌<◌, Bool, true, false, List, [], ◌∷◌, ◌++◌, length, take, Option, Some, None, Ok, refl, sym, ap, subst, append_assoc, append-nil, arith, MatchBool, if◌then◌else◌, nat_le}
use Rattle.std.specs.{List.filter, List.list_all, Option.option_map_or, Option.unwrap_or}
use Rattle.chess_base.specs.{Initial.initial_setup_of, MoveList.moves, Sound.IsSound, declared.man.Move.Move, declared.man.Variant.Variant, declared.setup.Setup.Setup}
use Rattle.byte_devices.specs.Bytes.{is_digit}
use Rattle.chess_game.specs.{Game.State, Line.position_after, declared.game.TheConstants.MOST_MOVES, declared.results.Outcome.Outcome}
use Rattle.chess_pgn.specs.{GameRead.GameRead, GameRead.IsRead, GameRead.ending, GameRead.tagged_variant, ResultTags.result_tag_of, UnknownVariants.unknown_variant_in, declared.read.PgnEnd.PgnEnd, declared.word_kind.WordKind.WordKind, laws.WordKinds.word_kind, declared.read.PgnFaultKind.TheVariants.TooLong}
use Rattle.pgn_tokens.specs.{LastTags.tag_section, Tokens.Token, Tokens.Word, Marks.is_marks}
use Rattle.chess_pgn.specs.declared.word_kind.WordKind.TheVariants.{End, Number, Marks, Move as MoveWord}
use Rattle.chess_pgn_laws.specs.GameOfTokens.{AreReadAs, GamesAreOfTokens, IsOfTokens, StopsAt, game_by, move_words}
use Rattle.chess_text.specs.Moves.{denotes, one_of, reading, shape}
use Rattle.chess_text.specs.declared.reading.Reading.TheVariants as reads
use Rattle.chess_text.specs.laws.Laws.{ReadMovesAreLegal}
use Rattle.pgn_pieces.specs.declared.pieces.TheConstants.{PIECE_LEN}
use Rattle.verify_options.specs.declared.options.Strictness.{Strictness}
use Rattle.pgn_verifier.specs.{Explanations.shown, declared.game_fault.FaultKind.TheVariants.Pgn, GameFaults.IsJudged, shared.Contradictions.variation_in}
use Rattle.pgn_verifier.specs.Reports.{AreReports, Placed, Faulty, none_left, next_game, next_fault, spanning}
use Rattle.pgn_verifier.specs.laws.Reported.{without_spans}
use Rattle.pgn_writer.specs.Outcomes.{outcome_of}
use Rattle.pgn_verifier_laws.specs.Counted.{AreTold, CountedGamesAreGames, CountedGamesOfPiecesAreGames, HasGame, HasGames}
use Rattle.pgn_verifier_laws.proofs.{PartsAlike.judged_so, SoundStarts.start_sound}
use Rattle.chess_game.proofs.shared.Lines.{position_after-snoc}

-- ---- moves and their words

-- if just one move is found in a list, the list has only it
one_alone : (ms : List Move) (m : Move) → one_of ms ≡ reads.Move m → ms ≡ m ∷ []
one_alone [] m h = absurd (cc)
one_alone (n ∷ []) m h = let same : n ≡ m = cc in ap (λ x. x ∷ []) same
one_alone (n ∷ k ∷ ms) m h = absurd (cc)

-- a word that denotes a move denotes no other legal move
alone : (p : Setup) (word : List ℕ) (m : Move) → reading p word ≡ reads.Move m
    → filter (λ n. denotes p word n) (moves p) ≡ m ∷ []
unfolding reading
alone p word m h = at (shape word) h
  where
    at : (b : Bool) → (if b then one_of (filter (λ n. denotes p word n) (moves p)) else reads.NotAMove) ≡ reads.Move m
        → filter (λ n. denotes p word n) (moves p) ≡ m ∷ []
    at true e = one_alone (filter (λ n. denotes p word n) (moves p)) m e
    at false e = absurd (cc)

-- each word denotes the move at its index, which is legal; by induction over the words
told : ReadMovesAreLegal
    → (draws : Bool) (limit : ℕ) (start : Setup) (done : List Move) (words : List (List ℕ)) (ms : List Move)
    → AreReadAs draws limit start done words ms → AreTold (position_after start done) words ms
told legal draws limit start done [] [] h = tt
told legal draws limit start done [] (m ∷ ms) h = absurd h
told legal draws limit start done (w ∷ words) [] h = absurd h
told legal draws limit start done (w ∷ words) (m ∷ ms) (unended, room, denoted, more) = (
  legal (position_after start done) w m denoted,
  alone (position_after start done) w m denoted,
  subst (λ (p : Setup). AreTold p words ms) (position_after-snoc start done m)
      (told legal draws limit start (done ++ m ∷ []) words ms more),
)

-- before each move no verdict had ended the game
unended : (draws : Bool) (limit : ℕ) (start : Setup) (done : List Move) (words : List (List ℕ)) (ms : List Move)
    → AreReadAs draws limit start done words ms → (k : ℕ) → k < length ms
    → ending draws (game_by start (done ++ take k ms)) ≡ None
unended draws limit start done [] [] h k few = absurd (omega (arith, few))
unended draws limit start done [] (m ∷ ms) h k few = absurd h
unended draws limit start done (w ∷ words) [] h k few = absurd h
unended draws limit start done (w ∷ words) (m ∷ ms) (none, room, denoted, more) zero few =
    ap (λ ds. ending draws (game_by start ds)) (append-nil done) ∙ none
unended draws limit start done (w ∷ words) (m ∷ ms) (none, room, denoted, more) (suc k) few =
    ap (λ ds. ending draws (game_by start ds)) (sym (append_assoc done (m ∷ []) (take k ms)))
    ∙ unended draws limit start (done ++ m ∷ []) words ms more k (omega (arith, few))

-- ---- the marker

-- a word that is an outcome names this outcome
marker_is : (word : List ℕ) (o : Outcome) → word_kind word ≡ End o → outcome_of word ≡ Some o
marker_is word o h = at (outcome_of word) refl h
  where
    none : (a b : Bool) → (let k : WordKind = (if a then Number else if b then Marks else MoveWord) in k) ≡ End o → ⊥
    none true b e = absurd (cc)
    none false true e = absurd (cc)
    none false false e = absurd (cc)

    at : (found : Option Outcome) → outcome_of word ≡ found
        → option_map_or End found (if list_all is_digit word then Number else if is_marks word then Marks else MoveWord)
        ≡ End o → outcome_of word ≡ Some o
    at None e k = absurd (none (list_all is_digit word) (is_marks word) k)
    at (Some x) e k = let same : x ≡ o = cc in e ∙ ap Some same

-- ---- a game

-- the tokens of a game that ended
record Ended (text : List ℕ) (tokens : List (ℕ × Token)) (taken : List (ℕ × Token)) (end : PgnEnd) : Type 0 where
  pub left : ℕ
  pub marker : List ℕ
  pub others : List (ℕ × Token)
  pub all : taken ++ (left, Word marker) ∷ others ≡ tokens
  pub marks : outcome_of marker ≡ Some end.outcome
  pub ends : end.offset ≡ length text - left + length marker

-- a game that ended with an outcome stopped at a marker
ended_at : (draws : Bool) (text : List ℕ) (v : Variant) (tokens taken others : List (ℕ × Token)) (s : State)
    (end : PgnEnd)
    → taken ++ others ≡ tokens → StopsAt draws MOST_MOVES (length text) v taken others s (Ok (Some end))
    → Ended text tokens taken end
ended_at draws text v tokens taken [] s end all stop = absurd stop
ended_at draws text v tokens taken ((left, t) ∷ ts) s end all (word, is, kind, declared, termination, offset) = record {
  left = left;
  marker = word;
  others = ts;
  all = ap (λ x. taken ++ (left, x) ∷ ts) (sym is) ∙ all;
  marks = marker_is word end.outcome kind;
  ends = offset;
}

module _ (legal : ReadMovesAreLegal) (law : GamesAreOfTokens)
    (initial : (v : Variant) → IsSound (initial_setup_of v)) where
  -- one report on a game
  has_game : (strict : Strictness) (text : List ℕ) (at : ℕ) (s : State) (end : PgnEnd)
      → IsJudged strict text at s (Ok (Some end))
      → HasGame strict.draws_of_2014 text at end.offset (length s.moves) end.outcome
  has_game strict text at s end j =
      let so = judged_so strict (variation_in j.split_of text at s.start)
      (unknown_variant_in (length text) j.tokens)
      (result_tag_of (length text) j.tokens) (ending strict.draws_of_2014 s) end j.ended (sym j.is) in
      let r : GameRead = record { state = s; answer = Ok (Some end) } in
      let read : IsRead strict.draws_of_2014 MOST_MOVES text at r = record {
        tokens = j.tokens;
        split = j.split;
        is = ap (λ a. (let g : GameRead = record { state = s; answer = a } in g)) (sym so.0) ∙ sym j.read;
      } in
      let v : Variant = tagged_variant (tag_section j.tokens) in
      let of : IsOfTokens strict.draws_of_2014 MOST_MOVES (length text) v j.tokens r =
      law strict.draws_of_2014 MOST_MOVES text at r read in
      let over = ended_at strict.draws_of_2014 text v j.tokens of.taken of.others s end of.all of.stop in
      record {
        start = s.start;
        sound = subst IsSound (sym of.start) (start_sound v (initial_setup_of v) of.taken (initial v));
        tokens = j.tokens;
        split = j.split;
        own = of.taken;
        left = over.left;
        marker = over.marker;
        others = over.others;
        all = over.all;
        marks = over.marks;
        ends = over.ends;
        moves = s.moves;
        told = told legal strict.draws_of_2014 MOST_MOVES s.start [] (move_words of.taken) s.moves of.moves;
        many = refl;
        unended = unended strict.draws_of_2014 MOST_MOVES s.start [] (move_words of.taken) s.moves of.moves;
      }

  -- all reports from the offset `at` on
  has_games : {goes_on : Bool} {strict : Strictness} {start : ℕ} {text : List ℕ} {at : ℕ} {reports : List Placed}
      → AreReports goes_on strict start text at reports
      → HasGames strict.draws_of_2014 text at (without_spans reports)
  has_games (none_left j) = tt
  has_games {goes_on} {strict} {start} {text} (next_game {at} {s} {end} {reports} j h) =
      (end.offset, has_game strict text at s end j, has_games h)
  has_games {goes_on} {strict} {start} {text} (next_fault part reason next j is h there later) =
      (unwrap_or next (length text), has_games later)

pub counted_games : ReadMovesAreLegal → GamesAreOfTokens → ((v : Variant) → IsSound (initial_setup_of v))
    → CountedGamesAreGames
counted_games legal law initial strict start text reports h = has_games legal law initial h

pub counted_games_of_pieces : ReadMovesAreLegal → GamesAreOfTokens → ((v : Variant) → IsSound (initial_setup_of v))
    → CountedGamesOfPiecesAreGames
counted_games_of_pieces legal law initial strict offset piece reports h = at (nat_le (length piece) PIECE_LEN) h
  where
    at : (b : Bool) → MatchBool b (AreReports true strict offset piece 0 reports)
        (reports ≡ spanning offset (offset + length piece)
        (Faulty (record { kind = Pgn TooLong; offset = offset }) [] offset (shown piece) [] true) ∷ [])
        → HasGames strict.draws_of_2014 piece 0 (without_spans reports)
    at true are = has_games legal law initial are
    at false is =
        subst (λ (all : List Placed). HasGames strict.draws_of_2014 piece 0 (without_spans all)) (sym is) (0, tt)
