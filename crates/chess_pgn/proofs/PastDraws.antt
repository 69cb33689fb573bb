-- For `read_past_draws`: what is read of a game if fivefold repetition and 75 moves (the draws of 2014) end none.
-- Without a move after such a draw it is what `read_pgn` read (read_alike), by induction on the tokens. Otherwise
-- reading the moves again from where the tags end gives it (anew_read, anew_failed): there the game begins anew in the
-- position after each move (Again), and only the position decides which other verdict ends it (anew_alike).
use Rattle.std.proofs.Common.{◌≡◌, ◌<◌, ◌≤◌, ℕ, suc, ◌+◌, ◌-◌, ◌==◌, nat_le, nat_lt, Bool, true, false, cond, ◌||◌, List, [], ◌∷◌, ◌++◌, length, drop, map, slice_get, codes, Option, Some, None, is_some, is_none, option_and_then, Result, Ok, Err, refl, sym, ap, subst, ◌∙◌, arith, length-append, if◌then◌else◌}
use Rattle.std.specs.List.{cons_option, filter_map, list_all}
use Rattle.std.specs.Option.{option_map_or, unwrap_or}
use Rattle.std.specs.Result.{result_err, result_map_both}
use Rattle.std.proofs.lemmas.Bool.{false≢true}
use Rattle.byte_devices.specs.Bytes.{is_digit, after_byte_order_mark}
use Rattle.chess_base.specs.{declared.fen_fault.FenFault.FenFault, declared.man.Move.Move as Played, declared.man.Variant.Variant, declared.setup.Setup.Setup, Attacks.is_in_check, ByColour.by_colour, Initial.initial_setup_of, Men.other, MoveList.moves, Moves.after}
use Rattle.chess_fen.specs.Reading.{fen_reading_as}
use Rattle.chess_game.specs.{Ends.has_insufficient_material, Ends.verdict, Line.position_after, Same.repetition_count, declared.game.TheConstants.MOST_MOVES, declared.results.Outcome.Outcome, declared.verdicts.Verdict.Verdict}
use Rattle.chess_game.specs.Game.{Seen, State, from_start, played, current, verdict_now, with_state as left_at}
use Rattle.chess_game.specs.declared.verdicts.Verdict.TheVariants.{WhiteMates, BlackMates, Stalemate, InsufficientMaterial, FivefoldRepetition, SeventyFiveMoves}
use Rattle.chess_game.proofs.shared.Lines.{position_after-snoc}
use Rattle.chess_text.specs.{declared.reading.Reading.Reading, Moves.reading}
use Rattle.chess_text.specs.declared.reading.Reading.TheVariants as reads
use Rattle.pgn_writer.specs.{declared.termination.Termination.Termination, Outcomes.outcome_of, Terminations.termination_named}
use Rattle.chess_pgn.specs.{declared.past_draws.ReadGame.ReadGame, declared.read.PgnEnd.PgnEnd, declared.read.PgnFault.PgnFault, declared.read.PgnFaultKind.PgnFaultKind, declared.word_kind.WordKind.WordKind, laws.WordKinds.word_kind}
use Rattle.pgn_tokens.specs.{declared.token.TokenFault.TokenFault, LastTags.last_tag, LastTags.says_nothing, LastTags.tag_section, Marks.is_marks, Seen.fault_seen, TagsPassed.IsAfterTags, TagsPassed.after_tags}
use Rattle.chess_pgn.specs.declared.past_draws.Effect as code
use Rattle.chess_pgn.specs.declared.past_draws.Effect.TheVariants as does
use Rattle.chess_pgn.specs.declared.read.PgnFaultKind.TheVariants.{BadTag, BadFen, AmbiguousMove, AfterEnd, BadToken, IllegalMove, NoResult, TooLong}
use Rattle.pgn_tokens.specs.declared.token.TokenFault.TheVariants as unreadable
use Rattle.chess_pgn.specs.declared.word_kind.WordKind.TheVariants.{End, Number, Marks, Move}
use Rattle.chess_pgn.specs.GameRead.{GameRead, ending, fen_read, moves_read, not_of_2014, pgn_read, read_after_tags, read_of_split, tagged_variant}
use Rattle.chess_pgn.specs.shared.Rows.{Row, Goes_on, Ends, Fails, after_row, last_start, move_row, row, with_fault}
use Rattle.pgn_tokens.specs.shared.TagsNamed.{tags_named}
use Rattle.pgn_tokens.specs.Tokens.{Token, Skip, Tag, Word, Bad_tag, Unclosed_comment, Unclosed_variation, Bad, tokens_from}
use Rattle.chess_pgn.specs.PastDraws.{IsAnswer, Stands}
use Rattle.chess_pgn.specs.ties.PastDraws.{IsReadAgain, closing_fault, is_at_past_draw, is_past_draw, move_effect, next_position, stops_past_draw, token_effect, unread_fault, word_effect}
use Rattle.chess_pgn.proofs.{GamesByTags.fens, GamesByTags.termination_in, RowsRead.moves_by_row}

-- ---- the verdict without the two draws

-- neither of the two draws is left
gone : (a b : Bool)
    → option_and_then not_of_2014 (cond a (Some FivefoldRepetition) (cond b (Some SeventyFiveMoves) None)) ≡ None
gone true b = refl
gone false true = refl
gone false false = refl

-- whether fivefold repetition holds makes no difference to the verdict that is left; a mate or stalemate (`over`) and
-- bare kings or the like (`bare`) come first
without : (over bare a b c : Bool) (v : Verdict)
    → option_and_then not_of_2014 (cond over (Some v) (cond bare (Some InsufficientMaterial)
    (cond a (Some FivefoldRepetition) (cond b (Some SeventyFiveMoves) None))))
    ≡ option_and_then not_of_2014 (cond over (Some v) (cond bare (Some InsufficientMaterial)
    (cond c (Some FivefoldRepetition) (cond b (Some SeventyFiveMoves) None))))
without true bare a b c v = refl
without false true a b c v = refl
without false false a b c v = gone a b ∙ sym (gone c b)

-- so what ends a game, but for the two draws, is the same if the game begins anew in its current position
pub anew_alike : (s : State) → ending false (from_start (current s)) ≡ ending false s
unfolding verdict
anew_alike s =
    let p : Setup = current s in
    without (length (moves p) == 0) (has_insufficient_material p.men) (nat_le 5 (repetition_count p []))
    (nat_le 150 p.halfmove) (nat_le 5 (repetition_count s.start s.moves))
    (if is_in_check p.men p.side then by_colour WhiteMates BlackMates (other p.side) else Stalemate)

-- a game without a verdict is not ended
pub still_open : (draws : Bool) (s : State) → verdict_now s ≡ None → ending draws s ≡ None
still_open true s e = e
still_open false s e = ap (option_and_then not_of_2014) e

-- ---- a game in which no move comes after one of the two draws

-- one token: if reading it and the rest (`later`) meets no move after one of the two draws, it is the same whether
-- these draws end a game (true) or not (false)
module _ (limit total : ℕ) (termination : Option Termination) (s : State) (later : Bool → State → GameRead) where
  abbrev Same : Row → Row → Type 0
  Same with_draws without_draws = stops_past_draw (after_row termination s with_draws (later true)) ≡ false
      → after_row termination s without_draws (later false) ≡ after_row termination s with_draws (later true)

  -- a move, by the verdict
  unless_over_alike : (v : Option Verdict) → verdict_now s ≡ v → (at : ℕ) (room : Bool) (allowed : Row)
      → Same allowed allowed
      → Same (cond (is_some v) (Fails AfterEnd at) (cond room allowed (Fails TooLong at)))
      (cond (is_some (option_and_then not_of_2014 v)) (Fails AfterEnd at) (cond room allowed (Fails TooLong at)))
  unless_over_alike None e at true allowed same h = same h
  unless_over_alike None e at false allowed same h = refl
  unless_over_alike (Some v) e at room allowed same h = by_kept (not_of_2014 v) refl
    where
      by_kept : (o : Option Verdict) → not_of_2014 v ≡ o
          → after_row termination s
          (cond (is_some o) (Fails AfterEnd at) (cond room allowed (Fails TooLong at))) (later false)
          ≡ with_fault s (record { kind = AfterEnd; offset = at })
      by_kept (Some w) k = refl
      by_kept None k =
          let none : is_none (option_and_then not_of_2014 (verdict_now s)) ≡ true =
          ap (λ o. is_none (option_and_then not_of_2014 o)) e ∙ ap is_none k in
          absurd (false≢true (sym h ∙ none))

  move_alike : (at : ℕ) (r : Reading) → ((next : State) → Same (Goes_on next) (Goes_on next))
      → Same (move_row true limit s at r) (move_row false limit s at r)
  move_alike at reads.NotAMove goes = λ h. refl
  move_alike at (reads.Move m) goes = unless_over_alike (verdict_now s) refl at (nat_lt (length s.moves) limit)
      (Goes_on (played s m)) (goes (played s m))
  move_alike at reads.Ambiguous goes = unless_over_alike (verdict_now s) refl at (nat_lt (length s.moves) limit)
      (Fails AmbiguousMove at) (λ h. refl)
  move_alike at reads.NoSuch goes = unless_over_alike (verdict_now s) refl at (nat_lt (length s.moves) limit)
      (Fails IllegalMove at) (λ h. refl)

  word_alike : (left : ℕ) (word : List ℕ) (o : Option Outcome) (is_passed : Bool)
      → ((next : State) → Same (Goes_on next) (Goes_on next))
      → Same (option_map_or (λ k. Ends k (total - left + length word)) o
      (cond is_passed (Goes_on s) (move_row true limit s (total - left) (reading (current s) word))))
      (option_map_or (λ k. Ends k (total - left + length word)) o
      (cond is_passed (Goes_on s) (move_row false limit s (total - left) (reading (current s) word))))
  word_alike left word (Some o) is_passed goes = λ h. refl
  word_alike left word None true goes = goes s
  word_alike left word None false goes = move_alike (total - left) (reading (current s) word) goes

  token_alike : (left : ℕ) (t : Token) → ((next : State) → Same (Goes_on next) (Goes_on next))
      → Same (row true limit total s (left, t)) (row false limit total s (left, t))
  token_alike left Skip goes = goes s
  token_alike left (Tag name string at_string) goes = λ h. refl
  token_alike left (Word word) goes =
      word_alike left word (outcome_of word) (list_all is_digit word || is_marks word) goes
  token_alike left Bad_tag goes = λ h. refl
  token_alike left (Unclosed_comment brace) goes = λ h. refl
  token_alike left Unclosed_variation goes = λ h. refl
  token_alike left Bad goes = λ h. refl

-- all tokens after the tags; by induction
moves_alike : (limit total : ℕ) (termination : Option Termination) (s : State) (ts : List (ℕ × Token))
    → stops_past_draw (moves_read true limit total termination s ts) ≡ false
    → moves_read false limit total termination s ts ≡ moves_read true limit total termination s ts
moves_alike limit total termination s [] h = refl
moves_alike limit total termination s (t ∷ ts) h =
    moves_by_row false limit total termination s t ts
    ∙ token_alike limit total termination s (λ draws next. moves_read draws limit total termination next ts) t.0 t.1
    (λ next. moves_alike limit total termination next ts)
    (sym (ap stops_past_draw (moves_by_row true limit total termination s t ts)) ∙ h)
    ∙ sym (moves_by_row true limit total termination s t ts)

after_tags_alike : (limit total : ℕ) (s : State) (tags rest : List (ℕ × Token))
    → stops_past_draw (read_after_tags true limit total s tags rest) ≡ false
    → read_after_tags false limit total s tags rest ≡ read_after_tags true limit total s tags rest
after_tags_alike limit total s tags [] h = refl
after_tags_alike limit total s tags ((left, Bad_tag) ∷ rest) h = refl
after_tags_alike limit total s tags ((left, Skip) ∷ rest) h =
    moves_alike limit total (termination_in tags) s ((left, Skip) ∷ rest) h
after_tags_alike limit total s tags ((left, Tag name string at_string) ∷ rest) h =
    moves_alike limit total (termination_in tags) s ((left, Tag name string at_string) ∷ rest) h
after_tags_alike limit total s tags ((left, Word word) ∷ rest) h =
    moves_alike limit total (termination_in tags) s ((left, Word word) ∷ rest) h
after_tags_alike limit total s tags ((left, Unclosed_comment brace) ∷ rest) h =
    moves_alike limit total (termination_in tags) s ((left, Unclosed_comment brace) ∷ rest) h
after_tags_alike limit total s tags ((left, Unclosed_variation) ∷ rest) h =
    moves_alike limit total (termination_in tags) s ((left, Unclosed_variation) ∷ rest) h
after_tags_alike limit total s tags ((left, Bad) ∷ rest) h =
    moves_alike limit total (termination_in tags) s ((left, Bad) ∷ rest) h

-- what is read of a game, by whether it says anything, by the first bad FEN, and by what is read after its tags
abbrev by_parts : State → Bool → Option PgnFault → GameRead → GameRead
by_parts s is_empty bad after =
    cond is_empty (record { state = s; answer = Ok None }) (option_map_or (with_fault s) bad after)

-- a whole game, by its tokens
split_alike : (limit total : ℕ) (tokens : List (ℕ × Token))
    → stops_past_draw (read_of_split true limit total tokens) ≡ false
    → read_of_split false limit total tokens ≡ read_of_split true limit total tokens
split_alike limit total tokens =
    by_cases (list_all (λ (t : ℕ × Token). says_nothing t.1) tokens)
    (slice_get (filter_map result_err (fens total (tagged_variant tags) tags)) 0)
  where
    tags : List (ℕ × Token)
    tags = tag_section tokens

    s : State
    s = from_start (last_start (initial_setup_of (tagged_variant tags)) (fens total (tagged_variant tags) tags))

    rest : List (ℕ × Token)
    rest = drop (length tags) tokens

    by_cases : (is_empty : Bool) (bad : Option PgnFault)
        → stops_past_draw (by_parts s is_empty bad (read_after_tags true limit total s tags rest)) ≡ false
        → by_parts s is_empty bad (read_after_tags false limit total s tags rest)
        ≡ by_parts s is_empty bad (read_after_tags true limit total s tags rest)
    by_cases true bad h = refl
    by_cases false (Some f) h = refl
    by_cases false None h = after_tags_alike limit total s tags rest h

-- a game of a text
pub read_alike : (limit : ℕ) (text : List ℕ) (at : ℕ) → stops_past_draw (pgn_read true limit text at) ≡ false
    → pgn_read false limit text at ≡ pgn_read true limit text at
unfolding pgn_read
read_alike limit text at h =
    split_alike limit (length text) (tokens_from text (after_byte_order_mark text at)) h

-- ---- a game in which some move comes after one of the two draws: it has no fault in its tags

-- reading moves keeps the game's start
start_kept : (draws : Bool) (limit total : ℕ) (termination : Option Termination) (s : State) (ts : List (ℕ × Token))
    → (moves_read draws limit total termination s ts).state.start ≡ s.start
start_kept draws limit total termination s [] = refl
start_kept draws limit total termination s (t ∷ ts) =
    ap (λ (r : GameRead). r.state.start) (moves_by_row draws limit total termination s t ts)
    ∙ by_token t.0 t.1 (λ next. start_kept draws limit total termination next ts)
  where
    later : State → GameRead
    later next = moves_read draws limit total termination next ts

    Keeps : Row → Type 0
    Keeps x = (after_row termination s x later).state.start ≡ s.start

    Later : Type 0
    Later = (next : State) → (later next).state.start ≡ next.start

    unless : (over room : Bool) (at : ℕ) (allowed : Row) → Keeps allowed
        → Keeps (cond over (Fails AfterEnd at) (cond room allowed (Fails TooLong at)))
    unless true room at allowed k = refl
    unless false true at allowed k = k
    unless false false at allowed k = refl

    by_reading : (at : ℕ) (r : Reading) → Later → Keeps (move_row draws limit s at r)
    by_reading at reads.NotAMove k = refl
    by_reading at (reads.Move m) k = unless (is_some (ending draws s)) (nat_lt (length s.moves) limit) at
        (Goes_on (played s m)) (k (played s m))
    by_reading at reads.Ambiguous k = unless (is_some (ending draws s)) (nat_lt (length s.moves) limit) at
        (Fails AmbiguousMove at) refl
    by_reading at reads.NoSuch k = unless (is_some (ending draws s)) (nat_lt (length s.moves) limit) at
        (Fails IllegalMove at) refl

    by_word : (left : ℕ) (word : List ℕ) (o : Option Outcome) (is_passed : Bool) → Later
        → Keeps (option_map_or (λ k. Ends k (total - left + length word)) o
        (cond is_passed (Goes_on s) (move_row draws limit s (total - left) (reading (current s) word))))
    by_word left word (Some o) is_passed k = refl
    by_word left word None true k = k s
    by_word left word None false k = by_reading (total - left) (reading (current s) word) k

    by_token : (left : ℕ) (u : Token) → Later → Keeps (row draws limit total s (left, u))
    by_token left Skip k = k s
    by_token left (Tag name string at_string) k = refl
    by_token left (Word word) k = by_word left word (outcome_of word) (list_all is_digit word || is_marks word) k
    by_token left Bad_tag k = refl
    by_token left (Unclosed_comment brace) k = refl
    by_token left Unclosed_variation k = refl
    by_token left Bad k = refl

-- a bad FEN is no fault of a move after a draw
first_bad : (total : ℕ) (v : Variant) (s : State) (xs : List (List ℕ × ℕ)) (f : PgnFault)
    → slice_get (filter_map result_err (map (fen_read total v) xs)) 0 ≡ Some f → is_past_draw f.kind s ≡ false
first_bad total v s [] f e = absurd (cc)
first_bad total v s (x ∷ xs) f e =
    by_reading (fen_reading_as v x.0) (λ k. first_bad total v s xs f k) e
  where
    more : List PgnFault
    more = filter_map result_err (map (fen_read total v) xs)

    by_reading : (r : Result Setup FenFault)
        → (slice_get more 0 ≡ Some f → is_past_draw f.kind s ≡ false)
        → slice_get (cons_option (result_err (result_map_both (λ (start : Setup). start)
        (λ (fault : FenFault). record { kind = BadFen fault; offset = total - x.1 }) r)) more) 0 ≡ Some f
        → is_past_draw f.kind s ≡ false
    by_reading (Ok start) later k = later k
    by_reading (Err fault) later k =
        sym (ap (λ (o : Option PgnFault). option_map_or (λ (g : PgnFault). is_past_draw g.kind s) o false) k)

-- if reading after the tags stopped at such a move, then without the two draws what is read is its moves from the start
-- on
after_tags_again : (limit total : ℕ) (s : State) (tags rest : List (ℕ × Token))
    → stops_past_draw (read_after_tags true limit total s tags rest) ≡ true
    → (read_after_tags false limit total s tags rest ≡ moves_read false limit total (termination_in tags) s rest)
    × ((read_after_tags true limit total s tags rest).state.start ≡ s.start)
after_tags_again limit total s tags [] h = (refl, refl)
after_tags_again limit total s tags ((left, Bad_tag) ∷ rest) h = absurd (false≢true h)
after_tags_again limit total s tags ((left, Skip) ∷ rest) h =
    (refl, start_kept true limit total (termination_in tags) s ((left, Skip) ∷ rest))
after_tags_again limit total s tags ((left, Tag name string at_string) ∷ rest) h =
    (refl, start_kept true limit total (termination_in tags) s ((left, Tag name string at_string) ∷ rest))
after_tags_again limit total s tags ((left, Word word) ∷ rest) h =
    (refl, start_kept true limit total (termination_in tags) s ((left, Word word) ∷ rest))
after_tags_again limit total s tags ((left, Unclosed_comment brace) ∷ rest) h =
    (refl, start_kept true limit total (termination_in tags) s ((left, Unclosed_comment brace) ∷ rest))
after_tags_again limit total s tags ((left, Unclosed_variation) ∷ rest) h =
    (refl, start_kept true limit total (termination_in tags) s ((left, Unclosed_variation) ∷ rest))
after_tags_again limit total s tags ((left, Bad) ∷ rest) h =
    (refl, start_kept true limit total (termination_in tags) s ((left, Bad) ∷ rest))

-- the same for a whole game: its moves are read from where its tags end, with the start and the tag Termination as
-- before
split_again : (limit total : ℕ) (tokens : List (ℕ × Token))
    → stops_past_draw (read_of_split true limit total tokens) ≡ true
    → read_of_split false limit total tokens ≡ moves_read false limit total (termination_in (tag_section tokens))
    (from_start (read_of_split true limit total tokens).state.start) (after_tags tokens)
split_again limit total tokens h =
    let both = by_cases (list_all (λ (t : ℕ × Token). says_nothing t.1) tokens)
    (slice_get (filter_map result_err (fens total v tags)) 0) refl h in
    both.0
    ∙ ap (λ p. moves_read false limit total (termination_in tags) (from_start p) (after_tags tokens)) (sym both.1)
  where
    tags : List (ℕ × Token)
    tags = tag_section tokens

    v : Variant
    v = tagged_variant tags

    s : State
    s = from_start (last_start (initial_setup_of v) (fens total v tags))

    rest : List (ℕ × Token)
    rest = drop (length tags) tokens

    by_cases : (is_empty : Bool) (bad : Option PgnFault)
        → slice_get (filter_map result_err (fens total v tags)) 0 ≡ bad
        → stops_past_draw (by_parts s is_empty bad (read_after_tags true limit total s tags rest)) ≡ true
        → (by_parts s is_empty bad (read_after_tags false limit total s tags rest)
        ≡ moves_read false limit total (termination_in tags) s rest)
        × ((by_parts s is_empty bad (read_after_tags true limit total s tags rest)).state.start ≡ s.start)
    by_cases true bad e k = absurd (false≢true k)
    by_cases false (Some f) e k =
        absurd (false≢true (sym (first_bad total v s (tags_named (codes "FEN") tags) f e) ∙ k))
    by_cases false None e k = after_tags_again limit total s tags rest k

-- where reading stopped at such a move, reading the moves again from where the tags end (`begin`) gives what is read
-- without the two draws, if it succeeds (anew_read) and if it fails (anew_failed)
module _ (text : List ℕ) (at begin : ℕ) (start : Setup) (termination : Option Termination)
    (h : stops_past_draw (pgn_read true MOST_MOVES text at) ≡ true)
    (begins : start ≡ (pgn_read true MOST_MOVES text at).state.start)
    (tags_end : IsAfterTags text (after_byte_order_mark text at) begin)
    (says : termination ≡ termination_in (tag_section (tokens_from text (after_byte_order_mark text at))))
  where
    abbrev again : GameRead
    again = moves_read false MOST_MOVES (length text) termination (from_start start) (tokens_from text begin)

    is_again : pgn_read false MOST_MOVES text at ≡ again
    unfolding pgn_read
    is_again =
        let tokens = tokens_from text (after_byte_order_mark text at) in
        let first = (read_of_split true MOST_MOVES (length text) tokens).state.start in
        split_again MOST_MOVES (length text) tokens h
        ∙ ap (λ t. moves_read false MOST_MOVES (length text) t (from_start first) (after_tags tokens)) (sym says)
        ∙ ap (λ p. moves_read false MOST_MOVES (length text) termination (from_start p) (after_tags tokens))
        (sym begins)
        ∙ ap (moves_read false MOST_MOVES (length text) termination (from_start start)) tags_end

    same_start : (pgn_read false MOST_MOVES text at).state.start ≡ start
    same_start = ap (λ (r : GameRead). r.state.start) is_again
        ∙ start_kept false MOST_MOVES (length text) termination (from_start start) (tokens_from text begin)

    same_place : (g : State) → g ≡ from_start (current again.state)
        → Stands false g (pgn_read false MOST_MOVES text at).state
    same_place g e =
        subst (λ (r : GameRead). Stands false g r.state) (sym is_again)
        (record { position = ap current e; ends = ap (ending false) e ∙ anew_alike again.state })

    pub anew_read : (end : PgnEnd) (plies : ℕ) (g : State) (kept : Setup)
        → kept ≡ (pgn_read true MOST_MOVES text at).state.start → IsReadAgain again (Ok (end, plies)) g
        → IsAnswer (pgn_read false MOST_MOVES text at)
        (Ok (Some (record { end = end; start = kept; plies = plies })))
        × Stands false g (pgn_read false MOST_MOVES text at).state
    anew_read end plies g kept same k = (
      (
        ap (λ (r : GameRead). r.answer) is_again ∙ k.0,
        same ∙ sym begins ∙ sym same_start,
        k.1 ∙ ap (λ (r : GameRead). length r.state.moves) (sym is_again),
      ),
      same_place g k.2,
    )

    pub anew_failed : (fault : PgnFault) (g : State) → IsReadAgain again (Err fault) g
        → IsAnswer (pgn_read false MOST_MOVES text at) (Err fault)
        × Stands false g (pgn_read false MOST_MOVES text at).state
    anew_failed fault g k = (ap (λ (r : GameRead). r.answer) is_again ∙ k.0, same_place g k.1)

-- ---- one token of its moves

-- what a token does in the game `s` (the row), by what the code found
abbrev IsRow : State → Row → Result code.Effect PgnFault → Type 0
IsRow s x (Ok does.Nothing) = x ≡ Goes_on s
IsRow s x (Ok (does.Move p)) = (next : State) × (x ≡ Goes_on next) × (p ≡ current next)
    × (length s.moves + 1 ≡ length next.moves)
IsRow s x (Ok (does.End o end)) = x ≡ Ends o end
IsRow s x (Err fault) = x ≡ Fails fault.kind fault.offset

-- the effect that the code finds for a token, in the game begun anew, is the token's row in the game `s`
module _ (total left : ℕ) (s : State) where
  move_row_is : (at : ℕ) (v : Option Verdict) (room : Bool) (m : Played)
      → IsRow s (cond (is_some v) (Fails AfterEnd at) (cond room (Goes_on (played s m)) (Fails TooLong at)))
      (move_effect at (option_map_or Err (cond (is_some v) (Some AfterEnd) (cond room None (Some TooLong)))
      (Ok (after (current s) m))))
  move_row_is at (Some v) room m = refl
  move_row_is at None true m = (
    played s m,
    refl,
    sym (position_after-snoc s.start s.moves m),
    sym (length-append s.moves (m ∷ [])),
  )
  move_row_is at None false m = refl

  fault_row_is : (at : ℕ) (v : Option Verdict) (room : Bool) (kind : PgnFaultKind)
      → IsRow s (cond (is_some v) (Fails AfterEnd at) (cond room (Fails kind at) (Fails TooLong at)))
      (move_effect at (Err (unwrap_or (cond (is_some v) (Some AfterEnd) (cond room None (Some TooLong))) kind)))
  fault_row_is at (Some v) room kind = refl
  fault_row_is at None true kind = refl
  fault_row_is at None false kind = refl

  -- by how the word is read
  reading_row : (at : ℕ) (r : Reading) → IsRow s (move_row false MOST_MOVES s at r)
      (move_effect at (next_position (closing_fault (ending false s) (length s.moves)) (current s) r))
  reading_row at reads.NotAMove = refl
  reading_row at (reads.Move m) = move_row_is at (ending false s) (nat_lt (length s.moves) MOST_MOVES) m
  reading_row at reads.Ambiguous = fault_row_is at (ending false s) (nat_lt (length s.moves) MOST_MOVES) AmbiguousMove
  reading_row at reads.NoSuch = fault_row_is at (ending false s) (nat_lt (length s.moves) MOST_MOVES) IllegalMove

  abbrev anew : State
  anew = from_start (current s)

  word_row : (word : List ℕ) (o : Option Outcome) (digits marks : Bool)
      → IsRow s (option_map_or (λ k. Ends k (total - left + length word)) o
      (cond (digits || marks) (Goes_on s) (move_row false MOST_MOVES s (total - left) (reading (current s) word))))
      (word_effect (length s.moves) anew (total - left) word
      (option_map_or End o (cond digits Number (cond marks Marks Move))))
  word_row word (Some o) digits marks = refl
  word_row word None true marks = refl
  word_row word None false true = refl
  word_row word None false false =
      subst (λ v. IsRow s (move_row false MOST_MOVES s (total - left) (reading (current s) word))
      (move_effect (total - left)
      (next_position (closing_fault v (length s.moves)) (current s) (reading (current s) word))))
      (sym (anew_alike s)) (reading_row (total - left) (reading (current s) word))

  token_row : (t : Token)
      → IsRow s (row false MOST_MOVES total s (left, t)) (token_effect (length s.moves) total anew left t)
  token_row Skip = refl
  token_row (Tag name string at_string) = refl
  token_row (Word word) = word_row word (outcome_of word) (list_all is_digit word) (is_marks word)
  token_row Bad_tag = refl
  token_row (Unclosed_comment brace) = refl
  token_row Unclosed_variation = refl
  token_row Bad = refl

-- ---- the loop of `read_moves`

-- at the offset `here`, after `plies` half-moves: `s` is the game as it would be with its moves, `game` is begun anew
-- in the position of `s`, and what is read of `s` from here on is `all`, what is read of the whole game
pub record Again (text : List ℕ) (termination : Option Termination) (all : GameRead) (game : Seen) (plies here : ℕ)
    : Type 0 where
  pub offset : here ≤ length text
  pub few : plies ≤ here
  pub s : State
  pub begun : game.state ≡ from_start (current s)
  pub count : plies ≡ length s.moves
  pub gives : moves_read false MOST_MOVES (length text) termination s (tokens_from text here) ≡ all

-- this holds before the first token after the tags
pub first : (text : List ℕ) (termination : Option Termination) (start : Setup) (old game : Seen) (at : ℕ)
    → at ≤ length text → game ≡ left_at old (from_start start)
    → Again text termination
    (moves_read false MOST_MOVES (length text) termination (from_start start) (tokens_from text at)) game 0 at
first text termination start old game at h restarted = record {
  offset = h;
  few = omega arith;
  s = from_start start;
  begun = ap (λ (g : Seen). g.state) restarted;
  count = refl;
  gives = refl;
}

-- a round of the loop, at the first token from `here` on
module _ (text : List ℕ) (termination : Option Termination) (all : GameRead) (game : Seen) (plies here : ℕ)
    (r : Again text termination all game plies here)
  where
    module _ (t : Token) (ts : List (ℕ × Token)) (is : tokens_from text here ≡ (length text - here, t) ∷ ts) where
      abbrev Found : Type 0
      Found = Result code.Effect PgnFault

      abbrev found : Found
      found = token_effect plies (length text) game.state (length text - here) t

      abbrev does_row : Row
      does_row = row false MOST_MOVES (length text) r.s (length text - here, t)

      row_found : (effect : Found) → effect ≡ found → IsRow r.s does_row effect
      row_found effect e =
          subst (IsRow r.s does_row) (sym e)
          (subst (λ n. IsRow r.s does_row (token_effect n (length text) game.state (length text - here) t))
          (sym r.count)
          (subst (λ g. IsRow r.s does_row (token_effect (length r.s.moves) (length text) g (length text - here) t))
          (sym r.begun) (token_row (length text) (length text - here) r.s t)))

      gives_row : (x : Row) → does_row ≡ x
          → after_row termination r.s x (λ next. moves_read false MOST_MOVES (length text) termination next ts) ≡ all
      gives_row x e =
          ap (λ y. after_row termination r.s y (λ next. moves_read false MOST_MOVES (length text) termination next ts))
          (sym e)
          ∙ sym (moves_by_row false MOST_MOVES (length text) termination r.s (length text - here, t) ts)
          ∙ ap (moves_read false MOST_MOVES (length text) termination r.s) (sym is) ∙ r.gives

      -- the termination marker
      pub ended : (o : Outcome) (end : ℕ) → Ok (does.End o end) ≡ found
          → IsReadAgain all (Ok (record { outcome = o; termination = termination; offset = end }, plies)) game.state
      ended o end e =
          let same = gives_row (Ends o end) (row_found (Ok (does.End o end)) e) in (
            ap (λ (x : GameRead). x.answer) (sym same),
            r.count ∙ ap (λ (x : GameRead). length x.state.moves) same,
            r.begun ∙ ap (λ (x : GameRead). from_start (current x.state)) same,
          )

      -- a fault
      pub stopped : (fault : PgnFault) → Err fault ≡ found → IsReadAgain all (Err fault) game.state
      stopped fault e =
          let same = gives_row (Fails fault.kind fault.offset) (row_found (Err fault) e) in (
            ap (λ (x : GameRead). x.answer) (sym same),
            r.begun ∙ ap (λ (x : GameRead). from_start (current x.state)) same,
          )

    module _ (t : Token) (tail : ℕ)
        (is : tokens_from text here ≡ (length text - here, t) ∷ tokens_from text tail) (later : here < tail)
        (within : tail ≤ length text)
      where
        pub passed : Ok does.Nothing ≡ token_effect plies (length text) game.state (length text - here) t
            → Again text termination all game plies tail
        passed e = record {
          offset = within;
          few = (let before = r.few in omega (arith, before, later));
          s = r.s;
          begun = r.begun;
          count = r.count;
          gives = gives_row t (tokens_from text tail) is (Goes_on r.s)
              (row_found t (tokens_from text tail) is (Ok does.Nothing) e);
        }

        pub moved : (p : Setup) (new : Seen)
            → Ok (does.Move p) ≡ token_effect plies (length text) game.state (length text - here) t
            → new ≡ left_at game (from_start p) → Again text termination all new (plies + 1) tail
        moved p new e restarted =
            let next = row_found t (tokens_from text tail) is (Ok (does.Move p)) e in
            record {
              offset = within;
              few = (let before = r.few in omega (arith, before, later));
              s = next.0;
              begun = ap (λ (g : Seen). g.state) restarted ∙ ap from_start next.2;
              count = ap (λ n. n + 1) r.count ∙ next.3;
              gives = gives_row t (tokens_from text tail) is (Goes_on next.0) next.1;
            }

    -- the text's end
    pub at_end : tokens_from text here ≡ []
        → IsReadAgain all (Err (record { kind = NoResult; offset = length text })) game.state
    at_end none =
        let same = ap (moves_read false MOST_MOVES (length text) termination r.s) (sym none) ∙ r.gives in (
          ap (λ (x : GameRead). x.answer) (sym same),
          r.begun ∙ ap (λ (x : GameRead). from_start (current x.state)) same,
        )

    -- what can't be read
    unread_found : (f : TokenFault) → Err (unread_fault (length text) (length text - here) (fault_seen f))
        ≡ token_effect plies (length text) game.state (length text - here) (fault_seen f)
    unread_found unreadable.BadTag = refl
    unread_found (unreadable.UnclosedComment left) = refl
    unread_found unreadable.UnclosedVariation = refl
    unread_found unreadable.BadByte = refl

    pub unread : (f : TokenFault) (stop : PgnFault)
        → tokens_from text here ≡ (length text - here, fault_seen f) ∷ []
        → stop ≡ unread_fault (length text) (length text - here) (fault_seen f)
        → IsReadAgain all (Err stop) game.state
    unread f stop is e =
        stopped (fault_seen f) [] is stop
        (subst (λ (x : PgnFault). Err x ≡ token_effect plies (length text) game.state (length text - here)
        (fault_seen f))
        (sym e) (unread_found f))

-- ---- what is returned

-- what `read_pgn` gave of a game of the most half-moves
pub read_of_most : (text : List ℕ) (at : ℕ) (result : Result (Option PgnEnd) PgnFault) (old new : Seen)
    → old.limit ≡ MOST_MOVES → result ≡ (pgn_read true old.limit text at).answer
    → new ≡ left_at old (pgn_read true old.limit text at).state
    → (result ≡ (pgn_read true MOST_MOVES text at).answer) × (new.state ≡ (pgn_read true MOST_MOVES text at).state)
read_of_most text at result old new most answer game = (
  answer ∙ ap (λ n. (pgn_read true n text at).answer) most,
  ap (λ (g : Seen). g.state) game ∙ ap (λ n. (pgn_read true n text at).state) most,
)

-- if it didn't, answer and game are those that are read without these draws
pub alike_answer : (text : List ℕ) (at : ℕ) (result : Result (Option PgnEnd) PgnFault) (g : State)
    → result ≡ (pgn_read true MOST_MOVES text at).answer → g ≡ (pgn_read true MOST_MOVES text at).state
    → is_at_past_draw g result ≡ false
    → (result ≡ (pgn_read false MOST_MOVES text at).answer) × (g ≡ (pgn_read false MOST_MOVES text at).state)
alike_answer text at result g answer state h =
    let no : stops_past_draw (pgn_read true MOST_MOVES text at) ≡ false =
    ap (is_at_past_draw (pgn_read true MOST_MOVES text at).state) (sym answer)
    ∙ ap (λ s. is_at_past_draw s result) (sym state) ∙ h in
    let same = read_alike MOST_MOVES text at no in
    (answer ∙ ap (λ (r : GameRead). r.answer) (sym same), state ∙ ap (λ (r : GameRead). r.state) (sym same))

-- a game that was read so stands for itself
pub stands_alike : (text : List ℕ) (at : ℕ) (g : State) → g ≡ (pgn_read false MOST_MOVES text at).state
    → Stands false g (pgn_read false MOST_MOVES text at).state
stands_alike text at g e = record { position = ap current e; ends = ap (ending false) e }

-- the code's test of the fault and the game says whether reading stopped at a move after one of the two draws
pub is_past : (r : GameRead) (fault : PgnFault) (g : State) (b : Bool) → r.answer ≡ Err fault → g ≡ r.state
    → b ≡ is_past_draw fault.kind g → stops_past_draw r ≡ b
is_past r fault g b answer state test =
    ap (is_at_past_draw r.state) answer ∙ ap (is_past_draw fault.kind) (sym state) ∙ sym test
