-- The moves' texts (words) of a game that pgn_read reads without a fault: each denotes the game's move at its index,
-- and was read where the game had no verdict yet and fewer half-moves than the limit (game_words). The lemmas follow
-- the definitions of reading downwards: a token, the tokens of the moves, the tags before them, the whole text.
use Rattle.std.proofs.Common.{◌≡◌, ℕ, Bool, true, false, cond, List, [], ◌∷◌, ◌++◌, length, drop, Option, Some, None, is_some, Result, Ok, Err, refl, sym, subst, ◌∙◌, inl, inr, ◌⊎◌, append_assoc, append-nil, ◌||◌, ◌+◌, ◌-◌, nat_lt, slice_get}
use Rattle.std.specs.{List.list_all, List.filter_map, Option.option_map_or, Result.result_err}
use Rattle.chess_base.specs.{declared.man.Move.Move, declared.man.Variant.Variant, declared.setup.Setup.Setup, Initial.initial_setup_of}
use Rattle.byte_devices.specs.Bytes.{is_digit, after_byte_order_mark}
use Rattle.chess_game.specs.Game.{State, from_start, played, current, verdict_now}
use Rattle.chess_game.specs.{declared.results.Outcome.Outcome, declared.verdicts.Verdict.Verdict}
use Rattle.chess_text.specs.{declared.reading.Reading.Reading, Moves.reading}
use Rattle.chess_text.specs.declared.reading.Reading.TheVariants as reads
use Rattle.chess_pgn.specs.{declared.read.PgnEnd.PgnEnd, declared.read.PgnFault.PgnFault, declared.read.PgnFaultKind.TheVariants.AfterEnd, declared.read.PgnFaultKind.TheVariants.TooLong}
use Rattle.pgn_tokens.specs.{LastTags.says_nothing, LastTags.tag_section, Marks.is_marks}
use Rattle.pgn_writer.specs.{declared.termination.Termination.Termination, Outcomes.outcome_of}
use Rattle.chess_pgn.specs.GameRead.{GameRead, moves_read, tagged_variant, read_after_tags, pgn_read}
use Rattle.chess_pgn.specs.shared.Rows.{Row, Goes_on, Ends, Fails, with_fault, move_row, row, after_row, last_start}
use Rattle.pgn_tokens.specs.Tokens.{Token, Skip, Tag, Word, Bad_tag, Unclosed_comment, Unclosed_variation, Bad, tokens_from}
use Rattle.chess_pgn.proofs.shared.Games.{fens, moves_by_row, termination_in}

-- from the game `s` on each word denotes the move at its index, where the game has no verdict and fewer than `limit`
-- moves
abbrev pub AreRead : ℕ → State → List (List ℕ) → List Move → Type 0
AreRead limit s [] [] = Unit {0}
AreRead limit s [] (m ∷ ms) = ⊥
AreRead limit s (w ∷ ws) [] = ⊥
AreRead limit s (w ∷ ws) (m ∷ ms) =
    (verdict_now s ≡ None) × (nat_lt (length s.moves) limit ≡ true) × (reading (current s) w ≡ reads.Move m)
    × AreRead limit (played s m) ws ms

-- reading ended a game
abbrev IsEnd : Result (Option PgnEnd) PgnFault → Type 0
IsEnd (Ok None) = ⊥
IsEnd (Ok (Some end)) = Unit {0}
IsEnd (Err fault) = ⊥

-- the moves from the game `s` to the game `r`, by their words
record Words (limit : ℕ) (s r : State) : Type 0 where
  words : List (List ℕ)
  moves : List Move
  are : AreRead limit s words moves
  all : s.moves ++ moves ≡ r.moves
  start : r.start ≡ s.start

-- ---- a word

-- a word whose move is played
record IsPlayed (limit : ℕ) (s : State) (m : Move) : Type 0 where
  word : List ℕ
  unended : verdict_now s ≡ None
  room : nat_lt (length s.moves) limit ≡ true
  denotes : reading (current s) word ≡ reads.Move m

-- what the row of a word of a move says if it goes on to `next`: the game had no verdict, it had room for a move, and
-- `x`, the row by what the word denotes, is that
open_row : (over : Option Verdict) (room : Bool) (left : ℕ) (x : Row) (next : State)
    → cond (is_some over) (Fails AfterEnd left) (cond room x (Fails TooLong left)) ≡ Goes_on next
    → (over ≡ None) × (room ≡ true) × (x ≡ Goes_on next)
open_row (Some v) room left x next e = absurd (cc)
open_row None false left x next e = absurd (cc)
open_row None true left x next e = (refl, refl, e)

-- a game goes on as it is, or with one move more
abbrev After : ℕ → State → State → Type 0
After limit s next = (next ≡ s) ⊎ ((m : Move) × IsPlayed limit s m × (next ≡ played s m))

-- a word of a move, with which reading goes on: it denotes a move, and the next game has that move more
word_plays : (limit : ℕ) (s : State) (left : ℕ) (word : List ℕ) (next : State) (r : Reading)
    → reading (current s) word ≡ r → move_row true limit s left r ≡ Goes_on next → After limit s next
word_plays limit s left word next reads.NotAMove is e = absurd (cc)
word_plays limit s left word next (reads.Move m) is e =
    let open_yet = open_row (verdict_now s) (nat_lt (length s.moves) limit) left (Goes_on (played s m)) next e in
    let goes_on : Goes_on (played s m) ≡ Goes_on next = open_yet.2 in
    let same : next ≡ played s m = cc in
    inr (m, record { word = word; unended = open_yet.0; room = open_yet.1; denotes = is }, same)
word_plays limit s left word next reads.Ambiguous is e =
    let none = (open_row (verdict_now s) (nat_lt (length s.moves) limit) left _ next e).2 in absurd (cc)
word_plays limit s left word next reads.NoSuch is e =
    let none = (open_row (verdict_now s) (nat_lt (length s.moves) limit) left _ next e).2 in absurd (cc)

same_game : (s next : State) → Goes_on s ≡ Goes_on next → next ≡ s
same_game s next e = cc

-- a token with which reading goes on: it is skipped, or it is a word whose move is played
token_goes_on : (limit total : ℕ) (s : State) (t : ℕ × Token) (next : State) → row true limit total s t ≡ Goes_on next
    → After limit s next
token_goes_on limit total s (left, Skip) next e = inl (same_game s next e)
token_goes_on limit total s (left, Tag name string at_string) next e = absurd (cc)
token_goes_on limit total s (left, Word word) next e =
    by_kind (outcome_of word) (list_all is_digit word) (is_marks word) e
  where
    by_kind : (o : Option Outcome) (is_number is_mark : Bool)
        → option_map_or (λ k. Ends k (total - left + length word)) o
        (cond (is_number || is_mark) (Goes_on s) (move_row true limit s (total - left) (reading (current s) word)))
        ≡ Goes_on next → After limit s next
    by_kind (Some o) is_number is_mark e = absurd (cc)
    by_kind None true is_mark e = inl (same_game s next e)
    by_kind None false true e = inl (same_game s next e)
    by_kind None false false e = word_plays limit s (total - left) word next (reading (current s) word) refl e
token_goes_on limit total s (left, Bad_tag) next e = absurd (cc)
token_goes_on limit total s (left, Unclosed_comment brace) next e = absurd (cc)
token_goes_on limit total s (left, Unclosed_variation) next e = absurd (cc)
token_goes_on limit total s (left, Bad) next e = absurd (cc)

-- ---- the moves

-- reading the tokens `ts` after the tags, from the game `s` on, ended a game: its moves after those of `s` have such
-- words. By induction on the tokens, with token_goes_on for each
moves_words : (limit total : ℕ) (termination : Option Termination) (s : State) (ts : List (ℕ × Token))
    → IsEnd (moves_read true limit total termination s ts).answer
    → Words limit s (moves_read true limit total termination s ts).state
moves_words limit total termination s [] h = absurd h
moves_words limit total termination s (t ∷ ts) h =
    subst (λ (r : GameRead). IsEnd r.answer → Words limit s r.state)
    (sym (moves_by_row true limit total termination s t ts))
    (by_row (row true limit total s t) refl (λ n k. moves_words limit total termination n ts k)) h
  where
    by_row : (x : Row) → row true limit total s t ≡ x
        → ((n : State) → IsEnd (moves_read true limit total termination n ts).answer
        → Words limit n (moves_read true limit total termination n ts).state)
        → IsEnd (after_row termination s x (λ n. moves_read true limit total termination n ts)).answer
        → Words limit s (after_row termination s x (λ n. moves_read true limit total termination n ts)).state
    by_row (Goes_on next) e later k = by_next (token_goes_on limit total s t next e) (later next k)
      where
        by_next : After limit s next → Words limit next (moves_read true limit total termination next ts).state
            → Words limit s (moves_read true limit total termination next ts).state
        by_next (inl same) more =
            subst (λ g. Words limit g (moves_read true limit total termination next ts).state) same more
        by_next (inr (m, here, same)) later_words =
            let more : Words limit (played s m) (moves_read true limit total termination next ts).state =
            subst (λ g. Words limit g (moves_read true limit total termination next ts).state) same later_words in
            record {
              words = here.word ∷ more.words;
              moves = m ∷ more.moves;
              are = (here.unended, here.room, here.denotes, more.are);
              all = sym (append_assoc s.moves (m ∷ []) more.moves) ∙ more.all;
              start = more.start;
            }
    by_row (Ends o len) e later k =
        record { words = []; moves = []; are = tt; all = append-nil s.moves; start = refl }
    by_row (Fails kind left) e later k = absurd k

-- the same where the tags have been read: only a word or a skipped token there can lead to the end of a game
tags_words : (limit total : ℕ) (s : State) (tags ts : List (ℕ × Token))
    → IsEnd (read_after_tags true limit total s tags ts).answer
    → Words limit s (read_after_tags true limit total s tags ts).state
tags_words limit total s tags [] h = absurd h
tags_words limit total s tags ((left, Skip) ∷ ts) h =
    moves_words limit total (termination_in tags) s ((left, Skip) ∷ ts) h
tags_words limit total s tags ((left, Tag name string at) ∷ ts) h = absurd h
tags_words limit total s tags ((left, Word word) ∷ ts) h =
    moves_words limit total (termination_in tags) s ((left, Word word) ∷ ts) h
tags_words limit total s tags ((left, Bad_tag) ∷ ts) h = absurd h
tags_words limit total s tags ((left, Unclosed_comment brace) ∷ ts) h = absurd h
tags_words limit total s tags ((left, Unclosed_variation) ∷ ts) h = absurd h
tags_words limit total s tags ((left, Bad) ∷ ts) h = absurd h

-- ---- the game

-- the same where reading may have met the fault of a FEN: then it ends no game
by_fault : (limit : ℕ) (s : State) (fault : Option PgnFault) (read : GameRead)
    → (IsEnd read.answer → Words limit s read.state) → IsEnd (option_map_or (with_fault s) fault read).answer
    → Words limit s (option_map_or (with_fault s) fault read).state
by_fault limit s (Some f) read later h = absurd h
by_fault limit s None read later h = later h

-- the same where the text may have no game at all: then `Ok None` ends no game either
by_game : (limit : ℕ) (p s : State) (none : Bool) (read : GameRead)
    → (IsEnd read.answer → Words limit p read.state)
    → IsEnd (cond none (record { state = s; answer = Ok None }) read).answer
    → Words limit p (cond none (record { state = s; answer = Ok None }) read).state
by_game limit p s true read later h = absurd h
by_game limit p s false read later h = later h

-- words for the moves from the start `p` on are words for all moves of the game `r`, which starts there
from_words : (limit : ℕ) (p : Setup) (r : State) (w : Words limit (from_start p) r)
    → AreRead limit (from_start r.start) w.words r.moves
from_words limit p r w = subst (λ q. AreRead limit (from_start q) w.words r.moves) (sym w.start)
    (subst (λ ms. AreRead limit (from_start p) w.words ms) w.all w.are)

-- a text that is read as a game has such words, one for each of the game's moves
pub game_words : (limit : ℕ) (text : List ℕ) (at : ℕ) (end : PgnEnd)
    → (pgn_read true limit text at).answer ≡ Ok (Some end)
    → (words : List (List ℕ)) × AreRead limit (from_start (pgn_read true limit text at).state.start) words
    (pgn_read true limit text at).state.moves
unfolding pgn_read
game_words limit text at end is =
    let total : ℕ = length text in
    let tokens : List (ℕ × Token) = tokens_from text (after_byte_order_mark text at) in
    let tags : List (ℕ × Token) = tag_section tokens in
    let v : Variant = tagged_variant tags in
    let p : Setup = last_start (initial_setup_of v) (fens total v tags) in
    let rest : List (ℕ × Token) = drop (length tags) tokens in
    let w : Words limit (from_start p) (pgn_read true limit text at).state =
    by_game limit (from_start p) (from_start p) (list_all (λ (t : ℕ × Token). says_nothing t.1) tokens)
    (option_map_or (with_fault (from_start p)) (slice_get (filter_map result_err (fens total v tags)) 0)
    (read_after_tags true limit total (from_start p) tags rest))
    (by_fault limit (from_start p) (slice_get (filter_map result_err (fens total v tags)) 0)
    (read_after_tags true limit total (from_start p) tags rest)
    (tags_words limit total (from_start p) tags rest))
    (subst IsEnd (sym is) tt) in
    (w.words, from_words limit p (pgn_read true limit text at).state w)
