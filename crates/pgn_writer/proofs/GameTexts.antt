-- The text of a game is put in parts: tags and empty line, moves, empty line; and these in parts of their own, down to
-- a move's number and SAN. HasParts says that a text has three parts (such as game_is, tags_are). If the first or
-- second can't be put, the writer took a beginning of the whole (first_broke, second_broke); with the third the whole
-- is put, or breaks (third_put). Moves are put one after another: move i after the first i (moves_put, moves_broke).
use Rattle.std.proofs.Common.{◌≡◌, ℕ, zero, suc, ◌+◌, Bool, true, false, eqb, List, [], ◌∷◌, ◌++◌, take, slice_get, Some, Result, refl, sym, ap, subst, ◌∙◌, append_assoc, append-nil, add-one, arith, IsTrue, flat_map}
use Rattle.std.proofs.{lemmas.List.Concat.flat_map-append, lemmas.Bool.Decides.nat_tests}
use Rattle.chess_base.specs.{declared.man.Move.Move, declared.man.Variant.Variant, declared.setup.Setup.Setup, Moves.is_legal, Moves.after}
use Rattle.byte_devices.specs.Devices.{OutputState, CutShort, Puts}
use Rattle.chess_game.specs.Game.{Seen, State, outcome_now, IsPlayable}
use Rattle.chess_game.specs.{Results.outcome_text, declared.results.Outcome.Outcome, Line.position_after, Line.IsLine}
use Rattle.pgn_writer.specs.{declared.tags.Tags.Tags, declared.termination.Termination.Termination, Terminations.termination_of, GameText.tag_lines, GameText.game_tokens, GameText.pgn, shared.NumberedMoves.number_if_due, shared.NumberedMoves.numbered_move, shared.NumberedMoves.numbered_moves, ties.Waiting.TookSome, ties.Waiting.Adds, Written.ended, Written.lines_of, laws.Layout.AreShort}
use Rattle.pgn_writer.specs.shared.TagGroups.{roster_lines, start_lines_in, last_lines, further_lines}
use Rattle.pgn_writer.specs.shared.Lines.{wrapped_token, next_column, line_close, placed_all, column_after_all}
use Rattle.chess_text.specs.San.{san}
use Rattle.pgn_writer.proofs.Added.{added_more, added_break, break_longer, adds_more, finished}
use Rattle.pgn_writer.proofs.{FilledLines.filled_from, FilledLines.all_filled, NumberedMoves.game_numbered, ShortTokens.game_is_short}

-- ---- texts of three parts

-- `text` is `t`, `u` and `v`, one after the other
pub record HasParts (t u v text : List ℕ) : Type 0 where
  pub is : text ≡ t ++ (u ++ v)

-- the writer failed at the first part, so it took a beginning of the whole
pub first_broke : (a b : OutputState) (w t u v text : List ℕ) → HasParts t u v text → CutShort a b (w ++ t)
    → CutShort a b (w ++ text)
first_broke a b w t u v text parts h = rw parts.is (break_longer a b w t (u ++ v) h)

-- the first part was added, and the writer failed at the second: it took a beginning of the whole
pub second_broke : (a b c : OutputState) (w x t u v text : List ℕ) → HasParts t u v text → TookSome a b w x t
    → CutShort b c (x ++ u) → CutShort a c (w ++ text)
second_broke a b c w x t u v text parts h k =
    rw parts.is (added_break a b c w x t (u ++ v) h (break_longer b c x u v k))

-- the first two parts were added; if the third is, so is the whole, and if the writer fails at it, it took a beginning
-- of the whole
pub third_put : {A E : Type 0} (a b c d : OutputState) (r : Result A E) (w x y z t u v text : List ℕ)
    → HasParts t u v text → TookSome a b w x t → TookSome b c x y u → Adds c d y z r v → Adds a d w z r text
third_put a b c d r w x y z t u v text parts h k l =
    rw parts.is (adds_more a b d r w x z t (u ++ v) h (adds_more b c d r x y z u v k l))

-- ---- tags

-- the lines of the tags after the roster are those of the start (`FEN` and `SetUp`) and then the last ones
-- (`Termination` and `Variant`). Here and below `before` is the prefix as the code has it after a step, still the same
-- `prefix`
further_is : (prefix before : List ℕ) (start : Setup) (v : Variant) (t : Termination) → v ≡ start.variant
    → before ≡ prefix → ended prefix (further_lines start t) ≡ ended prefix (start_lines_in start.variant start)
    ++ ended before (last_lines v t)
further_is prefix before start v t is b =
    flat_map-append (λ text. prefix ++ text ++ 10 ∷ []) (start_lines_in start.variant start)
    (last_lines start.variant t)
    ∙ ap (λ q. ended prefix (start_lines_in start.variant start) ++ ended q (last_lines start.variant t)) (sym b)
    ∙ ap (λ u. ended prefix (start_lines_in start.variant start) ++ ended before (last_lines u t)) (sym is)

-- the writer failed at the lines of FEN and SetUp, so it took a beginning of all the tags after the roster
pub start_broke : (a b : OutputState) (w prefix : List ℕ) (start : Setup) (t : Termination)
    → CutShort a b (w ++ ended prefix (start_lines_in start.variant start))
    → CutShort a b (w ++ ended prefix (further_lines start t))
start_broke a b w prefix start t h =
    subst (λ v. CutShort a b (w ++ v)) (sym (further_is prefix prefix start start.variant t refl refl))
    (break_longer a b w (ended prefix (start_lines_in start.variant start)) (ended prefix (last_lines start.variant t))
    h)

-- the lines of FEN and SetUp were added; then what becomes of the last tags becomes of all tags after the roster
pub further_put : {A E : Type 0} (a b c : OutputState) (r : Result A E) (w x y prefix before : List ℕ) (start : Setup)
    (v : Variant) (t : Termination) → v ≡ start.variant → before ≡ prefix
    → TookSome a b w x (ended prefix (start_lines_in start.variant start))
    → Adds b c x y r (ended before (last_lines v t)) → Adds a c w y r (ended prefix (further_lines start t))
further_put a b c r w x y prefix before start v t is same h k =
    subst (Adds a c w y r) (sym (further_is prefix before start v t is same))
    (adds_more a b c r w x y (ended prefix (start_lines_in start.variant start)) (ended before (last_lines v t)) h k)

-- the parts of what `put_tag_lines` puts: the roster, the tags after it, and an empty line
pub tags_are : (prefix before last_before : List ℕ) (t : Tags) (outcome : Outcome) (start : Setup)
    (termination : Termination) (s : State) → outcome ≡ outcome_now s → start ≡ s.start
    → termination ≡ termination_of t.ended outcome → before ≡ prefix → last_before ≡ prefix
    → HasParts (ended prefix (roster_lines t outcome)) (ended before (further_lines start termination))
    (last_before ++ [] ++ 10 ∷ []) (ended prefix (tag_lines t s ++ [] ∷ []))
tags_are prefix before last_before t outcome start termination s o is said b l =
    let line : List ℕ → List ℕ = λ text. prefix ++ text ++ 10 ∷ [] in
    let roster : List (List ℕ) = roster_lines t (outcome_now s) in
    let tail : List (List ℕ) = further_lines s.start (termination_of t.ended (outcome_now s)) in
    record {
      is =
          flat_map-append line (roster ++ tail) ([] ∷ [])
          ∙ ap (λ v. v ++ flat_map line ([] ∷ [])) (flat_map-append line roster tail)
          ∙ append_assoc (flat_map line roster) (flat_map line tail) (flat_map line ([] ∷ []))
          ∙ ap (λ v. flat_map line roster ++ (flat_map line tail ++ v)) (append-nil (line []))
          ∙ rw (b, l, said, o, is) refl;
    }

-- the text of all lines is that of the tags' lines and an empty line, of the moves' lines, and of an empty line
parts_ended : (prefix : List ℕ) (tags moves : List (List ℕ))
    → ended prefix (tags ++ [] ∷ moves ++ [] ∷ [])
    ≡ ended prefix (tags ++ [] ∷ []) ++ ended prefix moves ++ ended prefix ([] ∷ [])
parts_ended prefix tags moves =
    let line : List ℕ → List ℕ = λ text. prefix ++ text ++ 10 ∷ [] in
    flat_map-append line (tags ++ [] ∷ moves) ([] ∷ [])
    ∙ ap (λ xs. xs ++ ended prefix ([] ∷ []))
    (ap (ended prefix) (sym (append_assoc tags ([] ∷ []) moves)) ∙ flat_map-append line (tags ++ [] ∷ []) moves)

-- a game's text with its tokens put into lines one by one
pub pgn_filled : (prefix : List ℕ) (t : Tags) (s : State) → AreShort (game_tokens s)
    → pgn prefix t s ≡ ended prefix (tag_lines t s ++ [] ∷ []) ++ filled_from prefix 0 (game_tokens s)
    ++ ended prefix ([] ∷ [])
unfolding pgn
pgn_filled prefix t s short = parts_ended prefix (tag_lines t s) (lines_of (game_tokens s))
    ∙ ap (λ xs. ended prefix (tag_lines t s ++ [] ∷ []) ++ xs ++ ended prefix ([] ∷ []))
    (sym (all_filled prefix (game_tokens s) short))

-- the parts of what `put_game` puts: the tags with an empty line, the moves' lines, and an empty line
pub game_is : (prefix before last_before : List ℕ) (t : Tags) (s : State) → before ≡ prefix → last_before ≡ prefix
    → HasParts (ended prefix (tag_lines t s ++ [] ∷ [])) (ended before (lines_of (game_tokens s)))
    (last_before ++ [] ++ 10 ∷ []) (pgn prefix t s)
unfolding pgn
game_is prefix before last_before t s b l =
    let moves : List (List ℕ) = lines_of (game_tokens s) in
    record {
      is =
          parts_ended prefix (tag_lines t s) moves
          ∙ append_assoc (ended prefix (tag_lines t s ++ [] ∷ [])) (ended prefix moves) (ended prefix ([] ∷ []))
          ∙ ap (λ v. ended prefix (tag_lines t s ++ [] ∷ []) ++ (ended prefix moves ++ v))
          (append-nil (prefix ++ [] ++ 10 ∷ []))
          ∙ rw (b, l) refl;
    }

-- the buffer was empty at first and the whole text was added; once what is left in the buffer is written, the writer
-- got the text
pub game_written : {A E : Type 0} (a b c : OutputState) (r : Result A E) (w x prefix before : List ℕ) (t : Tags)
    (s : State) → w ≡ [] → before ≡ prefix → TookSome a b w x (pgn before t s) → Puts b c r x
    → Puts a c r (pgn prefix t s)
game_written a b c r w x prefix before t s none is h k =
    subst (Puts a c r) (ap (λ v. v ++ pgn before t s) none ∙ ap (λ v. pgn v t s) is)
    (finished a b c r w x (pgn before t s) h k)

-- ---- tokens of one list after those of another: their text, and the bytes in the last line (its column)

pub placed_all-append : (prefix : List ℕ) (column : ℕ) (ts us : List (List ℕ))
    → placed_all prefix column (ts ++ us) ≡ placed_all prefix column ts
    ++ placed_all prefix (column_after_all column ts) us
placed_all-append prefix column [] us = refl
placed_all-append prefix column (t ∷ ts) us =
    ap (λ v. wrapped_token prefix column t ++ v) (placed_all-append prefix (next_column column t) ts us)
    ∙ sym (append_assoc (wrapped_token prefix column t) (placed_all prefix (next_column column t) ts)
    (placed_all prefix (column_after_all column (t ∷ ts)) us))

pub column_after_all-append : (column : ℕ) (ts us : List (List ℕ))
    → column_after_all column (ts ++ us) ≡ column_after_all (column_after_all column ts) us
column_after_all-append column [] us = refl
column_after_all-append column (t ∷ ts) us = column_after_all-append (next_column column t) ts us

pub filled_from-append : (prefix : List ℕ) (column : ℕ) (ts us : List (List ℕ))
    → filled_from prefix column (ts ++ us) ≡ placed_all prefix column ts
    ++ filled_from prefix (column_after_all column ts) us
filled_from-append prefix column [] us = refl
filled_from-append prefix column (t ∷ ts) us =
    ap (λ v. wrapped_token prefix column t ++ v) (filled_from-append prefix (next_column column t) ts us)
    ∙ sym (append_assoc (wrapped_token prefix column t) (placed_all prefix (next_column column t) ts)
    (filled_from prefix (column_after_all column (t ∷ ts)) us))

-- the parts of what `put_move_text` puts: the tokens of the moves, the outcome, and the end of the line. `col` and
-- `end` are the columns after the first part and after the second
pub moves_are : (prefix before outcome : List ℕ) (column col end : ℕ) (game : Seen) → IsPlayable game → column ≡ 0
    → before ≡ prefix → col ≡ column_after_all column (numbered_moves true game.state.start game.state.moves)
    → outcome ≡ outcome_text (outcome_now game.state) → end ≡ next_column col outcome
    → HasParts (placed_all prefix column (numbered_moves true game.state.start game.state.moves))
    (wrapped_token before col outcome) (line_close end) (ended prefix (lines_of (game_tokens game.state)))
moves_are prefix before outcome column col end game playable none b is o e =
    let s = game.state in
    record {
      is = sym (all_filled prefix (game_tokens s) (game_is_short game playable))
          ∙ ap (filled_from prefix 0) (game_numbered s)
          ∙ rw (e, o, is, b, none) (filled_from-append prefix 0 (numbered_moves true s.start s.moves)
          (outcome_text (outcome_now s) ∷ []));
    }

-- ---- the tokens of a move

-- one token that is put is a list of one token put into lines
one_placed : (prefix before text token : List ℕ) (column col : ℕ) → before ≡ prefix → col ≡ column → text ≡ token
    → wrapped_token before col text ≡ placed_all prefix column (token ∷ [])
one_placed prefix before text token column col p c t =
    ap (λ v. wrapped_token v col text) p ∙ ap (λ n. wrapped_token prefix n text) c
    ∙ ap (λ v. wrapped_token prefix column v) t ∙ sym (append-nil (wrapped_token prefix column token))

-- the writer failed at the move's number, so it took a beginning of the number and the move
pub number_broke : (a b : OutputState) (w prefix : List ℕ) (column : ℕ) (f : Bool) (p q : Setup) (m : Move) → q ≡ p
    → CutShort a b (w ++ placed_all prefix column (number_if_due q.side f q.fullmove))
    → CutShort a b (w ++ placed_all prefix column (numbered_move f p m))
number_broke a b w prefix column f p q m same h =
    let number : List (List ℕ) = number_if_due p.side f p.fullmove in
    subst (λ text. CutShort a b (w ++ text)) (sym (placed_all-append prefix column number (san p m ∷ [])))
    (break_longer a b w (placed_all prefix column number)
    (placed_all prefix (column_after_all column number) (san p m ∷ []))
    (subst (λ (s : Setup). CutShort a b (w ++ placed_all prefix column (number_if_due s.side f s.fullmove))) same h))

-- the number was added, and the writer failed at the move's SAN: it took a beginning of both
pub move_broke : (a b c : OutputState) (w x prefix before text : List ℕ) (column col : ℕ) (f : Bool) (p q : Setup)
    (m : Move) → q ≡ p → before ≡ prefix → col ≡ column_after_all column (number_if_due q.side f q.fullmove)
    → text ≡ san p m
    → TookSome a b w x (placed_all prefix column (number_if_due q.side f q.fullmove))
    → CutShort b c (x ++ wrapped_token before col text)
    → CutShort a c (w ++ placed_all prefix column (numbered_move f p m))
move_broke a b c w x prefix before text column col f p q m same pre is said h k =
    let number : List (List ℕ) = number_if_due p.side f p.fullmove in
    let here : col ≡ column_after_all column number =
    is ∙ ap (λ (s : Setup). column_after_all column (number_if_due s.side f s.fullmove)) same in
    subst (λ v. CutShort a c (w ++ v)) (sym (placed_all-append prefix column number (san p m ∷ [])))
    (added_break a b c w x (placed_all prefix column number)
    (placed_all prefix (column_after_all column number) (san p m ∷ []))
    (subst (λ (s : Setup). TookSome a b w x (placed_all prefix column (number_if_due s.side f s.fullmove))) same h)
    (subst (λ v. CutShort b c (x ++ v)) (one_placed prefix before text (san p m) (column_after_all column number) col
    pre here said) k))

-- number and SAN were added, so the tokens of the move were put into lines
pub move_put : (a b c : OutputState) (w x y prefix before text : List ℕ) (column col : ℕ) (f : Bool) (p q : Setup)
    (m : Move) → q ≡ p → before ≡ prefix → col ≡ column_after_all column (number_if_due q.side f q.fullmove)
    → text ≡ san p m
    → TookSome a b w x (placed_all prefix column (number_if_due q.side f q.fullmove))
    → TookSome b c x y (wrapped_token before col text)
    → TookSome a c w y (placed_all prefix column (numbered_move f p m))
move_put a b c w x y prefix before text column col f p q m same pre is said h k =
    let number : List (List ℕ) = number_if_due p.side f p.fullmove in
    let here : col ≡ column_after_all column number =
    is ∙ ap (λ (s : Setup). column_after_all column (number_if_due s.side f s.fullmove)) same in
    subst (TookSome a c w y) (sym (placed_all-append prefix column number (san p m ∷ [])))
    (added_more a b c w x y (placed_all prefix column number)
    (placed_all prefix (column_after_all column number) (san p m ∷ []))
    (subst (λ (s : Setup). TookSome a b w x (placed_all prefix column (number_if_due s.side f s.fullmove))) same h)
    (subst (TookSome b c x y) (one_placed prefix before text (san p m) (column_after_all column number) col pre here
    said) k))

-- ---- the tokens of moves, one move after another

-- each move of a line is legal in the position after those before it
pub legal_next : (start : Setup) (ms : List Move) (i : ℕ) (m : Move) → IsLine start ms → slice_get ms i ≡ Some m
    → IsTrue (is_legal (position_after start (take i ms)) m)
legal_next start [] zero m h e = cc
legal_next start [] (suc i) m h e = cc
legal_next start (x ∷ ms) zero m h e = let same : x ≡ m = cc in subst (λ v. IsTrue (is_legal start v)) same h.0
legal_next start (x ∷ ms) (suc i) m h e = legal_next (after start x) ms i m h.1 e

-- the position after one more move of the list, move i, is that after the moves before it and then this one
last_more : (start : Setup) (ms : List Move) (i : ℕ) (m : Move) → slice_get ms i ≡ Some m
    → position_after start (take (suc i) ms) ≡ after (position_after start (take i ms)) m
last_more start [] zero m e = cc
last_more start [] (suc i) m e = cc
last_more start (x ∷ ms) zero m e = let same : x ≡ m = cc in ap (after start) same
last_more start (x ∷ ms) (suc i) m e = last_more (after start x) ms i m e

-- the tokens of one more move, where the text's first move comes before all of these
more_after : (p : Setup) (ms : List Move) (i : ℕ) (m : Move) → slice_get ms i ≡ Some m
    → numbered_moves false p (take (suc i) ms) ≡ numbered_moves false p (take i ms)
    ++ numbered_move false (position_after p (take i ms)) m
more_after p [] zero m e = cc
more_after p [] (suc i) m e = cc
more_after p (x ∷ ms) zero m e = let same : x ≡ m =
    cc in append-nil (numbered_move false p x) ∙ ap (numbered_move false p) same
more_after p (x ∷ ms) (suc i) m e =
    ap (λ v. numbered_move false p x ++ v) (more_after (after p x) ms i m e)
    ∙ sym (append_assoc (numbered_move false p x) (numbered_moves false (after p x) (take i ms))
    (numbered_move false (position_after (after p x) (take i ms)) m))

-- the same where the list begins with the text's first move: only move 0 is numbered as such
moves_more : (p : Setup) (ms : List Move) (i : ℕ) (m : Move) → slice_get ms i ≡ Some m
    → numbered_moves true p (take (suc i) ms) ≡ numbered_moves true p (take i ms)
    ++ numbered_move (eqb i 0) (position_after p (take i ms)) m
moves_more p [] zero m e = cc
moves_more p [] (suc i) m e = cc
moves_more p (x ∷ ms) zero m e = let same : x ≡ m =
    cc in append-nil (numbered_move true p x) ∙ ap (numbered_move true p) same
moves_more p (x ∷ ms) (suc i) m e =
    let later : eqb (suc i) 0 ≡ false = grind (arith, nat_tests) in
    rw later (
    ap (λ v. numbered_move true p x ++ v) (more_after (after p x) ms i m e)
    ∙ sym (append_assoc (numbered_move true p x) (numbered_moves false (after p x) (take i ms))
    (numbered_move false (position_after (after p x) (take i ms)) m)))

-- the tokens of all moves begin with those of the first n
moves_split : (f : Bool) (p : Setup) (ms : List Move) (n : ℕ)
    → (rest : List (List ℕ)) × (numbered_moves f p ms ≡ numbered_moves f p (take n ms) ++ rest)
moves_split f p ms zero = (numbered_moves f p ms, refl)
moves_split f p [] (suc n) = ([], refl)
moves_split f p (x ∷ ms) (suc n) = by_rest (moves_split false (after p x) ms n)
  where
    by_rest : (rest : List (List ℕ)) × (numbered_moves false (after p x) ms ≡ numbered_moves false (after p x) (take n ms)
        ++ rest) → (rest : List (List ℕ)) × (numbered_moves f p (x ∷ ms) ≡ numbered_moves f p (take (suc n) (x ∷ ms)) ++ rest)
    by_rest (rest, is) = (
      rest,
      ap (λ v. numbered_move f p x ++ v) is
          ∙ sym (append_assoc (numbered_move f p x) (numbered_moves false (after p x) (take n ms)) rest),
    )

-- what the loop of `put_moves` has at its round i: the prefix and the column that the moves before it left, whether it
-- is the first round, the position after these moves (`q`), and move i of the game (`m`)
pub record IsNext (prefix : List ℕ) (column : ℕ) (p : Setup) (ms : List Move) (i : ℕ) (before : List ℕ) (col : ℕ)
    (f : Bool) (q : Setup) (m : Move) : Type 0 where
  pub prefix_is : before ≡ prefix
  pub column_is : col ≡ column_after_all column (numbered_moves true p (take i ms))
  pub first : f ≡ eqb i 0
  pub position : q ≡ position_after p (take i ms)
  pub move : slice_get ms i ≡ Some m

-- the text of one more move comes after that of the moves before it, at the column to which they came
next_text : (prefix before : List ℕ) (column col : ℕ) (p q : Setup) (ms : List Move) (i : ℕ) (f : Bool) (m : Move)
    → IsNext prefix column p ms i before col f q m
    → placed_all prefix column (numbered_moves true p (take (suc i) ms))
    ≡ placed_all prefix column (numbered_moves true p (take i ms)) ++ placed_all before col (numbered_move f q m)
next_text prefix before column col p q ms i f m n =
    let so_far : List (List ℕ) = numbered_moves true p (take i ms) in
    let next : List (List ℕ) = numbered_move (eqb i 0) (position_after p (take i ms)) m in
    ap (placed_all prefix column) (moves_more p ms i m n.move)
    ∙ placed_all-append prefix column so_far next
    ∙ ap (λ v. placed_all prefix column so_far ++ v) (rw (n.prefix_is, n.column_is, n.first, n.position) refl)

-- the moves before move i were added, and then move i: the first i + 1 moves were
pub moves_put : (a b c : OutputState) (w x y prefix before : List ℕ) (column col : ℕ) (p q : Setup) (ms : List Move)
    (i : ℕ) (f : Bool) (m : Move) → IsNext prefix column p ms i before col f q m
    → TookSome a b w x (placed_all prefix column (numbered_moves true p (take i ms)))
    → TookSome b c x y (placed_all before col (numbered_move f q m))
    → TookSome a c w y (placed_all prefix column (numbered_moves true p (take (i + 1) ms)))
moves_put a b c w x y prefix before column col p q ms i f m n h k =
    rw (add-one i, next_text prefix before column col p q ms i f m n)
    (added_more a b c w x y (placed_all prefix column (numbered_moves true p (take i ms)))
    (placed_all before col (numbered_move f q m)) h k)

-- the moves before move i were added, and the writer failed at move i: it took a beginning of the text of all moves
pub moves_broke : (a b c : OutputState) (w x prefix before : List ℕ) (column col : ℕ) (p q : Setup) (ms : List Move)
    (i : ℕ) (f : Bool) (m : Move) → IsNext prefix column p ms i before col f q m
    → TookSome a b w x (placed_all prefix column (numbered_moves true p (take i ms)))
    → CutShort b c (x ++ placed_all before col (numbered_move f q m))
    → CutShort a c (w ++ placed_all prefix column (numbered_moves true p ms))
moves_broke a b c w x prefix before column col p q ms i f m n h k = by_rest (moves_split true p ms (suc i))
  where
    by_rest : (rest : List (List ℕ)) × (numbered_moves true p ms ≡ numbered_moves true p (take (suc i) ms) ++ rest)
        → CutShort a c (w ++ placed_all prefix column (numbered_moves true p ms))
    by_rest (rest, is) =
        let so_far : List ℕ = placed_all prefix column (numbered_moves true p (take i ms)) in
        let text : List ℕ = placed_all prefix column (numbered_moves true p (take (suc i) ms)) in
        let tail : List ℕ = placed_all prefix (column_after_all column (numbered_moves true p (take (suc i) ms)))
        rest in
        let whole : placed_all prefix column (numbered_moves true p ms) ≡ text ++ tail =
        ap (placed_all prefix column) is ∙ placed_all-append prefix column (numbered_moves true p (take (suc i) ms))
        rest in
        subst (λ v. CutShort a c (w ++ v)) (sym whole)
        (break_longer a c w text tail
        (subst (λ v. CutShort a c (w ++ v)) (sym (next_text prefix before column col p q ms i f m n))
        (added_break a b c w x so_far (placed_all before col (numbered_move f q m)) h k)))

-- the column after move i is that after the first i + 1 moves
pub columns_more : (prefix before : List ℕ) (column col new : ℕ) (p q : Setup) (ms : List Move) (i : ℕ) (f : Bool)
    (m : Move) → IsNext prefix column p ms i before col f q m
    → new ≡ column_after_all col (numbered_move f q m)
    → new ≡ column_after_all column (numbered_moves true p (take (i + 1) ms))
columns_more prefix before column col new p q ms i f m n is =
    let so_far : List (List ℕ) = numbered_moves true p (take i ms) in
    let next : List (List ℕ) = numbered_move (eqb i 0) (position_after p (take i ms)) m in
    let here : column_after_all col (numbered_move f q m) ≡ column_after_all (column_after_all column so_far) next =
    rw (n.column_is, n.first, n.position) refl in
    let whole : column_after_all column (numbered_moves true p (take (i + 1) ms))
    ≡ column_after_all (column_after_all column so_far) next =
    ap (λ k. column_after_all column (numbered_moves true p (take k ms))) (add-one i)
    ∙ ap (column_after_all column) (moves_more p ms i m n.move) ∙ column_after_all-append column so_far next in
    is ∙ here ∙ sym whole

-- the position after move i is that after the first i + 1 moves
pub positions_more : (p q new : Setup) (ms : List Move) (i : ℕ) (m : Move) → q ≡ position_after p (take i ms)
    → slice_get ms i ≡ Some m → new ≡ after q m → new ≡ position_after p (take (i + 1) ms)
positions_more p q new ms i m same e is = is ∙ ap (λ v. after v m) same ∙ sym (last_more p ms i m e)
    ∙ ap (λ k. position_after p (take k ms)) (sym (add-one i))
