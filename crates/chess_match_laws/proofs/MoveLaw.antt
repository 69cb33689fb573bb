-- An engine O is sent the other's moves, each once and in order, by the scheme of Givings: `all_texts` is what O is to
-- be sent, and `Owed` says what of it may be unsent (moves_are_sent). At the end nothing is, unless a write to O failed
-- (all_moves_are_given, all_moves_are_sent), nor when its line or the clock for its opening is read (all_sent_before).
-- So at its line O was sent a move exactly if the other has made one, as each move has a used time
-- (moves_sent_are_known).
use Rattle.std.proofs.Common.{◌≡◌, ℕ, ◌+◌, ◌≤◌, Bool, true, false, List, [], ◌∷◌, ◌++◌, length, length-append, refl, ap, sym, subst, ◌∙◌, append-nil, append_assoc, lt-ltb, Option, arith, if◌then◌else◌, nat_lt, codes}
use Rattle.std.proofs.lemmas.Grind.{flat_map-append}
use Rattle.chess_base.specs.{declared.man.Colour.Colour, declared.man.Colour.TheVariants.White, declared.man.Colour.TheVariants.Black, declared.man.Move.Move, Men.other, Men.same_colour, Options.list_if}
use Rattle.chess_base.proofs.shared.Men.{same_colour-true}
use Rattle.cecp_engine.specs.Items.{takes}
use Rattle.chess_match.specs.Acts.{Act, Block, IsMatch, IsMatchFrom, Sends, SendFails, Happens, awaits_line, is_over}
use Rattle.chess_match.specs.Effects.{Match, Phase, Handshake, Setup, Opening, BeforeMove, AfterMove, Over, begins_turn, beginning, effect, ends, is_owed_move, moved, opening}
use Rattle.chess_match.specs.{shared.Parts.enter, Events.Line, Events.Opened, Events.Silent, Lines.SentLine, Reasons.is_write_fault_of, Rules.Rules, Rules.text_of_last, declared.reason.Reason.Reason}
use Rattle.chess_match_laws.specs.Streams.{move_sent, moves_sent, texts_from}
use Rattle.chess_match.specs.laws.Laws.{broken_blocks, is_broken, lines_sent, line_kind, lines_given, match_after}
use Rattle.chess_match_laws.specs.OfActs.{AllMovesAreGiven, AllMovesAreSent, AtEachLine, AtEachMoment, AtEachOpening, InEachMatch, IsSentAllMoves, MovesAreSent, MovesSentAreKnown, ended_by_write_to, others_moves}
use Rattle.chess_match_laws.proofs.Givings.{Gives, Goes, given_at, grows, sends}
use Rattle.chess_match.proofs.{shared.LineCases.line_cases, shared.LineCases.silence_cases, shared.MatchCases.both_not, shared.MatchCases.on_when_read}
use Rattle.chess_match_laws.proofs.Points.{by_points, whole, mover, moved_items, offered_items, turn_in, turns_of}

-- ---- texts of moves

-- with one move more, the texts have one more if the side S made it
texts-snoc : (r : Rules) (as_san : Bool) (S c : Colour) (before ms : List Move) (m : Move)
    → texts_from r as_san S c before (ms ++ m ∷ [])
    ≡ texts_from r as_san S c before ms ++ (if same_colour (mover c ms) S then text_of_last as_san r.start
    (before ++ (ms ++ m ∷ [])) ∷ [] else [])
texts-snoc r as_san S c before [] m = append-nil
    (if same_colour c S then text_of_last as_san r.start (before ++ m ∷ []) ∷ [] else [])
texts-snoc r as_san S c before (x ∷ ms) m =
    rw (texts-snoc r as_san S (other c) (before ++ x ∷ []) ms m, append_assoc before (x ∷ []) (ms ++ m ∷ []))
    (sym (append_assoc (if same_colour c S then text_of_last as_san r.start (before ++ x ∷ []) ∷ [] else [])
    (texts_from r as_san S (other c) (before ++ x ∷ []) ms)
    (if same_colour (mover (other c) ms) S then text_of_last as_san r.start (before ++ (x ∷ (ms ++ m ∷ []))) ∷ [] else [])))

-- there is a text for each move of the side C
texts-length : (r : Rules) (as_san : Bool) (C c : Colour) (before ms : List Move)
    → length (texts_from r as_san C c before ms) ≡ turns_of C c ms
texts-length r as_san C c before [] = refl
texts-length r as_san C c before (m ∷ ms) =
    length-append (if same_colour c C then text_of_last as_san r.start (before ++ m ∷ []) ∷ [] else [])
    (texts_from r as_san C (other c) (before ++ m ∷ []) ms)
    ∙ ap (λ (n : ℕ). length (if same_colour c C then text_of_last as_san r.start (before ++ m ∷ []) ∷ [] else []) + n)
    (texts-length r as_san C (other c) (before ++ m ∷ []) ms)
    ∙ ap (λ (n : ℕ). n + turns_of C (other c) ms) (at (same_colour c C))
  where
    at : (b : Bool) → length (if b then text_of_last as_san r.start (before ++ m ∷ []) ∷ [] else []) ≡ (if b then 1 else 0)
    at true = refl
    at false = refl

-- ---- what a match still owes

-- the text of the last move, as a list of one
abbrev last_text : Rules → Colour → Match → List (List ℕ)
last_text r O m = text_of_last (takes (codes "san") (m.seat O).items) r.start m.played ∷ []

-- in this phase `rest` is what O is still to be sent
abbrev OwedIn : Colour → List (List ℕ) → Phase → List (List ℕ) → Type 0
OwedIn O text (AfterMove c) rest = rest ≡ (if same_colour (other c) O then text else [])
OwedIn O text (Over reason) rest = is_write_fault_of reason O ≡ false → rest ≡ []
OwedIn O text p rest = rest ≡ []

-- all that O is to be sent: the texts of the other side's moves
abbrev all_texts : Rules → Colour → Match → List (List ℕ)
all_texts r O m = others_moves r O (m.seat O).items m.played

-- in the match `m` just `rest` is still to be sent to O
abbrev Owed : Rules → Colour → Match → List (List ℕ) → Type 0
Owed r O m rest = OwedIn O (last_text r O m) m.phase rest

-- what `Owed` says, in the phase `p`, which is the match's
owed_in : (r : Rules) (O : Colour) (m : Match) (p : Phase) (rest : List (List ℕ)) → m.phase ≡ p → Owed r O m rest
    → OwedIn O (last_text r O m) p rest
owed_in r O m p rest e h = subst (λ (q : Phase). OwedIn O (last_text r O m) q rest) e h

-- an opening has the last move, if one was made
opening_moves : (r : Rules) (m : Match) (S : Colour) → moves_sent (opening r m S)
    ≡ (if nat_lt 0 (length m.played) then last_text r S m else [])
opening_moves r m S = grind (arith, flat_map-append, append-nil)

-- the end has it for the side that is owed it, unless a failed write to that side was the end
end_moves : (r : Rules) (m : Match) (reason : Reason) (O : Colour) → moves_sent ((ends r reason m).to O)
    ≡ (if is_write_fault_of reason O then [] else if is_owed_move m.phase O then last_text r O m else [])
end_moves r m reason O = grind arith

-- in a match that is on, O is owed the last move or nothing
owed_on : (O : Colour) (text : List (List ℕ)) (p : Phase) (rest : List (List ℕ)) → is_over p ≡ false
    → OwedIn O text p rest → rest ≡ (if is_owed_move p O then text else [])
owed_on O text p rest h1 h2 = grind arith

-- the match ends, and what O is owed is sent, unless a failed write to O was the end
stops : (r : Rules) (O : Colour) (m : Match) (reason : Reason) (rest : List (List ℕ)) → is_over m.phase ≡ false
    → length rest ≤ 1 → Owed r O m rest
    → Goes (all_texts r O) (Owed r O) m rest (moves_sent ((ends r reason m).to O)) (ends r reason m).after
stops r O m reason rest on l h =
    rw (end_moves r m reason O, sym (owed_on O (last_text r O m) m.phase rest on h)) (at (is_write_fault_of reason O) refl)
  where
    n : Match
    n = (ends r reason m).after

    at : (b : Bool) → is_write_fault_of reason O ≡ b
        → Goes (all_texts r O) (Owed r O) m rest (if b then [] else rest) (ends r reason m).after
    at true e = sends (all_texts r O) (Owed r O) m n rest [] rest l refl refl (λ w. both_not (is_write_fault_of reason O) w
        e)
    at false e = sends (all_texts r O) (Owed r O) m n rest rest [] l (sym (append-nil rest)) refl (λ w. refl)

-- a turn of `c` begins: its opening has the last move
begins : (r : Rules) (O c : Colour) (m : Match) (rest : List (List ℕ)) → length rest ≤ 1
    → rest ≡ (if same_colour c O then (if nat_lt 0 (length m.played) then last_text r O m else []) else [])
    → Goes (all_texts r O) (Owed r O) m rest (moves_sent ((begins_turn r c m).to O)) (begins_turn r c m).after
begins r O c m rest l e =
    let now : List (List ℕ) = moves_sent ((begins_turn r c m).to O) in
    sends (all_texts r O) (Owed r O) m (begins_turn r c m).after rest now [] l
    (e ∙ sym (at (same_colour c O) (same_colour-true c O)) ∙ sym (append-nil now)) refl refl
  where
    at : (b : Bool) → (b ≡ true → c ≡ O) → moves_sent (list_if b (opening r (enter (Opening c) m) c))
        ≡ (if b then (if nat_lt 0 (length m.played) then last_text r O m else []) else [])
    at true h = opening_moves r (enter (Opening c) m) c
        ∙ ap (λ (x : Colour). if nat_lt 0 (length m.played) then last_text r x m else []) (h refl)
    at false h = refl

-- what each event does, as Givings asks for it
gives : (r : Rules) (O : Colour) → Gives move_sent r O (all_texts r O) (Owed r O)
gives r O = record {
  stops = stops r O;
  said = λ m S kind rest p q h. (
    rw (turn_in r m (Handshake S) p q) refl,
    rw p (owed_in r O m (Handshake S) rest p h),
  );
  counts = λ m k rest h. (refl, h);
  waits = λ m since rest h. (refl, h);
  enters = λ m S c rest p h. let e = owed_in r O m (Handshake S) rest p h in (refl, e, refl, e);
  sets_up = λ m S c rest p h. (refl, owed_in r O m (Setup S) rest p h);
  offers = λ m S rest h. (
    ap (λ is. others_moves r O is m.played) (offered_items S O m),
    rw (offered_items S O m) h,
  );
  begins = λ m S rest p l q h. begins r O r.start.side m rest l (owed_in r O m (Setup S) rest p h
      ∙ rw (turn_in r m (Setup S) p q) (none (same_colour r.start.side O)));
  passes = λ m S rest p l q h. begins r O (other S) m rest l (owed_in r O m (AfterMove S) rest p h
      ∙ rw (lt-ltb 0 (length m.played) (turn_in r m (AfterMove S) p q).1) refl);
  plays = λ m S move opened used rest p l q h.
      let as_san : Bool = takes (codes "san") (m.seat O).items in
      let text : List (List ℕ) = text_of_last as_san r.start (m.played ++ move ∷ []) ∷ [] in
      grows (all_texts r O) (Owed r O) m (moved S move used m) rest (if same_colour (other S) O then text else []) []
      (if same_colour (other S) O then text else [])
      (owed_in r O m (BeforeMove S opened) rest p h) (short (same_colour (other S) O) _)
      (ap (λ is. others_moves r O is (m.played ++ move ∷ [])) (moved_items S O move used m)
      ∙ texts-snoc r as_san (other O) r.start.side [] m.played move
      ∙ ap (λ (b : Bool). all_texts r O m ++ (if b then text else []))
      (ap (λ c. same_colour c (other O)) (turn_in r m (BeforeMove S opened) p q) ∙ turned S O))
      refl (rw (moved_items S O move used m) refl);
  opened = λ m S k rest p h. (refl, owed_in r O m (Opening S) rest p h);
}
  where
    none : (b : Bool) → [] ≡ (if b then [] else (let t : List (List ℕ) = [] in t))
    none true = refl
    none false = refl

    short : (b : Bool) (t : List ℕ) → length (if b then t ∷ [] else []) ≤ 1
    short true t = omega arith
    short false t = omega arith

    turned : (S O : Colour) → same_colour S (other O) ≡ same_colour (other S) O
    turned S O = grind arith

-- what follows at a moment of what was sent to O (`X`), is due (`Y`) and is left (`rest`), follows of the blocks given
-- so far
sent_at : (r : Rules) (O : Colour) (C : Match → List (List ℕ) → Type 0) (H K : List Act) (final : Match)
    → ((m : Match) (due : List Block) → IsMatchFrom r m due K final → (X Y rest : List (List ℕ)) → (due ≡ [] → Y ≡ [])
    → length (Y ++ rest) ≤ 1 → X ++ (Y ++ rest) ≡ all_texts r O m → Owed r O m rest → C m X)
    → IsMatch r (H ++ K) final
    → C (match_after r beginning.after H) (moves_sent (lines_given O H))
sent_at r O C H K final done g = given_at move_sent (λ text. refl) r O (all_texts r O) (Owed r O) (gives r O) C H K
    final
    (λ m due q X s. done m due q X _ s.0 (λ none. rw none refl) s.1 s.2 s.3) g (begun O)
  where
    begun : (O : Colour) → (rest : List (List ℕ)) × (length (moves_sent (beginning.to O) ++ rest) ≤ 1)
        × ([] ++ (moves_sent (beginning.to O) ++ rest) ≡ all_texts r O beginning.after) × Owed r O beginning.after rest
    begun White = ([], omega arith, refl, refl)
    begun Black = ([], omega arith, refl, refl)

pub moves_are_sent : AtEachMoment MovesAreSent
moves_are_sent r H K final g O = sent_at r O
    (λ m X. (rest : List (List ℕ)) × (length rest ≤ 1) × (is_owed_move m.phase O ≡ true → length rest ≡ 1)
    × (X ++ rest ≡ all_texts r O m)) H K final
    (λ m due q X Y rest none l a o. (
      Y ++ rest,
      l,
      λ owed. one_left Y rest l (owed_one (last_text r O m) m.phase rest owed refl o),
      a,
    )) g
  where
    -- while a `pong` is awaited, the last move is left
    owed_one : (text : List (List ℕ)) (p : Phase) (rest : List (List ℕ)) → is_owed_move p O ≡ true → length text ≡ 1
        → OwedIn O text p rest → length rest ≡ 1
    owed_one text p rest h1 h2 h3 = grind (arith, h3)

    one_left : (Y rest : List (List ℕ)) → length (Y ++ rest) ≤ 1 → length rest ≡ 1 → length (Y ++ rest) ≡ 1
    one_left Y rest h e = let l = length-append Y rest in omega (arith, h, e, l)

-- ---- a whole match

-- if no block is broken, all were sent
pub all_sent : (S : Colour) (H : List Act) → is_broken H S ≡ false → lines_sent S H ≡ lines_given S H
all_sent S [] h = refl
all_sent S (Sends b ∷ H) h = ap (λ (l : List SentLine). list_if (same_colour b.to S) b.lines ++ l) (all_sent S H h)
all_sent S (SendFails b ∷ H) h = at (same_colour b.to S) h (all_sent S H)
  where
    at : (x : Bool) → nat_lt 0 (length (list_if x (b.lines ∷ []) ++ broken_blocks S H)) ≡ false
        → (is_broken H S ≡ false → lines_sent S H ≡ lines_given S H)
        → lines_sent S H ≡ list_if x b.lines ++ lines_given S H
    at true h more = both_not (nat_lt 0 (length (b.lines ∷ broken_blocks S H))) h
        (lt-ltb 0 (length (b.lines ∷ broken_blocks S H)) (omega arith))
    at false h more = more h
all_sent S (Happens e ∷ H) h = all_sent S H h

-- if no block for O failed, the first act is no failed block for O, and no later one is
broken_more : (b : Block) (H : List Act) (O : Colour) → is_broken (SendFails b ∷ H) O ≡ false
    → (same_colour b.to O ≡ false) × (is_broken H O ≡ false)
broken_more b H O h = at (same_colour b.to O) h
  where
    at : (x : Bool) → nat_lt 0 (length (list_if x (b.lines ∷ []) ++ broken_blocks O H)) ≡ false
        → (x ≡ false) × (is_broken H O ≡ false)
    at true h = both_not (nat_lt 0 (length (b.lines ∷ broken_blocks O H))) h
        (lt-ltb 0 (length (b.lines ∷ broken_blocks O H)) (omega arith))
    at false h = (refl, h)

-- a match that is on did not end by a failed write
on_written : (O : Colour) (p : Phase) → is_over p ≡ false → ended_by_write_to O p ≡ false
on_written O p h1 = grind arith

-- a line ends no match by a failed write
pub line_written : (r : Rules) (O S : Colour) (t : Option (List ℕ)) (x : ℕ) (m : Match) → awaits_line m.phase S ≡ true
    → ended_by_write_to O (effect r m (Line S t x)).after.phase ≡ false
line_written r O S t x m aw =
    line_cases r S (line_kind t) x m (λ e. ended_by_write_to O e.after.phase ≡ false) aw (λ since. record {
      handshake_stops = λ p reason c most w. w.0 O;
      handshake_counts = λ p d few. rw p refl;
      handshake_next = λ p s d. refl;
      handshake_last = λ p s d. refl;
      setup_counts = λ p pong few. rw p refl;
      setup_next = λ p s pong. refl;
      setup_last = λ p s pong v d. refl;
      setup_draws = λ p claim v d. refl;
      setup_decides = λ p v e. refl;
      stops = λ g reason w. w.0 O;
      counts = λ on none few. on_written O m.phase (on_when_read m.phase S aw);
      offers = λ on none own. on_written O m.phase (on_when_read m.phase S aw);
      plays = λ text move opened is p read room timely verdict d. refl;
      draws = λ text move opened claim is p read room timely verdict d. refl;
      decides = λ text move opened v is p read room timely verdict. refl;
      passes = λ p none. refl;
    })

-- a silence ends no match by a failed write
pub silent_written : (r : Rules) (O S : Colour) (x : ℕ) (m : Match) → awaits_line m.phase S ≡ true
    → ended_by_write_to O (effect r m (Silent S x)).after.phase ≡ false
silent_written r O S x m aw = silence_cases r S x m (λ e. ended_by_write_to O e.after.phase ≡ false) (record {
  stops = λ reason w. w.0 O;
  goes_on = λ since. on_written O m.phase (on_when_read m.phase S aw);
})

-- if each block for O was sent, no write to O ended the match
written_so_far : (r : Rules) (O : Colour) (H K : List Act) (final : Match) → IsMatch r (H ++ K) final
    → is_broken H O ≡ false → ended_by_write_to O (match_after r beginning.after H).phase ≡ false
written_so_far r O H K final g = by_points r
    (λ m due H n. ended_by_write_to O m.phase ≡ false → is_broken H O ≡ false → ended_by_write_to O n.phase ≡ false)
    (record {
      sends = λ m n b due H p. p;
      fails = λ m n b due H on q only same p w h. p (broken_more b H O h).0 (broken_more b H O h).1;
      fails_late = λ m n b due H o only same p w h. p w (broken_more b H O h).1;
      reads = λ m n S t x H aw q stays p w h. p (line_written r O S t x m aw) h;
      opens = λ m n S x H o q p w h. p refl h;
      silent = λ m n S x H aw limited q stays p w h. p (silent_written r O S x m aw) h;
      output_ends = λ m n S H aw q only same p w h. p refl h;
      read_fails = λ m n S H aw q only same p w h. p refl h;
    }) H K final (λ m due q g w h. w) g refl

-- if each block for O was sent in a whole match, no write to O ended it
pub written : (r : Rules) (O : Colour) (H : List Act) (final : Match) → IsMatch r H final → is_broken H O ≡ false
    → ended_by_write_to O final.phase ≡ false
written r O H final g unbroken =
    let (g', e) = whole r H final g in
    subst (λ (m : Match). ended_by_write_to O m.phase ≡ false) e (written_so_far r O H [] final g' unbroken)

pub all_moves_are_given : InEachMatch AllMovesAreGiven
all_moves_are_given r H final g O =
    let (g', e) = whole r H final g in
    subst (λ (m : Match). ended_by_write_to O m.phase ≡ false → moves_sent (lines_given O H) ≡ all_texts r O m) e
    (sent_at r O (λ m X. ended_by_write_to O m.phase ≡ false → X ≡ all_texts r O m) H [] final done g')
  where
    none_left : (p : Phase) (text rest : List (List ℕ)) → is_over p ≡ true → ended_by_write_to O p ≡ false
        → OwedIn O text p rest → rest ≡ []
    none_left p text rest h1 h2 h3 = grind (arith, h3)

    done : (m : Match) (due : List Block) → IsMatchFrom r m due [] final → (X Y rest : List (List ℕ))
        → (due ≡ [] → Y ≡ []) → length (Y ++ rest) ≤ 1 → X ++ (Y ++ rest) ≡ all_texts r O m → Owed r O m rest
        → ended_by_write_to O m.phase ≡ false → X ≡ all_texts r O m
    done m [] (o, e) X Y rest none l a owed w =
        sym (rw (none refl, none_left m.phase (last_text r O m) rest o w owed) (append-nil X)) ∙ a
    done m (b ∷ due) q X Y rest none l a owed w = absurd q

pub all_moves_are_sent : InEachMatch AllMovesAreSent
all_moves_are_sent r H final g O unbroken = ap moves_sent (all_sent O H unbroken)
    ∙ all_moves_are_given r H final g O (written r O H final g unbroken)

-- ---- when a line or the clock is read

-- in a match that is on no write to S failed before
unbroken_on : (r : Rules) (S : Colour) (H K : List Act) (final : Match) → IsMatch r (H ++ K) final
    → is_over (match_after r beginning.after H).phase ≡ false → is_broken H S ≡ false
unbroken_on r S H K final g = by_points r (λ m due H n. is_over n.phase ≡ false → is_broken H S ≡ false) (record {
  sends = λ m n b due H p. p;
  fails = λ m n b due H on q only same p w. both_not (is_over n.phase) w (ap (λ (x : Match). is_over x.phase) same);
  fails_late = λ m n b due H o only same p w. both_not (is_over n.phase) w (ap (λ (x : Match). is_over x.phase) same
      ∙ o);
  reads = λ m n S t x H aw q stays p. p;
  opens = λ m n S x H o q p. p;
  silent = λ m n S x H aw limited q stays p. p;
  output_ends = λ m n S H aw q only same p. p;
  read_fails = λ m n S H aw q only same p. p;
}) H K final (λ m due q g w. refl) g

-- before these acts nothing is due, the match is on, and no move is owed to the side
abbrev IsSettled : Rules → Colour → List Act → Match → Type 0
IsSettled r S K final = (m : Match) (due : List Block) → IsMatchFrom r m due K final
    → (due ≡ []) × (is_over m.phase ≡ false) × (is_owed_move m.phase S ≡ false)

-- where nothing is due and nothing is owed, S was sent all moves in the acts before
all_sent_before : (r : Rules) (S : Colour) (H K : List Act) (final : Match) → IsSettled r S K final
    → IsMatch r (H ++ K) final → IsSentAllMoves r S H (match_after r beginning.after H)
all_sent_before r S H K final settled g =
    let C : Match → List (List ℕ) → Type 0 = λ m X. (X ≡ all_texts r S m) × (is_over m.phase ≡ false) in
    let c = sent_at r S C H K final done g in
    ap moves_sent (all_sent S H (unbroken_on r S H K final g c.1)) ∙ c.0
  where
    done : (m : Match) (due : List Block) → IsMatchFrom r m due K final → (X Y rest : List (List ℕ))
        → (due ≡ [] → Y ≡ []) → length (Y ++ rest) ≤ 1 → X ++ (Y ++ rest) ≡ all_texts r S m → Owed r S m rest
        → (X ≡ all_texts r S m) × (is_over m.phase ≡ false)
    done m due q X Y rest none l a owed =
        let (empty, on, quits) = settled m due q in
        let left : rest ≡ [] = owed_on S (last_text r S m) m.phase rest on owed ∙ rw quits refl in
        (sym (rw (none empty, left) (append-nil X)) ∙ a, on)

pub all_sent_at_lines : AtEachLine IsSentAllMoves
all_sent_at_lines r H after S text moment final g =
    all_sent_before r S H (Happens (Line S text moment) ∷ after) final settled g
  where
    none_owed : (p : Phase) → awaits_line p S ≡ true → is_owed_move p S ≡ false
    none_owed p h1 = grind arith

    settled : IsSettled r S (Happens (Line S text moment) ∷ after) final
    settled m [] (aw, q) = (refl, on_when_read m.phase S aw, none_owed m.phase aw)
    settled m (b ∷ due) q = absurd q

pub all_sent_at_openings : AtEachOpening IsSentAllMoves
all_sent_at_openings r H after S moment final g =
    all_sent_before r S H (Happens (Opened S moment) ∷ after) final settled g
  where
    settled : IsSettled r S (Happens (Opened S moment) ∷ after) final
    settled m [] (o, q) = (refl, ap is_over o, ap (λ p. is_owed_move p S) o)
    settled m (b ∷ due) q = absurd q

-- each side has a used time for each of its moves
used_are_turns : (r : Rules) (C : Colour) (H K : List Act) (final : Match) → IsMatch r (H ++ K) final
    → (let m = match_after r beginning.after H in length (m.seat C).used ≡ turns_of C r.start.side m.played)
used_are_turns r C H K final g = by_points r
    (λ m due H n. length (n.seat C).used ≡ turns_of C r.start.side n.played) (record {
      sends = λ m n b due H p. p;
      fails = λ m n b due H on q only same p. p;
      fails_late = λ m n b due H o only same p. p;
      reads = λ m n S t x H aw q stays p. p;
      opens = λ m n S x H o q p. p;
      silent = λ m n S x H aw limited q stays p. p;
      output_ends = λ m n S H aw q only same p. p;
      read_fails = λ m n S H aw q only same p. p;
    }) H K final (λ m due q g. q.1 C) g

pub moves_sent_are_known : AtEachLine MovesSentAreKnown
moves_sent_are_known r H after S text moment final g =
    let m = match_after r beginning.after H in
    ap (λ (l : ℕ). nat_lt 0 l) (used_are_turns r (other S) H (Happens (Line S text moment) ∷ after) final g
    ∙ sym (texts-length r (takes (codes "san") (m.seat S).items) (other S) r.start.side [] m.played)
    ∙ ap (λ (l : List (List ℕ)). length l) (sym (all_sent_at_lines r H after S text moment final g)))
