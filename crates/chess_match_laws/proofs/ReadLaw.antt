-- At each moment the moves played are what the two engines' `move` lines denote in turn, but for at most one last line.
-- By induction over the acts, back from the end (`ReadsOff`): the moves to come are what the `move` lines to come
-- denote.
use Rattle.std.proofs.Common.{◌≡◌, ℕ, ◌+◌, ◌-◌, ◌≤◌, true, false, List, [], ◌∷◌, ◌++◌, length, refl, ap, sym, subst, ◌∙◌, append-nil, append_assoc, Option, arith}
use Rattle.std.specs.List.{list_any}
use Rattle.chess_base.specs.{declared.man.Colour.Colour, declared.man.Colour.TheVariants.White, declared.man.Colour.TheVariants.Black, declared.man.Move.Move, Men.other, Men.same_colour, Options.list_if}
use Rattle.chess_base.proofs.shared.Men.{other-other}
use Rattle.cecp_engine.specs.{EngineLines.Moves, Items.ends_handshake}
use Rattle.chess_match.specs.Acts.{Act, Sends, SendFails, Happens, awaits_line, is_over}
use Rattle.chess_match.specs.Effects.{Match, Phase, Handshake, Setup, Opening, BeforeMove, AfterMove, Over, ends, line_row, moved}
use Rattle.chess_match.specs.{shared.Parts.enter, Rules.Rules, declared.reason.MatchFault.TheVariants.Ended, declared.reason.MatchFault.TheVariants.Read, declared.reason.MatchFault.TheVariants.Write, declared.reason.Reason.TheVariants.Claimed, declared.reason.Reason.TheVariants.Decided, declared.reason.Reason.TheVariants.Faulted}
use Rattle.chess_text.specs.declared.reading.Reading.TheVariants as reads
use Rattle.chess_match_laws.specs.Streams.{AreRead, lines_after_handshake, lines_after_pong, moves_said}
use Rattle.chess_match.specs.laws.Laws.{is_pong, move_said, lines_read, items_in_line, line_kind}
use Rattle.chess_match_laws.specs.OfActs.{AtEachMoment, MovesAreRead, only_sends}
use Rattle.chess_match.proofs.shared.LineCases.{in_turn, line_cases, offering, said_by}
use Rattle.chess_match_laws.proofs.Points.{Kept, by_points, mover, mover-snoc, turn_in}
use Rattle.chess_match_laws.proofs.Silences.{by_silence}
use Rattle.chess_game.specs.Line.{position_after}
use Rattle.chess_text.specs.Moves.{reading}

-- the texts of the `move` lines that count among the lines `ls` to come of the engine of S, in this phase: those after
-- its handshake and setup
abbrev ahead : Phase → Colour → List (Option (List ℕ)) → List (List ℕ)
ahead (Handshake White) S ls = moves_said (lines_after_pong (lines_after_handshake ls))
ahead (Handshake Black) White ls = moves_said (lines_after_pong ls)
ahead (Handshake Black) Black ls = moves_said (lines_after_pong (lines_after_handshake ls))
ahead (Setup White) S ls = moves_said (lines_after_pong ls)
ahead (Setup Black) White ls = moves_said ls
ahead (Setup Black) Black ls = moves_said (lines_after_pong ls)
ahead (Opening c) S ls = moves_said ls
ahead (BeforeMove c opened) S ls = moves_said ls
ahead (AfterMove c) S ls = moves_said ls
ahead (Over x) S ls = []

ahead_nil : (p : Phase) (S : Colour) → ahead p S [] ≡ []
ahead_nil p S = grind arith

-- the lines to come of each engine
abbrev pub Streamed : Type 0
Streamed = Colour → List (Option (List ℕ))

-- from here on the moves of a match are read off these lines
abbrev ReadsOff : Rules → Match → Match → Streamed → Type 0
ReadsOff r m final lines =
    (c : Colour) → mover r.start.side m.played ≡ c → (more : List Move) × (final.played ≡ m.played ++ more)
    × AreRead r m.played more (ahead m.phase c (lines c)) (ahead m.phase (other c) (lines (other c)))

-- S's line, and what follows it
abbrev pub with_line : Colour → Option (List ℕ) → Streamed → Streamed
with_line d t lines S = list_if (same_colour d S) (t ∷ []) ++ lines S

-- nothing is played
reads_on : (r : Rules) (m m' final : Match) (lines lines' : Streamed) → m'.played ≡ m.played
    → ((S : Colour) → ahead m.phase S (lines S) ≡ ahead m'.phase S (lines' S)) → ReadsOff r m' final lines'
    → ReadsOff r m final lines
reads_on r m m' final lines lines' p same next c e =
    let n = next c (ap (λ (ms : List Move). mover r.start.side ms) p ∙ e) in (
      n.0,
      n.1 ∙ ap (λ (ms : List Move). ms ++ n.0) p,
      subst (λ (ms : List Move). AreRead r ms n.0 (ahead m.phase c (lines c))
          (ahead m.phase (other c) (lines (other c)))) p
          (rw (same c, same (other c)) n.2),
    )

-- of a line of d, what d has to come begins with it; the other side's lines to come stay (`others_line`)
own_line : (d : Colour) (t : Option (List ℕ)) (lines : Streamed) → with_line d t lines d ≡ t ∷ lines d
own_line White t lines = refl
own_line Black t lines = refl

others_line : (d : Colour) (t : Option (List ℕ)) (lines : Streamed) → with_line d t lines (other d) ≡ lines (other d)
others_line White t lines = refl
others_line Black t lines = refl

-- the side on move plays
reads_move : (r : Rules) (m m' final : Match) (d : Colour) (opened : ℕ) (t : Option (List ℕ)) (text : List ℕ)
    (move : Move) (lines : Streamed) → m.phase ≡ BeforeMove d opened → m'.phase ≡ AfterMove d
    → mover r.start.side m.played ≡ d → m'.played ≡ m.played ++ move ∷ [] → line_kind t ≡ Moves text
    → reading (position_after r.start m.played) text ≡ reads.Move move → ReadsOff r m' final lines → ReadsOff r m final (with_line d t lines)
reads_move r m m' final d opened t text move lines p p' turn played kind reading next c e =
    let (more, same, read) = next (other d) (ap (λ (ms : List Move). mover r.start.side ms) played
    ∙ mover-snoc r.start.side m.played move ∙ ap other turn) in
    rw (sym e ∙ turn, p, own_line d t lines, others_line d t lines, kind) (
      move ∷ more,
      same ∙ ap (λ (ms : List Move). ms ++ more) played ∙ append_assoc m.played (move ∷ []) more,
      (
        text,
        moves_said (lines d),
        refl,
        reading,
        subst (λ (ms : List Move). AreRead r ms more (moves_said (lines (other d))) (moves_said (lines d))) played
            (rw (p', other-other d) at read),
      ),
    )

-- ---- the end

-- one line is at most one `move` line
few_ahead : (p : Phase) (d : Colour) (t : Option (List ℕ)) → length (ahead p d (t ∷ [])) ≤ 1
few_ahead p d t = grind arith

abbrev no_lines : Streamed
no_lines S = []

-- at most one `move` line is left, whoever is on move
few_left : (p : Phase) (d c : Colour) (t : Option (List ℕ))
    → length (ahead p c (with_line d t no_lines c)) + length (ahead p (other c) (with_line d t no_lines (other c))) ≤ 1
few_left p d c t = grind (arith, few_ahead p d t, ahead_nil p White, ahead_nil p Black)

nothing_left : (p : Phase) (c : Colour) → length (ahead p c []) + length (ahead p (other c) []) ≤ 1
nothing_left p c = rw (ahead_nil p c, ahead_nil p (other c)) (omega arith)

-- nothing more is read
reads_none : (r : Rules) (m final : Match) (lines : Streamed) → final.played ≡ m.played
    → ((S : Colour) → lines S ≡ []) → ReadsOff r m final lines
reads_none r m final lines p none c e =
    ([], p ∙ sym (append-nil m.played), rw (none c, none (other c)) (nothing_left m.phase c))

-- a last line, after which nothing is read, and by which no move is played
reads_last : (r : Rules) (m final : Match) (d : Colour) (t : Option (List ℕ)) (lines : Streamed) → final.played
    ≡ m.played
    → ((S : Colour) → lines S ≡ []) → ReadsOff r m final (with_line d t lines)
reads_last r m final d t lines p none c e =
    ([], p ∙ sym (append-nil m.played), rw (none c, none (other c)) (few_left m.phase d c t))

-- a last line by which a move is played
reads_decided : (r : Rules) (m final : Match) (d : Colour) (opened : ℕ) (t : Option (List ℕ)) (text : List ℕ)
    (move : Move) (lines : Streamed) → m.phase ≡ BeforeMove d opened → mover r.start.side m.played ≡ d
    → final.played ≡ m.played ++ move ∷ [] → line_kind t ≡ Moves text → reading (position_after r.start m.played) text ≡ reads.Move move
    → ((S : Colour) → lines S ≡ []) → ReadsOff r m final (with_line d t lines)
reads_decided r m final d opened t text move lines p turn played kind reading none c e =
    rw (sym e ∙ turn, p, own_line d t lines, others_line d t lines, none d, none (other d), kind)
    (move ∷ [], played, (text, [], refl, reading, omega arith))

-- ---- the lines

-- a line of d takes the match from m to m': if the moves are read off the lines from m' on, so are they from m on, with
-- this line in front
abbrev Steps : Rules → Colour → Option (List ℕ) → Match → Match → Type 0
Steps r d t m m' = (final : Match) (lines : Streamed)
    → (is_over m'.phase ≡ true → (final ≡ m') × ((S : Colour) → lines S ≡ [])) → ReadsOff r m' final lines
    → ReadsOff r m final (with_line d t lines)

-- which `move` lines are ahead before and after a line of d, by what it does: here its handshake goes on
handshake_same : (d : Colour) (t : Option (List ℕ)) (lines : Streamed) (S : Colour)
    → list_any ends_handshake (items_in_line (line_kind t)) ≡ false
    → ahead (Handshake d) S (with_line d t lines S) ≡ ahead (Handshake d) S (lines S)
handshake_same d t lines S h1 = grind arith

-- its setup goes on
setup_same : (d : Colour) (t : Option (List ℕ)) (lines : Streamed) (S : Colour) → is_pong 1 (line_kind t) ≡ false
    → ahead (Setup d) S (with_line d t lines S) ≡ ahead (Setup d) S (lines S)
setup_same d t lines S h1 = grind arith

-- White's handshake is done
handshake_next : (d : Colour) (t : Option (List ℕ)) (lines : Streamed) (S : Colour) → d ≡ White
    → list_any ends_handshake (items_in_line (line_kind t)) ≡ true
    → ahead (Handshake d) S (with_line d t lines S) ≡ ahead (Handshake Black) S (lines S)
handshake_next d t lines S h1 h2 = grind arith

-- Black's handshake is done
handshake_last : (d : Colour) (t : Option (List ℕ)) (lines : Streamed) (S : Colour) → d ≡ Black
    → list_any ends_handshake (items_in_line (line_kind t)) ≡ true
    → ahead (Handshake d) S (with_line d t lines S) ≡ ahead (Setup White) S (lines S)
handshake_last d t lines S h1 h2 = grind arith

-- White's setup is done
setup_next : (d : Colour) (t : Option (List ℕ)) (lines : Streamed) (S : Colour) → d ≡ White
    → is_pong 1 (line_kind t) ≡ true
    → ahead (Setup d) S (with_line d t lines S) ≡ ahead (Setup Black) S (lines S)
setup_next d t lines S h1 h2 = grind arith

-- Black's setup is done, and the first turn is opened
setup_last : (d c : Colour) (t : Option (List ℕ)) (lines : Streamed) (S : Colour) → d ≡ Black
    → is_pong 1 (line_kind t) ≡ true
    → ahead (Setup d) S (with_line d t lines S) ≡ ahead (Opening c) S (lines S)
setup_last d c t lines S h1 h2 = grind arith

-- a line of a turn that is no move
turn_same : (p : Phase) (d : Colour) (t : Option (List ℕ)) (lines : Streamed) (S : Colour) → in_turn p ≡ true
    → move_said (line_kind t) ≡ [] → ahead p S (with_line d t lines S) ≡ ahead p S (lines S)
turn_same p d t lines S h1 h2 = grind arith

-- after its move, it passes the turn to the other side
pass_same : (d c : Colour) (t : Option (List ℕ)) (lines : Streamed) (S : Colour) → move_said (line_kind t) ≡ []
    → ahead (AfterMove d) S (with_line d t lines S) ≡ ahead (Opening c) S (lines S)
pass_same d c t lines S h1 = grind arith

-- any line of d
line_steps : (r : Rules) (d : Colour) (t : Option (List ℕ)) (n : ℕ) (m : Match) → awaits_line m.phase d ≡ true
    → Kept r m → Steps r d t m (line_row r m.phase (line_kind t) n m).after
line_steps r d t n m aw k = line_cases r d (line_kind t) n m (λ e. Steps r d t m e.after) aw (λ since. record {
  handshake_stops = λ p reason c most w final lines o next. stopped final lines
      (record (said_by d (line_kind t) m) { phase = Over reason; count = c; since = since }) refl o;
  handshake_counts = λ p h few final lines o. reads_on r m (record (said_by d (line_kind t) m) { count = m.count + 1 })
      final (with_line d t lines) lines refl
      (λ S. rw p (handshake_same d t lines S h));
  handshake_next = λ p s h final lines o. reads_on r m (enter (Handshake Black) (said_by d (line_kind t) m)) final
      (with_line d t lines) lines refl
      (λ S. rw p (handshake_next d t lines S s h));
  handshake_last = λ p s h final lines o. reads_on r m (enter (Setup White) (said_by d (line_kind t) m)) final
      (with_line d t lines) lines refl
      (λ S. rw p (handshake_last d t lines S s h));
  setup_counts = λ p h few final lines o. reads_on r m (record m { count = m.count + 1 }) final (with_line d t lines)
      lines refl (λ S. rw p (setup_same d t lines S h));
  setup_next = λ p s h final lines o. reads_on r m (enter (Setup Black) m) final (with_line d t lines) lines refl
      (λ S. rw p (setup_next d t lines S s h));
  setup_last = λ p s h v drawn final lines o. reads_on r m (enter (Opening r.start.side) m) final (with_line d t lines) lines refl
      (λ S. rw p (setup_last d r.start.side t lines S s h));
  setup_draws = λ p claim v drawn final lines o next. stopped final lines
      (record m { phase = Over (Claimed claim); since = since }) refl o;
  setup_decides = λ p v e final lines o next. stopped final lines
      (record m { phase = Over (Decided v); since = since }) refl o;
  stops = λ g reason w final lines o next. stopped final lines (record m { phase = Over reason; since = since }) refl o;
  counts = λ on none few final lines o. reads_on r m (record m { count = m.count + 1 }) final (with_line d t lines)
      lines refl
      (λ S. turn_same m.phase d t lines S on none);
  offers = λ on none own final lines o. reads_on r m (offering d m).after final (with_line d t lines) lines refl
      (λ S. turn_same m.phase d t lines S on none);
  plays = λ text move opened is p read room timely verdict drawn final lines o next.
      reads_move r m (moved d move (n - opened) m) final d opened t text move lines p refl
      (turn_in r m (BeforeMove d opened) p k) refl is read next;
  draws = λ text move opened claim is p read room timely verdict drawn final lines o next.
      reads_decided r m final d opened t text move lines p (turn_in r m (BeforeMove d opened) p k)
      (ap (λ (x : Match). x.played) (o refl).0) is read (o refl).1;
  decides = λ text move opened v is p read room timely verdict final lines o next.
      reads_decided r m final d opened t text move lines p (turn_in r m (BeforeMove d opened) p k)
      (ap (λ (x : Match). x.played) (o refl).0) is read (o refl).1;
  passes = λ p none final lines o. reads_on r m (enter (Opening (other d)) m) final (with_line d t lines) lines refl
      (λ S. rw p (pass_same d (other d) t lines S none));
})
  where
    stopped : (final : Match) (lines : Streamed) (m' : Match) → m'.played ≡ m.played
        → (true ≡ true → (final ≡ m') × ((S : Colour) → lines S ≡ [])) → ReadsOff r m final (with_line d t lines)
    stopped final lines m' p o = reads_last r m final d t lines (ap (λ (x : Match). x.played) (o refl).0 ∙ p) (o refl).1

-- ---- the acts

-- acts that are only blocks read no line
pub none_read_in : (S : Colour) (H : List Act) → only_sends H ≡ true → lines_read S H ≡ []
none_read_in S [] h = refl
none_read_in S (Sends b ∷ H) h = none_read_in S H h
none_read_in S (SendFails b ∷ H) h = none_read_in S H h
none_read_in S (Happens e ∷ H) h = absurd cc

-- the lines that these acts read of each engine
abbrev pub lines_in : List Act → Streamed
lines_in H S = lines_read S H

pub moves_are_read : AtEachMoment MovesAreRead
moves_are_read r H K final g =
    let (more, same, read) = by_points r (λ m due H n. ReadsOff r m n (lines_in H)) (record {
      sends = λ m n b due H p. p;
      fails = λ m n b due H on q only same p. stopped m n H (ends r (Faulted b.to Write) m).after refl same only;
      fails_late = λ m n b due H o only same p. p;
      reads = λ m n S t k H aw q stays p. line_steps r S t k m aw q n (lines_in H)
          (λ o. let (same, only) = stays o in (same, λ X. none_read_in X H only)) p;
      opens = λ m n S k H o q p. reads_on r m (record m { phase = BeforeMove S k }) n (lines_in H) (lines_in H) refl
          (λ X. rw o refl) p;
      silent = λ m n S k H aw limited q stays p. by_silence r m n S k H (λ m' due. ReadsOff r m' n (lines_in H))
          (λ reason w only same p. stopped m n H (ends r reason m).after refl same only) (λ since p. p) stays p;
      output_ends = λ m n S H aw q only same p. stopped m n H (ends r (Faulted S Ended) m).after refl same only;
      read_fails = λ m n S H aw q only same p. stopped m n H (ends r (Faulted S Read) m).after refl same only;
    }) H K final (λ m due q g. reads_none r m m no_lines refl (λ S. refl)) g r.start.side refl in
    subst (λ (ms : List Move). AreRead r [] ms (ahead (Handshake White) r.start.side (lines_read r.start.side H))
    (ahead (Handshake White) (other r.start.side) (lines_read (other r.start.side) H))) (sym same) read
  where
    stopped : (m n : Match) (H : List Act) (m' : Match) → m'.played ≡ m.played → n ≡ m' → only_sends H ≡ true
        → ReadsOff r m n (lines_in H)
    stopped m n H m' p same only = reads_none r m n (lines_in H) (ap (λ (x : Match). x.played) same ∙ p)
        (λ S. none_read_in S H only)
