-- The two engines' lines fix which moves each engine is sent, at each moment (each_is_sent_so_far) and in the whole
-- match (each_is_sent_the_others). They fix the items known of each engine (items_are_said: by induction over the acts,
-- back from the end, those known and those that the lines to come say are those at the end) and the moves played
-- (ReadLaw), and MoveLaw says which of these are sent, and how.
use Rattle.std.proofs.Common.{◌≡◌, ℕ, ◌+◌, ◌-◌, ◌≤◌, Bool, true, false, List, [], ◌∷◌, ◌++◌, length, refl, ap, sym, ◌∙◌, append-nil, append_assoc, Option, arith, if◌then◌else◌}
use Rattle.std.specs.List.{list_any}
use Rattle.chess_base.specs.{declared.man.Colour.Colour, declared.man.Colour.TheVariants.White, declared.man.Colour.TheVariants.Black, Men.other, Men.same_colour}
use Rattle.cecp_engine.specs.Items.{Item, ends_handshake}
use Rattle.chess_match.specs.{Acts.Act, Acts.awaits_line, Acts.is_over, shared.Parts.enter, Rules.Rules, declared.reason.MatchFault.TheVariants.Ended, declared.reason.MatchFault.TheVariants.Read, declared.reason.MatchFault.TheVariants.Write, declared.reason.Reason.TheVariants.Claimed, declared.reason.Reason.TheVariants.Decided, declared.reason.Reason.TheVariants.Faulted}
use Rattle.chess_match.specs.Effects.{Match, Phase, Handshake, Setup, Opening, Over, beginning, ends, line_row, moved}
use Rattle.chess_match.specs.laws.Laws.{items_in_line, lines_read, line_kind, lines_given, match_after}
use Rattle.chess_match_laws.specs.Streams.{items_said, moves_sent}
use Rattle.chess_match_laws.specs.OfActs.{AtEachMoment, EachIsSentOthersMoves, InEachMatch, ItemsAreSaid, MovesAreRead, MovesAreSent, ended_by_write_to, only_sends, others_moves}
use Rattle.chess_match.proofs.shared.LineCases.{handshakes_done, line_cases, offering, said_by, turn_done}
use Rattle.chess_match.proofs.shared.MatchCases.{both_not}
use Rattle.chess_match_laws.proofs.{MoveLaw.all_moves_are_given, MoveLaw.moves_are_sent, Silences.by_silence}
use Rattle.chess_match_laws.proofs.Points.{by_points, in_each, moved_items, offered_items}
use Rattle.chess_match_laws.proofs.ReadLaw.{Streamed, lines_in, moves_are_read, none_read_in, with_line}

-- the items that the lines to come of S will say, in this phase
abbrev said_ahead : Phase → Colour → List (Option (List ℕ)) → List Item
said_ahead (Handshake White) S ls = items_said ls
said_ahead (Handshake Black) Black ls = items_said ls
said_ahead p S ls = []

ahead_nil : (p : Phase) (S : Colour) → said_ahead p S [] ≡ []
ahead_nil p S = grind arith

-- a line of d takes from m to m', and the items are what was said, with what more is to come
abbrev Says : Colour → Option (List ℕ) → Match → Match → Type 0
Says d t m m' = (lines : Streamed) (S : Colour) → (is_over m'.phase ≡ true → lines S ≡ [])
    → (m.seat S).items ++ said_ahead m.phase S (with_line d t lines S)
    ≡ (m'.seat S).items ++ said_ahead m'.phase S (lines S)

-- once the handshakes are done no items are ahead
none_ahead : (p : Phase) (S : Colour) (ls : List (Option (List ℕ))) → handshakes_done p ≡ true → said_ahead p S ls ≡ []
none_ahead p S ls h1 = grind arith

-- after the handshakes nothing is said
done_says : (d : Colour) (t : Option (List ℕ)) (m m' : Match) → handshakes_done m.phase ≡ true → handshakes_done
    m'.phase
    ≡ true → ((S : Colour) → (m'.seat S).items ≡ (m.seat S).items) → Says d t m m'
done_says d t m m' g g' i lines S over =
    ap (λ (is : List Item). (m.seat S).items ++ is) (none_ahead m.phase S (with_line d t lines S) g)
    ∙ ap (λ (is : List Item). is ++ []) (sym (i S))
    ∙ ap (λ (is : List Item). (m'.seat S).items ++ is) (sym (none_ahead m'.phase S (lines S) g'))

-- a line of d in a handshake: its items are added to those known, and `rest` is what is to come after it
handshake_says : (d : Colour) (t : Option (List ℕ)) (m : Match) (S : Colour) (ls : List (Option (List ℕ)))
    (p : Phase) (rest : List Item) → m.phase ≡ Handshake d
    → said_ahead (Handshake d) S (if same_colour d S then t ∷ ls else ls)
    ≡ (if same_colour d S then items_in_line (line_kind t) else []) ++ rest
    → (m.seat S).items ++ said_ahead m.phase S (with_line d t (λ X. ls) S)
    ≡ ((said_by d (line_kind t) m).seat S).items ++ rest
handshake_says d t m S ls p rest e h =
    ap (λ (q : Phase). (m.seat S).items ++ said_ahead q S (with_line d t (λ X. ls) S)) e
    ∙ ap (λ (is : List Item). (m.seat S).items ++ is) (one (same_colour d S) ∙ h)
    ∙ sym (append_assoc (m.seat S).items (if same_colour d S then items_in_line (line_kind t) else []) rest)
    ∙ ap (λ (is : List Item). is ++ rest) (sym items)
  where
    one : (b : Bool) → said_ahead (Handshake d) S ((if b then t ∷ [] else []) ++ ls)
        ≡ said_ahead (Handshake d) S (if b then t ∷ ls else ls)
    one true = refl
    one false = refl

    items : ((said_by d (line_kind t) m).seat S).items
        ≡ (m.seat S).items ++ (if same_colour d S then items_in_line (line_kind t) else [])
    items = grind (arith, append-nil)

-- which items are ahead before a line of d and after it: here its handshake goes on
ahead_on : (d : Colour) (t : Option (List ℕ)) (S : Colour) (ls : List (Option (List ℕ)))
    → list_any ends_handshake (items_in_line (line_kind t)) ≡ false
    → said_ahead (Handshake d) S (if same_colour d S then t ∷ ls else ls)
    ≡ (if same_colour d S then items_in_line (line_kind t) else []) ++ said_ahead (Handshake d) S ls
ahead_on d t S ls h1 = grind arith

-- White's handshake is done
ahead_next : (d : Colour) (t : Option (List ℕ)) (S : Colour) (ls : List (Option (List ℕ))) → d ≡ White
    → list_any ends_handshake (items_in_line (line_kind t)) ≡ true
    → said_ahead (Handshake d) S (if same_colour d S then t ∷ ls else ls)
    ≡ (if same_colour d S then items_in_line (line_kind t) else []) ++ said_ahead (Handshake Black) S ls
ahead_next d t S ls h1 h2 = grind arith

-- Black's handshake is done
ahead_last : (d : Colour) (t : Option (List ℕ)) (S : Colour) (ls : List (Option (List ℕ))) → d ≡ Black
    → list_any ends_handshake (items_in_line (line_kind t)) ≡ true
    → said_ahead (Handshake d) S (if same_colour d S then t ∷ ls else ls)
    ≡ (if same_colour d S then items_in_line (line_kind t) else []) ++ []
ahead_last d t S ls h1 h2 = grind arith

-- the match is over, and no line is to come
ahead_over : (d : Colour) (t : Option (List ℕ)) (S : Colour) (ls : List (Option (List ℕ))) → ls ≡ []
    → said_ahead (Handshake d) S (if same_colour d S then t ∷ ls else ls)
    ≡ (if same_colour d S then items_in_line (line_kind t) else []) ++ []
ahead_over d t S ls h1 = grind (arith, append-nil)

-- any line of d
lines_say : (r : Rules) (d : Colour) (t : Option (List ℕ)) (n : ℕ) (m : Match) → awaits_line m.phase d ≡ true
    → Says d t m (line_row r m.phase (line_kind t) n m).after
lines_say r d t n m aw = line_cases r d (line_kind t) n m (λ e. Says d t m e.after) aw (λ since. record {
  handshake_stops = λ p reason k most w lines S over. handshake_says d t m S (lines S) (Over reason) [] p
      (ahead_over d t S (lines S) (over refl));
  handshake_counts = λ p h few lines S over. handshake_says d t m S (lines S) (Handshake d)
      (said_ahead (Handshake d) S (lines S)) p
      (ahead_on d t S (lines S) h) ∙ ap (λ (q : Phase). ((said_by d (line_kind t) m).seat S).items
      ++ said_ahead q S (lines S)) (sym p);
  handshake_next = λ p s h lines S over. handshake_says d t m S (lines S) (Handshake Black)
      (said_ahead (Handshake Black) S (lines S)) p
      (ahead_next d t S (lines S) s h);
  handshake_last = λ p s h lines S over. handshake_says d t m S (lines S) (Setup White) [] p
      (ahead_last d t S (lines S) s h);
  setup_counts = λ p h few. done_says d t m (record m { count = m.count + 1 }) (ap handshakes_done p)
      (ap handshakes_done p) (λ S. refl);
  setup_next = λ p s h. done_says d t m (enter (Setup Black) m) (ap handshakes_done p) refl (λ S. refl);
  setup_last = λ p s h v drawn. done_says d t m (enter (Opening r.start.side) m) (ap handshakes_done p) refl (λ S. refl);
  setup_draws = λ p claim v drawn. done_says d t m (record m { phase = Over (Claimed claim) }) (ap handshakes_done p)
      refl (λ S. refl);
  setup_decides = λ p v e. done_says d t m (record m { phase = Over (Decided v) }) (ap handshakes_done p) refl
      (λ S. refl);
  stops = λ g reason w. done_says d t m (record m { phase = Over reason }) g refl (λ S. refl);
  counts = λ on none few. done_says d t m (record m { count = m.count + 1 }) (turn_done m.phase on)
      (turn_done m.phase on) (λ S. refl);
  offers = λ on none own. done_says d t m (offering d m).after (turn_done m.phase on) (turn_done m.phase on)
      (λ S. offered_items d S m);
  plays = λ text move opened is p read room timely verdict drawn. done_says d t m (moved d move (n - opened) m)
      (ap handshakes_done p) refl
      (λ S. moved_items d S move (n - opened) m);
  draws = λ text move opened claim is p read room timely verdict drawn. done_says d t m
      (record (moved d move (n - opened) m) { phase = Over (Claimed claim) }) (ap handshakes_done p) refl
      (λ S. moved_items d S move (n - opened) m);
  decides = λ text move opened v is p read room timely verdict. done_says d t m
      (record (moved d move (n - opened) m) { phase = Over (Decided v) }) (ap handshakes_done p) refl
      (λ S. moved_items d S move (n - opened) m);
  passes = λ p none. done_says d t m (enter (Opening (other d)) m) (ap handshakes_done p) refl (λ S. refl);
})

pub items_are_said : AtEachMoment ItemsAreSaid
items_are_said r H K final g S = sym (by_points r
    (λ m due H n. (m.seat S).items ++ said_ahead m.phase S (lines_read S H) ≡ (n.seat S).items) (record {
      sends = λ m n b due H p. p;
      fails = λ m n b due H on q only same p. stopped m n H (ends r (Faulted b.to Write) m).after (λ X. refl) same only;
      fails_late = λ m n b due H o only same p. p;
      reads = λ m n c t k H aw q stays p.
          lines_say r c t k m aw (lines_in H) S (λ o. none_read_in S H (stays o).1) ∙ p;
      opens = λ m n c k H o q p. ap (λ (x : Phase). (m.seat S).items ++ said_ahead x S (lines_read S H)) o ∙ p;
      silent = λ m n c k H aw limited q stays p. by_silence r m n c k H
          (λ m' due. (m'.seat S).items ++ said_ahead m'.phase S (lines_read S H) ≡ (n.seat S).items)
          (λ reason w only same p. stopped m n H (ends r reason m).after (λ X. refl) same only) (λ since p. p) stays p;
      output_ends = λ m n c H aw q only same p. stopped m n H (ends r (Faulted c Ended) m).after (λ X. refl) same only;
      read_fails = λ m n c H aw q only same p. stopped m n H (ends r (Faulted c Read) m).after (λ X. refl) same only;
    }) H K final (λ m due q g. none m m [] refl refl) g)
  where
    none : (m n : Match) (ls : List (Option (List ℕ))) → ls ≡ [] → (n.seat S).items ≡ (m.seat S).items
        → (m.seat S).items ++ said_ahead m.phase S ls ≡ (n.seat S).items
    none m n ls l i = ap (λ (ls : List (Option (List ℕ))). (m.seat S).items ++ said_ahead m.phase S ls) l
        ∙ ap (λ (is : List Item). (m.seat S).items ++ is) (ahead_nil m.phase S)
        ∙ append-nil (m.seat S).items ∙ sym i

    stopped : (m n : Match) (H : List Act) (m' : Match) → ((X : Colour) → (m'.seat X).items ≡ (m.seat X).items) → n ≡ m'
        → only_sends H ≡ true → (m.seat S).items ++ said_ahead m.phase S (lines_read S H) ≡ (n.seat S).items
    stopped m n H m' i same only = none m n (lines_read S H) (none_read_in S H only)
        (ap (λ (x : Match). (x.seat S).items) same ∙ i S)

-- the moves are those that the lines fix
module _ (r : Rules) (H : List Act) (m : Match) (read : MovesAreRead r H m) (said : ItemsAreSaid r H m) where
  -- what MoveLaw says of the moves sent, with the items as the lines say them
  sent_by_lines : (whole : Bool)
      → ((O : Colour) → (rest : List (List ℕ)) × (length rest ≤ 1)
      × (whole ≡ true → ended_by_write_to O m.phase ≡ false → rest ≡ [])
      × (moves_sent (lines_given O H) ++ rest ≡ others_moves r O (m.seat O).items m.played))
      → EachIsSentOthersMoves whole r H m
  sent_by_lines whole sent = (
    m.played,
    read,
    λ O. let (rest, l, w, s) = sent O in (
      rest,
      l,
      w,
      s ∙ ap (λ (is : List Item). others_moves r O is m.played) (said O),
    ),
  )

pub each_is_sent_so_far : AtEachMoment (EachIsSentOthersMoves false)
each_is_sent_so_far r H K final g =
    sent_by_lines r H (match_after r beginning.after H) (moves_are_read r H K final g)
    (items_are_said r H K final g) false
    (λ O. let (rest, l, owed, s) = moves_are_sent r H K final g O in (rest, l, λ w. absurd cc, s))

pub each_is_sent_the_others : InEachMatch (EachIsSentOthersMoves true)
each_is_sent_the_others r H final g =
    sent_by_lines r H final (in_each MovesAreRead moves_are_read r H final g)
    (in_each ItemsAreSaid items_are_said r H final g) true (λ O. at O (ended_by_write_to O final.phase) refl)
  where
    at : (O : Colour) (b : Bool) → ended_by_write_to O final.phase ≡ b → (rest : List (List ℕ)) × (length rest ≤ 1)
        × (true ≡ true → ended_by_write_to O final.phase ≡ false → rest ≡ [])
        × (moves_sent (lines_given O H) ++ rest ≡ others_moves r O (final.seat O).items final.played)
    at O true broken = let (rest, l, owed, s) = in_each MovesAreSent moves_are_sent r H final g O in
        (rest, l, (λ w h. both_not (ended_by_write_to O final.phase) h broken), s)
    at O false h = (
      [],
      omega arith,
      λ w h. refl,
      append-nil (moves_sent (lines_given O H)) ∙ all_moves_are_given r H final g O h,
    )
