-- If a line is due (`IsDue`) by what its engine was sent and has said, the match expects it in its phase (`IsExpected`;
-- due_is_expected). This needs what holds whenever a line of a side S is read (`Facts`, facts_at): which pings S was
-- sent (PingLaw), that in its turn the last line that it was sent is no `ping`, which items it has said, and how many
-- lines were counted in its handshake.
use Rattle.std.proofs.Common.{◌≡◌, ◌∙◌, ℕ, ◌+◌, ◌-◌, ◌≤◌, ◌<◌, Bool, true, false, List, [], ◌∷◌, ◌++◌, length, length-append, refl, sym, ap, subst, append-nil, append_assoc, Option, None, arith, ◌/◌, codes, if◌then◌else◌, nat_lt}
use Rattle.std.specs.List.{flat_map, list_any}
use Rattle.std.proofs.lemmas.Bool.Decides.{nat_tests}
use Rattle.chess_base.specs.{Men.other, Men.same_colour, Options.list_if, declared.man.Colour.Colour, declared.man.Colour.TheVariants.White, declared.man.Colour.TheVariants.Black, declared.man.Move.Move}
use Rattle.chess_base.proofs.shared.Men.{same_colour-true}
use Rattle.cecp_engine.specs.EngineLines.{LineKind, Answers, Features, Moves, SaysElse}
use Rattle.cecp_engine.specs.Items.{ends_handshake, items_of, takes}
use Rattle.chess_game.specs.Line.{position_after}
use Rattle.chess_text.specs.Moves.{reading}
use Rattle.chess_text.specs.declared.reading.Reading.TheVariants as reads
use Rattle.chess_match.specs.Acts.{Act, Block, Happens, IsMatch, IsMatchFrom, awaits_line}
use Rattle.chess_match.specs.Effects.{Match, Phase, Handshake, Setup, Opening, BeforeMove, AfterMove, Over, beginning, clock, effect, line_row, missing, move_line, opening, ping_number}
use Rattle.chess_match.specs.{Events.Line, Rules.Rules}
use Rattle.chess_match.specs.Lines.{SentLine, Says, Time, Otim}
use Rattle.chess_match.specs.laws.Laws.{line_kind, lines_given, lines_read, match_after}
use Rattle.chess_match.proofs.shared.LineCases.{in_turn, line_cases, silence_cases}
use Rattle.chess_match_laws.specs.Answering.{IsDue, ends_in_ping, idle, of_handshake, to_ping, to_turn}
use Rattle.chess_match_laws.specs.{Rows.ping_text, Rows.pings, Streams.items_said}
use Rattle.chess_match_laws.proofs.{Givings.lines_due, SentByLinesLaw.items_are_said, Tellings.Tells, Tellings.told_at}
use Rattle.chess_match_laws.proofs.PingLaw as ping_law
use Rattle.chess_match_laws.proofs.Points.{Kept, by_points, turn_in, turns_of}

-- ---- what is expected

-- a line of this kind, which comes at `moment`, is one that an engine which answers sends, if the match `m` is in this
-- phase
abbrev pub IsExpected : Rules → Match → Phase → LineKind → ℕ → Type 0
IsExpected r m (Handshake S) (Features text) moment =
    (list_any ends_handshake (items_of text) ≡ true → missing r ((m.seat S).items ++ items_of text) ≡ None)
    × (list_any ends_handshake (items_of text) ≡ false → m.count + 1 < 1000)
IsExpected r m (Setup S) (Answers n) moment = n ≡ 1
IsExpected r m (BeforeMove S opened) (Moves text) moment = (moment - opened ≤ clock r m S)
    × (move : Move) × (reading (position_after r.start m.played) text ≡ reads.Move move)
IsExpected r m (AfterMove S) (Answers n) moment = n ≡ ping_number m S
IsExpected r m (BeforeMove S opened) SaysElse moment = (moment - opened ≤ clock r m S) × (m.count + 1 < 1000)
IsExpected r m _ SaysElse moment = m.count + 1 < 1000
IsExpected r m _ _ moment = ⊥

-- ---- the last line that an engine was sent

-- each line as a list of one
abbrev single : SentLine → List SentLine
single l = l ∷ []

singles : (ls : List SentLine) → flat_map single ls ≡ ls
singles [] = refl
singles (l ∷ ls) = ap (λ xs. l ∷ xs) (singles ls)

-- whether lines end in a ping, by the last of them
last_is : (X : List SentLine) (l : SentLine) → ends_in_ping (X ++ l ∷ []) ≡ nat_lt 0 (length (ping_text l))
last_is [] l = refl
last_is (x ∷ []) l = refl
last_is (x ∷ y ∷ X) l = last_is (y ∷ X) l

-- the line that S was sent last is no `ping`, in its turn and when it is opened
abbrev LastIn : Colour → Phase → List SentLine → Type 0
LastIn S (Opening c) X = same_colour c S ≡ true → ends_in_ping X ≡ false
LastIn S (BeforeMove c opened) X = same_colour c S ≡ true → ends_in_ping X ≡ false
LastIn S p X = Unit {0}

-- the opening of a turn ends with the last move or with `go`
opening_last : (r : Rules) (n : Match) (c : Colour) (X : List SentLine)
    → (nat_lt 0 (length (n.seat c).used) ≡ true → nat_lt 0 (length n.played) ≡ true)
    → ends_in_ping (X ++ opening r n c) ≡ false
opening_last r n c X some = at (nat_lt 0 (length (n.seat c).used)) some
  where
    clocks : List SentLine
    clocks = list_if (takes (codes "time") (n.seat c).items) (Time (clock r n c / 10) ∷ Otim (clock r n (other c) / 10) ∷ [])

    last : Bool → List SentLine
    last b = list_if b (move_line r n c ∷ [])

    moved : (b : Bool) → b ≡ true → ends_in_ping (X ++ (clocks ++ last b)) ≡ false
    moved true e = ap ends_in_ping (sym (append_assoc X clocks (move_line r n c ∷ []))) ∙ last_is (X ++ clocks) (move_line r n c)
    moved false e = absurd (cc)

    at : (b : Bool) → (b ≡ true → nat_lt 0 (length n.played) ≡ true)
        → ends_in_ping (X ++ (if b then clocks ++ last (nat_lt 0 (length n.played))
        else last (nat_lt 0 (length n.played)) ++ (clocks ++ Says (codes "go") ∷ []))) ≡ false
    at true h = moved (nat_lt 0 (length n.played)) (h refl)
    at false h =
        let first : List SentLine = last (nat_lt 0 (length n.played)) in
        ap ends_in_ping
        (ap (λ ls. X ++ ls) (sym (append_assoc first clocks (Says (codes "go") ∷ [])))
        ∙ sym (append_assoc X (first ++ clocks) (Says (codes "go") ∷ [])))
        ∙ last_is (X ++ (first ++ clocks)) (Says (codes "go"))

-- a turn of S is opened
opens : (r : Rules) (S c : Colour) (n : Match) (X : List SentLine)
    → (nat_lt 0 (length (n.seat c).used) ≡ true → nat_lt 0 (length n.played) ≡ true)
    → same_colour c S ≡ true
    → ends_in_ping (X ++ flat_map single (list_if (same_colour c S) (opening r n c))) ≡ false
opens r S c n X some own =
    ap (λ (b : Bool). ends_in_ping (X ++ flat_map single (list_if b (opening r n c)))) own
    ∙ ap (λ ls. ends_in_ping (X ++ ls)) (singles (opening r n c)) ∙ opening_last r n c X some

-- an offer of the side on move is passed on to the other
not_other : (c C S : Colour) → same_colour c C ≡ true → same_colour c S ≡ true → same_colour (other C) S ≡ false
not_other White White White e h = refl
not_other Black Black Black e h = refl
not_other White White Black e h = absurd (cc)
not_other White Black S e h = absurd (cc)
not_other Black White S e h = absurd (cc)
not_other Black Black White e h = absurd (cc)

-- an offer keeps `LastIn`
offered_last : (C S : Colour) (p : Phase) (X ls : List SentLine) → awaits_line p C ≡ true → LastIn S p X
    → LastIn S p (X ++ flat_map single (list_if (same_colour (other C) S) ls))
offered_last C S (BeforeMove c opened) X ls aw h = λ own.
    ap (λ (b : Bool). ends_in_ping (X ++ flat_map single (list_if b ls))) (not_other c C S aw own)
    ∙ ap ends_in_ping (append-nil X) ∙ h own
offered_last C S (Opening c) X ls aw h = absurd (cc)
offered_last C S (Handshake c) X ls aw h = tt
offered_last C S (Setup c) X ls aw h = tt
offered_last C S (AfterMove c) X ls aw h = tt
offered_last C S (Over reason) X ls aw h = tt

module _ (r : Rules) (S : Colour) where
  -- any line keeps `LastIn`
  last_line : (C : Colour) (kind : LineKind) (moment : ℕ) (m : Match) (X : List SentLine)
      → awaits_line m.phase C ≡ true → Kept r m → LastIn S m.phase X
      → LastIn S (line_row r m.phase kind moment m).after.phase
      (X ++ flat_map single ((line_row r m.phase kind moment m).to S))
  last_line C kind moment m X aw kept told =
      line_cases r C kind moment m (λ e. LastIn S e.after.phase (X ++ flat_map single (e.to S))) aw (λ since.
      let n : Match = record m { since = since } in record {
        handshake_stops = λ p reason k most w. tt;
        handshake_counts = λ p d few. shaking _ p;
        handshake_next = λ p s d. tt;
        handshake_last = λ p s d. tt;
        setup_counts = λ p pong few. setting_up _ p;
        setup_next = λ p s pong. tt;
        setup_last = λ p s pong v d. opens r S r.start.side n X (λ on. absurd (unused r.start.side p on));
        setup_draws = λ p claim v d. tt;
        setup_decides = λ p v e. tt;
        stops = λ done reason w. tt;
        counts = λ on none few. subst (LastIn S m.phase) (sym (append-nil X)) told;
        offers = λ on none own. offered_last C S m.phase X _ aw told;
        plays = λ text move opened is p read room timely v d. tt;
        draws = λ text move opened claim is p read room timely v d. tt;
        decides = λ text move opened v is p read room timely e. tt;
        passes = λ p none. opens r S (other C) n X (λ on. moved p);
      })
    where
      shaking : (Y : List SentLine) → m.phase ≡ Handshake C → LastIn S m.phase Y
      shaking Y e = subst (λ (q : Phase). LastIn S q Y) (sym e) tt

      setting_up : (Y : List SentLine) → m.phase ≡ Setup C → LastIn S m.phase Y
      setting_up Y e = subst (λ (q : Phase). LastIn S q Y) (sym e) tt

      -- before the first turn no move is made
      unused : (c : Colour) → m.phase ≡ Setup C → nat_lt 0 (length (m.seat c).used) ≡ true → ⊥
      unused c p on =
          let none : length (m.seat c).used ≡ 0 =
          kept.1 c ∙ ap (λ ms. turns_of c r.start.side ms) (turn_in r m (Setup C) p kept) in
          let off : false ≡ true = sym (ap (λ n. nat_lt 0 n) none) ∙ on in cc

      moved : m.phase ≡ AfterMove C → nat_lt 0 (length m.played) ≡ true
      moved p = let some = (turn_in r m (AfterMove C) p kept).1 in grind (arith, nat_tests, some)

  tells_last : Tells single r S (λ m X. LastIn S m.phase X)
  tells_last = record {
    line = last_line;
    stops = λ m reason X Y on told. tt;
    waits = λ m since X told. told;
    opened = λ m C k X e told. subst (λ (q : Phase). LastIn S q X) e told;
  }

begun_last : (S : Colour) → LastIn S beginning.after.phase (flat_map single (beginning.to S))
begun_last S = tt

-- ---- how many lines came in a handshake

-- in the handshake of S no more lines were counted than S has sent (`k`)
abbrev CountIn : Colour → Phase → ℕ → ℕ → Type 0
CountIn S (Handshake c) count k = same_colour c S ≡ true → count ≤ k
CountIn S p count k = Unit {0}

module _ (r : Rules) (S : Colour) where
  -- any line keeps `CountIn`
  count_line : (C : Colour) (t : Option (List ℕ)) (moment : ℕ) (m : Match) (k : ℕ) → awaits_line m.phase C ≡ true
      → CountIn S m.phase m.count k
      → CountIn S (effect r m (Line C t moment)).after.phase (effect r m (Line C t moment)).after.count
      (k + length (list_if (same_colour C S) (t ∷ [])))
  count_line C t moment m k aw h =
      line_cases r C (line_kind t) moment m (λ e. CountIn S e.after.phase e.after.count
      (k + length (list_if (same_colour C S) (t ∷ [])))) aw (λ since. record {
        handshake_stops = λ p reason j most w. tt;
        handshake_counts = λ p d few. one_more p;
        handshake_next = λ p s d own. omega arith;
        handshake_last = λ p s d. tt;
        setup_counts = λ p pong few. set_up _ p;
        setup_next = λ p s pong. tt;
        setup_last = λ p s pong v d. tt;
        setup_draws = λ p claim v d. tt;
        setup_decides = λ p v e. tt;
        stops = λ done reason w. tt;
        counts = λ on none few. in_a_turn _ m.phase on;
        offers = λ on none own. in_a_turn _ m.phase on;
        plays = λ text move opened is p read room timely v d. tt;
        draws = λ text move opened claim is p read room timely v d. tt;
        decides = λ text move opened v is p read room timely e. tt;
        passes = λ p none. tt;
      })
    where
      now : ℕ
      now = k + length (list_if (same_colour C S) (t ∷ []))

      set_up : (count : ℕ) → m.phase ≡ Setup C → CountIn S m.phase count now
      set_up count p = subst (λ (q : Phase). CountIn S q count now) (sym p) tt

      in_a_turn : (count : ℕ) (p : Phase) → in_turn p ≡ true → CountIn S p count now
      in_a_turn count (BeforeMove c opened) on = tt
      in_a_turn count (AfterMove c) on = tt
      in_a_turn count (Handshake c) on = absurd (cc)
      in_a_turn count (Setup c) on = absurd (cc)
      in_a_turn count (Opening c) on = absurd (cc)
      in_a_turn count (Over reason) on = absurd (cc)

      one_more : m.phase ≡ Handshake C → CountIn S m.phase (m.count + 1) now
      one_more p = subst (λ (q : Phase). CountIn S q (m.count + 1) now) (sym p) (λ own.
          let so_far : m.count ≤ k = subst (λ (q : Phase). CountIn S q m.count k) p h own in
          let one : length (list_if (same_colour C S) (t ∷ [])) ≡ 1 =
          ap (λ (b : Bool). length (list_if b (t ∷ []))) own in
          let all : m.count + 1 ≤ k + length (list_if (same_colour C S) (t ∷ [])) = omega (arith, so_far, one) in all)

  -- `CountIn` holds at each moment of a match
  counted_at : (H K : List Act) (final : Match) → IsMatch r (H ++ K) final
      → let m = match_after r beginning.after H in CountIn S m.phase m.count (length (lines_read S H))
  counted_at H K final g =
      let all : 0 + length (lines_read S H) ≡ length (lines_read S H) = omega arith in
      subst (λ (j : ℕ). CountIn S (match_after r beginning.after H).phase (match_after r beginning.after H).count j) all
      (by_points r
      (λ m due G n. (k : ℕ) → CountIn S m.phase m.count k → CountIn S n.phase n.count (k + length (lines_read S G))) (record {
        sends = λ m n b due G p. p;
        fails = λ m n b due G on q only same p k h. p k tt;
        fails_late = λ m n b due G over only same p. p;
        reads = λ m n c t x G aw q stays p k h. subst (λ (j : ℕ). CountIn S n.phase n.count j)
            (more k (list_if (same_colour c S) (t ∷ [])) (lines_read S G))
            (p (k + length (list_if (same_colour c S) (t ∷ []))) (count_line c t x m k aw h));
        opens = λ m n c x G phase q p k h. p k tt;
        silent = λ m n c x G aw limited q stays p k h. p k
            (silence_cases r c x m (λ e. CountIn S e.after.phase e.after.count k) (record {
              stops = λ reason w. tt;
              goes_on = λ since. h;
            }));
        output_ends = λ m n c G aw q only same p k h. p k tt;
        read_fails = λ m n c G aw q only same p k h. p k tt;
      }) H K final (λ m due q is k h. subst (λ (j : ℕ). CountIn S m.phase m.count j) (none k) h) g 0
      (λ own. omega arith))
    where
      none : (k : ℕ) → k ≡ k + 0
      none k = omega arith

      more : (k : ℕ) (xs ys : List (Option (List ℕ))) → k + length xs + length ys ≡ k + length (xs ++ ys)
      more k xs ys = let l = length-append xs ys in omega (arith, l)

-- ---- a line that is due is expected

-- what holds when a line of S is read: the pings that S was sent (PingLaw), the last line that it was sent, its items,
-- and the count of its lines
pub record Facts (S : Colour) (before : List Act) (m : Match) : Type 0 where
  awaited : awaits_line m.phase S ≡ true
  pinged : ping_law.ToldIn S m.phase (length (m.seat S).used) (flat_map ping_text (lines_given S before))
  last : LastIn S m.phase (lines_given S before)
  items : (m.seat S).items ≡ items_said (lines_read S before)
  counted : CountIn S m.phase m.count (length (lines_read S before))

-- a line of S is awaited, and S was sent as many pings as PingLaw says
abbrev Pinged : Colour → Match → List (List ℕ) → Type 0
Pinged S m X = (awaits_line m.phase S ≡ true) × ping_law.Told S m X

-- whenever a line of S is read, these facts hold
pub facts_at : (r : Rules) (S : Colour) (before after : List Act) (text : Option (List ℕ)) (moment : ℕ) (final : Match)
    → IsMatch r (before ++ Happens (Line S text moment) ∷ after) final
    → Facts S before (match_after r beginning.after before)
facts_at r S before after text moment final g =
    let told : Pinged S (match_after r beginning.after before) (flat_map ping_text (lines_given S before)) =
    told_at ping_text r S (ping_law.Told S) (ping_law.tells r S) (Pinged S) before (Happens (Line S text moment) ∷ after)
    final by_pings g (ping_law.begun S) in
    let last : LastIn S (match_after r beginning.after before).phase (flat_map single (lines_given S before)) =
    told_at single r S (λ m X. LastIn S m.phase X) (tells_last r S) (λ m X. LastIn S m.phase X) before
    (Happens (Line S text moment) ∷ after) final by_last g (begun_last S) in record {
      awaited = told.0;
      pinged = told.1;
      last = subst (LastIn S (match_after r beginning.after before).phase) (singles (lines_given S before)) last;
      items = items_are_said r before (Happens (Line S text moment) ∷ after) final g S;
      counted = counted_at r S before (Happens (Line S text moment) ∷ after) final g;
    }
  where
    by_pings : (m : Match) (due : List Block) → IsMatchFrom r m due (Happens (Line S text moment) ∷ after) final
        → (X : List (List ℕ)) → ping_law.Told S m (X ++ flat_map ping_text (lines_due S due)) → Pinged S m X
    by_pings m (b ∷ due) q X told = absurd q
    by_pings m [] (aw, q) X told = (aw, subst (ping_law.Told S m) (append-nil X) told)

    by_last : (m : Match) (due : List Block) → IsMatchFrom r m due (Happens (Line S text moment) ∷ after) final
        → (X : List SentLine) → LastIn S m.phase (X ++ flat_map single (lines_due S due)) → LastIn S m.phase X
    by_last m (b ∷ due) q X told = absurd q
    by_last m [] (aw, q) X told = subst (LastIn S m.phase) (append-nil X) told

-- in its setup S was sent just one ping
not_yet : (S c : Colour) → same_colour c S ≡ true → (k : ℕ)
    → k ≡ (if same_colour S White then 1 else if same_colour c Black then 1 else 0) → k ≡ 1
not_yet White c own k e = e
not_yet Black White own k e = absurd (cc)
not_yet Black Black own k e = e

-- lines that are `pings n k` are `k` lines
many_are : (n k : ℕ) (X : List (List ℕ)) → X ≡ pings n k → length X ≡ k
many_are n k X e = ap length e ∙ ping_law.long n k

-- of lines of which none is a ping, the last is none
none_after : (xs ys : List (List ℕ)) → xs ++ ys ≡ [] → ys ≡ []
none_after [] ys h = h
none_after (x ∷ xs) ys h = absurd (cc)

none_last : (ls : List SentLine) → flat_map ping_text ls ≡ [] → ends_in_ping ls ≡ false
none_last [] e = refl
none_last (l ∷ []) e = ap (λ ts. nat_lt 0 (length ts)) (sym (append-nil (ping_text l)) ∙ e)
none_last (l ∷ k ∷ ls) e = none_last (k ∷ ls) (none_after (ping_text l) (flat_map ping_text (k ∷ ls)) e)

-- by each way in which a line can be due, and each phase
pub due_is_expected : (r : Rules) (S : Colour) (before : List Act) (m : Match) {kind : LineKind} {moment : ℕ}
    → Facts S before m → IsDue r S before m kind moment → IsExpected r m m.phase kind moment
due_is_expected r S before m facts (of_handshake {text} {moment} none lacks few) =
    at m.phase facts.awaited facts.pinged facts.counted
  where
    at : (p : Phase) → awaits_line p S ≡ true
        → ping_law.ToldIn S p (length (m.seat S).used) (flat_map ping_text (lines_given S before))
        → CountIn S p m.count (length (lines_read S before)) → IsExpected r m p (Features text) moment
    at (Handshake c) aw told counted =
        let own : c ≡ S = same_colour-true c S aw in (
          λ e. ap (λ d. missing r ((m.seat d).items ++ items_of text)) own
              ∙ ap (λ is. missing r (is ++ items_of text)) facts.items ∙ lacks e,
          λ e. let short : length (lines_read S before) < 999 = few e in
              let so_far : m.count ≤ length (lines_read S before) = counted aw in omega (arith, short, so_far),
        )
    at (Setup c) aw told counted =
        let one : told.many ≡ 1 = not_yet S c aw told.many told.count in
        let zero_sent : 0 ≡ told.many = sym (ap length none) ∙ many_are 1 told.many _ told.are in
        absurd (omega (arith, one, zero_sent))
    at (BeforeMove c opened) aw told counted =
        let some : told.many ≡ length (m.seat S).used + 1 = told.count in
        let zero_sent : 0 ≡ told.many = sym (ap length none) ∙ many_are 1 told.many _ told.are in
        absurd (omega (arith, some, zero_sent))
    at (AfterMove c) aw told counted =
        let some : told.many ≡ length (m.seat S).used + 1 = told.count in
        let zero_sent : 0 ≡ told.many = sym (ap length none) ∙ many_are 1 told.many _ told.are in
        absurd (omega (arith, some, zero_sent))
    at (Opening c) aw told counted = absurd (cc)
    at (Over reason) aw told counted = absurd (cc)
due_is_expected r S before m facts (to_ping {n} {moment} last number) =
    at m.phase facts.awaited facts.pinged facts.last
  where
    at : (p : Phase) → awaits_line p S ≡ true
        → ping_law.ToldIn S p (length (m.seat S).used) (flat_map ping_text (lines_given S before))
        → LastIn S p (lines_given S before) → IsExpected r m p (Answers n) moment
    at (Handshake c) aw told no_ping =
        let none : told.many ≡ 0 = told.count in
        let never : false ≡ true = sym (none_last (lines_given S before) (told.are ∙ ap (pings 1) none)) ∙ last in
        absurd (cc)
    at (Setup c) aw told no_ping =
        number ∙ many_are 1 told.many _ told.are ∙ not_yet S c aw told.many told.count
    at (BeforeMove c opened) aw told no_ping = let never : false ≡ true = sym (no_ping aw) ∙ last in absurd (cc)
    at (AfterMove c) aw told no_ping =
        let own : c ≡ S = same_colour-true c S aw in
        number ∙ many_are 1 told.many _ told.are ∙ told.count ∙ sym (ap (λ d. ping_number m d) own)
    at (Opening c) aw told no_ping = absurd (cc)
    at (Over reason) aw told no_ping = absurd (cc)
due_is_expected r S before m facts (to_turn {text} {moment} {opened} {made} phase denoted timely) =
    subst (λ (p : Phase). IsExpected r m p (Moves text) moment) (sym phase) (timely, made, denoted)
due_is_expected r S before m facts (idle {moment} few timely) = at m.phase refl
  where
    at : (p : Phase) → m.phase ≡ p → IsExpected r m p SaysElse moment
    at (BeforeMove c opened) e =
        let own : c ≡ S = same_colour-true c S (sym (ap (λ (q : Phase). awaits_line q S) e) ∙ facts.awaited) in (
          subst (λ d. moment - opened ≤ clock r m d) (sym own)
              (timely opened (e ∙ ap (λ d. BeforeMove d opened) own)),
          few,
        )
    at (Handshake c) e = few
    at (Setup c) e = few
    at (AfterMove c) e = few
    at (Opening c) e = few
    at (Over reason) e = few
