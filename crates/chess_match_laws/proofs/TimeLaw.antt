-- At each moment the times that an engine O was sent are the clocks, but for at most the last: in `time` lines its own
-- (`own` is true; times_are_clocks), in `otim` lines its opponent's (`own` is false; other_times_are_clocks). By the
-- scheme of Givings, once for both: `AllOf` is what O is to be sent, and `RestIs` says what of it may be unsent.
use Rattle.std.proofs.Common.{◌≡◌, ℕ, ◌+◌, ◌-◌, ◌/◌, ◌≤◌, Bool, true, false, ◌||◌, List, [], ◌∷◌, ◌++◌, length, length-append, drop, refl, ap, sym, subst, ◌∙◌, append-nil, arith, flat_map, if◌then◌else◌, codes, sum}
use Rattle.std.proofs.{lemmas.Grind.flat_map-append, lemmas.List.Sums.sum_by-cons}
use Rattle.chess_base.specs.{declared.man.Colour.Colour, declared.man.Colour.TheVariants.White, declared.man.Colour.TheVariants.Black, declared.man.Move.Move, Men.other, Men.same_colour, Options.list_if}
use Rattle.chess_base.proofs.shared.Men.{same_colour-true}
use Rattle.cecp_engine.specs.{Items.takes, Levels.LevelSeen, Levels.allotted}
use Rattle.chess_match.specs.{Acts.Act, Acts.IsMatch, Acts.is_over, shared.Parts.enter, Lines.SentLine, Lines.Says, Rules.Rules, declared.reason.Reason.Reason, laws.Laws.lines_given, laws.Laws.match_after}
use Rattle.chess_match.specs.Effects.{Match, Phase, Handshake, Setup, Opening, BeforeMove, AfterMove, Over, begins_turn, beginning, ends, moved, opening}
use Rattle.chess_match_laws.specs.{Streams.centiseconds, Streams.otim_sent, Streams.time_sent, OfActs.AtEachMoment, OfActs.OtherTimesAreClocks, OfActs.TimesAreClocks}
use Rattle.chess_match_laws.proofs.Givings.{Gives, Goes, given_at, grows, sends}
use Rattle.chess_match_laws.proofs.{ClockLaw.sum-snoc, Points.moved_items, Points.moved_used, Points.offered_items}
use Rattle.chess_match.proofs.shared.LineCases.{offered_used, said_used}

-- ---- the lines

-- the number in a `time` line (`own`) or in an `otim` line
abbrev numbers : Bool → SentLine → List ℕ
numbers true = time_sent
numbers false = otim_sent

-- whose clock they show to S: its own, or the other's
abbrev whose : Bool → Colour → Colour
whose true S = S
whose false S = other S

no_text : (own : Bool) (text : List ℕ) → numbers own (Says text) ≡ []
no_text true text = refl
no_text false text = refl

-- the clock that is sent in an opening, where the engine takes `time`
abbrev last_shown : LevelSeen → Bool → List ℕ → List ℕ
last_shown level takes used = if takes then (allotted level (length used) - sum used) / 10 ∷ [] else []

-- an opening shows the clock as it is, if the engine takes `time`
opening_times : (own : Bool) (r : Rules) (m : Match) (S : Colour) → flat_map (numbers own) (opening r m S)
    ≡ last_shown (r.level (whose own S)) (takes (codes "time") (m.seat S).items) (m.seat (whose own S)).used
opening_times true r m S = grind (arith, flat_map-append, append-nil)
opening_times false r m S = grind (arith, flat_map-append, append-nil)

-- the end shows none
end_times : (own : Bool) (r : Rules) (m : Match) (reason : Reason) (S : Colour)
    → flat_map (numbers own) ((ends r reason m).to S) ≡ []
end_times own r m reason S = grind arith

-- ---- the clocks

-- after one move more the clock shows one time more
centiseconds-snoc : (level : LevelSeen) (k spent : ℕ) (us : List ℕ) (u n t : ℕ) → n ≡ k + length us + 1 → t
    ≡ spent + sum us + u
    → centiseconds level k spent (us ++ u ∷ []) ≡ centiseconds level k spent us ++ (allotted level n - t) / 10 ∷ []
centiseconds-snoc level k spent [] u n t e f =
    let a : n ≡ k + 1 = omega (arith, e) in
    let b : t ≡ spent + u = omega (arith, f) in
    rw (a, b) refl
centiseconds-snoc level k spent (x ∷ us) u n t e f =
    let s : sum (x ∷ us) ≡ x + sum us = sum_by-cons (λ (y : ℕ). y) x us in
    ap (λ (l : List ℕ). (allotted level k - spent) / 10 ∷ l)
    (centiseconds-snoc level (k + 1) (spent + x) us u n t (omega (arith, e)) (omega (arith, f, s)))

-- all of a list, or all but its first
abbrev from : Bool → List ℕ → List ℕ
from true xs = xs
from false xs = drop 1 xs

-- all times that a side is shown after these used times; without the first, if it is not `whole`; none without `time`
abbrev all_shown : Bool → LevelSeen → Bool → List ℕ → List ℕ
all_shown whole level takes used = if takes then from whole (centiseconds level 0 0 used) else []

-- what is still to be sent in this phase: the last, where S's turn wasn't opened since the clock changed
abbrev pending : Bool → Phase → Colour → List ℕ → List ℕ
pending true (Opening c) S t = if same_colour c S then [] else t
pending true (BeforeMove c opened) S t = if same_colour c S then [] else t
pending true (AfterMove c) S t = t
pending false (AfterMove c) S t = if same_colour c S then [] else t
pending own p S t = []

-- the first time of a clock is shown, too: always of one's own, and of the other's if S moves first
abbrev is_whole : Bool → Rules → Colour → Bool
is_whole own r S = own || same_colour S r.start.side

-- what S is to be shown in this phase: before the game nothing
abbrev AllIn : Bool → Rules → Colour → Phase → Bool → List ℕ → List ℕ
AllIn own r S (Handshake c) takes used = []
AllIn own r S (Setup c) takes used = []
AllIn own r S p takes used = all_shown (is_whole own r S) (r.level (whose own S)) takes used

-- `rest` is what of it is still to be sent in this phase; after the end any
abbrev RestIn : Bool → Rules → Colour → Phase → Bool → List ℕ → List ℕ → Type 0
RestIn own r S (Handshake c) takes used rest = (rest ≡ []) × (used ≡ [])
RestIn own r S (Setup c) takes used rest = (rest ≡ []) × (used ≡ [])
RestIn own r S (Over reason) takes used rest = Unit {0}
RestIn own r S p takes used rest = rest ≡ pending own p S (last_shown (r.level (whose own S)) takes used)

-- whether the engine of S takes `time`
abbrev takes_time : Match → Colour → Bool
takes_time m S = takes (codes "time") (m.seat S).items

-- `AllIn` of a match
abbrev AllOf : Bool → Rules → Colour → Match → List ℕ
AllOf own r S m = AllIn own r S m.phase (takes_time m S) (m.seat (whose own S)).used

-- `RestIn` of a match
abbrev RestIs : Bool → Rules → Colour → Match → List ℕ → Type 0
RestIs own r S m rest = RestIn own r S m.phase (takes_time m S) (m.seat (whose own S)).used rest

-- what `RestIs` says, in the phase `p`, which is the match's
rest_in : (own : Bool) (r : Rules) (S : Colour) (m : Match) (p : Phase) (rest : List ℕ) → m.phase ≡ p
    → RestIs own r S m rest → RestIn own r S p (takes_time m S) (m.seat (whose own S)).used rest
rest_in own r S m p rest e h =
    subst (λ (q : Phase). RestIn own r S q (takes_time m S) (m.seat (whose own S)).used rest) e h

-- ---- lists

all_short : (whole : Bool) (level : LevelSeen) (takes : Bool) → length (all_shown whole level takes []) ≤ 1
all_short whole level takes = grind arith

last_short : (level : LevelSeen) (takes : Bool) (used : List ℕ) → length (last_shown level takes used) ≤ 1
last_short level true used = omega arith
last_short level false used = omega arith

-- the turn passes
passes_times : (own : Bool) (c S : Colour) (t : List ℕ) → pending own (AfterMove c) S t
    ≡ (if same_colour (other c) S then t else []) ++ pending own (Opening (other c)) S t
passes_times own c S t = grind (arith, append-nil)

-- the first turn is opened
opens_times : (own : Bool) (level : LevelSeen) (S c : Colour) (takes : Bool)
    → all_shown (own || same_colour S c) level takes []
    ≡ (if same_colour c S then last_shown level takes [] else [])
    ++ pending own (Opening c) S (last_shown level takes [])
opens_times own level S c takes = grind arith

from-append : (whole : Bool) (level : LevelSeen) (us : List ℕ) (t : List ℕ)
    → from whole (centiseconds level 0 0 us ++ t) ≡ from whole (centiseconds level 0 0 us) ++ t
from-append true level us t = refl
from-append false level [] t = refl
from-append false level (u ∷ us) t = refl

-- after one move more one time more is to be shown
all_more : (whole : Bool) (level : LevelSeen) (takes : Bool) (used : List ℕ) (u : ℕ)
    → all_shown whole level takes (used ++ u ∷ [])
    ≡ all_shown whole level takes used ++ last_shown level takes (used ++ u ∷ [])
all_more whole level false used u = refl
all_more whole level true used u =
    let l : length (used ++ u ∷ []) ≡ length used + 1 = length-append used (u ∷ []) in
    let s : sum (used ++ u ∷ []) ≡ sum used + u = sum-snoc used u in
    ap (λ (xs : List ℕ). from whole xs) (centiseconds-snoc level 0 0 used u (length (used ++ u ∷ []))
    (sum (used ++ u ∷ [])) (omega (arith, l)) (omega (arith, s)))
    ∙ from-append whole level used ((allotted level (length (used ++ u ∷ [])) - sum (used ++ u ∷ [])) / 10 ∷ [])

-- where S's clock that is shown to O changes, all was sent before, and the last is to be sent after; else it is as it
-- was
none_before : (own : Bool) (S O : Colour) (opened : ℕ) (t : List ℕ) → same_colour S (whose own O) ≡ true
    → pending own (BeforeMove S opened) O t ≡ []
none_before own S O opened t h1 = grind arith

all_after : (own : Bool) (S O : Colour) (t : List ℕ) → same_colour S (whose own O) ≡ true
    → pending own (AfterMove S) O t ≡ t
all_after own S O t h1 = grind arith

as_before : (own : Bool) (S O : Colour) (opened : ℕ) (t : List ℕ) → same_colour S (whose own O) ≡ false
    → pending own (AfterMove S) O t ≡ pending own (BeforeMove S opened) O t
as_before own S O opened t h1 = grind arith

opened_same : (own : Bool) (c S : Colour) (k : ℕ) (t : List ℕ) → pending own (Opening c) S t
    ≡ pending own (BeforeMove c k) S t
opened_same true c S k t = refl
opened_same false c S k t = refl

-- ---- the events

-- the match ends, and shows no clock any more
stops : (own : Bool) (r : Rules) (O : Colour) (m : Match) (reason : Reason) (rest : List ℕ) → is_over m.phase ≡ false
    → length rest ≤ 1 → RestIs own r O m rest
    → Goes (AllOf own r O) (RestIs own r O) m rest (flat_map (numbers own) ((ends r reason m).to O))
    (ends r reason m).after
stops own r O m reason rest on l h = rw (end_times own r m reason O) (at m.phase refl on h)
  where
    used : List ℕ
    used = (m.seat (whose own O)).used

    n : Match
    n = (ends r reason m).after

    begun : (p : Phase) → m.phase ≡ p → AllIn own r O p (takes_time m O) used ≡ [] → rest ≡ [] → used ≡ []
        → Goes (AllOf own r O) (RestIs own r O) m rest [] n
    begun p e none q u = grows (AllOf own r O) (RestIs own r O) m n rest (AllOf own r O n) [] (AllOf own r O n) q
        (rw u (all_short (is_whole own r O) (r.level (whose own O)) (takes_time m O))) (rw (e, none) refl) refl tt

    in_game : (p : Phase) → m.phase ≡ p → AllIn own r O p (takes_time m O) used ≡ AllOf own r O n
        → Goes (AllOf own r O) (RestIs own r O) m rest [] n
    in_game p e same = sends (AllOf own r O) (RestIs own r O) m n rest [] rest l refl (rw e (sym same)) tt

    at : (p : Phase) → m.phase ≡ p → is_over p ≡ false → RestIn own r O p (takes_time m O) used rest
        → Goes (AllOf own r O) (RestIs own r O) m rest [] n
    at (Handshake c) e on h = begun (Handshake c) e refl h.0 h.1
    at (Setup c) e on h = begun (Setup c) e refl h.0 h.1
    at (Opening c) e on h = in_game (Opening c) e refl
    at (BeforeMove c opened) e on h = in_game (BeforeMove c opened) e refl
    at (AfterMove c) e on h = in_game (AfterMove c) e refl
    at (Over x) e on h = absurd cc

-- what the opening of a turn has of these
opened_times : (own : Bool) (r : Rules) (O c : Colour) (m : Match) → flat_map (numbers own) ((begins_turn r c m).to O)
    ≡ (if same_colour c O then last_shown (r.level (whose own O)) (takes_time m O) (m.seat (whose own O)).used else [])
opened_times own r O c m = at (same_colour c O) (same_colour-true c O)
  where
    at : (b : Bool) → (b ≡ true → c ≡ O) → flat_map (numbers own) (list_if b (opening r (enter (Opening c) m) c))
        ≡ (if b then last_shown (r.level (whose own O)) (takes_time m O) (m.seat (whose own O)).used else [])
    at true h = opening_times own r (enter (Opening c) m) c
        ∙ ap (λ (x : Colour). last_shown (r.level (whose own x)) (takes_time m x) (m.seat (whose own x)).used) (h refl)
    at false h = refl

-- what each event does, as Givings asks for it
gives : (own : Bool) (r : Rules) (O : Colour) → Gives (numbers own) r O (AllOf own r O) (RestIs own r O)
gives own r O = record {
  stops = stops own r O;
  said = λ m S kind rest p q h. let e = rest_in own r O m (Handshake S) rest p h in
      rw p (refl, (e.0, said_used S (whose own O) kind m ∙ e.1));
  counts = λ m k rest h. (refl, h);
  waits = λ m since rest h. (refl, h);
  enters = λ m S c rest p h. let e = rest_in own r O m (Handshake S) rest p h in rw p (refl, e, refl, e);
  sets_up = λ m S c rest p h. rw p (refl, rest_in own r O m (Setup S) rest p h);
  offers = λ m S rest h. rw (offered_items S O m, offered_used S (whose own O) m) (refl, h);
  begins = λ m S rest p l q h.
      let e = rest_in own r O m (Setup S) rest p h in
      let us : List ℕ = (m.seat (whose own O)).used in
      let tk : Bool = takes_time m O in
      let last : List ℕ = last_shown (r.level (whose own O)) tk us in
      let all : List ℕ = all_shown (is_whole own r O) (r.level (whose own O)) tk us in
      rw (opened_times own r O r.start.side m)
      (grows (AllOf own r O) (RestIs own r O) m (begins_turn r r.start.side m).after rest all
      (if same_colour r.start.side O then last else []) (pending own (Opening r.start.side) O last) e.0
      (subst (λ us. length (all_shown (is_whole own r O) (r.level (whose own O)) tk us) ≤ 1) (sym e.1)
      (all_short (is_whole own r O) (r.level (whose own O)) tk))
      (ap (λ (q : Phase). AllIn own r O q tk us ++ all) (sym p))
      (subst (λ us. all_shown (is_whole own r O) (r.level (whose own O)) tk us
      ≡ (if same_colour r.start.side O then last_shown (r.level (whose own O)) tk us else [])
      ++ pending own (Opening r.start.side) O (last_shown (r.level (whose own O)) tk us)) (sym e.1) (opens_times own (r.level (whose own O)) O r.start.side tk))
      refl);
  passes = λ m S rest p l q h.
      let e = rest_in own r O m (AfterMove S) rest p h in
      let us : List ℕ = (m.seat (whose own O)).used in
      let last : List ℕ = last_shown (r.level (whose own O)) (takes_time m O) us in
      rw (opened_times own r O (other S) m)
      (sends (AllOf own r O) (RestIs own r O) m (begins_turn r (other S) m).after rest
      (if same_colour (other S) O then last else []) (pending own (Opening (other S)) O last) l
      (e ∙ passes_times own S O last) (ap (λ (q : Phase). AllIn own r O q (takes_time m O) us) (sym p)) refl);
  plays = λ m S move opened used rest p l q h. played m S move opened used rest p l
      (rest_in own r O m (BeforeMove S opened) rest p h);
  opened = λ m S k rest p h. (
    ap (λ (q : Phase). AllIn own r O q (takes_time m O) (m.seat (whose own O)).used) (sym p),
    rest_in own r O m (Opening S) rest p h ∙ opened_same own S O k _,
  );
}
  where
    played : (m : Match) (S : Colour) (move : Move) (opened used : ℕ) (rest : List ℕ) → m.phase ≡ BeforeMove S opened
        → length rest ≤ 1
        → rest ≡ pending own (BeforeMove S opened) O (last_shown (r.level (whose own O)) (takes_time m O) (m.seat (whose own O)).used)
        → Goes (AllOf own r O) (RestIs own r O) m rest [] (moved S move used m)
    played m S move opened used rest p l e = at (same_colour S (whose own O)) refl
      where
        n : Match
        n = moved S move used m

        xs : List ℕ
        xs = (m.seat (whose own O)).used

        shown : List ℕ → List ℕ
        shown us = last_shown (r.level (whose own O)) (takes_time m O) us

        all_used : List ℕ → List ℕ
        all_used us = all_shown (is_whole own r O) (r.level (whose own O)) (takes_time m O) us

        all_then : (us : List ℕ) → (n.seat (whose own O)).used ≡ us → AllOf own r O n ≡ all_used us
        all_then us u =
            ap (λ is. all_shown (is_whole own r O) (r.level (whose own O)) (takes (codes "time") is) (n.seat (whose own O)).used)
            (moved_items S O move used m) ∙ ap all_used u

        rest_then : (us : List ℕ) → (n.seat (whose own O)).used ≡ us → pending own (AfterMove S) O (shown us)
            ≡ pending own (AfterMove S) O (last_shown (r.level (whose own O)) (takes_time n O) (n.seat (whose own O)).used)
        rest_then us u =
            ap (λ us. pending own (AfterMove S) O (shown us)) (sym u)
            ∙ ap (λ is. pending own (AfterMove S) O
            (last_shown (r.level (whose own O)) (takes (codes "time") is) (n.seat (whose own O)).used))
            (sym (moved_items S O move used m))

        all_now : all_used xs ≡ AllOf own r O m
        all_now = ap (λ (q : Phase). AllIn own r O q (takes_time m O) xs) (sym p)

        at : (b : Bool) → same_colour S (whose own O) ≡ b → Goes (AllOf own r O) (RestIs own r O) m rest [] n
        at true s =
            let us : List ℕ = xs ++ used ∷ [] in
            let u : (n.seat (whose own O)).used ≡ us =
            moved_used S (whose own O) move used m ∙ ap (λ (b : Bool). if b then us else xs) s in
            grows (AllOf own r O) (RestIs own r O) m n rest (shown us) [] (shown us)
            (e ∙ none_before own S O opened _ s)
            (last_short (r.level (whose own O)) (takes_time m O) us)
            (all_then us u ∙ all_more (is_whole own r O) (r.level (whose own O)) (takes_time m O) xs used
            ∙ ap (λ (l : List ℕ). l ++ shown us) all_now)
            refl (sym (all_after own S O _ s) ∙ rest_then us u)
        at false s =
            let u : (n.seat (whose own O)).used ≡ xs =
            moved_used S (whose own O) move used m ∙ ap (λ (b : Bool). if b then xs ++ used ∷ [] else xs) s in
            sends (AllOf own r O) (RestIs own r O) m n rest [] rest l refl (all_then xs u ∙ all_now)
            (e ∙ sym (as_before own S O opened (shown xs) s) ∙ rest_then xs u)

-- ---- all that is sent

-- at each moment all times were sent, but for at most the last
shown_at : (own : Bool) (r : Rules) (O : Colour) (H K : List Act) (final : Match) → IsMatch r (H ++ K) final
    → (let m = match_after r beginning.after H in (rest : List ℕ) × (length rest ≤ 1)
    × (flat_map (numbers own) (lines_given O H) ++ rest
    ≡ all_shown (is_whole own r O) (r.level (whose own O)) (takes_time m O) (m.seat (whose own O)).used))
shown_at own r O H K final g =
    given_at (numbers own) (no_text own) r O (AllOf own r O) (RestIs own r O) (gives own r O)
    (λ m X. (rest : List ℕ) × (length rest ≤ 1)
    × (X ++ rest ≡ all_shown (is_whole own r O) (r.level (whose own O)) (takes_time m O) (m.seat (whose own O)).used)) H K final
    (λ m due q X s. done m X _ s.0 s.1 s.2 s.3) g (begun own O)
  where
    done : (m : Match) (X Y rest : List ℕ) → length (Y ++ rest) ≤ 1 → X ++ (Y ++ rest) ≡ AllOf own r O m
        → RestIs own r O m rest
        → (left : List ℕ) × (length left ≤ 1)
        × (X ++ left ≡ all_shown (is_whole own r O) (r.level (whose own O)) (takes_time m O) (m.seat (whose own O)).used)
    done m X Y rest l a h = at m.phase a h
      where
        used : List ℕ
        used = (m.seat (whose own O)).used

        none : (X Z : List ℕ) → X ++ Z ≡ [] → X ≡ []
        none [] Z a = refl
        none (x ∷ X) Z a = cc

        begun : used ≡ [] → X ++ (Y ++ rest) ≡ []
            → (left : List ℕ) × (length left ≤ 1)
            × (X ++ left ≡ all_shown (is_whole own r O) (r.level (whose own O)) (takes_time m O) used)
        begun u a = (
          all_shown (is_whole own r O) (r.level (whose own O)) (takes_time m O) used,
          subst (λ us. length (all_shown (is_whole own r O) (r.level (whose own O)) (takes_time m O) us) ≤ 1) (sym u)
              (all_short (is_whole own r O) (r.level (whose own O)) (takes_time m O)),
          ap (λ (xs : List ℕ). xs ++ all_shown (is_whole own r O) (r.level (whose own O)) (takes_time m O) used) (none X (Y ++ rest) a),
        )

        at : (p : Phase) → X ++ (Y ++ rest) ≡ AllIn own r O p (takes_time m O) used
            → RestIn own r O p (takes_time m O) used rest
            → (left : List ℕ) × (length left ≤ 1)
            × (X ++ left ≡ all_shown (is_whole own r O) (r.level (whose own O)) (takes_time m O) used)
        at (Handshake c) a h = begun h.1 a
        at (Setup c) a h = begun h.1 a
        at (Opening c) a h = (Y ++ rest, l, a)
        at (BeforeMove c opened) a h = (Y ++ rest, l, a)
        at (AfterMove c) a h = (Y ++ rest, l, a)
        at (Over x) a h = (Y ++ rest, l, a)

    begun : (own : Bool) (O : Colour) → (rest : List ℕ)
        × (length (flat_map (numbers own) (beginning.to O) ++ rest) ≤ 1)
        × ([] ++ (flat_map (numbers own) (beginning.to O) ++ rest) ≡ AllOf own r O beginning.after)
        × RestIs own r O beginning.after rest
    begun true White = ([], omega arith, refl, (refl, refl))
    begun true Black = ([], omega arith, refl, (refl, refl))
    begun false White = ([], omega arith, refl, (refl, refl))
    begun false Black = ([], omega arith, refl, (refl, refl))

pub times_are_clocks : AtEachMoment TimesAreClocks
times_are_clocks r H K final g S = shown_at true r S H K final g

pub other_times_are_clocks : AtEachMoment OtherTimesAreClocks
other_times_are_clocks r H K final g S =
    let m = match_after r beginning.after H in
    let h = shown_at false r S H K final g in (h.0, h.1, h.2 ∙ at (same_colour S r.start.side) m)
  where
    at : (b : Bool) (m : Match) → all_shown b (r.level (other S)) (takes_time m S) (m.seat (other S)).used
        ≡ (if takes_time m S then (if b then centiseconds (r.level (other S)) 0 0 (m.seat (other S)).used
        else drop 1 (centiseconds (r.level (other S)) 0 0 (m.seat (other S)).used)) else [])
    at true m = refl
    at false m = refl
