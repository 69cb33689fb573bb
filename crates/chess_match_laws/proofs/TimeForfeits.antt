-- A side loses on time, or draws against a bare king, exactly if an act showed that more time had passed than it had
-- left. Such an act ends the match so (`late_line`, `late_silence`, and for a whole match `overstepped`). Nothing that
-- comes in time ends it so (`line_timely`, `silence_timely`); hence by induction over the acts a match that ended so
-- has such an act, and after it only blocks (`shown`).
use Rattle.std.proofs.Common.{◌≡◌, ℕ, ◌-◌, Bool, true, false, List, [], ◌∷◌, ◌++◌, refl, ap, sym, ◌∙◌, subst, Option, None, Some, arith, if◌then◌else◌, length, nat_le, nat_lt}
use Rattle.std.specs.Option.{option_map_or}
use Rattle.std.proofs.lemmas.Bool.{and_parts}
use Rattle.chess_base.specs.{declared.man.Colour.Colour, declared.man.Colour.TheVariants.White, Men.other, Men.same_colour}
use Rattle.chess_base.proofs.shared.Men.{same_colour-self, same_colour-true}
use Rattle.chess_game.specs.{Ends.claims, Ends.draw_claim, Line.position_after, declared.verdicts.DrawClaim.DrawClaim}
use Rattle.cecp_engine.specs.EngineLines.{LineKind, Features, Moves, Resigns, OffersDraw, ClaimsDraw, ClaimsWin, Rejects}
use Rattle.cecp_engine.specs.Items.{Item, items_of}
use Rattle.chess_text.specs.{declared.reading.Reading.Reading, Moves.reading}
use Rattle.chess_match.specs.Acts.{Act, Block, IsMatch, IsMatchFrom, Sends, Happens, awaits_line, blocks_from, is_limited, is_over}
use Rattle.chess_match.specs.Effects.{Effect, Match, Phase, Handshake, Setup, Opening, BeforeMove, AfterMove, Over, awaited_since, before_move, beginning, clock, effect, ends, flag_row, handshake_row, ignores, line_row, move_row, offer_row, setup_done, silence_row, turn_row}
use Rattle.chess_match.specs.Events.{Event, Line, Opened, Silent}
use Rattle.chess_match.specs.{Rules.Rules, Rules.has_bare_king, declared.reason.MatchFault.MatchFault, declared.reason.MatchFault.TheVariants.Ended, declared.reason.MatchFault.TheVariants.Read, declared.reason.MatchFault.TheVariants.Write, declared.reason.Reason.Reason, laws.Laws.line_kind, laws.Laws.match_after}
use Rattle.chess_match.specs.declared.reason.Reason.TheVariants.{Claimed, ClaimsFalsely, Faulted, Forfeits, ForfeitsToBareKing, GameTooLong, RejectsLegalMove}
use Rattle.chess_match.specs.declared.reason.Reason.TheVariants as over_by
use Rattle.chess_match_laws.specs.OfActs.{EndsOverstepped, InEachMatch, OverstepsTime, TimeForfeitsAreShown, only_sends, shows_fallen}
use Rattle.chess_match.proofs.shared.MatchCases.{both_not, by_acts, by_cases, on_when_read}
use Rattle.chess_match_laws.proofs.Points.{Stays, by_points, whole}

-- whether a match that ended for this reason was lost, or drawn, on time
abbrev is_forfeit : Reason → Bool
is_forfeit (Forfeits c) = true
is_forfeit ForfeitsToBareKing = true
is_forfeit _ = false

-- whether in this phase a match is over on time
abbrev forfeited : Phase → Bool
forfeited (Over reason) = is_forfeit reason
forfeited _ = false

-- whether at this moment the side that is to move in this phase has used more than it had left
abbrev is_late : Rules → Match → Phase → ℕ → Bool
is_late r m (BeforeMove side opened) moment = nat_lt (clock r m side) (moment - opened)
is_late r m _ moment = false

-- ---- nothing else is such an end

-- a line that comes in time ends no match on time: an ignored one, and by the next lemmas each other kind
ignored : (r : Rules) (S : Colour) (m : Match) → forfeited m.phase ≡ false
    → forfeited (ignores r S m).after.phase ≡ false
ignored r S m h1 = grind arith

offered : (r : Rules) (S : Colour) (m : Match) → forfeited m.phase ≡ false
    → forfeited (offer_row r S m).after.phase ≡ false
offered r S m h = grind (arith, ignored r S m h)

in_turn : (r : Rules) (S : Colour) (kind : LineKind) (m : Match) → forfeited m.phase ≡ false
    → forfeited (turn_row r S kind m).after.phase ≡ false
in_turn r S Resigns m h = refl
in_turn r S OffersDraw m h = offered r S m h
in_turn r S ClaimsDraw m h = at (draw_claim (claims r.start m.played))
  where
    at : (claim : Option DrawClaim)
        → forfeited (option_map_or (λ c. ends r (Claimed c) m) claim (offer_row r S m)).after.phase ≡ false
    at (Some c) = refl
    at None = offered r S m h
in_turn r S (ClaimsWin c) m h = at (same_colour c S)
  where
    at : (b : Bool) → is_forfeit (if b then ClaimsFalsely S else over_by.Resigns S) ≡ false
    at true = refl
    at false = refl
in_turn r S Rejects m h = at (nat_lt 0 (length (m.seat (other S)).used))
  where
    at : (b : Bool)
        → forfeited (if b then ends r (RejectsLegalMove S) m else ignores r S m).after.phase ≡ false
    at true = refl
    at false = ignored r S m h
in_turn r S _ m h = ignored r S m h

at_move : (r : Rules) (S : Colour) (used : ℕ) (read : Reading) (m : Match) → forfeited m.phase ≡ false
    → forfeited (move_row r S used read m).after.phase ≡ false
at_move r S used read m h1 = grind arith

to_move : (r : Rules) (S : Colour) (used : ℕ) (kind : LineKind) (m : Match) → forfeited m.phase ≡ false
    → forfeited (before_move r S used kind m).after.phase ≡ false
to_move r S used (Moves text) m h = at (nat_le r.limit (length m.played))
  where
    read : Reading
    read = reading (position_after r.start m.played) text

    at : (b : Bool) → forfeited (if b then ends r GameTooLong m else move_row r S used read m).after.phase ≡ false
    at true = refl
    at false = at_move r S used read m h
to_move r S used kind m h = in_turn r S kind m h

shaken : (r : Rules) (S : Colour) (items : List Item) (m : Match) → forfeited m.phase ≡ false
    → forfeited (handshake_row r S items m).after.phase ≡ false
shaken r S items m h1 = grind arith

set_up : (r : Rules) (S : Colour) (m : Match) → forfeited (setup_done r S m).after.phase ≡ false
set_up r S m = grind arith

-- any line that comes in time
line_timely : (r : Rules) (kind : LineKind) (moment : ℕ) (m : Match) (p : Phase) → forfeited m.phase ≡ false
    → is_late r m p moment ≡ false → forfeited (line_row r p kind moment m).after.phase ≡ false
line_timely r kind moment m (Handshake S) h timely = at kind
  where
    at : (k : LineKind) → forfeited (line_row r (Handshake S) k moment m).after.phase ≡ false
    at (Features text) = shaken r S (items_of text) (awaited_since moment m) h
    at _ = shaken r S [] m h
line_timely r kind moment m (Setup S) h timely =
    grind (arith, set_up r S (awaited_since moment m), ignored r S m h)
line_timely r kind moment m (BeforeMove S opened) h timely =
    rw timely (to_move r S (moment - opened) kind (awaited_since moment m) h)
line_timely r kind moment m (AfterMove S) h timely = grind (arith, in_turn r S kind m h, ignored r S m h)
line_timely r kind moment m (Opening S) h timely = h
line_timely r kind moment m (Over reason) h timely = h

-- a silence while there is time
silence_timely : (r : Rules) (S : Colour) (moment : ℕ) (m : Match) (p : Phase) → awaits_line p S ≡ true
    → forfeited m.phase ≡ false → is_late r m p moment ≡ false
    → forfeited (silence_row r p S moment m).after.phase ≡ false
silence_timely r S moment m p h1 h2 h3 = grind arith

-- ---- such an end

-- in a turn of which the time is over, a line or a silence is the end on time of this side
late_line : (r : Rules) (S side : Colour) (opened moment : ℕ) (kind : LineKind) (m : Match) → side ≡ S
    → nat_lt (clock r m S) (moment - opened) ≡ true
    → line_row r (BeforeMove side opened) kind moment m ≡ flag_row r S m
late_line r S side opened moment kind m e late =
    subst (λ (x : Colour). line_row r (BeforeMove x opened) kind moment m ≡ flag_row r S m) (sym e) (rw late refl)

-- in a turn of which the time is over, a silence is the end on time of this side
late_silence : (r : Rules) (S c side : Colour) (opened moment : ℕ) (m : Match) → c ≡ S
    → nat_lt (clock r m S) (moment - opened) ≡ true
    → silence_row r (BeforeMove side opened) c moment m ≡ flag_row r S m
late_silence r S c side opened moment m e late =
    subst (λ (x : Colour). silence_row r (BeforeMove side opened) x moment m ≡ flag_row r S m) (sym e) (rw late refl)

-- the end on time of the side S
abbrev EndsOnTime : Rules → Colour → Match → Type 0
EndsOnTime r S final =
    final.phase ≡ Over (if has_bare_king (other S) (position_after r.start final.played).men then ForfeitsToBareKing
    else Forfeits S)

-- the fall of the flag of S is such an end
flag_ends : (r : Rules) (S : Colour) (m final : Match) (e : Effect) → e ≡ flag_row r S m → final ≡ e.after
    → EndsOnTime r S final
flag_ends r S m final e is same =
    subst (λ (n : Match). EndsOnTime r S n) (sym (same ∙ ap (λ (x : Effect). x.after) is)) refl

-- a match that is over stays as it is
over_stays : (r : Rules) (m final : Match) (due : List Block) (H : List Act) → IsMatchFrom r m due H final
    → is_over m.phase ≡ true → final ≡ m
over_stays r m final due H g = by_cases r final (λ m due H. is_over m.phase ≡ true → final ≡ m) (record {
  sends = λ m end b due H p. p;
  fails = λ m end b due H on p o. both_not (is_over m.phase) on o;
  fails_late = λ m end b due H over p. p;
  reads = λ m end S t n H aw p o. both_not (is_over m.phase) (on_when_read m.phase S aw) o;
  opens = λ m end S n H opening p o. both_not (is_over m.phase) (ap is_over opening) o;
  silent = λ m end S n H aw limited p o. both_not (is_over m.phase) (on_when_read m.phase S aw) o;
  ends = λ m end S H aw p o. both_not (is_over m.phase) (on_when_read m.phase S aw) o;
  read_fails = λ m end S H aw p o. both_not (is_over m.phase) (on_when_read m.phase S aw) o;
}) (λ o x. refl) m due H g

-- whether by this act a line was found, or none yet
abbrev is_look : Act → Bool
is_look (Happens (Line c t k)) = true
is_look (Happens (Silent c k)) = true
is_look _ = false

-- ---- who oversteps its time loses

module _ (r : Rules) (S : Colour) (final : Match) where
  -- a line that shows the flag of S fallen
  by_line : (m : Match) (c : Colour) (t : Option (List ℕ)) (k : ℕ) (due : List Block) (after : List Act)
      → IsMatchFrom r (effect r m (Line c t k)).after due after final → (p : Phase) → m.phase ≡ p
      → shows_fallen r m p S (Happens (Line c t k)) ≡ true → EndsOnTime r S final
  by_line m c t k due after g (BeforeMove side opened) e h =
      let (own, late) = and_parts (same_colour side S) (nat_lt (clock r m S) (k - opened)) h in
      let is : effect r m (Line c t k) ≡ flag_row r S m =
      ap (λ (q : Phase). line_row r q (line_kind t) k m) e
      ∙ late_line r S side opened k (line_kind t) m (same_colour-true side S own) late in
      flag_ends r S m final (effect r m (Line c t k)) is
      (over_stays r (effect r m (Line c t k)).after final due after g (ap (λ (x : Effect). is_over x.after.phase) is))
  by_line m c t k due after g p e h = absurd cc

  -- a silence that does
  by_silence : (m : Match) (c : Colour) (k : ℕ) (due : List Block) (after : List Act) → awaits_line m.phase c ≡ true
      → IsMatchFrom r (effect r m (Silent c k)).after due after final → (p : Phase) → m.phase ≡ p
      → shows_fallen r m p S (Happens (Silent c k)) ≡ true → EndsOnTime r S final
  by_silence m c k due after aw g (BeforeMove side opened) e h =
      let (own, late) = and_parts (same_colour side S) (nat_lt (clock r m S) (k - opened)) h in
      let here : same_colour side c ≡ true = sym (ap (λ (q : Phase). awaits_line q c) e) ∙ aw in
      let is : effect r m (Silent c k) ≡ flag_row r S m =
      ap (λ (q : Phase). silence_row r q c k m) e
      ∙ late_silence r S c side opened k m (sym (same_colour-true side c here) ∙ same_colour-true side S own) late in
      flag_ends r S m final (effect r m (Silent c k)) is
      (over_stays r (effect r m (Silent c k)).after final due after g (ap (λ (x : Effect). is_over x.after.phase) is))
  by_silence m c k due after aw g p e h = absurd cc

  -- no other act shows a flag fallen
  none_shown : (m : Match) (p : Phase) (act : Act) → is_look act ≡ false → shows_fallen r m p S act ≡ false
  none_shown m p act h1 = grind arith

  -- an act that shows the flag fallen ends the match on time
  ends_by : (m : Match) (due : List Block) (act : Act) (after : List Act)
      → IsMatchFrom r m due (act ∷ after) final → shows_fallen r m m.phase S act ≡ true → EndsOnTime r S final
  ends_by m [] (Happens (Line c t k)) after (aw, g) h = by_line m c t k _ after g m.phase refl h
  ends_by m [] (Happens (Silent c k)) after (may, g) h = by_silence m c k _ after
      (and_parts (awaits_line m.phase c) (is_limited r.patience m.phase) may).0 g m.phase refl h
  ends_by m (b ∷ due) (Happens e) after g h = absurd g
  ends_by m due act after g h = both_not (shows_fallen r m m.phase S act) (none_shown m m.phase act refl) h

  -- a side that oversteps its time loses, or draws, on time
  overstepped : (H : List Act) → IsMatch r H final → OverstepsTime r H S → EndsOnTime r S final
  overstepped H g (before, act, after, e, shown) = by_acts r
      (λ m due K n. shows_fallen r n n.phase S act ≡ true → EndsOnTime r S final) (record {
        sends = λ m n b due K p. p;
        fails = λ m n b due K on p. p;
        fails_late = λ m n b due K over p. p;
        reads = λ m n c t k K aw p. p;
        opens = λ m n c k K opening p. p;
        silent = λ m n c k K aw limited p. p;
        ends = λ m n c K aw p. p;
        read_fails = λ m n c K aw p. p;
      }) (act ∷ after) final (λ m due g h. ends_by m due act after g h) beginning.after
      (blocks_from White beginning.to) before (subst (λ (K : List Act). IsMatch r K final) e g) shown

-- ---- who loses on time oversteps it

-- one of these acts, after which only blocks are sent, shows the flag of S fallen; the match is `m` before them
abbrev OverstepsFrom : Rules → Match → List Act → Colour → Type 0
OverstepsFrom r m H S = (before : List Act) × (act : Act) × (after : List Act) × (H ≡ before ++ act ∷ after)
    × (only_sends after ≡ true) × (let n = match_after r m before in shows_fallen r n n.phase S act ≡ true)

-- some side, the one that lost if one did, overstepped its time
abbrev Overstepped : Rules → Match → List Act → Reason → Type 0
Overstepped r m H reason =
    (S : Colour) × ((c : Colour) → reason ≡ Forfeits c → S ≡ c) × OverstepsFrom r m H S

module _ (r : Rules) (reason : Reason) (is : is_forfeit reason ≡ true) where
  -- a match that is not over on time, and is later over for this reason, has an act that shows it
  abbrev Shows : Match → List Act → Match → Type 0
  Shows m H n = forfeited m.phase ≡ false → n.phase ≡ Over reason → Overstepped r m H reason

  -- a match that is not over on time is not over for this reason
  no_forfeit : {A : Type 0} (n : Match) → forfeited n.phase ≡ false → n.phase ≡ Over reason → A
  no_forfeit n on o = both_not (forfeited n.phase) on (ap forfeited o ∙ is)

  -- a fault is no end on time
  faulted : {A : Type 0} (c : Colour) (f : MatchFault) (m n : Match) → n ≡ (ends r (Faulted c f) m).after
      → n.phase ≡ Over reason → A
  faulted c f m n same o = no_forfeit n (ap (λ (x : Match). forfeited x.phase) same) o

  -- the side of a flag that fell is the one that lost
  who_lost : (S : Colour) (m n : Match) → n ≡ (flag_row r S m).after → n.phase ≡ Over reason → (c : Colour)
      → reason ≡ Forfeits c → S ≡ c
  who_lost S m n same o c lost = at (has_bare_king (other S) (position_after r.start m.played).men)
      (sym (ap (λ (x : Match). x.phase) same) ∙ o ∙ ap Over lost)
    where
      at : (bare : Bool) → Over (if bare then ForfeitsToBareKing else Forfeits S) ≡ Over (Forfeits c) → S ≡ c
      at true e = cc
      at false e = cc

  -- the event `e` shows the flag of S fallen
  now : (m n : Match) (S : Colour) (e : Event) (H : List Act) → effect r m e ≡ flag_row r S m
      → Stays (effect r m e).after H n → shows_fallen r m m.phase S (Happens e) ≡ true → n.phase ≡ Over reason
      → Overstepped r m (Happens e ∷ H) reason
  now m n S e H flag stays shown o =
      let over : is_over (effect r m e).after.phase ≡ true = ap (λ (x : Effect). is_over x.after.phase) flag in (
        S,
        who_lost S m n ((stays over).0 ∙ ap (λ (x : Effect). x.after) flag) o,
        ([], Happens e, H, refl, (stays over).1, shown),
      )

  -- a later act than the first shows it
  later : (m m' : Match) (a : Act) (H : List Act)
      → ((before : List Act) → match_after r m (a ∷ before) ≡ match_after r m' before)
      → Overstepped r m' H reason → Overstepped r m (a ∷ H) reason
  later m m' a H goes (S, who, (before, act, after, e, only, shown)) = (
    S,
    who,
    (
      a ∷ before,
      act,
      after,
      ap (λ (l : List Act). a ∷ l) e,
      only,
      subst (λ (n : Match). shows_fallen r n n.phase S act ≡ true) (sym (goes before)) shown,
    ),
  )

  -- a line shows the flag fallen, or a later act does
  line_shows : (m n : Match) (c : Colour) (t : Option (List ℕ)) (k : ℕ) (H : List Act) → awaits_line m.phase c ≡ true
      → Stays (effect r m (Line c t k)).after H n → Shows (effect r m (Line c t k)).after H n
      → Shows m (Happens (Line c t k) ∷ H) n
  line_shows m n c t k H aw stays p on o = at m.phase refl (is_late r m m.phase k) refl
    where
      at : (q : Phase) → m.phase ≡ q → (b : Bool) → is_late r m q k ≡ b
          → Overstepped r m (Happens (Line c t k) ∷ H) reason
      at (BeforeMove S opened) e true late = now m n S (Line c t k) H
          (ap (λ (q : Phase). line_row r q (line_kind t) k m) e
          ∙ late_line r S S opened k (line_kind t) m refl late) stays
          (ap (λ (q : Phase). shows_fallen r m q S (Happens (Line c t k))) e ∙ rw (same_colour-self S) late) o
      at q e false timely = later m (effect r m (Line c t k)).after (Happens (Line c t k)) H (λ before. refl)
          (p (line_timely r (line_kind t) k m m.phase on (ap (λ (x : Phase). is_late r m x k) e ∙ timely)) o)
      at q e true late = absurd cc

  -- a silence shows the flag fallen, or a later act does
  silence_shows : (m n : Match) (c : Colour) (k : ℕ) (H : List Act) → awaits_line m.phase c ≡ true
      → Stays (effect r m (Silent c k)).after H n → Shows (effect r m (Silent c k)).after H n
      → Shows m (Happens (Silent c k) ∷ H) n
  silence_shows m n c k H aw stays p on o = at m.phase refl (is_late r m m.phase k) refl
    where
      at : (q : Phase) → m.phase ≡ q → (b : Bool) → is_late r m q k ≡ b
          → Overstepped r m (Happens (Silent c k) ∷ H) reason
      at (BeforeMove S opened) e true late = now m n S (Silent c k) H
          (ap (λ (q : Phase). silence_row r q c k m) e
          ∙ late_silence r S c S opened k m
          (sym (same_colour-true S c (sym (ap (λ (q : Phase). awaits_line q c) e) ∙ aw))) late) stays
          (ap (λ (q : Phase). shows_fallen r m q S (Happens (Silent c k))) e ∙ rw (same_colour-self S) late) o
      at q e false timely = later m (effect r m (Silent c k)).after (Happens (Silent c k)) H (λ before. refl)
          (p (silence_timely r c k m m.phase aw on (ap (λ (x : Phase). is_late r m x k) e ∙ timely)) o)
      at q e true late = absurd cc

  -- in a whole match that ended on time some act shows it
  shown : (H : List Act) (final : Match) → IsMatch r H final → final.phase ≡ Over reason
      → Overstepped r beginning.after H reason
  shown H final g over =
      let (g', e) = whole r H final g in
      by_points r (λ m due H n. Shows m H n) (record {
        sends = λ m n b due K p on o. later m m (Sends b) K (λ before. refl) (p on o);
        fails = λ m n b due K on q only same p f o. faulted b.to Write m n same o;
        fails_late = λ m n b due K over only same p f o. no_forfeit n
            (ap (λ (x : Match). forfeited x.phase) same ∙ f) o;
        reads = λ m n c t k K aw q stays p. line_shows m n c t k K aw stays p;
        opens = λ m n c k K opening q p f o. later m (effect r m (Opened c k)).after (Happens (Opened c k)) K
            (λ before. refl) (p refl o);
        silent = λ m n c k K aw limited q stays p. silence_shows m n c k K aw stays p;
        output_ends = λ m n c K aw q only same p f o. faulted c Ended m n same o;
        read_fails = λ m n c K aw q only same p f o. faulted c Read m n same o;
      }) H [] final (λ m due q g f o. no_forfeit m f o) g' refl (ap (λ (x : Match). x.phase) e ∙ over)

pub time_forfeits_are_shown : InEachMatch TimeForfeitsAreShown
time_forfeits_are_shown r H final g = record {
  overstepped = λ S o. overstepped r S final H g o;
  lost = λ S e. let (c, who, o) = shown r (Forfeits S) refl H final g e in
      subst (λ (x : Colour). EndsOverstepped r H x) (who S refl) o;
  drawn = λ e. let (c, who, o) = shown r ForfeitsToBareKing refl H final g e in (c, o);
}
