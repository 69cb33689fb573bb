-- A draw is agreed by an offer of one side and then one of the other, which makes no move in between. By induction over
-- the acts, back from the end (`EndsAgreed`): before each act the first offer is open, or comes among the acts that
-- follow. For OfferedLaw, too: before the first turn no offer is open (`Fresh`), which each act keeps.
use Rattle.std.proofs.Common.{◌≡◌, ◌∙◌, ◌⊎◌, ℕ, ◌-◌, Bool, true, false, not, ◌&&◌, ◌||◌, List, [], ◌∷◌, ◌++◌, length, refl, sym, ap, subst, inl, inr, Option, Some, None, arith, if◌then◌else◌, nat_lt, nat_le, unwrap_or, ◌==◌}
use Rattle.std.specs.{List.list_any, Option.option_map_or}
use Rattle.std.proofs.lemmas.Bool.{and_parts, or_cases}
use Rattle.chess_base.specs.{declared.man.Colour.Colour, Men.other, Men.same_colour}
use Rattle.chess_base.proofs.shared.Men.{other-other, same_colour-true}
use Rattle.chess_game.specs.{Ends.verdict, Line.position_after, declared.verdicts.DrawClaim.DrawClaim, declared.verdicts.Verdict.Verdict}
use Rattle.cecp_engine.specs.EngineLines.{LineKind, Features, Moves, Resigns, OffersDraw, ClaimsDraw, ClaimsWin, Rejects, Answers, SaysElse}
use Rattle.chess_text.specs.{Moves.reading, declared.reading.Reading.Reading}
use Rattle.chess_text.specs.declared.reading.Reading.TheVariants as reads
use Rattle.chess_match.specs.Acts.{Act, Block, IsMatchFrom, Sends, Happens, awaits_line, is_over}
use Rattle.chess_match.specs.Effects.{Effect, Match, Phase, Handshake, Setup, Opening, BeforeMove, AfterMove, Over, awaited_since, before_move, beginning, begins_turn, clock, effect, ends, flag_row, ignores, line_row, move_row, moved, offer_row, ping_number, reply_row, sends_nothing, silence_row, turn_row}
use Rattle.chess_match.specs.{Events.Line, Events.Opened, Events.Silent, Rules.Rules, Rules.has_bare_king, declared.reason.Reason.Reason, declared.reason.MatchFault.MatchFault, laws.Laws.line_kind}
use Rattle.chess_match.specs.declared.reason.Reason.TheVariants.{Agreed, Faulted, Forfeits, ForfeitsToBareKing, GameTooLong}
use Rattle.chess_match.specs.declared.reason.MatchFault.TheVariants.{Ended, NoAnswer, NoHandshake, Read, Write}
use Rattle.chess_match.proofs.shared.LineCases.{draw_by_itself, in_turn, is_fault, line_cases, over_for, playing, said_by}
use Rattle.chess_match.proofs.shared.MatchCases.{both_not, on_when_read}
use Rattle.chess_match_laws.specs.{OfActs.InEachMatch, OfActs.only_sends, Streams.is_move}
use Rattle.chess_match_laws.specs.Rows.{AgreedDrawsAreOffered, IsAgreed, is_move_of, is_offer}
use Rattle.chess_match_laws.proofs.Points.{Stays, by_points, whole}

-- ---- a line

-- no turn has begun in this phase
abbrev pub is_early : Phase → Bool
is_early (Handshake c) = true
is_early (Setup c) = true
is_early _ = false

-- before the first turn nothing is offered
abbrev pub Fresh : Match → Type 0
Fresh m = is_early m.phase ≡ true → (O : Colour) → (m.seat O).offers ≡ false

-- after a line of C of this kind an offer of O is open: it was before, and the line is no move of the other side; or
-- the line is the offer
abbrev pub Open : Colour → Colour → LineKind → Match → Bool
Open O C kind m =
    (m.seat O).offers && not (same_colour C (other O) && is_move kind) || same_colour C O && is_offer kind

module _ (r : Rules) (O C : Colour) (m : Match) where
  -- after an offer of C, an offer of O that is open was open before, or is this one
  offered : (e : Effect) → e ≡ offer_row r C m → is_over e.after.phase ≡ false → (e.after.seat O).offers ≡ true
      → ((m.seat O).offers || same_colour C O) ≡ true
  offered e h1 h2 h3 = grind (arith, h1, h2, h3)

  -- after a line of C that is no move, an open offer is as `Open` says; by the next lemmas so after each line before
  -- the move and after it
  turn_open : (kind : LineKind) → is_move kind ≡ false → is_over (turn_row r C kind m).after.phase ≡ false
      → ((turn_row r C kind m).after.seat O).offers ≡ true → Open O C kind m ≡ true
  turn_open kind h1 h2 h3 = grind (arith, h1, h2, h3)

  -- a move of the other side ends its offer
  move_open : (used : ℕ) (read : Reading) → is_over (move_row r C used read m).after.phase ≡ false
      → ((move_row r C used read m).after.seat O).offers ≡ true
      → ((m.seat O).offers && not (same_colour C (other O))) ≡ true
  move_open used read h1 h2 = grind (arith, h1, h2)

  before_open : (used : ℕ) (kind : LineKind) → is_over (before_move r C used kind m).after.phase ≡ false
      → ((before_move r C used kind m).after.seat O).offers ≡ true → Open O C kind m ≡ true
  before_open used (Moves text) h1 h2 = at (nat_le r.limit (length m.played)) h1 h2
    where
      read : Reading
      read = reading (position_after r.start m.played) text

      at : (b : Bool) → is_over (if b then ends r GameTooLong m else move_row r C used read m).after.phase ≡ false
          → ((if b then ends r GameTooLong m else move_row r C used read m).after.seat O).offers ≡ true
          → Open O C (Moves text) m ≡ true
      at true k1 k2 = absurd (cc)
      at false k1 k2 = let e = move_open used read k1 k2 in grind (arith, e)
  before_open used (Features t) h1 h2 = turn_open (Features t) refl h1 h2
  before_open used Resigns h1 h2 = turn_open Resigns refl h1 h2
  before_open used OffersDraw h1 h2 = turn_open OffersDraw refl h1 h2
  before_open used ClaimsDraw h1 h2 = turn_open ClaimsDraw refl h1 h2
  before_open used (ClaimsWin c) h1 h2 = turn_open (ClaimsWin c) refl h1 h2
  before_open used Rejects h1 h2 = turn_open Rejects refl h1 h2
  before_open used (Answers n) h1 h2 = turn_open (Answers n) refl h1 h2
  before_open used SaysElse h1 h2 = turn_open SaysElse refl h1 h2

  after_open : (kind : LineKind) (moment : ℕ) → is_over (line_row r (AfterMove C) kind moment m).after.phase ≡ false
      → ((line_row r (AfterMove C) kind moment m).after.seat O).offers ≡ true → Open O C kind m ≡ true
  after_open (Moves text) moment h1 h2 = absurd (cc)
  after_open (Answers n) moment h1 h2 = grind (arith, h1, h2)
  after_open (Features t) moment h1 h2 = turn_open (Features t) refl h1 h2
  after_open Resigns moment h1 h2 = turn_open Resigns refl h1 h2
  after_open OffersDraw moment h1 h2 = turn_open OffersDraw refl h1 h2
  after_open ClaimsDraw moment h1 h2 = turn_open ClaimsDraw refl h1 h2
  after_open (ClaimsWin c) moment h1 h2 = turn_open (ClaimsWin c) refl h1 h2
  after_open Rejects moment h1 h2 = turn_open Rejects refl h1 h2
  after_open SaysElse moment h1 h2 = turn_open SaysElse refl h1 h2

  -- a line of C that is no move, and by which the draw is agreed, is an offer while the other side's is open; the same
  -- of any line by the next lemmas
  turn_agreed : (kind : LineKind) → is_move kind ≡ false → (turn_row r C kind m).after.phase ≡ Over Agreed
      → is_over m.phase ≡ false → ((m.seat (other C)).offers && is_offer kind) ≡ true
  turn_agreed kind h1 h2 h3 = grind (arith, h1, h2, h3)

  -- by a move no draw is agreed
  no_move_agreed : {A : Type 0} (used : ℕ) (read : Reading) → (move_row r C used read m).after.phase ≡ Over Agreed → A
  no_move_agreed used reads.Ambiguous h = absurd (cc)
  no_move_agreed used reads.NoSuch h = absurd (cc)
  no_move_agreed used reads.NotAMove h = absurd (cc)
  no_move_agreed {A} used (reads.Move move) h =
      at (verdict r.start (m.played ++ move ∷ [])) (draw_by_itself r (m.played ++ move ∷ [])) h
    where
      n : Match
      n = moved C move used m

      at : (v : Option Verdict) (d : Option DrawClaim)
          → (option_map_or (λ reason. ends r reason n) (over_for v d) (playing C move used m)).after.phase ≡ Over Agreed
          → A
      at None None k = absurd (cc)
      at None (Some claim) k = absurd (cc)
      at (Some v) d k = absurd (cc)

  before_agreed : (used : ℕ) (kind : LineKind) → (before_move r C used kind m).after.phase ≡ Over Agreed
      → is_over m.phase ≡ false → ((m.seat (other C)).offers && is_offer kind) ≡ true
  before_agreed used (Moves text) h on = at (nat_le r.limit (length m.played)) h
    where
      read : Reading
      read = reading (position_after r.start m.played) text

      at : (b : Bool) → (if b then ends r GameTooLong m else move_row r C used read m).after.phase ≡ Over Agreed
          → ((m.seat (other C)).offers && false) ≡ true
      at true k = absurd (cc)
      at false k = no_move_agreed used read k
  before_agreed used (Features t) h on = turn_agreed (Features t) refl h on
  before_agreed used Resigns h on = turn_agreed Resigns refl h on
  before_agreed used OffersDraw h on = turn_agreed OffersDraw refl h on
  before_agreed used ClaimsDraw h on = turn_agreed ClaimsDraw refl h on
  before_agreed used (ClaimsWin c) h on = turn_agreed (ClaimsWin c) refl h on
  before_agreed used Rejects h on = turn_agreed Rejects refl h on
  before_agreed used (Answers n) h on = turn_agreed (Answers n) refl h on
  before_agreed used SaysElse h on = turn_agreed SaysElse refl h on

  after_agreed : (kind : LineKind) (moment : ℕ) → (line_row r (AfterMove C) kind moment m).after.phase ≡ Over Agreed
      → is_over m.phase ≡ false → ((m.seat (other C)).offers && is_offer kind) ≡ true
  after_agreed (Moves text) moment h on = absurd (cc)
  after_agreed (Answers n) moment h on = at (n == ping_number m C) h
    where
      at : (b : Bool) → (if b then begins_turn r (other C) m else ignores r C m).after.phase ≡ Over Agreed
          → ((m.seat (other C)).offers && false) ≡ true
      at true k = absurd (cc)
      at false k = turn_agreed SaysElse refl k on
  after_agreed (Features t) moment h on = turn_agreed (Features t) refl h on
  after_agreed Resigns moment h on = turn_agreed Resigns refl h on
  after_agreed OffersDraw moment h on = turn_agreed OffersDraw refl h on
  after_agreed ClaimsDraw moment h on = turn_agreed ClaimsDraw refl h on
  after_agreed (ClaimsWin c) moment h on = turn_agreed (ClaimsWin c) refl h on
  after_agreed Rejects moment h on = turn_agreed Rejects refl h on
  after_agreed SaysElse moment h on = turn_agreed SaysElse refl h on

-- ---- before the first turn

-- no phase is both before the first turn and in one
not_both : {A : Type 0} (p : Phase) → is_early p ≡ true → in_turn p ≡ true → A
not_both (Handshake c) early on = absurd (cc)
not_both (Setup c) early on = absurd (cc)
not_both (Opening c) early on = absurd (cc)
not_both (BeforeMove c opened) early on = absurd (cc)
not_both (AfterMove c) early on = absurd (cc)
not_both (Over reason) early on = absurd (cc)

-- a fault is no agreement
no_fault_agreed : {A : Type 0} (reason : Reason) → is_fault reason ≡ true → Over reason ≡ Over Agreed → A
no_fault_agreed (Faulted c f) is e = absurd (cc)
no_fault_agreed Agreed is e = absurd (cc)
no_fault_agreed _ is e = absurd (cc)

-- the items of a line open no offer
pub said_offers : (C O : Colour) (kind : LineKind) (m : Match) → ((said_by C kind m).seat O).offers ≡ (m.seat O).offers
said_offers C O kind m = grind arith

early_in_turn : (p : Phase) → is_early p ≡ true → in_turn p ≡ false
early_in_turn (Handshake c) early = refl
early_in_turn (Setup c) early = refl
early_in_turn (Opening c) early = absurd (cc)
early_in_turn (BeforeMove c opened) early = absurd (cc)
early_in_turn (AfterMove c) early = absurd (cc)
early_in_turn (Over reason) early = absurd (cc)

-- before the first turn a line opens no offer, and agrees to none
early_line : (r : Rules) (C O : Colour) (kind : LineKind) (moment : ℕ) (m : Match) → awaits_line m.phase C ≡ true
    → is_early m.phase ≡ true → (m.seat O).offers ≡ false
    → (((line_row r m.phase kind moment m).after.seat O).offers ≡ false)
    × ((line_row r m.phase kind moment m).after.phase ≡ Over Agreed → ⊥)
early_line r C O kind moment m aw early none =
    line_cases r C kind moment m (λ e. ((e.after.seat O).offers ≡ false) × (e.after.phase ≡ Over Agreed → ⊥)) aw
    (λ since. record {
      handshake_stops = λ p reason k most w. (
        said_offers C O kind m ∙ none,
        λ e. no_fault_agreed reason (w.3 (early_in_turn m.phase early)) e,
      );
      handshake_counts = λ p d few. (said_offers C O kind m ∙ none, λ e. never p e);
      handshake_next = λ p s d. (said_offers C O kind m ∙ none, λ e. absurd (cc));
      handshake_last = λ p s d. (said_offers C O kind m ∙ none, λ e. absurd (cc));
      setup_counts = λ p pong few. (none, λ e. never p e);
      setup_next = λ p s pong. (none, λ e. absurd (cc));
      setup_last = λ p s pong v d. (none, λ e. absurd (cc));
      setup_draws = λ p claim v d. (none, λ e. absurd (cc));
      setup_decides = λ p v e. (none, λ f. absurd (cc));
      stops = λ done reason w. (none, λ e. no_fault_agreed reason (w.3 (early_in_turn m.phase early)) e);
      counts = λ on said few. not_both m.phase early on;
      offers = λ on said own. not_both m.phase early on;
      plays = λ text move opened is p read room timely v d. not_both m.phase early (ap in_turn p);
      draws = λ text move opened claim is p read room timely v d. not_both m.phase early (ap in_turn p);
      decides = λ text move opened v is p read room timely e. not_both m.phase early (ap in_turn p);
      passes = λ p said. not_both m.phase early (ap in_turn p);
    })
  where
    never : {p : Phase} → m.phase ≡ p → m.phase ≡ Over Agreed → ⊥
    never p e = at m.phase early e
      where
        at : (q : Phase) → is_early q ≡ true → q ≡ Over Agreed → ⊥
        at (Handshake c) is k = absurd (cc)
        at (Setup c) is k = absurd (cc)
        at (Opening c) is k = absurd (cc)
        at (BeforeMove c opened) is k = absurd (cc)
        at (AfterMove c) is k = absurd (cc)
        at (Over reason) is k = absurd (cc)

-- ---- any line

-- after any line of C, an open offer of O is as `Open` says
pub line_open : (r : Rules) (O C : Colour) (kind : LineKind) (moment : ℕ) (m : Match) → Fresh m
    → awaits_line m.phase C ≡ true → is_over (line_row r m.phase kind moment m).after.phase ≡ false
    → ((line_row r m.phase kind moment m).after.seat O).offers ≡ true → Open O C kind m ≡ true
line_open r O C kind moment m fresh aw on still = at m.phase refl aw on still
  where
    early : (is_early m.phase ≡ true) → Open O C kind m ≡ true
    early e = absurd (let is : false ≡ true = sym (early_line r C O kind moment m aw e (fresh e O)).0 ∙ still in cc)

    at : (p : Phase) → m.phase ≡ p → awaits_line p C ≡ true → is_over (line_row r p kind moment m).after.phase ≡ false
        → ((line_row r p kind moment m).after.seat O).offers ≡ true → Open O C kind m ≡ true
    at (Handshake c) e a k h = early (ap is_early e)
    at (Setup c) e a k h = early (ap is_early e)
    at (Opening c) e a k h = absurd (cc)
    at (Over reason) e a k h = absurd (cc)
    at (AfterMove c) e a k h =
        let same = same_colour-true c C a in
        after_open r O C m kind moment
        (subst (λ x. is_over (line_row r (AfterMove x) kind moment m).after.phase ≡ false) same k)
        (subst (λ x. ((line_row r (AfterMove x) kind moment m).after.seat O).offers ≡ true) same h)
    at (BeforeMove c opened) e a k h =
        let same = same_colour-true c C a in
        by_flag (nat_lt (clock r m C) (moment - opened))
        (subst (λ x. is_over (line_row r (BeforeMove x opened) kind moment m).after.phase ≡ false) same k)
        (subst (λ x. ((line_row r (BeforeMove x opened) kind moment m).after.seat O).offers ≡ true) same h)
      where
        by_flag : (b : Bool) → is_over (if b then flag_row r C m
            else before_move r C (moment - opened) kind (awaited_since moment m)).after.phase ≡ false
            → ((if b then flag_row r C m
            else before_move r C (moment - opened) kind (awaited_since moment m)).after.seat O).offers ≡ true
            → Open O C kind m ≡ true
        by_flag true k h = absurd (cc)
        by_flag false k h = before_open r O C (awaited_since moment m) (moment - opened) kind k h

-- a line of C by which a draw is agreed answers an open offer of the other side
line_agreed : (r : Rules) (C : Colour) (kind : LineKind) (moment : ℕ) (m : Match) → Fresh m
    → awaits_line m.phase C ≡ true → (line_row r m.phase kind moment m).after.phase ≡ Over Agreed
    → ((m.seat (other C)).offers && is_offer kind) ≡ true
line_agreed r C kind moment m fresh aw over = at m.phase refl aw over
  where
    early : is_early m.phase ≡ true → ((m.seat (other C)).offers && is_offer kind) ≡ true
    early e = absurd ((early_line r C C kind moment m aw e (fresh e C)).1 over)

    at : (p : Phase) → m.phase ≡ p → awaits_line p C ≡ true → (line_row r p kind moment m).after.phase ≡ Over Agreed
        → ((m.seat (other C)).offers && is_offer kind) ≡ true
    at (Handshake c) e a k = early (ap is_early e)
    at (Setup c) e a k = early (ap is_early e)
    at (Opening c) e a k = absurd (cc)
    at (Over reason) e a k = absurd (cc)
    at (AfterMove c) e a k =
        after_agreed r C C m kind moment
        (subst (λ x. (line_row r (AfterMove x) kind moment m).after.phase ≡ Over Agreed) (same_colour-true c C a) k)
        (on_when_read m.phase C aw)
    at (BeforeMove c opened) e a k =
        by_flag (nat_lt (clock r m C) (moment - opened))
        (subst (λ x. (line_row r (BeforeMove x opened) kind moment m).after.phase ≡ Over Agreed) (same_colour-true c C a)
        k)
      where
        by_bare : (b : Bool) → Over (if b then ForfeitsToBareKing else Forfeits C) ≡ Over Agreed → ⊥
        by_bare true e = absurd (cc)
        by_bare false e = absurd (cc)

        by_flag : (b : Bool) → (if b then flag_row r C m
            else before_move r C (moment - opened) kind (awaited_since moment m)).after.phase ≡ Over Agreed
            → ((m.seat (other C)).offers && is_offer kind) ≡ true
        by_flag true k =
            absurd (by_bare (has_bare_king (other C) (position_after r.start m.played).men) k)
        by_flag false k =
            before_agreed r C C (awaited_since moment m) (moment - opened) kind k (on_when_read m.phase C aw)

-- ---- along the acts

-- this act is an offer of O
abbrev IsOfferOf : Colour → Act → Type 0
IsOfferOf O a = (text : Option (List ℕ)) × (moment : ℕ) × (a ≡ Happens (Line O text moment))
    × (is_offer (line_kind text) ≡ true)

-- among these acts the other side's offer comes, and then no move of S
abbrev Found : Colour → List Act → Type 0
Found S acts = (before : List Act) × (offer : Option (List ℕ)) × (moment : ℕ) × (between : List Act)
    × (acts ≡ before ++ Happens (Line (other S) offer moment) ∷ between) × (is_offer (line_kind offer) ≡ true)
    × (list_any (is_move_of S) between ≡ false)

-- the match that is `m` ends by agreement after these acts: the other side's offer is open, or comes among them
record EndsAgreed (m : Match) (H : List Act) : Type 0 where
  side : Colour
  middle : List Act
  answer : Option (List ℕ)
  moment : ℕ
  after : List Act
  acts : H ≡ middle ++ Happens (Line side answer moment) ∷ after
  answered : is_offer (line_kind answer) ≡ true
  last : only_sends after ≡ true
  found : (((m.seat (other side)).offers ≡ true) × (list_any (is_move_of side) middle ≡ false)) ⊎ Found side middle

-- one act more in front: an offer that is open after it was open before it, and the act is no move of the other side;
-- or the act is the offer
prepend : (a : Act) (m m' : Match) (H : List Act)
    → ((S : Colour) → (m'.seat (other S)).offers ≡ true
    → (((m.seat (other S)).offers ≡ true) × (is_move_of S a ≡ false)) ⊎ IsOfferOf (other S) a)
    → EndsAgreed m' H → EndsAgreed m (a ∷ H)
prepend a m m' H step d = record {
  side = d.side;
  middle = a ∷ d.middle;
  answer = d.answer;
  moment = d.moment;
  after = d.after;
  acts = ap (λ acts. a ∷ acts) d.acts;
  answered = d.answered;
  last = d.last;
  found = at d.found;
}
  where
    by_step : list_any (is_move_of d.side) d.middle ≡ false
        → (((m.seat (other d.side)).offers ≡ true) × (is_move_of d.side a ≡ false)) ⊎ IsOfferOf (other d.side) a
        → (((m.seat (other d.side)).offers ≡ true) × (list_any (is_move_of d.side) (a ∷ d.middle) ≡ false))
        ⊎ Found d.side (a ∷ d.middle)
    by_step none (inl (still, other_act)) =
        inl (still, ap (λ (b : Bool). b || list_any (is_move_of d.side) d.middle) other_act ∙ none)
    by_step none (inr (text, k, is, offer)) = inr (
      [],
      text,
      k,
      d.middle,
      ap (λ (x : Act). x ∷ d.middle) is,
      offer,
      none,
    )

    at : (((m'.seat (other d.side)).offers ≡ true) × (list_any (is_move_of d.side) d.middle ≡ false)) ⊎ Found d.side d.middle
        → (((m.seat (other d.side)).offers ≡ true) × (list_any (is_move_of d.side) (a ∷ d.middle) ≡ false))
        ⊎ Found d.side (a ∷ d.middle)
    at (inl (still, none)) = by_step none (step d.side still)
    at (inr (before, offer, k, between, is, offers, none)) =
        inr (a ∷ before, offer, k, between, ap (λ acts. a ∷ acts) is, offers, none)

-- an act that changes no offer
quiet : (a : Act) (m m' : Match) (H : List Act) → ((S : Colour) → is_move_of S a ≡ false)
    → ((S : Colour) → (m'.seat S).offers ≡ (m.seat S).offers) → EndsAgreed m' H → EndsAgreed m (a ∷ H)
quiet a m m' H unmoved same d =
    prepend a m m' H (λ S still. inl (sym (same (other S)) ∙ still, unmoved S)) d

not_true : (b : Bool) → not b ≡ true → b ≡ false
not_true true h = absurd (cc)
not_true false h = refl

-- a turn is no phase before the first turn
in_turn_late : (p : Phase) → in_turn p ≡ true → is_early p ≡ false
in_turn_late (Handshake c) on = absurd (cc)
in_turn_late (Setup c) on = absurd (cc)
in_turn_late (Opening c) on = refl
in_turn_late (BeforeMove c opened) on = refl
in_turn_late (AfterMove c) on = refl
in_turn_late (Over reason) on = refl

-- a line that is awaited, but not before the first turn, is one in a turn
read_in_turn : (p : Phase) (C : Colour) → awaits_line p C ≡ true → is_early p ≡ false → in_turn p ≡ true
read_in_turn (Handshake c) C aw late = absurd (cc)
read_in_turn (Setup c) C aw late = absurd (cc)
read_in_turn (Opening c) C aw late = absurd (cc)
read_in_turn (BeforeMove c opened) C aw late = refl
read_in_turn (AfterMove c) C aw late = refl
read_in_turn (Over reason) C aw late = absurd (cc)

module _ (r : Rules) where
  -- a match that is on, and after the acts `H` is over by agreement, ends so
  abbrev Agrees : Match → List Act → Match → Type 0
  Agrees m H n = Fresh m → is_over m.phase ≡ false → n.phase ≡ Over Agreed → EndsAgreed m H

  -- a match that ended by a fault was not agreed
  by_fault : {A : Type 0} (c : Colour) (f : MatchFault) (n m : Match) → n ≡ (ends r (Faulted c f) m).after
      → n.phase ≡ Over Agreed → A
  by_fault c f n m e o = absurd (let both : Over (Faulted c f) ≡ Over Agreed = sym (ap (λ (x : Match). x.phase) e) ∙ o in cc)

  -- any line keeps `Fresh`
  pub line_fresh : (C : Colour) (kind : LineKind) (moment : ℕ) (m : Match) → awaits_line m.phase C ≡ true → Fresh m
      → Fresh (line_row r m.phase kind moment m).after
  line_fresh C kind moment m aw fresh = by_early (is_early m.phase) refl
    where
      turn : in_turn m.phase ≡ true → (e : Effect) → e ≡ line_row r m.phase kind moment m → is_early e.after.phase ≡ false
      turn on e is = subst (λ (x : Effect). is_early x.after.phase ≡ false) (sym is)
          (line_cases r C kind moment m (λ e. is_early e.after.phase ≡ false) aw (λ since. record {
            handshake_stops = λ p reason k most w. refl;
            handshake_counts = λ p d few. absurd (let no : false ≡ true = sym (ap in_turn p) ∙ on in cc);
            handshake_next = λ p s d. absurd (let no : false ≡ true = sym (ap in_turn p) ∙ on in cc);
            handshake_last = λ p s d. absurd (let no : false ≡ true = sym (ap in_turn p) ∙ on in cc);
            setup_counts = λ p pong few. absurd (let no : false ≡ true = sym (ap in_turn p) ∙ on in cc);
            setup_next = λ p s pong. absurd (let no : false ≡ true = sym (ap in_turn p) ∙ on in cc);
            setup_last = λ p s pong v d. refl;
            setup_draws = λ p claim v d. refl;
            setup_decides = λ p v e. refl;
            stops = λ done reason w. refl;
            counts = λ on' said few. in_turn_late m.phase on;
            offers = λ on' said own. in_turn_late m.phase on;
            plays = λ text move opened is p read room timely v d. refl;
            draws = λ text move opened claim is p read room timely v d. refl;
            decides = λ text move opened v is p read room timely e. refl;
            passes = λ p said. refl;
          }))

      by_early : (b : Bool) → is_early m.phase ≡ b → Fresh (line_row r m.phase kind moment m).after
      by_early true e early O = (early_line r C O kind moment m aw e (fresh e O)).0
      by_early false e early O =
          absurd (let no : false ≡ true = sym (turn (read_in_turn m.phase C aw e) _ refl) ∙ early in cc)

  -- a line: it agrees to the draw, or a later one does
  line_agrees : (m n : Match) (c : Colour) (t : Option (List ℕ)) (k : ℕ) (H : List Act) → awaits_line m.phase c ≡ true
      → Fresh m → Stays (effect r m (Line c t k)).after H n → Agrees (effect r m (Line c t k)).after H n
      → n.phase ≡ Over Agreed → EndsAgreed m (Happens (Line c t k) ∷ H)
  line_agrees m n c t k H aw fresh stays p o = at (is_over (effect r m (Line c t k)).after.phase) refl
    where
      m' : Match
      m' = (effect r m (Line c t k)).after

      stepped : is_over m'.phase ≡ false → (S : Colour) → (m'.seat (other S)).offers ≡ true
          → (((m.seat (other S)).offers ≡ true) × (is_move_of S (Happens (Line c t k)) ≡ false))
          ⊎ IsOfferOf (other S) (Happens (Line c t k))
      stepped on S still =
          cases (or_cases _ _ (line_open r (other S) c (line_kind t) k m fresh aw on still))
        where
          cases : (((m.seat (other S)).offers && not (same_colour c (other (other S)) && is_move (line_kind t))) ≡ true)
              ⊎ ((same_colour c (other S) && is_offer (line_kind t)) ≡ true)
              → (((m.seat (other S)).offers ≡ true) × (is_move_of S (Happens (Line c t k)) ≡ false))
              ⊎ IsOfferOf (other S) (Happens (Line c t k))
          cases (inl e) =
              let both = and_parts _ _ e in
              inl (
                both.0,
                ap (λ (x : Colour). same_colour c x && is_move (line_kind t)) (sym (other-other S))
                    ∙ not_true _ both.1,
              )
          cases (inr e) =
              let both = and_parts _ _ e in
              inr (t, k, ap (λ (x : Colour). Happens (Line x t k)) (same_colour-true c (other S) both.0), both.1)

      at : (b : Bool) → is_over m'.phase ≡ b → EndsAgreed m (Happens (Line c t k) ∷ H)
      at false on =
          prepend (Happens (Line c t k)) m m' H (stepped on) (p (line_fresh c (line_kind t) k m aw fresh) on o)
      at true over =
          let (same, only) = stays over in
          let is = and_parts _ _ (line_agreed r c (line_kind t) k m fresh aw (ap (λ (x : Match). x.phase) (sym same) ∙ o))
          in record {
            side = c;
            middle = [];
            answer = t;
            moment = k;
            after = H;
            acts = refl;
            answered = is.1;
            last = only;
            found = inl (is.0, refl);
          }

  -- what follows of the effect of a silence
  abbrev Follows : Match → Match → Colour → ℕ → List Act → Effect → Type 0
  Follows m n c k H e = Stays e.after H n → Agrees e.after H n → EndsAgreed m (Happens (Silent c k) ∷ H)

  -- a silence agrees to nothing
  silent_agrees : (m n : Match) (c : Colour) (k : ℕ) (H : List Act) → awaits_line m.phase c ≡ true
      → Fresh m → Stays (effect r m (Silent c k)).after H n → Agrees (effect r m (Silent c k)).after H n
      → n.phase ≡ Over Agreed → EndsAgreed m (Happens (Silent c k) ∷ H)
  silent_agrees m n c k H aw fresh stays p o =
      at m.phase refl aw stays p
    where
      on_as : (since : Option ℕ) → Follows m n c k H (sends_nothing (record m { since = since }))
      on_as since stays p =
          quiet (Happens (Silent c k)) m (record m { since = since }) H (λ S. refl) (λ S. refl)
          (p fresh (on_when_read m.phase c aw) o)

      ended : (reason : Reason) → (Over reason ≡ Over Agreed → ⊥) → Follows m n c k H (ends r reason m)
      ended reason not stays p =
          absurd (not (ap (λ (x : Match). x.phase) (sym (stays refl).0) ∙ o))

      replied : (fault : MatchFault) → Follows m n c k H (reply_row r c fault k m)
      replied fault = by_test (option_map_or (λ limit. nat_lt limit (k - unwrap_or m.since k)) r.patience.reply false)
        where
          by_test : (b : Bool) → Follows m n c k H (if b then ends r (Faulted c fault) m
              else sends_nothing (awaited_since (unwrap_or m.since k) m))
          by_test true = ended (Faulted c fault) (λ e. absurd (cc))
          by_test false = on_as (Some (unwrap_or m.since k))

      at : (q : Phase) → m.phase ≡ q → awaits_line q c ≡ true → Follows m n c k H (silence_row r q c k m)
      at (Handshake s) e a = replied NoHandshake
      at (Setup s) e a = replied NoAnswer
      at (AfterMove s) e a = replied NoAnswer
      at (Opening s) e a = absurd (cc)
      at (Over reason) e a = absurd (cc)
      at (BeforeMove s opened) e a = by_flag (nat_lt (clock r m c) (k - opened))
        where
          by_bare : (b : Bool) → Follows m n c k H (ends r (if b then ForfeitsToBareKing else Forfeits c) m)
          by_bare true = ended ForfeitsToBareKing (λ e. absurd (cc))
          by_bare false = ended (Forfeits c) (λ e. absurd (cc))

          by_flag : (b : Bool) → Follows m n c k H (if b then flag_row r c m else sends_nothing m)
          by_flag true = by_bare (has_bare_king (other c) (position_after r.start m.played).men)
          by_flag false = on_as m.since

pub agreed_draws_are_offered : InEachMatch AgreedDrawsAreOffered
agreed_draws_are_offered r H final g over =
    let (g', e) = whole r H final g in
    let d = by_points r (λ m due H n. Agrees r m H n) (record {
      sends = λ m n b due K p fresh on o. quiet (Sends b) m m K (λ S. refl) (λ S. refl) (p fresh on o);
      fails = λ m n b due K on q only same p fresh on' o. by_fault r b.to Write n m same o;
      fails_late = λ m n b due K o only same p fresh on. both_not (is_over m.phase) on o;
      reads = λ m n c t k K aw q stays p fresh on o. line_agrees r m n c t k K aw fresh stays p o;
      opens = λ m n c k K phase q p fresh on o. quiet (Happens (Opened c k)) m (record m { phase = BeforeMove c k }) K
          (λ S. refl) (λ S. refl) (p (λ early. absurd (cc)) refl o);
      silent = λ m n c k K aw limited q stays p fresh on o. silent_agrees r m n c k K aw fresh stays p o;
      output_ends = λ m n c K aw q only same p fresh on o. by_fault r c Ended n m same o;
      read_fails = λ m n c K aw q only same p fresh on o. by_fault r c Read n m same o;
    }) H [] final (λ m due q g fresh on o. at_end m due g on) g' (λ early O. refl) refl
    (ap (λ (x : Match). x.phase) e ∙ over) in agreed d
  where
    at_end : {A : Type 0} (m : Match) (due : List Block) → IsMatchFrom r m due [] final → is_over m.phase ≡ false → A
    at_end m [] (o, e) on = both_not (is_over m.phase) on o
    at_end m (b ∷ due) g on = absurd g

    agreed : EndsAgreed beginning.after H → IsAgreed H
    agreed d = by_found d.found
      where
        by_found : ((beginning.after.seat (other d.side)).offers ≡ true × (list_any (is_move_of d.side) d.middle ≡ false))
            ⊎ Found d.side d.middle → IsAgreed H
        by_found (inl (still, none)) = absurd (cc)
        by_found (inr (before, offer, k, between, is, offers, none)) = record {
          side = d.side;
          before = before;
          offer = offer;
          offered_at = k;
          between = between;
          answer = d.answer;
          answered_at = d.moment;
          after = d.after;
          acts = d.acts ∙ ap (λ acts. acts ++ Happens (Line d.side d.answer d.moment) ∷ d.after) is;
          offered = offers;
          answered = d.answered;
          no_move = none;
          last = d.last;
        }
