-- A log shows no moment at which a turn was opened, so a match is played again with no time used (`again`). An event
-- then does the same as in the match itself (Again), unless in the match a flag fell (Falls): line_again for lines,
-- silence_again for silences. When it ends the match, both sides are sent the end lines (Stops).
use Rattle.std.proofs.Common.{◌≡◌, ◌⊎◌, ℕ, ◌+◌, ◌-◌, Bool, true, false, List, [], ◌∷◌, ◌++◌, length, map, refl, ap, sym, ◌∙◌, subst, append_assoc, Option, None, Some, inl, inr, arith, if◌then◌else◌, nat_le, nat_lt, ◌==◌, codes, unwrap_or}
use Rattle.std.specs.{List.list_any, Option.option_map_or}
use Rattle.std.proofs.{lemmas.Bool.Decides.nat_tests, Math.Path.fun_ext, lemmas.List.length-map, lemmas.List.map-append}
use Rattle.chess_base.specs.{declared.man.Colour.Colour, declared.man.Colour.TheVariants.White, declared.man.Colour.TheVariants.Black, declared.man.Move.Move, Men.other, Men.same_colour, Options.list_if}
use Rattle.chess_game.specs.{declared.verdicts.Verdict.Verdict, declared.verdicts.DrawClaim.DrawClaim, Ends.verdict, Ends.claims, Ends.draw_claim, Line.position_after}
use Rattle.cecp_engine.specs.EngineLines.{LineKind, Features, Moves, Resigns, OffersDraw, ClaimsDraw, ClaimsWin, Rejects, Answers}
use Rattle.cecp_engine.specs.Items.{Item, ends_handshake, items_of}
use Rattle.chess_match.specs.Effects.{Match, Phase, Handshake, Setup, Opening, BeforeMove, AfterMove, Over, Effect, flag_row, before_move, clock, ends, handshake_done, handshake_row, ignores, is_owed_move, judged, awaited_since, line_row, reply_row, silence_row, missing, move_line, move_row, moved, offer_row, over_by_position, ping_number, sends_nothing, sends_to, setup_done, turn_row, with_seat, with_answers, answers_to}
use Rattle.chess_match.specs.{shared.Parts.farewell, Acts.awaits_line, Acts.is_over, Events.Seat, Rules.Rules, Rules.has_bare_king, declared.reason.MatchFault.MatchFault, declared.reason.Reason.Reason, Lines.SentLine, Lines.Says, Lines.ping, Reasons.is_write_fault_of, Reasons.reported_reason}
use Rattle.chess_text.specs.{declared.reading.Reading.Reading, Moves.reading}
use Rattle.chess_text.specs.declared.reading.Reading.TheVariants as reads
use Rattle.chess_match.specs.declared.reason.MatchFault.TheVariants.{Flood, NoAnswer, NoDone, NoHandshake}
use Rattle.chess_match.specs.declared.reason.Reason.TheVariants as over_by
use Rattle.chess_match.proofs.shared.LineCases.{draw_by_itself, over_for}
use Rattle.match_runner_laws.specs.ReadBack.{text_of_result}

-- ---- how a match ends

-- whether a match that ended for this reason ended because a flag fell
abbrev pub ends_by_flag : Reason → Bool
ends_by_flag (over_by.Forfeits S) = true
ends_by_flag over_by.ForfeitsToBareKing = true
ends_by_flag _ = false

-- the line of the result, and `quit`
abbrev pub last_lines : Reason → List SentLine
last_lines reason = Says (text_of_result reason) ∷ Says (codes "quit") ∷ []

-- the reason that is reported of the match `m`, if it ended for this reason
abbrev pub shown_reason : Rules → Match → Reason → Reason
shown_reason r m reason = reported_reason (verdict r.start m.played) reason

-- a match that ended for this reason, of which `shown` is reported: no write failed, and each side is sent the last
-- lines
pub record Stops (shown reason : Reason) (to : Colour → List SentLine) : Type 0 where
  pub written : (S : Colour) → is_write_fault_of reason S ≡ false
  pub last : (S : Colour) → (before : List SentLine) × (to S ≡ before ++ last_lines shown)

-- a match that ends for a reason that is no failed write sends both sides the end lines
stops_at : (r : Rules) (reason : Reason) (m : Match) → ((S : Colour) → is_write_fault_of reason S ≡ false)
    → Stops (shown_reason r m reason) reason (ends r reason m).to
stops_at r reason m w = record {
  written = w;
  last = λ S. (
    list_if (is_owed_move m.phase S) (move_line r m S ∷ []),
    ap (λ (b : Bool). if b then [] else farewell r m reason S) (w S),
  );
}

-- ---- no time is used

-- an engine's seat, with 0 for the time of each of its moves
abbrev zero : Seat → Seat
zero s = record s { used = map (λ u. 0) s.used }

-- what a match in this phase waits for once the lines that open a turn are sent, if that was at the moment 0
abbrev pub waits : Phase → Phase
waits (Opening S) = BeforeMove S 0
waits (BeforeMove S opened) = BeforeMove S 0
waits phase = phase

-- the match `m`, if its moves took no time and its turn was opened at the moment 0
abbrev pub again : Match → Match
again m = record m { phase = waits m.phase; seat = λ S. zero (m.seat S) }

-- the match `m`, if its turn was opened at the moment 0
abbrev pub opened : Match → Match
opened m = record m { phase = waits m.phase }

-- what a match in this phase waits for, if its turn was opened at this moment
abbrev reopened : ℕ → Phase → Phase
reopened k (BeforeMove S opened) = BeforeMove S k
reopened k phase = phase

-- the match `m`, if its turn was opened at the moment k
abbrev pub reopen : ℕ → Match → Match
reopen k m = record m { phase = reopened k m.phase }

-- the match `m`, if its moves took no time and its turn was opened at this moment
abbrev pub anew : ℕ → Match → Match
anew k m = reopen k (again m)

-- no flag fell, and no write failed
abbrev IsPlain : Reason → Type 0
IsPlain reason = (ends_by_flag reason ≡ false) × ((S : Colour) → is_write_fault_of reason S ≡ false)

-- what an event does (`done`) it also does where no time is used (`redone`). If it ends the match, no flag fell, and
-- the end lines are sent (`Stops`)
pub record Again (r : Rules) (done redone : Effect) : Type 0 where
  pub same : again done.after ≡ opened redone.after
  pub stops : (reason : Reason) → done.after.phase ≡ Over reason
      → (ends_by_flag reason ≡ false) × Stops (shown_reason r done.after reason) reason done.to

-- what ends the match without a flag or a failed write does so again
pub over_again : (r : Rules) (reason : Reason) (k : ℕ) (m : Match) → IsPlain reason
    → Again r (ends r reason m) (ends r reason (anew k m))
over_again r reason k m h = record {
  same = refl;
  stops = λ reason' e. let same : reason ≡ reason' = cc in
      subst (λ (x : Reason). (ends_by_flag x ≡ false) × Stops (shown_reason r m x) x (ends r reason m).to) same
      (h.0, stops_at r reason m h.1);
}

-- what leaves the match on is done again, if the matches after it agree
on_again : {r : Rules} (done redone : Effect) → again done.after ≡ opened redone.after
    → is_over done.after.phase ≡ false → Again r done redone
on_again done redone e on = record {
  same = e;
  stops = λ reason over. let no : false ≡ true = sym on ∙ ap is_over over in absurd cc;
}

-- what is done by a test b is done again, if that is so of both branches
test_again : {r : Rules} (b : Bool) (x x' y y' : Effect) → Again r x x' → Again r y y'
    → Again r (if b then x else y) (if b then x' else y')
test_again true x x' y y' h k = h
test_again false x x' y y' h k = k

-- the same match with other seats
with_seats : (m : Match) (f g : Colour → Seat) → ((S : Colour) → f S ≡ g S)
    → (let x : Match = record m { seat = f } in x) ≡ record m { seat = g }
with_seats m f g e = ap (λ (h : Colour → Seat). let x : Match = record m { seat = h } in x) (fun_ext e)

-- the count of handshake lines doesn't depend on times
counted_again : (k : ℕ) (m : Match) (n : ℕ)
    → again (record m { count = n }) ≡ opened (record (anew k m) { count = n })
counted_again k m n = grind arith

-- a change of a seat that has nothing to do with times
seated_again : (S : Colour) (change : Seat → Seat) (k : ℕ) (m : Match) → ((s : Seat) → zero (change s) ≡ change (zero s))
    → anew k (with_seat S change m) ≡ with_seat S change (anew k m)
seated_again S change k m e =
    with_seats (anew k m) (λ side. zero (if same_colour side S then change (m.seat side) else m.seat side))
    (λ side. if same_colour side S then change (zero (m.seat side)) else zero (m.seat side))
    (λ side. grind (arith, e (m.seat side)))

-- the match that has used no time is the same, whenever its turn was opened
opened_again : (k : ℕ) (m : Match) → again m ≡ opened (anew k m)
opened_again k m = grind arith

-- what an engine lacks is no write that failed
abbrev Lacks : Option MatchFault → Type 0
Lacks lack = (fault : MatchFault) → lack ≡ Some fault → (c O : Colour)
    → is_write_fault_of (over_by.Faulted c fault) O ≡ false

-- a feature that an engine lacks is such a fault
lacks : (r : Rules) (items : List Item) → Lacks (missing r items)
lacks r items fault h1 c O = grind arith

module _ (r : Rules) (S : Colour) (k : ℕ) (m : Match) (on : is_over m.phase ≡ false) where
  ignored : Again r (ignores r S m) (ignores r S (anew k m))
  ignored = test_again (nat_le 10000 (m.count + 1)) _ _ _ _ (over_again r (over_by.Faulted S Flood) k m (refl, λ c. refl))
      (on_again _ _ (counted_again k m (m.count + 1)) on)

  -- an offer of a draw: agreed if the other side offers too, passed over if this side has offered, otherwise noted
  offered : Again r (offer_row r S m) (offer_row r S (anew k m))
  offered = test_again (m.seat (other S)).offers _ _ _ _ (over_again r over_by.Agreed k m (refl, λ c. refl))
      (test_again (m.seat S).offers _ _ _ _ ignored
      (on_again _ _ (opened_again k (with_seat S (λ s. record s { offers = true }) m)
      ∙ ap opened (seated_again S (λ s. record s { offers = true }) k m (λ s. refl))) on))

  -- a line that is no move and no answer, by its kind: resigning, offering, claiming, rejecting, or anything else
  in_turn : (kind : LineKind) → Again r (turn_row r S kind m) (turn_row r S kind (anew k m))
  in_turn Resigns = over_again r (over_by.Resigns S) k m (refl, λ c. refl)
  in_turn OffersDraw = offered
  in_turn ClaimsDraw = at (draw_claim (claims r.start m.played))
    where
      at : (c : Option DrawClaim)
          → Again r (option_map_or (λ claim. ends r (over_by.Claimed claim) m) c (offer_row r S m))
          (option_map_or (λ claim. ends r (over_by.Claimed claim) (anew k m)) c (offer_row r S (anew k m)))
      at (Some c) = over_again r (over_by.Claimed c) k m (refl, λ c. refl)
      at None = offered
  in_turn (ClaimsWin winner) = at (same_colour winner S)
    where
      at : (b : Bool) → Again r (ends r (if b then over_by.ClaimsFalsely S else over_by.Resigns S) m)
          (ends r (if b then over_by.ClaimsFalsely S else over_by.Resigns S) (anew k m))
      at true = over_again r (over_by.ClaimsFalsely S) k m (refl, λ c. refl)
      at false = over_again r (over_by.Resigns S) k m (refl, λ c. refl)
  in_turn Rejects =
      rw (length-map {B = ℕ} (m.seat (other S)).used (λ u. 0))
      (test_again (nat_lt 0 (length (m.seat (other S)).used)) _ _ _ _ (over_again r (over_by.RejectsLegalMove S) k m (refl, λ c. refl)) ignored)
  in_turn _ = ignored

  -- the match after a move
  moved_again : (move : Move) (used : ℕ) → again (moved S move used m) ≡ moved S move 0 (anew k m)
  moved_again move used = with_seats (record (anew k m) { phase = AfterMove S; played = m.played ++ move ∷ [] })
      (λ side. zero ((moved S move used m).seat side)) (moved S move 0 (anew k m)).seat
      (λ side. grind (arith, map-append {B = ℕ} (λ u. 0) (m.seat side).used (used ∷ [])))

  -- the match is over by its position, or not
  unless_over_again : (v : Option Verdict) (d : Option DrawClaim) (n : Match) (done redone : Effect) → Again r done redone
      → Again r (option_map_or (λ reason. ends r reason n) (over_for v d) done)
      (option_map_or (λ reason. ends r reason (anew k n)) (over_for v d) redone)
  unless_over_again (Some v) d n done redone h = over_again r (over_by.Decided v) k n (refl, λ c. refl)
  unless_over_again None (Some claim) n done redone h = over_again r (over_by.Claimed claim) k n (refl, λ c. refl)
  unless_over_again None None n done redone h = h

  -- a line before this side's move, by its kind; `used`: the time that a move took, which is 0 when it is played again
  before : (used : ℕ) (kind : LineKind) → Again r (before_move r S used kind m) (before_move r S 0 kind (anew k m))
  before used (Moves t) = test_again (nat_le r.limit (length m.played)) _ _ _ _
      (over_again r over_by.GameTooLong k m (refl, λ c. refl))
      (at (reading (position_after r.start m.played) t))
    where
      illegal : Again r (ends r (over_by.MovesIllegally S) m) (ends r (over_by.MovesIllegally S) (anew k m))
      illegal = over_again r (over_by.MovesIllegally S) k m (refl, λ c. refl)

      at : (read : Reading) → Again r (move_row r S used read m) (move_row r S 0 read (anew k m))
      at reads.Ambiguous = illegal
      at reads.NoSuch = illegal
      at reads.NotAMove = illegal
      at (reads.Move move) =
          subst (λ (n : Match). Again r (move_row r S used (reads.Move move) m)
          (option_map_or (λ reason. ends r reason n) (over_by_position r (m.played ++ move ∷ []))
          (sends_to S (ping (ping_number n S) ∷ []) n)))
          (moved_again move used)
          (unless_over_again (verdict r.start (m.played ++ move ∷ [])) (draw_by_itself r (m.played ++ move ∷ []))
          (moved S move used m) _ _ (on_again _ _ refl refl))
  before used kind = in_turn kind

  -- a line after this side's move, up to its `pong`
  after : (kind : LineKind)
      → Again r (line_row r (AfterMove S) kind k m) (line_row r (AfterMove S) kind k (anew k m))
  after (Moves t) = over_again r (over_by.MovesOutOfTurn S) k m (refl, λ c. refl)
  after (Answers n) =
      rw (length-map {B = ℕ} (m.seat S).used (λ u. 0))
      (test_again (n == ping_number m S) _ _ _ _ (on_again _ _ refl refl) ignored)
  after kind = in_turn kind

  -- the answer that ends a side's setup: after White's Black is set up, after Black's the game begins or is over
  set_up : (side : Colour) → Again r (setup_done r side m) (setup_done r side (anew k m))
  set_up White = on_again _ _ refl refl
  set_up Black = unless_over_again (verdict r.start m.played) (draw_by_itself r m.played) m _ _ (on_again _ _ refl refl)

  -- a line of the handshake, with these items: it ends the handshake, is one line too many, or is counted
  handshake : (items : List Item) → Again r (handshake_row r S items m) (handshake_row r S items (anew k m))
  handshake items =
      subst (λ (n : Match). Again r (handshake_row r S items m)
      (with_answers S items (if list_any ends_handshake items then handshake_done r S n
      else if nat_le 1000 (m.count + 1) then ends r (over_by.Faulted S NoDone) n
      else sends_nothing (record n { count = m.count + 1 })))) (seated_again S added k m (λ s. refl))
      (at (list_any ends_handshake items) (nat_le 1000 (m.count + 1)))
    where
      added : Seat → Seat
      added s = record s { items = s.items ++ items }

      met : Match
      met = with_seat S added m

      faulted : (c : Colour) (fault : MatchFault) → ((O : Colour) → is_write_fault_of (over_by.Faulted c fault) O ≡ false)
          → Again r (ends r (over_by.Faulted c fault) (record met { count = 0 }))
          (ends r (over_by.Faulted c fault) (record (anew k met) { count = 0 }))
      faulted c fault h = over_again r (over_by.Faulted c fault) k (record met { count = 0 }) (refl, h)

      both : (w b : Option MatchFault) → Lacks w → Lacks b → Again r (judged r w b met) (judged r w b (anew k met))
      both (Some f) b x y = faulted White f (x f refl White)
      both None (Some f) x y = faulted Black f (y f refl Black)
      both None None x y = on_again _ _ refl refl

      shaken : (side : Colour) → Again r (handshake_done r side met) (handshake_done r side (anew k met))
      shaken White = on_again _ _ refl refl
      shaken Black = both (missing r (met.seat White).items) (missing r (met.seat Black).items)
          (lacks r (met.seat White).items) (lacks r (met.seat Black).items)

      answered : (done redone : Effect) → Again r done redone
          → Again r (with_answers S items done) (with_answers S items redone)
      answered done redone h = record {
        same = h.same;
        stops = λ reason over. let (plain, stops) = h.stops reason over in (
          plain,
          record {
            written = stops.written;
            last = λ O.
                let (before, e) = stops.last O in
                let answers : List SentLine = list_if (same_colour S O) (answers_to items) in (
                  answers ++ before,
                  ap (λ (l : List SentLine). answers ++ l) e ∙ sym (append_assoc answers before (last_lines (shown_reason r done.after reason))),
                );
          },
        );
      }

      at : (x y : Bool) → Again r (with_answers S items (if x then handshake_done r S met
          else if y then ends r (over_by.Faulted S NoDone) met else sends_nothing (record met { count = m.count + 1 })))
          (with_answers S items (if x then handshake_done r S (anew k met)
          else if y then ends r (over_by.Faulted S NoDone) (anew k met)
          else sends_nothing (record (anew k met) { count = m.count + 1 })))
      at true y = answered _ _ (shaken S)
      at false true = answered _ _ (over_again r (over_by.Faulted S NoDone) k met (refl, λ c. refl))
      at false false = answered _ _ (on_again _ _ (counted_again k met (m.count + 1)) on)

module _ (r : Rules) (S : Colour) (k : ℕ) (m : Match) (on : is_over m.phase ≡ false) where
  shakes : (kind : LineKind)
      → Again r (line_row r (Handshake S) kind k m) (line_row r (Handshake S) kind k (anew k m))
  shakes (Features text) = handshake r S k (awaited_since k m) on (items_of text)
  shakes _ = handshake r S k m on []

  -- a line during a side's setup: the answer to its `ping`, or anything else
  setup : (kind : LineKind) → Again r (line_row r (Setup S) kind k m) (line_row r (Setup S) kind k (anew k m))
  setup (Answers n) =
      test_again (n == 1) _ _ _ _ (set_up r S k (awaited_since k m) on S) (ignored r S k m on)
  setup _ = ignored r S k m on

  -- a look for the line of an engine that owes a reply found none
  owes : (fault : MatchFault) → ((O : Colour) → is_write_fault_of (over_by.Faulted S fault) O ≡ false)
      → Again r (reply_row r S fault k m) (reply_row r S fault k (anew k m))
  owes fault plain =
      test_again (option_map_or (λ limit. nat_lt limit (k - unwrap_or m.since k)) r.patience.reply false) _ _ _ _
      (over_again r (over_by.Faulted S fault) k m (refl, plain))
      (on_again _ _ (opened_again k (awaited_since (unwrap_or m.since k) m)) on)

-- ---- a line, or a silence

-- a flag fell, and the match ended for that
abbrev pub Falls : Rules → Match → Effect → Type 0
Falls r m done = (reason : Reason) × (ends_by_flag reason ≡ true) × (done.after ≡ record m { phase = Over reason })
    × Stops (shown_reason r m reason) reason done.to

no_time : (k : ℕ) → k - k ≡ 0
no_time k = omega arith

-- no time that has passed since now is above a clock
none_less : (n k : ℕ) → nat_lt n (k - k) ≡ false
none_less n k = grind (arith, nat_tests)

-- when a flag falls the match ends by it: against a bare king as a draw, otherwise as a loss
flagged : (r : Rules) (S : Colour) (m : Match) → Falls r m (flag_row r S m)
flagged r S m = at (has_bare_king (other S) (position_after r.start m.played).men)
  where
    at : (b : Bool) → Falls r m (ends r (if b then over_by.ForfeitsToBareKing else over_by.Forfeits S) m)
    at true = (over_by.ForfeitsToBareKing, refl, refl, stops_at r over_by.ForfeitsToBareKing m (λ O. refl))
    at false = (over_by.Forfeits S, refl, refl, stops_at r (over_by.Forfeits S) m (λ O. refl))

-- before a move: if it is late (`late`) the flag fell; otherwise `done` is done again, as no time has passed
timed : (r : Rules) (S : Colour) (k : ℕ) (m : Match) (late : Bool) (done redone : Effect) → Again r done redone
    → Falls r m (if late then flag_row r S m else done)
    ⊎ Again r (if late then flag_row r S m else done)
    (if nat_lt (clock r (anew k m) S) (k - k) then flag_row r S (anew k m) else redone)
timed r S k m true done redone h = inl (flagged r S m)
timed r S k m false done redone h = inr (
    subst (λ (b : Bool). Again r done (if b then flag_row r S (anew k m) else redone))
    (sym (none_less (clock r (anew k m) S) k)) h)

-- a line of this kind, by the phase p
pub line_again : (r : Rules) (S : Colour) (kind : LineKind) (k : ℕ) (m : Match) (p : Phase)
    → awaits_line p S ≡ true → is_over m.phase ≡ false
    → Falls r m (line_row r p kind k m)
    ⊎ Again r (line_row r p kind k m) (line_row r (reopened k (waits p)) kind k (anew k m))
line_again r S kind k m (Handshake c) aw on = inr (shakes r c k m on kind)
line_again r S kind k m (Setup c) aw on = inr (setup r c k m on kind)
line_again r S kind k m (BeforeMove c opened) aw on =
    timed r c k m (nat_lt (clock r m c) (k - opened)) _ _
    (subst (λ (n : ℕ). Again r (before_move r c (k - opened) kind (awaited_since k m))
    (before_move r c n kind (awaited_since k (anew k m)))) (sym (no_time k))
    (before r c k (awaited_since k m) on (k - opened) kind))
line_again r S kind k m (AfterMove c) aw on = inr (after r c k m on kind)
line_again r S kind k m (Opening c) aw on = absurd cc
line_again r S kind k m (Over reason) aw on = absurd cc

-- a silence, by the phase p
pub silence_again : (r : Rules) (S : Colour) (k : ℕ) (m : Match) (p : Phase)
    → awaits_line p S ≡ true → is_over m.phase ≡ false
    → Falls r m (silence_row r p S k m)
    ⊎ Again r (silence_row r p S k m) (silence_row r (reopened k (waits p)) S k (anew k m))
silence_again r S k m (Handshake c) aw on = inr (owes r S k m on NoHandshake (λ O. refl))
silence_again r S k m (Setup c) aw on = inr (owes r S k m on NoAnswer (λ O. refl))
silence_again r S k m (BeforeMove c opened) aw on =
    timed r S k m (nat_lt (clock r m S) (k - opened)) _ _ (on_again _ _ (opened_again k m) on)
silence_again r S k m (AfterMove c) aw on = inr (owes r S k m on NoAnswer (λ O. refl))
silence_again r S k m (Opening c) aw on = absurd cc
silence_again r S k m (Over reason) aw on = absurd cc
