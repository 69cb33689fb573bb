-- A line's effect by cases: what holds of each effect in the record `LineCases` holds of the effect of any line that is
-- awaited (`line_cases`). In the same way `silence_cases` for silences. By these it is shown what an event keeps true
-- of a match.
use Rattle.std.specs.{List.list_any, Option.option_map_or, Option.option_or}
use Rattle.std.proofs.Common.{◌≡◌, ℕ, ◌+◌, ◌-◌, ◌≤◌, ◌<◌, Bool, true, false, not, ◌&&◌, List, [], ◌∷◌, ◌++◌, length, refl, sym, ap, ◌∙◌, subst, Option, None, Some, arith, leb-false, ltb-false, if◌then◌else◌, nat_lt, nat_le, ◌==◌, codes, is_some, option_map}
use Rattle.chess_base.specs.{declared.man.Colour.Colour, declared.man.Colour.TheVariants.White, declared.man.Colour.TheVariants.Black, declared.man.Move.Move, Men.other, Men.same_colour, Options.list_if}
use Rattle.chess_base.proofs.shared.Men.{same_colour-true}
use Rattle.chess_game.specs.{declared.verdicts.Verdict.Verdict, declared.verdicts.DrawClaim.DrawClaim, Ends.verdict, Ends.claims, Ends.draw_claim, Line.position_after}
use Rattle.cecp_engine.specs.EngineLines.{LineKind, Features, Moves, Resigns, OffersDraw, ClaimsDraw, ClaimsWin, Rejects, Answers, SaysElse}
use Rattle.cecp_engine.specs.Items.{Item, ends_handshake, plays_fischerandom, takes}
use Rattle.chess_match.specs.{Acts.awaits_line, Acts.is_limited, shared.Parts.enter, shared.Parts.counted, Lines.Says, Lines.ping, Lines.setup_lines, Reasons.is_write_fault_of, Rules.Rules, Rules.start_fen, Rules.has_bare_king, declared.reason.MatchFault.MatchFault, declared.patience.Patience.Patience, declared.reason.Reason.Reason}
use Rattle.chess_match.specs.Effects.{Match, Phase, Handshake, Setup, Opening, BeforeMove, AfterMove, Over, Effect, awaited_since, before_move, begins_turn, clock, ends, flag_row, handshake_done, handshake_lines, handshake_row, if_automatic, ignores, judged, line_row, missing, move_row, moved, offer_row, ping_number, reply_row, sends_nothing, sends_to, setup_done, silence_row, turn_row, with_seat, with_answers}
use Rattle.chess_text.specs.{San.is_fischerandom, declared.reading.Reading.Reading, Moves.reading}
use Rattle.chess_text.specs.declared.reading.Reading.TheVariants as reads
use Rattle.chess_match.specs.declared.reason.MatchFault.TheVariants.{Flood, NoAnswer, NoDone, NoHandshake, NoPing, NoSetboard, NoVariant}
use Rattle.chess_match.specs.declared.reason.Reason.TheVariants.{Decided, Claimed, Agreed, MovesIllegally, MovesOutOfTurn, ClaimsFalsely, RejectsLegalMove, Forfeits, ForfeitsToBareKing, GameTooLong, Faulted}
use Rattle.chess_match.specs.declared.reason.Reason.TheVariants as over_by
use Rattle.chess_match.specs.laws.Laws.{move_said, is_pong, items_in_line, whose_line}

-- whether a match ended for a verdict of the board
abbrev pub is_decided : Reason → Bool
is_decided (Decided v) = true
is_decided _ = false

-- whether a match ended by a fault
abbrev pub is_fault : Reason → Bool
is_fault (Faulted c fault) = true
is_fault _ = false

-- whether a match in this phase waits for a move, or for the `pong` after one
abbrev pub in_turn : Phase → Bool
in_turn (BeforeMove S opened) = true
in_turn (AfterMove S) = true
in_turn _ = false

-- a line of S may end a match in this phase for this reason: the reason is no failed write, no verdict, and no loss by
-- a line of the other side; out of a turn it is a fault
abbrev pub MayStop : Patience → Phase → Colour → Reason → Type 0
MayStop patience p S reason = ((O : Colour) → is_write_fault_of reason O ≡ false)
    × ((c : Colour) → whose_line patience reason ≡ Some c → S ≡ c) × (is_decided reason ≡ false)
    × (in_turn p ≡ false → is_fault reason ≡ true)

-- whether no handshake is on in this phase
abbrev pub handshakes_done : Phase → Bool
handshakes_done (Handshake S) = false
handshakes_done _ = true

-- in a turn the handshakes are done
pub turn_done : (p : Phase) → in_turn p ≡ true → handshakes_done p ≡ true
turn_done p h1 = grind arith

-- a test doesn't both pass and fail
never : {A : Type 0} {b : Bool} → b ≡ true → b ≡ false → A
never on off = let no : true ≡ false = sym on ∙ off in absurd cc

-- the match with the items of a line of S
abbrev pub said_by : Colour → LineKind → Match → Match
said_by S kind m = with_seat S (λ s. record s { items = s.items ++ items_in_line kind }) m

-- one line more is counted
abbrev pub counting : Match → Effect
counting m = sends_nothing (record m { count = m.count + 1 })

-- the offer of S is opened, and the other side is sent `draw`, if its engine takes that
abbrev pub offering : Colour → Match → Effect
offering S m = sends_to (other S) (list_if (takes (codes "draw") (m.seat (other S)).items) (Says (codes "draw") ∷ []))
    (with_seat S (λ s. record s { offers = true }) m)

-- the draw that ends a match after these moves without a claim
abbrev pub draw_by_itself : Rules → List Move → Option DrawClaim
draw_by_itself r ms = if_automatic r.draws (draw_claim (claims r.start ms))

-- why a match is over, by the board's verdict and by a draw that needs no claim
abbrev pub over_for : Option Verdict → Option DrawClaim → Option Reason
over_for v d = option_or (option_map (λ v. Decided v) v) (option_map (λ claim. Claimed claim) d)

-- the move of S is played and ends nothing; S is sent its `ping`
abbrev pub playing : Colour → Move → ℕ → Match → Effect
playing S move used m = let n = moved S move used m in sends_to S (ping (ping_number n S) ∷ []) n

-- the items of a line leave the times of both sides
pub said_used : (S C : Colour) (kind : LineKind) (m : Match) → ((said_by S kind m).seat C).used ≡ (m.seat C).used
said_used S C kind m = grind arith

-- an offer leaves the times of both sides
pub offered_used : (S C : Colour) (m : Match) → ((offering S m).after.seat C).used ≡ (m.seat C).used
offered_used S C m = grind arith

-- `Q` holds of each effect that a line of S can have, by the phase that awaits it; each field says of which line and in
-- which state of the match `m` it comes
pub record LineCases (r : Rules) (S : Colour) (kind : LineKind) (moment : ℕ) (m : Match) (Q : Effect → Type 0) : Type 0
  where
    -- in its handshake
    pub handshake_stops : m.phase ≡ Handshake S → (reason : Reason) (k : ℕ) → k ≤ m.count → MayStop r.patience m.phase S reason
        → Q (with_answers S (items_in_line kind) (ends r reason (record (said_by S kind m) { count = k })))
    pub handshake_counts : m.phase ≡ Handshake S → list_any ends_handshake (items_in_line kind) ≡ false
        → m.count + 1 < 1000
        → Q (with_answers S (items_in_line kind) (sends_nothing (record (said_by S kind m) { count = m.count + 1 })))
    pub handshake_next : m.phase ≡ Handshake S → S ≡ White → list_any ends_handshake (items_in_line kind) ≡ true
        → Q (with_answers S (items_in_line kind)
        (sends_to Black handshake_lines (enter (Handshake Black) (said_by S kind m))))
    pub handshake_last : m.phase ≡ Handshake S → S ≡ Black → list_any ends_handshake (items_in_line kind) ≡ true
        → Q (with_answers S (items_in_line kind) (sends_to White (setup_lines r White) (enter (Setup White) (said_by S kind m))))
    -- in its setup
    pub setup_counts : m.phase ≡ Setup S → is_pong 1 kind ≡ false → m.count + 1 < 10000 → Q (counting m)
    pub setup_next : m.phase ≡ Setup S → S ≡ White → is_pong 1 kind ≡ true
        → Q (sends_to Black (setup_lines r Black) (enter (Setup Black) m))
    pub setup_last : m.phase ≡ Setup S → S ≡ Black → is_pong 1 kind ≡ true → verdict r.start m.played ≡ None
        → draw_by_itself r m.played ≡ None → Q (begins_turn r r.start.side m)
    pub setup_draws : m.phase ≡ Setup S → (claim : DrawClaim) → verdict r.start m.played ≡ None
        → draw_by_itself r m.played ≡ Some claim → Q (ends r (Claimed claim) m)
    pub setup_decides : m.phase ≡ Setup S → (v : Verdict) → verdict r.start m.played ≡ Some v → Q (ends r (Decided v) m)
    -- in its setup or in its turn
    pub stops : handshakes_done m.phase ≡ true → (reason : Reason) → MayStop r.patience m.phase S reason
        → Q (ends r reason m)
    -- in its turn
    pub counts : in_turn m.phase ≡ true → move_said kind ≡ [] → m.count + 1 < 10000 → Q (counting m)
    pub offers : in_turn m.phase ≡ true → move_said kind ≡ [] → (m.seat S).offers ≡ false → Q (offering S m)
    pub plays : (text : List ℕ) (move : Move) (opened : ℕ) → kind ≡ Moves text → m.phase ≡ BeforeMove S opened
        → reading (position_after r.start m.played) text ≡ reads.Move move → length m.played < r.limit → moment - opened ≤ clock r m S
        → verdict r.start (m.played ++ move ∷ []) ≡ None → draw_by_itself r (m.played ++ move ∷ []) ≡ None
        → Q (playing S move (moment - opened) m)
    pub draws : (text : List ℕ) (move : Move) (opened : ℕ) (claim : DrawClaim) → kind ≡ Moves text
        → m.phase ≡ BeforeMove S opened → reading (position_after r.start m.played) text ≡ reads.Move move
        → length m.played < r.limit → moment - opened ≤ clock r m S → verdict r.start (m.played ++ move ∷ []) ≡ None
        → draw_by_itself r (m.played ++ move ∷ []) ≡ Some claim
        → Q (ends r (Claimed claim) (moved S move (moment - opened) m))
    pub decides : (text : List ℕ) (move : Move) (opened : ℕ) (v : Verdict) → kind ≡ Moves text
        → m.phase ≡ BeforeMove S opened → reading (position_after r.start m.played) text ≡ reads.Move move → length m.played < r.limit
        → moment - opened ≤ clock r m S → verdict r.start (m.played ++ move ∷ []) ≡ Some v
        → Q (ends r (Decided v) (moved S move (moment - opened) m))
    pub passes : m.phase ≡ AfterMove S → move_said kind ≡ [] → Q (begins_turn r (other S) m)

-- what holds of both branches of an `if`, each where it is taken, holds of the whole
by_test : (Q : Effect → Type 0) (b : Bool) {x y : Effect} → (b ≡ true → Q x) → (b ≡ false → Q y)
    → Q (if b then x else y)
by_test Q true f g = f refl
by_test Q false f g = g refl

-- what is missing of an engine is no write that failed
abbrev NoWriteFault : Option MatchFault → Type 0
NoWriteFault None = Unit {0}
NoWriteFault (Some f) = (c O : Colour) → is_write_fault_of (Faulted c f) O ≡ false

-- of two faults that are no failed write, the one that is chosen is none
if_fault : (b : Bool) (x y : Option MatchFault) → NoWriteFault x → NoWriteFault y → NoWriteFault (if b then x else y)
if_fault true x y p q = p
if_fault false x y p q = q

-- the fault of an engine that lacks a feature, if it does, is no failed write
misses : (r : Rules) (items : List Item) → NoWriteFault (missing r items)
misses r items = if_fault (not (takes (codes "ping") items)) (Some NoPing) _ (λ c O. refl)
    (if_fault (is_some (start_fen r.start) && not (takes (codes "setboard") items)) (Some NoSetboard) _ (λ c O. refl)
    (if_fault (is_fischerandom r.start.variant && not (plays_fischerandom items)) (Some NoVariant) None (λ c O. refl) tt))

-- in a setup a line is `pong 1`, which ends it, or is ignored
setup_by_pong : (r : Rules) (S : Colour) (kind : LineKind) (moment : ℕ) (m : Match)
    → line_row r (Setup S) kind moment m
    ≡ (if is_pong 1 kind then setup_done r S (awaited_since moment m) else ignores r S m)
setup_by_pong r S kind moment m = grind arith

-- a flag that falls is a loss of its side alone
own_flag : (patience : Patience) (S c : Colour) → whose_line patience (Forfeits S) ≡ Some c → S ≡ c
own_flag patience S c e = at patience.flag e
  where
    at : (b : Bool) → (if b then None else Some S) ≡ Some c → S ≡ c
    at true e = absurd cc
    at false e = cc

module _ (r : Rules) (S : Colour) (kind : LineKind) (moment : ℕ) (m : Match) (Q : Effect → Type 0)
    (l : LineCases r S kind moment m Q) where
  -- an ignored line is counted, or is one too many
  ignored : handshakes_done m.phase ≡ true → (m.count + 1 < 10000 → Q (counting m)) → Q (ignores r S m)
  ignored done more = by_test Q (nat_le 10000 (m.count + 1))
      (λ h. l.stops done (Faulted S Flood) ((λ O. refl), (λ c e. cc), refl, (λ off. refl)))
      (λ h. more (leb-false 10000 (m.count + 1) h))

  -- a line of a turn that is no move
  module _ (on : in_turn m.phase ≡ true) (none : move_said kind ≡ []) where
    -- `offer draw`
    offered : Q (offer_row r S m)
    offered = by_test Q (m.seat (other S)).offers (λ h. l.stops (turn_done m.phase on) Agreed
        ((λ O. refl), (λ c e. cc), refl, never on))
        (λ h. by_test Q (m.seat S).offers (λ h. ignored (turn_done m.phase on) (l.counts on none)) (l.offers on none))

    -- a line of the kind `k`
    turn : (k : LineKind) → Q (turn_row r S k m)
    turn Resigns = l.stops (turn_done m.phase on) (over_by.Resigns S) ((λ O. refl), (λ c e. cc), refl, never on)
    turn OffersDraw = offered
    turn ClaimsDraw = at (draw_claim (claims r.start m.played))
      where
        at : (claim : Option DrawClaim) → Q (option_map_or (λ c. ends r (Claimed c) m) claim (offer_row r S m))
        at (Some c) = l.stops (turn_done m.phase on) (Claimed c) ((λ O. refl), (λ c e. cc), refl, never on)
        at None = offered
    turn (ClaimsWin c) = at (same_colour c S)
      where
        at : (b : Bool) → Q (ends r (if b then ClaimsFalsely S else over_by.Resigns S) m)
        at true = l.stops (turn_done m.phase on) (ClaimsFalsely S) ((λ O. refl), (λ c e. cc), refl, never on)
        at false = l.stops (turn_done m.phase on) (over_by.Resigns S) ((λ O. refl), (λ c e. cc), refl, never on)
    turn Rejects = by_test Q (nat_lt 0 (length (m.seat (other S)).used)) (λ h. l.stops (turn_done m.phase on) (RejectsLegalMove S)
        ((λ O. refl), (λ c e. cc), refl, never on))
        (λ h. ignored (turn_done m.phase on) (l.counts on none))
    turn (Features t) = ignored (turn_done m.phase on) (l.counts on none)
    turn (Moves t) = ignored (turn_done m.phase on) (l.counts on none)
    turn (Answers n) = ignored (turn_done m.phase on) (l.counts on none)
    turn SaysElse = ignored (turn_done m.phase on) (l.counts on none)

  said_none : (k : LineKind) → kind ≡ k → move_said k ≡ [] → move_said kind ≡ []
  said_none k e h = ap move_said e ∙ h

  -- before its move
  module _ (opened : ℕ) (p : m.phase ≡ BeforeMove S opened) (timely : moment - opened ≤ clock r m S) where
    -- a text that is read as `read`: no legal move, or one that ends the match or not
    a_move : (text : List ℕ) (read : Reading) → kind ≡ Moves text → reading (position_after r.start m.played) text ≡ read
        → length m.played < r.limit → Q (move_row r S (moment - opened) read m)
    a_move text reads.Ambiguous is e room = l.stops (ap handshakes_done p) (MovesIllegally S)
        ((λ O. refl), (λ c e. cc), refl, never (ap in_turn p))
    a_move text reads.NoSuch is e room = l.stops (ap handshakes_done p) (MovesIllegally S)
        ((λ O. refl), (λ c e. cc), refl, never (ap in_turn p))
    a_move text reads.NotAMove is e room = l.stops (ap handshakes_done p) (MovesIllegally S)
        ((λ O. refl), (λ c e. cc), refl, never (ap in_turn p))
    a_move text (reads.Move move) is e room =
        at (verdict r.start (m.played ++ move ∷ [])) (draw_by_itself r (m.played ++ move ∷ [])) refl refl
      where
        at : (v : Option Verdict) (d : Option DrawClaim) → verdict r.start (m.played ++ move ∷ []) ≡ v
            → draw_by_itself r (m.played ++ move ∷ []) ≡ d
            → Q (option_map_or (λ reason. ends r reason (moved S move (moment - opened) m)) (over_for v d)
            (playing S move (moment - opened) m))
        at None None h k = l.plays text move opened is p e room timely h k
        at None (Some claim) h k = l.draws text move opened claim is p e room timely h k
        at (Some v) d h k = l.decides text move opened v is p e room timely h

    -- a line of the kind `k`, with the flag still up
    before : (k : LineKind) → kind ≡ k → Q (before_move r S (moment - opened) k m)
    before (Moves text) e = by_test Q (nat_le r.limit (length m.played))
        (λ h. l.stops (ap handshakes_done p) GameTooLong ((λ O. refl), (λ c e. cc), refl, never (ap in_turn p)))
        (λ h. a_move text (reading (position_after r.start m.played) text) e refl (leb-false r.limit (length m.played) h))
    before (Features t) e = turn (ap in_turn p) (said_none (Features t) e refl) (Features t)
    before Resigns e = turn (ap in_turn p) (said_none Resigns e refl) Resigns
    before OffersDraw e = turn (ap in_turn p) (said_none OffersDraw e refl) OffersDraw
    before ClaimsDraw e = turn (ap in_turn p) (said_none ClaimsDraw e refl) ClaimsDraw
    before (ClaimsWin c) e = turn (ap in_turn p) (said_none (ClaimsWin c) e refl) (ClaimsWin c)
    before Rejects e = turn (ap in_turn p) (said_none Rejects e refl) Rejects
    before (Answers n) e = turn (ap in_turn p) (said_none (Answers n) e refl) (Answers n)
    before SaysElse e = turn (ap in_turn p) (said_none SaysElse e refl) SaysElse

  -- the flag of S has fallen
  flagged : in_turn m.phase ≡ true → Q (flag_row r S m)
  flagged on = at (has_bare_king (other S) (position_after r.start m.played).men)
    where
      at : (bare : Bool) → Q (ends r (if bare then ForfeitsToBareKing else Forfeits S) m)
      at true = l.stops (turn_done m.phase on) ForfeitsToBareKing ((λ O. refl), (λ c e. cc), refl, never on)
      at false = l.stops (turn_done m.phase on) (Forfeits S) ((λ O. refl), own_flag r.patience S, refl, never on)

  -- after its move
  after : m.phase ≡ AfterMove S → (k : LineKind) → kind ≡ k → Q (line_row r (AfterMove S) k moment m)
  after p (Moves t) e = l.stops (ap handshakes_done p) (MovesOutOfTurn S) ((λ O. refl), (λ c e. cc), refl, never (ap in_turn p))
  after p (Answers n) e = by_test Q (n == ping_number m S) (λ h. l.passes p (said_none (Answers n) e refl))
      (λ h. ignored (ap handshakes_done p) (l.counts (ap in_turn p) (said_none (Answers n) e refl)))
  after p (Features t) e = turn (ap in_turn p) (said_none (Features t) e refl) (Features t)
  after p Resigns e = turn (ap in_turn p) (said_none Resigns e refl) Resigns
  after p OffersDraw e = turn (ap in_turn p) (said_none OffersDraw e refl) OffersDraw
  after p ClaimsDraw e = turn (ap in_turn p) (said_none ClaimsDraw e refl) ClaimsDraw
  after p (ClaimsWin c) e = turn (ap in_turn p) (said_none (ClaimsWin c) e refl) (ClaimsWin c)
  after p Rejects e = turn (ap in_turn p) (said_none Rejects e refl) Rejects
  after p SaysElse e = turn (ap in_turn p) (said_none SaysElse e refl) SaysElse

  -- in its setup
  set_up : (c : Colour) → S ≡ c → m.phase ≡ Setup S → is_pong 1 kind ≡ true → Q (setup_done r c m)
  set_up White e p pong = l.setup_next p e pong
  set_up Black e p pong = at (verdict r.start m.played) (draw_by_itself r m.played) refl refl
    where
      at : (v : Option Verdict) (d : Option DrawClaim) → verdict r.start m.played ≡ v → draw_by_itself r m.played ≡ d
          → Q (option_map_or (λ reason. ends r reason m) (over_for v d) (begins_turn r r.start.side m))
      at (Some v) d h k = l.setup_decides p v h
      at None (Some claim) h k = l.setup_draws p claim h k
      at None None h k = l.setup_last p e pong h k

  not_set_up : m.phase ≡ Setup S → is_pong 1 kind ≡ false → Q (ignores r S m)
  not_set_up p h = ignored (ap handshakes_done p) (l.setup_counts p h)

  -- in its handshake
  shaken : (c : Colour) → S ≡ c → m.phase ≡ Handshake S → list_any ends_handshake (items_in_line kind) ≡ true
      → Q (with_answers S (items_in_line kind) (handshake_done r c (said_by S kind m)))
  shaken White e p d = l.handshake_next p e d
  shaken Black e p d =
      at (missing r ((said_by S kind m).seat White).items) (missing r ((said_by S kind m).seat Black).items)
      (misses r ((said_by S kind m).seat White).items) (misses r ((said_by S kind m).seat Black).items)
    where
      at : (w b : Option MatchFault) → NoWriteFault w → NoWriteFault b
          → Q (with_answers S (items_in_line kind) (judged r w b (said_by S kind m)))
      at (Some f) b x y = l.handshake_stops p (Faulted White f) 0 (omega arith) (x White, (λ c e. cc), refl, (λ off. refl))
      at None (Some f) x y = l.handshake_stops p (Faulted Black f) 0 (omega arith) (y Black, (λ c e. cc), refl, (λ off. refl))
      at None None x y = l.handshake_last p e d

  handshake : m.phase ≡ Handshake S → Q (handshake_row r S (items_in_line kind) m)
  handshake p = by_test (λ (e : Effect). Q (with_answers S (items_in_line kind) e))
      (list_any ends_handshake (items_in_line kind))
      (shaken S refl p)
      (λ d. by_test (λ (e : Effect). Q (with_answers S (items_in_line kind) e)) (nat_le 1000 (m.count + 1))
      (λ h. l.handshake_stops p (Faulted S NoDone) m.count (omega arith) ((λ O. refl), (λ c e. cc), refl, (λ off. refl)))
      (λ h. l.handshake_counts p d (leb-false 1000 (m.count + 1) h)))

-- a line in a handshake, by its items
pub handshake_by_items : (r : Rules) (S : Colour) (kind : LineKind) (moment : ℕ) (m : Match)
    → line_row r (Handshake S) kind moment m ≡ handshake_row r S (items_in_line kind) (counted kind moment m)
handshake_by_items r S (Features text) moment m = refl
handshake_by_items r S _ moment m = refl

-- the effect of a line of S, which is awaited. The cases must hold whatever moment a reply is awaited from, since a
-- line may move that (`since`)
pub line_cases : (r : Rules) (S : Colour) (kind : LineKind) (moment : ℕ) (m : Match) (Q : Effect → Type 0)
    → awaits_line m.phase S ≡ true
    → ((since : Option ℕ) → LineCases r S kind moment (record m { since = since }) Q)
    → Q (line_row r m.phase kind moment m)
line_cases r S kind moment m Q aw l = at m.phase refl aw
  where
    -- the phase's side is S
    here : (p : Phase) (c : Colour) (q : Colour → Phase) → m.phase ≡ q c → same_colour c S ≡ true → m.phase ≡ q S
    here p c q e h = e ∙ ap q (same_colour-true c S h)

    setup : m.phase ≡ Setup S → Q (line_row r (Setup S) kind moment m)
    setup p = subst Q (sym (setup_by_pong r S kind moment m)) (by_test Q (is_pong 1 kind)
        (set_up r S kind moment (awaited_since moment m) Q (l (Some moment)) S refl p)
        (not_set_up r S kind moment m Q (l m.since) p))

    at : (p : Phase) → m.phase ≡ p → awaits_line p S ≡ true → Q (line_row r p kind moment m)
    at (Handshake c) e h = subst (λ (x : Colour). Q (line_row r (Handshake x) kind moment m))
        (sym (same_colour-true c S h)) (subst Q (sym (handshake_by_items r S kind moment m))
        (handshake r S kind moment (counted kind moment m) Q (l (counted kind moment m).since)
        (here m.phase c Handshake e h)))
    at (Setup c) e h = subst (λ (x : Colour). Q (line_row r (Setup x) kind moment m)) (sym (same_colour-true c S h))
        (setup (here m.phase c Setup e h))
    at (BeforeMove c opened) e h = subst (λ (x : Colour). Q (line_row r (BeforeMove x opened) kind moment m))
        (sym (same_colour-true c S h))
        (by_test Q (nat_lt (clock r m S) (moment - opened))
        (λ late. flagged r S kind moment m Q (l m.since) (ap in_turn e))
        (λ timely. before r S kind moment (awaited_since moment m) Q (l (Some moment)) opened
        (here m.phase c (λ x. BeforeMove x opened) e h)
        (ltb-false (clock r m S) (moment - opened) timely) kind refl))
    at (AfterMove c) e h = subst (λ (x : Colour). Q (line_row r (AfterMove x) kind moment m)) (sym (same_colour-true c S h))
        (after r S kind moment m Q (l m.since) (here m.phase c AfterMove e h) kind refl)
    at (Opening c) e h = absurd cc
    at (Over reason) e h = absurd cc

-- ---- silences

-- a silence may end a match in this phase for this reason: the reason is no failed write, no verdict and, where the
-- wait is limited, no loss by a line; out of a turn it is a fault
abbrev pub MayStopSilent : Patience → Phase → Reason → Type 0
MayStopSilent patience p reason = ((O : Colour) → is_write_fault_of reason O ≡ false)
    × (is_limited patience p ≡ true → whose_line patience reason ≡ None) × (is_decided reason ≡ false)
    × (in_turn p ≡ false → is_fault reason ≡ true)

-- `Q` holds of each effect that a silence can have: it ends the match, or at most sets from when on a reply is awaited
pub record SilenceCases (r : Rules) (m : Match) (Q : Effect → Type 0) : Type 0 where
  pub stops : (reason : Reason) → MayStopSilent r.patience m.phase reason → Q (ends r reason m)
  pub goes_on : (since : Option ℕ) → Q (sends_nothing (record m { since = since }))

-- if flags fall without a line, a loss on time is no loss by a line
flag_shown : (patience : Patience) (S : Colour) → patience.flag ≡ true → whose_line patience (Forfeits S) ≡ None
flag_shown patience S e = ap (λ (b : Bool). if b then None else Some S) e

-- the effect of a silence in any phase
pub silence_cases : (r : Rules) (S : Colour) (moment : ℕ) (m : Match) (Q : Effect → Type 0) → SilenceCases r m Q
    → Q (silence_row r m.phase S moment m)
silence_cases r S moment m Q l = at m.phase refl
  where
    owed : (fault : MatchFault) → ((O : Colour) → is_write_fault_of (Faulted S fault) O ≡ false)
        → Q (reply_row r S fault moment m)
    owed fault w = by_test Q _ (λ h. l.stops (Faulted S fault) (w, (λ b. refl), refl, (λ off. refl)))
        (λ h. l.goes_on _)

    bare : (b : Bool) (side : Colour) (opened : ℕ) → m.phase ≡ BeforeMove side opened
        → Q (ends r (if b then ForfeitsToBareKing else Forfeits S) m)
    bare true side opened e = l.stops ForfeitsToBareKing ((λ O. refl), (λ b. refl), refl, never (ap in_turn e))
    bare false side opened e = l.stops (Forfeits S) (
      (λ O. refl),
      (λ b. flag_shown r.patience S (sym (ap (is_limited r.patience) e) ∙ b)),
      refl,
      never (ap in_turn e),
    )

    at : (p : Phase) → m.phase ≡ p → Q (silence_row r p S moment m)
    at (Handshake side) e = owed NoHandshake (λ O. refl)
    at (BeforeMove side opened) e = by_test Q (nat_lt (clock r m S) (moment - opened))
        (λ late. bare (has_bare_king (other S) (position_after r.start m.played).men) side opened e)
        (λ timely. l.goes_on m.since)
    at (Setup side) e = owed NoAnswer (λ O. refl)
    at (AfterMove side) e = owed NoAnswer (λ O. refl)
    at (Opening side) e = l.goes_on m.since
    at (Over reason) e = l.goes_on m.since
