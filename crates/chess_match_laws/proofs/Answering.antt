-- An engine that answers has no fault, and loses only by mate. By induction over the acts (`clean_at_end`), for the
-- side S of that engine: a line that is expected of S (`own_line`), any line of the other side (`other_line`) and any
-- silence leave the match on, or end it for a reason for which S is not to blame (`clean`).
use Rattle.std.proofs.Common.{◌≡◌, ◌⊎◌, inl, inr, ℕ, suc, ◌+◌, ◌-◌, ◌<◌, Bool, true, false, not, List, [], ◌∷◌, ◌++◌, length, refl, ap, sym, ◌∙◌, subst, Option, None, Some, arith, if◌then◌else◌, nat_le, nat_lt, unwrap_or, ◌==◌}
use Rattle.std.specs.{List.list_any, Option.option_map, Option.option_map_or}
use Rattle.std.proofs.{lemmas.Bool.or_parts, lemmas.Bool.Decides.nat_tests}
use Rattle.chess_base.specs.{declared.man.Colour.Colour, declared.man.Colour.TheVariants.White, declared.man.Colour.TheVariants.Black, declared.man.Move.Move, Men.other, Men.same_colour, Options.list_if}
use Rattle.chess_base.proofs.shared.Men.{same_colour-self, same_colour-true}
use Rattle.chess_game.specs.Ends.{claims, draw_claim, verdict, verdict_result}
use Rattle.chess_game.specs.{Line.position_after, declared.results.Outcome.Outcome, declared.tags.HowEnded.HowEnded, declared.verdicts.DrawClaim.DrawClaim, declared.verdicts.Verdict.Verdict}
use Rattle.chess_game.specs.declared.results.Outcome.TheVariants.{BlackWins, Draw, Unfinished, WhiteWins}
use Rattle.chess_game.specs.declared.verdicts.Verdict.TheVariants.{BlackMates, FivefoldRepetition, InsufficientMaterial, SeventyFiveMoves, Stalemate, WhiteMates}
use Rattle.cecp_engine.specs.EngineLines.{LineKind, Answers, ClaimsDraw, ClaimsWin, Features, Moves, OffersDraw, Rejects, Resigns, SaysElse}
use Rattle.cecp_engine.specs.Items.{Item, ends_handshake, items_of}
use Rattle.chess_text.specs.{Moves.reading, declared.reading.Reading.Reading}
use Rattle.chess_text.specs.declared.reading.Reading.TheVariants as reads
use Rattle.chess_match.specs.Acts.{Act, Block, Happens, IsMatch, SendFails, Sends, awaits_line, blocks_from, is_over}
use Rattle.chess_match.specs.{ByDevice.broken_block, ByDevice.is_end_of, ByDevice.is_failed_read_of, Lines.SentLine, Rules.Rules, declared.reason.MatchFault.MatchFault, declared.reason.Reason.Reason, shared.Parts.enter}
use Rattle.chess_match.specs.Effects.{Match, Phase, Handshake, Setup, Opening, BeforeMove, AfterMove, Over, awaited_since, before_move, beginning, begins_turn, clock, effect, ends, flag_row, handshake_done, handshake_row, ignores, judged, line_row, missing, move_row, offer_row, ping_number, sends_nothing, setup_done, silence_row, turn_row, with_seat}
use Rattle.chess_match.specs.Events.{FailsToRead, FailsToWrite, Line, Opened, OutputEnds, Silent}
use Rattle.chess_match.specs.Reasons.{outcome_by_reason, reported_fault, reported_reason, win_of}
use Rattle.chess_match.specs.declared.reason.MatchFault.TheVariants.{Flood, NoAnswer, NoDone, NoHandshake, Write}
use Rattle.chess_match.specs.declared.reason.Reason.TheVariants.{Agreed, Claimed, ClaimsFalsely, Decided, Faulted, Forfeits, ForfeitsToBareKing, GameTooLong, MovesIllegally, MovesOutOfTurn, RejectsLegalMove}
use Rattle.chess_match.specs.declared.reason.Reason.TheVariants as over_by
use Rattle.chess_match.specs.laws.Laws.{broken_blocks, has_ended, has_failed_read, is_broken, items_in_line, line_kind, match_after}
use Rattle.chess_match.proofs.shared.LineCases.{line_cases, offering, said_by, silence_cases}
use Rattle.chess_match.proofs.shared.MatchCases.{by_cases}
use Rattle.chess_match_laws.specs.{Answering.AnsweringEnginesAreBlameless, Answering.mates, OfActs.is_beyond}
use Rattle.chess_match_laws.proofs.{LinesDue.IsExpected, LinesDue.due_is_expected, LinesDue.facts_at, Silences.beyond, VerdictLaw.decided_by_the_board}

-- ---- ends for which a side is not to blame

-- whether a match that ended for this reason is neither lost by the side S, but on the board, nor ended by its fault
abbrev is_clean : Colour → Reason → Bool
is_clean S (over_by.Resigns c) = not (same_colour c S)
is_clean S (MovesIllegally c) = not (same_colour c S)
is_clean S (MovesOutOfTurn c) = not (same_colour c S)
is_clean S (ClaimsFalsely c) = not (same_colour c S)
is_clean S (RejectsLegalMove c) = not (same_colour c S)
is_clean S (Forfeits c) = not (same_colour c S)
is_clean S (Faulted c f) = not (same_colour c S)
is_clean S _ = true

-- whether a match in this phase goes on, or ended for such a reason
abbrev clean : Colour → Phase → Bool
clean S (Over reason) = is_clean S reason
clean S _ = true

-- once White's handshake is done, White's engine lacks nothing, if it is the side S
abbrev Ready : Rules → Phase → Colour → Match → Type 0
Ready r (Handshake Black) White m = missing r (m.seat White).items ≡ None
Ready r p S m = Unit {0}

-- ---- the other side's lines

module _ (r : Rules) (S C : Colour) (apart : same_colour C S ≡ false) where
  -- a line of the other side C, of each kind, leaves the match clean for S: an ignored one, an offer (`offered`), one
  -- in a turn, a move, and one after which the flag has fallen
  ignored : (m : Match) → clean S m.phase ≡ true → clean S (ignores r C m).after.phase ≡ true
  ignored m h = grind (arith, apart, h)

  offered : (m : Match) → clean S m.phase ≡ true → clean S (offer_row r C m).after.phase ≡ true
  offered m h = grind (arith, h, ignored m h)

  in_turn : (kind : LineKind) (m : Match) → clean S m.phase ≡ true → clean S (turn_row r C kind m).after.phase ≡ true
  in_turn Resigns m h = ap not apart
  in_turn OffersDraw m h = offered m h
  in_turn ClaimsDraw m h = at (draw_claim (claims r.start m.played))
    where
      at : (claim : Option DrawClaim)
          → clean S (option_map_or (λ c. ends r (Claimed c) m) claim (offer_row r C m)).after.phase ≡ true
      at (Some c) = refl
      at None = offered m h
  in_turn (ClaimsWin c) m h = at (same_colour c C)
    where
      at : (b : Bool) → is_clean S (if b then ClaimsFalsely C else over_by.Resigns C) ≡ true
      at true = ap not apart
      at false = ap not apart
  in_turn Rejects m h = at (nat_lt 0 (length (m.seat (other C)).used))
    where
      at : (b : Bool) → clean S (if b then ends r (RejectsLegalMove C) m else ignores r C m).after.phase ≡ true
      at true = ap not apart
      at false = ignored m h
  in_turn _ m h = ignored m h

  at_move : (used : ℕ) (read : Reading) (m : Match) → clean S m.phase ≡ true
      → clean S (move_row r C used read m).after.phase ≡ true
  at_move used read m h = grind (arith, apart)

  to_move : (used : ℕ) (kind : LineKind) (m : Match) → clean S m.phase ≡ true
      → clean S (before_move r C used kind m).after.phase ≡ true
  to_move used (Moves text) m h = at (nat_le r.limit (length m.played))
    where
      read : Reading
      read = reading (position_after r.start m.played) text

      at : (b : Bool) → clean S (if b then ends r GameTooLong m else move_row r C used read m).after.phase ≡ true
      at true = refl
      at false = at_move used read m h
  to_move used kind m h = in_turn kind m h

  flagged : (m : Match) → clean S (flag_row r C m).after.phase ≡ true
  flagged m = grind (arith, apart)

-- what Black's engine lacks is no fault of White, and what White's lacks none of Black
judged_so : (r : Rules) (S : Colour) (w b : Option MatchFault) (m : Match) → (S ≡ White → w ≡ None)
    → (S ≡ Black → b ≡ None) → clean S (judged r w b m).after.phase ≡ true
judged_so r White None None m p q = refl
judged_so r White None (Some f) m p q = refl
judged_so r White (Some f) b m p q = let no = p refl in absurd (cc)
judged_so r Black None None m p q = refl
judged_so r Black None (Some f) m p q = let no = q refl in absurd (cc)
judged_so r Black (Some f) b m p q = refl

-- a line in a handshake, by whether it ends it
shaken : (r : Rules) (S C : Colour) (items : List Item) (m : Match) → clean S m.phase ≡ true
    → (list_any ends_handshake items ≡ true
    → clean S (handshake_done r C (with_seat C (λ s. record s { items = s.items ++ items }) m)).after.phase ≡ true)
    → (list_any ends_handshake items ≡ false → (same_colour C S ≡ false) ⊎ (m.count + 1 < 1000))
    → clean S (handshake_row r C items m).after.phase ≡ true
shaken r S C items m h done few = at (list_any ends_handshake items) refl
  where
    n : Match
    n = with_seat C (λ s. record s { items = s.items ++ items }) m

    at : (b : Bool) → list_any ends_handshake items ≡ b
        → clean S (if b then handshake_done r C n else if nat_le 1000 (m.count + 1) then ends r (Faulted C NoDone) n
        else sends_nothing (record n { count = m.count + 1 })).after.phase ≡ true
    at true e = done e
    at false e = by_side (few e) (nat_le 1000 (m.count + 1)) refl
      where
        by_side : (same_colour C S ≡ false) ⊎ (m.count + 1 < 1000) → (b : Bool) → nat_le 1000 (m.count + 1) ≡ b
            → clean S (if b then ends r (Faulted C NoDone) n
            else sends_nothing (record n { count = m.count + 1 })).after.phase ≡ true
        by_side side false most = h
        by_side (inl apart) true most = ap not apart
        by_side (inr short) true most =
            let off : nat_le 1000 (m.count + 1) ≡ false = grind (arith, nat_tests, short) in
            let never : true ≡ false = sym most ∙ off in absurd (cc)

-- the other side's handshake is done
other_done : (r : Rules) (S C : Colour) (items : List Item) (m : Match) → same_colour C S ≡ false
    → Ready r (Handshake C) S m
    → clean S (handshake_done r C (with_seat C (λ s. record s { items = s.items ++ items }) m)).after.phase ≡ true
other_done r White White items m apart ready = absurd (cc)
other_done r Black Black items m apart ready = absurd (cc)
other_done r Black White items m apart ready = refl
other_done r White Black items m apart ready = judged_so r White _ _ _ (λ e. ready) (λ e. absurd (cc))

-- the end of a setup is no fault
set_up : (r : Rules) (S C : Colour) (m : Match) → clean S (setup_done r C m).after.phase ≡ true
set_up r S C m = grind arith

-- any line of the other side C
other_line : (r : Rules) (S C : Colour) → same_colour C S ≡ false → (kind : LineKind) (moment : ℕ) (m : Match)
    (p : Phase) → awaits_line p C ≡ true → clean S m.phase ≡ true → Ready r p S m
    → clean S (line_row r p kind moment m).after.phase ≡ true
other_line r S C apart kind moment m (Handshake c) aw h ready =
    let is : C ≡ c = sym (same_colour-true c C aw) in
    subst (λ (x : Colour). Ready r (Handshake x) S m → clean S (line_row r (Handshake x) kind moment m).after.phase ≡ true)
    is (at kind) ready
  where
    at : (k : LineKind) → Ready r (Handshake C) S m → clean S (line_row r (Handshake C) k moment m).after.phase ≡ true
    at (Features text) ready =
        shaken r S C (items_of text) (awaited_since moment m) h
        (λ e. other_done r S C (items_of text) (awaited_since moment m) apart (kept C S ready)) (λ e. inl apart)
      where
        kept : (C S : Colour) → Ready r (Handshake C) S m → Ready r (Handshake C) S (awaited_since moment m)
        kept White S x = tt
        kept Black White x = x
        kept Black Black x = tt
    at _ ready = shaken r S C [] m h (λ e. absurd (cc)) (λ e. inl apart)
other_line r S C apart kind moment m (Setup c) aw h ready =
    subst (λ (x : Colour). clean S (line_row r (Setup x) kind moment m).after.phase ≡ true) (sym (same_colour-true c C aw))
    (grind (arith, set_up r S C (awaited_since moment m), ignored r S C apart m h))
other_line r S C apart kind moment m (BeforeMove c opened) aw h ready =
    subst (λ (x : Colour). clean S (line_row r (BeforeMove x opened) kind moment m).after.phase ≡ true)
    (sym (same_colour-true c C aw)) (at (nat_lt (clock r m C) (moment - opened)))
  where
    at : (b : Bool) → clean S (if b then flag_row r C m
        else before_move r C (moment - opened) kind (awaited_since moment m)).after.phase ≡ true
    at true = flagged r S C apart m
    at false = to_move r S C apart (moment - opened) kind (awaited_since moment m) h
other_line r S C apart kind moment m (AfterMove c) aw h ready =
    subst (λ (x : Colour). clean S (line_row r (AfterMove x) kind moment m).after.phase ≡ true)
    (sym (same_colour-true c C aw)) (at kind)
  where
    by_number : (b : Bool) → clean S (if b then begins_turn r (other C) m else ignores r C m).after.phase ≡ true
    by_number true = refl
    by_number false = ignored r S C apart m h

    at : (k : LineKind) → clean S (line_row r (AfterMove C) k moment m).after.phase ≡ true
    at (Moves text) = ap not apart
    at (Answers n) = by_number (n == ping_number m C)
    at (Features text) = in_turn r S C apart (Features text) m h
    at Resigns = in_turn r S C apart Resigns m h
    at OffersDraw = in_turn r S C apart OffersDraw m h
    at ClaimsDraw = in_turn r S C apart ClaimsDraw m h
    at (ClaimsWin winner) = in_turn r S C apart (ClaimsWin winner) m h
    at Rejects = in_turn r S C apart Rejects m h
    at SaysElse = in_turn r S C apart SaysElse m h
other_line r S C apart kind moment m (Opening c) aw h ready = absurd (cc)
other_line r S C apart kind moment m (Over reason) aw h ready = absurd (cc)

-- ---- its own lines

-- the handshake of S is done, and its engine lacks nothing
own_done : (r : Rules) (S : Colour) (items : List Item) (m : Match) → missing r ((m.seat S).items ++ items) ≡ None
    → clean S (handshake_done r S (with_seat S (λ s. record s { items = s.items ++ items }) m)).after.phase ≡ true
own_done r White items m h = refl
own_done r Black items m h = judged_so r Black _ _ _ (λ e. absurd (cc)) (λ e. h)

-- fewer than 1,000 lines are ignored
quiet : (r : Rules) (S : Colour) (m : Match) → clean S m.phase ≡ true → m.count + 1 < 1000
    → clean S (ignores r S m).after.phase ≡ true
quiet r S m h few =
    let most : nat_le 10000 (m.count + 1) ≡ false = grind (arith, nat_tests, few) in
    ap (λ (b : Bool). clean S (if b then ends r (Faulted S Flood) m
    else sends_nothing (record m { count = m.count + 1 })).after.phase) most ∙ h

-- a line of S that is expected of it (`IsExpected`)
own_line : (r : Rules) (S : Colour) (kind : LineKind) (moment : ℕ) (m : Match) (p : Phase) → awaits_line p S ≡ true
    → clean S m.phase ≡ true → IsExpected r m p kind moment → clean S (line_row r p kind moment m).after.phase ≡ true
own_line r S kind moment m (Handshake c) aw h due =
    subst (λ (x : Colour). IsExpected r m (Handshake x) kind moment
    → clean S (line_row r (Handshake x) kind moment m).after.phase ≡ true) (sym (same_colour-true c S aw)) (at kind) due
  where
    at : (k : LineKind) → IsExpected r m (Handshake S) k moment
        → clean S (line_row r (Handshake S) k moment m).after.phase ≡ true
    at (Features text) (lacks, few) =
        shaken r S S (items_of text) (awaited_since moment m) h
        (λ e. own_done r S (items_of text) (awaited_since moment m) (lacks e)) (λ e. inr (few e))
    at SaysElse few = shaken r S S [] m h (λ e. absurd (cc)) (λ e. inr few)
    at _ due = absurd due
own_line r S kind moment m (Setup c) aw h due =
    subst (λ (x : Colour). IsExpected r m (Setup x) kind moment
    → clean S (line_row r (Setup x) kind moment m).after.phase ≡ true) (sym (same_colour-true c S aw)) (at kind) due
  where
    at : (k : LineKind) → IsExpected r m (Setup S) k moment → clean S (line_row r (Setup S) k moment m).after.phase ≡ true
    at (Answers n) due =
        subst (λ (j : ℕ). clean S (line_row r (Setup S) (Answers j) moment m).after.phase ≡ true) (sym due)
        (set_up r S S (awaited_since moment m))
    at SaysElse few = quiet r S m h few
    at _ due = absurd due
own_line r S kind moment m (BeforeMove c opened) aw h due =
    subst (λ (x : Colour). IsExpected r m (BeforeMove x opened) kind moment
    → clean S (line_row r (BeforeMove x opened) kind moment m).after.phase ≡ true) (sym (same_colour-true c S aw))
    (at kind) due
  where
    legal : (move : Move) → clean S (move_row r S (moment - opened) (reads.Move move) (awaited_since moment m)).after.phase
        ≡ true
    legal move = grind arith

    limited : (b : Bool) (read : Reading) (move : Move) → read ≡ reads.Move move
        → clean S (if b then ends r GameTooLong (awaited_since moment m)
        else move_row r S (moment - opened) read (awaited_since moment m)).after.phase ≡ true
    limited true read move e = refl
    limited false read move e =
        subst (λ (x : Reading). clean S (move_row r S (moment - opened) x (awaited_since moment m)).after.phase ≡ true)
        (sym e) (legal move)

    at : (k : LineKind) → IsExpected r m (BeforeMove S opened) k moment
        → clean S (line_row r (BeforeMove S opened) k moment m).after.phase ≡ true
    at (Moves text) (timely, move, denoted) =
        let early : nat_lt (clock r m S) (moment - opened) ≡ false = grind (arith, nat_tests, timely) in
        ap (λ (b : Bool). clean S (if b then flag_row r S m
        else before_move r S (moment - opened) (Moves text) (awaited_since moment m)).after.phase) early
        ∙ limited (nat_le r.limit (length m.played)) (reading (position_after r.start m.played) text) move denoted
    at SaysElse (timely, few) =
        let early : nat_lt (clock r m S) (moment - opened) ≡ false = grind (arith, nat_tests, timely) in
        ap (λ (b : Bool). clean S (if b then flag_row r S m else ignores r S (awaited_since moment m)).after.phase) early
        ∙ quiet r S (awaited_since moment m) h few
    at _ due = absurd due
own_line r S kind moment m (AfterMove c) aw h due =
    subst (λ (x : Colour). IsExpected r m (AfterMove x) kind moment
    → clean S (line_row r (AfterMove x) kind moment m).after.phase ≡ true) (sym (same_colour-true c S aw)) (at kind) due
  where
    at : (k : LineKind) → IsExpected r m (AfterMove S) k moment
        → clean S (line_row r (AfterMove S) k moment m).after.phase ≡ true
    at (Answers n) due =
        let is : (n == ping_number m S) ≡ true = grind (arith, nat_tests, due) in
        ap (λ (b : Bool). clean S (if b then begins_turn r (other S) m else ignores r S m).after.phase) is
    at SaysElse few = quiet r S m h few
    at _ due = absurd due
own_line r S kind moment m (Opening c) aw h due = absurd (cc)
own_line r S kind moment m (Over reason) aw h due = absurd (cc)

-- ---- what White's engine lacks

-- at the end of its handshake the engine of S lacks nothing
not_lacking : (r : Rules) (S : Colour) (kind : LineKind) (moment : ℕ) (m : Match) → IsExpected r m (Handshake S) kind moment
    → list_any ends_handshake (items_in_line kind) ≡ true
    → missing r ((m.seat S).items ++ items_in_line kind) ≡ None
not_lacking r S (Features text) moment m due e = due.0 e
not_lacking r S SaysElse moment m due e = absurd (cc)
not_lacking r S _ moment m due e = absurd due

-- `Ready` holds of another match in which White's items are the same
ready_so : (r : Rules) (p : Phase) (S : Colour) (m n : Match) → (n.seat White).items ≡ (m.seat White).items
    → Ready r p S m → Ready r p S n
ready_so r (Handshake Black) White m n e h = ap (missing r) e ∙ h
ready_so r (Handshake Black) Black m n e h = tt
ready_so r (Handshake White) S m n e h = tt
ready_so r (Setup c) S m n e h = tt
ready_so r (Opening c) S m n e h = tt
ready_so r (BeforeMove c opened) S m n e h = tt
ready_so r (AfterMove c) S m n e h = tt
ready_so r (Over reason) S m n e h = tt

-- `Ready` holds once White's handshake is done
next_ready : (r : Rules) (S C : Colour) (kind : LineKind) (moment : ℕ) (m : Match)
    → (S ≡ C → IsExpected r m m.phase kind moment) → m.phase ≡ Handshake C → C ≡ White
    → list_any ends_handshake (items_in_line kind) ≡ true → Ready r (Handshake Black) S (said_by C kind m)
next_ready r White White kind moment m due p s d =
    not_lacking r White kind moment m (subst (λ (q : Phase). IsExpected r m q kind moment) p (due refl)) d
next_ready r White Black kind moment m due p s d = absurd (cc)
next_ready r Black C kind moment m due p s d = tt

-- `Ready` stays while a handshake goes on
still_ready : (r : Rules) (S C : Colour) (kind : LineKind) (m : Match) → m.phase ≡ Handshake C → Ready r m.phase S m
    → Ready r m.phase S (said_by C kind m)
still_ready r S White kind m p ready = subst (λ (q : Phase). Ready r q S (said_by White kind m)) (sym p) tt
still_ready r S Black kind m p ready = ready_so r m.phase S m (said_by Black kind m) refl ready

-- an offer leaves White's items
offered_items : (C : Colour) (m : Match) → ((offering C m).after.seat White).items ≡ (m.seat White).items
offered_items White m = refl
offered_items Black m = refl

-- any line keeps `Ready`
ready_after : (r : Rules) (S C : Colour) (kind : LineKind) (moment : ℕ) (m : Match) → awaits_line m.phase C ≡ true
    → (S ≡ C → IsExpected r m m.phase kind moment) → Ready r m.phase S m
    → Ready r (line_row r m.phase kind moment m).after.phase S (line_row r m.phase kind moment m).after
ready_after r S C kind moment m aw due ready =
    line_cases r C kind moment m (λ e. Ready r e.after.phase S e.after) aw (λ since.
    let n : Match = record m { since = since } in record {
      handshake_stops = λ p reason k most w. tt;
      handshake_counts = λ p d few. ready_so r m.phase S (said_by C kind m)
          (record (said_by C kind n) { count = m.count + 1 }) refl (still_ready r S C kind m p ready);
      handshake_next = λ p s d. ready_so r (Handshake Black) S (said_by C kind m)
          (enter (Handshake Black) (said_by C kind n)) refl (next_ready r S C kind moment m due p s d);
      handshake_last = λ p s d. tt;
      setup_counts = λ p pong few. ready_so r m.phase S m (record n { count = m.count + 1 }) refl ready;
      setup_next = λ p s pong. tt;
      setup_last = λ p s pong v d. tt;
      setup_draws = λ p claim v d. tt;
      setup_decides = λ p v e. tt;
      stops = λ done reason w. tt;
      counts = λ on none few. ready_so r m.phase S m (record n { count = m.count + 1 }) refl ready;
      offers = λ on none own. ready_so r m.phase S m (offering C n).after (offered_items C n) ready;
      plays = λ text move opened is p read room timely v d. tt;
      draws = λ text move opened claim is p read room timely v d. tt;
      decides = λ text move opened v is p read room timely e. tt;
      passes = λ p none. tt;
    })

-- ---- along the acts

-- from a moment on, at which the match is `m`, the engine of S answers
record AnswersFrom (r : Rules) (S : Colour) (m : Match) (K : List Act) : Type 0 where
  -- each line of S is expected when it comes
  lines : (before after : List Act) (text : Option (List ℕ)) (moment : ℕ)
      → K ≡ before ++ Happens (Line S text moment) ∷ after
      → let n = match_after r m before in IsExpected r n n.phase (line_kind text) moment
  -- at no silence of S its time is over
  waits : (before after : List Act) (moment : ℕ) → K ≡ before ++ Happens (Silent S moment) ∷ after
      → let n = match_after r m before in is_beyond r n n.phase S moment ≡ false
  -- its output doesn't end, and no read from it and no write to it fails
  goes_on : has_ended S K ≡ false
  is_read : has_failed_read S K ≡ false
  is_written : is_broken K S ≡ false

some : (n : ℕ) → nat_lt 0 (suc n) ≡ true
some n = grind (arith, nat_tests)

-- if no block among these failed, none among the later ones did
none_more : (xs ys : List (List SentLine)) → nat_lt 0 (length (xs ++ ys)) ≡ false → nat_lt 0 (length ys) ≡ false
none_more [] ys h = h
none_more (x ∷ xs) ys h = let never : true ≡ false = sym (some (length (xs ++ ys))) ∙ h in absurd (cc)

-- the match is not over, or is over for a reason for which S is not to blame
abbrev Fine : Rules → Colour → Match → Type 0
Fine r S m = (clean S m.phase ≡ true) × Ready r m.phase S m

-- a match that is not over is clean
on_is_clean : (S : Colour) (p : Phase) → is_over p ≡ false → clean S p ≡ true
on_is_clean S p h = grind (arith, h)

-- a silence of the other side
others_silence : (r : Rules) (S c : Colour) (k : ℕ) (m : Match) (p : Phase) → same_colour c S ≡ false
    → clean S m.phase ≡ true → clean S (silence_row r p c k m).after.phase ≡ true
others_silence r S c k m p apart h = at p
  where
    since : ℕ
    since = unwrap_or m.since k

    reply : (fault : MatchFault) (b : Bool)
        → clean S (if b then ends r (Faulted c fault) m else sends_nothing (awaited_since since m)).after.phase ≡ true
    reply fault true = ap not apart
    reply fault false = h

    over : Bool
    over = option_map_or (λ limit. nat_lt limit (k - since)) r.patience.reply false

    flag : (b : Bool) → clean S (if b then flag_row r c m else sends_nothing m).after.phase ≡ true
    flag true = flagged r S c apart m
    flag false = h

    at : (p : Phase) → clean S (silence_row r p c k m).after.phase ≡ true
    at (Handshake side) = reply NoHandshake over
    at (Setup side) = reply NoAnswer over
    at (BeforeMove side opened) = flag (nat_lt (clock r m c) (k - opened))
    at (AfterMove side) = reply NoAnswer over
    at (Opening side) = h
    at (Over reason) = h

module _ (r : Rules) (S : Colour) where
  -- if S answers in some acts, so it does in those after the first
  later : (m n : Match) (a : Act) (K : List Act) → ((before : List Act) → match_after r m (a ∷ before) ≡ match_after r n before)
      → AnswersFrom r S m (a ∷ K) → AnswersFrom r S n K
  later m n a K goes h = record {
    lines = λ before after text moment e. subst (λ (x : Match). IsExpected r x x.phase (line_kind text) moment) (goes before)
        (h.lines (a ∷ before) after text moment (ap (λ l. a ∷ l) e));
    waits = λ before after moment e. subst (λ (x : Match). is_beyond r x x.phase S moment ≡ false) (goes before)
        (h.waits (a ∷ before) after moment (ap (λ l. a ∷ l) e));
    goes_on = (or_parts (is_end_of S a) (has_ended S K) h.goes_on).1;
    is_read = (or_parts (is_failed_read_of S a) (has_failed_read S K) h.is_read).1;
    is_written = none_more (broken_block S a) (broken_blocks S K) h.is_written;
  }

  -- a line of either side keeps the match fine
  line_fine : (m : Match) (c : Colour) (t : Option (List ℕ)) (k : ℕ) (K : List Act) → awaits_line m.phase c ≡ true
      → AnswersFrom r S m (Happens (Line c t k) ∷ K) → Fine r S m → Fine r S (effect r m (Line c t k)).after
  line_fine m c t k K aw h fine = (
    by_side (same_colour c S) refl,
    ready_after r S c (line_kind t) k m aw (λ e. due (sym e)) fine.1,
  )
    where
      due : c ≡ S → IsExpected r m m.phase (line_kind t) k
      due e = h.lines [] K t k (ap (λ (x : Colour). Happens (Line x t k) ∷ K) e)

      by_side : (b : Bool) → same_colour c S ≡ b → clean S (line_row r m.phase (line_kind t) k m).after.phase ≡ true
      by_side true e =
          let own : c ≡ S = same_colour-true c S e in
          own_line r S (line_kind t) k m m.phase (subst (λ (x : Colour). awaits_line m.phase x ≡ true) own aw) fine.0
          (due own)
      by_side false e = other_line r S c e (line_kind t) k m m.phase aw fine.0 fine.1

  -- a silence of either side does, too
  silence_fine : (m : Match) (c : Colour) (k : ℕ) (K : List Act) → awaits_line m.phase c ≡ true
      → AnswersFrom r S m (Happens (Silent c k) ∷ K) → Fine r S m → Fine r S (effect r m (Silent c k)).after
  silence_fine m c k K aw h fine = (
    by_side (same_colour c S) refl,
    silence_cases r c k m (λ e. Ready r e.after.phase S e.after) (record {
      stops = λ reason w. tt;
      goes_on = λ since. ready_so r m.phase S m (record m { since = since }) refl fine.1;
    }),
  )
    where
      by_side : (b : Bool) → same_colour c S ≡ b → clean S (silence_row r m.phase c k m).after.phase ≡ true
      by_side true e =
          let own : c ≡ S = same_colour-true c S e in
          on_is_clean S (silence_row r m.phase c k m).after.phase
          (beyond r m c k m.phase refl aw
          ∙ ap (λ (x : Colour). is_beyond r m m.phase x k) own
          ∙ h.waits [] K k (ap (λ (x : Colour). Happens (Silent x k) ∷ K) own))
      by_side false e = others_silence r S c k m m.phase e fine.0

  -- a match in which S answers is fine at its end
  clean_at_end : (H : List Act) (final : Match) → IsMatch r H final → AnswersFrom r S beginning.after H
      → Fine r S final
  clean_at_end H final g answers =
      by_cases r final (λ m due K. AnswersFrom r S m K → Fine r S m → Fine r S final) (record {
        sends = λ m end b due K p h fine. p (later m m (Sends b) K (λ before. refl) h) fine;
        fails = λ m end b due K on p h fine. p
            (later m (effect r m (FailsToWrite b.to)).after (SendFails b) K (λ before. ap (λ (o : Bool).
            match_after r (if o then m else (effect r m (FailsToWrite b.to)).after) before) on) h)
            (not_written b K h, tt);
        fails_late = λ m end b due K over p h fine. p
            (later m m (SendFails b) K (λ before. ap (λ (o : Bool).
            match_after r (if o then m else (effect r m (FailsToWrite b.to)).after) before) over) h) fine;
        reads = λ m end c t k K aw p h fine. p
            (later m (effect r m (Line c t k)).after (Happens (Line c t k)) K (λ before. refl) h)
            (line_fine m c t k K aw h fine);
        opens = λ m end c k K o p h fine. p
            (later m (effect r m (Opened c k)).after (Happens (Opened c k)) K (λ before. refl) h) (refl, tt);
        silent = λ m end c k K aw limited p h fine. p
            (later m (effect r m (Silent c k)).after (Happens (Silent c k)) K (λ before. refl) h)
            (silence_fine m c k K aw h fine);
        ends = λ m end c K aw p h fine. p
            (later m (effect r m (OutputEnds c)).after (Happens (OutputEnds c)) K (λ before. refl) h)
            (ap not (or_parts (same_colour c S) (has_ended S K) h.goes_on).0, tt);
        read_fails = λ m end c K aw p h fine. p
            (later m (effect r m (FailsToRead c)).after (Happens (FailsToRead c)) K (λ before. refl) h)
            (ap not (or_parts (same_colour c S) (has_failed_read S K) h.is_read).0, tt);
      }) (λ o h fine. fine) beginning.after (blocks_from White beginning.to) H g answers (refl, tt)
    where
      not_written : {m : Match} (b : Block) (K : List Act) → AnswersFrom r S m (SendFails b ∷ K)
          → not (same_colour b.to S) ≡ true
      not_written b K h = at (same_colour b.to S) h.is_written
        where
          at : (x : Bool) → nat_lt 0 (length (list_if x (b.lines ∷ []) ++ broken_blocks S K)) ≡ false → not x ≡ true
          at true e = let never : true ≡ false = sym (some (length (broken_blocks S K))) ∙ e in absurd (cc)
          at false e = refl

-- ---- the report

-- a side that wins by the board's verdict mates the other
by_mate : (S : Colour) (v : Verdict) → (verdict_result v).outcome ≡ win_of S → v ≡ mates S
by_mate White WhiteMates e = refl
by_mate White BlackMates e = absurd (cc)
by_mate White Stalemate e = absurd (cc)
by_mate White InsufficientMaterial e = absurd (cc)
by_mate White FivefoldRepetition e = absurd (cc)
by_mate White SeventyFiveMoves e = absurd (cc)
by_mate Black WhiteMates e = absurd (cc)
by_mate Black BlackMates e = refl
by_mate Black Stalemate e = absurd (cc)
by_mate Black InsufficientMaterial e = absurd (cc)
by_mate Black FivefoldRepetition e = absurd (cc)
by_mate Black SeventyFiveMoves e = absurd (cc)

-- if the other side of S wins because `c` lost, then `c` is S
other_loses : (S c : Colour) → not (same_colour c S) ≡ true → win_of (other c) ≡ win_of (other S) → ⊥
other_loses White White apart e = cc
other_loses White Black apart e = cc
other_loses Black White apart e = cc
other_loses Black Black apart e = cc

-- neither side wins a drawn or an unfinished game
no_win : (outcome : Outcome) (S : Colour) → (outcome ≡ Draw) ⊎ (outcome ≡ Unfinished) → outcome ≡ win_of (other S) → ⊥
no_win outcome White (inl drawn) e = let no : Draw ≡ BlackWins = sym drawn ∙ e in cc
no_win outcome White (inr open_) e = let no : Unfinished ≡ BlackWins = sym open_ ∙ e in cc
no_win outcome Black (inl drawn) e = let no : Draw ≡ WhiteWins = sym drawn ∙ e in cc
no_win outcome Black (inr open_) e = let no : Unfinished ≡ WhiteWins = sym open_ ∙ e in cc

-- but for a verdict of the board, a match that ended for a reason for which S is not to blame is no win of the other
no_loss : (S : Colour) (reason : Reason) → is_clean S reason ≡ true → ((v : Verdict) → reason ≡ Decided v → ⊥)
    → outcome_by_reason reason ≡ win_of (other S) → ⊥
no_loss S (Decided v) apart undecided e = undecided v refl
no_loss S (over_by.Resigns c) apart undecided e = other_loses S c apart e
no_loss S (MovesIllegally c) apart undecided e = other_loses S c apart e
no_loss S (MovesOutOfTurn c) apart undecided e = other_loses S c apart e
no_loss S (ClaimsFalsely c) apart undecided e = other_loses S c apart e
no_loss S (RejectsLegalMove c) apart undecided e = other_loses S c apart e
no_loss S (Forfeits c) apart undecided e = other_loses S c apart e
no_loss S (Claimed claim) apart undecided e = no_win Draw S (inl refl) e
no_loss S Agreed apart undecided e = no_win Draw S (inl refl) e
no_loss S ForfeitsToBareKing apart undecided e = no_win Draw S (inl refl) e
no_loss S GameTooLong apart undecided e = no_win Unfinished S (inr refl) e
no_loss S (Faulted c f) apart undecided e = no_win Unfinished S (inr refl) e

-- the side of a fault
abbrev side_in : Option (Colour × MatchFault) → Colour
side_in fault = option_map_or (λ (f : Colour × MatchFault). f.0) fault White

-- the first side to which a block failed is another, if none failed to S
found_other : (S : Colour) (w b : Bool) (f : MatchFault) → (S ≡ White → w ≡ false) → (S ≡ Black → b ≡ false)
    → option_map {U = Colour × MatchFault} (λ (side : Colour). (side, Write))
    (if w then Some White else (if b then Some Black else None)) ≡ Some (S, f) → ⊥
found_other White true b f p q e = let never : true ≡ false = p refl in cc
found_other White false true f p q e = let side : Black ≡ White = ap side_in e in cc
found_other White false false f p q e = cc
found_other Black true b f p q e = let side : White ≡ Black = ap side_in e in cc
found_other Black false true f p q e = let never : true ≡ false = q refl in cc
found_other Black false false f p q e = cc

-- the fault that is reported is not of a side that is not to blame and to which no block failed
no_fault_of : (S : Colour) (reason : Reason) (failed : Colour → Bool) (f : MatchFault) → is_clean S reason ≡ true
    → failed S ≡ false → reported_fault reason failed ≡ Some (S, f) → ⊥
no_fault_of S (Faulted c g) failed f apart sent e =
    let own : c ≡ S = ap side_in e in
    let same : same_colour c S ≡ true = ap (λ x. same_colour x S) own ∙ same_colour-self S in
    let never : false ≡ true = sym (ap not same) ∙ apart in cc
no_fault_of S _ failed f apart sent e =
    found_other S (failed White) (failed Black) f (λ is. ap failed (sym is) ∙ sent) (λ is. ap failed (sym is) ∙ sent) e

pub answering_engines_are_blameless : AnsweringEnginesAreBlameless
answering_engines_are_blameless r S H final reason end g report answers = record {
  no_fault = λ fault e. no_fault_of S reason (λ c. nat_lt 0 (length (broken_blocks c H))) fault at_end answers.is_written
      (sym report.fault ∙ e);
  mated = λ e. mated (verdict r.start final.played) refl
      (ap (λ (t : Outcome × List ℕ × HowEnded). t.0) report.report ∙ e);
}
  where
    fine : Fine r S final
    fine = clean_at_end r S H final g (record {
      lines = λ before after text moment e. due_is_expected r S before (match_after r beginning.after before)
          (facts_at r S before after text moment final (subst (λ (K : List Act). IsMatch r K final) e g))
          (answers.lines before after text moment e);
      waits = answers.waits;
      goes_on = answers.goes_on;
      is_read = answers.is_read;
      is_written = answers.is_written;
    })

    at_end : is_clean S reason ≡ true
    at_end = sym (ap (clean S) report.ended) ∙ fine.0

    mated : (v : Option Verdict) → verdict r.start final.played ≡ v
        → outcome_by_reason (reported_reason v reason) ≡ win_of (other S)
        → verdict r.start final.played ≡ Some (mates (other S))
    mated (Some v) is e = is ∙ ap Some (by_mate (other S) v e)
    mated None is e =
        absurd (no_loss S reason at_end (λ v decided.
        let of_board : verdict r.start final.played ≡ Some v =
        decided_by_the_board r v H final g (report.ended ∙ ap Over decided) in
        let no : None ≡ Some v = sym is ∙ of_board in absurd (cc)) e)
