-- What holds of every match that is played (`IsSane`) holds at its beginning, and stays so with each event of an
-- engine's output; none of these events ends a match by a failed write (`IsWritten`). By cases of the line or silence
-- (shared.LineCases).
use Rattle.std.proofs.Common.{◌≡◌, ℕ, ◌+◌, ◌-◌, ◌≤◌, ◌<◌, true, false, [], ◌∷◌, ◌++◌, length, length-append, refl, ap, sym, ◌∙◌, subst, Option, None, arith}
use Rattle.chess_base.specs.{declared.man.Colour.Colour, declared.man.Colour.TheVariants.White, declared.man.Colour.TheVariants.Black, declared.man.Move.Move, Men.other}
use Rattle.chess_base.proofs.shared.Men.{same_colour-true}
use Rattle.cecp_engine.specs.EngineLines.{LineKind}
use Rattle.chess_match.specs.{laws.Laws.line_kind, Acts.awaits_line, Acts.is_over, Reasons.is_write_fault_of, Rules.Rules, declared.reason.Reason.Reason, declared.reason.Reason.TheVariants.Claimed, declared.reason.Reason.TheVariants.Decided, ties.Driving.is_of_output, ties.Sane.IsSane, ties.Sane.IsWritten, ties.Sane.in_turn}
use Rattle.chess_match.specs.Effects.{Match, Phase, Handshake, Setup, Opening, Over, beginning, effect, line_row, moved}
use Rattle.chess_match.specs.Events.{Event, Line, Silent, OutputEnds, FailsToRead}
use Rattle.chess_match.proofs.shared.LineCases.{LineCases, line_cases, offering, said_by, silence_cases, offered_used, said_used}
use Rattle.chess_game.specs.Ends.{verdict}
use Rattle.chess_match.proofs.shared.MatchCases.{on_when_read}

pub sane_start : (r : Rules) → IsSane r beginning.after
sane_start r = record { undecided = λ h. absurd cc; few = λ S. omega arith; count = omega arith }

pub sane_over : (r : Rules) (m : Match) (reason : Reason) → IsSane r m → IsSane r (record m { phase = Over reason })
sane_over r m reason s = record { undecided = λ h. absurd cc; few = s.few; count = s.count }

-- a match is sane, and didn't end because a write failed
abbrev Fine : Rules → Match → Type 0
Fine r m = IsSane r m × IsWritten m

-- ---- a match that ends, or goes on

-- a sane match is fine when it ends for a reason that is no failed write
over_fine : (r : Rules) (m : Match) (reason : Reason) → IsSane r m → ((S : Colour) → is_write_fault_of reason S ≡ false)
    → Fine r (record m { phase = Over reason })
over_fine r m reason s mild = (
  sane_over r m reason s,
  λ why e S. let same : reason ≡ why = cc in subst (λ x. is_write_fault_of x S ≡ false) same (mild S),
)

-- a sane match that goes on is fine
on_fine : (r : Rules) (m : Match) → is_over m.phase ≡ false → IsSane r m → Fine r m
on_fine r m on s = (s, λ why e S. let no : true ≡ false = sym (ap is_over e) ∙ on in absurd cc)

-- a sane match is fine when it enters a phase with lines counted from 0; a turn only if the board has no verdict
entered_fine : (r : Rules) (m : Match) (p : Phase) → is_over p ≡ false
    → (in_turn p ≡ true → verdict r.start m.played ≡ None) → IsSane r m → Fine r (record m { phase = p; count = 0 })
entered_fine r m p on none s =
    on_fine r _ on (record { undecided = none; few = s.few; count = omega arith })

-- after a move each side's moves are still among those played
moved_few : (m : Match) (S X : Colour) (move : Move) (used : ℕ) → length (m.seat X).used ≤ length m.played
    → length ((moved S move used m).seat X).used ≤ length (m.played ++ move ∷ [])
moved_few m S X move used h =
    grind (arith, h, length-append m.played (move ∷ []), length-append (m.seat X).used (used ∷ []))

-- it doesn't matter since when a reply is awaited
sane_since : (r : Rules) (m : Match) (since : Option ℕ) → IsSane r m → IsSane r (record m { since = since })
sane_since r m since s = record { undecided = s.undecided; few = s.few; count = s.count }

module _ (r : Rules) (S : Colour) (kind : LineKind) (m : Match) (on : is_over m.phase ≡ false) (s : IsSane r m) where
  -- after the items of a line were added the match is sane
  said : IsSane r (said_by S kind m)
  said = record { undecided = s.undecided; few = λ X. rw (said_used S X kind m) (s.few X); count = s.count }

  -- after one line more was counted, of fewer than 10,000, it is fine
  counted : m.count + 1 < 10000 → Fine r (record m { count = m.count + 1 })
  counted few = on_fine r (record m { count = m.count + 1 }) on
      (record { undecided = s.undecided; few = s.few; count = few })

  -- each effect that a line can have leaves the match fine
  line_fits : (moment : ℕ) → LineCases r S kind moment m (λ e. Fine r e.after)
  line_fits moment = record {
    handshake_stops = λ p reason k most w. over_fine r (record (said_by S kind m) { count = k }) reason (record {
      undecided = s.undecided;
      few = said.few;
      count = let c = s.count in omega (arith, most, c);
    }) w.0;
    handshake_counts = λ p d few. on_fine r (record (said_by S kind m) { count = m.count + 1 }) on
        (record { undecided = s.undecided; few = said.few; count = omega (arith, few) });
    handshake_next = λ p t d. entered_fine r (said_by S kind m) (Handshake Black) refl (λ h. absurd cc) said;
    handshake_last = λ p t d. entered_fine r (said_by S kind m) (Setup White) refl (λ h. absurd cc) said;
    setup_counts = λ p pong few. counted few;
    setup_next = λ p t pong. entered_fine r m (Setup Black) refl (λ h. absurd cc) s;
    setup_last = λ p t pong v d. entered_fine r m (Opening r.start.side) refl (λ h. v) s;
    setup_draws = λ p claim v d. over_fine r m (Claimed claim) s (λ X. refl);
    setup_decides = λ p v e. over_fine r m (Decided v) s (λ X. refl);
    stops = λ g reason w. over_fine r m reason s w.0;
    counts = λ t none few. counted few;
    offers = λ t none own. on_fine r (offering S m).after on
        (record { undecided = s.undecided; few = λ X. rw (offered_used S X m) (s.few X); count = s.count });
    plays = λ text move opened is p read room timely v d. on_fine r (moved S move (moment - opened) m) refl (record {
      undecided = λ h. v;
      few = λ X. moved_few m S X move (moment - opened) (s.few X);
      count = s.count;
    });
    draws = λ text move opened claim is p read room timely v d.
        over_fine r (record (moved S move (moment - opened) m) { phase = Over (Claimed claim) }) (Claimed claim) (record {
          undecided = λ h. absurd cc;
          few = λ X. moved_few m S X move (moment - opened) (s.few X);
          count = s.count;
        }) (λ X. refl);
    decides = λ text move opened v is p read room timely e.
        over_fine r (record (moved S move (moment - opened) m) { phase = Over (Decided v) }) (Decided v) (record {
          undecided = λ h. absurd cc;
          few = λ X. moved_few m S X move (moment - opened) (s.few X);
          count = s.count;
        }) (λ X. refl);
    passes = λ p none. entered_fine r m (Opening (other S)) refl (λ h. s.undecided (ap in_turn p)) s;
  }

-- a line leaves a sane match fine
line_fine : (r : Rules) (S : Colour) (kind : LineKind) (moment : ℕ) (m : Match) → awaits_line m.phase S ≡ true
    → IsSane r m → Fine r (line_row r m.phase kind moment m).after
line_fine r S kind moment m aw s = line_cases r S kind moment m (λ e. Fine r e.after) aw
    (λ since. line_fits r S kind (record m { since = since }) (on_when_read m.phase S aw) (sane_since r m since s) moment)

-- a silence leaves a sane match fine
silence_fine : (r : Rules) (S : Colour) (moment : ℕ) (m : Match) → awaits_line m.phase S ≡ true → IsSane r m
    → Fine r (effect r m (Silent S moment)).after
silence_fine r S moment m aw s = silence_cases r S moment m (λ e. Fine r e.after) (record {
  stops = λ reason w. over_fine r m reason s w.0;
  goes_on = λ since. on_fine r (record m { since = since }) (on_when_read m.phase S aw) (sane_since r m since s);
})

-- ---- an event

-- a line, a silence, an end or a failed read of the engine of S
pub fine_after : (r : Rules) (m : Match) (S : Colour) (e : Event) → is_of_output S e ≡ true
    → awaits_line m.phase S ≡ true → IsSane r m → Fine r (effect r m e).after
fine_after r m S (Line c t n) is h s = line_fine r S (line_kind t) n m h s
fine_after r m S (Silent c n) is h s =
    subst (λ (x : Colour). Fine r (effect r m (Silent x n)).after) (sym (same_colour-true c S is))
    (silence_fine r S n m h s)
fine_after r m S (OutputEnds c) is h s = over_fine r m _ s (λ X. refl)
fine_after r m S (FailsToRead c) is h s = over_fine r m _ s (λ X. refl)
fine_after r m S e is h s = absurd cc
