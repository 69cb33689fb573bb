-- Some lines are ignored, such as thinking before a move: with fewer than 9,999 before it in its setup or turn such a
-- line is only counted, and the 10,000th ends the match. In each phase, and for each kind of such a line, the rules
-- lead to the effect of ignoring it, of which both are shown (`ignored`).
use Rattle.std.proofs.Common.{◌≡◌, ℕ, ◌+◌, ◌-◌, ◌≤◌, Bool, true, false, List, [], length, refl, sym, ap, subst, arith, Option, Some, leb-false, leb-true, if◌then◌else◌, nat_le, nat_lt, ◌==◌}
use Rattle.std.proofs.lemmas.Bool.Decides.{nat_tests}
use Rattle.chess_base.specs.{declared.man.Colour.Colour, Men.other}
use Rattle.cecp_engine.specs.EngineLines.{LineKind, Features, Moves, Resigns, OffersDraw, ClaimsDraw, ClaimsWin, Rejects, Answers, SaysElse}
use Rattle.chess_match.specs.Effects.{Match, Phase, Setup, BeforeMove, AfterMove, awaited_since, before_move, begins_turn, clock, ends, flag_row, ignores, line_row, ping_number, sends_nothing, setup_done, turn_row}
use Rattle.chess_match.specs.{Rules.Rules, declared.reason.MatchFault.TheVariants.Flood, declared.reason.Reason.TheVariants.Faulted, declared.reason.Reason.TheVariants.RejectsLegalMove, laws.Laws.is_pong, laws.Laws.line_kind}
use Rattle.chess_match_laws.specs.Ignored.{IsIgnored, OtherLinesAreIgnored, is_talk}

-- if no more was used than was left, the flag has not fallen
pub in_time : (left used : ℕ) → used ≤ left → nat_lt left used ≡ false
in_time left used h = grind (arith, nat_tests, h)

module _ (r : Rules) (S : Colour) (m : Match) where
  -- the match, but a reply is awaited since another moment
  abbrev since_then : Option ℕ → Match
  since_then since = record m { since = since }

  -- an ignored line only counts, and the 10,000th ends the match
  ignored : (since : Option ℕ) → IsIgnored S m (ignores r S (since_then since))
  ignored since = at (nat_le 10000 (m.count + 1)) refl
    where
      at : (b : Bool) → nat_le 10000 (m.count + 1) ≡ b
          → IsIgnored S m (if b then ends r (Faulted S Flood) (since_then since)
          else sends_nothing (record (since_then since) { count = m.count + 1 }))
      at true e = let most = leb-true 10000 (m.count + 1) e in record {
        few = λ h. absurd (omega (arith, most, h));
        many = λ h. refl;
      }
      at false e = let more = leb-false 10000 (m.count + 1) e in record {
        few = λ h. record {
          phase = refl;
          played = refl;
          seats = λ X. refl;
          ignored = refl;
          sent = λ X. refl;
        };
        many = λ h. absurd (omega (arith, more, h));
      }

  -- `Illegal move`, where the other side made no move
  rejected : (since : Option ℕ) → (m.seat (other S)).used ≡ [] → IsIgnored S m (turn_row r S Rejects (since_then since))
  rejected since none = at (nat_lt 0 (length (m.seat (other S)).used)) (ap (λ (us : List ℕ). nat_lt 0 (length us)) none)
    where
      at : (b : Bool) → b ≡ false → IsIgnored S m (if b then ends r (RejectsLegalMove S) (since_then since)
          else ignores r S (since_then since))
      at true e = absurd (cc)
      at false e = ignored since

  module _ (moment : ℕ) where
    -- a line in a setup that is not `pong 1`
    in_setup : (kind : LineKind) → is_pong 1 kind ≡ false → IsIgnored S m (line_row r (Setup S) kind moment m)
    in_setup (Answers n) off = at (n == 1) off
      where
        at : (b : Bool) → b ≡ false
            → IsIgnored S m (if b then setup_done r S (awaited_since moment m) else ignores r S m)
        at true e = absurd (cc)
        at false e = ignored m.since
    in_setup _ off = ignored m.since

    -- before a move, in time, the line does what `before_move` says
    timely : (kind : LineKind) (opened : ℕ) → moment - opened ≤ clock r m S
        → IsIgnored S m (before_move r S (moment - opened) kind (awaited_since moment m))
        → IsIgnored S m (line_row r (BeforeMove S opened) kind moment m)
    timely kind opened time h =
        at (nat_lt (clock r m S) (moment - opened)) (in_time (clock r m S) (moment - opened) time)
      where
        at : (b : Bool) → b ≡ false → IsIgnored S m (if b then flag_row r S m
            else before_move r S (moment - opened) kind (awaited_since moment m))
        at true e = absurd (cc)
        at false e = h

    -- talk before a move
    talks : (kind : LineKind) (used : ℕ) → is_talk kind ≡ true
        → IsIgnored S m (before_move r S used kind (awaited_since moment m))
    talks SaysElse used is = ignored (Some moment)
    talks (Features text) used is = ignored (Some moment)
    talks (Answers n) used is = ignored (Some moment)
    talks (Moves text) used is = absurd (cc)
    talks Resigns used is = absurd (cc)
    talks OffersDraw used is = absurd (cc)
    talks ClaimsDraw used is = absurd (cc)
    talks (ClaimsWin winner) used is = absurd (cc)
    talks Rejects used is = absurd (cc)

    -- after a move, a `pong` with another number
    other_pong : (n : ℕ) → (n == length (m.seat S).used + 1) ≡ false
        → IsIgnored S m (line_row r (AfterMove S) (Answers n) moment m)
    other_pong n off = at (n == ping_number m S) off
      where
        at : (b : Bool) → b ≡ false → IsIgnored S m (if b then begins_turn r (other S) m else ignores r S m)
        at true e = absurd (cc)
        at false e = ignored m.since

    -- what was shown of a kind `k` in the phase `p` holds of the line and the phase of the match, which are these
    in_phase : (p : Phase) (kind k : LineKind) → m.phase ≡ p → kind ≡ k → IsIgnored S m (line_row r p k moment m)
        → IsIgnored S m (line_row r m.phase kind moment m)
    in_phase p kind k e is h =
        subst (λ (x : Phase). IsIgnored S m (line_row r x kind moment m)) (sym e)
        (subst (λ (x : LineKind). IsIgnored S m (line_row r p x moment m)) (sym is) h)

pub other_lines_are_ignored : OtherLinesAreIgnored
other_lines_are_ignored r m S text moment =
    let kind : LineKind = line_kind text in record {
      setup = λ p off. in_phase r S m moment (Setup S) kind kind p refl (in_setup r S m moment kind off);
      before = λ opened p time is. in_phase r S m moment (BeforeMove S opened) kind kind p refl
          (timely r S m moment kind opened time (talks r S m moment kind (moment - opened) is));
      rejects = λ opened p time is none. in_phase r S m moment (BeforeMove S opened) kind Rejects p is
          (timely r S m moment Rejects opened time (rejected r S m (Some moment) none));
      after = λ p is. in_phase r S m moment (AfterMove S) kind SaysElse p is (ignored r S m m.since);
      pongs = λ n p is off. in_phase r S m moment (AfterMove S) kind (Answers n) p is
          (other_pong r S m moment n off);
    }
