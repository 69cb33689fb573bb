-- A draw that may be claimed ends the match when it is claimed by `1/2-1/2`: in a turn the rules answer this line by
-- asking whether a draw may be claimed (`claimed`). They do so before a move, if the line is in time (`timely`), and
-- after a move.
use Rattle.std.proofs.Common.{◌≡◌, ℕ, ◌-◌, ◌≤◌, Bool, true, false, sym, ap, subst, Option, Some, if◌then◌else◌, nat_lt}
use Rattle.std.specs.Option.{option_map_or}
use Rattle.chess_base.specs.declared.man.Colour.{Colour}
use Rattle.cecp_engine.specs.EngineLines.{LineKind, ClaimsDraw}
use Rattle.chess_game.specs.{Ends.claims, Ends.draw_claim, declared.verdicts.DrawClaim.DrawClaim}
use Rattle.chess_match.specs.Effects.{Match, Phase, BeforeMove, AfterMove, Over, awaited_since, before_move, clock, ends, flag_row, line_row, offer_row, turn_row}
use Rattle.chess_match.specs.{Rules.Rules, declared.reason.Reason.TheVariants.Claimed, laws.Laws.line_kind}
use Rattle.chess_match_laws.specs.Claims.{DrawClaimsEndMatches}
use Rattle.chess_match_laws.proofs.IgnoredLaw.{in_time}

module _ (r : Rules) (S : Colour) (m : Match) (claim : DrawClaim)
    (holds : draw_claim (claims r.start m.played) ≡ Some claim) where
  -- the match, but a reply is awaited since another moment
  abbrev since_then : Option ℕ → Match
  since_then since = record m { since = since }

  -- in a turn `1/2-1/2` ends the match by this claim
  claimed : (since : Option ℕ) → (turn_row r S ClaimsDraw (since_then since)).after.phase ≡ Over (Claimed claim)
  claimed since =
      ap (λ (c : Option DrawClaim). (option_map_or (λ x. ends r (Claimed x) (since_then since)) c
      (offer_row r S (since_then since))).after.phase) holds

  module _ (moment : ℕ) where
    -- before a move, in time, `1/2-1/2` ends the match by this claim
    timely : (opened : ℕ) → moment - opened ≤ clock r m S
        → (line_row r (BeforeMove S opened) ClaimsDraw moment m).after.phase ≡ Over (Claimed claim)
    timely opened time =
        at (nat_lt (clock r m S) (moment - opened)) (in_time (clock r m S) (moment - opened) time)
      where
        at : (b : Bool) → b ≡ false → (if b then flag_row r S m
            else before_move r S (moment - opened) ClaimsDraw (awaited_since moment m)).after.phase
            ≡ Over (Claimed claim)
        at true e = absurd (cc)
        at false e = claimed (Some moment)

    -- what was shown of a claim in the phase `p` holds of the line and the phase of the match, which are these
    in_phase : (p : Phase) (kind : LineKind) → m.phase ≡ p → kind ≡ ClaimsDraw
        → (line_row r p ClaimsDraw moment m).after.phase ≡ Over (Claimed claim)
        → (line_row r m.phase kind moment m).after.phase ≡ Over (Claimed claim)
    in_phase p kind e is h =
        subst (λ (x : Phase). (line_row r x kind moment m).after.phase ≡ Over (Claimed claim)) (sym e)
        (subst (λ (x : LineKind). (line_row r p x moment m).after.phase ≡ Over (Claimed claim)) (sym is) h)

pub draw_claims_end_matches : DrawClaimsEndMatches
draw_claims_end_matches r m S text moment claim is holds = record {
  before = λ opened p time. in_phase r S m claim holds moment (BeforeMove S opened) (line_kind text) p is
      (timely r S m claim holds moment opened time);
  after = λ p. in_phase r S m claim holds moment (AfterMove S) (line_kind text) p is
      (claimed r S m claim holds m.since);
}
