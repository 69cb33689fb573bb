-- Draws that an engine claims, and that it may claim.
use Rattle.std.specs.Prelude.{◌≡◌, ◌≤◌, ◌-◌, ℕ, List, Option, Some}
use Rattle.chess_base.specs.declared.man.Colour.{Colour}
use Rattle.cecp_engine.specs.EngineLines.{ClaimsDraw}
use Rattle.chess_game.specs.Ends.{claims, draw_claim}
use Rattle.chess_game.specs.declared.verdicts.DrawClaim.{DrawClaim}
use Rattle.chess_match.specs.Effects.{Match, BeforeMove, AfterMove, Over, clock, effect}
use Rattle.chess_match.specs.Events.{Line}
use Rattle.chess_match.specs.Rules.{Rules}
use Rattle.chess_match.specs.declared.reason.Reason.TheVariants.{Claimed}
use Rattle.chess_match.specs.laws.Laws.{line_kind}

-- this line of the side `S`, at `moment`, ends the match `m` as a draw by this claim: before its move, if in time, and
-- after its move
pub record ClaimEnds (r : Rules) (m : Match) (S : Colour) (text : Option (List ℕ)) (moment : ℕ) (claim : DrawClaim)
    : Type 0 where
  pub before : (opened : ℕ) → m.phase ≡ BeforeMove S opened → moment - opened ≤ clock r m S
      → (effect r m (Line S text moment)).after.phase ≡ Over (Claimed claim)
  pub after : m.phase ≡ AfterMove S → (effect r m (Line S text moment)).after.phase ≡ Over (Claimed claim)

-- whenever a draw may be claimed, `ClaimEnds` holds of each line that claims one (`1/2-1/2`)
abbrev pub DrawClaimsEndMatches : Type 0
DrawClaimsEndMatches = (r : Rules) (m : Match) (S : Colour) (text : Option (List ℕ)) (moment : ℕ) (claim : DrawClaim)
    → line_kind text ≡ ClaimsDraw → draw_claim (claims r.start m.played) ≡ Some claim
    → ClaimEnds r m S text moment claim
