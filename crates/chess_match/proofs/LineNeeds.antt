-- What `MatchState::line` requires of the core (its clauses `counted`, `few` and `undecided`) follows from
-- `Represents`, by which the core has the counts, clocks and phase of the match, and `IsSane`, which says it of the
-- match; and what holds of White and of Black holds of each side (`both_sides`).
use Rattle.std.proofs.Common.{◌≡◌, ◌<◌, ◌≤◌, true, List, length, ap, ◌∙◌, arith, None}
use Rattle.chess_base.specs.{declared.man.Colour.Colour, declared.man.Colour.TheVariants.White, declared.man.Colour.TheVariants.Black, declared.man.Move.Move}
use Rattle.cecp_engine.specs.Clocks.{side_clock}
use Rattle.chess_match.specs.{Effects.Match, Rules.Rules, ties.Represents.Represents, ties.Represents.phase_of, ties.Sane.IsSane, ties.Sane.in_turn, declared.state.MatchState.MatchState}
use Rattle.chess_match.proofs.CoreSteps.{clocks_moves}
use Rattle.chess_game.specs.Ends.{verdict}

pub both_sides : (P : Colour → Type 0) → P White → P Black → (S : Colour) → P S
both_sides P w b White = w
both_sides P w b Black = b

-- ---- what MatchState::line requires

-- fewer than 10,000 lines are counted
pub counted : (r : Rules) (core : MatchState) (played : List Move) (m : Match) → Represents r core played m → IsSane r m
    → core.count < 10000
counted r core played m s sane = omega (arith, s.count, sane.count)

-- no side has made more moves than were played
pub few : (r : Rules) (core : MatchState) (played : List Move) (m : Match) → Represents r core played m → IsSane r m
    → (S : Colour) → (side_clock core.clocks S).moves ≤ length played
few r core played m s sane S =
    omega (arith, clocks_moves r core played m s S, ap (λ (ms : List Move). length ms) s.moves, sane.few S)

-- in a turn the board has no verdict
pub undecided : (r : Rules) (core : MatchState) (played : List Move) (m : Match)
    → Represents r core played m → IsSane r m → in_turn (phase_of core.opened core.phase) ≡ true
    → verdict r.start played ≡ None
undecided r core played m s sane h = ap (λ (ms : List Move). verdict r.start ms) s.moves
    ∙ sane.undecided (ap in_turn s.phase ∙ h)
