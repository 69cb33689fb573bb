-- Lines of an engine that are ignored, and how many may be.
use Rattle.std.specs.Prelude.{◌≡◌, ◌<◌, ◌≤◌, ◌+◌, ◌-◌, ◌==◌, ℕ, Bool, true, false, List, [], length, Option}
use Rattle.chess_base.specs.declared.man.Colour.{Colour}
use Rattle.chess_base.specs.Men.{other}
use Rattle.cecp_engine.specs.EngineLines.{LineKind, Features, Answers, Rejects, SaysElse}
use Rattle.chess_match.specs.Effects.{Effect, Match, Setup, BeforeMove, AfterMove, Over, clock, effect}
use Rattle.chess_match.specs.Events.{Line}
use Rattle.chess_match.specs.Rules.{Rules}
use Rattle.chess_match.specs.declared.reason.MatchFault.TheVariants.{Flood}
use Rattle.chess_match.specs.declared.reason.Reason.TheVariants.{Faulted}
use Rattle.chess_match.specs.laws.Laws.{is_pong, line_kind}

-- a line, which did `done`, left phase, moves and seats of the match `m` as they were, and nothing was sent; one more
-- line was ignored. The moment since which a reply is awaited (`since`) may change
pub record ChangesNothing (m : Match) (done : Effect) : Type 0 where
  pub phase : done.after.phase ≡ m.phase
  pub played : done.after.played ≡ m.played
  pub seats : (X : Colour) → done.after.seat X ≡ m.seat X
  pub ignored : done.after.count ≡ m.count + 1
  pub sent : (X : Colour) → done.to X ≡ []

-- a line of the side `S` is ignored, with the effect `done`: with fewer than 9,999 before it, in this setup or turn, it
-- changes nothing; the 10,000th ends the match
pub record IsIgnored (S : Colour) (m : Match) (done : Effect) : Type 0 where
  pub few : m.count < 9999 → ChangesNothing m done
  pub many : 9999 ≤ m.count → done.after.phase ≡ Over (Faulted S Flood)

-- whether a line of this kind means nothing before a move: thinking or any other text, a `feature` line, or a `pong`
abbrev pub is_talk : LineKind → Bool
is_talk SaysElse = true
is_talk (Features text) = true
is_talk (Answers n) = true
is_talk _ = false

-- which lines of the side `S` are ignored in the match `m`
pub record OthersAreIgnored (r : Rules) (m : Match) (S : Colour) (text : Option (List ℕ)) (moment : ℕ) : Type 0 where
  -- in its setup: each line but `pong 1`
  pub setup : m.phase ≡ Setup S → is_pong 1 (line_kind text) ≡ false
      → IsIgnored S m (effect r m (Line S text moment))
  -- before its move, in time: talk (`is_talk`)
  pub before : (opened : ℕ) → m.phase ≡ BeforeMove S opened → moment - opened ≤ clock r m S
      → is_talk (line_kind text) ≡ true → IsIgnored S m (effect r m (Line S text moment))
  -- and `Illegal move`, if the other side has made no move
  pub rejects : (opened : ℕ) → m.phase ≡ BeforeMove S opened → moment - opened ≤ clock r m S
      → line_kind text ≡ Rejects → (m.seat (other S)).used ≡ [] → IsIgnored S m (effect r m (Line S text moment))
  -- after its move: lines of no known kind, and each `pong` whose number is not one more than the number of its moves
  pub after : m.phase ≡ AfterMove S → line_kind text ≡ SaysElse → IsIgnored S m (effect r m (Line S text moment))
  pub pongs : (n : ℕ) → m.phase ≡ AfterMove S → line_kind text ≡ Answers n
      → (n == length (m.seat S).used + 1) ≡ false → IsIgnored S m (effect r m (Line S text moment))

-- `OthersAreIgnored` holds of every line in every state of a match
abbrev pub OtherLinesAreIgnored : Type 0
OtherLinesAreIgnored = (r : Rules) (m : Match) (S : Colour) (text : Option (List ℕ)) (moment : ℕ)
    → OthersAreIgnored r m S text moment
