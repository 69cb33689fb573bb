-- The last arm (`_`) of each `match` on an engine's line: what the definitions do with a line that none of the arms
-- before it takes. By cases of the line, of which those arms exclude all others.
use Rattle.std.proofs.Common.{◌≡◌, ℕ, List, [], Option, arith, Bor}
use Rattle.chess_base.specs.declared.man.Colour.{Colour}
use Rattle.cecp_engine.specs.{Seen.seen, declared.engine_line.EngineLine.EngineLine}
use Rattle.cecp_engine.specs.declared.engine_line.EngineLine.TheVariants.{Features, Move, Resign, Offer, Draw, Win, Rejection, Pong}
use Rattle.chess_match.specs.Effects.{Match, Setup, AfterMove, before_move, ends, ignores, line_row, move_row, turn_row}
use Rattle.chess_match.specs.{laws.Laws.items_in_line, Rules.Rules, shared.Parts.since_counted, declared.reason.Reason.TheVariants.MovesIllegally}
use Rattle.chess_base.specs.declared.man.Move as chess
use Rattle.chess_text.specs.declared.reading.Reading.{Reading}
use Rattle.chess_text.specs.declared.reading.Reading.TheVariants as reads

-- only a `feature` line has items
pub no_items_said : (line : EngineLine) → ((text : Bor (List ℕ)) → line ≡ Features text → ⊥)
    → items_in_line (seen line) ≡ []
no_items_said line h1 = grind arith

-- a line without items leaves the moment from which the time for a reply runs
pub uncounted : (line : EngineLine) (moment : ℕ) (since : Option ℕ)
    → ((text : Bor (List ℕ)) → line ≡ Features text → ⊥) → since_counted (seen line) moment since ≡ since
uncounted line moment since h1 = grind arith

-- in a setup, a line that is no answer to a ping
pub setup_other : (r : Rules) (S : Colour) (line : EngineLine) (moment : ℕ) (n : Match) → ((k : ℕ) → line ≡ Pong k → ⊥)
    → line_row r (Setup S) (seen line) moment n ≡ ignores r S n
setup_other r S line moment n h1 = grind arith

-- before its move, a side's line that is no move is one that means the same after it
pub before_other : (r : Rules) (S : Colour) (line : EngineLine) (used : ℕ) (n : Match)
    → ((text : Bor (List ℕ)) → line ≡ Move text → ⊥)
    → before_move r S used (seen line) n ≡ turn_row r S (seen line) n
before_other r S line used n h1 = grind arith

-- after its move, a line that is neither a move nor an answer to a ping
pub after_other : (r : Rules) (S : Colour) (line : EngineLine) (moment : ℕ) (n : Match)
    → ((text : Bor (List ℕ)) → line ≡ Move text → ⊥) → ((k : ℕ) → line ≡ Pong k → ⊥)
    → line_row r (AfterMove S) (seen line) moment n ≡ turn_row r S (seen line) n
after_other r S line moment n h1 h2 = grind arith

-- a text that is read as no legal move
pub illegal_move : (r : Rules) (S : Colour) (used : ℕ) (x : Reading) (n : Match)
    → ((chosen : chess.Move) → x ≡ reads.Move chosen → ⊥)
    → move_row r S used x n ≡ ends r (MovesIllegally S) n
illegal_move r S used x n h1 = grind arith

-- a line that means nothing in a turn
pub ignored_other : (r : Rules) (S : Colour) (line : EngineLine) (n : Match) → (line ≡ Resign → ⊥)
    → (line ≡ Offer → ⊥) → (line ≡ Draw → ⊥) → ((c : Colour) → line ≡ Win c → ⊥) → (line ≡ Rejection → ⊥)
    → turn_row r S (seen line) n ≡ ignores r S n
ignored_other r S line n h1 h2 h3 h4 h5 = grind arith
