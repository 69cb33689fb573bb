-- The laws of the rules, each as one statement.
use Rattle.std.specs.Prelude.{◌≡◌, IsTrue}
use Rattle.std.specs.List.{AllPairs}
use Rattle.chess_base.specs.declared.man.Move.{Move}
use Rattle.chess_base.specs.declared.setup.Saved.{Saved}
use Rattle.chess_base.specs.declared.setup.Setup.{Setup}
use Rattle.chess_base.specs.Sound.{IsSound}
use Rattle.chess_base.specs.Moves.{is_legal, after, men_after, steps_of}
use Rattle.chess_base.specs.MoveList.{moves}
use Rattle.chess_base.specs.Before.{saved_of, before, men_before, steps_back}
use Rattle.chess_base.specs.Steps.{men_stepped}
use Rattle.chess_base.specs.laws.Laws.{ComesBefore}

-- a legal move of a sound position gives a sound position
abbrev pub AfterIsSound : Type 0
AfterIsSound = (p : Setup) → (m : Move) → IsSound p → IsTrue (is_legal p m) → IsSound (after p m)

-- taking back a legal move of a sound position gives that position again
abbrev pub BeforeUndoesAfter : Type 0
BeforeUndoesAfter = (p : Setup) → (m : Move) → IsSound p → IsTrue (is_legal p m)
    → before (after p m) m (saved_of p m) ≡ p

-- move m, made or taken back, changes the pieces in steps (`men_stepped`): the mover and perhaps a second piece leave,
-- and then the mover and perhaps a second piece arrive
pub record GoesInSteps (p : Setup) (m : Move) : Type 0 where
  -- p is the position before m, legal or not
  pub on : men_after p m ≡ men_stepped p.men (steps_of p m)
  -- p is the position after m; whatever was saved (`s`)
  pub back : (s : Saved) → men_before p m s ≡ men_stepped p.men (steps_back p m s)

-- each move, made or taken back, changes the pieces as its steps do
abbrev pub MovesGoInSteps : Type 0
MovesGoInSteps = (p : Setup) → (m : Move) → GoesInSteps p m

-- the list of legal moves rises by start square, then by end square, then by promotion, so no move is in it twice
abbrev pub MovesRise : Type 0
MovesRise = (p : Setup) → AllPairs ComesBefore (moves p)
