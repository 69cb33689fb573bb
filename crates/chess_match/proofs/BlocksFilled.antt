-- Each block that a match sends has at least one line (`blocks_filled`): by induction over its acts, since each block
-- that is due has one (`due_filled`: no block is made of no lines).
use Rattle.std.proofs.Common.{List, [], ◌∷◌, ◌++◌, if◌then◌else◌}
use Rattle.chess_base.specs.{declared.man.Colour.Colour, declared.man.Colour.TheVariants.White, Men.other}
use Rattle.chess_match.specs.Acts.{Act, Block, Sends, IsMatch, block_of, blocks_from, is_over}
use Rattle.chess_match.specs.{Effects.Match, Effects.beginning, Effects.effect, Lines.SentLine, Rules.Rules}
use Rattle.chess_match.specs.Events.{Line, Silent, OutputEnds, FailsToRead, FailsToWrite}
use Rattle.chess_match.proofs.shared.MatchCases.{by_cases}

-- this list of lines is not empty
abbrev pub HasLine : List SentLine → Type 0
HasLine [] = ⊥
HasLine (l ∷ ls) = Unit {0}

-- each of these blocks has a line
abbrev AreFilled : List Block → Type 0
AreFilled [] = Unit {0}
AreFilled (b ∷ due) = HasLine b.lines × AreFilled due

-- each block that these acts sent has a line
abbrev pub SendFilled : List Act → Type 0
SendFilled [] = Unit {0}
SendFilled (Sends b ∷ H) = HasLine b.lines × SendFilled H
SendFilled (_ ∷ H) = SendFilled H

-- the blocks made of two lists of lines, each of which may be empty
two_filled : (S O : Colour) (x y : List SentLine) → AreFilled (block_of S x ++ block_of O y)
two_filled S O [] [] = tt
two_filled S O [] (m ∷ ms) = (tt, tt)
two_filled S O (l ∷ ls) [] = (tt, tt)
two_filled S O (l ∷ ls) (m ∷ ms) = (tt, (tt, tt))

due_filled : (first : Colour) (to : Colour → List SentLine) → AreFilled (blocks_from first to)
due_filled first to = two_filled first (other first) (to first) (to (other first))

-- by induction over the acts of a match: if each block that is due has a line, each that is sent has one
pub blocks_filled : (r : Rules) (H : List Act) (final : Match) → IsMatch r H final → SendFilled H
blocks_filled r H final g = by_cases r final (λ m due H. AreFilled due → SendFilled H) (record {
  sends = λ m end b due H p f. (f.0, p f.1);
  fails = λ m end b due H on p f. p (due_filled White (effect r m (FailsToWrite b.to)).to);
  fails_late = λ m end b due H over p f. p f.1;
  reads = λ m end c t n H aw p f. p (due_filled (if is_over (effect r m (Line c t n)).after.phase then White else c)
      (effect r m (Line c t n)).to);
  opens = λ m end c n H opening p f. p tt;
  silent = λ m end c n H aw limited p f. p (due_filled White (effect r m (Silent c n)).to);
  ends = λ m end c H aw p f. p (due_filled White (effect r m (OutputEnds c)).to);
  read_fails = λ m end c H aw p f. p (due_filled White (effect r m (FailsToRead c)).to);
}) (λ over f. tt) beginning.after (blocks_from White beginning.to) H g (due_filled White beginning.to)
