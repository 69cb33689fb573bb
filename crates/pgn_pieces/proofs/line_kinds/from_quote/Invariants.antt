-- The loop's invariant: `rest` is empty or begins with a quote or a backslash, and the first quote in it that no
-- backslash keeps is that of the whole text. What decreases is the length of `rest`.
use Rattle.std.proofs.Common.{◌≡◌, List, ℕ, length, false, true}
use Rattle.pgn_pieces.specs.Pieces.{from_quote}
use Rattle.pgn_pieces.proofs.StringEnds.{begins_with_mark}
use Rattle.pgn_pieces.proofs.line_kinds.from_quote.Given as goal

pub record At (text rest : List ℕ) : Type 0 where
  pub mark : begins_with_mark rest ≡ true
  pub same : from_quote false rest ≡ from_quote false text

abbrev pub invariant-loop-rest : goal.invariant-loop-rest
invariant-loop-rest l = At l.text l.rest

abbrev pub decreases-loop-rest : goal.decreases-loop-rest
decreases-loop-rest l = length l.rest
