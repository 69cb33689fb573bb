-- The loop's invariant: passing over at most `256 - passed` parts (tags, comments and the like) of `rest` leaves what
-- passing over at most 255 of the whole text leaves. `passed` counts from 1, for the line's first tag.
use Rattle.std.proofs.Common.{◌≡◌, ◌-◌}
use Rattle.pgn_pieces.specs.Pieces.{after_parts}
use Rattle.pgn_pieces.proofs.line_kinds.after_more_parts.Given as goal

abbrev pub invariant-loop-passed : goal.invariant-loop-passed
invariant-loop-passed l = after_parts (256 - l.passed) l.rest ≡ after_parts 255 l.text
