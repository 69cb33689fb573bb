-- If the hashes differ, the positions differ (the contract of `hash_differs`).
use Rattle.std.proofs.Common.{sym}
use Rattle.chess_game.proofs.repetition.Hashed.is_same.Goals as goal

pub returns-then-hash_differs : goal.returns-then-hash_differs
returns-then-hash_differs c = sym (c.hash_differs.ensures c.if-hash_differs.true)
