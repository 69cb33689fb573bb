-- PgnWhole proves the three laws. The first needs that a game's positions are sound and a written FEN is read back (the
-- two laws that are called), and that the initial position is sound.
use Rattle.std.proofs.Common.{subst, ◌∙◌}
use Rattle.chess_base.specs.Sound.{IsSound}
use Rattle.chess_pgn_laws.proofs.PgnWhole.{pgn_law, result_law, variant_law}
use Rattle.chess_pgn_laws.proofs.laws.pgn_is_read_back.Goals as goal

pub returns-clause-read : goal.returns-clause-read
returns-clause-read c = pgn_law c.after_is_sound.ensures c.written_is_denoted.ensures.read_back
    (subst IsSound (c.setup-sound.ensures.value ∙ c.initial_of-initial.ensures) c.setup-sound.ensures.sound)

pub returns-clause-result : goal.returns-clause-result
returns-clause-result c = result_law

pub returns-clause-variant : goal.returns-clause-variant
returns-clause-variant c = variant_law
