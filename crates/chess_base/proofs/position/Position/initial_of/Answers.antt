-- What is put together here is the initial setup (returns). It is sound in both variants, as a position must be
-- (invariant): that is computed (InitialIsSound).
use Rattle.std.proofs.Common.{refl}
use Rattle.chess_base.specs.Initial.{initial_setup_of}
use Rattle.chess_base.proofs.InitialIsSound.{initial_is_sound_in}
use Rattle.chess_base.proofs.position.Position.initial_of.Goals as goal

pub invariant_of-result : goal.invariant_of-result
unfolding initial_setup_of
invariant_of-result c = rw (c.initial_men.ensures, c.new.ensures, c.new-2.ensures, c.new-3.ensures, c.new-4.ensures)
    (initial_is_sound_in c.args.variant)

pub returns : goal.returns
unfolding initial_setup_of
returns c = rw (c.initial_men.ensures, c.new.ensures, c.new-2.ensures, c.new-3.ensures, c.new-4.ensures) refl
