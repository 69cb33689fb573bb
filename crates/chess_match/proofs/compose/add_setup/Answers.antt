-- The bytes of the setup are those of its lines in their order (Sends.setup_bytes), each put by a call of its own; the
-- level is that of the side's clock.
use Rattle.std.proofs.Common.{◌≡◌, ◌∙◌, ap, append_assoc, refl}
use Rattle.chess_base.specs.{declared.man.Colour.Colour, declared.man.Colour.TheVariants.White, declared.man.Colour.TheVariants.Black}
use Rattle.cecp_engine.specs.Clocks.{ClocksSeen, side_clock}
use Rattle.chess_match.specs.{Effects.Match, Rules.Rules, ties.Represents.clocks_of}
use Rattle.chess_match.proofs.Sends.{setup_bytes}
use Rattle.chess_match.proofs.compose.add_setup.Goals as goal

-- the side's clock has the time control that the rules give the side
level_kept : (r : Rules) (m : Match) (S : Colour) → (side_clock (clocks_of r.level m) S).level ≡ r.level S
level_kept r m White = refl
level_kept r m Black = refl

pub returns-clause-text : goal.returns-clause-text
returns-clause-text g c r m p s =
    let level : c.level.result ≡ r.level c.args.side = c.level.ensures
    ∙ ap (λ (x : ClocksSeen). (side_clock x c.args.side).level) s.clocks ∙ level_kept r m c.args.side in
    rw (
      setup_bytes r c.args.side,
      c.add_ping.ensures.text,
      c.add_start.ensures.text r p,
      c.append-2.ensures.text,
      c.add_level.ensures.text,
      level,
      c.add_variant.ensures.text,
      c.variant.ensures r p,
      c.append.ensures.text,
    )
    (simp append_assoc)
