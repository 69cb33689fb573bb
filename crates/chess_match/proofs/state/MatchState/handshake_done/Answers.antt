-- After White's handshake comes Black's; after Black's, the match ends if an engine lacks a feature, White's looked at
-- first, and otherwise White's setup comes. The features kept of an engine are those of its items, so code and
-- definition find the same fault.
use Rattle.std.proofs.Common.{◌≡◌, sym, ◌∙◌, ap, Some, None}
use Rattle.chess_base.specs.declared.man.Colour.TheVariants.{White, Black}
use Rattle.chess_match.specs.{Acts.is_over, Effects.is_owed_move, Effects.missing}
use Rattle.chess_match.proofs.CoreSteps.{recounted}
use Rattle.chess_match.proofs.state.MatchState.handshake_done.Goals as goal

pub returns-in-White : goal.returns-in-White
returns-in-White g c r m p at s =
    rw c.in-White.is (c.enter.ensures r _ (record m { count = 0 })
    (λ X. s.unsent (ap is_over at) X ∙ ap (λ q. is_owed_move q X) at) (recounted r _ _ m 0 s))

pub returns-in-Some : goal.returns-in-Some
returns-in-Some g c r m p at s =
    let first : missing r (m.seat White).items ≡ Some c.in-Some.fault =
    sym (c.in-Some.ensures r _ s.white.features (c.has_start-has_start.ensures r p) (c.variant-variant.ensures r p)) in
    rw (c.in-Black.is, first) (c.finish.ensures r _ (record m { count = 0 }) (ap is_over at) (recounted r _ _ m 0 s))

pub returns-in-Some-missing : goal.returns-in-Some-missing
returns-in-Some-missing g c r m p at s =
    let first : missing r (m.seat White).items ≡ None =
    sym (c.in-None.ensures r _ s.white.features (c.has_start-has_start.ensures r p) (c.variant-variant.ensures r p)) in
    let second : missing r (m.seat Black).items ≡ Some c.in-Some-missing.fault =
    sym (c.in-Some-missing.ensures r _ s.black.features (c.has_start-has_start.ensures r p)
    (c.variant-variant.ensures r p)) in
    rw (c.in-Black.is, first, second)
    (c.finish-in-Some-missing.ensures r _ (record m { count = 0 }) (ap is_over at) (recounted r _ _ m 0 s))

pub returns-in-None-missing : goal.returns-in-None-missing
returns-in-None-missing g c r m p at s =
    let first : missing r (m.seat White).items ≡ None =
    sym (c.in-None.ensures r _ s.white.features (c.has_start-has_start.ensures r p) (c.variant-variant.ensures r p)) in
    let second : missing r (m.seat Black).items ≡ None =
    sym (c.in-None-missing.ensures r _ s.black.features (c.has_start-has_start.ensures r p)
    (c.variant-variant.ensures r p)) in
    rw (c.in-Black.is, first, second)
    (c.enter-in-None-missing.ensures r _ (record m { count = 0 })
    (λ X. s.unsent (ap is_over at) X ∙ ap (λ q. is_owed_move q X) at) (recounted r _ _ m 0 s))
