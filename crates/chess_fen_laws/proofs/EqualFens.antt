-- Two sound positions of one variant with equal FENs are equal, since reading the FEN gives each of them back
-- (same_position). The test of `Fen` for equal variants passes exactly for equal ones (variants_equal, variant_equal).
use Rattle.std.proofs.Common.{◌≡◌, true, refl, sym, ap, ◌∙◌}
use Rattle.chess_base.specs.{declared.man.Variant.Variant, declared.man.Variant.TheVariants.Normal, declared.man.Variant.TheVariants.Fischerandom, declared.setup.Setup.Setup, Sound.IsSound, contracts.man.VariantPartialEq.TheImpl.eq-value}
use Rattle.chess_fen.specs.{Reading.fen_reading_as, Writing.fen}
use Rattle.chess_fen.proofs.shared.Denoted.{reading-denoted, fen-denoted}

-- equal variants, as the test of `Fen` compares them
pub variants_equal : (v w : Variant) → eq-value.it v w ≡ true → v ≡ w
variants_equal Normal Normal e = refl
variants_equal Fischerandom Fischerandom e = refl
variants_equal Normal Fischerandom e = absurd cc
variants_equal Fischerandom Normal e = absurd cc

-- each variant passes the test of `Fen` with itself
pub variant_equal : (v : Variant) → eq-value.it v v ≡ true
variant_equal Normal = refl
variant_equal Fischerandom = refl

-- two sound positions of one variant with the same FEN are the same
pub same_position : (p q : Setup) → IsSound p → IsSound q → fen p ≡ fen q → p.variant ≡ q.variant → p ≡ q
same_position p q sound_p sound_q text variant =
    let back_p = reading-denoted p.variant (fen p) p (fen-denoted p sound_p) sound_p in
    let back_q = reading-denoted q.variant (fen q) q (fen-denoted q sound_q) sound_q in
    let both = sym back_p ∙ ap (λ v. fen_reading_as v (fen p)) variant ∙ ap (fen_reading_as q.variant) text ∙ back_q in
    cc both
