-- The tag `FEN` doesn't change a game's variant: a FEN that is read as one of a variant gives a position of it
-- (read_variant, from reading_in_variant of chess_fen), as is the variant's initial position (initial_variant).
use Rattle.std.proofs.Common.{◌≡◌, ℕ, List, Ok, refl, subst, IfOk}
use Rattle.chess_base.specs.{declared.man.Variant.Variant, declared.setup.Setup.Setup, Initial.initial_setup_of}
use Rattle.chess_fen.proofs.shared.Variants.{reading_in_variant}
use Rattle.chess_fen.specs.Reading.{fen_reading_as}

pub initial_variant : (v : Variant) → (initial_setup_of v).variant ≡ v
unfolding initial_setup_of
initial_variant v = refl

pub read_variant : (v : Variant) (text : List ℕ) (p : Setup) → fen_reading_as v text ≡ Ok p → p.variant ≡ v
read_variant v text p e = subst (λ r. IfOk r (λ q. q.variant ≡ v)) e (reading_in_variant v text)
