-- The FEN that is written for a sound position is read back as this position (written-fen of RoundTrip). So it denotes
-- it (fen-denoted), and no other (fen-denotes_one), as what a text denotes is what is read of its fields (text_outcome,
-- text-denoted of DenotedFen).
use Rattle.std.proofs.Common.{◌≡◌, Ok, sym, subst, ◌∙◌}
use Rattle.chess_base.specs.{declared.setup.Setup.Setup, Sound.IsSound}
use Rattle.chess_fen.specs.{Denotation.DenotesFenAs, Texts.fields_of, Writing.fen}
use Rattle.chess_fen.proofs.{RoundTrip.written-fen, RoundTrip.written-well, DenotedFen.TextOutcome, DenotedFen.text_outcome, DenotedFen.text-denoted, Steps.third}

-- a sound position is denoted by the FEN that is written for it
pub fen-denoted : (p : Setup) → IsSound p → DenotesFenAs p.variant (fen p) p
fen-denoted p h = (
  third (fields_of (fen p)),
  subst (TextOutcome p.variant (fen p)) (written-fen p h) (text_outcome p.variant (fen p)),
  written-well p h,
)

-- and this FEN denotes no other
pub fen-denotes_one : (p q : Setup) → IsSound p → DenotesFenAs p.variant (fen p) q → q ≡ p
fen-denotes_one p q h s = let e : Ok q ≡ Ok p = sym (text-denoted p.variant (fen p) s.0 q s.1) ∙ written-fen p h in cc
