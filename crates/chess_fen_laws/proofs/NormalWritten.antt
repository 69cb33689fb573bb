-- A position of normal chess is written as the same FEN by the definitions for both variants and by those for normal
-- chess alone (fen_kept); they differ only in the castling field.
use Rattle.std.proofs.Common.{◌≡◌, ℕ, [], ◌∷◌, ◌++◌, Option, Some, None, decimal, refl, ap, ◌∙◌}
use Rattle.std.specs.List.{join_with_byte}
use Rattle.byte_devices.specs.Bytes.{byte, space}
use Rattle.chess_base.specs.{declared.man.Colour.Colour, declared.man.Colour.TheVariants.White, declared.man.Colour.TheVariants.Black, declared.man.CastlingSide.CastlingSide, declared.man.CastlingSide.TheVariants.KingSide, declared.man.CastlingSide.TheVariants.QueenSide, declared.man.Rights.Rights, declared.man.Variant.TheVariants.Normal, declared.setup.Setup.Setup}
use Rattle.chess_fen.specs.{shared.RightTexts.right_text, RightNames.side_letter}
use Rattle.chess_fen.specs.Writing.{fen, placement_text, side_text, rights_text, target_text}
use Rattle.chess_fen.proofs.shared.RightLetters.{dashed, rights_are}
use Rattle.chess_fen_laws.specs.Normal.{letter_if, normal_rights_text, normal_fen}

-- a right is written as its letter, whatever its rook's square
one_written : (c : Colour) (w : CastlingSide) (o : Option ℕ) → right_text Normal c w o ≡ letter_if o (side_letter c w)
one_written c w None = refl
one_written c w (Some s) = refl

-- the letters of the rights, or a dash, are the same
written_by : (r : Rights) → rights_text Normal r ≡ normal_rights_text r
written_by r =
    rights_are Normal r ∙ rw (
      one_written White KingSide r.white.king_side,
      one_written White QueenSide r.white.queen_side,
      one_written Black KingSide r.black.king_side,
      one_written Black QueenSide r.black.queen_side,
    ) (dashed (letter_if r.white.king_side (byte "K") ++ letter_if r.white.queen_side (byte "Q")
    ++ letter_if r.black.king_side (byte "k") ++ letter_if r.black.queen_side (byte "q")))

rights_kept : (p : Setup) → p.variant ≡ Normal → rights_text p.variant p.rights ≡ normal_rights_text p.rights
rights_kept p e = ap (λ v. rights_text v p.rights) e ∙ written_by p.rights

-- a position of normal chess has the same FEN by both definitions
pub fen_kept : (p : Setup) → p.variant ≡ Normal → fen p ≡ normal_fen p
fen_kept p e =
    ap (λ rights. join_with_byte space (placement_text p.men ∷ side_text p.side ∷ rights ∷ target_text p.target
    ∷ decimal p.halfmove ∷ decimal p.fullmove ∷ []))
    (rights_kept p e)
