-- A sound position has the FEN of normal chess's initial position exactly if it is that position (one_initial). A FEN
-- of Chess960 never has the castling field KQkq (other_letters), and in normal chess reading this FEN gives that
-- position only (only).
use Rattle.std.proofs.Common.{◌≡◌, ℕ, ◌+◌, ◌%◌, true, [], ◌∷◌, ◌++◌, get_or, Option, Some, None, refl, sym, ap, ◌∙◌, arith, ◌↔◌, Ok}
use Rattle.std.proofs.lemmas.Slice.Eq.{bytes_eq-Decides}
use Rattle.chess_base.specs.{declared.man.CastlingSide.TheVariants.KingSide, declared.man.CastlingSide.TheVariants.QueenSide, declared.man.Colour.TheVariants.White, declared.man.Colour.TheVariants.Black, declared.man.Variant.Variant, declared.man.Variant.TheVariants.Normal, declared.man.Variant.TheVariants.Fischerandom, declared.setup.Setup.Setup, Initial.initial_setup, Initial.initial_setup_of, Sound.IsSound}
use Rattle.chess_fen.specs.{shared.RightTexts.or_dash, shared.RightTexts.right_text, Reading.fen_reading_as, Texts.fields_of, Writing.rights_text, Writing.fen, Writing.is_initial}
use Rattle.chess_fen.proofs.{RightLetters.rights_are, DenotedFen.reading-denoted, RoundTrip.fen_fields, WrittenFen.fen-denoted}

-- in Chess960 the castling field is never KQkq (75, 81, 107, 113): a right's letter is one of A to H or a to h, so the
-- first byte would differ
other_letters : (a b c d : Option ℕ) → or_dash (((right_text Fischerandom White KingSide a
    ++ right_text Fischerandom White QueenSide b) ++ right_text Fischerandom Black KingSide c)
    ++ right_text Fischerandom Black QueenSide d) ≡ 75 ∷ 81 ∷ 107 ∷ 113 ∷ [] → ⊥
other_letters (Some s) b c d e = let first : 65 + s % 8 ≡ 75 = ap (λ text. get_or text 0 0) e in omega (arith, first)
other_letters None (Some s) c d e = let first : 65 + s % 8 ≡ 75 = ap (λ text. get_or text 0 0) e in omega (arith, first)
other_letters None None (Some s) d e = let first : 97 + s % 8 ≡ 75 = ap (λ text. get_or text 0 0) e in omega (arith, first)
other_letters None None None (Some s) e = let first : 97 + s % 8 ≡ 75 = ap (λ text. get_or text 0 0) e in omega (arith, first)
other_letters None None None None e = let first : 45 ≡ 75 = ap (λ text. get_or text 0 0) e in omega (arith, first)

initial_variant : initial_setup.variant ≡ Normal
unfolding initial_setup initial_setup_of
initial_variant = refl

initial_rights : rights_text initial_setup.variant initial_setup.rights ≡ 75 ∷ 81 ∷ 107 ∷ 113 ∷ []
unfolding initial_setup initial_setup_of
initial_rights = refl

-- a position with the initial position's FEN is one of normal chess
normal : (p : Setup) → IsSound p → IsSound initial_setup → fen p ≡ fen initial_setup → p.variant ≡ Normal
normal p sound initial same = by_variant p.variant refl
  where
    rights : rights_text p.variant p.rights ≡ 75 ∷ 81 ∷ 107 ∷ 113 ∷ []
    rights = ap (λ fields. get_or fields 2 []) (sym (fen_fields p sound) ∙ ap fields_of same ∙ fen_fields initial_setup initial)
        ∙ initial_rights

    by_variant : (v : Variant) → p.variant ≡ v → p.variant ≡ Normal
    by_variant Normal is = is
    by_variant Fischerandom is =
        absurd (other_letters p.rights.white.king_side p.rights.white.queen_side p.rights.black.king_side
        p.rights.black.queen_side
        (sym (rights_are Fischerandom p.rights) ∙ ap (λ v. rights_text v p.rights) (sym is) ∙ rights))

read_back : (p : Setup) → IsSound p → fen_reading_as p.variant (fen p) ≡ Ok p
read_back p sound = reading-denoted p.variant (fen p) p (fen-denoted p sound) sound

-- a position with the initial position's FEN is the initial position, since reading that FEN gives both
only : (p : Setup) → IsSound p → IsSound initial_setup → is_initial p ≡ true → p ≡ initial_setup
only p sound initial e =
    let same : fen p ≡ fen initial_setup = (bytes_eq-Decides (fen p) (fen initial_setup)).0 e in
    let variant : p.variant ≡ initial_setup.variant = normal p sound initial same ∙ sym initial_variant in
    let both : Ok p ≡ Ok initial_setup = sym (read_back p sound) ∙ ap (fen_reading_as p.variant) same
    ∙ ap (λ v. fen_reading_as v (fen initial_setup)) variant ∙ read_back initial_setup initial in
    cc

-- a sound position has the initial position's FEN exactly if it is the initial position
pub one_initial : (p : Setup) → IsSound p → IsSound initial_setup → (is_initial p ≡ true) ↔ (p ≡ initial_setup)
one_initial p sound initial =
    (only p sound initial, λ e. (bytes_eq-Decides (fen p) (fen initial_setup)).1 (ap fen e))
