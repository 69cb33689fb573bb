-- A FEN that is written of a sound position can be a tag's string as it is (fen_bare): it has only printable ASCII,
-- without quotes and backslashes, so none of its bytes ends a line or has to be escaped. By a lemma about the bytes of
-- FENs.
use Rattle.std.proofs.Common.{◌≡◌, ◌≢◌, ℕ, ◌≤◌, true, false, eqb, List, [], ◌∷◌, refl, arith}
use Rattle.std.specs.List.{list_all}
use Rattle.std.proofs.{lemmas.Bool.and_from, lemmas.Bool.Decides.nat_tests}
use Rattle.chess_base.specs.{declared.setup.Setup.Setup, Sound.IsSound}
use Rattle.chess_fen.proofs.shared.Plain.{IsPlain, Plain, fen_plain}
use Rattle.chess_fen.specs.Writing.{fen}
use Rattle.chess_pgn_laws.proofs.PgnTags.{is_bare}

-- a byte of ASCII from the space on, other than a quote or a backslash
byte_bare : (c : ℕ) → IsPlain 32 c → is_bare c ≡ true
byte_bare c p =
    let least : 32 ≤ c = p.0 in
    let quote : c ≢ 34 = p.2 in
    let backslash : c ≢ 92 = p.3 in
    let a : eqb c 10 ≡ false = grind (arith, nat_tests) in
    let b : eqb c 34 ≡ false = grind (arith, nat_tests, quote) in
    let d : eqb c 92 ≡ false = grind (arith, nat_tests, backslash) in
    rw (a, b, d) refl

plain_bare : (text : List ℕ) → Plain 32 text → list_all is_bare text ≡ true
plain_bare [] p = refl
plain_bare (c ∷ cs) p = and_from (is_bare c) (list_all is_bare cs) (byte_bare c p.0) (plain_bare cs p.1)

pub fen_bare : (p : Setup) → IsSound p → list_all is_bare (fen p) ≡ true
fen_bare p h = plain_bare (fen p) (fen_plain p h)
