-- The SAN of a legal move of a sound position is ASCII, since each of its bytes is one that SAN may have (san_bytes of
-- SanLaw), and these are below 128.
use Rattle.std.proofs.Common.{◌≡◌, ℕ, zero, suc, ◌<◌, true, List, [], ◌∷◌, arith, IsTrue, IsAscii}
use Rattle.std.specs.List.{list_all}
use Rattle.std.proofs.{lemmas.Bool.and_parts, lemmas.Bool.Decides.nat_tests}
use Rattle.chess_base.specs.{declared.man.Move.Move, declared.setup.Setup.Setup, Moves.is_legal, Sound.IsSound}
use Rattle.chess_text.specs.{laws.Laws.is_san_byte, San.san}
use Rattle.chess_text.proofs.SanLaw.{san_bytes}

byte_low : (c : ℕ) → is_san_byte c ≡ true → c < 128
byte_low c e = grind (arith, nat_tests, e)

each_low : (text : List ℕ) → list_all (λ c. is_san_byte c) text ≡ true → IsAscii text
each_low [] e i = omega arith
each_low (c ∷ text) e zero = byte_low c (and_parts (is_san_byte c) (list_all (λ b. is_san_byte b) text) e).0
each_low (c ∷ text) e (suc i) = each_low text (and_parts (is_san_byte c) (list_all (λ b. is_san_byte b) text) e).1 i

pub san_is_ascii : (p : Setup) (m : Move) → IsSound p → IsTrue (is_legal p m) → IsAscii (san p m)
san_is_ascii p m sound legal = each_low (san p m) (san_bytes p m sound legal)
