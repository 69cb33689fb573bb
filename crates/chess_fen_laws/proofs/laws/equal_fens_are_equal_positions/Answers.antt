-- If texts and variants are equal, so are the positions, since each is read back from its text (same_position of
-- EqualFens); equal positions have equal texts and variants.
use Rattle.std.proofs.Common.{IsTrue, refl, sym, subst, ◌&&◌, nat_eq}
use Rattle.std.proofs.{lemmas.Bool.and_parts, lemmas.Cmp.nat_list_eq_equiv}
use Rattle.std.specs.Cmp.Lexicographic.{pointwise, same_text}
use Rattle.chess_base.specs.contracts.man.VariantPartialEq.TheImpl.{eq-value}
use Rattle.chess_fen.specs.Writing.{fen}
use Rattle.chess_fen_laws.proofs.EqualFens.{variants_equal, variant_equal, same_position}
use Rattle.chess_fen_laws.proofs.laws.equal_fens_are_equal_positions.Goals as goal

pub returns : goal.returns
returns c = λ p q sound_p sound_q. (
  (λ e.
      let parts = and_parts (pointwise nat_eq (fen p) (fen q)) (eq-value.it p.variant q.variant) e in
      same_position p q sound_p sound_q (same_text (fen p) (fen q) (sym parts.0))
      (variants_equal p.variant q.variant parts.1)),
  (λ same.
      subst (λ r. IsTrue (pointwise nat_eq (fen p) (fen r) && eq-value.it p.variant r.variant)) same
      (rw (nat_list_eq_equiv.refl (fen p), variant_equal p.variant) refl)),
)
