-- Two clauses. The result has the free pieces but for own pawns that may promote or take en passant (`squares`); so
-- each of them goes freely (`GoesFreely`): it is free and no such pawn (`freely`).
use Rattle.std.proofs.Common.{◌≡◌, ℕ, ◌<◌, ◌&&◌, not, refl, sym, ◌∙◌}
use Rattle.std.proofs.lemmas.Bool.{and_parts, not-true}
use Rattle.chess_base.specs.{Men.man_at, Men.is_man, declared.man.Kind.TheVariants.Pawn}
use Rattle.chess_moves.specs.Sets.{contains}
use Rattle.chess_bits.specs.ties.Goes.{goes_specially}
use Rattle.chess_bits.proofs.bits.Bits.without_special_pawns.Goals as goal

pub returns : goal.returns
returns c =
    let p = c.args.self.now in
    let squares : (k : ℕ) → k < 64
    → contains c.without.result k
    ≡ (contains c.args.free k && not (is_man p.side Pawn (man_at p.men k) && goes_specially p k)) =
    λ k low. c.without.ensures k low
    ∙ rw (
      c.intersection-special.ensures k,
      c.men_of-pawns.ensures k low,
      c.special_squares.ensures k low,
      c.self.view_is,
    ) refl in
    record {
      squares = squares;
      freely = λ k low on.
          let both = and_parts (contains c.args.free k) (not (is_man p.side Pawn (man_at p.men k) && goes_specially p k))
          (sym (squares k low) ∙ on) in
          record { free = c.requires k low both.0; ordinary = not-true _ both.1 };
    }
