-- After the move to an empty square, the sets and the hash are those of the new list of pieces, by cases of its colour:
-- its sets lose the start and gain the end, those of the other colour stay (kinds_kept and all_kept of BoardSets), and
-- the hash changes by two keys (hash_lifted and hash_put of chess_moves).
use Rattle.std.proofs.Common.{◌≡◌, slice_set, length, length-set, Some, None, refl, sym, ◌∙◌, subst}
use Rattle.chess_base.specs.{declared.man.Colour.TheVariants.White, declared.man.Colour.TheVariants.Black, Men.man_at}
use Rattle.chess_bits.specs.ties.KindSets.{IsKinds}
use Rattle.chess_bits.proofs.BoardSets.{kinds_kept, all_kept, none_of, theirs_at, theirs_of, own_of, as_own, still_empty}
use Rattle.chess_moves.proofs.shared.PositionHash.{hash_put, hash_lifted}
use Rattle.chess_bits.proofs.sets.Sets.shift.Goals as goal

pub returns-in-White : goal.returns-in-White
returns-in-White c = λ men all at bare h.
    let low = c.shift.ensures.starts_in_range in
    let high = c.shift.ensures.ends_in_range in
    let white = c.in-White.is in
    let x = c.args.man in
    let rest = slice_set men c.args.from None in
    let whole : length rest ≡ 64 = length-set men c.args.from None ∙ all in
    let free : man_at rest c.args.to ≡ None = still_empty men c.args.from c.args.to all low bare in
    record {
      of_white = subst (λ v. IsKinds c.shift.new.self.sets White (slice_set rest c.args.to v)) (sym (as_own White x white))
          (c.shift.ensures.kinds men White all (at ∙ as_own White x white) bare h.of_white);
      of_black = kinds_kept _ rest Black c.args.to (Some x) whole high (none_of Black _ free) (theirs_of White x white)
          (kinds_kept _ men Black c.args.from None all low (theirs_at White x _ at white) (none_of Black None refl) h.of_black);
      all_white = c.shift.ensures.all men White (Some x) all (own_of White x white) h.all_white;
      all_black = all_kept _ rest Black c.args.to (Some x) whole high (none_of Black _ free) (theirs_of White x white)
          (all_kept _ men Black c.args.from None all low (theirs_at White x _ at white) (none_of Black None refl) h.all_black);
      men_hash = hash_put rest c.args.to x _ _ whole high free
          (hash_lifted men c.args.from x _ _ all low at h.men_hash c.man_key.ensures) c.man_key-in-White.ensures;
    }

pub returns-in-Black : goal.returns-in-Black
returns-in-Black c = λ men all at bare h.
    let low = c.shift-in-Black.ensures.starts_in_range in
    let high = c.shift-in-Black.ensures.ends_in_range in
    let black = c.in-Black.is in
    let x = c.args.man in
    let rest = slice_set men c.args.from None in
    let whole : length rest ≡ 64 = length-set men c.args.from None ∙ all in
    let free : man_at rest c.args.to ≡ None = still_empty men c.args.from c.args.to all low bare in
    record {
      of_black = subst (λ v. IsKinds c.shift-in-Black.new.self.sets Black (slice_set rest c.args.to v))
          (sym (as_own Black x black))
          (c.shift-in-Black.ensures.kinds men Black all (at ∙ as_own Black x black) bare h.of_black);
      of_white = kinds_kept _ rest White c.args.to (Some x) whole high (none_of White _ free) (theirs_of Black x black)
          (kinds_kept _ men White c.args.from None all low (theirs_at Black x _ at black) (none_of White None refl) h.of_white);
      all_black = c.shift-in-Black.ensures.all men Black (Some x) all (own_of Black x black) h.all_black;
      all_white = all_kept _ rest White c.args.to (Some x) whole high (none_of White _ free) (theirs_of Black x black)
          (all_kept _ men White c.args.from None all low (theirs_at Black x _ at black) (none_of White None refl) h.all_white);
      men_hash = hash_put rest c.args.to x _ _ whole high free
          (hash_lifted men c.args.from x _ _ all low at h.men_hash c.man_key.ensures) c.man_key-in-Black.ensures;
    }
