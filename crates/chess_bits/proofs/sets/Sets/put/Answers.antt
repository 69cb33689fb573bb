-- With the piece put on an empty square, the sets and the hash are those of the new list of pieces, by cases of its
-- colour: its sets gain the square, those of the other colour stay (kinds_kept and all_kept of BoardSets), and the hash
-- changes by one key (hash_put of chess_moves).
use Rattle.std.proofs.Common.{slice_set, Some, sym, subst}
use Rattle.chess_base.specs.declared.man.Colour.TheVariants.{White, Black}
use Rattle.chess_bits.specs.ties.KindSets.{IsKinds}
use Rattle.chess_bits.proofs.BoardSets.{kinds_kept, all_kept, none_of, theirs_of, own_of, as_own}
use Rattle.chess_moves.proofs.shared.PositionHash.{hash_put}
use Rattle.chess_bits.proofs.sets.Sets.put.Goals as goal

pub returns-in-White : goal.returns-in-White
returns-in-White c = λ men all at h.
    let low = c.put.ensures.in_range in
    let white = c.in-White.is in
    record {
      of_white = subst (λ v. IsKinds c.put.new.self.sets White (slice_set men c.args.square v))
          (sym (as_own White c.args.man white)) (c.put.ensures.kinds men White all at h.of_white);
      of_black = kinds_kept _ men Black c.args.square (Some c.args.man) all low (none_of Black _ at) (theirs_of White c.args.man white) h.of_black;
      all_white = c.put.ensures.all men White (Some c.args.man) all (own_of White c.args.man white) h.all_white;
      all_black = all_kept _ men Black c.args.square (Some c.args.man) all low (none_of Black _ at) (theirs_of White c.args.man white) h.all_black;
      men_hash = hash_put men c.args.square c.args.man _ _ all low at h.men_hash c.man_key.ensures;
    }

pub returns-in-Black : goal.returns-in-Black
returns-in-Black c = λ men all at h.
    let low = c.put-in-Black.ensures.in_range in
    let black = c.in-Black.is in
    record {
      of_white = kinds_kept _ men White c.args.square (Some c.args.man) all low (none_of White _ at) (theirs_of Black c.args.man black) h.of_white;
      of_black = subst (λ v. IsKinds c.put-in-Black.new.self.sets Black (slice_set men c.args.square v))
          (sym (as_own Black c.args.man black)) (c.put-in-Black.ensures.kinds men Black all at h.of_black);
      all_white = all_kept _ men White c.args.square (Some c.args.man) all low (none_of White _ at) (theirs_of Black c.args.man black) h.all_white;
      all_black = c.put-in-Black.ensures.all men Black (Some c.args.man) all (own_of Black c.args.man black) h.all_black;
      men_hash = hash_put men c.args.square c.args.man _ _ all low at h.men_hash c.man_key.ensures;
    }
