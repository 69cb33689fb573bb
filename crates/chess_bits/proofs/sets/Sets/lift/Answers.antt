-- With the piece taken off, the sets and the hash are those of the new list of pieces, by cases of its colour: its sets
-- lose the square, those of the other colour stay (kinds_kept and all_kept of BoardSets), and the hash changes by one
-- key (hash_lifted of chess_moves).
use Rattle.std.proofs.Common.{◌∙◌, None, refl}
use Rattle.chess_base.specs.declared.man.Colour.TheVariants.{White, Black}
use Rattle.chess_bits.proofs.BoardSets.{kinds_kept, all_kept, none_of, theirs_at, as_own}
use Rattle.chess_moves.proofs.shared.PositionHash.{hash_lifted}
use Rattle.chess_bits.proofs.sets.Sets.lift.Goals as goal

pub returns-in-White : goal.returns-in-White
returns-in-White c = λ men all at h.
    let low = c.lift.ensures.in_range in
    let white = c.in-White.is in
    record {
      of_white = c.lift.ensures.kinds men White all (at ∙ as_own White c.args.man white) h.of_white;
      of_black = kinds_kept _ men Black c.args.square None all low (theirs_at White c.args.man _ at white) (none_of Black None refl) h.of_black;
      all_white = c.lift.ensures.all men White all h.all_white;
      all_black = all_kept _ men Black c.args.square None all low (theirs_at White c.args.man _ at white) (none_of Black None refl) h.all_black;
      men_hash = hash_lifted men c.args.square c.args.man _ _ all low at h.men_hash c.man_key.ensures;
    }

pub returns-in-Black : goal.returns-in-Black
returns-in-Black c = λ men all at h.
    let low = c.lift-in-Black.ensures.in_range in
    let black = c.in-Black.is in
    record {
      of_white = kinds_kept _ men White c.args.square None all low (theirs_at Black c.args.man _ at black) (none_of White None refl) h.of_white;
      of_black = c.lift-in-Black.ensures.kinds men Black all (at ∙ as_own Black c.args.man black) h.of_black;
      all_white = all_kept _ men White c.args.square None all low (theirs_at Black c.args.man _ at black) (none_of White None refl) h.all_white;
      all_black = c.lift-in-Black.ensures.all men Black all h.all_black;
      men_hash = hash_lifted men c.args.square c.args.man _ _ all low at h.men_hash c.man_key.ensures;
    }
