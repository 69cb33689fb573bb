-- By what `nearest_king` gives. A king that is found is the only one of the colour, so whether it is in check is
-- whether the king's square is attacked (check_at_king of KingChecks); without a king it is not in check
-- (no_check_without_king).
use Rattle.std.proofs.Common.{arith, rules, ◌≡◌, length}
use Rattle.chess_base.proofs.{KingChecks.check_at_king, KingChecks.no_check_without_king, shared.Men.in_board}
use Rattle.chess_base.proofs.attack.is_king_attacked.Goals as goal

pub returns-in-None : goal.returns-in-None
returns-in-None c =
    no_check_without_king c.args.men.now c.args.colour (c.nearest_king.ensures.none c.in-None.is)

pub returns-in-Some : goal.returns-in-Some
returns-in-Some c =
    let all : length c.args.men.now ≡ 64 = search rules in
    let there = c.nearest_king.ensures.found c.in-Some.king c.in-Some.is in
    let decided = check_at_king c.args.men.now c.args.colour c.in-Some.king
    (in_board _ _ _ _ all there) all c.requires there in
    grind (arith, decided)
