-- By cases of what is on square a: no piece, one of this colour, or one of the other. As no piece is between, one of
-- this colour attacks b exactly if it reaches b along the line (attacked_from_by of Reaches).
use Rattle.std.proofs.Common.{arith, ◌≡◌, sym, Some, None}
use Rattle.std.proofs.lemmas.Grind.{common_steps}
use Rattle.chess_base.specs.Men.{man_at}
use Rattle.chess_base.proofs.Reaches.{attacked_from_by}
use Rattle.chess_base.proofs.attack.attacks_along.Goals as goal

pub returns-in-None : goal.returns-in-None
returns-in-None c =
    let at : man_at c.args.men.now c.args.a ≡ None = grind (arith, common_steps) in
    sym (attacked_from_by c.args.men.now c.args.line c.args.colour c.args.a c.args.b c.requires.apart c.requires.on_line
    c.requires.clear None at)

pub returns-then-eq : goal.returns-then-eq
returns-then-eq c =
    let at : man_at c.args.men.now c.args.a ≡ Some c.in-Some.man = grind (arith, common_steps) in
    let decided = attacked_from_by c.args.men.now c.args.line c.args.colour c.args.a c.args.b c.requires.apart
    c.requires.on_line c.requires.clear (Some c.in-Some.man) at in
    grind (arith, decided)

pub returns-else-eq : goal.returns-else-eq
returns-else-eq c =
    let at : man_at c.args.men.now c.args.a ≡ Some c.in-Some.man = grind (arith, common_steps) in
    let decided = attacked_from_by c.args.men.now c.args.line c.args.colour c.args.a c.args.b c.requires.apart
    c.requires.on_line c.requires.clear (Some c.in-Some.man) at in
    grind (arith, decided)
