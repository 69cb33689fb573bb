-- Three clauses: the setup after is the position after the move (after_shift of Making), what is returned is what
-- `saved_of` saves (saved_shifting), and the sets are those of the pieces. The move takes a piece from one square to
-- another and changes no more (`Shifts`), so two writes are enough, and what was on the end square is captured. Two
-- goals are what `rights_left` and `target_left` require: the mover is on the start square.
use Rattle.std.proofs.Common.{◌≡◌, ◌≢◌, ◌<◌, length, length-set, set, get_or-set_other, Some, None, ap, sym, ◌∙◌, subst}
use Rattle.chess_base.specs.Men.{man_at}
use Rattle.chess_bits.proofs.BoardSets.{cleared}
use Rattle.chess_bits.proofs.Making.{after_shift, apart, saved_shifting, shifted_over, shifts_from}
use Rattle.chess_bits.proofs.placing.shift.Goals as goal

pub rights_left-rights-requires-clause-mover : goal.rights_left-rights-requires-clause-mover
rights_left-rights-requires-clause-mover c =
    (shifts_from c.args.setup.now c.args.m.now c.args.man c.requires.shifted).mover

pub target_left-target-requires : goal.target_left-target-requires
target_left-target-requires c = (shifts_from c.args.setup.now c.args.m.now c.args.man c.requires.shifted).mover

pub returns-clause-setup : goal.returns-clause-setup
returns-clause-setup c =
    let p = c.args.setup.now in
    let m = c.args.m.now in
    rw (c.end_turn.ensures, c.index-2.ensures.value, c.index-3.ensures.value)
    (after_shift p m c.args.man c.rights_left-rights.result c.target_left-target.result c.halfmove_left-halfmove.result
    c.requires.sound c.requires.legal (shifts_from p m c.args.man c.requires.shifted) c.rights_left-rights.ensures
    c.target_left-target.ensures
    (rw c.index.ensures.value at c.halfmove_left-halfmove.ensures))

pub returns-clause-saved : goal.returns-clause-saved
returns-clause-saved c =
    let p = c.args.setup.now in
    let m = c.args.m.now in
    rw c.index.ensures.value
    (saved_shifting p m c.args.man c.requires.sound c.requires.legal
    (shifts_from p m c.args.man c.requires.shifted))

pub returns-clause-sets : goal.returns-clause-sets
returns-clause-sets c =
    λ are.
    let p = c.args.setup.now in
    let m = c.args.m.now in
    let h = shifts_from p m c.args.man c.requires.shifted in
    let all : length p.men ≡ 64 = c.requires.sound.board in
    let away : m.to ≢ m.from = apart p m c.args.man c.requires.sound c.requires.legal h in
    let low : m.to < 64 = subst (λ n. n < 64) c.index.ensures.value c.index.ensures.in_range in
    let whole : length (set p.men m.to None) ≡ 64 = length-set p.men m.to None ∙ all in
    let there : man_at (set p.men m.to None) m.from ≡ Some c.args.man =
    get_or-set_other p.men m.to m.from None None (λ e. away (sym e)) ∙ h.mover in
    let first = c.clear.ensures p.men all (ap (man_at p.men) (sym c.index.ensures.value)) are in
    rw (c.end_turn.ensures, c.index-2.ensures.value, c.index-3.ensures.value, ← shifted_over p.men m.from m.to (Some c.args.man) away)
    (c.shift.ensures (set p.men m.to None) whole there (cleared p.men m.to low all) first)
