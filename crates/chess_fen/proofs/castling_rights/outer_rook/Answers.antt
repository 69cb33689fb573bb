-- Before the first file the invariant is outer_among of RookAmong. A file with a rook gives the first rook of those
-- left, which is the outermost of all (rook_here); a file without one may be dropped (no_rook_here).
use Rattle.std.proofs.Common.{◌-◌, ◌∙◌, sym, arith}
use Rattle.chess_fen.proofs.RookAmong.{rook_here, no_rook_here, outer_among}
use Rattle.chess_fen.proofs.castling_rights.outer_rook.Goals as goal

pub loop-left-init : goal.loop-left-init
loop-left-init c = sym (outer_among c.args.men.now c.args.colour c.args.castling_side)

pub returns-then-is_man : goal.returns-then-is_man
returns-then-is_man c =
    let man = sym c.is_man.ensures ∙ c.if-is_man.true in
    let rook = rw (c.index.ensures.value, c.home_square-square.ensures, c.edge_file.ensures.value) at man in
    rw (c.home_square-square.ensures, c.edge_file.ensures.value)
    (rook_here c.args.men.now c.args.colour c.args.castling_side c.loop-left.left (c.loop-left.left - 1)
    (omega arith) rook ∙ c.loop-left.invariant)

pub loop-left-preserved : goal.loop-left-preserved
loop-left-preserved c =
    let man = sym c.is_man.ensures ∙ c.if-is_man.false in
    let none = rw (c.index.ensures.value, c.home_square-square.ensures, c.edge_file.ensures.value) at man in
    no_rook_here c.args.men.now c.args.colour c.args.castling_side c.loop-left.left (c.loop-left.left - 1) (omega arith)
    none ∙ c.loop-left.invariant
