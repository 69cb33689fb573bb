-- The result has just the square onto which the king castles legally to this side. With a king on the square, its move
-- to the end that names this castling is this castling (castle_told of CastlingAtHome), as `castles_legally` requires,
-- and no other end names it (castles_onto_end). Another piece never castles (no_king_castles of TargetsOf).
use Rattle.std.proofs.Common.{rules, ◌≡◌, ◌==◌, ◌&&◌, true, false, None, Some, sym, ap, ◌∙◌}
use Rattle.chess_base.specs.{declared.castling.Castle.Castle, declared.man.Kind.TheVariants.King, Castling.castle_from, laws.Castles.named_square, Men.man_at, Men.is_man, MoveList.move_of, Sound.IsSound}
use Rattle.chess_bits.proofs.{CastlingAtHome.castle_told, CastlingAtHome.castles_onto_end, TargetsOf.no_king_castles}
use Rattle.chess_bits.proofs.bits.Bits.legal_castling_end_with_rook.Goals as goal

pub returns-then-not-is_man : goal.returns-then-not-is_man
returns-then-not-is_man c = λ k low.
    let p = c.args.self.now in
    let off : is_man p.side King (man_at p.men c.args.king) ≡ false = search rules in
    rw (no_king_castles p (move_of c.args.king k None) off) (search rules)

pub castles_legally-requires-clause-castle : goal.castles_legally-requires-clause-castle
castles_legally-requires-clause-castle c =
    let p = c.args.self.now in
    let sound : IsSound p = rw (← c.self.view_is) c.self.invariant.0 in
    let king : is_man p.side King (man_at p.men c.args.king) ≡ true = search rules in
    let castle : c.castle_from-castle.result ≡ castle_from p.side c.args.castling_side c.args.king c.args.rook =
    rw (← c.self.view_is) c.castle_from-castle.ensures in
    let end : c.named_square-to.result
    ≡ named_square p.variant (castle_from p.side c.args.castling_side c.args.king c.args.rook) = search rules in
    castle_told p c.args.castling_side c.args.king c.named_square-to.result c.args.rook sound c.requires king end
    ∙ ap (λ (t : Castle). Some t) (sym castle)

pub returns : goal.returns
returns c = λ k low.
    let p = c.args.self.now in
    let sound : IsSound p = rw (← c.self.view_is) c.self.invariant.0 in
    let king : is_man p.side King (man_at p.men c.args.king) ≡ true = search rules in
    let end : c.named_square-to.result
    ≡ named_square p.variant (castle_from p.side c.args.castling_side c.args.king c.args.rook) = search rules in
    c.single_if.ensures k ∙ ap (λ t. t && (k == c.named_square-to.result)) c.castles_legally.ensures
    ∙ castles_onto_end p c.args.castling_side c.args.king c.named_square-to.result c.args.rook k sound c.requires king
    end
