-- Which moves are legal, and the position after a move (Laws of Chess 2023, article 3).
use Rattle.std.specs.Prelude.{ℕ, ◌+◌, ◌==◌, nat_lt, min, Bool, false, not, ◌&&◌, ◌||◌, Option, Some, None, is_none, is_some, if◌then◌else◌, option_and_then, map}
use Rattle.std.specs.Option.{option_map, option_map_or, unwrap_or}
use Rattle.chess_base.specs.declared.castling.Castle.{Castle}
use Rattle.chess_base.specs.declared.man.Colour.{Colour}
use Rattle.chess_base.specs.declared.man.Kind.{Kind}
use Rattle.chess_base.specs.declared.man.Kind.TheVariants.{King, Rook, Pawn}
use Rattle.chess_base.specs.declared.man.Man.{Man}
use Rattle.chess_base.specs.declared.man.Move.{Move}
use Rattle.chess_base.specs.declared.man.Rights.{Rights}
use Rattle.chess_base.specs.declared.setup.Setup.{Setup}
use Rattle.chess_base.specs.declared.setup.TheConstants.{COUNTER_LIMIT}
use Rattle.chess_base.specs.declared.steps.Steps.{Steps}
use Rattle.chess_base.specs.Squares.{rank, is_at, squares}
use Rattle.chess_base.specs.ByColour.{by_colour}
use Rattle.chess_base.specs.Men.{Men, man_at, is_of, is_man, same_colour, same_kind, other, forward, first_rank, pawn_rank}
use Rattle.chess_base.specs.Attacks.{attacks, is_in_check}
use Rattle.chess_base.specs.Castling.{right_of, rights_by, castle_of, castling_rook_to, castles, mover_end}

-- a pawn's move may name this promotion: on the last rank (`last`) a queen, rook, bishop or knight, elsewhere none
-- (3.7.3.3)
abbrev pub promotion_fits : Bool → Option Kind → Bool
promotion_fits last None = not last
promotion_fits last (Some k) = not (same_kind k King) && not (same_kind k Pawn) && last

-- a pawn of the side on move goes two squares straight ahead from its home rank (e2e4), whatever is on these squares
-- (3.7.2)
unfoldable pub is_double_advance : Setup → Move → Bool
is_double_advance p m = is_man p.side Pawn (man_at p.men m.from) && (rank m.from == pawn_rank p.side)
    && (m.to == forward p.side (forward p.side m.from))

-- a pawn of the side on move goes diagonally ahead to the en passant target (3.7.3.1): e5d6 after d7d5
unfoldable pub is_en_passant : Setup → Move → Bool
is_en_passant p m = is_man p.side Pawn (man_at p.men m.from) && attacks p.men m.from m.to && is_at p.target m.to

-- a pawn goes straight ahead to an empty square: by one, or from its home rank by two over an empty one (3.7.1, 3.7.2)
unfoldable pub pawn_advances : Setup → Move → Bool
pawn_advances p m = is_none (man_at p.men m.to)
    && ((m.to == forward p.side m.from) || (is_double_advance p m && is_none (man_at p.men (forward p.side m.from))))

-- a pawn goes diagonally ahead, to an enemy piece or the en passant target (3.7.3)
unfoldable pub pawn_captures : Setup → Move → Bool
pawn_captures p m = attacks p.men m.from m.to && (is_of (other p.side) (man_at p.men m.to) || is_at p.target m.to)

-- a pawn advances or captures, and names a promotion exactly if it ends on the last rank (3.7)
unfoldable pub pawn_moves : Setup → Move → Bool
pawn_moves p m =
    promotion_fits (rank m.to == first_rank (other p.side)) m.promotion && (pawn_advances p m || pawn_captures p m)

-- move m, not a pawn's and not castling, goes to a square that its piece attacks and where no own piece is (3.1), and
-- names no promotion
unfoldable pub man_moves : Setup → Move → Bool
man_moves p m = is_none m.promotion && attacks p.men m.from m.to && not (is_of p.side (man_at p.men m.to))

-- the last argument, what is on move m's start square, is a piece of the side on move that can make m
abbrev pub moves_as : Setup → Move → Option Man → Bool
moves_as p m None = false
moves_as p m (Some x) = same_colour p.side x.colour
    && (if same_kind Pawn x.kind then pawn_moves p m else option_map_or (castles p m) (castle_of p m) (man_moves p m))

-- move m is pseudo-legal: a piece of the side on move can make it on the 64 squares (3.1 to 3.8), even if this leaves
-- its king in check. Castling isn't pseudo-legal if the king is in check, or crosses or reaches an attacked square
unfoldable pub is_pseudo_legal : Setup → Move → Bool
is_pseudo_legal p m = nat_lt m.from 64 && nat_lt m.to 64 && moves_as p m (man_at p.men m.from)

-- the moved piece as it arrives: `o` from the start square, but of kind k if the move promotes to k
abbrev pub arriving_man : Option Man → Option Kind → Option Man
arriving_man o k = option_map (λ (x : Man). record x { kind = unwrap_or k x.kind }) o

-- the square of the piece that move m captures, if any: m.to, or en passant a step back from m.to (e5 if White captures
-- on e6)
unfoldable pub captured_square : Setup → Move → Option ℕ
captured_square p m = if is_en_passant p m then Some (forward (other p.side) m.to)
    else if is_of (other p.side) (man_at p.men m.to) then Some m.to
    else None

-- what is on square s after move m, which is castling k: king and rook have moved. If legal, m has no promotion
abbrev pub after_castling : Setup → Move → Castle → ℕ → Option Man
after_castling p m k s = if s == k.king_to then arriving_man (man_at p.men m.from) m.promotion
    else if s == k.rook_to then Some (record { colour = p.side; kind = Rook })
    else if (s == k.king_from) || (s == k.rook_from) then None
    else man_at p.men s

-- what is on square s after move m, if m is not castling; a pawn captured en passant is gone too
abbrev pub after_moving : Setup → Move → ℕ → Option Man
after_moving p m s = if s == m.to then arriving_man (man_at p.men m.from) m.promotion
    else if (s == m.from) || is_at (captured_square p m) s then None
    else man_at p.men s

-- what is on each of the 64 squares after move m
unfoldable pub men_after : Setup → Move → Men
men_after p m = map (λ s. option_map_or (λ k. after_castling p m k s) (castle_of p m) (after_moving p m s)) squares

-- the castling rights after move m: one is lost if its king moves, or m starts or ends on its rook's square (3.8.2.1)
unfoldable pub rights_after : Setup → Move → Rights
rights_after p m = rights_by (λ c w. option_and_then
    (λ rook. if is_man c King (man_at p.men m.from) || (m.from == rook) || (m.to == rook) then None else Some rook)
    (right_of p.rights c w))

-- the en passant target after a move: the square that a double advance crosses (e3 after e2e4), otherwise none
unfoldable pub target_after : Setup → Move → Option ℕ
target_after p m = if is_double_advance p m then Some (forward p.side m.from) else None

-- move m sets the halfmove clock to 0: it moves a pawn or captures a piece (9.3)
unfoldable pub resets_clock : Setup → Move → Bool
resets_clock p m = is_man p.side Pawn (man_at p.men m.from) || is_some (captured_square p m)

-- the halfmove clock after move m: 0 if m resets it, else one more, at most 999,999
unfoldable pub halfmove_after : Setup → Move → ℕ
halfmove_after p m = if resets_clock p m then 0 else min (p.halfmove + 1) COUNTER_LIMIT

-- the fullmove number after a move of colour c, n before it: n after White's, n + 1 after Black's, at most 999,999
abbrev pub fullmove_after : Colour → ℕ → ℕ
fullmove_after c n = by_colour n (min (n + 1) COUNTER_LIMIT) c

-- the position after move m in position p, legal or not
unfoldable pub after : Setup → Move → Setup
after p m = record {
  variant = p.variant;
  men = men_after p m;
  side = other p.side;
  rights = rights_after p m;
  target = target_after p m;
  halfmove = halfmove_after p m;
  fullmove = fullmove_after p.side p.fullmove;
}

-- move m is legal in position p: pseudo-legal, and its side's king is not attacked after it (3.9.2)
unfoldable pub is_legal : Setup → Move → Bool
is_legal p m = is_pseudo_legal p m && not (is_in_check (after p m).men p.side)

-- ---- what a move changes on the board, in steps; by a law they give `men_after`

-- the square that a second piece leaves by move m: that of the pawn taken en passant, or the castling rook's, or none
unfoldable pub second_square_emptied : Setup → Move → Option ℕ
second_square_emptied p m =
    if is_en_passant p m then Some (forward (other p.side) m.to) else option_map (λ k. k.rook_from) (castle_of p m)

-- what move m changes on the board: the mover goes from `from` to `to`, a castling rook (`second`) from `second_from`
-- to `second_to`; a pawn taken en passant leaves `second_from`. Without castling, `second` means nothing
abbrev pub steps_of : Setup → Move → Steps
steps_of p m = record {
  from = m.from;
  second_from = second_square_emptied p m;
  second_to = castling_rook_to p m;
  second = Some (record { colour = p.side; kind = Rook });
  to = mover_end p m;
  mover = arriving_man (man_at p.men m.from) m.promotion;
}
