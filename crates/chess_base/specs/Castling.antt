-- Castling (Laws of Chess 2023, article 3.8.2). In Chess960 (Guidelines II of the Laws) king and rooks begin anywhere
-- on the first rank, the king between the rooks, and end as in normal chess.
use Rattle.std.specs.Prelude.{ℕ, ◌+◌, ◌*◌, ◌==◌, nat_lt, Bool, true, false, not, ◌&&◌, ◌||◌, Option, is_none, [], ◌∷◌, find, position, option_and_then}
use Rattle.std.specs.Option.{option_map, option_map_or}
use Rattle.chess_base.specs.declared.castling.Castle.{Castle}
use Rattle.chess_base.specs.declared.man.Colour.{Colour}
use Rattle.chess_base.specs.declared.man.Colour.TheVariants.{White, Black}
use Rattle.chess_base.specs.declared.man.CastlingSide.{CastlingSide}
use Rattle.chess_base.specs.declared.man.CastlingSide.TheVariants.{KingSide, QueenSide}
use Rattle.chess_base.specs.declared.man.Kind.TheVariants.{King, Rook}
use Rattle.chess_base.specs.declared.man.Move.{Move}
use Rattle.chess_base.specs.declared.man.Rights.{Rights}
use Rattle.chess_base.specs.declared.man.Variant.{Variant}
use Rattle.chess_base.specs.declared.man.Variant.TheVariants.{Normal, Fischerandom}
use Rattle.chess_base.specs.declared.setup.Setup.{Setup}
use Rattle.chess_base.specs.Squares.{rank, is_between, each_square}
use Rattle.chess_base.specs.ByColour.{by_colour}
use Rattle.chess_base.specs.Men.{Men, man_at, is_man, other, first_rank}
use Rattle.chess_base.specs.Attacks.{is_attacked}

-- of two values, the king side's and the queen side's, the one of the given side
abbrev pub by_side : {A : Type 0} → A → A → CastlingSide → A
by_side king_side queen_side KingSide = king_side
by_side king_side queen_side QueenSide = queen_side

-- ---- squares

-- the square on file f (0 for a) of colour c's first rank: e1 for White and 4
abbrev pub home_square : Colour → ℕ → ℕ
home_square c f = 8 * first_rank c + f

-- normal chess: the king's initial file, e (4) (2.3)
abbrev pub king_home_file : ℕ
king_home_file = 4

-- normal chess: the initial file of this side's rook, h (7) or a (0) (2.3)
abbrev pub rook_file : CastlingSide → ℕ
rook_file = by_side 7 0

-- the king's file after castling on this side, in both variants: g (6) or c (2) (3.8.2)
abbrev pub castled_king_file : CastlingSide → ℕ
castled_king_file = by_side 6 2

-- the rook's file after castling on this side, in both variants: f (5) or d (3) (3.8.2)
abbrev pub castled_rook_file : CastlingSide → ℕ
castled_rook_file = by_side 5 3

-- ---- rights (3.8.2.1)

-- colour c's castling right on the given side: the square of the rook to castle with, or none
abbrev pub right_of : Rights → Colour → CastlingSide → Option ℕ
right_of r c KingSide = (by_colour r.white r.black c).king_side
right_of r c QueenSide = (by_colour r.white r.black c).queen_side

-- the four castling rights: colour c's on side w is `f c w`
abbrev pub rights_by : (Colour → CastlingSide → Option ℕ) → Rights
rights_by f = record {
  white = record { king_side = f White KingSide; queen_side = f White QueenSide };
  black = record { king_side = f Black KingSide; queen_side = f Black QueenSide };
}

-- the square of colour c's king, if any; of several, the first from a1 to h8
unfoldable pub king_square : Men → Colour → Option ℕ
king_square men c = position (λ o. is_man c King o) men

-- square s is on side w of square `king`: towards file h (king side) or a (queen side), if both are on one rank
abbrev pub is_to_side : CastlingSide → ℕ → ℕ → Bool
is_to_side w king s = by_side (nat_lt king s) (nat_lt s king) w

-- colour c's king, and a rook of c on square s, are where castling on side w begins: in normal chess on their initial
-- squares, as e1 and h1; in Chess960 on c's first rank, the rook on side w of the king
abbrev pub are_placed_for_castling : Variant → Men → Colour → CastlingSide → ℕ → Bool
are_placed_for_castling Normal men c w s =
    (s == home_square c (rook_file w)) && is_man c King (man_at men (home_square c king_home_file))
    && is_man c Rook (man_at men s)
are_placed_for_castling Fischerandom men c w s =
    option_map_or (λ king. (rank king == first_rank c) && (rank s == first_rank c) && is_to_side w king s)
    (king_square men c) false && is_man c Rook (man_at men s)

-- if colour c has a castling right on side w, king and rook are where this castling begins
unfoldable pub right_is_sound : Setup → Colour → CastlingSide → Bool
right_is_sound p c w = option_map_or (are_placed_for_castling p.variant p.men c w) (right_of p.rights c w) true

-- ---- which moves are castling

-- the squares of move m name colour c's castling on side w with the rook on square `rook`: in normal chess from the
-- king's initial square to where it ends (e1g1), in Chess960 from any square on the rook's rank to the rook (e1h1)
abbrev pub names_castling_with : Variant → Colour → Move → CastlingSide → ℕ → Bool
names_castling_with Normal c m w rook = (m.from == home_square c king_home_file)
    && (m.to == home_square c (castled_king_file w))
names_castling_with Fischerandom c m w rook = (rank m.from == rank rook) && (m.to == rook)

-- move m is written as castling to side w, legal or not: a king of the colour on move makes it, this colour has the
-- right on side w, and m's squares name this castling
unfoldable pub is_castling_to : Setup → Move → CastlingSide → Bool
is_castling_to p m w = is_man p.side King (man_at p.men m.from)
    && option_map_or (names_castling_with p.variant p.side m w) (right_of p.rights p.side w) false

-- the side to which move m is written as castling, legal or not, if any; the king side if both fit (possible in
-- Chess960, but in no sound position)
unfoldable pub castling : Setup → Move → Option CastlingSide
castling p m = find (is_castling_to p m) (KingSide ∷ QueenSide ∷ [])

-- ---- the squares of a castling

-- the four squares of colour c's castling on side w; king and rook start on `king` and `rook`
abbrev pub castle_from : Colour → CastlingSide → ℕ → ℕ → Castle
castle_from c w king rook = record {
  king_from = king;
  king_to = home_square c (castled_king_file w);
  rook_from = rook;
  rook_to = home_square c (castled_rook_file w);
}

-- the four squares of the castling that move m is written as, legal or not, if any
unfoldable pub castle_of : Setup → Move → Option Castle
castle_of p m =
    option_and_then (λ w. option_map (castle_from p.side w m.from) (right_of p.rights p.side w)) (castling p m)

-- ---- when castling may be played (3.8.2.2)

-- square x is on the way from a to b, both included
abbrev pub is_on_way : ℕ → ℕ → ℕ → Bool
is_on_way a b x = (x == a) || (x == b) || is_between a b x

-- castling k needs square x empty: king or rook crosses it or ends on it, and neither starts on it
unfoldable pub castling_needs_empty : Castle → ℕ → Bool
castling_needs_empty k x = (is_on_way k.king_from k.king_to x || is_on_way k.rook_from k.rook_to x)
    && not (x == k.king_from) && not (x == k.rook_from)

-- each square that castling k needs empty is empty (3.8.2.2.2, Guidelines II)
unfoldable pub castling_way_is_empty : Men → Castle → Bool
castling_way_is_empty men k = each_square (λ x. not (castling_needs_empty k x) || is_none (man_at men x))

-- before colour c's castling k, the other attacks no square that the king starts on, crosses or ends on (3.8.2.2.1)
unfoldable pub castling_way_is_safe : Men → Colour → Castle → Bool
castling_way_is_safe men c k = each_square
    (λ x. not (is_on_way k.king_from k.king_to x) || not (is_attacked men x (other c)))

-- castling k, as which move m is written, is pseudo-legal: no promotion, an empty and a safe way. In Chess960 the
-- rook may uncover an attack on the king; this is for `is_legal`
unfoldable pub castles : Setup → Move → Castle → Bool
castles p m k = is_none m.promotion && castling_way_is_empty p.men k && castling_way_is_safe p.men p.side k

-- ---- where mover and castling rook end

-- the mover's square after move m: m.to, or the king's end square in castling (in Chess960 m.to is then the rook's)
unfoldable pub mover_end : Setup → Move → ℕ
mover_end p m = option_map_or (λ k. k.king_to) (castle_of p m) m.to

-- the square on which the castling rook ends, f1 for e1g1; none without castling
unfoldable pub castling_rook_to : Setup → Move → Option ℕ
castling_rook_to p m = option_map (λ k. k.rook_to) (castle_of p m)
