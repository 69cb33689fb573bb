-- Parts of the definitions at the top of specs/ by names of their own, for contracts of private functions and proofs;
-- and a number for each kind of piece, by which chess_bits indexes its sets.
use Rattle.std.specs.Prelude.{ℕ, ◌+◌, ◌==◌, nat_le, Bool, true, false, not, ◌&&◌, ◌||◌, List, [], Option, Some, None, is_none, if◌then◌else◌, option_and_then}
use Rattle.std.specs.Option.{option_map_or}
use Rattle.chess_base.specs.declared.man.Colour.{Colour}
use Rattle.chess_base.specs.declared.man.Colour.TheVariants.{White, Black}
use Rattle.chess_base.specs.declared.man.CastlingSide.{CastlingSide}
use Rattle.chess_base.specs.declared.man.Kind.{Kind}
use Rattle.chess_base.specs.declared.man.Kind.TheVariants.{King, Queen, Rook, Bishop, Knight, Pawn}
use Rattle.chess_base.specs.declared.man.Move.{Move}
use Rattle.chess_base.specs.declared.setup.Setup.{Setup}
use Rattle.chess_base.specs.declared.setup.TheConstants.{COUNTER_LIMIT}
use Rattle.chess_base.specs.Squares.{rank}
use Rattle.chess_base.specs.ByColour.{by_colour}
use Rattle.chess_base.specs.Men.{Men, man_at, is_man, other, forward, first_rank}
use Rattle.chess_base.specs.Castling.{is_to_side}

-- the index of a kind of piece among the sets of chess_bits
abbrev pub kind_number : Kind → ℕ
kind_number King = 0
kind_number Queen = 1
kind_number Rook = 2
kind_number Bishop = 3
kind_number Knight = 4
kind_number Pawn = 5

-- the rank that a colour's pawn crosses by a double advance: 2 (rank 3) for White, 5 (rank 6) for Black
abbrev pub crossed_rank : Colour → ℕ
crossed_rank = by_colour 2 5

-- square b is one rank ahead of square a for this colour's pawns, on any file: for White, all of rank 5 is ahead of e4
abbrev pub is_rank_ahead : Colour → ℕ → ℕ → Bool
is_rank_ahead c a b = by_colour (rank b == rank a + 1) (rank a == rank b + 1) c

-- the square one step back from s for a pawn of colour c: for White e5 from e6
abbrev pub one_rank_back : Colour → ℕ → ℕ
one_rank_back c s = forward (other c) s

-- the king's square (`o`) and square s are on colour c's first rank, and s is on side w of the king; false without a
-- king
abbrev pub is_on_side_of_king : Colour → CastlingSide → Option ℕ → ℕ → Bool
is_on_side_of_king c w o s =
    option_map_or (λ king. (rank king == first_rank c) && (rank s == first_rank c) && is_to_side w king s) o false

-- no pawn of either colour is on square s, or s is on neither rank 1 nor rank 8
abbrev pub pawn_is_allowed : Men → ℕ → Bool
pawn_is_allowed men s = not ((is_man White Pawn (man_at men s) || is_man Black Pawn (man_at men s))
    && ((rank s == 0) || (rank s == 7)))

-- with colour c on move, the en passant target, if there is one, is a square that an enemy pawn may just have crossed
-- by a double advance, as `target_is_sound` says
abbrev pub target_is_sound_at : Men → Colour → Option ℕ → Bool
target_is_sound_at men c None = true
target_is_sound_at men c (Some t) =
    (rank t == crossed_rank (other c)) && is_none (man_at men t)
    && is_man (other c) Pawn (man_at men (forward (other c) t)) && is_none (man_at men (forward c t))

-- colour c's castling right on one side after move m, from the right before (`o`): the rook's square, or none
abbrev pub right_after : Setup → Move → Colour → Option ℕ → Option ℕ
right_after p m c o = option_and_then
    (λ rook. if is_man c King (man_at p.men m.from) || (m.from == rook) || (m.to == rook) then None else Some rook) o

-- the halfmove clock is at most 999,999, and the fullmove number from 1 to 999,999
abbrev pub counters_fit : Setup → Bool
counters_fit p = nat_le p.halfmove COUNTER_LIMIT && nat_le 1 p.fullmove && nat_le p.fullmove COUNTER_LIMIT

-- f of the value if there is one, otherwise the empty text
abbrev pub optional : {A : Type 0} → (A → List ℕ) → Option A → List ℕ
optional f o = option_map_or f o []
