-- The rules for normal chess alone. Each definition is that of the same name without `normal_` (`normal_says_castling`
-- is `is_castling_to`, `normal_has_pattern` is `is_pseudo_legal`), with castling named by the king's squares: from the
-- e-file to the g-file or the c-file.
use Rattle.std.specs.Prelude.{◌≡◌, ℕ, ◌==◌, nat_lt, Bool, false, true, not, ◌&&◌, Option, Some, None, is_some, if◌then◌else◌, map}
use Rattle.std.specs.Option.{option_map_or}
use Rattle.chess_base.specs.declared.castling.Castle.{Castle}
use Rattle.chess_base.specs.declared.man.Colour.{Colour}
use Rattle.chess_base.specs.declared.man.CastlingSide.{CastlingSide}
use Rattle.chess_base.specs.declared.man.CastlingSide.TheVariants.{KingSide, QueenSide}
use Rattle.chess_base.specs.declared.man.Kind.TheVariants.{King, Rook, Pawn}
use Rattle.chess_base.specs.declared.man.Man.{Man}
use Rattle.chess_base.specs.declared.man.Move.{Move}
use Rattle.chess_base.specs.declared.man.Variant.TheVariants.{Normal}
use Rattle.chess_base.specs.declared.setup.Setup.{Setup}
use Rattle.chess_base.specs.Squares.{squares}
use Rattle.chess_base.specs.Men.{Men, man_at, is_man, same_colour, same_kind, other}
use Rattle.chess_base.specs.Attacks.{is_in_check}
use Rattle.chess_base.specs.Castling.{right_of, rook_file, king_home_file, home_square, right_is_sound, castled_king_file, castles}
use Rattle.chess_base.specs.Before.{castle_by}
use Rattle.chess_base.specs.Moves.{pawn_moves, man_moves, after_castling, after_moving, rights_after, target_after, halfmove_after, fullmove_after, is_legal, after}

-- colour c's castling right on side w (its rook's square), if there is one, has its king and rook on their initial
-- squares
abbrev pub normal_right_is_sound_at : Men → Colour → CastlingSide → Option ℕ → Bool
normal_right_is_sound_at men c w None = true
normal_right_is_sound_at men c w (Some s) =
    (s == home_square c (rook_file w)) && is_man c King (man_at men (home_square c king_home_file))
    && is_man c Rook (man_at men s)

-- move m is castling on side w: the side on move has that right, and its king goes from e1 to g1 or c1 (e8 to g8 or c8)
unfoldable pub normal_says_castling : Setup → Move → CastlingSide → Bool
normal_says_castling p m w =
    is_some (right_of p.rights p.side w)
    && is_man p.side King (man_at p.men m.from)
    && (m.from == home_square p.side king_home_file)
    && (m.to == home_square p.side (castled_king_file w))

-- the side to which move m castles; none if it is not castling
unfoldable pub normal_castling : Setup → Move → Option CastlingSide
normal_castling p m = if normal_says_castling p m KingSide then Some KingSide else if normal_says_castling p m QueenSide
    then Some QueenSide else None

-- the four squares of the castling that move m is; none if it is not castling
unfoldable pub normal_castle_of : Setup → Move → Option Castle
normal_castle_of p m = castle_by p.side p.rights m (normal_castling p m)

-- the given piece, if it is one of the side on move, can make move m: as a pawn, by castling or as another piece
abbrev pub normal_moves_as : Setup → Move → Option Man → Bool
normal_moves_as p m None = false
normal_moves_as p m (Some x) =
    same_colour p.side x.colour
    && (if same_kind Pawn x.kind then pawn_moves p m else option_map_or (castles p m) (normal_castle_of p m)
    (man_moves p m))

-- move m is pseudo-legal: a piece of the side on move can make it, even if it leaves its own king in check
unfoldable pub normal_has_pattern : Setup → Move → Bool
normal_has_pattern p m = nat_lt m.from 64 && nat_lt m.to 64 && normal_moves_as p m (man_at p.men m.from)

-- the pieces on all 64 squares after move m of position p
unfoldable pub normal_men_after : Setup → Move → Men
normal_men_after p m = map
    (λ s. option_map_or (λ k. after_castling p m k s) (normal_castle_of p m) (after_moving p m s)) squares

-- the position after move m of position p
unfoldable pub normal_after : Setup → Move → Setup
normal_after p m = record {
  variant = Normal;
  men = normal_men_after p m;
  side = other p.side;
  rights = rights_after p m;
  target = target_after p m;
  halfmove = halfmove_after p m;
  fullmove = fullmove_after p.side p.fullmove;
}

-- the move is legal: it is pseudo-legal, and the mover's king is not attacked after it (3.9.2)
unfoldable pub normal_is_legal : Setup → Move → Bool
normal_is_legal p m = normal_has_pattern p m && not (is_in_check (normal_after p m).men p.side)

-- on position p of normal chess the rules for both variants agree with those of this file: on which castling rights are
-- sound, which moves are legal, and the position after a move
pub record NormalIsKept (p : Setup) : Type 0 where
  -- which castling rights are sound
  pub stands : (c : Colour) (w : CastlingSide)
      → right_is_sound p c w ≡ normal_right_is_sound_at p.men c w (right_of p.rights c w)
  pub legal : (m : Move) → is_legal p m ≡ normal_is_legal p m
  pub after : (m : Move) → after p m ≡ normal_after p m
