-- The definitions that loops compute, from any step of the loop on.
use Rattle.std.specs.Prelude.{ℕ, zero, suc, ◌-◌, ◌*◌, List, [], ◌∷◌, map, take, drop, Option, if◌then◌else◌}
use Rattle.std.specs.List.{join_with_byte}
use Rattle.chess_base.specs.declared.man.Colour.{Colour}
use Rattle.chess_base.specs.declared.man.CastlingSide.{CastlingSide}
use Rattle.chess_base.specs.declared.man.Man.{Man}
use Rattle.chess_base.specs.declared.man.CastlingSide.TheVariants.{KingSide, QueenSide}
use Rattle.chess_base.specs.declared.man.Kind.TheVariants.{Rook}
use Rattle.chess_base.specs.Men.{Men, man_at, is_man}
use Rattle.chess_base.specs.Castling.{home_square}
use Rattle.byte_devices.specs.Bytes.{byte}
use Rattle.chess_fen.specs.ties.Reader.{nowhere}
use Rattle.chess_fen.specs.Writing.{fen_rank}

-- the next file in a search from the board's edge on that side, where k more files are left after it: k from the h-file
-- on, 7 - k from the a-file on
abbrev pub edge_file : CastlingSide → ℕ → ℕ
edge_file KingSide k = k
edge_file QueenSide k = 7 - k

-- the square of colour c's first rook on its first rank in a search from the edge on side w, among the last k files of
-- that search (the fourth argument); `nowhere` if there is none
abbrev pub rook_among : Men → Colour → CastlingSide → ℕ → ℕ
rook_among men c w zero = nowhere
rook_among men c w (suc k) = if is_man c Rook (man_at men (home_square c (edge_file w k))) then home_square c
    (edge_file w k) else rook_among men c w k

-- the n lowest ranks of the board (the first argument is n), each as its eight squares, the highest of them first
abbrev pub ranks_down : ℕ → List (Option Man) → List (List (Option Man))
ranks_down zero men = []
ranks_down (suc rank) men = take 8 (drop (8 * rank) men) ∷ ranks_down rank men

-- the text of the n lowest ranks, the highest first, with a slash between them
abbrev pub ranks_text : ℕ → List (Option Man) → List ℕ
ranks_text n men = join_with_byte (byte "/") (map fen_rank (ranks_down n men))
