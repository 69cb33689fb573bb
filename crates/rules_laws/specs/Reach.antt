-- What knights, kings and pawns attack, by tables (Laws of Chess 2023, articles 3.6, 3.7.3, 3.8.1).
use Rattle.std.specs.Prelude.{◌≡◌, ℕ, Bool, List, ◌++◌, codes, map, filter, flat_map}
use Rattle.std.specs.List.{range_with_len}
use Rattle.chess_base.specs.declared.man.Colour.{Colour}
use Rattle.chess_base.specs.declared.man.Colour.TheVariants.{White, Black}
use Rattle.chess_base.specs.declared.man.Kind.TheVariants.{King, Knight, Pawn}
use Rattle.chess_base.specs.Men.{Men}
use Rattle.chess_base.specs.Attacks.{could_capture}
use Rattle.rules_laws.specs.Names.{name_of}
use Rattle.rules_laws.specs.Tables.{knight_table, king_table, white_pawn_table, black_pawn_table}

-- all squares, from a1 to h8
abbrev pub all_squares : List ℕ
all_squares = range_with_len 0 64

-- the squares from a2 to h7, where pawns can be
abbrev pub pawn_squares : List ℕ
pawn_squares = range_with_len 8 48

-- a line of a table: the name of square a, a colon, and the names of all squares b with `reaches a b`
abbrev pub table_line : (ℕ → ℕ → Bool) → ℕ → List ℕ
table_line reaches a = name_of a ++ codes ":" ++ flat_map (λ b. codes " " ++ name_of b) (filter (reaches a) all_squares)

-- whatever the other pieces are, knights and kings of either colour, and pawns of each, could capture on just the
-- squares of their tables
pub record ReachIsByTables (men : Men) : Type 0 where
  pub knight : (c : Colour) → map (table_line (could_capture men c Knight)) all_squares ≡ knight_table
  pub king : (c : Colour) → map (table_line (could_capture men c King)) all_squares ≡ king_table
  pub white_pawn : map (table_line (could_capture men White Pawn)) pawn_squares ≡ white_pawn_table
  pub black_pawn : map (table_line (could_capture men Black Pawn)) pawn_squares ≡ black_pawn_table

-- on each board, knights, kings and pawns attack by these tables
abbrev pub TablesHold : Type 0
TablesHold = (men : Men) → ReachIsByTables men
