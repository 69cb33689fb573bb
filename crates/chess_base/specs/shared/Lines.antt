-- The lines of the board: ranks, files, and the diagonals in both directions; and the squares between two others.
use Rattle.std.specs.Prelude.{ℕ, ◌+◌, ◌-◌, ◌==◌, Bool, ◌&&◌}
use Rattle.chess_base.specs.declared.line.Line.{Line}
use Rattle.chess_base.specs.declared.line.Line.TheVariants.{Rank, File, Diagonal, Antidiagonal}
use Rattle.chess_base.specs.Squares.{file, rank, is_strictly_between, share_diagonal}

-- the number of the line of this kind on which square s is: squares of one line have the same number. The diagonal a1
-- to h8 has 7
abbrev pub line_number : Line → ℕ → ℕ
line_number Rank s = rank s
line_number File s = file s
line_number Diagonal s = rank s + 7 - file s
line_number Antidiagonal s = rank s + file s

-- squares a and b are on one line of kind l
abbrev pub same_line : Line → ℕ → ℕ → Bool
same_line l a b = line_number l a == line_number l b

-- x lies strictly between a and b on their file; false if a and b are on different files
unfoldable pub is_between_on_file : ℕ → ℕ → ℕ → Bool
is_between_on_file a b x = (file x == file a) && (file x == file b) && is_strictly_between (rank a) (rank b) (rank x)

-- x lies strictly between a and b on their rank; false if a and b are on different ranks
unfoldable pub is_between_on_rank : ℕ → ℕ → ℕ → Bool
is_between_on_rank a b x = (rank x == rank a) && (rank x == rank b) && is_strictly_between (file a) (file b) (file x)

-- x lies strictly between a and b on their diagonal; false if they share none
unfoldable pub is_between_on_diagonal : ℕ → ℕ → ℕ → Bool
is_between_on_diagonal a b x =
    share_diagonal a x && share_diagonal x b && is_strictly_between (rank a) (rank b) (rank x)
    && is_strictly_between (file a) (file b) (file x)
