-- Attacks along the lines of the board, and by knights.
use Rattle.std.specs.Prelude.{ℕ, ◌+◌, ◌-◌, ◌==◌, nat_le, nat_lt, Bool, true, false, not, ◌&&◌, ◌||◌}
use Rattle.std.specs.Int.{abs_diff}
use Rattle.chess_base.specs.declared.line.Line.{Line}
use Rattle.chess_base.specs.declared.line.Line.TheVariants.{Rank, File, Diagonal, Antidiagonal}
use Rattle.chess_base.specs.declared.man.Colour.{Colour}
use Rattle.chess_base.specs.declared.man.Colour.TheVariants.{White, Black}
use Rattle.chess_base.specs.declared.man.Kind.{Kind}
use Rattle.chess_base.specs.declared.man.Kind.TheVariants.{King, Queen, Rook, Bishop, Knight, Pawn}
use Rattle.chess_base.specs.Squares.{file, rank, some_square}
use Rattle.chess_base.specs.Men.{Men, man_at, is_of, is_man}
use Rattle.chess_base.specs.Attacks.{attacks, could_capture}
use Rattle.chess_base.specs.shared.Parts.{is_rank_ahead}
use Rattle.chess_base.specs.shared.Lines.{same_line}

-- how much the number rises from one square of a line of this kind to the next: 8 on a file
abbrev pub step_of : Line → ℕ
step_of Rank = 1
step_of File = 8
step_of Diagonal = 9
step_of Antidiagonal = 7

-- square a is on b's line of kind l, with a greater number than b
abbrev pub is_above : Line → ℕ → ℕ → Bool
is_above l b a = same_line l b a && nat_lt b a

-- square a is on b's line of kind l, with a smaller number than b
abbrev pub is_below : Line → ℕ → ℕ → Bool
is_below l b a = same_line l b a && nat_lt a b

-- lines of this kind are ranks or files
abbrev pub is_straight : Line → Bool
is_straight Rank = true
is_straight File = true
is_straight Diagonal = false
is_straight Antidiagonal = false

-- a piece of colour c and this kind on a could capture on b, where both are on one line of kind l with no piece between
-- them
abbrev pub reaches : Line → Colour → Kind → ℕ → ℕ → Bool
reaches l c King a b = abs_diff a b == step_of l
reaches l c Queen a b = true
reaches l c Rook a b = is_straight l
reaches l c Bishop a b = not (is_straight l)
reaches l c Knight a b = false
reaches l c Pawn a b = (abs_diff (file a) (file b) == 1) && is_rank_ahead c a b

-- ---- the attacks on a square, by where they come from

-- a piece of colour c on a attacks b
abbrev pub attacked_from : Men → Colour → ℕ → ℕ → Bool
attacked_from men c b a = is_of c (man_at men a) && attacks men a b

-- a piece of colour c above b on its line of kind l attacks b
unfoldable pub attacked_along_from_above : Men → Line → Colour → ℕ → Bool
attacked_along_from_above men l c b = some_square (λ a. is_above l b a && attacked_from men c b a)

-- a piece of colour c below b on its line of kind l attacks b
unfoldable pub attacked_along_from_below : Men → Line → Colour → ℕ → Bool
attacked_along_from_below men l c b = some_square (λ a. is_below l b a && attacked_from men c b a)

-- a piece of colour c on b's line of kind l attacks b
unfoldable pub attacked_along : Men → Line → Colour → ℕ → Bool
attacked_along men l c b = some_square (λ a. same_line l b a && attacked_from men c b a)

-- a knight of colour c attacks b
unfoldable pub attacked_by_knight : Men → Colour → ℕ → Bool
attacked_by_knight men c b = some_square (λ a. is_man c Knight (man_at men a) && could_capture men c Knight a b)

-- a knight of colour c attacks b from one of the four squares whose number is smaller than b's
unfoldable pub attacked_by_knight_from_below : Men → Colour → ℕ → Bool
attacked_by_knight_from_below men c b =
    (nat_le 2 (rank b) && nat_le 1 (file b) && is_man c Knight (man_at men (b - 16 - 1)))
    || (nat_le 2 (rank b) && nat_lt (file b) 7 && is_man c Knight (man_at men (b - 16 + 1)))
    || (nat_le 1 (rank b) && nat_le 2 (file b) && is_man c Knight (man_at men (b - 8 - 2)))
    || (nat_le 1 (rank b) && nat_lt (file b) 6 && is_man c Knight (man_at men (b - 8 + 2)))

-- a knight of colour c attacks b from one of the four squares whose number is greater than b's
unfoldable pub attacked_by_knight_from_above : Men → Colour → ℕ → Bool
attacked_by_knight_from_above men c b =
    (nat_lt (rank b) 7 && nat_le 2 (file b) && is_man c Knight (man_at men (b + 8 - 2)))
    || (nat_lt (rank b) 7 && nat_lt (file b) 6 && is_man c Knight (man_at men (b + 8 + 2)))
    || (nat_lt (rank b) 6 && nat_le 1 (file b) && is_man c Knight (man_at men (b + 16 - 1)))
    || (nat_lt (rank b) 6 && nat_lt (file b) 7 && is_man c Knight (man_at men (b + 16 + 1)))

-- a piece of colour c attacks b from a square whose number is smaller than b's
abbrev pub attacked_from_below : Men → ℕ → Colour → Bool
attacked_from_below men b c =
    attacked_by_knight_from_below men c b || attacked_along_from_below men Diagonal c b
    || attacked_along_from_below men File c b || attacked_along_from_below men Antidiagonal c b
    || attacked_along_from_below men Rank c b

-- a piece of colour c attacks b from a square whose number is greater than b's
abbrev pub attacked_from_above : Men → ℕ → Colour → Bool
attacked_from_above men b c =
    attacked_by_knight_from_above men c b || attacked_along_from_above men Rank c b
    || attacked_along_from_above men Antidiagonal c b || attacked_along_from_above men File c b
    || attacked_along_from_above men Diagonal c b

-- ---- the search for a king

-- the square that comes after k others, counted from colour c's side of the board: from a1 on for White, from h8 back
-- for Black
abbrev pub square_from_side : Colour → ℕ → ℕ
square_from_side White k = k
square_from_side Black k = 63 - k
