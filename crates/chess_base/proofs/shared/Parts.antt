-- Each of three definitions equals the one that is put together of its parts in specs/shared: what is between two
-- squares (is_between_is), the empty way of castling (castling_way_is_empty_is, castling_way_is_empty_by) and the sound
-- target (target_is_sound_is). By unfolding, and by putting tests in another order.
use Rattle.std.proofs.Common.{arith, ◌≡◌, ℕ, ◌==◌, Bool, true, not, ◌&&◌, ◌||◌, Option, Some, None, is_none, refl}
use Rattle.std.proofs.lemmas.Bool.Decides.{nat_tests}
use Rattle.std.specs.Option.{option_map_or}
use Rattle.chess_base.specs.{declared.castling.Castle.Castle, declared.man.Colour.Colour, declared.man.Colour.TheVariants.White, declared.man.Colour.TheVariants.Black, declared.man.Kind.TheVariants.Pawn, declared.setup.Setup.Setup, Squares.rank, Squares.is_between, Squares.each_square, Castling.is_on_way, Castling.castling_needs_empty, Castling.castling_way_is_empty, Sound.target_is_sound, shared.Lines.is_between_on_file, shared.Lines.is_between_on_rank, shared.Lines.is_between_on_diagonal, shared.Parts.crossed_rank, shared.Parts.target_is_sound_at}
use Rattle.chess_base.specs.Men.{Men, man_at, is_man, other, forward, pawn_rank}
use Rattle.chess_base.proofs.shared.Squares.{each_square_same}

-- what is between two squares, by file, rank and diagonal
pub is_between_is : (a b x : ℕ)
    → is_between a b x ≡ (is_between_on_file a b x || is_between_on_rank a b x || is_between_on_diagonal a b x)
unfolding is_between is_between_on_file is_between_on_rank is_between_on_diagonal
is_between_is a b x = refl

-- "if w and neither a nor b, then n", as a list of tests of which one passes
needs_or : (w a b n : Bool) → (not (w && not a && not b) || n) ≡ (not w || a || b || n)
needs_or w a b n = grind arith

-- the way of castling is empty, by its squares
pub castling_way_is_empty_is : (men : Men) (k : Castle)
    → castling_way_is_empty men k ≡ each_square (λ x. not (castling_needs_empty k x) || is_none (man_at men x))
unfolding castling_way_is_empty
castling_way_is_empty_is men k = refl

-- the same, square by square: it is on neither way, or one of the two starts on it, or it is empty
pub castling_way_is_empty_by : (men : Men) (k : Castle)
    → castling_way_is_empty men k ≡ each_square
    (λ x. not (is_on_way k.king_from k.king_to x || is_on_way k.rook_from k.rook_to x) || (x == k.king_from)
    || (x == k.rook_from) || is_none (man_at men x))
unfolding castling_way_is_empty castling_needs_empty
castling_way_is_empty_by men k =
    each_square_same _ _ (λ x l.
    needs_or (is_on_way k.king_from k.king_to x || is_on_way k.rook_from k.rook_to x) (x == k.king_from)
    (x == k.rook_from) (is_none (man_at men x)))

-- a square is on the rank that the other colour's double advances cross exactly if the square ahead of it is on the
-- rank where these start
start_rank : (c : Colour) (t : ℕ) → (rank (forward c t) == pawn_rank (other c)) ≡ (rank t == crossed_rank (other c))
start_rank White t = grind (arith, nat_tests)
start_rank Black t = grind (arith, nat_tests)

-- four joined tests in another order
in_order : (a b c d : Bool) → (a && b && c && d) ≡ (a && c && d && b)
in_order a b c d = grind arith

-- when a target is sound, by the rank of the square before it
pub target_by_rank : (men : Men) (c : Colour) (o : Option ℕ)
    → option_map_or (λ t. (rank (forward c t) == pawn_rank (other c)) && is_none (man_at men (forward c t))
    && is_none (man_at men t) && is_man (other c) Pawn (man_at men (forward (other c) t))) o true
    ≡ target_is_sound_at men c o
target_by_rank men c None = refl
target_by_rank men c (Some t) =
    rw (start_rank c t)
    (in_order (rank t == crossed_rank (other c)) (is_none (man_at men (forward c t))) (is_none (man_at men t))
    (is_man (other c) Pawn (man_at men (forward (other c) t))))

-- when a position's target is sound, by its pieces, side and target
pub target_is_sound_is : (p : Setup) → target_is_sound p ≡ target_is_sound_at p.men p.side p.target
unfolding target_is_sound
target_is_sound_is p = target_by_rank p.men p.side p.target
