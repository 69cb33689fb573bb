-- A piece of a kind is on the board exactly if the set of the squares of that kind isn't empty (some_of_kind): a test
-- of some of a list's 64 elements is one of some square (any_square, by induction over the first n). Also: a piece of a
-- kind is White's or Black's (of_colours), and some pawn, rook or queen is on the board exactly if one of these three
-- kinds is (by_kinds).
use Rattle.std.proofs.Common.{◌≡◌, ℕ, zero, suc, ◌+◌, ◌<◌, ◌≤◌, Bool, not, ◌&&◌, ◌||◌, Option, Some, None, List, [], ◌∷◌, length, get_or, take, refl, sym, ◌∙◌, ap, arith}
use Rattle.std.proofs.{Math.Seq.take-length, lemmas.List.Folds.list_any_more}
use Rattle.std.specs.List.{list_any}
use Rattle.chess_base.specs.{declared.man.Colour.Colour, declared.man.Colour.TheVariants.White, declared.man.Colour.TheVariants.Black, declared.man.Kind.Kind, declared.man.Kind.TheVariants.Queen, declared.man.Kind.TheVariants.Rook, declared.man.Kind.TheVariants.Pawn, declared.man.Man.Man, declared.setup.Setup.Setup, Sound.IsSound, Squares.some_square, shared.Below.some_below}
use Rattle.chess_base.specs.Men.{Men, man_at, is_man, same_colour, same_kind}
use Rattle.chess_base.proofs.shared.Squares.{some_square_is, some_square_same}
use Rattle.chess_moves.specs.Sets.{contains}
use Rattle.chess_game.specs.{Ends.is_kind, ties.Material.is_pawn_rook_or_queen}

-- ---- over lists

-- four tests joined in another order
either_parts : (a b c d : Bool) → ((a || b) || (c || d)) ≡ ((a || c) || (b || d))
either_parts a b c d = grind arith

any_either : {A : Type 0} (f g : A → Bool) (xs : List A) → list_any (λ x. f x || g x) xs
    ≡ (list_any f xs || list_any g xs)
any_either f g [] = refl
any_either f g (x ∷ xs) = ap (λ b. (f x || g x) || b) (any_either f g xs)
    ∙ either_parts (f x) (g x) (list_any f xs) (list_any g xs)

next : (n : ℕ) → suc n ≡ n + 1
next n = omega arith

-- some of the first n elements passes a test exactly if some number below n gives one that does
any_below : {A : Type 0} (f : A → Bool) (xs : List A) (d : A) (n : ℕ) → n ≤ length xs
    → list_any f (take n xs) ≡ some_below n (λ k. f (get_or xs k d))
any_below f xs d zero h = refl
any_below f xs d (suc n) h = ap (λ m. list_any f (take m xs)) (next n) ∙ list_any_more f xs n d (omega arith)
    ∙ ap (λ b. b || f (get_or xs n d)) (any_below f xs d n (omega arith))

pub any_square : {A : Type 0} (f : A → Bool) (xs : List A) (d : A) → length xs ≡ 64
    → list_any f xs ≡ some_square (λ k. f (get_or xs k d))
any_square f xs d whole = ap (list_any f) (sym (take-length xs)) ∙ ap (λ n. list_any f (take n xs)) whole
    ∙ any_below f xs d 64 (omega (arith, whole)) ∙ sym (some_square_is (λ k. f (get_or xs k d)))

-- ---- by colours

by_colour : (c : Colour) (s : Bool) → s ≡ ((same_colour White c && s) || (same_colour Black c && s))
by_colour c s = grind arith

pub of_colours : (kind : Kind) (o : Option Man) → is_kind kind o ≡ (is_man White kind o || is_man Black kind o)
unfolding is_man
of_colours wanted None = refl
of_colours wanted (Some x) = by_colour x.colour (same_kind wanted x.kind)

pub not_none : (a : Bool) → not (not a) ≡ a
not_none a = grind arith

-- a piece of the kind is on the board exactly if the set of the squares of such pieces isn't empty
pub some_of_kind : (p : Setup) (kind : Kind) (w : ℕ) → IsSound p
    → ((k : ℕ) → k < 64 → contains w k ≡ is_kind kind (man_at p.men k))
    → not (not (some_square (λ k. contains w k))) ≡ list_any (is_kind kind) p.men
some_of_kind p kind w sound is =
    not_none (some_square (λ k. contains w k))
    ∙ sym (any_square (is_kind kind) p.men None sound.board
    ∙ some_square_same (λ k. is_kind kind (man_at p.men k)) (λ k. contains w k) (λ k l. sym (is k l)))

-- some pawn, rook or queen is on the board exactly if one of the three kinds is
pub by_kinds : (men : Men) → list_any is_pawn_rook_or_queen men
    ≡ (list_any (is_kind Pawn) men || list_any (is_kind Rook) men || list_any (is_kind Queen) men)
by_kinds men =
    any_either (λ o. is_kind Pawn o || is_kind Rook o) (is_kind Queen) men
    ∙ ap (λ b. b || list_any (is_kind Queen) men) (any_either (is_kind Pawn) (is_kind Rook) men)
