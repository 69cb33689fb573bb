-- In the mirror colours are exchanged, and square s is `mirrored s`: same file, rank 7 - r for r. A piece in the mirror
-- attacks the mirrored squares of those it attacks (mirror_attacks_alike): distances of ranks and files are the same,
-- so are the ways between squares and what each kind could capture; and some square passes a test exactly if some
-- mirrored one does (some_mirrored), from which attacks by a colour and checks follow.
use Rattle.std.proofs.Common.{◌≡◌, ℕ, ◌+◌, ◌-◌, ◌<◌, ◌≤◌, Bool, true, false, Some, None, Option, refl, sym, ap, ap₂, ◌∙◌, arith, ◌==◌, inl, inr, subst, ◌||◌, ◌&&◌, not, is_none, option_map}
use Rattle.std.proofs.{lemmas.Bool.cases_eq, lemmas.Bool.eq-eqb, lemmas.Bool.ne_eqb, lemmas.Bool.Decides.nat_tests}
use Rattle.std.specs.{Cmp.both_ways, Int.abs_diff}
use Rattle.chess_base.specs.{declared.man.Colour.Colour, declared.man.Colour.TheVariants.White, declared.man.Colour.TheVariants.Black, declared.man.Kind.Kind, declared.man.Man.Man, ByColour.by_colour, shared.Splits.could_capture_as}
use Rattle.chess_base.specs.declared.man.Kind.TheVariants.{King, Queen, Rook, Bishop, Knight, Pawn}
use Rattle.chess_base.specs.Squares.{file, rank, is_strictly_between, share_rank_or_file, share_diagonal, is_between, some_square, each_square}
use Rattle.chess_base.specs.Men.{Men, man_at, is_man, is_of, other, same_colour, same_kind}
use Rattle.chess_base.specs.Attacks.{attacks, could_capture, is_attacked, is_clear, is_in_check}
use Rattle.chess_base.proofs.shared.Squares.{get_or-map_squares, each_square-all, each_square-at, each_square_same, some_square_same, some_square-at, some_square-none}
use Rattle.rules_laws.specs.Mirror.{mirrored, mirrored_man, mirrored_men, MirrorAttacksAlike}

-- ---- squares

pub mirrored_in : (s : ℕ) → s < 64 → mirrored s < 64
mirrored_in s h = omega (arith, h)

-- the mirror of the mirror is the square itself
pub twice : (s : ℕ) → s < 64 → mirrored (mirrored s) ≡ s
twice s h = omega (arith, h)

pub same_file : (s : ℕ) → file (mirrored s) ≡ file s
same_file s = omega arith

pub other_rank : (s : ℕ) → s < 64 → rank (mirrored s) ≡ 7 - rank s
other_rank s h = omega (arith, h)

pub rank_in : (s : ℕ) → s < 64 → rank s ≤ 7
rank_in s h = omega (arith, h)

-- squares are equal in the mirror exactly if they are equal
pub same_square : (a b : ℕ) → a < 64 → b < 64 → (mirrored a == mirrored b) ≡ (a == b)
same_square a b h l =
    elim (cases_eq a b) [
      | inl e ↦ eq-eqb (mirrored a) (mirrored b) (ap mirrored e) ∙ sym (eq-eqb a b e)
      | inr n ↦ ne_eqb (mirrored a) (mirrored b) (λ e. n (sym (twice a h) ∙ ap mirrored e ∙ twice b l)) ∙ sym (ne_eqb a b n)
    ]

-- ---- ranks counted from the other side: r becomes 7 - r

pub same_ranks : (r q : ℕ) → r ≤ 7 → q ≤ 7 → (7 - r == 7 - q) ≡ (r == q)
same_ranks r q h l = grind (arith, nat_tests)

-- ranks are as far apart as before
pub ranks_apart : (r q : ℕ) → r ≤ 7 → q ≤ 7 → abs_diff (7 - r) (7 - q) ≡ abs_diff r q
ranks_apart r q h l = omega (arith, h, l)

ranks_between : (r q t : ℕ) → r ≤ 7 → q ≤ 7 → t ≤ 7
    → is_strictly_between (7 - r) (7 - q) (7 - t) ≡ is_strictly_between r q t
ranks_between r q t a b c = grind (arith, nat_tests)

-- one rank ahead for a colour is one rank ahead for the other in the mirror
ahead : (c : Colour) (r q : ℕ) → r ≤ 7 → q ≤ 7
    → by_colour (7 - q == 7 - r + 1) (7 - r == 7 - q + 1) (other c) ≡ by_colour (q == r + 1) (r == q + 1) c
ahead White r q h l = grind (arith, nat_tests)
ahead Black r q h l = grind (arith, nat_tests)

-- ---- all squares and some square

-- a test passes on all mirrored squares exactly if it passes on all squares; some_mirrored says so of some square
pub each_mirrored : (p : ℕ → Bool) → each_square (λ s. p (mirrored s)) ≡ each_square p
each_mirrored p =
    both_ways _ _
    (λ e. each_square-all p (λ k h. subst (λ (s : ℕ). p s ≡ true) (twice k h)
    (each_square-at (λ s. p (mirrored s)) e (mirrored k) (mirrored_in k h))))
    (λ e. each_square-all (λ s. p (mirrored s)) (λ k h. each_square-at p e (mirrored k) (mirrored_in k h)))

some_found : (p q : ℕ → Bool) → ((k : ℕ) → k < 64 → p k ≡ true → some_square q ≡ true) → some_square p ≡ true
    → some_square q ≡ true
some_found p q h e = by (some_square q) refl
  where
    by : (b : Bool) → some_square q ≡ b → some_square q ≡ true
    by true on = on
    by false off = absurd (none (some_square-none p (λ k l. off_at k l (p k) refl)))
      where
        off_at : (k : ℕ) → k < 64 → (d : Bool) → p k ≡ d → p k ≡ false
        off_at k l false at = at
        off_at k l true at = (let on = h k l at in let n : true ≡ false = sym on ∙ off in cc)

        none : some_square p ≡ false → ⊥
        none f = let n : true ≡ false = sym e ∙ f in cc

pub some_mirrored : (p : ℕ → Bool) → some_square (λ s. p (mirrored s)) ≡ some_square p
some_mirrored p =
    both_ways _ _
    (some_found (λ s. p (mirrored s)) p (λ k h e. some_square-at p (mirrored k) (mirrored_in k h) e))
    (some_found p (λ s. p (mirrored s)) (λ k h e. some_square-at (λ s. p (mirrored s)) (mirrored k) (mirrored_in k h)
    (subst (λ (s : ℕ). p s ≡ true) (sym (twice k h)) e)))

-- ---- pieces

-- what is on a square, with its colour exchanged
abbrev pub flipped : Option Man → Option Man
flipped o = option_map mirrored_man o

-- on the mirrored square of the mirrored board is the same piece in the other colour
pub man_at-mirrored : (men : Men) (s : ℕ) → s < 64 → man_at (mirrored_men men) (mirrored s) ≡ flipped (man_at men s)
unfolding mirrored_men
man_at-mirrored men s h =
    get_or-map_squares (λ x. flipped (man_at men (mirrored x))) (mirrored s) None (mirrored_in s h)
    ∙ ap (λ (x : ℕ). flipped (man_at men x)) (twice s h)

pub same_colour-other : (c d : Colour) → same_colour (other c) (other d) ≡ same_colour c d
same_colour-other White White = refl
same_colour-other White Black = refl
same_colour-other Black White = refl
same_colour-other Black Black = refl

pub is_of-flipped : (c : Colour) (o : Option Man) → is_of (other c) (flipped o) ≡ is_of c o
unfolding is_of
is_of-flipped c None = refl
is_of-flipped c (Some x) = same_colour-other c x.colour

pub is_man-flipped : (c : Colour) (k : Kind) (o : Option Man) → is_man (other c) k (flipped o) ≡ is_man c k o
unfolding is_man
is_man-flipped c k None = refl
is_man-flipped c k (Some x) = ap (λ (b : Bool). b && same_kind k x.kind) (same_colour-other c x.colour)

pub is_none-flipped : (o : Option Man) → is_none (flipped o) ≡ is_none o
is_none-flipped None = refl
is_none-flipped (Some x) = refl

pub is_of-mirrored : (men : Men) (c : Colour) (s : ℕ) → s < 64
    → is_of (other c) (man_at (mirrored_men men) (mirrored s)) ≡ is_of c (man_at men s)
is_of-mirrored men c s h = ap (is_of (other c)) (man_at-mirrored men s h) ∙ is_of-flipped c (man_at men s)

pub is_man-mirrored : (men : Men) (c : Colour) (k : Kind) (s : ℕ) → s < 64
    → is_man (other c) k (man_at (mirrored_men men) (mirrored s)) ≡ is_man c k (man_at men s)
is_man-mirrored men c k s h = ap (is_man (other c) k) (man_at-mirrored men s h) ∙ is_man-flipped c k (man_at men s)

pub is_none-mirrored : (men : Men) (s : ℕ) → s < 64
    → is_none (man_at (mirrored_men men) (mirrored s)) ≡ is_none (man_at men s)
is_none-mirrored men s h = ap (λ (o : Option Man). is_none o) (man_at-mirrored men s h) ∙ is_none-flipped (man_at men s)

-- ---- lines

-- squares between others stay between them, so lines that are clear stay clear (clear-mirrored)
pub is_between-mirrored : (a b x : ℕ) → a < 64 → b < 64 → x < 64
    → is_between (mirrored a) (mirrored b) (mirrored x) ≡ is_between a b x
unfolding is_between
is_between-mirrored a b x h l m =
    rw (
      same_file a,
      same_file b,
      same_file x,
      other_rank a h,
      other_rank b l,
      other_rank x m,
      same_ranks (rank x) (rank a) (rank_in x m) (rank_in a h),
      same_ranks (rank x) (rank b) (rank_in x m) (rank_in b l),
      ranks_apart (rank a) (rank x) (rank_in a h) (rank_in x m),
      ranks_apart (rank x) (rank b) (rank_in x m) (rank_in b l),
      ranks_between (rank a) (rank b) (rank x) (rank_in a h) (rank_in b l) (rank_in x m),
    ) refl

pub clear-mirrored : (men : Men) (a b : ℕ) → a < 64 → b < 64
    → is_clear (mirrored_men men) (mirrored a) (mirrored b) ≡ is_clear men a b
unfolding is_clear
clear-mirrored men a b h l =
    sym (each_mirrored (λ x. not (is_between (mirrored a) (mirrored b) x) || is_none (man_at (mirrored_men men) x)))
    ∙ each_square_same _ _ (λ x m.
    ap₂ (λ (p q : Bool). not p || q) (is_between-mirrored a b x h l m) (is_none-mirrored men x m))

rank_or_file-mirrored : (a b : ℕ) → a < 64 → b < 64 → share_rank_or_file (mirrored a) (mirrored b) ≡ share_rank_or_file a b
rank_or_file-mirrored a b h l =
    rw (same_file a, same_file b, other_rank a h, other_rank b l, same_ranks (rank a) (rank b) (rank_in a h) (rank_in b l))
    refl

diagonal-mirrored : (a b : ℕ) → a < 64 → b < 64 → share_diagonal (mirrored a) (mirrored b) ≡ share_diagonal a b
diagonal-mirrored a b h l =
    rw (same_file a, same_file b, other_rank a h, other_rank b l, ranks_apart (rank a) (rank b) (rank_in a h) (rank_in b l))
    refl

-- ---- attacks

-- each kind of piece could capture on mirrored squares what it could on these
pub could_capture-mirrored : (men : Men) (c : Colour) (k : Kind) (a b : ℕ) → a < 64 → b < 64
    → could_capture (mirrored_men men) (other c) k (mirrored a) (mirrored b) ≡ could_capture men c k a b
unfolding could_capture
could_capture-mirrored men c King a b h l =
    rw (same_square a b h l, same_file a, same_file b, other_rank a h, other_rank b l, ranks_apart (rank a) (rank b) (rank_in a h) (rank_in b l)) refl
could_capture-mirrored men c Queen a b h l =
    rw (same_square a b h l, rank_or_file-mirrored a b h l, diagonal-mirrored a b h l, clear-mirrored men a b h l) refl
could_capture-mirrored men c Rook a b h l =
    rw (same_square a b h l, rank_or_file-mirrored a b h l, clear-mirrored men a b h l) refl
could_capture-mirrored men c Bishop a b h l =
    rw (same_square a b h l, diagonal-mirrored a b h l, clear-mirrored men a b h l) refl
could_capture-mirrored men c Knight a b h l =
    rw (same_file a, same_file b, other_rank a h, other_rank b l, ranks_apart (rank a) (rank b) (rank_in a h) (rank_in b l)) refl
could_capture-mirrored men c Pawn a b h l =
    rw (same_file a, same_file b, other_rank a h, other_rank b l)
    (ap (λ (v : Bool). (abs_diff (file a) (file b) == 1) && v) (ahead c (rank a) (rank b) (rank_in a h) (rank_in b l)))

as_flipped : (men : Men) (o : Option Man) (a b : ℕ) → a < 64 → b < 64
    → could_capture_as (mirrored_men men) (flipped o) (mirrored a) (mirrored b) ≡ could_capture_as men o a b
as_flipped men None a b h l = refl
as_flipped men (Some x) a b h l = could_capture-mirrored men x.colour x.kind a b h l

pub attacks-mirrored : (men : Men) (a b : ℕ) → a < 64 → b < 64
    → attacks (mirrored_men men) (mirrored a) (mirrored b) ≡ attacks men a b
unfolding attacks
attacks-mirrored men a b h l =
    ap (λ (o : Option Man). could_capture_as (mirrored_men men) o (mirrored a) (mirrored b)) (man_at-mirrored men a h)
    ∙ as_flipped men (man_at men a) a b h l

-- a square is attacked exactly if its mirror is attacked by the other colour; likewise check
pub is_attacked-mirrored : (men : Men) (b : ℕ) (c : Colour) → b < 64
    → is_attacked (mirrored_men men) (mirrored b) (other c) ≡ is_attacked men b c
unfolding is_attacked
is_attacked-mirrored men b c l =
    sym (some_mirrored (λ a. is_of (other c) (man_at (mirrored_men men) a) && attacks (mirrored_men men) a (mirrored b)))
    ∙ some_square_same _ _ (λ a h.
    ap₂ (λ (p q : Bool). p && q) (is_of-mirrored men c a h) (attacks-mirrored men a b h l))

pub is_in_check-mirrored : (men : Men) (c : Colour) → is_in_check (mirrored_men men) (other c) ≡ is_in_check men c
unfolding is_in_check
is_in_check-mirrored men c =
    sym (some_mirrored (λ s. is_man (other c) King (man_at (mirrored_men men) s)
    && is_attacked (mirrored_men men) s (other (other c))))
    ∙ some_square_same _ _ (λ s h.
    ap₂ (λ (p q : Bool). p && q) (is_man-mirrored men c King s h) (is_attacked-mirrored men s (other c) h))

pub mirror_attacks_alike : MirrorAttacksAlike
mirror_attacks_alike men = record {
  clear = clear-mirrored men;
  attacks = attacks-mirrored men;
  attacked = is_attacked-mirrored men;
  check = is_in_check-mirrored men;
}
