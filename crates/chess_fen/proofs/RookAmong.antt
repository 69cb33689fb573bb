-- The loop of `outer_rook` looks from the edge on for the first rook: where it finds one it is the first of the files
-- left (rook_here), otherwise the first is among the others (no_rook_here). With all eight files left it is the
-- outermost rook (outer_among).
use Rattle.std.proofs.Common.{◌≡◌, ℕ, zero, suc, ◌+◌, Bool, true, false, cond, List, [], ◌∷◌, Option, Some, refl, ap, ◌∙◌, arith, find, unwrap_or}
use Rattle.chess_base.specs.{declared.man.Colour.Colour, declared.man.CastlingSide.CastlingSide, declared.man.CastlingSide.TheVariants.KingSide, declared.man.CastlingSide.TheVariants.QueenSide, declared.man.Kind.TheVariants.Rook, Men.Men, Men.man_at, Men.is_man, Castling.home_square}
use Rattle.chess_fen.specs.{ties.Reader.nowhere, ties.Reader.outer_rook, ties.Loops.edge_file, ties.Loops.rook_among}

-- if there is a rook on the next file of the search, its square is that of the first rook
pub rook_here : (men : Men) (c : Colour) (w : CastlingSide) (left k : ℕ) → k + 1 ≡ left
    → is_man c Rook (man_at men (home_square c (edge_file w k))) ≡ true
    → home_square c (edge_file w k) ≡ rook_among men c w left
rook_here men c w zero k e h = absurd (omega (arith, e))
rook_here men c w (suc j) k e h = let same : j ≡ k = omega (arith, e) in rw (same, h) refl

-- otherwise the first rook is among the files after it
pub no_rook_here : (men : Men) (c : Colour) (w : CastlingSide) (left k : ℕ) → k + 1 ≡ left
    → is_man c Rook (man_at men (home_square c (edge_file w k))) ≡ false
    → rook_among men c w k ≡ rook_among men c w left
no_rook_here men c w zero k e h = absurd (omega (arith, e))
no_rook_here men c w (suc j) k e h = let same : j ≡ k = omega (arith, e) in rw (same, h) refl

-- ---- the whole rank

-- the first rook among these squares
abbrev first_rook : Men → Colour → List ℕ → Option ℕ
first_rook men c squares = find (λ s. is_man c Rook (man_at men s)) squares

found_next : (s : ℕ) (o : Option ℕ) (b : Bool) → unwrap_or (cond b (Some s) o) nowhere ≡ cond b s (unwrap_or o nowhere)
found_next s o true = refl
found_next s o false = refl

-- the squares of the k files that are left in a search from the edge on side w
squares_left : Colour → CastlingSide → ℕ → List ℕ
squares_left c w zero = []
squares_left c w (suc k) = home_square c (edge_file w k) ∷ squares_left c w k

-- the first rook among them is `rook_among`, `nowhere` if there is none
found_among : (men : Men) (c : Colour) (w : CastlingSide) (k : ℕ)
    → unwrap_or (first_rook men c (squares_left c w k)) nowhere ≡ rook_among men c w k
unfolding squares_left
found_among men c w zero = refl
found_among men c w (suc k) =
    let s = home_square c (edge_file w k) in
    found_next s (first_rook men c (squares_left c w k)) (is_man c Rook (man_at men s))
    ∙ ap (cond (is_man c Rook (man_at men s)) s) (found_among men c w k)

-- the first rook among all eight files is the outermost
pub outer_among : (men : Men) (c : Colour) (w : CastlingSide) → outer_rook men c w ≡ rook_among men c w 8
unfolding outer_rook squares_left
outer_among men c KingSide = found_among men c KingSide 8
outer_among men c QueenSide = found_among men c QueenSide 8
