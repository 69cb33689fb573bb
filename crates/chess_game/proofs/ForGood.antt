-- No position before a capture or a pawn move is the same as one after it. The reserve of the pieces (`reserve`: each
-- counts 1, a pawn also its ranks to go) never grows, and these moves lower it; both are laws of chess_base, given here
-- as arguments. Same positions have equal reserves (other_by_reserve), so by induction over the moves none before the
-- last move (none_is_same), or before played move k (none_is_same_before), is the same, if that set the clock to 0.
use Rattle.std.proofs.Common.{◌≡◌, ◌∙◌, inl, inr, ℕ, zero, suc, ◌+◌, ◌<◌, ◌≤◌, true, false, List, [], ◌∷◌, ◌++◌, length, get_or, Option, None, Some, refl, sym, ap, subst, arith, ◌==◌, sum, if◌then◌else◌}
use Rattle.std.proofs.{Math.Seq.get_or-append_seam, lemmas.List.length-append, lemmas.List.get_or_append_left, lemmas.Bool.cases_Bool, lemmas.Bool.and_parts, lemmas.Bool.eqb-true}
use Rattle.chess_base.specs.{declared.man.Move.Move, declared.man.Kind.TheVariants.Pawn, declared.man.Man.Man, declared.setup.Saved.Saved, declared.setup.Setup.Setup, Moves.after, shared.Below.from_below, laws.Reserve.reserve, laws.Reserve.weight, laws.Reserve.ranks_to_go, laws.Laws.ReserveNeverGrows, laws.Laws.ReserveFallsForGood, Letters.white_letter}
use Rattle.chess_base.specs.Men.{Men, man_at, same_colour, same_kind}
use Rattle.chess_base.proofs.{shared.Squares.each_square-at, shared.Squares.map_squares, shared.Men.same_colour-true}
use Rattle.chess_moves.specs.Made.{WasMade}
use Rattle.chess_game.specs.{Line.position_after, Same.is_same_position, Same.same_man, Same.same_men, ties.PlayedMoves.moves_of, ties.PlayedMoves.IsKnown, ties.PlayedMoves.Follows, ties.Buckets.known_at, ties.Buckets.is_same_at, declared.game.PlayedMove.PlayedMove, declared.repetition.Hashed.Hashed}
use Rattle.chess_game.proofs.{Kept.kept_as, Kept.follows_more, Kept.last-more, Numbered.known_before}

-- ---- the same pieces have the same reserve

-- the same piece on a square has the same weight there
same_weight : (s : ℕ) (o r : Option Man) → same_man o r ≡ true → weight s o ≡ weight s r
same_weight s None None e = refl
same_weight s None (Some y) e = cc
same_weight s (Some x) None e = cc
same_weight s (Some x) (Some y) e =
    let both = and_parts (same_colour x.colour y.colour) (same_kind x.kind y.kind) e in
    let colour = same_colour-true x.colour y.colour both.0 in
    let kind : same_kind Pawn x.kind ≡ same_kind Pawn y.kind = ap (λ c. white_letter Pawn == c) (eqb-true _ _ both.1) in
    ap (λ c. if same_kind Pawn x.kind then 1 + ranks_to_go c s else 1) colour
    ∙ ap (λ b. if b then 1 + ranks_to_go y.colour s else 1) kind

-- functions that agree below n give the same list
below_alike : (n : ℕ) (f g : ℕ → ℕ) → ((k : ℕ) → k < n → f k ≡ g k) → from_below n f ≡ from_below n g
below_alike zero f g h = refl
below_alike (suc n) f g h =
    ap (λ v. v ∷ from_below n (λ k. f (suc k))) (h 0 (omega arith))
    ∙ ap (λ v. g 0 ∷ v) (below_alike n (λ k. f (suc k)) (λ k. g (suc k)) (λ k l. h (suc k) (omega arith)))

same_reserve : (men others : Men) → same_men men others ≡ true → reserve men ≡ reserve others
unfolding reserve same_men
same_reserve men others e =
    ap sum (map_squares (λ s. weight s (man_at men s))
    ∙ below_alike 64 (λ s. weight s (man_at men s)) (λ s. weight s (man_at others s))
    (λ k h. same_weight k (man_at men k) (man_at others k)
    (each_square-at (λ s. same_man (man_at men s) (man_at others s)) e k h))
    ∙ sym (map_squares (λ s. weight s (man_at others s))))

-- a position whose pieces have a greater reserve is not the same
pub other_by_reserve : (p q : Setup) → reserve q.men < reserve p.men → is_same_position p q ≡ false
unfolding is_same_position
other_by_reserve p q h =
    elim (cases_Bool (is_same_position p q)) [
      | inr fails ↦ fails
      | inl passes ↦
          let alike = same_reserve p.men q.men (grind (arith, passes)) in
          absurd (omega (arith, alike))
    ]

-- ---- along the played moves

-- along the played moves the reserve at the end is no more than at the start
pub never_grows : ReserveNeverGrows → (p : Setup) (xs : List PlayedMove) → Follows p xs
    → reserve (position_after p (moves_of xs)).men ≤ reserve p.men
never_grows law p [] f = omega arith
never_grows law p (x ∷ xs) f =
    let one : reserve (after p x.made).men ≤ reserve p.men = law p x.made f.0.sound f.0.legal in
    let later : reserve (position_after (after p x.made) (moves_of xs)).men ≤ reserve (after p x.made).men =
    subst (λ v. reserve (position_after v (moves_of xs)).men ≤ reserve v.men) f.0.left
    (never_grows law x.reached.position xs f.2) in
    omega arith

-- if played move k was a capture or a pawn move (the halfmove clock is 0 after it), each position before it (j up to k)
-- has more in reserve than the last
fallen : ReserveNeverGrows → ReserveFallsForGood → (start : Hashed) (xs : List PlayedMove) (k j : ℕ) (d : PlayedMove)
    → Follows start.position xs → k < length xs → (get_or xs k d).reached.position.halfmove ≡ 0 → j ≤ k
    → reserve (position_after start.position (moves_of xs)).men < reserve (known_at start xs j).position.men
unfolding known_at
fallen grows falls start [] k j d f h zeroed before = absurd (omega (arith, h))
fallen grows falls start (y ∷ ys) zero zero d f h zeroed before =
    let p = start.position in
    let lower : reserve (after p y.made).men < reserve p.men =
    falls p y.made f.0.sound f.0.legal (subst (λ v. v.halfmove ≡ 0) f.0.left zeroed) in
    let later : reserve (position_after (after p y.made) (moves_of ys)).men ≤ reserve (after p y.made).men =
    subst (λ v. reserve (position_after v (moves_of ys)).men ≤ reserve v.men) f.0.left
    (never_grows grows y.reached.position ys f.2) in
    omega (arith, lower, later)
fallen grows falls start (y ∷ ys) (suc k) zero d f h zeroed before =
    let p = start.position in
    let one : reserve y.reached.position.men ≤ reserve p.men = subst (λ v. reserve v.men ≤ reserve p.men) (sym f.0.left)
    (grows p y.made f.0.sound f.0.legal) in
    let rest : reserve (position_after (after p y.made) (moves_of ys)).men < reserve y.reached.position.men =
    subst (λ v. reserve (position_after v (moves_of ys)).men < reserve y.reached.position.men) f.0.left
    (fallen grows falls y.reached ys k 0 d f.2 (omega (arith, h)) zeroed (omega arith)) in
    omega (arith, one, rest)
fallen grows falls start (y ∷ ys) zero (suc j) d f h zeroed before = absurd (omega (arith, before))
fallen grows falls start (y ∷ ys) (suc k) (suc j) d f h zeroed before =
    subst (λ v. reserve (position_after v (moves_of ys)).men < reserve (known_at y.reached ys j).position.men) f.0.left
    (fallen grows falls y.reached ys k j d f.2 (omega (arith, h)) zeroed (omega (arith, before)))

-- ---- a position that a move after those of a game reached

-- the move m, which was made after the played moves of a game, as one more of them
place_of : Move → Saved → Hashed → PlayedMove
place_of m s now = record { made = m; captured = s.captured; reached = now; entry = record { earlier = 0; count = 0 } }

-- one of the played moves, or m itself, set the clock to 0: no position before it is the same as that after m
none_before : ReserveNeverGrows → ReserveFallsForGood → (start : Hashed) (xs : List PlayedMove) (now : Hashed)
    (m : Move) (s : Saved) → IsKnown now → Follows start.position xs
    → WasMade (position_after start.position (moves_of xs)) m s now.position
    → (k : ℕ) (d : PlayedMove) → k < suc (length xs)
    → (get_or (xs ++ place_of m s now ∷ []) k d).reached.position.halfmove ≡ 0 → (j : ℕ) → j ≤ k
    → is_same_at start xs now.position j ≡ false
unfolding place_of
none_before grows falls start xs now m s known follows made k d h zeroed j before =
    let x = place_of m s now in
    let played = kept_as (position_after start.position (moves_of xs)) now.position x s refl made in
    let len = length-append xs (x ∷ []) in
    let low : reserve (position_after start.position (moves_of (xs ++ x ∷ []))).men
    < reserve (known_at start (xs ++ x ∷ []) j).position.men =
    fallen grows falls start (xs ++ x ∷ []) k j d (follows_more start.position xs x follows played known)
    (omega (arith, len, h)) zeroed before in
    let end : reserve now.position.men < reserve (known_at start (xs ++ x ∷ []) j).position.men =
    subst (λ v. reserve v.men < reserve (known_at start (xs ++ x ∷ []) j).position.men)
    (sym (last-more start.position xs x played)) low in
    ap (λ v. is_same_position v.position now.position) (sym (known_before start xs x j (omega (arith, h, before))))
    ∙ other_by_reserve (known_at start (xs ++ x ∷ []) j).position now.position end

-- if m itself set the clock to 0, no position of the game is the same as the one after m
pub none_is_same : ReserveNeverGrows → ReserveFallsForGood → (start : Hashed) (xs : List PlayedMove) (now : Hashed)
    (m : Move) (s : Saved) → IsKnown now → Follows start.position xs
    → WasMade (position_after start.position (moves_of xs)) m s now.position
    → now.position.halfmove ≡ 0 → (j : ℕ) → j < length xs + 1 → is_same_at start xs now.position j ≡ false
unfolding place_of
none_is_same grows falls start xs now m s known follows made zeroed j h =
    let x = place_of m s now in
    none_before grows falls start xs now m s known follows made (length xs) x (omega arith)
    (ap (λ (v : PlayedMove). v.reached.position.halfmove) (get_or-append_seam xs x [] x) ∙ zeroed) j (omega (arith, h))

-- if played move k set the clock to 0, no position before that move is the same as the one after m
pub none_is_same_before : ReserveNeverGrows → ReserveFallsForGood → (start : Hashed) (xs : List PlayedMove)
    (now : Hashed)
    (m : Move) (s : Saved) → IsKnown now → Follows start.position xs
    → WasMade (position_after start.position (moves_of xs)) m s now.position
    → (k : ℕ) (d : PlayedMove) → k < length xs → (get_or xs k d).reached.position.halfmove ≡ 0
    → (j : ℕ) → j < k + 1 → is_same_at start xs now.position j ≡ false
none_is_same_before grows falls start xs now m s known follows made k d low zeroed j h =
    let x = place_of m s now in
    none_before grows falls start xs now m s known follows made k d (omega (arith, low))
    (ap (λ (v : PlayedMove). v.reached.position.halfmove) (get_or_append_left xs (x ∷ []) d k low) ∙ zeroed) j
    (omega (arith, h))
