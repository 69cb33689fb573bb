-- How many positions are the same as a given one: counted over the start and the positions that the played moves
-- reached (`seen`), as many as over the positions of the line (seen-line, by induction over the moves). So for the
-- game's last position `seen` is the definition's `repetition_count` (counted).
use Rattle.std.proofs.Common.{◌≡◌, ◌∙◌, ℕ, ◌+◌, Bool, List, [], ◌∷◌, count_by, cond, sym, ap, subst}
use Rattle.std.proofs.lemmas.List.Sums.{sum_by-cons}
use Rattle.chess_base.specs.{declared.setup.Setup.Setup, Moves.after}
use Rattle.chess_game.specs.{Line.positions_of, Line.position_after, Same.is_same_position, Same.repetition_count, ties.PlayedMoves.moves_of, ties.PlayedMoves.Follows, declared.game.PlayedMove.PlayedMove}

-- 1 if b holds, otherwise 0
abbrev pub one_if : Bool → ℕ
one_if b = cond b 1 0

-- how many of the start p and the positions that the played moves reached are the same as q
abbrev pub seen : Setup → List PlayedMove → Setup → ℕ
seen p xs q = one_if (is_same_position p q) + count_by (λ x. is_same_position x.reached.position q) xs

-- how many positions of the line are the same as q: as many as `seen` counts over the played moves
pub seen-line : (p : Setup) (xs : List PlayedMove) (q : Setup) → Follows p xs
    → count_by (λ r. is_same_position r q) (positions_of p (moves_of xs)) ≡ seen p xs q
seen-line p [] q f = sum_by-cons (λ r. one_if (is_same_position r q)) p []
seen-line p (x ∷ xs) q f =
    let later : count_by (λ r. is_same_position r q) (positions_of (after p x.made) (moves_of xs))
    ≡ seen x.reached.position xs q =
    subst (λ v. count_by (λ r. is_same_position r q) (positions_of v (moves_of xs)) ≡ seen x.reached.position xs q)
    f.0.left
    (seen-line x.reached.position xs q f.2) in
    sum_by-cons (λ r. one_if (is_same_position r q)) p (positions_of (after p x.made) (moves_of xs))
    ∙ ap (λ n. one_if (is_same_position p q) + n)
    (later ∙ sym (sum_by-cons (λ y. one_if (is_same_position y.reached.position q)) x xs))

-- for q, the last position, `seen` is the definition's count
pub counted : (p : Setup) (xs : List PlayedMove) (q : Setup) → Follows p xs → q ≡ position_after p (moves_of xs)
    → seen p xs q ≡ repetition_count p (moves_of xs)
unfolding repetition_count
counted p xs q f at = ap (seen p xs) at ∙ sym (seen-line p xs (position_after p (moves_of xs)) f)
