-- `IsUnended` (no verdict came before a game's last move) holds with one more move, if there was no verdict yet
-- (unended_more), and with one move fewer (unended_fewer): each beginning of one list of moves is a beginning of the
-- other, or all of it. Also: the last played move holds the game's last move (last_is), and a game that is not over has
-- no verdict (no_verdict).
use Rattle.std.proofs.Common.{◌≡◌, ◌∙◌, ◌⊎◌, inl, inr, ℕ, ◌+◌, ◌-◌, ◌<◌, List, [], ◌∷◌, ◌++◌, length, take, slice_get, Option, None, Some, is_some, Ok, Bool, false, ◌||◌, refl, sym, ap, subst, arith}
use Rattle.std.proofs.{Math.Seq.take-length, lemmas.List.map-append, lemmas.List.length-append, lemmas.List.take-append-le}
use Rattle.chess_base.specs.{declared.setup.Setup.Setup, declared.man.Move.Move}
use Rattle.chess_game.specs.{Ends.verdict, Game.State, Game.last_move, Game.is_over, ties.PlayedMoves.moves_of, ties.PlayedMoves.IsUnended, declared.verdicts.Verdict.Verdict, declared.game.PlayedMove.PlayedMove}

last_or_below : (n k : ℕ) → k < n + 1 → (k ≡ n) ⊎ (k < n)
last_or_below n k h = grind arith

-- if no verdict came before the end of the moves ms, nor at it, none came before the end of ms and then m
more : (p : Setup) (ms : List Move) (m : Move) → ((k : ℕ) → k < length ms → verdict p (take k ms) ≡ None)
    → verdict p ms ≡ None
    → (k : ℕ) → k < length (ms ++ m ∷ []) → verdict p (take k (ms ++ m ∷ [])) ≡ None
more p ms m before now k h =
    let len : length (ms ++ m ∷ []) ≡ length ms + 1 = length-append ms (m ∷ []) in
    elim (last_or_below (length ms) k (omega (arith, len))) [
      | inl all ↦ ap (verdict p)
          (ap (λ n. take n (ms ++ m ∷ [])) all ∙ take-append-le (length ms) ms (m ∷ []) (omega arith) ∙ take-length ms)
          ∙ now
      | inr less ↦ ap (verdict p) (take-append-le k ms (m ∷ []) (omega arith)) ∙ before k less
    ]

pub unended_more : (p : Setup) (xs : List PlayedMove) (x : PlayedMove) → IsUnended p (moves_of xs)
    → verdict p (moves_of xs) ≡ None
    → IsUnended p (moves_of (xs ++ x ∷ []))
unended_more p xs x unended none = record {
  before = subst (λ ms. (k : ℕ) → k < length ms → verdict p (take k ms) ≡ None)
      (sym (map-append (λ (y : PlayedMove). y.made) xs (x ∷ [])))
      (more p (moves_of xs) x.made unended.before none);
}

-- if no verdict came before the end of the moves ms and then m, none came at the end of ms or before
fewer : (p : Setup) (ms : List Move) (m : Move)
    → ((k : ℕ) → k < length (ms ++ m ∷ []) → verdict p (take k (ms ++ m ∷ [])) ≡ None) → (k : ℕ) → k < length ms + 1
    → verdict p (take k ms) ≡ None
fewer p ms m before k h =
    let len : length (ms ++ m ∷ []) ≡ length ms + 1 = length-append ms (m ∷ []) in
    ap (verdict p) (sym (take-append-le k ms (m ∷ []) (omega arith))) ∙ before k (omega (arith, len))

pub unended_fewer : (p : Setup) (xs ys : List PlayedMove) (x : PlayedMove) → IsUnended p (moves_of xs)
    → xs ≡ ys ++ x ∷ [] → IsUnended p (moves_of ys)
unended_fewer p xs ys x unended is =
    let all : moves_of xs ≡ moves_of ys ++ x.made ∷ [] = ap moves_of is
    ∙ map-append (λ (y : PlayedMove). y.made) ys (x ∷ []) in
    let later = fewer p (moves_of ys) x.made
    (subst (λ ms. (k : ℕ) → k < length ms → verdict p (take k ms) ≡ None) all unended.before) in
    record { before = λ k h. later k (omega arith) }

-- the element after a list's elements is at the index of its length
at_the_end : (ms : List Move) (m : Move) → slice_get (ms ++ m ∷ []) (length ms) ≡ Some m
at_the_end [] m = refl
at_the_end (n ∷ ms) m = at_the_end ms m

-- the last played move holds the last move
pub last_is : (xs ys : List PlayedMove) (x : PlayedMove) → xs ≡ ys ++ x ∷ [] → Ok x.made ≡ last_move (moves_of xs)
last_is xs ys x is =
    let all : moves_of xs ≡ moves_of ys ++ x.made ∷ [] = ap moves_of is
    ∙ map-append (λ (y : PlayedMove). y.made) ys (x ∷ []) in
    let len : length (moves_of ys ++ x.made ∷ []) - 1 ≡ length (moves_of ys) = let e =
    length-append (moves_of ys) (x.made ∷ []) in omega (arith, e) in
    let found : slice_get (moves_of ys ++ x.made ∷ []) (length (moves_of ys ++ x.made ∷ []) - 1) ≡ Some x.made =
    ap (slice_get (moves_of ys ++ x.made ∷ [])) len ∙ at_the_end (moves_of ys) x.made in
    subst (λ ms. Ok x.made ≡ last_move ms) (sym all) (rw found refl)

-- a game that is not over has no verdict
pub no_verdict : (s : State) (over : Bool) → over ≡ is_over s → over ≡ false → verdict s.start s.moves ≡ None
no_verdict s over said not_over = by_verdict (verdict s.start s.moves) (sym not_over ∙ said)
  where
    by_verdict : (w : Option Verdict) → false ≡ (is_some w || is_some s.declared) → w ≡ None
    by_verdict None h = refl
    by_verdict (Some w) h = cc
