-- The positions of a game by their numbers (`known_at`: 0 is the start, k + 1 what played move k reached: known_place).
-- One more played move keeps those before it (known_before) and adds the one that it reached (known_last). Each has its
-- hash (hash_of_known) and is sound if the last one is (sound_is). By induction over the played moves.
use Rattle.std.proofs.Common.{◌≡◌, ℕ, zero, suc, ◌<◌, List, [], ◌∷◌, ◌++◌, length, get_or, refl, sym, subst, arith}
use Rattle.chess_base.specs.Sound.{IsSound}
use Rattle.chess_game.specs.{Line.position_after, ties.Buckets.known_at, declared.game.PlayedMove.PlayedMove, declared.repetition.Hashed.Hashed}
use Rattle.chess_game.specs.ties.PlayedMoves.{moves_of, Hashing, HasHash, HaveHashes, Follows}
use Rattle.chess_game.proofs.Kept.{AllHave}

-- after the start they are those that the played moves reached
pub known_place : (start : Hashed) (xs : List PlayedMove) (k : ℕ) (d : PlayedMove) → k < length xs
    → known_at start xs (suc k) ≡ (get_or xs k d).reached
unfolding known_at
known_place start [] k d h = absurd (omega arith)
known_place start (x ∷ xs) zero d h = refl
known_place start (x ∷ xs) (suc k) d h = known_place x.reached xs k d (omega arith)

-- one more played move changes none of the positions before it
pub known_before : (start : Hashed) (xs : List PlayedMove) (y : PlayedMove) (k : ℕ) → k < suc (length xs)
    → known_at start (xs ++ y ∷ []) k ≡ known_at start xs k
unfolding known_at
known_before start xs y zero h = refl
known_before start [] y (suc k) h = absurd (omega arith)
known_before start (x ∷ xs) y (suc k) h = known_before x.reached xs y k (omega arith)

-- one more played move adds the position that it reached
pub known_last : (start : Hashed) (xs : List PlayedMove) (y : PlayedMove)
    → known_at start (xs ++ y ∷ []) (suc (length xs)) ≡ y.reached
unfolding known_at
known_last start [] y = refl
known_last start (x ∷ xs) y = known_last x.reached xs y

-- the position with number k has its hash
hash_is : (f : Hashing) (start : Hashed) (xs : List PlayedMove) (k : ℕ) → HasHash f start → AllHave f xs
    → HasHash f (known_at start xs k)
unfolding known_at
hash_is f start xs zero here all = here
hash_is f start [] (suc k) here all = here
hash_is f start (x ∷ xs) (suc k) here all = hash_is f x.reached xs k all.0 all.1

pub hash_of_known : (f : Hashing) (start : Hashed) (xs : List PlayedMove) (k : ℕ) → HaveHashes f start xs
    → HasHash f (known_at start xs k)
hash_of_known f start xs k hashes = hash_is f start xs k hashes.start hashes.later

-- all positions are sound, if the last one is
pub sound_is : (start : Hashed) (xs : List PlayedMove) (k : ℕ) → Follows start.position xs
    → IsSound (position_after start.position (moves_of xs)) → k < suc (length xs)
    → IsSound (known_at start xs k).position
unfolding known_at
sound_is start [] zero f sound h = sound
sound_is start [] (suc k) f sound h = absurd (omega arith)
sound_is start (x ∷ xs) zero f sound h = f.0.sound
sound_is start (x ∷ xs) (suc k) f sound h =
    sound_is x.reached xs k f.2 (subst (λ v. IsSound (position_after v (moves_of xs))) (sym f.0.left) sound)
    (omega arith)
