-- The played moves follow from the start (`Follows`: each was legal, and is kept with what it captured and the position
-- that it reached) with one more move (added), without the last (taken, fewer) and up to move n (follows_take), by
-- induction over them. So they are a line (kept_line), and each reached its position (at_place, at_end). Also: all keep
-- their hashes (hashes_more, hashes_fewer), a push puts its element last (pushed_last, with_entry), and a game that
-- isn't full has memory for one move more (room).
use Rattle.std.proofs.Common.{◌≡◌, ◌∙◌, ℕ, zero, suc, ◌+◌, ◌-◌, ◌<◌, List, [], ◌∷◌, ◌++◌, length, take, drop, get_or, Option, Result, Ok, Err, is_ok, is_err, Bool, false, if◌then◌else◌, refl, sym, ap, subst, arith, set}
use Rattle.std.proofs.{Math.Seq.take-length, Math.Seq.take-append_seam, Math.Seq.set-append_seam, lemmas.Bool.Decides.nat_tests}
use Rattle.std.proofs.lemmas.List.{length-map, map-append, length-append, drop_at, get_or_at}
use Rattle.std.specs.List.{AllByRecursion}
use Rattle.chess_base.specs.{declared.man.Move.Move, declared.setup.Saved.Saved, declared.setup.Setup.Setup, Moves.after, Before.saved_of}
use Rattle.chess_moves.specs.Made.{WasMade}
use Rattle.chess_game.specs.{Line.position_after, Line.IsLine, declared.game.PlayedMove.PlayedMove, declared.index.Entry.Entry, declared.repetition.Hashed.Hashed, declared.results.Declared.Declared}
use Rattle.chess_game.specs.ties.PlayedMoves.{moves_of, saved_with, WasPlayed, IsKnown, Hashing, HasHash, HaveHashes, Follows}
use Rattle.chess_game.specs.Game.{Seen, with_state, played, is_full}

-- played move k, which is x, reached the position after the moves up to it
pub record IsAt (p : Setup) (xs : List PlayedMove) (k : ℕ) (x : PlayedMove) : Type 0 where
  pub known : IsKnown x.reached
  pub reached : x.reached.position ≡ position_after p (take (k + 1) (moves_of xs))

-- each played move of a game reached the position after the moves up to it
pub at_place : (p : Setup) (xs : List PlayedMove) (k : ℕ) (d : PlayedMove) → Follows p xs → k < length xs
    → IsAt p xs k (get_or xs k d)
at_place p [] k d f h = absurd (omega arith)
at_place p (y ∷ ys) zero d f h = record { known = f.1; reached = f.0.left }
at_place p (y ∷ ys) (suc k) d f h =
    let later = at_place y.reached.position ys k d f.2 (omega arith) in
    let one_more : suc k + 1 ≡ suc (k + 1) = omega arith in
    record {
      known = later.known;
      reached = later.reached ∙ ap (λ v. position_after v (take (k + 1) (moves_of ys))) f.0.left
          ∙ ap (λ n. position_after p (take n (moves_of (y ∷ ys)))) (sym one_more);
    }

-- the last played move is at the end of the line
pub record IsAtEnd (p : Setup) (xs : List PlayedMove) (x : PlayedMove) : Type 0 where
  pub known : IsKnown x.reached
  pub reached : x.reached.position ≡ position_after p (moves_of xs)

-- the last played move reached the position after all moves
pub at_end : (p : Setup) (xs : List PlayedMove) (d : PlayedMove) → Follows p xs → 0 < length xs
    → IsAtEnd p xs (get_or xs (length xs - 1) d)
at_end p xs d f h =
    let at = at_place p xs (length xs - 1) d f (omega arith) in
    let all : length xs - 1 + 1 ≡ length (moves_of xs) = let e =
    length-map xs (λ (x : PlayedMove). x.made) in omega (arith, e) in
    record {
      known = at.known;
      reached = at.reached ∙ ap (λ n. position_after p (take n (moves_of xs))) all
          ∙ ap (position_after p) (take-length (moves_of xs));
    }

-- the played moves that follow from a start are a line: each is legal where it is made
pub kept_line : (p : Setup) (xs : List PlayedMove) → Follows p xs → IsLine p (moves_of xs)
kept_line p [] f = tt
kept_line p (x ∷ xs) f = (f.0.legal, subst (λ v. IsLine v (moves_of xs)) f.0.left (kept_line x.reached.position xs f.2))

-- one more move, made in the last position, follows from the start with the others
pub follows_more : (p : Setup) (xs : List PlayedMove) (x : PlayedMove) → Follows p xs
    → WasPlayed (position_after p (moves_of xs)) x x.reached.position → IsKnown x.reached → Follows p (xs ++ x ∷ [])
follows_more p [] x f made known = (made, known, tt)
follows_more p (y ∷ ys) x f made known =
    let at : position_after (after p y.made) (moves_of ys) ≡ position_after y.reached.position (moves_of ys) =
    ap (λ v. position_after v (moves_of ys)) (sym f.0.left) in (
      f.0,
      f.1,
      follows_more y.reached.position ys x f.2
          (subst (λ v. WasPlayed v x x.reached.position) at made) known,
    )

-- the position that one more move reached is the one after all moves
pub last-more : (p : Setup) (xs : List PlayedMove) (x : PlayedMove)
    → WasPlayed (position_after p (moves_of xs)) x x.reached.position
    → x.reached.position ≡ position_after p (moves_of (xs ++ x ∷ []))
last-more p [] x made = made.left
last-more p (y ∷ ys) x made = last-more (after p y.made) ys x made

-- after a move was made and added as x: the played moves follow from the start, and the board is at their end
pub record Added (p : Setup) (xs : List PlayedMove) (x : PlayedMove) (board : Setup) : Type 0 where
  pub follows : Follows p (xs ++ x ∷ [])
  pub at_end : board ≡ position_after p (moves_of (xs ++ x ∷ []))

-- what was saved is the captured piece, and the rest as it was before the move
pub kept_as : (p q : Setup) (x : PlayedMove) (s : Saved) → x.captured ≡ s.captured → WasMade p x.made s q
    → WasPlayed p x q
unfolding saved_of
kept_as p q x s same made = record {
  sound = made.sound;
  legal = made.legal;
  saved = ap (saved_with p) (same ∙ ap (λ t. t.captured) made.saved);
  left = made.left;
}

-- a move that the board made at the end of the line, kept as x, is added rightly
pub added : (p : Setup) (xs : List PlayedMove) (x : PlayedMove) (s : Saved) (before after : Setup) → Follows p xs
    → before ≡ position_after p (moves_of xs) → x.captured ≡ s.captured → WasMade before x.made s after
    → x.reached.position ≡ after → IsKnown x.reached → Added p xs x after
added p xs x s before after f at captured made reached known =
    let here : WasPlayed (position_after p (moves_of xs)) x x.reached.position =
    subst (λ v. WasPlayed v x x.reached.position) at
    (subst (WasPlayed before x) (sym reached) (kept_as before after x s captured made)) in
    record { follows = follows_more p xs x f here known; at_end = sym reached ∙ last-more p xs x here }

-- a move that the board made, said of the end of the line: it was made in the position after the played moves
pub made_at_end : (p : Setup) (xs ys : List PlayedMove) (m : Move) (s : Saved) (before after q : Setup) → ys ≡ xs
    → before ≡ position_after p (moves_of xs) → WasMade before m s after → q ≡ after
    → WasMade (position_after p (moves_of ys)) m s q
made_at_end p xs ys m s before after q list at made reached =
    subst (λ (zs : List PlayedMove). WasMade (position_after p (moves_of zs)) m s q) (sym list)
    (subst (λ v. WasMade v m s q) at (subst (WasMade before m s) (sym reached) made))

-- the first n moves follow from the start
pub follows_take : (p : Setup) (xs : List PlayedMove) (n : ℕ) → Follows p xs → Follows p (take n xs)
follows_take p xs zero f = tt
follows_take p [] (suc n) f = tt
follows_take p (x ∷ xs) (suc n) f = (f.0, f.1, follows_take x.reached.position xs n f.2)

-- the moves without the last follow from the start
follows_fewer : (p : Setup) (xs : List PlayedMove) (x : PlayedMove) → Follows p (xs ++ x ∷ []) → Follows p xs
follows_fewer p [] x f = tt
follows_fewer p (y ∷ ys) x f = (f.0, f.1, follows_fewer y.reached.position ys x f.2)

-- the last played move was made in the position after the others, and gave the position after all
made-last : (p : Setup) (xs : List PlayedMove) (x : PlayedMove) → Follows p (xs ++ x ∷ [])
    → WasPlayed (position_after p (moves_of xs)) x (position_after p (moves_of (xs ++ x ∷ [])))
made-last p [] x f = subst (WasPlayed p x) f.0.left f.0
made-last p (y ∷ ys) x f =
    subst (λ v. WasPlayed (position_after v (moves_of ys)) x (position_after v (moves_of (ys ++ x ∷ []))))
    f.0.left (made-last y.reached.position ys x f.2)

-- what taking back the last move needs: it was made in the position before it, of which `s` was saved, and led to the
-- position q, at which the board is
pub taken : (p : Setup) (xs ys : List PlayedMove) (x : PlayedMove) (s : Saved) (before q : Setup) → Follows p xs
    → xs ≡ ys ++ x ∷ [] → q ≡ position_after p (moves_of xs) → before ≡ position_after p (moves_of ys)
    → s ≡ saved_with before x.captured → WasMade (position_after p (moves_of ys)) x.made s q
taken p xs ys x s before q f is at here saved =
    subst (λ t. WasMade (position_after p (moves_of ys)) x.made t q)
    (sym (saved ∙ ap (λ v. saved_with v x.captured) here))
    (subst (WasPlayed (position_after p (moves_of ys)) x) (ap (λ v. position_after p (moves_of v)) (sym is) ∙ sym at)
    (made-last p ys x (subst (Follows p) is f)))

pub fewer : (p : Setup) (xs ys : List PlayedMove) (x : PlayedMove) → Follows p xs → xs ≡ ys ++ x ∷ [] → Follows p ys
fewer p xs ys x f is = follows_fewer p ys x (subst (Follows p) is f)

-- ---- hashes

-- each played move has its hash
abbrev pub AllHave : Hashing → List PlayedMove → Type 0
AllHave f xs = AllByRecursion (λ (x : PlayedMove). HasHash f x.reached) xs

all_more : (f : Hashing) (xs : List PlayedMove) (x : PlayedMove) → AllHave f xs → HasHash f x.reached
    → AllHave f (xs ++ x ∷ [])
all_more f [] x all here = (here, tt)
all_more f (y ∷ ys) x all here = (all.0, all_more f ys x all.1 here)

-- if the new move's position has its hash, all positions of the game have theirs
pub hashes_more : (f : Hashing) (start : Hashed) (xs : List PlayedMove) (x : PlayedMove) → HaveHashes f start xs
    → HasHash f x.reached
    → HaveHashes f start (xs ++ x ∷ [])
hashes_more f start xs x h here = record { start = h.start; later = all_more f xs x h.later here }

all_fewer : (f : Hashing) (xs : List PlayedMove) (x : PlayedMove) → AllHave f (xs ++ x ∷ []) → AllHave f xs
all_fewer f [] x all = tt
all_fewer f (y ∷ ys) x all = (all.0, all_fewer f ys x all.1)

-- without the last move, the other positions have their hashes
pub hashes_fewer : (f : Hashing) (start : Hashed) (xs ys : List PlayedMove) (x : PlayedMove) → HaveHashes f start xs
    → xs ≡ ys ++ x ∷ []
    → HaveHashes f start ys
hashes_fewer f start xs ys x h is = record { start = h.start; later = all_fewer f ys x (subst (AllHave f) is h.later) }

-- ---- room

-- a push that did not fail added its played move
pub pushed : {A E : Type 0} (r : Result A E) (xs ys zs : List PlayedMove) → is_err r ≡ false
    → zs ≡ (if is_ok r then ys else xs) → zs ≡ ys
pushed (Ok v) xs ys zs h e = e
pushed (Err v) xs ys zs h e = cc

-- the list of all played moves after `x` was pushed after `xs`: what is before its last index, the move at that index,
-- and the list with another move there
pub record Last (xs : List PlayedMove) (x : PlayedMove) (all : List PlayedMove) (last : ℕ) : Type 0 where
  pub earlier : take last all ≡ xs
  pub latest : (d : PlayedMove) → get_or (drop last all) 0 d ≡ x
  pub there : (d : PlayedMove) → get_or all last d ≡ x
  pub written : (y : PlayedMove) → set all last y ≡ xs ++ y ∷ []

last_of : (xs : List PlayedMove) (x : PlayedMove) → Last xs x (xs ++ x ∷ []) (length xs)
last_of xs x = record {
  earlier = take-append_seam xs (x ∷ []);
  latest = λ d. ap (λ ys. get_or ys 0 d) (drop_at xs (x ∷ []) (length xs) refl);
  there = λ d. get_or_at xs x [] d (length xs) refl;
  written = λ y. set-append_seam xs x [] y;
}

-- a push that did not fail put its played move at the last index
pub pushed_last : {A E : Type 0} (r : Result A E) (xs all : List PlayedMove) (x : PlayedMove) (n : ℕ) → is_err r ≡ false
    → all ≡ (if is_ok r then xs ++ x ∷ [] else xs) → n ≡ length all → Last xs x all (n - 1)
pushed_last r xs all x n done is len =
    let whole : all ≡ xs ++ x ∷ [] = pushed r xs (xs ++ x ∷ []) all done is in
    let last : length xs ≡ n - 1 = omega (arith, ap length whole, length-append xs (x ∷ [])) in
    subst (λ (ys : List PlayedMove). Last xs x ys (n - 1)) (sym whole)
    (subst (Last xs x (xs ++ x ∷ [])) last (last_of xs x))

-- once its entry is written into it there, the played move is still the last of all
pub with_entry : (xs all : List PlayedMove) (x there : PlayedMove) (last : ℕ) (entry : Entry) → Last xs x all last
    → there ≡ get_or all last there
    → set all last (record there { entry = entry }) ≡ xs ++ record x { entry = entry } ∷ []
with_entry xs all x there last entry p found =
    p.written (record there { entry = entry })
    ∙ ap (λ (y : PlayedMove). xs ++ record y { entry = entry } ∷ []) (found ∙ p.there there)

-- the list split before its last element
pub record Split (xs : List PlayedMove) (x : PlayedMove) (front back : List PlayedMove) (d : PlayedMove) : Type 0 where
  pub earlier : front ≡ xs
  pub latest : get_or back 0 d ≡ x

pub split_last : (xs all ys : List PlayedMove) (x : PlayedMove) (last : ℕ) (front back : List PlayedMove)
    (d : PlayedMove)
    → Last xs x all last → ys ≡ all → front ≡ take last ys → back ≡ drop last ys → Split xs x front back d
split_last xs all ys x last front back d p same before later = record {
  earlier = before ∙ ap (take last) same ∙ p.earlier;
  latest = ap (λ zs. get_or zs 0 d) (later ∙ ap (drop last) same) ∙ p.latest d;
}

-- what the game shows with one more move
pub shown_more : (limit : ℕ) (p : Setup) (xs all : List PlayedMove) (x : PlayedMove) (d : Option Declared) (g : Seen)
    → record { limit = limit; state = record { start = p; moves = moves_of xs; declared = d } } ≡ g → all ≡ xs ++ x ∷ []
    → record { limit = limit; state = record { start = p; moves = moves_of all; declared = d } }
    ≡ with_state g (played g.state x.made)
shown_more limit p xs all x d g view is =
    ap (λ ms. record { limit = limit; state = record { start = p; moves = ms; declared = d } })
    (ap moves_of is ∙ map-append (λ (y : PlayedMove). y.made) xs (x ∷ []))
    ∙ ap (λ (v : Seen). with_state v (played v.state x.made)) view

-- a game that is not full has memory for one more move
pub room : (limit : ℕ) (p : Setup) (xs : List PlayedMove) (d : Option Declared) (g : Seen)
    → record { limit = limit; state = record { start = p; moves = moves_of xs; declared = d } } ≡ g
    → (full : Bool) → full ≡ is_full g → full ≡ false → length xs < limit
room limit p xs d g view full is not_full =
    let said : is_full (record { limit = limit; state = record { start = p; moves = moves_of xs; declared = d } })
    ≡ false = ap is_full view ∙ sym is ∙ not_full in
    let len = length-map xs (λ (x : PlayedMove). x.made) in
    grind (arith, nat_tests, said, len)
