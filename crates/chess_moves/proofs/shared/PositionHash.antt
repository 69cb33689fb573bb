-- Hashes by parts. A position's hash is the exclusive or of three: of its pieces, its side and its rights (hash_apart,
-- rights_apart). A loop over the squares that joins their keys one by one gives that of the pieces (xor_turn, xor_end).
-- A piece put on an empty square, or taken off its own, changes it by one key (hash_put, hash_lifted), as the keys of
-- the other squares stay: by induction over the squares. For boards.
use Rattle.std.proofs.Common.{◌≡◌, ◌≢◌, ℕ, zero, suc, ◌+◌, ◌<◌, ◌≤◌, inl, inr, List, [], ◌∷◌, ◌++◌, length, refl, sym, ◌∙◌, ap, arith, add-one, bit_xor, fold, Option, Some, None, set, get_or-set_same, get_or-set_other}
use lib.Bits.{xor_assoc, xor_comm, xor_self, xor_zero_r}
use Rattle.std.proofs.{lemmas.Bool.cases_lt, lemmas.List.Sums.fold-append}
use Rattle.std.specs.List.{flat_map, range_with_len}
use Rattle.chess_base.specs.{declared.man.Colour.Colour, declared.man.Colour.TheVariants.White, declared.man.Colour.TheVariants.Black, declared.man.Man.Man, declared.man.Rights.Rights, Men.Men, Men.man_at, Squares.squares}
use Rattle.chess_moves.specs.PositionHash.{man_key, square_keys, keys_on, men_keys, side_keys, right_keys, rights_keys, xor_of, position_hash}
use Rattle.chess_moves.proofs.{Gathered.numbers, Gathered.gathered-more, shared.Members.by_range}

-- ---- lists

-- exclusive or that begins with a is that of the numbers, joined with a
xor_from : (a : ℕ) (ns : List ℕ) → fold bit_xor a ns ≡ bit_xor a (xor_of ns)
xor_from a [] = sym (xor_zero_r a)
xor_from a (n ∷ ns) = xor_from (bit_xor a n) ns ∙ xor_assoc a n (xor_of ns)
    ∙ ap (λ x. bit_xor a x) (sym (xor_from n ns))

-- the exclusive or of two lists, one after the other, is that of both lists' exclusive ors
pub xor_append : (ms ns : List ℕ) → xor_of (ms ++ ns) ≡ bit_xor (xor_of ms) (xor_of ns)
xor_append ms ns = fold-append bit_xor 0 ms ns ∙ xor_from (xor_of ms) ns

-- ---- a position's parts

-- the exclusive or of the keys of all rights is that of the four rights' own, in the order in which the code joins them
pub rights_apart : (r : Rights)
    → xor_of (rights_keys r)
    ≡ bit_xor
    (bit_xor (bit_xor (xor_of (right_keys White r.white.king_side)) (xor_of (right_keys White r.white.queen_side)))
    (xor_of (right_keys Black r.black.king_side))) (xor_of (right_keys Black r.black.queen_side))
unfolding rights_keys
rights_apart r =
    let a = right_keys White r.white.king_side in
    let b = right_keys White r.white.queen_side in
    let c = right_keys Black r.black.king_side in
    let d = right_keys Black r.black.queen_side in
    xor_append (a ++ b ++ c) d
    ∙ ap (λ x. bit_xor x (xor_of d)) (xor_append (a ++ b) c ∙ ap (λ x. bit_xor x (xor_of c)) (xor_append a b))

-- a position's hash is the exclusive or of three: of the keys of its pieces, of its side and of its rights
pub hash_apart : (men : Men) (side : Colour) (rights : Rights)
    → position_hash men side rights
    ≡ bit_xor (bit_xor (xor_of (men_keys men)) (xor_of (side_keys side))) (xor_of (rights_keys rights))
unfolding position_hash
hash_apart men side rights =
    let a = men_keys men in
    let b = side_keys side in
    let c = rights_keys rights in
    xor_append (a ++ b) c ∙ ap (λ x. bit_xor x (xor_of c)) (xor_append a b)

-- ---- square by square

-- one turn of a loop over the squares: with the keys of square k joined, the hash is that of the squares up to k
pub xor_turn : (g : ℕ → List ℕ) (hash k : ℕ) → hash ≡ xor_of (flat_map g (numbers k))
    → bit_xor hash (xor_of (g k)) ≡ xor_of (flat_map g (numbers (k + 1)))
xor_turn g hash k e =
    ap (λ x. bit_xor x (xor_of (g k))) e ∙ sym (xor_append (flat_map g (numbers k)) (g k))
    ∙ ap (λ ns. xor_of ns) (sym (gathered-more g k)) ∙ ap (λ v. xor_of (flat_map g (numbers v))) (sym (add-one k))

-- at the loop's end, after all 64 squares, the hash is that of all pieces
pub xor_end : (men : Men) (hash k : ℕ) → hash ≡ xor_of (flat_map (keys_on men) (numbers k)) → k ≡ 64
    → hash ≡ xor_of (men_keys men)
unfolding men_keys squares
xor_end men hash k e all = e ∙ ap (λ v. xor_of (flat_map (keys_on men) (numbers v))) all

-- two functions that agree on n numbers from a on give the same lists, one after another
same_lists : (f g : ℕ → List ℕ) (n a : ℕ) → ((k : ℕ) → a ≤ k → k < a + n → g k ≡ f k)
    → flat_map g (range_with_len a n) ≡ flat_map f (range_with_len a n)
same_lists f g zero a same = refl
same_lists f g (suc n) a same =
    ap (λ xs. xs ++ flat_map g (range_with_len (a + 1) n)) (same a (omega arith) (omega arith))
    ∙ ap (λ xs. f a ++ xs) (same_lists f g n (a + 1) (λ k l h. same k (omega arith) (omega arith)))

-- if g k is empty for each of the n numbers k from a on, the lists g k, joined, are empty
pub no_lists : (g : ℕ → List ℕ) (n a : ℕ) → ((k : ℕ) → a ≤ k → k < a + n → g k ≡ [])
    → flat_map g (range_with_len a n) ≡ []
no_lists g zero a none = refl
no_lists g (suc n) a none =
    ap (λ xs. xs ++ flat_map g (range_with_len (a + 1) n)) (none a (omega arith) (omega arith))
    ∙ no_lists g n (a + 1) (λ k l h. none k (omega arith) (omega arith))

-- a board without pieces has no keys of pieces
pub no_men_keys : (men : Men) → ((k : ℕ) → k < 64 → man_at men k ≡ None) → men_keys men ≡ []
unfolding men_keys
no_men_keys men none =
    rw by_range (no_lists (keys_on men) 64 0 (λ k l h. ap (λ v. square_keys k v) (none k (omega arith))))

-- in an exclusive or of x, y and z the last two may change places
turned : (x y z : ℕ) → bit_xor (bit_xor x y) z ≡ bit_xor (bit_xor x z) y
turned x y z = xor_assoc x y z ∙ ap (λ v. bit_xor x v) (xor_comm y z) ∙ sym (xor_assoc x z y)

-- where the keys of one square change by d, all change by d
changed_at : (f g : ℕ → List ℕ) (s d n a : ℕ) → ((k : ℕ) → k ≢ s → g k ≡ f k)
    → xor_of (g s) ≡ bit_xor (xor_of (f s)) d
    → a ≤ s → s < a + n
    → xor_of (flat_map g (range_with_len a n)) ≡ bit_xor (xor_of (flat_map f (range_with_len a n))) d
changed_at f g s d zero a same e low high = absurd (omega arith)
changed_at f g s d (suc n) a same e low high =
    let fs = flat_map f (range_with_len (a + 1) n) in
    let gs = flat_map g (range_with_len (a + 1) n) in
    elim (cases_lt a s) [
      | inl before ↦
          let rest : xor_of gs ≡ bit_xor (xor_of fs) d =
          changed_at f g s d n (a + 1) same e (omega arith) (omega arith) in
          xor_append (g a) gs ∙ ap (λ xs. bit_xor (xor_of xs) (xor_of gs)) (same a (omega arith))
          ∙ ap (λ x. bit_xor (xor_of (f a)) x) rest ∙ sym (xor_assoc (xor_of (f a)) (xor_of fs) d)
          ∙ ap (λ x. bit_xor x d) (sym (xor_append (f a) fs))
      | inr on ↦
          let here : a ≡ s = omega arith in
          let rest : gs ≡ fs = same_lists f g n (a + 1) (λ k l h. same k (omega arith)) in
          let first : xor_of (g a) ≡ bit_xor (xor_of (f a)) d = rw here e in
          xor_append (g a) gs ∙ ap (λ x. bit_xor x (xor_of gs)) first
          ∙ ap (λ xs. bit_xor (bit_xor (xor_of (f a)) d) (xor_of xs)) rest ∙ turned (xor_of (f a)) d (xor_of fs)
          ∙ ap (λ x. bit_xor x d) (sym (xor_append (f a) fs))
    ]

-- ---- a write of one square

-- a write to a square changes the hash of the pieces by as much as that square's own hash
men_changed : (men : Men) (s d : ℕ) (o : Option Man) → length men ≡ 64 → s < 64
    → xor_of (square_keys s o) ≡ bit_xor (xor_of (square_keys s (man_at men s))) d
    → xor_of (men_keys (set men s o)) ≡ bit_xor (xor_of (men_keys men)) d
unfolding men_keys
men_changed men s d o all low e =
    let inside : s < length men = omega arith in
    let here : man_at (set men s o) s ≡ o = get_or-set_same men s o None inside in
    let others : (k : ℕ) → k ≢ s → keys_on (set men s o) k ≡ keys_on men k =
    λ k away. ap (λ v. square_keys k v) (get_or-set_other men s k o None away) in
    rw by_range
    (changed_at (keys_on men) (keys_on (set men s o)) s d 64 0 others (ap (λ v. xor_of (square_keys s v)) here ∙ e)
    (omega arith)
    (omega arith))

-- a piece is put on an empty square: the hash of the pieces, joined with its key, is that of the new list of pieces
pub hash_put : (men : Men) (s : ℕ) (x : Man) (hash change : ℕ) → length men ≡ 64 → s < 64 → man_at men s ≡ None
    → hash ≡ xor_of (men_keys men) → change ≡ man_key x s
    → bit_xor hash change ≡ xor_of (men_keys (set men s (Some x)))
hash_put men s x hash change all low bare e f =
    ap (λ w. bit_xor w change) e ∙ ap (λ w. bit_xor (xor_of (men_keys men)) w) f
    ∙ sym (men_changed men s (man_key x s) (Some x) all low
    (ap (λ v. bit_xor (xor_of (square_keys s v)) (man_key x s)) (sym bare)))

-- a piece is taken off its square: the hash of the pieces, joined with its key, is that of the new list of pieces
pub hash_lifted : (men : Men) (s : ℕ) (x : Man) (hash change : ℕ) → length men ≡ 64 → s < 64 → man_at men s ≡ Some x
    → hash ≡ xor_of (men_keys men) → change ≡ man_key x s
    → bit_xor hash change ≡ xor_of (men_keys (set men s None))
hash_lifted men s x hash change all low there e f =
    ap (λ w. bit_xor w change) e ∙ ap (λ w. bit_xor (xor_of (men_keys men)) w) f
    ∙ sym (men_changed men s (man_key x s) None all low
    (sym (xor_self (man_key x s)) ∙ ap (λ v. bit_xor (xor_of (square_keys s v)) (man_key x s)) (sym there)))
