-- On each square, by cases of its content: the seven sets of `PackedMen` give back the pieces that they were made of
-- (men_back), and so are the sets of these (packed_back); and two positions differ there exactly if one of the sets
-- does (differ_at). So pieces that differ on no square are the same (same_where_none).
use Rattle.std.proofs.Common.{◌≡◌, ℕ, zero, suc, ◌<◌, inl, inr, Bool, true, false, not, ◌&&◌, ◌||◌, if◌then◌else◌, refl, sym, ◌∙◌, ap, subst, arith, Option, Some, None, length, true≢false, ext_get_or}
use Rattle.std.proofs.lemmas.Bool.{or_from, or_parts, cases_Bool}
use Rattle.chess_base.specs.{declared.man.Colour.Colour, declared.man.Colour.TheVariants.White, declared.man.Colour.TheVariants.Black, declared.man.Kind.Kind, declared.man.Man.Man, Squares.some_square, shared.Below.some_below, shared.Below.each_below, shared.Below.from_below}
use Rattle.chess_base.specs.declared.man.Kind.TheVariants.{King, Queen, Rook, Bishop, Knight, Pawn}
use Rattle.chess_base.specs.Men.{Men, man_at, is_of, is_man, same_colour, same_kind}
use Rattle.chess_base.proofs.shared.Squares.{length-from_below, get_or-from_below, some_square_is, each_square_is}
use Rattle.chess_moves.specs.Sets.{contains}
use Rattle.chess_game.specs.{Ends.is_kind, Same.same_man, Same.same_men, declared.packed.PackedMen.PackedMen}
use Rattle.chess_game.specs.ties.Packed.{man_of, man_in, men_in, IsPackedAt, ArePacked}
use Rattle.chess_game.proofs.{EqualHashes.places_equal, SameSelf.man_self}

-- ---- White's pieces

-- a piece that passes the colour's test (b) is of one of the six kinds
by_kind : (b : Bool) (x : Kind)
    → ((b && same_kind King x) || (b && same_kind Queen x) || (b && same_kind Rook x) || (b && same_kind Bishop x)
    || (b && same_kind Knight x) || (b && same_kind Pawn x))
    ≡ b
by_kind b x = grind arith

-- a piece is White's exactly if it is White's of one of the six kinds
pub white_kinds : (o : Option Man)
    → (is_man White King o || is_man White Queen o || is_man White Rook o || is_man White Bishop o
    || is_man White Knight o || is_man White Pawn o)
    ≡ is_of White o
unfolding is_man is_of
white_kinds None = refl
white_kinds (Some x) = by_kind (same_colour White x.colour) x.kind

-- ---- back

-- the piece that seven tests report: whether it is White's, and of which kind it is
abbrev reported : (white king queen rook bishop knight pawn : Bool) → Option Man
reported white king queen rook bishop knight pawn =
    man_of (if white then White else Black)
    (if king then Some King
    else if queen then Some Queen
    else if rook then Some Rook
    else if bishop then Some Bishop
    else if knight then Some Knight
    else if pawn then Some Pawn
    else None)

-- the tests of a piece report it
reported_of : (c : Colour) (kind : Kind)
    → reported (same_colour White c) (same_kind King kind) (same_kind Queen kind) (same_kind Rook kind)
    (same_kind Bishop kind) (same_kind Knight kind) (same_kind Pawn kind)
    ≡ Some (record { colour = c; kind = kind })
reported_of c k = grind arith

-- the tests of a square's content report it, also if it is empty
reported_is : (o : Option Man)
    → reported (is_of White o) (is_kind King o) (is_kind Queen o) (is_kind Rook o) (is_kind Bishop o) (is_kind Knight o)
    (is_kind Pawn o)
    ≡ o
unfolding is_of
reported_is None = refl
reported_is (Some x) = reported_of x.colour x.kind

-- the piece that sets say is on s is the one that they were made of there
man_back : (p : PackedMen) (s : ℕ) (o : Option Man) → IsPackedAt p s o → man_in p s ≡ o
unfolding man_in
man_back p s o h =
    (λ i. reported (h.white i) (h.kings i) (h.queens i) (h.rooks i) (h.bishops i) (h.knights i) (h.pawns i))
    ∙ reported_is o

-- sets of pieces say the pieces that they were made of, on all squares
pub men_back : (p : PackedMen) (men : Men) → length men ≡ 64 → ArePacked p men → men_in p ≡ men
unfolding men_in
men_back p men all h =
    let len = length-from_below 64 (man_in p) in
    ext_get_or None (from_below 64 (man_in p)) men (len ∙ sym all)
    (λ k l. let low : k < 64 = omega (arith, l, len) in
    get_or-from_below 64 (man_in p) k None low ∙ man_back p k (man_at men k) (h k low))

-- sets of pieces are the sets of the pieces that they say
pub packed_back : (p : PackedMen) (men : Men) → length men ≡ 64 → ArePacked p men → ArePacked p (men_in p)
packed_back p men all h = subst (ArePacked p) (sym (men_back p men all h)) h

-- ---- where pieces differ

-- just one of a and b is true
abbrev pub differ : Bool → Bool → Bool
differ a b = (a && not b) || (b && not a)

equal : (a b c : Bool) → a ≡ c → b ≡ c → differ a b ≡ false
equal a b c e f = grind (arith, e, f)

alike : (a b : Bool) → differ a b ≡ false → a ≡ b
alike a b e = grind (arith, e)

-- some of the seven sets differ on s
abbrev pub some_differ : PackedMen → PackedMen → ℕ → Bool
some_differ p q s =
    differ (contains p.white s) (contains q.white s) || differ (contains p.kings s) (contains q.kings s)
    || differ (contains p.queens s) (contains q.queens s)
    || differ (contains p.rooks s) (contains q.rooks s)
    || differ (contains p.bishops s) (contains q.bishops s)
    || differ (contains p.knights s) (contains q.knights s)
    || differ (contains p.pawns s) (contains q.pawns s)

-- where both have the same content, none of the sets differs
none_differs : (p q : PackedMen) (s : ℕ) (o : Option Man) → IsPackedAt p s o → IsPackedAt q s o
    → some_differ p q s ≡ false
none_differs p q s o h t =
    or_from _ _
    (or_from _ _
    (or_from _ _
    (or_from _ _
    (or_from _ _ (or_from _ _ (equal _ _ _ h.white t.white) (equal _ _ _ h.kings t.kings))
    (equal _ _ _ h.queens t.queens))
    (equal _ _ _ h.rooks t.rooks))
    (equal _ _ _ h.bishops t.bishops))
    (equal _ _ _ h.knights t.knights))
    (equal _ _ _ h.pawns t.pawns)

-- where none of the sets differs, both say the same piece
same_man_in : (p q : PackedMen) (s : ℕ) → some_differ p q s ≡ false → man_in p s ≡ man_in q s
unfolding man_in
same_man_in p q s e =
    let six = or_parts _ _ e in
    let five = or_parts _ _ six.0 in
    let four = or_parts _ _ five.0 in
    let three = or_parts _ _ four.0 in
    let two = or_parts _ _ three.0 in
    let one = or_parts _ _ two.0 in
    let white = alike (contains p.white s) (contains q.white s) one.0 in
    let kings = alike (contains p.kings s) (contains q.kings s) one.1 in
    let queens = alike (contains p.queens s) (contains q.queens s) two.1 in
    let rooks = alike (contains p.rooks s) (contains q.rooks s) three.1 in
    let bishops = alike (contains p.bishops s) (contains q.bishops s) four.1 in
    let knights = alike (contains p.knights s) (contains q.knights s) five.1 in
    let pawns = alike (contains p.pawns s) (contains q.pawns s) six.1 in
    (λ i. reported (white i) (kings i) (queens i) (rooks i) (bishops i) (knights i) (pawns i))

-- the pieces on s differ where one of the sets does
pub differ_at : (p q : PackedMen) (s : ℕ) (o r : Option Man) → IsPackedAt p s o → IsPackedAt q s r
    → some_differ p q s ≡ not (same_man o r)
differ_at p q s o r h t = by_test (same_man o r) refl
  where
    by_test : (c : Bool) → same_man o r ≡ c → some_differ p q s ≡ not (same_man o r)
    by_test true e = none_differs p q s o h (subst (IsPackedAt q s) (sym (places_equal o r e)) t) ∙ ap not (sym e)
    by_test false e =
        elim (cases_Bool (some_differ p q s)) [
          | inl some ↦ some ∙ ap not (sym e)
          | inr none ↦
              let one : o ≡ r = sym (man_back p s o h) ∙ same_man_in p q s none ∙ man_back q s r t in
              absurd (true≢false (sym (subst (λ v. same_man o v ≡ true) one (man_self o)) ∙ e))
        ]

-- ---- on all squares

not_either : (a b : Bool) → not (a || not b) ≡ (not a && b)
not_either a b = grind arith

-- what holds for no number below n: its opposite holds for each
not_some : (n : ℕ) (f g : ℕ → Bool) → ((k : ℕ) → k < n → f k ≡ not (g k)) → not (some_below n f) ≡ each_below n g
not_some zero f g h = refl
not_some (suc n) f g h =
    ap (λ v. not (some_below n f || v)) (h n (omega arith)) ∙ not_either (some_below n f) (g n)
    ∙ ap (λ v. v && g n) (not_some n f g (λ k l. h k (omega arith)))

-- pieces that differ on no square are the same
pub same_where_none : (w : ℕ) (men others : Men)
    → ((k : ℕ) → k < 64 → contains w k ≡ not (same_man (man_at men k) (man_at others k)))
    → not (some_square (λ k. contains w k)) ≡ same_men men others
unfolding same_men
same_where_none w men others h =
    ap not (some_square_is (λ k. contains w k))
    ∙ not_some 64 (λ k. contains w k) (λ s. same_man (man_at men s) (man_at others s)) h
    ∙ sym (each_square_is (λ s. same_man (man_at men s) (man_at others s)))
