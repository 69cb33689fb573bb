-- Positions that are the same (`is_same_position`) have equal pieces, side and rights, by the parts of this test. So
-- their hashes by one definition are equal (equal_hashes), positions with different hashes are not the same
-- (hashes_differ), and a position that is the same as one of them is the same as the other (same_alike).
use Rattle.std.proofs.Common.{◌≡◌, ℕ, ◌<◌, true, false, not, ◌&&◌, ◌==◌, length, Option, None, Some, refl, sym, ◌∙◌, ap, arith, true≢false, ext_get_or}
use Rattle.std.proofs.lemmas.Bool.{and_parts, eqb-true, eq-eqb, false_from_ne_true}
use Rattle.chess_base.specs.{declared.man.ColourRights.ColourRights, declared.man.Man.Man, declared.man.Rights.Rights, declared.setup.Setup.Setup, Sound.IsSound}
use Rattle.chess_base.specs.Men.{Men, man_at, same_colour, same_kind}
use Rattle.chess_base.proofs.{shared.Men.same_colour-true, shared.Men.same_kind-true, shared.Squares.each_square-at}
use Rattle.chess_game.specs.Same.{is_same_position, same_man, same_men, same_square, same_colour_rights, same_rights, legal_en_passant_square}
use Rattle.chess_game.specs.{ties.PlayedMoves.Hashing, ties.PlayedMoves.HasHash, declared.repetition.Hashed.Hashed}

-- ---- the same part by part

man_of_equal : (x y : Man) → x.colour ≡ y.colour → x.kind ≡ y.kind → x ≡ y
man_of_equal x y colours kinds = (λ i. record { colour = colours i; kind = kinds i })

-- two squares' contents that pass the test are equal
pub places_equal : (o r : Option Man) → same_man o r ≡ true → o ≡ r
places_equal None None e = refl
places_equal None (Some y) e = cc
places_equal (Some x) None e = cc
places_equal (Some x) (Some y) e =
    let both = and_parts (same_colour x.colour y.colour) (same_kind x.kind y.kind) e in
    ap (λ (z : Man). Some z)
    (man_of_equal x y (same_colour-true x.colour y.colour both.0) (same_kind-true x.kind y.kind both.1))

-- boards that pass the test are equal, square by square
men_equal : (men others : Men) → length men ≡ 64 → length others ≡ 64 → same_men men others ≡ true → men ≡ others
unfolding same_men
men_equal men others all also e =
    ext_get_or None men others (all ∙ sym also)
    (λ k h. let low : k < 64 = omega (arith, h, all) in
    places_equal (man_at men k) (man_at others k)
    (each_square-at (λ s. same_man (man_at men s) (man_at others s)) e k low))

squares_equal : (o r : Option ℕ) → same_square o r ≡ true → o ≡ r
squares_equal None None e = refl
squares_equal None (Some t) e = cc
squares_equal (Some s) None e = cc
squares_equal (Some s) (Some t) e = ap (λ (n : ℕ). Some n) (eqb-true s t e)

rights_of_equal : (r q : ColourRights) → same_colour_rights r q ≡ true → r ≡ q
rights_of_equal r q e =
    let both = and_parts (same_square r.king_side q.king_side) (same_square r.queen_side q.queen_side) e in
    let king_sides = squares_equal r.king_side q.king_side both.0 in
    let queen_sides = squares_equal r.queen_side q.queen_side both.1 in
    (λ i. record { king_side = king_sides i; queen_side = queen_sides i })

rights_equal : (r q : Rights) → same_rights r q ≡ true → r ≡ q
unfolding same_rights
rights_equal r q e =
    let both = and_parts (same_colour_rights r.white q.white) (same_colour_rights r.black q.black) e in
    let whites = rights_of_equal r.white q.white both.0 in
    let blacks = rights_of_equal r.black q.black both.1 in
    (λ i. record { white = whites i; black = blacks i })

-- ---- hashes

pub equal_hashes : (f : Hashing) (p q : Setup) → IsSound p → IsSound q → is_same_position p q ≡ true
    → f p.men p.side p.rights ≡ f q.men q.side q.rights
unfolding is_same_position
equal_hashes f p q this that e =
    let a = men_equal p.men q.men this.board that.board (grind (arith, e)) in
    let b = same_colour-true p.side q.side (grind (arith, e)) in
    let c = rights_equal p.rights q.rights (grind (arith, e)) in
    (λ i. f (a i) (b i) (c i))

-- what is the same as q is the same as r, if q and r are the same
pub same_alike : (p q r : Setup) → IsSound q → IsSound r → is_same_position q r ≡ true → is_same_position p q
    ≡ is_same_position p r
unfolding is_same_position
same_alike p q r this that e =
    let a = men_equal q.men r.men this.board that.board (grind (arith, e)) in
    let b = same_colour-true q.side r.side (grind (arith, e)) in
    let c = rights_equal q.rights r.rights (grind (arith, e)) in
    let d = squares_equal (legal_en_passant_square q) (legal_en_passant_square r) (grind (arith, e)) in
    (λ i. same_colour p.side (b i) && same_men p.men (a i) && same_rights p.rights (c i)
    && same_square (legal_en_passant_square p) (d i))

-- positions whose hashes differ are not the same
pub hashes_differ : (f : Hashing) (x y : Hashed) → IsSound x.position → IsSound y.position → HasHash f x → HasHash f y
    → not (x.hash == y.hash) ≡ true → is_same_position x.position y.position ≡ false
hashes_differ f x y this that has_hash other_has differ =
    false_from_ne_true (is_same_position x.position y.position)
    (λ e. let one : x.hash ≡ y.hash = has_hash ∙ equal_hashes f x.position y.position this that e ∙ sym other_has in
    let met : (x.hash == y.hash) ≡ true = eq-eqb x.hash y.hash one in
    true≢false (sym differ ∙ ap not met))
