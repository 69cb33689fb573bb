-- Reading and writing the parts of a move's text agree: what is read as parts is their text (denoted-parts), and the
-- text of possible parts is read as these (parts-denoted). There is such a pair, `denoted-X` and `X-denoted`, for each
-- part with what follows it, from the last to the first: promotion, end square, `x`, rank, file, letter.
use Rattle.std.proofs.Common.{◌≡◌, ℕ, ◌+◌, ◌-◌, ◌*◌, ◌/◌, ◌%◌, ◌<◌, ◌≤◌, ◌⊎◌, inl, inr, Bool, true, false, cond, eqb, leb, ◌&&◌, List, [], ◌∷◌, ◌++◌, Option, Some, None, refl, sym, ap, subst, ◌∙◌, arith, IfSome, option_map}
use Rattle.std.proofs.lemmas.Bool.Decides.{nat_tests}
use Rattle.chess_base.specs.{declared.man.Kind.Kind, shared.Parts.optional, Options.list_if}
use Rattle.chess_base.specs.declared.man.Kind.TheVariants.{Pawn, Knight, Bishop, Rook, Queen, King}
use Rattle.chess_base.specs.Letters.{white_letter, square_text, is_file_letter, is_rank_digit}
use Rattle.chess_base.proofs.shared.Choices.{chosen, mapped}
use Rattle.chess_text.specs.{declared.parts.Parts.Parts, declared.parts.End.End, declared.parts.Promotion.Promotion, Parts.kind_text, laws.Laws.CanPromote, laws.Laws.HasLetter, laws.Laws.AreParts}
use Rattle.chess_text.specs.shared.Fitting.{promotion_letter, promotion_text, end_text, parts_text}
use Rattle.chess_text.specs.shared.Reader.{lettered_kinds, promoted, kind_from, or_else, promotion_by, promotion_at, end_at, takes_at, rank_at, with_parts, file_at, at_letter, parts_at}

-- if the first of two optional values, or else the second, gives x, one of them is x
either : {A : Type 0} (o p : Option A) (x : A) → or_else o p ≡ Some x → (o ≡ Some x) ⊎ (p ≡ Some x)
either (Some y) p x e = inl e
either None p x e = inr e

-- a kind that is found by the letter c has this letter
pub found : (kinds : List Kind) (c : ℕ) (k : Kind) → kind_from kinds c ≡ Some k → white_letter k ≡ c
found [] c k e = absurd cc
found (j ∷ kinds) c k e = by_test (λ h. found kinds c k h) (eqb (white_letter j) c) refl e
  where
    by_test : (kind_from kinds c ≡ Some k → white_letter k ≡ c) → (b : Bool) → eqb (white_letter j) c ≡ b
        → cond b (Some j) (kind_from kinds c) ≡ Some k → white_letter k ≡ c
    by_test later true t e = let same : j ≡ k = cc in let at : white_letter j ≡ c =
        grind (arith, nat_tests) in ap white_letter (sym same) ∙ at
    by_test later false t e = later e

-- ---- the promotion

-- of the kinds, those that are found among `promoted` are those that a pawn may become
promoting : (k : Kind) → kind_from promoted (white_letter k) ≡ Some k → CanPromote k
promoting Pawn e = absurd cc
promoting Knight e = tt
promoting Bishop e = tt
promoting Rook e = tt
promoting Queen e = tt
promoting King e = absurd cc

can_promote : (c : ℕ) (k : Kind) → kind_from promoted c ≡ Some k → CanPromote k
can_promote c k e = promoting k (ap (kind_from promoted) (found promoted c k e) ∙ e)

-- c is a small letter if the kind's capital letter is c - 32
small_letter : (c : ℕ) (k : Kind) → white_letter k ≡ c - 32 → white_letter k + 32 ≡ c
small_letter c k e = grind (arith, e)

-- a byte that is read as the letter of a promotion is that promotion's letter, and a pawn may become the piece
pub promotion_is : (equals : Bool) (c : ℕ) (p : Promotion) → promotion_by equals c ≡ Some p
    → (p.equals ≡ equals) × (c ≡ promotion_letter p) × CanPromote p.kind
promotion_is equals c p e =
    by_case (either (option_map (λ k. record { kind = k; equals = equals; small = false }) (kind_from promoted c))
    (option_map (λ k. record { kind = k; equals = equals; small = true }) (kind_from promoted (c - 32))) p e)
  where
    by_case : (option_map (λ k. record { kind = k; equals = equals; small = false }) (kind_from promoted c) ≡ Some p)
        ⊎ (option_map (λ k. record { kind = k; equals = equals; small = true }) (kind_from promoted (c - 32)) ≡ Some p)
        → (p.equals ≡ equals) × (c ≡ promotion_letter p) × CanPromote p.kind
    by_case (inl h) =
        let m = mapped (λ (k : Kind). record { kind = k; equals = equals; small = false }) (kind_from promoted c) p h in
        subst (λ (r : Promotion). (r.equals ≡ equals) × (c ≡ promotion_letter r) × CanPromote r.kind) m.2
        (refl, sym (found promoted c m.0 m.1), can_promote c m.0 m.1)
    by_case (inr h) =
        let m = mapped (λ (k : Kind). record { kind = k; equals = equals; small = true }) (kind_from promoted (c - 32))
        p h in
        subst (λ (r : Promotion). (r.equals ≡ equals) × (c ≡ promotion_letter r) × CanPromote r.kind) m.2
        (refl, sym (small_letter c m.0 (found promoted (c - 32) m.0 m.1)), can_promote (c - 32) m.0 m.1)

-- the letter of a promotion, capital or small, is read as this promotion
promotion_read : (equals small : Bool) (k : Kind) → CanPromote k
    → promotion_by equals (promotion_letter (record { kind = k; equals = equals; small = small }))
    ≡ Some (record { kind = k; equals = equals; small = small })
promotion_read equals small k h = grind (arith, h)

-- no promotion, or one to a piece that a pawn may become
abbrev IsPromotion : Option Promotion → Type 0
IsPromotion o = IfSome o (λ p. CanPromote p.kind)

denoted-promotion : (text : List ℕ) (o : Option Promotion) → promotion_at text ≡ Some o
    → (text ≡ optional promotion_text o) × IsPromotion o
denoted-promotion [] o e = let is : None ≡ o =
    cc in subst (λ (r : Option Promotion). ([] ≡ optional promotion_text r) × IsPromotion r) is (refl, tt)
denoted-promotion (c ∷ []) o e =
    let m = mapped Some (promotion_by false c) o e in
    let p = promotion_is false c m.0 m.1 in
    subst (λ (r : Option Promotion). (c ∷ [] ≡ optional promotion_text r) × IsPromotion r) m.2
    (rw p.0 (ap (λ x. x ∷ []) p.1), p.2)
denoted-promotion (c ∷ d ∷ []) o e =
    let h = chosen (eqb c 61) (option_map Some (promotion_by true d)) o e in
    let at : c ≡ 61 = grind (arith, nat_tests, h.0) in
    let m = mapped Some (promotion_by true d) o h.1 in
    let p = promotion_is true d m.0 m.1 in
    subst (λ (r : Option Promotion). (c ∷ d ∷ [] ≡ optional promotion_text r) × IsPromotion r) m.2
    (rw p.0 (ap (λ x. x ∷ d ∷ []) at ∙ ap (λ x. 61 ∷ x ∷ []) p.1), p.2)
denoted-promotion (c ∷ d ∷ x ∷ cs) o e = absurd cc

promotion-denoted : (o : Option Promotion) → IsPromotion o → promotion_at (optional promotion_text o) ≡ Some o
promotion-denoted None h = refl
promotion-denoted (Some p) h = grind (arith, promotion_read p.equals p.small p.kind h)

-- ---- the end

-- a text that is read as an end is that end's text, and the end is possible: a square of the board, a promotion that a
-- pawn may make
pub denoted-end : (text : List ℕ) (x : End) → end_at text ≡ Some x
    → (text ≡ end_text x) × (x.to < 64) × IsPromotion x.promotion
denoted-end [] x e = absurd cc
denoted-end (f ∷ []) x e = absurd cc
denoted-end (f ∷ r ∷ rest) x e =
    let h = chosen (is_file_letter f && is_rank_digit r)
    (option_map (λ p. record { to = 8 * (r - 49) + (f - 97); promotion = p }) (promotion_at rest)) x e in
    let f0 : 97 ≤ f = grind (arith, nat_tests, h.0) in
    let f1 : f ≤ 104 = grind (arith, nat_tests, h.0) in
    let r0 : 49 ≤ r = grind (arith, nat_tests, h.0) in
    let r1 : r ≤ 56 = grind (arith, nat_tests, h.0) in
    let m = mapped (λ (p : Option Promotion). record { to = 8 * (r - 49) + (f - 97); promotion = p })
    (promotion_at rest) x h.1 in
    let p = denoted-promotion rest m.0 m.1 in
    subst (λ (y : End). (f ∷ r ∷ rest ≡ end_text y) × (y.to < 64) × IsPromotion y.promotion) m.2
    (squares f0 f1 r0 r1 m.0 p.0, omega arith, p.1)
  where
    squares : 97 ≤ f → f ≤ 104 → 49 ≤ r → r ≤ 56 → (o : Option Promotion) → rest ≡ optional promotion_text o
        → f ∷ r ∷ rest ≡ square_text (8 * (r - 49) + (f - 97)) ++ optional promotion_text o
    squares f0 f1 r0 r1 o is =
        let file : f ≡ 97 + (8 * (r - 49) + (f - 97)) % 8 = omega arith in
        let rank : r ≡ 49 + (8 * (r - 49) + (f - 97)) / 8 = omega arith in
        ap (λ x. f ∷ r ∷ x) is ∙ ap (λ x. x ∷ r ∷ optional promotion_text o) file
        ∙ ap (λ x. (97 + (8 * (r - 49) + (f - 97)) % 8) ∷ x ∷ optional promotion_text o) rank

pub end-denoted : (x : End) → x.to < 64 → IsPromotion x.promotion → end_at (end_text x) ≡ Some x
end-denoted x h p =
    let t0 : leb 97 (97 + x.to % 8) ≡ true = grind (arith, nat_tests) in
    let t1 : leb (97 + x.to % 8) 104 ≡ true = grind (arith, nat_tests) in
    let t2 : leb 49 (49 + x.to / 8) ≡ true = grind (arith, nat_tests) in
    let t3 : leb (49 + x.to / 8) 56 ≡ true = grind (arith, nat_tests) in
    let at : 8 * ((49 + x.to / 8) - 49) + ((97 + x.to % 8) - 97) ≡ x.to = omega arith in
    rw (t0, t1, t2, t3, at, promotion-denoted x.promotion p) refl

-- ---- before the square

-- the end is possible: a square of the board, and a possible promotion if there is one
abbrev IsEnd : End → Type 0
IsEnd e = (e.to < 64) × IsPromotion e.promotion

-- whether `x` is there, with the end
abbrev with_takes : Bool → End → Bool × End
with_takes b y = (b, y)

-- the rank, if it is named, before whether `x` is there and the end
abbrev with_rank : Option ℕ → Bool × End → Option ℕ × Bool × End
with_rank o y = (o, y.0, y.1)

-- `x` if it is there, and the end
abbrev takes_text : Bool → End → List ℕ
takes_text b e = list_if b (120 ∷ []) ++ end_text e

denoted-takes : (text : List ℕ) (b : Bool) (x : End) → takes_at text ≡ Some (b, x) → (text ≡ takes_text b x) × IsEnd x
denoted-takes [] b x e = absurd cc
denoted-takes (c ∷ rest) b x e = by_test (eqb c 120) refl e
  where
    by_test : (t : Bool) → eqb c 120 ≡ t → cond t (option_map (with_takes true) (end_at rest))
        (option_map (with_takes false) (end_at (c ∷ rest))) ≡ Some (b, x) → (c ∷ rest ≡ takes_text b x) × IsEnd x
    by_test true t e =
        let m = mapped (with_takes true) (end_at rest) (b, x) e in
        let s = denoted-end rest m.0 m.1 in
        let at : c ≡ 120 = grind (arith, nat_tests) in
        subst (λ (y : Bool × End). (c ∷ rest ≡ takes_text y.0 y.1) × IsEnd y.1) m.2
        (ap (λ k. k ∷ rest) at ∙ ap (λ r. 120 ∷ r) s.0, (s.1, s.2))
    by_test false t e =
        let m = mapped (with_takes false) (end_at (c ∷ rest)) (b, x) e in
        let s = denoted-end (c ∷ rest) m.0 m.1 in
        subst (λ (y : Bool × End). (c ∷ rest ≡ takes_text y.0 y.1) × IsEnd y.1) m.2 (s.0, (s.1, s.2))

takes-denoted : (b : Bool) (x : End) → IsEnd x → takes_at (takes_text b x) ≡ Some (b, x)
takes-denoted b x h = grind (arith, nat_tests, end-denoted x h.0 h.1)

-- the rank if it is named, `x` if it is there, and the end
abbrev tail_text : Option ℕ → Bool → End → List ℕ
tail_text o b e = optional (λ r. (49 + r) ∷ []) o ++ takes_text b e

abbrev IsRank : Option ℕ → Type 0
IsRank o = IfSome o (λ r. r < 8)

denoted-rank : (text : List ℕ) (x : Option ℕ × Bool × End) → rank_at text ≡ Some x
    → (text ≡ tail_text x.0 x.1 x.2) × IsRank x.0 × IsEnd x.2
denoted-rank [] x e = absurd cc
denoted-rank (c ∷ rest) x e = by_test (is_rank_digit c) refl e
  where
    by_test : (t : Bool) → is_rank_digit c ≡ t
        → cond t (option_map (with_rank (Some (c - 49))) (takes_at rest))
        (option_map (with_rank None) (takes_at (c ∷ rest))) ≡ Some x
        → (c ∷ rest ≡ tail_text x.0 x.1 x.2) × IsRank x.0 × IsEnd x.2
    by_test true t e =
        let m = mapped (with_rank (Some (c - 49))) (takes_at rest) x e in
        let s = denoted-takes rest m.0.0 m.0.1 m.1 in
        let low : 49 ≤ c = grind (arith, nat_tests) in
        let high : c ≤ 56 = grind (arith, nat_tests) in
        let at : c ≡ 49 + (c - 49) = omega arith in
        subst (λ (y : Option ℕ × Bool × End). (c ∷ rest ≡ tail_text y.0 y.1 y.2) × IsRank y.0 × IsEnd y.2) m.2
        (ap (λ k. k ∷ rest) at ∙ ap (λ r. (49 + (c - 49)) ∷ r) s.0, omega arith, s.1)
    by_test false t e =
        let m = mapped (with_rank None) (takes_at (c ∷ rest)) x e in
        let s = denoted-takes (c ∷ rest) m.0.0 m.0.1 m.1 in
        subst (λ (y : Option ℕ × Bool × End). (c ∷ rest ≡ tail_text y.0 y.1 y.2) × IsRank y.0 × IsEnd y.2) m.2
        (s.0, tt, s.1)

rank-denoted : (o : Option ℕ) (b : Bool) (x : End) → IsRank o → IsEnd x → rank_at (tail_text o b x) ≡ Some (o, b, x)
rank-denoted (Some r) b x k h = grind (arith, nat_tests, takes-denoted b x h)
rank-denoted None true x k h = ap (option_map (with_rank None)) (takes-denoted true x h)
rank-denoted None false x k h = grind (arith, nat_tests, takes-denoted false x h)

-- ---- the file

-- the text of parts without the letter
abbrev body_text : Parts → List ℕ
body_text q = optional (λ f. (97 + f) ∷ []) q.file ++ tail_text q.rank q.takes q.end

-- q are possible parts with this letter, and the text is theirs without it
record IsBody (letter : Option Kind) (text : List ℕ) (q : Parts) : Type 0 where
  letter_is : q.letter ≡ letter
  text_is : text ≡ body_text q
  file_is : IfSome q.file (λ f. f < 8)
  rank_is : IsRank q.rank
  end_is : IsEnd q.end

denoted-file : (letter : Option Kind) (text : List ℕ) (q : Parts) → file_at letter text ≡ Some q → IsBody letter text q
denoted-file letter [] q e = absurd cc
denoted-file letter (c ∷ rest) q e = by_case
    (either (option_map (with_parts letter None) (rank_at (c ∷ rest)))
    (cond (is_file_letter c) (option_map (with_parts letter (Some (c - 97))) (rank_at rest)) None) q e)
  where
    by_case : (option_map (with_parts letter None) (rank_at (c ∷ rest)) ≡ Some q)
        ⊎ (cond (is_file_letter c) (option_map (with_parts letter (Some (c - 97))) (rank_at rest)) None ≡ Some q)
        → IsBody letter (c ∷ rest) q
    by_case (inl h) =
        let m = mapped (with_parts letter None) (rank_at (c ∷ rest)) q h in
        let s = denoted-rank (c ∷ rest) m.0 m.1 in
        subst (IsBody letter (c ∷ rest)) m.2
        (record { letter_is = refl; text_is = s.0; file_is = tt; rank_is = s.1; end_is = s.2 })
    by_case (inr h) =
        let k = chosen (is_file_letter c) (option_map (with_parts letter (Some (c - 97))) (rank_at rest)) q h in
        let low : 97 ≤ c = grind (arith, nat_tests, k.0) in
        let high : c ≤ 104 = grind (arith, nat_tests, k.0) in
        let at : c ≡ 97 + (c - 97) = omega arith in
        let m = mapped (with_parts letter (Some (c - 97))) (rank_at rest) q k.1 in
        let s = denoted-rank rest m.0 m.1 in
        subst (IsBody letter (c ∷ rest)) m.2
        (record {
          letter_is = refl;
          text_is = ap (λ x. x ∷ rest) at ∙ ap (λ r. (97 + (c - 97)) ∷ r) s.0;
          file_is = omega arith;
          rank_is = s.1;
          end_is = s.2;
        })

-- the text of an end (e4, e8=Q) can't be read as a promotion
not_promoted : (x : End) → promotion_at (end_text x) ≡ None
not_promoted x = grind (arith, nat_tests)

-- with a start file in front, as in exd5, the text of rank, `x` and end can't be read without a file: that letter would
-- be the end square's file, and no rank's digit follows it
no_rank : (f : ℕ) (o : Option ℕ) (b : Bool) (x : End) → f < 8 → IsRank o → rank_at ((97 + f) ∷ tail_text o b x) ≡ None
no_rank f None true x h k = grind (arith, nat_tests)
no_rank f None false x h k = grind (arith, nat_tests)
no_rank f (Some r) true x h k = grind (arith, nat_tests)
no_rank f (Some r) false x h k = grind (arith, nat_tests, not_promoted x)

-- the text of file, rank, `x` and end is read as these parts, with the letter that came before
file-denoted : (letter : Option Kind) (file o : Option ℕ) (b : Bool) (x : End) → IfSome file (λ f. f < 8) → IsRank o
    → IsEnd x → file_at letter (optional (λ f. (97 + f) ∷ []) file ++ tail_text o b x)
    ≡ Some (record { letter = letter; file = file; rank = o; takes = b; end = x })
file-denoted letter None (Some r) b x h k e = rw (rank-denoted (Some r) b x k e) refl
file-denoted letter None None true x h k e = rw (rank-denoted None true x k e) refl
file-denoted letter None None false x h k e = rw (rank-denoted None false x k e) refl
file-denoted letter (Some f) o b x h k e =
    let t3 : leb 97 (97 + f) ≡ true = grind (arith, nat_tests) in
    let t4 : leb (97 + f) 104 ≡ true = grind (arith, nat_tests) in
    let at : (97 + f) - 97 ≡ f = omega arith in
    ap (λ r. or_else (option_map (with_parts letter None) r)
    (cond (is_file_letter (97 + f)) (option_map (with_parts letter (Some ((97 + f) - 97)))
    (rank_at (tail_text o b x))) None)) (no_rank f o b x h k)
    ∙ rw (t3, t4, at) (ap (option_map (with_parts letter (Some f))) (rank-denoted o b x k e))

-- ---- the letter

-- a kind that is found by its letter is not a pawn
pub lettered_is : (k : Kind) → kind_from lettered_kinds (white_letter k) ≡ Some k → HasLetter k
lettered_is Pawn e = absurd cc
lettered_is Knight e = tt
lettered_is Bishop e = tt
lettered_is Rook e = tt
lettered_is Queen e = tt
lettered_is King e = tt

lettered_read : (k : Kind) → HasLetter k → kind_from lettered_kinds (white_letter k) ≡ Some k
lettered_read k h = grind (arith, h)

-- no byte below B (66) or above Z (90) is a piece's letter
no_lettered : (c : ℕ) → (c < 66) ⊎ (90 < c) → kind_from lettered_kinds c ≡ None
no_lettered c h = grind (arith, nat_tests, h)

-- what follows a piece's letter (or none) is the text of possible parts without it: then letter and text together are
-- the text of these parts
parts_of : (letter : Option Kind) (text : List ℕ) (q : Parts) → IfSome letter HasLetter → IsBody letter text q
    → AreParts q × (optional kind_text letter ++ text ≡ parts_text q)
parts_of letter text q h b = (
  record {
    letter_is = subst (λ (o : Option Kind). IfSome o HasLetter) (sym b.letter_is) h;
    file_is = b.file_is;
    rank_is = b.rank_is;
    to_is = b.end_is.0;
    promotion_is = b.end_is.1;
  },
  ap (λ (o : Option Kind). optional kind_text o ++ text) (sym b.letter_is)
      ∙ ap (λ r. optional kind_text q.letter ++ r) b.text_is,
)

pub denoted-parts : (text : List ℕ) (q : Parts) → parts_at text ≡ Some q → AreParts q × (text ≡ parts_text q)
denoted-parts [] q e = absurd cc
denoted-parts (c ∷ rest) q e = by_letter (kind_from lettered_kinds c) refl e
  where
    by_letter : (o : Option Kind) → kind_from lettered_kinds c ≡ o → at_letter o c rest ≡ Some q
        → AreParts q × (c ∷ rest ≡ parts_text q)
    by_letter None is e = parts_of None (c ∷ rest) q tt (denoted-file None (c ∷ rest) q e)
    by_letter (Some k) is e =
        let at = found lettered_kinds c k is in
        let p = parts_of (Some k) rest q (lettered_is k (ap (kind_from lettered_kinds) at ∙ is))
        (denoted-file (Some k) rest q e) in
        (p.0, ap (λ x. x ∷ rest) (sym at) ∙ p.1)

-- a text that begins with a file, a rank, `x` or a square begins with no piece's letter, so it is read from its start
-- file on
parts-body : (file o : Option ℕ) (b : Bool) (x : End) → IfSome file (λ f. f < 8) → IsRank o
    → parts_at (optional (λ f. (97 + f) ∷ []) file ++ tail_text o b x)
    ≡ file_at None (optional (λ f. (97 + f) ∷ []) file ++ tail_text o b x)
parts-body (Some f) o b x h k = ap (λ l. at_letter l (97 + f) (tail_text o b x))
    (no_lettered (97 + f) (inr (omega arith)))
parts-body None (Some r) b x h k = ap (λ l. at_letter l (49 + r) (takes_text b x))
    (no_lettered (49 + r) (inl (omega arith)))
parts-body None None true x h k = refl
parts-body None None false x h k = ap (λ l. at_letter l (97 + x.to % 8)
    ((49 + x.to / 8) ∷ optional promotion_text x.promotion)) (no_lettered (97 + x.to % 8) (inr (omega arith)))

pub parts-denoted : (q : Parts) → AreParts q → parts_at (parts_text q) ≡ Some q
parts-denoted q h = by_letter q.letter h.letter_is
  where
    body : (letter : Option Kind) → file_at letter (body_text q) ≡ Some (record q { letter = letter })
    body letter = file-denoted letter q.file q.rank q.takes q.end h.file_is h.rank_is (h.to_is, h.promotion_is)

    by_letter : (o : Option Kind) → IfSome o HasLetter
        → parts_at (optional kind_text o ++ body_text q) ≡ Some (record q { letter = o })
    by_letter None i = parts-body q.file q.rank q.takes q.end h.file_is h.rank_is ∙ body None
    by_letter (Some k) i = ap (λ l. at_letter l (white_letter k) (body_text q)) (lettered_read k i) ∙ body (Some k)
