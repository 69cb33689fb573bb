-- In Chess960 the letters that are written for available rights, those of their rooks' files, name these rights when
-- they are read: each its own right and no other (right_back; by names_own, and as the colours' letters are capital and
-- small and no file is on both sides of the king). They have the form of a castling field, none of them twice
-- (text_is_castling).
use Rattle.std.proofs.Common.{◌≡◌, ℕ, ◌+◌, ◌-◌, ◌<◌, ◌≤◌, ◌⊎◌, inl, inr, Bool, true, false, cond, eqb, leb, ltb, List, [], ◌∷◌, ◌++◌, length, map, Option, Some, None, refl, sym, ap, ◌∙◌, append-nil, arith, IsTrue, length-append}
use Rattle.std.specs.List.{AllByRecursion, filter, list_all}
use Rattle.std.proofs.{lemmas.Bool.and_parts, lemmas.Bool.eqb-true, lemmas.Bool.ltb-true, lemmas.Bool.Decides.nat_tests, lemmas.List.Elements.filter-append, lemmas.List.Sums.sum_by-append, lemmas.List.Sums.sum_by-cons}
use Rattle.chess_base.specs.{declared.man.Colour.Colour, declared.man.Colour.TheVariants.White, declared.man.Colour.TheVariants.Black, declared.man.CastlingSide.CastlingSide, declared.man.CastlingSide.TheVariants.KingSide, declared.man.CastlingSide.TheVariants.QueenSide, declared.man.Kind.TheVariants.Rook, declared.man.Rights.Rights, declared.man.Variant.Variant, declared.man.Variant.TheVariants.Fischerandom, Squares.file, Squares.rank, shared.Parts.is_on_side_of_king, shared.Splits.right_is_sound_at}
use Rattle.chess_base.specs.Men.{Men, man_at, is_man, other, first_rank}
use Rattle.chess_base.specs.Castling.{home_square, king_square, is_to_side, right_of}
use Rattle.chess_fen.specs.{shared.RightTexts.or_dash, shared.RightTexts.right_text, ties.Reader.times, ties.Reader.names_once, Writing.rights_text}
use Rattle.chess_fen.proofs.{RightLetters.rights_are, RooksNamed.option_by, RooksNamed.option_in, RooksNamed.in_chess960, Joined.all_append}
use Rattle.chess_fen.specs.Texts.{first_letter, names_file, may_name_right, is_castling_field}
use Rattle.chess_fen.specs.RightNames.{side_letter, is_towards, names_right, rook_by}

-- what makes a right with its rook on s available: king and rook are on the first rank, and the rook is on that side of
-- the king
pub record Beside (men : Men) (c : Colour) (w : CastlingSide) (s : ℕ) : Type 0 where
  pub king : ℕ
  pub at : king_square men c ≡ Some king
  pub king_rank : rank king ≡ first_rank c
  pub rook_rank : rank s ≡ first_rank c
  pub side : is_to_side w king s ≡ true

beside_by : (men : Men) (c : Colour) (w : CastlingSide) (s : ℕ) (o : Option ℕ) → king_square men c ≡ o
    → is_on_side_of_king c w o s ≡ true → Beside men c w s
beside_by men c w s None at e = cc
beside_by men c w s (Some k) at e =
    record {
      king = k;
      at = at;
      king_rank = grind (arith, nat_tests, e);
      rook_rank = grind (arith, nat_tests, e);
      side = grind (arith, e);
    }

-- a sound right of Chess960 with its rook on s is available so
pub beside : (men : Men) (c : Colour) (w : CastlingSide) (s : ℕ) → right_is_sound_at Fischerandom men c w (Some s)
    ≡ true → Beside men c w s
beside men c w s e = beside_by men c w s (king_square men c) refl
    (and_parts (is_on_side_of_king c w (king_square men c) s) (is_man c Rook (man_at men s)) e).0

-- the other castling side
abbrev other_side : CastlingSide → CastlingSide
other_side KingSide = QueenSide
other_side QueenSide = KingSide

-- ---- a letter that is written, among those of sides and files

-- a file's letter (A to H, a to h) is none of K, Q, k and q
pub no_side_letter : (c d : Colour) (w : CastlingSide) (f : ℕ) → f < 8
    → eqb (first_letter c + f) (side_letter d w) ≡ false
no_side_letter c d w f h = grind (arith, nat_tests)

-- a letter that is written for a right of colour c is that of a file for c
pub own_file : (c : Colour) (f : ℕ) → f < 8 → names_file c (first_letter c + f) ≡ true
own_file c f h = grind (arith, nat_tests)

-- a letter that is written for a right of colour c is no file's for the other colour
other_file : (c : Colour) (f : ℕ) → f < 8 → names_file (other c) (first_letter c + f) ≡ false
other_file c f h = grind (arith, nat_tests)

-- the letter of a square's file gives back the square on the first rank
pub file_back : (c : Colour) (s : ℕ) → rank s ≡ first_rank c
    → home_square c ((first_letter c + file s) - first_letter c) ≡ s
file_back c s e = omega arith

-- a square on side w of the king is so by the test of the letters, `is_towards`
towards_own : (w : CastlingSide) (k s : ℕ) → is_to_side w k s ≡ true → is_towards w (Some k) s ≡ true
towards_own w k s e = grind (arith, nat_tests, e)

-- a square on side w of the king is not on the other side by that test
towards_other : (w : CastlingSide) (k s : ℕ) → is_to_side w k s ≡ true → is_towards (other_side w) (Some k) s ≡ false
towards_other w k s e = grind (arith, nat_tests, e)

-- a file is one of eight
pub file_in : (s : ℕ) → file s < 8
file_in s = omega arith

-- ---- which right it names

-- the letter that is written for a right names it
pub names_own : (men : Men) (c : Colour) (w : CastlingSide) (s : ℕ) → Beside men c w s
    → names_right men c w (first_letter c + file s) ≡ true
names_own men c w s b =
    let t : is_towards w (king_square men c) s ≡ true = rw b.at (towards_own w b.king s b.side) in
    rw (no_side_letter c c w (file s) (file_in s), own_file c (file s) (file_in s), file_back c s b.rook_rank, t) refl

-- the letter that is written for a right doesn't name the same colour's right on the other side
names_other_side : (men : Men) (c : Colour) (w : CastlingSide) (s : ℕ) → Beside men c w s
    → names_right men c (other_side w) (first_letter c + file s) ≡ false
names_other_side men c w s b =
    let t : is_towards (other_side w) (king_square men c) s ≡ false = rw b.at (towards_other w b.king s b.side) in
    rw (
      no_side_letter c c (other_side w) (file s) (file_in s),
      own_file c (file s) (file_in s),
      file_back c s b.rook_rank,
      t,
    ) refl

-- the letter that is written for a right doesn't name a right of the other colour
names_other_colour : (men : Men) (c : Colour) (w : CastlingSide) (s : ℕ)
    → names_right men (other c) w (first_letter c + file s) ≡ false
names_other_colour men c w s = rw (no_side_letter c (other c) w (file s) (file_in s), other_file c (file s) (file_in s))
    refl

-- the letter that is written for a right gives the square of the right's rook
pub rook_own : (men : Men) (c : Colour) (w : CastlingSide) (s : ℕ) → rank s ≡ first_rank c
    → rook_by men c w (first_letter c + file s) ≡ Some s
rook_own men c w s home = rw (no_side_letter c c w (file s) (file_in s), file_back c s home) refl

-- ---- of what is written, the letters for one right

-- the rights are available
abbrev pub Stand : Variant → Men → Rights → Type 0
Stand v men r = (c : Colour) (w : CastlingSide) → right_is_sound_at v men c w (right_of r c w) ≡ true

-- all of the text of an available right, one letter or none, names the right
own_text : (men : Men) (c : Colour) (w : CastlingSide) (o : Option ℕ) → right_is_sound_at Fischerandom men c w o ≡ true
    → filter (names_right men c w) (right_text Fischerandom c w o) ≡ right_text Fischerandom c w o
own_text men c w None e = refl
own_text men c w (Some s) e =
    ap (λ b. cond b ((first_letter c + file s) ∷ []) []) (names_own men c w s (beside men c w s e))

-- nothing of the text of an available right names the same colour's right on the other side
side_text : (men : Men) (c : Colour) (w : CastlingSide) (o : Option ℕ)
    → right_is_sound_at Fischerandom men c w o ≡ true
    → filter (names_right men c (other_side w)) (right_text Fischerandom c w o) ≡ []
side_text men c w None e = refl
side_text men c w (Some s) e =
    ap (λ b. cond b ((first_letter c + file s) ∷ []) []) (names_other_side men c w s (beside men c w s e))

-- nothing of the text of a right names a right of the other colour
colour_text : (men : Men) (c : Colour) (w u : CastlingSide) (o : Option ℕ)
    → filter (names_right men (other c) u) (right_text Fischerandom c w o) ≡ []
colour_text men c w u None = refl
colour_text men c w u (Some s) = ap (λ b. cond b ((first_letter c + file s) ∷ []) []) (names_other_colour men c u s)

-- a dash names no right
after-dash : (men : Men) (c : Colour) (w : CastlingSide) (xs : List ℕ)
    → filter (names_right men c w) (or_dash xs) ≡ filter (names_right men c w) xs
after-dash men c w [] = grind arith
after-dash men c w (x ∷ xs) = refl

-- the text of White's right on the king's side; B, C and D are those of the three others
abbrev A : Rights → List ℕ
A r = right_text Fischerandom White KingSide r.white.king_side

-- the text of White's right on the queen's side
abbrev B : Rights → List ℕ
B r = right_text Fischerandom White QueenSide r.white.queen_side

-- the text of Black's right on the king's side
abbrev C : Rights → List ℕ
C r = right_text Fischerandom Black KingSide r.black.king_side

-- the text of Black's right on the queen's side
abbrev D : Rights → List ℕ
D r = right_text Fischerandom Black QueenSide r.black.queen_side

-- the letters of a castling field that name a right are those of the four texts, one after another
in_turn : (men : Men) (r : Rights) (c : Colour) (w : CastlingSide)
    → filter (names_right men c w) (rights_text Fischerandom r)
    ≡ ((filter (names_right men c w) (A r) ++ filter (names_right men c w) (B r)) ++ filter (names_right men c w) (C r))
    ++ filter (names_right men c w) (D r)
in_turn men r c w =
    let names : ℕ → Bool = names_right men c w in
    ap (filter names) (rights_are Fischerandom r) ∙ after-dash men c w (((A r ++ B r) ++ C r) ++ D r) ∙ filter-append names ((A r ++ B r) ++ C r) (D r)
    ∙ ap (λ xs. xs ++ filter names (D r))
    (filter-append names (A r ++ B r) (C r) ∙ ap (λ xs. xs ++ filter names (C r)) (filter-append names (A r) (B r)))

-- of the castling field that is written, only a right's own letter names it
own_letters : (men : Men) (r : Rights) (c : Colour) (w : CastlingSide) → Stand Fischerandom men r
    → filter (names_right men c w) (rights_text Fischerandom r) ≡ right_text Fischerandom c w (right_of r c w)
own_letters men r White KingSide s =
    in_turn men r White KingSide
    ∙ rw (
      own_text men White KingSide r.white.king_side (s White KingSide),
      side_text men White QueenSide r.white.queen_side (s White QueenSide),
      colour_text men Black KingSide KingSide r.black.king_side,
      colour_text men Black QueenSide KingSide r.black.queen_side,
    )
    (append-nil ((A r ++ []) ++ []) ∙ append-nil (A r ++ []) ∙ append-nil (A r))
own_letters men r White QueenSide s =
    in_turn men r White QueenSide
    ∙ rw (
      side_text men White KingSide r.white.king_side (s White KingSide),
      own_text men White QueenSide r.white.queen_side (s White QueenSide),
      colour_text men Black KingSide QueenSide r.black.king_side,
      colour_text men Black QueenSide QueenSide r.black.queen_side,
    )
    (append-nil (B r ++ []) ∙ append-nil (B r))
own_letters men r Black KingSide s =
    in_turn men r Black KingSide
    ∙ rw (
      colour_text men White KingSide KingSide r.white.king_side,
      colour_text men White QueenSide KingSide r.white.queen_side,
      own_text men Black KingSide r.black.king_side (s Black KingSide),
      side_text men Black QueenSide r.black.queen_side (s Black QueenSide),
    )
    (append-nil (C r))
own_letters men r Black QueenSide s =
    in_turn men r Black QueenSide
    ∙ rw (
      colour_text men White KingSide QueenSide r.white.king_side,
      colour_text men White QueenSide QueenSide r.white.queen_side,
      side_text men Black KingSide r.black.king_side (s Black KingSide),
      own_text men Black QueenSide r.black.queen_side (s Black QueenSide),
    ) refl

-- the text of an available right gives the right back: its rook, or that it is absent
one_right : (men : Men) (c : Colour) (w : CastlingSide) (o : Option ℕ) → right_is_sound_at Fischerandom men c w o ≡ true
    → option_by (map (rook_by men c w) (right_text Fischerandom c w o)) ≡ Some o
one_right men c w None e = refl
one_right men c w (Some s) e =
    ap (λ rook. option_by (rook ∷ [])) (rook_own men c w s (beside men c w s e).rook_rank)

-- the castling field that is written gives back each right
pub right_back : (men : Men) (r : Rights) (c : Colour) (w : CastlingSide) → Stand Fischerandom men r
    → option_in Fischerandom men (rights_text Fischerandom r) c w ≡ Some (right_of r c w)
right_back men r c w s =
    in_chess960 men c w (rights_text Fischerandom r) ∙ ap (λ letters. option_by (map (rook_by men c w) letters)) (own_letters men r c w s)
    ∙ one_right men c w (right_of r c w) (s c w)

-- ---- they are letters of rights, none twice

-- a file's letter may name a right
may_name : (c : Colour) (f : ℕ) → f < 8 → may_name_right Fischerandom (first_letter c + f) ≡ true
unfolding may_name_right
may_name White f h = grind (arith, own_file White f h)
may_name Black f h = grind (arith, own_file Black f h)

each_one : (c : Colour) (w : CastlingSide) (o : Option ℕ)
    → AllByRecursion (λ l. IsTrue (may_name_right Fischerandom l)) (right_text Fischerandom c w o)
each_one c w None = tt
each_one c w (Some s) = (may_name c (file s) (file_in s), tt)

-- a right is written in one letter or none
one_at_most : (c : Colour) (w : CastlingSide) (o : Option ℕ) → length (right_text Fischerandom c w o) ≤ 1
one_at_most c w None = omega arith
one_at_most c w (Some s) = omega arith

-- n is a letter of colour c's files, on side w of the king's file
record Placed (men : Men) (c : Colour) (w : CastlingSide) (n : ℕ) : Type 0 where
  king : ℕ
  at : king_square men c ≡ Some king
  low : first_letter c ≤ n
  high : n < first_letter c + 8
  side : is_to_side w (first_letter c + file king) n ≡ true

-- the letter of an available right is one of its colour's files, on the right's side of the king
placed : (men : Men) (c : Colour) (w : CastlingSide) (s : ℕ) → Beside men c w s
    → Placed men c w (first_letter c + file s)
placed men c w s b = record {
  king = b.king;
  at = b.at;
  low = omega arith;
  high = omega arith;
  side = (let side = b.side in grind (arith, nat_tests, b.king_rank, b.rook_rank, side));
}

-- how often c occurs in a text with x in front
times-cons : (c x : ℕ) (xs : List ℕ) → times c (x ∷ xs) ≡ cond (eqb x c) 1 0 + times c xs
times-cons c x xs = sum_by-cons (λ b. cond (eqb b c) 1 0) x xs

-- the letter n occurs t times in the text of a right: not at all, or once, and then is placed as the right is
Occurs : Men → Colour → CastlingSide → ℕ → ℕ → Type 0
Occurs men c w n t = (t ≡ 0) ⊎ ((t ≡ 1) × Placed men c w n)

-- how often n occurs in the one letter l of a right: once if it is l (b), otherwise not at all
occurs_by : (men : Men) (c : Colour) (w : CastlingSide) (l n : ℕ) → Placed men c w l → (b : Bool) → eqb l n ≡ b
    → Occurs men c w n (cond b 1 0 + 0)
unfolding Occurs
occurs_by men c w l n p true e = let at = eqb-true l n e in inr (refl, rw (← at) p)
occurs_by men c w l n p false e = inl refl

-- how often n occurs in the text of an available right
occurrence : (men : Men) (c : Colour) (w : CastlingSide) (o : Option ℕ) (n : ℕ)
    → right_is_sound_at Fischerandom men c w o ≡ true → Occurs men c w n (times n (right_text Fischerandom c w o))
unfolding Occurs
occurrence men c w None n e = inl refl
occurrence men c w (Some s) n e = rw (times-cons n (first_letter c + file s) [])
    (occurs_by men c w (first_letter c + file s) n (placed men c w s (beside men c w s e))
    (eqb (first_letter c + file s) n) refl)

-- no letter is on both sides of the king
not_both : (men : Men) (c : Colour) (n : ℕ) → Placed men c KingSide n → Placed men c QueenSide n → ⊥
not_both men c n p q =
    let same : Some p.king ≡ Some q.king = sym p.at ∙ q.at in
    let king : p.king ≡ q.king = cc in
    let a = ltb-true (first_letter c + file p.king) n p.side in
    let b = ltb-true n (first_letter c + file q.king) q.side in
    omega (arith, king, a, b)

-- n occurs t times in the two letters of colour c: not at all, or once as one of c's letters
Once : Colour → ℕ → ℕ → Type 0
Once c n t = (t ≡ 0) ⊎ ((t ≡ 1) × (first_letter c ≤ n) × (n < first_letter c + 8))

-- the letters of a colour's two rights: n is at most one of them
of_colour : (men : Men) (c : Colour) (n t u : ℕ) → Occurs men c KingSide n t → Occurs men c QueenSide n u
    → Once c n (t + u)
unfolding Occurs Once
of_colour men c n t u (inl e) (inl f) = inl (omega arith)
of_colour men c n t u (inl e) (inr f) = inr (omega (arith, f.0), f.1.low, f.1.high)
of_colour men c n t u (inr e) (inl f) = inr (omega (arith, e.0), e.1.low, e.1.high)
of_colour men c n t u (inr e) (inr f) = absurd (not_both men c n e.1 f.1)

-- White's letters are capitals, Black's small: none is in both
of_both : (n t u : ℕ) → Once White n t → Once Black n u → t + u ≤ 1
unfolding Once
of_both n t u (inl e) (inl f) = omega arith
of_both n t u (inl e) (inr f) = omega (arith, f.0)
of_both n t u (inr e) (inl f) = omega (arith, e.0)
of_both n t u (inr e) (inr f) = absurd (omega (arith, e.2, f.1))

times-append : (n : ℕ) (xs ys : List ℕ) → times n (xs ++ ys) ≡ times n xs + times n ys
times-append n xs ys = sum_by-append (λ b. cond (eqb b n) 1 0) xs ys

-- no letter occurs twice in the four texts
none_twice : (men : Men) (r : Rights) (n : ℕ) → Stand Fischerandom men r → times n (((A r ++ B r) ++ C r) ++ D r) ≤ 1
none_twice men r n s =
    let white = of_colour men White n (times n (A r)) (times n (B r))
    (occurrence men White KingSide r.white.king_side n (s White KingSide))
    (occurrence men White QueenSide r.white.queen_side n (s White QueenSide)) in
    let black = of_colour men Black n (times n (C r)) (times n (D r))
    (occurrence men Black KingSide r.black.king_side n (s Black KingSide))
    (occurrence men Black QueenSide r.black.queen_side n (s Black QueenSide)) in
    let all = of_both n (times n (A r) + times n (B r)) (times n (C r) + times n (D r)) white black in
    omega (
      arith,
      all,
      times-append n ((A r ++ B r) ++ C r) (D r),
      times-append n (A r ++ B r) (C r),
      times-append n (A r) (B r),
    )

-- ---- the letters, each of which is there once

-- if no letter of the whole text occurs twice, each letter of a part of it is one that occurs once
each_once : (whole text : List ℕ) → ((c : ℕ) → times c text ≤ times c whole) → ((c : ℕ) → times c whole ≤ 1)
    → AllByRecursion (λ l. IsTrue (may_name_right Fischerandom l)) text
    → list_all (names_once Fischerandom whole) text ≡ true
each_once whole [] within one p = refl
each_once whole (x ∷ xs) within one p =
    let here : eqb x x ≡ true = grind (arith, nat_tests) in
    let count : times x (x ∷ xs) ≡ 1 + times x xs = times-cons x x xs ∙ ap (λ b. cond b 1 0 + times x xs) here in
    let is : times x whole ≡ 1 = omega (arith, within x, one x, count) in
    let t : eqb (times x whole) 1 ≡ true = grind (arith, nat_tests, is) in
    let may : may_name_right Fischerandom x ≡ true = p.0 in
    let rest = each_once whole xs (λ c. omega (arith, within c, times-cons c x xs)) one p.1 in
    rw (may, t, rest) refl

-- one to four such letters, none twice, have the form of a castling field; so has a dash
castling_or_dash : (text : List ℕ) → length text ≤ 4 → AllByRecursion (λ l. IsTrue (may_name_right Fischerandom l)) text
    → ((n : ℕ) → times n text ≤ 1) → is_castling_field Fischerandom (or_dash text) ≡ true
castling_or_dash [] few each distinct = refl
castling_or_dash (x ∷ xs) few each distinct =
    let short : leb (length (x ∷ xs)) 4 ≡ true = grind (arith, nat_tests, few) in
    let once = each_once (x ∷ xs) (x ∷ xs) (λ c. omega arith) distinct each in
    let some : ltb 0 (length (x ∷ xs)) ≡ true = grind (arith, nat_tests) in
    grind (arith, short, once, some)

-- the castling field that is written has the form of one
pub text_is_castling : (men : Men) (r : Rights) → Stand Fischerandom men r
    → is_castling_field Fischerandom (rights_text Fischerandom r) ≡ true
text_is_castling men r s =
    let P = λ (l : ℕ). IsTrue (may_name_right Fischerandom l) in
    let a = one_at_most White KingSide r.white.king_side in
    let b = one_at_most White QueenSide r.white.queen_side in
    let c = one_at_most Black KingSide r.black.king_side in
    let d = one_at_most Black QueenSide r.black.queen_side in
    ap (is_castling_field Fischerandom) (rights_are Fischerandom r) ∙ castling_or_dash (((A r ++ B r) ++ C r) ++ D r)
    (omega (
      arith,
      a,
      b,
      c,
      d,
      length-append ((A r ++ B r) ++ C r) (D r),
      length-append (A r ++ B r) (C r),
      length-append (A r) (B r),
    ))
    (all_append P ((A r ++ B r) ++ C r) (D r)
    (all_append P (A r ++ B r) (C r) (all_append P (A r) (B r) (each_one White KingSide r.white.king_side)
    (each_one White QueenSide r.white.queen_side)) (each_one Black KingSide r.black.king_side))
    (each_one Black QueenSide r.black.queen_side))
    (λ n. none_twice men r n s)
