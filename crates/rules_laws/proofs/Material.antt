-- Material that is insufficient by the definition's counts is so by squares (`IsBare`, bare_from): no pawn, rook or
-- queen, and at most one bishop or knight, or only bishops on squares of one colour. No legal move changes that
-- (bare_after): there is no castling and no pawn move, and bishops keep to squares of their colour.
use Rattle.std.proofs.Common.{◌≡◌, ◌≢◌, ℕ, zero, suc, ◌+◌, ◌-◌, ◌%◌, ◌<◌, ◌≤◌, Bool, true, false, cond, List, [], ◌∷◌, length, get_or, Some, None, Option, refl, sym, ap, ◌∙◌, arith, ◌==◌, nat_le, inl, inr, count_by, subst, ◌⊎◌, ◌||◌, ◌&&◌, not, is_none, if◌then◌else◌}
use Rattle.std.proofs.lemmas.Bool.{and_parts, and_from, and_right, or_cases, or_left, or_right, both_ways, cases_Bool, cases_eq, cases_lt, eqb-true, eq-eqb, ne_eqb, leb-true, not-true, false_from_ne_true}
use Rattle.std.proofs.{lemmas.List.get_or_past, lemmas.List.Folds.list_any_at, lemmas.List.Sums.sum_by-cons}
use Rattle.std.specs.{Int.abs_diff, List.list_any}
use Rattle.chess_base.specs.{declared.man.CastlingSide.CastlingSide, declared.man.CastlingSide.TheVariants.KingSide, declared.man.CastlingSide.TheVariants.QueenSide, declared.man.Colour.Colour, declared.man.Kind.Kind, declared.man.Man.Man, declared.man.Move.Move, declared.setup.Setup.Setup, Attacks.attacks, Attacks.could_capture, Castling.right_of, Castling.castling, Castling.is_castling_to, Sound.IsSound, shared.Splits.could_capture_as}
use Rattle.chess_base.specs.declared.man.Kind.TheVariants.{King, Queen, Rook, Bishop, Knight, Pawn}
use Rattle.chess_base.specs.Squares.{file, rank, is_at, share_diagonal}
use Rattle.chess_base.specs.Men.{Men, man_at, is_man, is_of, other}
use Rattle.chess_base.specs.Moves.{is_legal, after, captured_square, man_moves, arriving_man}
use Rattle.chess_base.proofs.{shared.Castling.no_castle, shared.Castling.castling_rook_is_there, shared.Castling.right_is_sound_of, shared.Changes.no_en_passant, shared.Men.same_kind-true, shared.Men.is_none-None, shared.MenAfter.length-men_after, shared.Squares.some_square-at}
use Rattle.chess_base.proofs.shared.MoveKinds.{Moves, MoveKind, ManMoves, Castles, PawnMoves, moves_from_pattern, is_of-mover}
use Rattle.chess_game.specs.Ends.{is_kind, has_bishop_on, has_insufficient_material}
use Rattle.rules_laws.proofs.Pieces.{after_no_castle, attacks_of}

-- ---- insufficient material, by squares: minor pieces are bishops and knights, major ones here pawns, rooks and queens

abbrev pub is_minor : Option Man → Bool
is_minor o = is_kind Bishop o || is_kind Knight o

abbrev pub is_major : Option Man → Bool
is_major o = is_kind Pawn o || is_kind Rook o || is_kind Queen o

-- the colour of a square: 0 for black, 1 for white
abbrev pub shade : ℕ → ℕ
shade s = (file s + rank s) % 2

-- at most one bishop or knight; or only bishops, all on squares of one colour
pub data FewMinors (men : Men) : Type 0 where
  OneMinor : ((i j : ℕ) → is_minor (man_at men i) ≡ true → is_minor (man_at men j) ≡ true → i ≡ j) → FewMinors men
  Bishops : (n : ℕ) → ((s : ℕ) → is_kind Knight (man_at men s) ≡ false)
      → ((s : ℕ) → s < 64 → is_kind Bishop (man_at men s) ≡ true → shade s ≡ n) → FewMinors men

-- the board has insufficient material
pub record IsBare (men : Men) : Type 0 where
  pub majors : (s : ℕ) → is_major (man_at men s) ≡ false
  pub minors : FewMinors men

-- ---- from the definition

-- a test that no element passes fails at each index; the default d, read past the end, must fail it too
none_at : {A : Type 0} (q : A → Bool) (xs : List A) (s : ℕ) (d : A) → q d ≡ false → list_any q xs ≡ false
    → q (get_or xs s d) ≡ false
none_at q xs s d out none =
    elim (cases_lt s (length xs)) [
      | inl inside ↦ false_from_ne_true _ (λ e. both_ways _ none (list_any_at q xs s d inside e))
      | inr past ↦ ap q (get_or_past xs s d past) ∙ out
    ]

abbrev one_if : Bool → ℕ
one_if b = cond b 1 0

count-cons : {A : Type 0} (q : A → Bool) (x : A) (xs : List A) → count_by q (x ∷ xs) ≡ one_if (q x) + count_by q xs
count-cons q x xs = sum_by-cons (λ y. one_if (q y)) x xs

-- if the element at an index passes, the count is at least 1
some_counted : {A : Type 0} (q : A → Bool) (xs : List A) (i : ℕ) (d : A) → q d ≡ false → q (get_or xs i d) ≡ true
    → 1 ≤ count_by q xs
some_counted q [] i d out e = absurd (both_ways _ out e)
some_counted q (x ∷ xs) zero d out e = let c = count-cons q x xs in let one : one_if (q x) ≡ 1 = rw e refl in
    omega (arith, c, one)
some_counted q (x ∷ xs) (suc i) d out e = let c = count-cons q x xs in let more = some_counted q xs i d out e in
    omega (arith, c, more)

-- if at most one element passes, two indices at which an element passes are one
only_one : {A : Type 0} (q : A → Bool) (xs : List A) (i j : ℕ) (d : A) → q d ≡ false → count_by q xs ≤ 1
    → q (get_or xs i d) ≡ true → q (get_or xs j d) ≡ true → i ≡ j
only_one q [] i j d out few a b = absurd (both_ways _ out a)
only_one q (x ∷ xs) zero zero d out few a b = refl
only_one q (x ∷ xs) zero (suc j) d out few a b =
    let c = count-cons q x xs in let one : one_if (q x) ≡ 1 = rw a refl in let more = some_counted q xs j d out b in
    absurd (omega (arith, c, one, more, few))
only_one q (x ∷ xs) (suc i) zero d out few a b =
    let c = count-cons q x xs in let one : one_if (q x) ≡ 1 = rw b refl in let more = some_counted q xs i d out a in
    absurd (omega (arith, c, one, more, few))
only_one q (x ∷ xs) (suc i) (suc j) d out few a b =
    let c = count-cons q x xs in
    ap suc (only_one q xs i j d out (omega (arith, c, few)) a b)

-- if no bishop is on squares of colour n, each bishop is on the other colour
no_bishop_at : (n : ℕ) (men : Men) (s : ℕ) → has_bishop_on n men ≡ false → s < 64
    → is_kind Bishop (man_at men s) ≡ true → shade s ≢ n
unfolding has_bishop_on
no_bishop_at n men s none l bishop e =
    both_ways _ none (some_square-at _ s l (and_from _ _ (eq-eqb _ _ e) bishop))

other_shade : (s n : ℕ) → shade s ≢ n → n < 2 → shade s ≡ 1 - n
other_shade s n h l = omega (arith, h, l)

-- without knights, and without bishops on squares of both colours, minor pieces are few
all_on_one_shade : (men : Men) → (has_bishop_on 0 men && has_bishop_on 1 men) ≡ false
    → ((s : ℕ) → is_kind Knight (man_at men s) ≡ false) → FewMinors men
all_on_one_shade men e knights =
    elim (cases_Bool (has_bishop_on 0 men)) [
      | inr none ↦ Bishops 1 knights (λ s l b. other_shade s 0 (no_bishop_at 0 men s none l b) (omega arith))
      | inl some ↦ Bishops 0 knights (λ s l b. other_shade s 1 (no_bishop_at 1 men s (second some) l b) (omega arith))
    ]
  where
    second : has_bishop_on 0 men ≡ true → has_bishop_on 1 men ≡ false
    second some = false_from_ne_true _ (λ one. both_ways _ e (and_from _ _ some one))

-- from the definition, which tests lists and counts, to what is on each square
pub bare_from : (men : Men) → has_insufficient_material men ≡ true → IsBare men
unfolding has_insufficient_material
bare_from men e =
    let both = and_parts (not (list_any (λ o. is_kind Pawn o || is_kind Rook o || is_kind Queen o) men)) _ e in
    record {
      majors = λ s. none_at is_major men s None refl (not-true _ both.0);
      minors = elim (or_cases (nat_le (count_by (λ o. is_kind Bishop o || is_kind Knight o) men) 1) _ both.1) [
        | inl few ↦ OneMinor (λ i j a b. only_one is_minor men i j None refl (leb-true _ _ few) a b)
        | inr bishops ↦
            let parts = and_parts (not (list_any (is_kind Knight) men)) _ bishops in
            all_on_one_shade men (not-true _ parts.1) (λ s. none_at (is_kind Knight) men s None refl (not-true _ parts.0))
      ];
    }

-- ---- no pawns and no rooks

is_kind-of : (c : Colour) (k : Kind) (o : Option Man) → is_man c k o ≡ true → is_kind k o ≡ true
unfolding is_man
is_kind-of c k None e = cc
is_kind-of c k (Some x) e = (and_parts _ _ e).1

no_pawn : (men : Men) (c : Colour) (s : ℕ) → IsBare men → is_man c Pawn (man_at men s) ≡ false
no_pawn men c s bare =
    false_from_ne_true _ (λ e. both_ways _ (bare.majors s)
    (or_left _ _ (or_left _ _ (is_kind-of c Pawn (man_at men s) e))))

no_rook : (men : Men) (c : Colour) (s : ℕ) → IsBare men → is_man c Rook (man_at men s) ≡ false
no_rook men c s bare =
    false_from_ne_true _ (λ e. both_ways _ (bare.majors s)
    (or_left _ _ (or_right (is_kind Pawn (man_at men s)) _ (is_kind-of c Rook (man_at men s) e))))

-- without rooks a sound position has no right to castle
no_right : (p : Setup) (c : Colour) (w : CastlingSide) → IsSound p → IsBare p.men → (o : Option ℕ)
    → right_of p.rights c w ≡ o → o ≡ None
no_right p c w sound bare None e = refl
no_right p c w sound bare (Some r) e =
    absurd (both_ways _ (no_rook p.men c r bare) (castling_rook_is_there p c w r (right_is_sound_of p sound c w) e))

no_castling_to : (p : Setup) (m : Move) (w : CastlingSide) → IsSound p → IsBare p.men → is_castling_to p m w ≡ false
unfolding is_castling_to
no_castling_to p m w sound bare =
    let none = no_right p p.side w sound bare (right_of p.rights p.side w) refl in
    rw none (and_right (is_man p.side King (man_at p.men m.from)) false refl)

-- so no move of it castles
pub no_castling_here : (p : Setup) (m : Move) → IsSound p → IsBare p.men → castling p m ≡ None
unfolding castling
no_castling_here p m sound bare =
    simp (no_castling_to p m KingSide sound bare, no_castling_to p m QueenSide sound bare)

-- ---- material stays insufficient

-- a piece goes from a to b, and nothing else changes but what was on b
pub record HasMoved (men new : Men) (a b : ℕ) : Type 0 where
  pub arrives : man_at new b ≡ man_at men a
  pub leaves : man_at new a ≡ None
  pub others : (s : ℕ) → s ≢ a → s ≢ b → man_at new s ≡ man_at men s

-- a piece that doesn't promote arrives as it left
stays_as : (o : Option Man) (k : Option Kind) → k ≡ None → arriving_man o k ≡ o
stays_as None k e = refl
stays_as (Some x) k e = rw e refl

off_board : (men : Men) (s : ℕ) → length men ≡ 64 → 64 ≤ s → man_at men s ≡ None
off_board men s l h = get_or_past men s None (omega (arith, l, h))

length-after : (p : Setup) (m : Move) → length (after p m).men ≡ 64
unfolding after
length-after p m = length-men_after p m

-- a move by a piece's pattern from a position of insufficient material only takes a piece from its start to its end: it
-- doesn't castle, and captures no pawn en passant
pub moved : (p : Setup) (m : Move) → IsSound p → IsBare p.men → m.from < 64 → m.to < 64
    → is_of p.side (man_at p.men m.from) ≡ true → man_moves p m ≡ true → HasMoved p.men (after p m).men m.from m.to
unfolding man_moves captured_square
moved p m sound bare from_in to_in own e =
    let none = no_castle p m (no_castling_here p m sound bare) in
    let passes = no_en_passant p m (no_pawn p.men p.side m.from bare) in
    let parts = and_parts (is_none m.promotion && attacks p.men m.from m.to) _ e in
    let promotion = is_none-None m.promotion (and_parts _ _ parts.0).0 in
    let apart : m.from ≢ m.to = λ same. both_ways _ (not-true _ parts.1)
    (subst (λ (s : ℕ). is_of p.side (man_at p.men s) ≡ true) same own) in
    record {
      arrives = rw (after_no_castle p m m.to none to_in, eq-eqb m.to m.to refl) (stays_as (man_at p.men m.from) m.promotion promotion);
      leaves = rw (after_no_castle p m m.from none from_in, ne_eqb _ _ apart, eq-eqb m.from m.from refl) refl;
      others = λ s a b. elim (cases_lt s 64) [
        | inl inside ↦ rw (after_no_castle p m s none inside, ne_eqb _ _ b, ne_eqb _ _ a, passes)
            (not_taken (is_of (other p.side) (man_at p.men m.to)) s b)
        | inr past ↦ off_board (after p m).men s (length-after p m) past ∙ sym (off_board p.men s sound.board past)
      ];
    }
  where
    not_taken : (d : Bool) (s : ℕ) → s ≢ m.to
        → (if is_at (if d then Some m.to else None) s then None else man_at p.men s) ≡ man_at p.men s
    not_taken true s b = rw (ne_eqb m.to s (λ e. b (sym e))) refl
    not_taken false s b = refl

-- a square whose content passes q after the move had such content before; or it is the move's end, and the piece that
-- moved passes q
pub origin : (men new : Men) (a b s : ℕ) (q : Option Man → Bool) → HasMoved men new a b → q None ≡ false
    → q (man_at new s) ≡ true → ((s ≢ b) × (s ≢ a) × (q (man_at men s) ≡ true)) ⊎ ((s ≡ b) × (q (man_at men a) ≡ true))
origin men new a b s q h out e =
    elim (cases_eq s b) [
      | inl to ↦ inr (to, sym (ap q h.arrives) ∙ subst (λ (x : ℕ). q (man_at new x) ≡ true) to e)
      | inr away ↦ elim (cases_eq s a) [
        | inl from ↦ absurd (both_ways _ (ap q (ap (λ (x : ℕ). man_at new x) from ∙ h.leaves) ∙ out) e)
        | inr apart ↦ inl (away, apart, sym (ap q (h.others s apart away)) ∙ e)
      ]
    ]

-- a test that nothing on the board passes, nothing passes after the move
none_new : (men new : Men) (a b : ℕ) (q : Option Man → Bool) → HasMoved men new a b → q None ≡ false
    → ((s : ℕ) → q (man_at men s) ≡ false) → (s : ℕ) → q (man_at new s) ≡ false
none_new men new a b q h out none s =
    false_from_ne_true _ (λ e. elim (origin men new a b s q h out e) [
      | inl stays ↦ both_ways _ (none s) stays.2
      | inr arrives ↦ both_ways _ (none a) arrives.1
    ])

-- few minor pieces are few after the move, if a bishop that moves keeps to its colour
minors_moved : (men new : Men) (a b : ℕ) → HasMoved men new a b → b < 64 → a < 64
    → (is_kind Bishop (man_at men a) ≡ true → shade a ≡ shade b) → FewMinors men → FewMinors new
minors_moved men new a b h l l' keeps (OneMinor one) =
    OneMinor (λ i j e f. elim (origin men new a b i is_minor h refl e) [
      | inl i_stays ↦ elim (origin men new a b j is_minor h refl f) [
        | inl j_stays ↦ one i j i_stays.2 j_stays.2
        | inr j_arrives ↦ absurd (i_stays.1 (one i a i_stays.2 j_arrives.1))
      ]
      | inr i_arrives ↦ elim (origin men new a b j is_minor h refl f) [
        | inl j_stays ↦ absurd (j_stays.1 (one j a j_stays.2 i_arrives.1))
        | inr j_arrives ↦ i_arrives.0 ∙ sym j_arrives.0
      ]
    ])
minors_moved men new a b h l l' keeps (Bishops n knights on) =
    Bishops n (none_new men new a b (is_kind Knight) h refl knights)
    (λ s m e. elim (origin men new a b s (is_kind Bishop) h refl e) [
      | inl stays ↦ on s m stays.2
      | inr arrives ↦ ap shade arrives.0 ∙ sym (keeps arrives.1) ∙ on a l' arrives.1
    ])

-- a bishop goes to squares of its colour, a knight to those of the other
pub bishop_shade : (men : Men) (c : Colour) (a b : ℕ) → could_capture men c Bishop a b ≡ true → shade a ≡ shade b
unfolding could_capture
bishop_shade men c a b e =
    let both = and_parts (not (a == b) && share_diagonal a b) _ e in
    let line : abs_diff (file a) (file b) ≡ abs_diff (rank a) (rank b) = eqb-true _ _ (and_parts (not (a == b)) _ both.0).1 in
    same_sum (file a) (rank a) (file b) (rank b) line
  where
    same_sum : (f r g q : ℕ) → abs_diff f g ≡ abs_diff r q → (f + r) % 2 ≡ (g + q) % 2
    same_sum f r g q e = omega (arith, e)

pub knight_shade : (men : Men) (c : Colour) (a b : ℕ) → could_capture men c Knight a b ≡ true → shade a ≢ shade b
unfolding could_capture
knight_shade men c a b e =
    elim (or_cases _ _ e) [
      | inl h ↦ let both = and_parts _ _ h in
          other_sum (file a) (rank a) (file b) (rank b) (inl (eqb-true _ _ both.0, eqb-true _ _ both.1))
      | inr h ↦ let both = and_parts _ _ h in
          other_sum (file a) (rank a) (file b) (rank b) (inr (eqb-true _ _ both.0, eqb-true _ _ both.1))
    ]
  where
    other_sum : (f r g q : ℕ) → ((abs_diff f g ≡ 1) × (abs_diff r q ≡ 2)) ⊎ ((abs_diff f g ≡ 2) × (abs_diff r q ≡ 1))
        → (f + r) % 2 ≢ (g + q) % 2
    other_sum f r g q (inl h) e = let x = h.0 in let y = h.1 in omega (arith, x, y, e)
    other_sum f r g q (inr h) e = let x = h.0 in let y = h.1 in omega (arith, x, y, e)

-- a piece of kind k that attacks a square could capture there, as a piece of some colour c
pub attacks_by_kind : (men : Men) (a b : ℕ) (k : Kind) → is_kind k (man_at men a) ≡ true → attacks men a b ≡ true
    → (c : Colour) × (could_capture men c k a b ≡ true)
unfolding attacks
attacks_by_kind men a b k e hits = by (man_at men a) e hits
  where
    by : (o : Option Man) → is_kind k o ≡ true → could_capture_as men o a b ≡ true
        → (c : Colour) × (could_capture men c k a b ≡ true)
    by None e hits = let n : false ≡ true = e in cc
    by (Some x) e hits = (
      x.colour,
      subst (λ (l : Kind). could_capture men x.colour l a b ≡ true)
          (sym (same_kind-true k x.kind e)) hits,
    )

bishop_keeps : (men : Men) (a b : ℕ) → attacks men a b ≡ true → is_kind Bishop (man_at men a) ≡ true
    → shade a ≡ shade b
bishop_keeps men a b hits e = let h = attacks_by_kind men a b Bishop e hits in bishop_shade men h.0 a b h.1

-- a legal move leaves insufficient material insufficient
pub bare_after : (p : Setup) (m : Move) → IsSound p → is_legal p m ≡ true → IsBare p.men → IsBare (after p m).men
unfolding is_legal
bare_after p m sound legal bare = by h.kind
  where
    h : Moves p m
    h = moves_from_pattern p m (and_parts _ _ legal).0

    by : MoveKind p m → IsBare (after p m).men
    by (PawnMoves pawn fits k) = absurd (both_ways _ (no_pawn p.men p.side m.from bare) pawn)
    by (Castles w r at right e) = let none = no_castling_here p m sound bare in
        let no : None ≡ Some w = sym none ∙ at in cc
    by (ManMoves n at e) =
        let step = moved p m sound bare h.from_in h.to_in (is_of-mover p m h) e in
        record {
          majors = none_new p.men (after p m).men m.from m.to is_major step refl bare.majors;
          minors = minors_moved p.men (after p m).men m.from m.to step h.to_in h.from_in
              (bishop_keeps p.men m.from m.to (attacks_of p m e)) bare.minors;
        }
