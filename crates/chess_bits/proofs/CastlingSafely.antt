-- In normal chess a castling whose way is empty and safe is legal (castles_safely): it opens no line to the square
-- where the king ends, so what attacks that square afterwards attacked it before. Shown for the home squares of each
-- colour and side: if the king's start is between that square and another one, so is the rook's end, and the rook's
-- start is never between.
use Rattle.std.proofs.Common.{◌≡◌, ℕ, ◌<◌, inl, inr, Bool, true, false, not, ◌&&◌, ◌||◌, ◌==◌, cond, Option, Some, None, is_none, refl, sym, ap, ◌∙◌, arith}
use Rattle.std.proofs.lemmas.Bool.Decides.{nat_tests}
use Rattle.std.proofs.lemmas.Bool.{and_parts, or_left, or_right, both_ways, cases_Bool, eqb-true, eq-eqb, false_from_ne_true}
use Rattle.chess_base.specs.{declared.castling.Castle.Castle, declared.man.CastlingSide.CastlingSide, declared.man.CastlingSide.TheVariants.KingSide, declared.man.CastlingSide.TheVariants.QueenSide, declared.man.Colour.Colour, declared.man.Colour.TheVariants.White, declared.man.Colour.TheVariants.Black, declared.man.Kind.TheVariants.King, declared.man.Kind.TheVariants.Rook, declared.man.Kind.TheVariants.Pawn, declared.man.Man.Man, declared.man.Move.Move, declared.man.Variant.TheVariants.Normal, declared.setup.Setup.Setup, Attacks.is_clear, Attacks.is_attacked, Before.mover_to, Sound.IsSound, Squares.is_between, shared.Lines.is_between_on_file, shared.Lines.is_between_on_rank, shared.Lines.is_between_on_diagonal}
use Rattle.chess_base.specs.Castling.{home_square, king_home_file, rook_file, castled_king_file, castled_rook_file, right_of, castling, castle_from, castle_of, is_on_way, castling_way_is_empty, castling_way_is_safe, mover_end, castling_rook_to}
use Rattle.chess_base.specs.Men.{Men, man_at, other, is_of, is_man}
use Rattle.chess_base.specs.Moves.{is_pseudo_legal, is_legal, arriving_man, men_after, second_square_emptied}
use Rattle.chess_base.proofs.shared.Castling.{says_from_castling, castling_says, castle_there, no_castle, castled_king_file-below, castled_rook_file-below, home_square-below}
use Rattle.chess_base.proofs.{shared.Changes.no_en_passant, shared.MenAfter.man_after, shared.MenAfter.man_at-men_after, shared.Men.in_board, shared.Men.is_man-kind, shared.Squares.each_square-all, shared.Squares.each_square-at, shared.Geometry.is_between-end}
use Rattle.chess_bits.proofs.{BoardSets.theirs_of, CastlingAtHome.at_home, CastlingAtHome.stands, CastlingBySets.king_goes, CastlingBySets.castle_pattern, Quiet.attacked_before, Quiet.could_capture_as_clear, Quiet.lands_same}
use Rattle.chess_bits.proofs.KingAfter.{mover_own, king_lands, check_after, legal_is}

-- ---- squares at home

-- if the king's start is between b and the king's end, the rook's end is too
past_king : (c : Colour) (w : CastlingSide) (b : ℕ)
    → is_between b (home_square c (castled_king_file w)) (home_square c king_home_file) ≡ true
    → is_between b (home_square c (castled_king_file w)) (home_square c (castled_rook_file w)) ≡ true
unfolding is_between is_between_on_file is_between_on_rank is_between_on_diagonal
past_king White KingSide b e = grind (arith, nat_tests, e)
past_king White QueenSide b e = grind (arith, nat_tests, e)
past_king Black KingSide b e = grind (arith, nat_tests, e)
past_king Black QueenSide b e = grind (arith, nat_tests, e)

-- the rook's corner is never between the king's end and another square
past_rook : (c : Colour) (w : CastlingSide) (b : ℕ)
    → is_between b (home_square c (castled_king_file w)) (home_square c (rook_file w)) ≡ false
unfolding is_between is_between_on_file is_between_on_rank is_between_on_diagonal
past_rook White KingSide b = grind (arith, nat_tests)
past_rook White QueenSide b = grind (arith, nat_tests)
past_rook Black KingSide b = grind (arith, nat_tests)
past_rook Black QueenSide b = grind (arith, nat_tests)

ends_apart : (c : Colour) (w : CastlingSide)
    → (home_square c (castled_king_file w) == home_square c (castled_rook_file w)) ≡ false
ends_apart White KingSide = refl
ends_apart White QueenSide = refl
ends_apart Black KingSide = refl
ends_apart Black QueenSide = refl

-- ---- what castling leaves

-- what is on square s after castling
after_castling : (p : Setup) (m : Move) (k : Castle) (s : ℕ) → castle_of p m ≡ Some k → s < 64
    → man_at (men_after p m) s
    ≡ cond (k.king_to == s) (arriving_man (man_at p.men m.from) m.promotion)
    (cond (k.rook_to == s) (Some (record { colour = p.side; kind = Rook }))
    (cond ((k.rook_from == s) || (m.from == s)) None (man_at p.men s)))
unfolding man_after mover_end castling_rook_to second_square_emptied
after_castling p m k s e l =
    let king = king_goes p m k e (castling p m) refl in
    let still = no_en_passant p m (is_man-kind p.side p.side King Pawn (man_at p.men m.from) refl king) in
    man_at-men_after p m s l ∙ rw (still, e) refl

-- an enemy piece (of colour c) that is on a square afterwards was there before
enemy_stood : (t r l : Bool) (arr rook o : Option Man) (c : Colour) → is_of c arr ≡ false → is_of c rook ≡ false
    → is_of c (cond t arr (cond r rook (cond l None o))) ≡ true
    → cond t arr (cond r rook (cond l None o)) ≡ o
unfolding is_of
enemy_stood true r l arr rook o c n g e = absurd (both_ways _ n e)
enemy_stood false true l arr rook o c n g e = absurd (both_ways _ g e)
enemy_stood false false true arr rook o c n g e = cc
enemy_stood false false false arr rook o c n g e = refl

-- `later` are the pieces after the king went from a to t and the rook from f to r
abbrev Castled : Men → Men → ℕ → ℕ → ℕ → ℕ → Option Man → Option Man → Type 0
Castled men later t r f a king rook = (s : ℕ) → s < 64
    → man_at later s ≡ cond (t == s) king (cond (r == s) rook (cond ((f == s) || (a == s)) None (man_at men s)))

-- if `later` are the pieces after castling, the rook is on r, its end square, in `later`
rook_stands : (men later : Men) (t r f a : ℕ) (king rook : Option Man) → Castled men later t r f a king rook
    → (t == r) ≡ false → r < 64 → man_at later r ≡ rook
rook_stands men later t r f a king rook after apart low = after r low ∙ rw (apart, eq-eqb r r refl) refl

-- if the way from b to the king's end t is clear after castling, it was clear before: the rook's start f is not on it;
-- and if the king's start a were on it, the rook's end r would be too, where the rook then is
clear_stood : (men later : Men) (t r f a b : ℕ) (king rook : Option Man) → Castled men later t r f a king rook
    → is_none rook ≡ false → (t == r) ≡ false → r < 64
    → (is_between b t a ≡ true → is_between b t r ≡ true) → is_between b t f ≡ false → is_clear later b t ≡ true
    → is_clear men b t ≡ true
unfolding is_clear
clear_stood men later t r f a b king rook after some apart low past beyond clear =
    each_square-all _
    (λ x l.
    elim (cases_Bool (is_between b t x)) [
      | inr out ↦ rw out refl
      | inl inside ↦
          let now = rw inside at (each_square-at _ clear x l) in
          let met : is_between b t r ≡ true → ⊥ =
          λ i. let there = rw i at (each_square-at _ clear r low) in
          both_ways (is_none rook) some (ap is_none (sym (rook_stands men later t r f a king rook after apart low))
          ∙ there) in
          let not_t : (t == x) ≡ false =
          false_from_ne_true (t == x)
          (λ s. both_ways (is_between b t t) (is_between-end b t)
          (ap (λ y. is_between b t y) (eqb-true t x s) ∙ inside)) in
          let not_r : (r == x) ≡ false =
          false_from_ne_true (r == x) (λ s. met (ap (λ y. is_between b t y) (eqb-true r x s) ∙ inside)) in
          let not_f : (f == x) ≡ false =
          false_from_ne_true (f == x)
          (λ s. both_ways (is_between b t f) beyond (ap (λ y. is_between b t y) (eqb-true f x s) ∙ inside)) in
          let not_a : (a == x) ≡ false =
          false_from_ne_true (a == x) (λ s. met (past (ap (λ y. is_between b t y) (eqb-true a x s) ∙ inside))) in
          let same : man_at later x ≡ man_at men x = after x l ∙ rw (not_t, not_r, not_f, not_a) refl in
          rw inside (ap is_none (sym same) ∙ now)
    ])

-- the king's end t, if it was not attacked before castling, is not attacked afterwards
still_safe : (men later : Men) (c : Colour) (t r f a : ℕ) (king rook : Option Man) → Castled men later t r f a king rook
    → is_none rook ≡ false → is_of c king ≡ false → is_of c rook ≡ false → (t == r) ≡ false → r < 64
    → ((b : ℕ) → is_between b t a ≡ true → is_between b t r ≡ true) → ((b : ℕ) → is_between b t f ≡ false)
    → is_attacked men t c ≡ false → is_attacked later t c ≡ false
still_safe men later c t r f a king rook after some own mine apart low past beyond =
    attacked_before men later t c
    (λ b l theirs. after b l
    ∙ enemy_stood (t == b) (r == b) ((f == b) || (a == b)) king rook (man_at men b) c own mine (rw (after b l) at theirs))
    (λ b l was. could_capture_as_clear men later (man_at men b) b t
    (clear_stood men later t r f a b king rook after some apart low (past b) (beyond b)))

-- ---- so it is legal

-- the end of a safe way is not attacked
way_end : (men : Men) (c : Colour) (k : Castle) → castling_way_is_safe men c k ≡ true → k.king_to < 64
    → is_attacked men k.king_to (other c) ≡ false
unfolding castling_way_is_safe
way_end men c k safe low =
    let on : is_on_way k.king_from k.king_to k.king_to ≡ true =
    or_left ((k.king_to == k.king_from) || (k.king_to == k.king_to)) (is_between k.king_from k.king_to k.king_to)
    (or_right (k.king_to == k.king_from) (k.king_to == k.king_to) (eq-eqb k.king_to k.king_to refl)) in
    told (is_on_way k.king_from k.king_to k.king_to) (is_attacked men k.king_to (other c)) on
    (each_square-at _ safe k.king_to low)
  where
    told : (t u : Bool) → t ≡ true → (not t || not u) ≡ true → u ≡ false
    told true true e h = cc
    told true false e h = refl
    told false u e h = cc

-- in normal chess king and rook start from home
home_starts : (p : Setup) (m : Move) (w : CastlingSide) (r : ℕ) → IsSound p → p.variant ≡ Normal → castling p m ≡ Some w
    → right_of p.rights p.side w ≡ Some r
    → (m.from ≡ home_square p.side king_home_file) × (r ≡ home_square p.side (rook_file w))
home_starts p m w r sound normal says right =
    let king = (castling_says p m w (says_from_castling p m w says)).0 in
    let two = and_parts ((r == home_square p.side (rook_file w))
    && is_man p.side King (man_at p.men (home_square p.side king_home_file))) (is_man p.side Rook (man_at p.men r))
    (stands p w r sound normal right) in (
      at_home p w m.from r sound normal right king (in_board p.men p.side King m.from sound.board king),
      eqb-true r (home_square p.side (rook_file w))
          (and_parts (r == home_square p.side (rook_file w))
          (is_man p.side King (man_at p.men (home_square p.side king_home_file))) two.0).0,
    )

-- so in normal chess the king's end is not attacked after castling to side w
safe_by : (p : Setup) (m : Move) (w : CastlingSide) (r : ℕ) → IsSound p → p.variant ≡ Normal → castling p m ≡ Some w
    → right_of p.rights p.side w ≡ Some r
    → castle_of p m ≡ Some (castle_from p.side w m.from r) → is_pseudo_legal p m ≡ true
    → castling_way_is_safe p.men p.side (castle_from p.side w m.from r) ≡ true
    → is_attacked (men_after p m) (home_square p.side (castled_king_file w)) (other p.side) ≡ false
safe_by p m w r sound normal says right e pattern safe =
    let home = home_starts p m w r sound normal says right in
    let t = home_square p.side (castled_king_file w) in
    let k = castle_from p.side w m.from r in
    still_safe p.men (men_after p m) (other p.side) t (home_square p.side (castled_rook_file w)) r m.from
    (arriving_man (man_at p.men m.from) m.promotion) (Some (record { colour = p.side; kind = Rook }))
    (λ s l. after_castling p m k s e l) refl (mover_own p m pattern) (theirs_of p.side (record { colour = p.side; kind = Rook }) refl) (ends_apart p.side w)
    (home_square-below p.side (castled_rook_file w) (castled_rook_file-below w))
    (λ b i. past_king p.side w b (ap (λ y. is_between b t y) (sym home.0) ∙ i))
    (λ b. ap (λ y. is_between b t y) home.1 ∙ past_rook p.side w b)
    (way_end p.men p.side k safe (home_square-below p.side (castled_king_file w) (castled_king_file-below w)))

-- in normal chess the king's end is not attacked after castling, to whichever side
by_side : (p : Setup) (m : Move) (k : Castle) → IsSound p → p.variant ≡ Normal → castle_of p m ≡ Some k
    → is_pseudo_legal p m ≡ true → castling_way_is_safe p.men p.side k ≡ true
    → (o : Option CastlingSide) → castling p m ≡ o → (is_attacked (men_after p m) k.king_to (other p.side) ≡ false)
    × (k.king_to < 64)
by_side p m k sound normal e pattern safe None none = let gone = no_castle p m none in absurd cc
by_side p m k sound normal e pattern safe (Some w) says =
    let there = castle_there p m w says in
    let same : castle_from p.side w m.from there.0 ≡ k = cc in
    let to : k.king_to ≡ home_square p.side (castled_king_file w) = ap (λ (j : Castle). j.king_to) (sym same) in (
      ap (λ s. is_attacked (men_after p m) s (other p.side)) to
          ∙ safe_by p m w there.0 sound normal says there.1 (e ∙ ap (λ (j : Castle). Some j) (sym same)) pattern
          (ap (λ (j : Castle). castling_way_is_safe p.men p.side j) same ∙ safe),
      rw to (home_square-below p.side (castled_king_file w) (castled_king_file-below w)),
    )

-- so in normal chess a castling whose way is empty and safe is legal
pub castles_safely : (p : Setup) (m : Move) (k : Castle) → IsSound p → p.variant ≡ Normal → castle_of p m ≡ Some k
    → m.to < 64 → m.promotion ≡ None
    → (castling_way_is_empty p.men k && castling_way_is_safe p.men p.side k) ≡ true → true ≡ is_legal p m
unfolding mover_end
castles_safely p m k sound normal e high none free =
    let pattern : is_pseudo_legal p m ≡ true = castle_pattern p m k sound high none e ∙ free in
    let safe = (and_parts (castling_way_is_empty p.men k) (castling_way_is_safe p.men p.side k) free).1 in
    let told = by_side p m k sound normal e pattern safe (castling p m) refl in
    let king = king_goes p m k e (castling p m) refl in
    let mover : is_man p.side King (arriving_man (man_at p.men m.from) m.promotion) ≡ true =
    ap (λ o. is_man p.side King (arriving_man (man_at p.men m.from) o)) none
    ∙ ap (λ o. is_man p.side King o) (lands_same (man_at p.men m.from)) ∙ king in
    let lands : mover_end p m ≡ k.king_to = ap (mover_to m) e in
    let here = king_lands p m k.king_to (sym lands) told.1 mover in
    ap not (sym told.0 ∙ sym (check_after p m k.king_to sound pattern told.1 here)) ∙ legal_is p m pattern
