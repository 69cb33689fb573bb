-- In normal chess, castling is legal exactly if the side on move has the right, the named squares between king and rook
-- are empty, and those from the king's start to its end are not attacked (MayCastle). The definitions speak of any
-- square on the way, so the ways of the four castlings are compared with the named squares by computation over 64
-- squares. The last part: castling uncovers no attack on the king's new square (attack_before).
use Rattle.std.proofs.Common.{◌≡◌, ◌≢◌, ℕ, ◌<◌, ◌⊎◌, inl, inr, Bool, true, false, Option, Some, None, refl, sym, subst, ap, ◌∙◌, arith, ◌==◌, ◌&&◌, ◌||◌, not, is_none, nat_lt, length, if◌then◌else◌}
use Rattle.std.proofs.lemmas.Bool.{and_parts, and_from, and_right, both_ways, cases_eq, eqb-true, eq-eqb, ne_eqb, not-true, not_from_false, or_cases, or_left, or_right, false_from_ne_true}
use Rattle.std.specs.List.{AllByRecursion}
use Rattle.chess_base.specs.{declared.castling.Castle.Castle, declared.man.Colour.Colour, declared.man.Colour.TheVariants.White, declared.man.Colour.TheVariants.Black, declared.man.CastlingSide.CastlingSide, declared.man.CastlingSide.TheVariants.KingSide, declared.man.CastlingSide.TheVariants.QueenSide, declared.man.Kind.Kind, declared.man.Man.Man, declared.man.Move.Move, declared.man.Variant.Variant, declared.man.Variant.TheVariants.Normal, declared.man.Variant.TheVariants.Fischerandom, declared.setup.Setup.Setup, Squares.each_square, Squares.squares, Squares.is_between, Sound.IsSound, Sound.has_one_king, shared.Splits.could_capture_as, shared.Splits.names_castling}
use Rattle.chess_base.specs.declared.man.Kind.TheVariants.{King, Queen, Rook, Bishop, Knight, Pawn}
use Rattle.chess_base.specs.Men.{Men, man_at, is_man, is_of, other, same_colour, same_kind}
use Rattle.chess_base.specs.Attacks.{attacks, could_capture, is_attacked, is_clear, is_in_check}
use Rattle.chess_base.specs.Castling.{home_square, king_home_file, rook_file, castled_king_file, right_of, is_on_way, names_castling_with, are_placed_for_castling, castling, is_castling_to, castle_from, castle_of, castling_needs_empty, castling_way_is_empty, castling_way_is_safe, castles}
use Rattle.chess_base.specs.Moves.{is_legal, is_pseudo_legal, moves_as, after, arriving_man, man_moves}
use Rattle.chess_base.proofs.{shared.Kings.one_king, shared.Kings.one_king_of, shared.Parts.castling_way_is_empty_by, shared.Geometry.is_between-end}
use Rattle.chess_base.proofs.shared.Men.{same_kind-true, is_none-None, no_other, is_of-none, is_man-none, is_man-rook_as_king}
use Rattle.chess_base.proofs.shared.MoveKinds.{MoveKind, ManMoves, Castles, PawnMoves, moves_from_pattern}
use Rattle.chess_base.proofs.shared.Squares.{each_square-all, each_square-at, some_square-at, some_square-none}
use Rattle.rules_laws.specs.Castled.{castling_of, castling_move, empty_squares, safe_squares, MayCastle, NormalCastlingIsLegal}
use Rattle.rules_laws.proofs.Castled.{named, too_far, one_side, no_king_of_pawn, normal_named, normal_placed, is_castle}
use Rattle.rules_laws.proofs.Pieces.{attacks_as, king_is_near, after_castle, attacks_of}

-- ---- the squares on the way, as tests of all squares and as lists of names (square 4 is e1, 60 is e8)

-- from the test of the whole way: each named square is empty
empty_by : (men : Men) (c : Colour) (w : CastlingSide) → castling_way_is_empty men (castling_of c w) ≡ true
    → AllByRecursion (λ s. man_at men s ≡ None) (empty_squares c w)
unfolding castling_way_is_empty castling_needs_empty is_between
empty_by men White KingSide e =
    (is_none-None _ (each_square-at _ e 5 (omega arith)), (is_none-None _ (each_square-at _ e 6 (omega arith)), tt))
empty_by men White QueenSide e =
    (is_none-None _ (each_square-at _ e 1 (omega arith)), (is_none-None _ (each_square-at _ e 2 (omega arith)), (is_none-None _ (each_square-at _ e 3 (omega arith)), tt)))
empty_by men Black KingSide e =
    (is_none-None _ (each_square-at _ e 61 (omega arith)), (is_none-None _ (each_square-at _ e 62 (omega arith)), tt))
empty_by men Black QueenSide e =
    (is_none-None _ (each_square-at _ e 57 (omega arith)), (is_none-None _ (each_square-at _ e 58 (omega arith)), (is_none-None _ (each_square-at _ e 59 (omega arith)), tt)))

-- from the test of the king's way: each named square is not attacked
safe_by : (men : Men) (c : Colour) (w : CastlingSide) → castling_way_is_safe men c (castling_of c w) ≡ true
    → AllByRecursion (λ s. is_attacked men s (other c) ≡ false) (safe_squares c w)
unfolding castling_way_is_safe is_between
safe_by men White KingSide e =
    (not-true _ (each_square-at _ e 4 (omega arith)), (not-true _ (each_square-at _ e 5 (omega arith)), (not-true _ (each_square-at _ e 6 (omega arith)), tt)))
safe_by men White QueenSide e =
    (not-true _ (each_square-at _ e 2 (omega arith)), (not-true _ (each_square-at _ e 3 (omega arith)), (not-true _ (each_square-at _ e 4 (omega arith)), tt)))
safe_by men Black KingSide e =
    (not-true _ (each_square-at _ e 60 (omega arith)), (not-true _ (each_square-at _ e 61 (omega arith)), (not-true _ (each_square-at _ e 62 (omega arith)), tt)))
safe_by men Black QueenSide e =
    (not-true _ (each_square-at _ e 58 (omega arith)), (not-true _ (each_square-at _ e 59 (omega arith)), (not-true _ (each_square-at _ e 60 (omega arith)), tt)))

-- square x is on the way of the king or of the rook
abbrev on_either : Castle → ℕ → Bool
on_either k x = is_on_way k.king_from k.king_to x || is_on_way k.rook_from k.rook_to x

-- if a square that is on the way, and is not where king or rook starts, is a or b, and these are empty, then it is
-- empty
two_left : (men : Men) (x a b : ℕ) (off king rook : Bool) → (off || king || rook || (x == a) || (x == b)) ≡ true
    → man_at men a ≡ None → man_at men b ≡ None → (off || king || rook || is_none (man_at men x)) ≡ true
two_left men x a b off king rook e f g =
    elim (or_cases (off || king || rook || (x == a)) (x == b) e) [
      | inr at ↦ or_right (off || king || rook) _ (ap (λ (s : ℕ). is_none (man_at men s)) (eqb-true _ _ at) ∙ ap (λ (o : Option Man). is_none o) g)
      | inl rest ↦ elim (or_cases (off || king || rook) (x == a) rest) [
        | inr at ↦ or_right (off || king || rook) _ (ap (λ (s : ℕ). is_none (man_at men s)) (eqb-true _ _ at) ∙ ap (λ (o : Option Man). is_none o) f)
        | inl found ↦ or_left _ _ found
      ]
    ]

-- the same with three squares: a, b or c
three_left : (men : Men) (x a b c : ℕ) (off king rook : Bool)
    → (off || king || rook || (x == a) || (x == b) || (x == c)) ≡ true → man_at men a ≡ None → man_at men b ≡ None
    → man_at men c ≡ None → (off || king || rook || is_none (man_at men x)) ≡ true
three_left men x a b c off king rook e f g h =
    elim (or_cases (off || king || rook || (x == a) || (x == b)) (x == c) e) [
      | inr at ↦ or_right (off || king || rook) _ (ap (λ (s : ℕ). is_none (man_at men s)) (eqb-true _ _ at) ∙ ap (λ (o : Option Man). is_none o) h)
      | inl rest ↦ two_left men x a b off king rook rest f g
    ]

-- square x is not on the way of this castling, or is where king or rook starts, or is one of the named squares;
-- likewise for the other three castlings
abbrev empty_white_king : ℕ → Bool
empty_white_king x = not (on_either (castling_of White KingSide) x) || (x == 4) || (x == 7) || (x == 5) || (x == 6)

abbrev empty_white_queen : ℕ → Bool
empty_white_queen x =
    not (on_either (castling_of White QueenSide) x) || (x == 4) || (x == 0) || (x == 1) || (x == 2) || (x == 3)

abbrev empty_black_king : ℕ → Bool
empty_black_king x = not (on_either (castling_of Black KingSide) x) || (x == 60) || (x == 63) || (x == 61) || (x == 62)

abbrev empty_black_queen : ℕ → Bool
empty_black_queen x =
    not (on_either (castling_of Black QueenSide) x) || (x == 60) || (x == 56) || (x == 57) || (x == 58) || (x == 59)

-- each square passes this test; likewise for the other three castlings
white_king_way : each_square empty_white_king ≡ true
unfolding each_square squares is_between
white_king_way = refl

white_queen_way : each_square empty_white_queen ≡ true
unfolding each_square squares is_between
white_queen_way = refl

black_king_way : each_square empty_black_king ≡ true
unfolding each_square squares is_between
black_king_way = refl

black_queen_way : each_square empty_black_queen ≡ true
unfolding each_square squares is_between
black_queen_way = refl

-- from named squares that are empty: the whole way is (the converse of empty_by)
empty_from : (men : Men) (c : Colour) (w : CastlingSide) → AllByRecursion (λ s. man_at men s ≡ None) (empty_squares c w)
    → castling_way_is_empty men (castling_of c w) ≡ true
empty_from men White KingSide h = castling_way_is_empty_by men (castling_of White KingSide) ∙ each_square-all _ (λ x l.
    two_left men x 5 6 (not (on_either (castling_of White KingSide) x)) (x == 4) (x == 7)
    (each_square-at empty_white_king white_king_way x l) h.0 h.1.0)
empty_from men White QueenSide h =
    castling_way_is_empty_by men (castling_of White QueenSide) ∙ each_square-all _ (λ x l.
    three_left men x 1 2 3 (not (on_either (castling_of White QueenSide) x)) (x == 4) (x == 0)
    (each_square-at empty_white_queen white_queen_way x l) h.0 h.1.0 h.1.1.0)
empty_from men Black KingSide h = castling_way_is_empty_by men (castling_of Black KingSide) ∙ each_square-all _ (λ x l.
    two_left men x 61 62 (not (on_either (castling_of Black KingSide) x)) (x == 60) (x == 63)
    (each_square-at empty_black_king black_king_way x l) h.0 h.1.0)
empty_from men Black QueenSide h =
    castling_way_is_empty_by men (castling_of Black QueenSide) ∙ each_square-all _ (λ x l.
    three_left men x 57 58 59 (not (on_either (castling_of Black QueenSide) x)) (x == 60) (x == 56)
    (each_square-at empty_black_queen black_queen_way x l) h.0 h.1.0 h.1.1.0)

-- square x is not on the king's way from `from` to `to`, or is a, b or c

abbrev on_three : ℕ → ℕ → ℕ → ℕ → ℕ → ℕ → Bool
on_three from to a b c x = not (is_on_way from to x) || (x == a) || (x == b) || (x == c)

-- the king's way from e1 to g1 has only the squares e1, f1 and g1; likewise for the other three castlings
white_king_steps : each_square (on_three 4 6 4 5 6) ≡ true
unfolding each_square squares is_between
white_king_steps = refl

white_queen_steps : each_square (on_three 4 2 2 3 4) ≡ true
unfolding each_square squares is_between
white_queen_steps = refl

black_king_steps : each_square (on_three 60 62 60 61 62) ≡ true
unfolding each_square squares is_between
black_king_steps = refl

black_queen_steps : each_square (on_three 60 58 58 59 60) ≡ true
unfolding each_square squares is_between
black_queen_steps = refl

-- if a square on the way is a, b or d, and these are not attacked, it is not
three_safe : (men : Men) (c : Colour) (x a b d : ℕ) (off : Bool) → (off || (x == a) || (x == b) || (x == d)) ≡ true
    → is_attacked men a c ≡ false → is_attacked men b c ≡ false → is_attacked men d c ≡ false
    → (off || not (is_attacked men x c)) ≡ true
three_safe men c x a b d off e f g h =
    elim (or_cases (off || (x == a) || (x == b)) (x == d) e) [
      | inr at ↦ here d (eqb-true _ _ at) h
      | inl rest ↦ elim (or_cases (off || (x == a)) (x == b) rest) [
        | inr at ↦ here b (eqb-true _ _ at) g
        | inl more ↦ elim (or_cases off (x == a) more) [
          | inr at ↦ here a (eqb-true _ _ at) f
          | inl found ↦ or_left _ _ found
        ]
      ]
    ]
  where
    here : (s : ℕ) → x ≡ s → is_attacked men s c ≡ false → (off || not (is_attacked men x c)) ≡ true
    here s at calm = or_right off _ (not_from_false _ (ap (λ (t : ℕ). is_attacked men t c) at ∙ calm))

-- from named squares that are not attacked: the king's whole way is not (the converse of safe_by)
safe_from : (men : Men) (c : Colour) (w : CastlingSide)
    → AllByRecursion (λ s. is_attacked men s (other c) ≡ false) (safe_squares c w)
    → castling_way_is_safe men c (castling_of c w) ≡ true
unfolding castling_way_is_safe
safe_from men White KingSide h = each_square-all _ (λ x l.
    three_safe men Black x 4 5 6 (not (is_on_way 4 6 x)) (each_square-at (on_three 4 6 4 5 6) white_king_steps x l) h.0 h.1.0 h.1.1.0)
safe_from men White QueenSide h = each_square-all _ (λ x l.
    three_safe men Black x 2 3 4 (not (is_on_way 4 2 x)) (each_square-at (on_three 4 2 2 3 4) white_queen_steps x l) h.0 h.1.0 h.1.1.0)
safe_from men Black KingSide h = each_square-all _ (λ x l.
    three_safe men White x 60 61 62 (not (is_on_way 60 62 x)) (each_square-at (on_three 60 62 60 61 62) black_king_steps x l) h.0 h.1.0 h.1.1.0)
safe_from men Black QueenSide h = each_square-all _ (λ x l.
    three_safe men White x 58 59 60 (not (is_on_way 60 58 x)) (each_square-at (on_three 60 58 58 59 60) black_queen_steps x l) h.0 h.1.0 h.1.1.0)

-- ---- legal castling has a free way

right_is_there : (o : Option ℕ) (r : ℕ) → o ≡ Some r → o ≢ None
right_is_there o r e f = let n : Some r ≡ None = sym e ∙ f in cc

-- of what legal castling needs: its way is empty, and the king's way is safe
parts_of : (p : Setup) (m : Move) (k : Castle) → castles p m k ≡ true
    → (castling_way_is_empty p.men k ≡ true) × (castling_way_is_safe p.men p.side k ≡ true)
unfolding castles
parts_of p m k e =
    let both = and_parts (is_none m.promotion && castling_way_is_empty p.men k) (castling_way_is_safe p.men p.side k) e in
    ((and_parts (is_none m.promotion) (castling_way_is_empty p.men k) both.0).1, both.1)

moves_to : (c : Colour) (w : CastlingSide)
    → ((castling_move c w).from == home_square c king_home_file) ≡ true
moves_to White KingSide = refl
moves_to White QueenSide = refl
moves_to Black KingSide = refl
moves_to Black QueenSide = refl

-- a king's move from e1 to g1 or c1 (e8 to g8 or c8) that fits the pattern of some kind of move is castling, since a
-- king goes only one square otherwise; so the side may castle
by_kind : (p : Setup) (w : CastlingSide) → IsSound p → p.variant ≡ Normal
    → is_man p.side King (man_at p.men (castling_of p.side w).king_from) ≡ true
    → MoveKind p (castling_move p.side w) → MayCastle p w
unfolding man_moves
by_kind p w sound v king (PawnMoves pawn fits k) = absurd (no_king_of_pawn p (castling_move p.side w) king pawn)
by_kind p w sound v king (ManMoves n at e) =
    let m = castling_move p.side w in
    let hits = attacks_of p m e in
    let near = king_is_near p.men p.side m.from m.to (sym (attacks_as p.men m.from m.to p.side King king) ∙ hits) in
    absurd (too_far p.side w m.from m.to (ap (λ (k : Castle). k.king_from) (named p.side w))
    (ap (λ (k : Castle). k.king_to) (named p.side w)) near.1)
by_kind p w sound v king (Castles u r at right e) =
    let m = castling_move p.side w in
    let is = is_castle p m u r sound at right in
    let to = ap (λ (k : Castle). k.king_to) (named p.side w) in
    let named' = normal_named m p.side u r (subst (λ (x : Variant). names_castling_with x p.side m u r ≡ true) v is.names) in
    let side : u ≡ w = one_side p.side w u (sym to ∙ named') in
    let rook : r ≡ home_square p.side (rook_file u) = normal_placed p.men p.side u r (subst (λ (x : Variant). are_placed_for_castling x p.men p.side u r ≡ true) v is.placed) in
    done u r side rook e right
  where
    done : (u : CastlingSide) (r : ℕ) → u ≡ w → r ≡ home_square p.side (rook_file u)
        → castles p (castling_move p.side w) (castle_from p.side u (castling_move p.side w).from r) ≡ true
        → right_of p.rights p.side u ≡ Some r → MayCastle p w
    done u r side rook e right =
        let same : castle_from p.side u (castling_move p.side w).from r ≡ castling_of p.side w =
        ap (λ (x : CastlingSide). castle_from p.side x (castling_move p.side w).from r) side
        ∙ ap (λ (x : ℕ). castle_from p.side w (castling_move p.side w).from x)
        (rook ∙ ap (λ (x : CastlingSide). home_square p.side (rook_file x)) side)
        ∙ ap (λ (x : ℕ). castle_from p.side w x (home_square p.side (rook_file w))) (eqb-true _ _ (moves_to p.side w))
        ∙ sym (named p.side w) in
        let parts = parts_of p (castling_move p.side w) (castling_of p.side w)
        (subst (λ (k : Castle). castles p (castling_move p.side w) k ≡ true) same e) in
        record {
          right = subst (λ (x : CastlingSide). right_of p.rights p.side x ≢ None) side
              (right_is_there (right_of p.rights p.side u) r right);
          empty = empty_by p.men p.side w parts.0;
          safe = safe_by p.men p.side w parts.1;
        }

-- ---- where the way is free, castling is legal

-- what is known where castling is to be proved legal
record IsFree (p : Setup) (w : CastlingSide) : Type 0 where
  pub sound : IsSound p
  pub normal : p.variant ≡ Normal
  pub king : is_man p.side King (man_at p.men (castling_of p.side w).king_from) ≡ true
  pub may : MayCastle p w

some_right : (o : Option ℕ) → o ≢ None → (r : ℕ) × (o ≡ Some r)
some_right None h = absurd (h refl)
some_right (Some r) h = (r, refl)

moves_on : (c : Colour) (w : CastlingSide)
    → ((castling_move c w).to == home_square c (castled_king_file w)) ≡ true
moves_on White KingSide = refl
moves_on White QueenSide = refl
moves_on Black KingSide = refl
moves_on Black QueenSide = refl

off_king_side : (c : Colour) → ((castling_move c QueenSide).to == home_square c (castled_king_file KingSide)) ≡ false
off_king_side White = refl
off_king_side Black = refl

names_normal : (v : Variant) (c : Colour) (w : CastlingSide) (r : ℕ) → v ≡ Normal
    → names_castling_with v c (castling_move c w) w r ≡ true
names_normal Normal c w r e = and_from _ _ (moves_to c w) (moves_on c w)
names_normal Fischerandom c w r e = cc

-- the king's move to the c-file doesn't name castling on the king side
names_no_king_side : (v : Variant) (c : Colour) (o : Option ℕ) → v ≡ Normal
    → names_castling v c (castling_move c QueenSide) KingSide o ≡ false
names_no_king_side Normal c None e = refl
names_no_king_side Normal c (Some r) e = and_right _ _ (off_king_side c)
names_no_king_side Fischerandom c o e = cc

-- the king's move names castling on side w, by a right that is there
says : (p : Setup) (w : CastlingSide) → IsFree p w → is_castling_to p (castling_move p.side w) w ≡ true
unfolding is_castling_to
says p w h =
    let right = some_right (right_of p.rights p.side w) h.may.right in
    and_from _ _ h.king
    (subst (λ (o : Option ℕ). names_castling p.variant p.side (castling_move p.side w) w o ≡ true) (sym right.1)
    (names_normal p.variant p.side w right.0 h.normal))

says_not : (p : Setup) → p.variant ≡ Normal → is_castling_to p (castling_move p.side QueenSide) KingSide ≡ false
unfolding is_castling_to
says_not p v = and_right _ _ (names_no_king_side p.variant p.side (right_of p.rights p.side KingSide) v)

-- the move castles on side w, and on no other
castles_to : (p : Setup) (w : CastlingSide) → IsFree p w → castling p (castling_move p.side w) ≡ Some w
unfolding castling
castles_to p KingSide h = rw (says p KingSide h) refl
castles_to p QueenSide h = rw (says_not p h.normal, says p QueenSide h) refl

castle_is : (p : Setup) (w : CastlingSide) → IsFree p w
    → castle_of p (castling_move p.side w) ≡ Some (castling_of p.side w)
castle_is p w h =
    let m = castling_move p.side w in
    let right = some_right (right_of p.rights p.side w) h.may.right in
    let is = is_castle p m w right.0 h.sound (castles_to p w h) right.1 in
    let rook : right.0 ≡ home_square p.side (rook_file w) = rook_of p.variant h.normal is.placed in
    let same : castle_from p.side w m.from right.0 ≡ castling_of p.side w =
    ap (λ (r : ℕ). castle_from p.side w m.from r) rook
    ∙ ap (λ (s : ℕ). castle_from p.side w s (home_square p.side (rook_file w))) (eqb-true _ _ (moves_to p.side w))
    ∙ sym (named p.side w) in
    is.castle ∙ ap (λ (k : Castle). Some k) same
  where
    rook_of : (v : Variant) → v ≡ Normal → {r : ℕ} → are_placed_for_castling v p.men p.side w r ≡ true
        → r ≡ home_square p.side (rook_file w)
    rook_of Normal e {r} placed = normal_placed p.men p.side w r placed
    rook_of Fischerandom e {r} placed = cc

-- the move passes all tests of castling
castles_here : (p : Setup) (w : CastlingSide) → IsFree p w
    → castles p (castling_move p.side w) (castling_of p.side w) ≡ true
unfolding castles
castles_here p w h =
    and_from _ _ (empty_from p.men p.side w h.may.empty) (safe_from p.men p.side w h.may.safe)

as_castling : (p : Setup) (m : Move) (k : Castle) (o : Option Man) → is_man p.side King o ≡ true
    → castle_of p m ≡ Some k → castles p m k ≡ true → moves_as p m o ≡ true
unfolding is_man
as_castling p m k None e c h = cc
as_castling p m k (Some x) e c h =
    let both = and_parts (same_colour p.side x.colour) (same_kind King x.kind) e in
    let kind : King ≡ x.kind = same_kind-true King x.kind both.1 in
    rw (both.0, ← kind, c) h

squares_in : (c : Colour) (w : CastlingSide)
    → (nat_lt (castling_move c w).from 64 && nat_lt (castling_move c w).to 64) ≡ true
squares_in White KingSide = refl
squares_in White QueenSide = refl
squares_in Black KingSide = refl
squares_in Black QueenSide = refl

-- the castling move is pseudo-legal
is_pattern : (p : Setup) (w : CastlingSide) → IsFree p w → is_pseudo_legal p (castling_move p.side w) ≡ true
unfolding is_pseudo_legal
is_pattern p w h =
    and_from _ _ (squares_in p.side w)
    (as_castling p (castling_move p.side w) (castling_of p.side w) (man_at p.men (castling_of p.side w).king_from) h.king
    (castle_is p w h) (castles_here p w h))

-- ---- the king's old square uncovers no attack: the rook is now between

-- a line from square a to the king's end `to` that crosses the king's old square `king` also crosses the rook's end
-- `rook`
abbrev hides : ℕ → ℕ → ℕ → ℕ → Bool
hides to king rook a = not (is_between a to king) || is_between a to rook

-- this holds of each square a, for White's king side; likewise for the other three castlings
white_king_hides : each_square (hides 6 4 5) ≡ true
unfolding each_square squares is_between
white_king_hides = refl

white_queen_hides : each_square (hides 2 4 3) ≡ true
unfolding each_square squares is_between
white_queen_hides = refl

black_king_hides : each_square (hides 62 60 61) ≡ true
unfolding each_square squares is_between
black_king_hides = refl

black_queen_hides : each_square (hides 58 60 59) ≡ true
unfolding each_square squares is_between
black_queen_hides = refl

-- a line from square a to the king's end `to` doesn't cross the rook's old square `rook`
abbrev apart : ℕ → ℕ → ℕ → Bool
apart to rook a = not (is_between a to rook)

-- this holds of each square a, for White's king side, since no line goes on past a corner; likewise for the other three
-- castlings
white_king_corner : each_square (apart 6 7) ≡ true
unfolding each_square squares is_between
white_king_corner = refl

white_queen_corner : each_square (apart 2 0) ≡ true
unfolding each_square squares is_between
white_queen_corner = refl

black_king_corner : each_square (apart 62 63) ≡ true
unfolding each_square squares is_between
black_king_corner = refl

black_queen_corner : each_square (apart 58 56) ≡ true
unfolding each_square squares is_between
black_queen_corner = refl

from_hidden : (to king rook a : ℕ) → hides to king rook a ≡ true → is_between a to king ≡ true
    → is_between a to rook ≡ true
from_hidden to king rook a e b =
    elim (or_cases (not (is_between a to king)) (is_between a to rook) e) [
      | inl off ↦ absurd (both_ways _ (not-true _ off) b)
      | inr on ↦ on
    ]

-- the rook hides the king from what looks along the rank across the king's old square
rook_hides : (c : Colour) (w : CastlingSide) (a : ℕ) → a < 64
    → is_between a (castling_of c w).king_to (castling_of c w).king_from ≡ true
    → is_between a (castling_of c w).king_to (castling_of c w).rook_to ≡ true
rook_hides White KingSide a l b = from_hidden 6 4 5 a (each_square-at (hides 6 4 5) white_king_hides a l) b
rook_hides White QueenSide a l b = from_hidden 2 4 3 a (each_square-at (hides 2 4 3) white_queen_hides a l) b
rook_hides Black KingSide a l b = from_hidden 62 60 61 a (each_square-at (hides 62 60 61) black_king_hides a l) b
rook_hides Black QueenSide a l b = from_hidden 58 60 59 a (each_square-at (hides 58 60 59) black_queen_hides a l) b

-- no line to the king's end crosses the rook's corner
corner_is_apart : (c : Colour) (w : CastlingSide) (a : ℕ) → a < 64
    → is_between a (castling_of c w).king_to (castling_of c w).rook_from ≡ false
corner_is_apart White KingSide a l = not-true _ (each_square-at (apart 6 7) white_king_corner a l)
corner_is_apart White QueenSide a l = not-true _ (each_square-at (apart 2 0) white_queen_corner a l)
corner_is_apart Black KingSide a l = not-true _ (each_square-at (apart 62 63) black_king_corner a l)
corner_is_apart Black QueenSide a l = not-true _ (each_square-at (apart 58 56) black_queen_corner a l)

-- ---- what castling leaves, square by square

-- the squares of a castling are on the board, and no end is another end or a start
record AreApart (k : Castle) : Type 0 where
  pub ends : (k.rook_to == k.king_to) ≡ false
  pub king : (k.king_from == k.king_to) ≡ false
  pub king_rook : (k.king_from == k.rook_to) ≡ false
  pub rook_king : (k.rook_from == k.king_to) ≡ false
  pub rook : (k.rook_from == k.rook_to) ≡ false
  pub king_to_in : k.king_to < 64
  pub rook_to_in : k.rook_to < 64
  pub king_from_in : k.king_from < 64
  pub rook_from_in : k.rook_from < 64

are_apart : (c : Colour) (w : CastlingSide) → AreApart (castling_of c w)
are_apart White KingSide = record {
  ends = refl;
  king = refl;
  king_rook = refl;
  rook_king = refl;
  rook = refl;
  king_to_in = omega arith;
  rook_to_in = omega arith;
  king_from_in = omega arith;
  rook_from_in = omega arith;
}
are_apart White QueenSide = record {
  ends = refl;
  king = refl;
  king_rook = refl;
  rook_king = refl;
  rook = refl;
  king_to_in = omega arith;
  rook_to_in = omega arith;
  king_from_in = omega arith;
  rook_from_in = omega arith;
}
are_apart Black KingSide = record {
  ends = refl;
  king = refl;
  king_rook = refl;
  rook_king = refl;
  rook = refl;
  king_to_in = omega arith;
  rook_to_in = omega arith;
  king_from_in = omega arith;
  rook_from_in = omega arith;
}
are_apart Black QueenSide = record {
  ends = refl;
  king = refl;
  king_rook = refl;
  rook_king = refl;
  rook = refl;
  king_to_in = omega arith;
  rook_to_in = omega arith;
  king_from_in = omega arith;
  rook_from_in = omega arith;
}

-- what is on each square of the board `new` after colour c has castled by k on the board `men`
record Castled (men new : Men) (c : Colour) (k : Castle) : Type 0 where
  pub king : is_man c King (man_at men k.king_from) ≡ true
  pub on_king : man_at new k.king_to ≡ man_at men k.king_from
  pub on_rook : man_at new k.rook_to ≡ Some (record { colour = c; kind = Rook })
  pub off_king : man_at new k.king_from ≡ None
  pub off_rook : man_at new k.rook_from ≡ None
  pub others : (s : ℕ) → s < 64 → s ≢ k.king_to → s ≢ k.rook_to → s ≢ k.king_from → s ≢ k.rook_from
      → man_at new s ≡ man_at men s

arrives_same : (o : Option Man) → arriving_man o None ≡ o
arrives_same None = refl
arrives_same (Some x) = refl

-- the board after a move that castles is such a board
castled_by : (p : Setup) (m : Move) (k : Castle) → AreApart k → castle_of p m ≡ Some k → m.from ≡ k.king_from
    → m.promotion ≡ None → is_man p.side King (man_at p.men k.king_from) ≡ true
    → Castled p.men (after p m).men p.side k
castled_by p m k a e from none king = record {
  king = king;
  on_king = after_castle p m k k.king_to e a.king_to_in
      ∙ rw (eq-eqb k.king_to k.king_to refl, none, from) (arrives_same (man_at p.men k.king_from));
  on_rook = after_castle p m k k.rook_to e a.rook_to_in ∙ rw (a.ends, eq-eqb k.rook_to k.rook_to refl) refl;
  off_king = after_castle p m k k.king_from e a.king_from_in
      ∙ rw (a.king, a.king_rook, eq-eqb k.king_from k.king_from refl) refl;
  off_rook = after_castle p m k k.rook_from e a.rook_from_in
      ∙ rw (a.rook_king, a.rook, eq-eqb k.rook_from k.rook_from refl) (either (k.rook_from == k.king_from) (man_at p.men k.rook_from));
  others = λ s l x y z u. after_castle p m k s e l ∙ rw (ne_eqb _ _ x, ne_eqb _ _ y, ne_eqb _ _ z, ne_eqb _ _ u) refl;
}
  where
    either : (b : Bool) (o : Option Man) → (if b || true then None else o) ≡ None
    either true o = refl
    either false o = refl

-- a rook of colour c is no piece of the other colour
rook_is : (c : Colour) → is_of (other c) (Some (record { colour = c; kind = Rook })) ≡ false
unfolding is_of
rook_is White = refl
rook_is Black = refl

-- a square whose content passes the test q afterwards is the king's end, or had the same content before; q must refuse
-- an empty square and c's rook
another : (men new : Men) (c : Colour) (k : Castle) (q : Option Man → Bool) (s : ℕ) → Castled men new c k → s < 64
    → q (man_at new s) ≡ true → q None ≡ false → q (Some (record { colour = c; kind = Rook })) ≡ false
    → (s ≡ k.king_to) ⊎ ((s ≢ k.king_to) × (s ≢ k.king_from) × (man_at new s ≡ man_at men s))
another men new c k q s h l e none rook =
    elim (cases_eq s k.king_to) [
      | inl at ↦ inl at
      | inr x ↦ elim (cases_eq s k.rook_to) [
        | inl at ↦ absurd (both_ways _ (ap q (ap (man_at new) at ∙ h.on_rook) ∙ rook) e)
        | inr y ↦ elim (cases_eq s k.king_from) [
          | inl at ↦ absurd (both_ways _ (ap q (ap (man_at new) at ∙ h.off_king) ∙ none) e)
          | inr z ↦ elim (cases_eq s k.rook_from) [
            | inl at ↦ absurd (both_ways _ (ap q (ap (man_at new) at ∙ h.off_rook) ∙ none) e)
            | inr u ↦ inr (x, z, h.others s l x y z u)
          ]
        ]
      ]
    ]

-- a line to the king's new square that is clear after castling was clear before
clear_before : (men new : Men) (c : Colour) (w : CastlingSide) (a : ℕ) → Castled men new c (castling_of c w) → a < 64
    → is_clear new a (castling_of c w).king_to ≡ true → is_clear men a (castling_of c w).king_to ≡ true
unfolding is_clear
clear_before men new c w a h l e = each_square-all _ (λ x m. by x m (is_between a (castling_of c w).king_to x) refl)
  where
    empty_new : (x : ℕ) → x < 64 → is_between a (castling_of c w).king_to x ≡ true → is_none (man_at new x) ≡ true
    empty_new x m b =
        elim (or_cases (not (is_between a (castling_of c w).king_to x)) (is_none (man_at new x)) (each_square-at _ e x m)) [
          | inl off ↦ absurd (both_ways _ (not-true _ off) b)
          | inr on ↦ on
        ]

    no_rook : is_between a (castling_of c w).king_to (castling_of c w).rook_to ≡ true → ⊥
    no_rook b =
        let none = empty_new (castling_of c w).rook_to (are_apart c w).rook_to_in b in
        let some : is_none (man_at new (castling_of c w).rook_to) ≡ false = ap (λ (o : Option Man). is_none o) h.on_rook in
        both_ways _ some none

    by : (x : ℕ) → x < 64 → (b : Bool) → is_between a (castling_of c w).king_to x ≡ b → (not (is_between a (castling_of c w).king_to x) || is_none (man_at men x)) ≡ true
    by x m false b = or_left _ _ (not_from_false _ b)
    by x m true b =
        elim (cases_eq x (castling_of c w).king_to) [
          | inl at ↦ absurd (both_ways _ (is_between-end a (castling_of c w).king_to) (subst (λ (s : ℕ). is_between a (castling_of c w).king_to s ≡ true) at b))
          | inr y ↦ elim (cases_eq x (castling_of c w).rook_to) [
            | inl at ↦ absurd (no_rook (subst (λ (s : ℕ). is_between a (castling_of c w).king_to s ≡ true) at b))
            | inr z ↦ elim (cases_eq x (castling_of c w).king_from) [
              | inl at ↦ absurd (no_rook (rook_hides c w a l (subst (λ (s : ℕ). is_between a (castling_of c w).king_to s ≡ true) at b)))
              | inr u ↦ elim (cases_eq x (castling_of c w).rook_from) [
                | inl at ↦ absurd (both_ways _ (corner_is_apart c w a l) (subst (λ (s : ℕ). is_between a (castling_of c w).king_to s ≡ true) at b))
                | inr v ↦ or_right (not (is_between a (castling_of c w).king_to x)) _
                    (ap (λ (o : Option Man). is_none o) (sym (h.others x m y z u v)) ∙ empty_new x m b)
              ]
            ]
          ]
        ]

kept_if : (a b c : Bool) → (b ≡ true → c ≡ true) → (a && b) ≡ true → (a && c) ≡ true
kept_if a b c h e = let both = and_parts a b e in and_from a c both.0 (h both.1)

-- what kind k of piece could capture on the king's end from square a afterwards, it could before
attack_before : (men new : Men) (c d : Colour) (w : CastlingSide) (k : Kind) (a : ℕ) → Castled men new c (castling_of c w)
    → a < 64 → could_capture new d k a (castling_of c w).king_to ≡ true
    → could_capture men d k a (castling_of c w).king_to ≡ true
unfolding could_capture
attack_before men new c d w King a h l e = e
attack_before men new c d w Queen a h l e = kept_if _ _ _ (clear_before men new c w a h l) e
attack_before men new c d w Rook a h l e = kept_if _ _ _ (clear_before men new c w a h l) e
attack_before men new c d w Bishop a h l e = kept_if _ _ _ (clear_before men new c w a h l) e
attack_before men new c d w Knight a h l e = e
attack_before men new c d w Pawn a h l e = e

-- what attacks the king's end afterwards, from a square with the same piece, attacked it before
attacked_before : (men new : Men) (c : Colour) (w : CastlingSide) (a : ℕ) → Castled men new c (castling_of c w) → a < 64
    → man_at new a ≡ man_at men a → attacks new a (castling_of c w).king_to ≡ true
    → attacks men a (castling_of c w).king_to ≡ true
unfolding attacks
attacked_before men new c w a h l same e =
    by (man_at men a) (subst (λ (o : Option Man). could_capture_as new o a (castling_of c w).king_to ≡ true) same e)
  where
    by : (o : Option Man) → could_capture_as new o a (castling_of c w).king_to ≡ true
        → could_capture_as men o a (castling_of c w).king_to ≡ true
    by None e = e
    by (Some x) e = attack_before men new c x.colour w x.kind a h l e

-- ---- the king is not in check after castling

-- the king's end is one of the named squares that are not attacked
ends_safe : (men : Men) (c : Colour) (w : CastlingSide)
    → AllByRecursion (λ s. is_attacked men s (other c) ≡ false) (safe_squares c w)
    → is_attacked men (castling_of c w).king_to (other c) ≡ false
ends_safe men White KingSide h = h.1.1.0
ends_safe men White QueenSide h = h.0
ends_safe men Black KingSide h = h.1.1.0
ends_safe men Black QueenSide h = h.0

-- so after castling no piece attacks the king's end: it would have attacked it before
unattacked : (men new : Men) (c : Colour) (w : CastlingSide) → Castled men new c (castling_of c w)
    → is_attacked men (castling_of c w).king_to (other c) ≡ false
    → is_attacked new (castling_of c w).king_to (other c) ≡ false
unfolding is_attacked
unattacked men new c w h calm =
    some_square-none _ (λ a l. false_from_ne_true _ (λ e.
    let both = and_parts _ _ e in
    elim (another men new c (castling_of c w) (is_of (other c)) a h l both.0 (is_of-none (other c) None refl) (rook_is c)) [
      | inl at ↦ both_ways _ (ap (is_of (other c)) (ap (man_at new) at ∙ h.on_king)
          ∙ no_other c King (man_at men (castling_of c w).king_from) h.king) both.0
      | inr away ↦ both_ways _ calm (some_square-at _ a l (and_from _ _
          (ap (is_of (other c)) (sym away.2) ∙ both.0) (attacked_before men new c w a h l away.2 both.1)))
    ]))

-- the one king is on its end, which is not attacked, so it is not in check
out_of_check : (men new : Men) (c : Colour) (w : CastlingSide) → Castled men new c (castling_of c w) → length men ≡ 64
    → has_one_king men c ≡ true → is_attacked men (castling_of c w).king_to (other c) ≡ false
    → is_in_check new c ≡ false
unfolding is_in_check
out_of_check men new c w h whole one calm =
    some_square-none _ (λ s l. false_from_ne_true _ (λ e.
    let both = and_parts _ _ e in
    elim (another men new c (castling_of c w) (λ (o : Option Man). is_man c King o) s h l both.0 (is_man-none c King None refl) (is_man-rook_as_king c)) [
      | inl at ↦ both_ways _ (unattacked men new c w h calm)
          (subst (λ (x : ℕ). is_attacked new x (other c) ≡ true) at both.1)
      | inr away ↦ away.1 (one_king men c s (castling_of c w).king_from whole one
          (ap (is_man c King) (sym away.2) ∙ both.0) h.king)
    ]))

legal_by : (p : Setup) (w : CastlingSide) → IsFree p w → is_legal p (castling_move p.side w) ≡ true
unfolding is_legal
legal_by p w h =
    let m = castling_move p.side w in
    let done = castled_by p m (castling_of p.side w) (are_apart p.side w) (castle_is p w h) refl refl h.king in
    and_from _ _ (is_pattern p w h)
    (not_from_false _ (out_of_check p.men (after p m).men p.side w done h.sound.board (one_king_of p h.sound p.side)
    (ends_safe p.men p.side w h.may.safe)))

pub normal_castling_is_legal : NormalCastlingIsLegal
unfolding is_legal
normal_castling_is_legal p w sound v king = (
  λ legal. by_kind p w sound v king (moves_from_pattern p (castling_move p.side w) (and_parts _ _ legal).0).kind,
  λ may. legal_by p w (record { sound = sound; normal = v; king = king; may = may }),
)
