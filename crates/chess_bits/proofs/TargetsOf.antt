-- The set of targets of a piece has the end of each of its legal moves, and only squares to which it goes (`goes`): for
-- pawns pawn_complete and pawn_sound, for others man_set_complete and man_set_sound. Before that, what each kind's
-- targets are: an officer attacks them and no own piece is there (officer_is), a king also castles to either side
-- (to_either_side), a pawn captures (captures_is) or advances one square or two (blocked, one_only, two_too).
use Rattle.chess_base.proofs.{shared.Changes.no_castling, shared.Squares.some_square-at, shared.Squares.some_square-none, shared.Castling.no_castle, shared.Men.same_colour-self, shared.Men.same_colour-true, shared.Men.same_kind-true}
use mathlib.Core.Bool.{and-false, and-true, or-false}
use Rattle.std.proofs.Common.{◌≡◌, ℕ, ◌+◌, ◌-◌, ◌<◌, ◌≤◌, inl, inr, nat_le, Bool, true, false, not, ◌&&◌, ◌||◌, ◌==◌, Option, Some, None, is_none, refl, sym, ap, subst, ◌∙◌, arith}
use Rattle.std.proofs.lemmas.Bool.Decides.{nat_tests}
use Rattle.std.proofs.lemmas.Bool.{and_parts, and_right, both_ways, cases_Bool, cases_eq, eqb-true, eq-eqb, ne_eqb}
use Rattle.chess_base.specs.{declared.castling.Castle.Castle, declared.man.Colour.Colour, declared.man.Colour.TheVariants.White, declared.man.Colour.TheVariants.Black, declared.man.CastlingSide.CastlingSide, declared.man.CastlingSide.TheVariants.KingSide, declared.man.CastlingSide.TheVariants.QueenSide, declared.man.Kind.Kind, declared.man.Kind.TheVariants.King, declared.man.Kind.TheVariants.Pawn, declared.man.Man.Man, declared.man.Move.Move, declared.man.Variant.Variant, declared.man.Variant.TheVariants.Normal, declared.man.Variant.TheVariants.Fischerandom, declared.setup.Setup.Setup, Attacks.attacks, Attacks.could_capture, shared.Splits.could_capture_as, shared.Splits.names_castling, MoveList.move_of, Squares.rank, Squares.is_at, Squares.some_square}
use Rattle.chess_base.specs.Castling.{home_square, king_home_file, castled_king_file, right_of, is_castling_to, castling, castle_of}
use Rattle.chess_base.specs.Men.{Men, man_at, other, is_of, is_man, same_kind, same_colour, forward, pawn_rank}
use Rattle.chess_base.specs.Moves.{is_legal, is_pseudo_legal, man_moves, pawn_advances, pawn_captures, is_double_advance}
use Rattle.chess_moves.specs.Sets.{contains}
use Rattle.chess_moves.proofs.shared.LegalMoves.{own_man_moves}
use Rattle.chess_bits.specs.ties.Goes.{goes, IsAhead, names_end, castles_onto, legal_or, man_goes}
use Rattle.chess_bits.proofs.Patterns.{pawn_goes, legal_goes, man_sound, man_complete}

-- ---- officers

pub own_colour : (c : Colour) (x : Man) (o : Option Man) → o ≡ Some x → is_of c o ≡ true → x.colour ≡ c
unfolding is_of
own_colour c x o at own = let own' : same_colour c x.colour ≡ true = rw at at own in
    sym (same_colour-true c x.colour own')

-- a piece makes an ordinary move to a square that it attacks and where no own piece is
pub steps_of_man : (p : Setup) (a b : ℕ) (x : Man) → man_at p.men a ≡ Some x → x.colour ≡ p.side
    → man_moves p (move_of a b None) ≡ (could_capture p.men p.side x.kind a b && not (is_of p.side (man_at p.men b)))
unfolding man_moves attacks
steps_of_man p a b x at own =
    ap (λ o. could_capture_as p.men o a b && not (is_of p.side (man_at p.men b))) at ∙ ap (λ c.
    could_capture p.men c x.kind a b && not (is_of p.side (man_at p.men b))) own

pub no_king_castles : (p : Setup) (m : Move) → is_man p.side King (man_at p.men m.from) ≡ false → castle_of p m ≡ None
no_king_castles p m h = no_castle p m (no_castling p m h)

pub none_castles : (p : Setup) (m : Move) → is_castling_to p m KingSide ≡ false → is_castling_to p m QueenSide ≡ false
    → castle_of p m ≡ None
unfolding castling
none_castles p m k q = no_castle p m (rw (k, q) refl)

pub other_man : (c : Colour) (k : Kind) (o : Option Man) (x : Man) → o ≡ Some x → same_kind k x.kind ≡ false
    → is_man c k o ≡ false
unfolding is_man
other_man c k o x at off = rw (at, off) (and_right (same_colour c x.colour) false refl)

-- an officer goes to the squares that it attacks and where no own piece is, and nowhere else (`man_goes`)
pub officer_is : (p : Setup) (a b : ℕ) (x : Man) → man_at p.men a ≡ Some x → is_of p.side (man_at p.men a) ≡ true
    → same_kind King x.kind ≡ false
    → (could_capture p.men p.side x.kind a b && not (is_of p.side (man_at p.men b))) ≡ man_goes p a b
officer_is p a b x at own no_king =
    let off = other_man p.side King (man_at p.men a) x at no_king in
    let none = no_king_castles p (move_of a b None) off in
    sym (ap (λ o. legal_or p (move_of a b None) o (man_moves p (move_of a b None))) none
    ∙ steps_of_man p a b x at (own_colour p.side x (man_at p.men a) at own))

-- ---- the king

-- a move to a square that does not name castling on side w is not that castling
not_named : (v : Variant) (c : Colour) (a b : ℕ) (w : CastlingSide) (o : Option ℕ) → names_end v c w o b ≡ false
    → names_castling v c (move_of a b None) w o ≡ false
not_named v c a b w None h = refl
not_named Normal c a b w (Some r) h = and_right (a == home_square c king_home_file)
    (b == home_square c (castled_king_file w)) h
not_named Fischerandom c a b w (Some r) h = and_right (rank a == rank r) (b == r) h

not_said : (p : Setup) (a b : ℕ) (w : CastlingSide) → names_end p.variant p.side w (right_of p.rights p.side w) b
    ≡ false → is_castling_to p (move_of a b None) w ≡ false
unfolding is_castling_to
not_said p a b w h =
    and_right (is_man p.side King (man_at p.men a))
    (names_castling p.variant p.side (move_of a b None) w (right_of p.rights p.side w))
    (not_named p.variant p.side a b w (right_of p.rights p.side w) h)

-- whether the castling o is legal need be asked only if q or k holds: if neither does, there is no castling
told : (p : Setup) (m : Move) (o : Option Castle) (k q : Bool) → (k ≡ false → q ≡ false → o ≡ None)
    → ((q && legal_or p m o false) || (k && legal_or p m o false)) ≡ legal_or p m o false
told p m None k q h = grind arith
told p m (Some x) true q h = grind arith
told p m (Some x) false true h = grind arith
told p m (Some x) false false h = let none = h refl refl in absurd cc

-- a move from a to b is legal castling exactly if it is so to one side or the other
pub to_either_side : (p : Setup) (a b : ℕ) → (castles_onto p QueenSide a b || castles_onto p KingSide a b)
    ≡ legal_or p (move_of a b None) (castle_of p (move_of a b None)) false
to_either_side p a b =
    told p (move_of a b None) (castle_of p (move_of a b None))
    (names_end p.variant p.side KingSide (right_of p.rights p.side KingSide) b)
    (names_end p.variant p.side QueenSide (right_of p.rights p.side QueenSide) b)
    (λ k q. none_castles p (move_of a b None) (not_said p a b KingSide k) (not_said p a b QueenSide q))

-- ---- pawns

-- the piece that passes a test
pub man_told : (c : Colour) (k : Kind) (o : Option Man) → is_man c k o ≡ true
    → o ≡ Some (record { colour = c; kind = k })
unfolding is_man
man_told c k None h = cc
man_told c k (Some x) h =
    let both = and_parts (same_colour c x.colour) (same_kind k x.kind) h in
    ap (λ (d : Colour). let y : Man = record { colour = d; kind = x.kind } in Some y)
    (sym (same_colour-true c x.colour both.0))
    ∙ ap (λ (l : Kind). let y : Man = record { colour = c; kind = l } in Some y) (sym (same_kind-true k x.kind both.1))

-- a pawn captures on a square that it attacks, if an enemy or the target is there
pub captures_is : (p : Setup) (a b : ℕ) → is_man p.side Pawn (man_at p.men a) ≡ true
    → (could_capture p.men p.side Pawn a b && (is_of (other p.side) (man_at p.men b) || is_at p.target b))
    ≡ pawn_captures p (move_of a b None)
unfolding pawn_captures attacks
captures_is p a b pawn = let at = man_told p.side Pawn (man_at p.men a) pawn in rw at refl

advanced : (n t r i : Bool) (en et : Bool) → (n ≡ true → i ≡ en) → (t ≡ true → i ≡ et)
    → (i && (n || ((r && t) && en))) ≡ ((en && n) || ((en && r) && (et && t)))
advanced true t r i en et h g = rw (h refl) (grind arith)
advanced false true r i en et h g = rw (g refl) (grind arith)
advanced false false r i en et h g = grind arith

-- whether a pawn advances to b, by the squares one (n) and two (t) ahead of it
pub advances_is : (p : Setup) (a b n t : ℕ) → is_man p.side Pawn (man_at p.men a) ≡ true → n ≡ forward p.side a
    → t ≡ forward p.side n
    → pawn_advances p (move_of a b None)
    ≡ ((is_none (man_at p.men n) && (b == n))
    || ((is_none (man_at p.men n) && (rank a == pawn_rank p.side)) && (is_none (man_at p.men t) && (b == t))))
unfolding pawn_advances is_double_advance
advances_is p a b n t pawn one two =
    rw (pawn, ← one, ← two)
    (advanced (b == n) (b == t) (rank a == pawn_rank p.side) (is_none (man_at p.men b)) (is_none (man_at p.men n))
    (is_none (man_at p.men t))
    (λ e. ap (λ s. is_none (man_at p.men s)) (eqb-true b n e))
    (λ e. ap (λ s. is_none (man_at p.men s)) (eqb-true b t e)))

-- ---- sets of targets

-- from a square without an own piece there is no legal move
pub none_begin : (p : Setup) (a w : ℕ) → is_of p.side (man_at p.men a) ≡ false → (m : Move) → is_legal p m ≡ true
    → m.from ≡ a → contains w m.to ≡ true
none_begin p a w off m legal e =
    absurd (both_ways (is_of p.side (man_at p.men a)) off
    (ap (λ s. is_of p.side (man_at p.men s)) (sym e) ∙ own_man_moves p m legal))

pub ends_below : (p : Setup) (m : Move) → is_legal p m ≡ true → m.to < 64
unfolding is_legal is_pseudo_legal
ends_below p m h = grind (arith, nat_tests, h)

-- w are the squares to which the pawn on a advances or where it captures: it goes to each of them
pub pawn_sound : (p : Setup) (a w : ℕ) → is_man p.side Pawn (man_at p.men a) ≡ true → a < 64
    → ((k : ℕ) → k < 64 → contains w k ≡ (pawn_advances p (move_of a k None) || pawn_captures p (move_of a k None)))
    → (k : ℕ) → k < 64 → contains w k ≡ true → goes p a k ≡ true
pawn_sound p a w pawn low set k high h =
    pawn_goes p a k _ (man_told p.side Pawn (man_at p.men a) pawn) refl refl low high ∙ sym (set k high) ∙ h

-- and each legal move of it ends on such a square
pub pawn_complete : (p : Setup) (a w : ℕ) → is_man p.side Pawn (man_at p.men a) ≡ true → a < 64
    → ((k : ℕ) → k < 64 → contains w k ≡ (pawn_advances p (move_of a k None) || pawn_captures p (move_of a k None)))
    → (m : Move) → is_legal p m ≡ true → m.from ≡ a → contains w m.to ≡ true
pawn_complete p a w pawn low set m legal e =
    let high = ends_below p m legal in
    let told : goes p a m.to ≡ true = ap (λ s. goes p s m.to) (sym e) ∙ (legal_goes p m legal).0 in
    set m.to high ∙ sym (pawn_goes p a m.to _ (man_told p.side Pawn (man_at p.men a) pawn) refl refl low high) ∙ told

no_pawn_kind : (c : Colour) (x : Man) (o : Option Man) → o ≡ Some x → x.colour ≡ c → is_man c Pawn o ≡ false
    → same_kind Pawn x.kind ≡ false
unfolding is_man
no_pawn_kind c x o at own h =
    let both : (same_colour c x.colour && same_kind Pawn x.kind) ≡ false = rw at at h in
    let mine : same_colour c x.colour ≡ true = rw own (same_colour-self c) in
    rw mine at both

some_man : (c : Colour) (o : Option Man) → is_of c o ≡ true → (x : Man) × (o ≡ Some x)
unfolding is_of
some_man c None h = cc
some_man c (Some x) h = (x, refl)

-- w are the squares to which the piece on a, an own one and no pawn, goes by `man_goes`: it goes to each of them
pub man_set_sound : (p : Setup) (a w : ℕ) → is_of p.side (man_at p.men a) ≡ true
    → is_man p.side Pawn (man_at p.men a) ≡ false → a < 64
    → ((k : ℕ) → k < 64 → contains w k ≡ man_goes p a k) → (k : ℕ) → k < 64 → contains w k ≡ true → goes p a k ≡ true
man_set_sound p a w own other low set k high h =
    let man = some_man p.side (man_at p.men a) own in
    let mine = own_colour p.side man.0 (man_at p.men a) man.1 own in
    man_sound p a k man.0 man.1 mine (no_pawn_kind p.side man.0 (man_at p.men a) man.1 mine other) low high
    (sym (set k high) ∙ h)

-- and each legal move of it ends on such a square
pub man_set_complete : (p : Setup) (a w : ℕ) → is_of p.side (man_at p.men a) ≡ true
    → is_man p.side Pawn (man_at p.men a) ≡ false → a < 64
    → ((k : ℕ) → k < 64 → contains w k ≡ man_goes p a k) → (m : Move) → is_legal p m ≡ true → m.from ≡ a → contains w m.to ≡ true
man_set_complete p a w own other low set m legal e =
    let high = ends_below p m legal in
    let man = some_man p.side (man_at p.men a) own in
    let mine = own_colour p.side man.0 (man_at p.men a) man.1 own in
    let there : man_at p.men m.from ≡ Some man.0 = ap (λ s. man_at p.men s) e ∙ man.1 in
    set m.to high ∙ ap (λ s. man_goes p s m.to) (sym e)
    ∙ man_complete p m man.0 there mine (no_pawn_kind p.side man.0 (man_at p.men a) man.1 mine other)
    (subst (λ s. s < 64) (sym e) low) high legal

-- ---- straight ahead

-- one rank ahead of a square
pub next_is : (c : Colour) (a s w k : ℕ) → 8 ≤ a → ((j : ℕ) → contains s j ≡ (j == a)) → IsAhead c s w → k < 64
    → contains w k ≡ (k == forward c a)
next_is White a s w k high one h low = h.up refl k low ∙ rw (one (k - 8)) (grind (arith, nat_tests, high))
next_is Black a s w k high one h low = h.down refl k ∙ rw (one (k + 8)) (grind (arith, nat_tests, high))

-- and two, from a pawn's home
pub second_is : (c : Colour) (a s w v k : ℕ) → 8 ≤ a → rank a ≡ pawn_rank c → ((j : ℕ) → contains s j ≡ (j == a))
    → IsAhead c s w → IsAhead c w v → k < 64 → contains v k ≡ (k == forward c (forward c a))
second_is White a s w v k high home one h g low =
    g.up refl k low ∙ ap (λ t. nat_le 8 k && t) (next_is White a s w (k - 8) high one h (omega (arith, low)))
    ∙ grind (arith, nat_tests, high)
second_is Black a s w v k high home one h g low =
    g.down refl k ∙ h.down refl (k + 8) ∙ one (k + 8 + 8) ∙ grind (arith, nat_tests, high, home)

-- the square n ahead is empty exactly if no occupied square is met there
pub met_is : (men : Men) (n next full met : ℕ) → n < 64 → ((k : ℕ) → k < 64 → contains next k ≡ (k == n))
    → ((k : ℕ) → k < 64 → contains full k ≡ not (is_none (man_at men k)))
    → ((k : ℕ) → contains met k ≡ (contains next k && contains full k))
    → not (some_square (λ k. contains met k)) ≡ is_none (man_at men n)
met_is men n next full met low one stood both =
    elim (cases_Bool (is_none (man_at men n))) [
      | inl free ↦
          ap not (some_square-none _
          (λ k l. both k
          ∙ rw (one k l, stood k l)
          (elim (cases_eq k n) [
            | inl e ↦ rw (e, free) (and-false _)
            | inr apart ↦ rw (ne_eqb k n apart) refl
          ]))) ∙ sym free
      | inr taken ↦
          ap not (some_square-at _ n low (both n ∙ rw (one n low, stood n low, eq-eqb n n refl, taken) refl)) ∙ sym taken
    ]

-- with a piece right ahead a pawn does not advance
pub blocked : (p : Setup) (a k : ℕ) → is_man p.side Pawn (man_at p.men a) ≡ true
    → is_none (man_at p.men (forward p.side a)) ≡ false → false ≡ pawn_advances p (move_of a k None)
blocked p a k pawn full = sym (advances_is p a k (forward p.side a) _ pawn refl refl ∙ rw full refl)

-- off its home rank it goes only to the empty square ahead
pub one_only : (p : Setup) (a k : ℕ) → is_man p.side Pawn (man_at p.men a) ≡ true
    → is_none (man_at p.men (forward p.side a)) ≡ true → (rank a ≡ pawn_rank p.side → ⊥)
    → (k == forward p.side a) ≡ pawn_advances p (move_of a k None)
one_only p a k pawn free away =
    sym (advances_is p a k (forward p.side a) _ pawn refl refl
    ∙ rw (free, ne_eqb (rank a) (pawn_rank p.side) away) (or-false (k == forward p.side a)))

-- from home it also goes to the second square, if that is empty too
pub two_too : (p : Setup) (a k : ℕ) → is_man p.side Pawn (man_at p.men a) ≡ true
    → is_none (man_at p.men (forward p.side a)) ≡ true → rank a ≡ pawn_rank p.side
    → ((k == forward p.side a) || ((k == forward p.side (forward p.side a)) && is_none (man_at p.men k)))
    ≡ pawn_advances p (move_of a k None)
two_too p a k pawn free home =
    sym (advances_is p a k (forward p.side a) _ pawn refl refl
    ∙ rw (free, eq-eqb (rank a) (pawn_rank p.side) home)
    (ap (λ t. (k == forward p.side a) || t) (there (forward p.side (forward p.side a)))))
  where
    there : (t : ℕ) → (is_none (man_at p.men t) && (k == t)) ≡ ((k == t) && is_none (man_at p.men k))
    there t =
        elim (cases_eq k t) [
          | inl e ↦ rw (e, eq-eqb t t refl) (and-true _)
          | inr apart ↦ rw (ne_eqb k t apart) (and-false _)
        ]

pub no_own : (c : Colour) (o : Option Man) → o ≡ None → is_of c o ≡ true → ⊥
unfolding is_of
no_own c None e h = cc
no_own c (Some x) e h = cc
