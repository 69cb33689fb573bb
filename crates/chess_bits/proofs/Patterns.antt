-- A move is pseudo-legal exactly if its piece goes from the one square to the other (`goes`, which tries a single
-- promotion) and its promotion fits: a kind that a pawn may become on its last rank, otherwise none (pattern_is, by
-- cases of the piece). By kind: pawns go by advance or capture (pawn_goes), others as they attack or castle
-- (officer_goes); `man_goes` has the ends of all their legal moves, and only ends to which they go (man_complete,
-- man_sound).
use mathlib.Core.Bool.{and-true, and-false, and_comm}
use Rattle.std.proofs.Common.{◌≡◌, ℕ, ◌<◌, Bool, true, false, not, ◌&&◌, ◌||◌, ◌==◌, cond, Option, Some, None, refl, sym, ap, ◌∙◌, nat_lt, arith, if◌then◌else◌}
use Rattle.std.proofs.lemmas.Bool.{and_parts, and_from, lt-ltb, both_ways, false_from_ne_true}
use Rattle.chess_base.specs.{declared.castling.Castle.Castle, declared.man.Kind.Kind, declared.man.Man.Man, declared.man.Move.Move, declared.setup.Setup.Setup, Attacks.is_in_check, Castling.castle_of, Castling.castles, MoveList.move_of, shared.Splits.castles_or_moves, Squares.rank}
use Rattle.chess_base.specs.declared.man.Kind.TheVariants.{King, Queen, Rook, Bishop, Knight, Pawn}
use Rattle.chess_base.specs.Men.{man_at, other, same_colour, same_kind, is_man, first_rank}
use Rattle.chess_base.specs.Moves.{is_pseudo_legal, is_legal, after, moves_as, man_moves, pawn_moves, pawn_advances, pawn_captures, is_double_advance, promotion_fits}
use Rattle.chess_base.proofs.{shared.Men.same_colour-self, shared.MoveKinds.unpromoted_below}
use Rattle.chess_moves.specs.{Promoting.would_promote, Sets.contains}
use Rattle.chess_bits.specs.ties.Goes.{tried_promotion, goes, legal_or, man_goes}

pub fits_low : (kind : Kind) → promotion_fits false (Some kind) ≡ false
fits_low King = refl
fits_low Queen = refl
fits_low Rook = refl
fits_low Bishop = refl
fits_low Knight = refl
fits_low Pawn = refl

none_promoted : (p : Setup) (a b : ℕ) (kind : Kind) (o : Option Castle) → castles_or_moves p (move_of a b (Some kind)) o
    ≡ false
unfolding man_moves castles
none_promoted p a b kind None = refl
none_promoted p a b kind (Some castle) = refl

-- a piece other than a pawn: its move with the promotion k is pseudo-legal exactly if that without one is, and k is
-- none
officers : (p : Setup) (a b : ℕ) (k : Option Kind) → castles_or_moves p (move_of a b k) (castle_of p (move_of a b k))
    ≡ (castles_or_moves p (move_of a b None) (castle_of p (move_of a b None)) && promotion_fits false k)
officers p a b None = sym (and-true (castles_or_moves p (move_of a b None) (castle_of p (move_of a b None))))
officers p a b (Some kind) =
    none_promoted p a b kind (castle_of p (move_of a b (Some kind)))
    ∙ sym (ap (λ f. castles_or_moves p (move_of a b None) (castle_of p (move_of a b None)) && f) (fits_low kind)
    ∙ and-false (castles_or_moves p (move_of a b None) (castle_of p (move_of a b None))))

-- k fits exactly if it does and the promotion that is tried, which always fits, does; x is one more test
turned : (last : Bool) (k : Option Kind) (x : Bool)
    → (promotion_fits last k && x)
    ≡ ((promotion_fits last (if last then Some Queen else None) && x) && promotion_fits last k)
turned true k x = and_comm (promotion_fits true k) x
turned false k x = and_comm (promotion_fits false k) x

-- a pawn: its move with the promotion k is pseudo-legal exactly if that with the tried one is, and k fits
pawns : (p : Setup) (a b : ℕ) (k : Option Kind) → pawn_moves p (move_of a b k)
    ≡ (pawn_moves p (move_of a b (if rank b == first_rank (other p.side) then Some Queen else None))
    && promotion_fits (rank b == first_rank (other p.side)) k)
unfolding pawn_moves pawn_advances pawn_captures is_double_advance
pawns p a b k = turned (rank b == first_rank (other p.side)) k
    (pawn_advances p (move_of a b None) || pawn_captures p (move_of a b None))

-- for any piece, own or not, a pawn or not: its move with the promotion k is pseudo-legal exactly if that with the
-- tried promotion is, and k fits
by_kind : (p : Setup) (a b : ℕ) (k : Option Kind) (own pawn : Bool)
    → (own && cond pawn (pawn_moves p (move_of a b k)) (castles_or_moves p (move_of a b k) (castle_of p (move_of a b k))))
    ≡ ((own && cond pawn (pawn_moves p
    (move_of a b (if (own && pawn) && (rank b == first_rank (other p.side)) then Some Queen else None)))
    (castles_or_moves p (move_of a b
    (if (own && pawn) && (rank b == first_rank (other p.side)) then Some Queen else None))
    (castle_of p (move_of a b
    (if (own && pawn) && (rank b == first_rank (other p.side)) then Some Queen else None)))))
    && promotion_fits ((own && pawn) && (rank b == first_rank (other p.side))) k)
by_kind p a b k false pawn = refl
by_kind p a b k true true = pawns p a b k
by_kind p a b k true false = officers p a b k

-- for each content o of the start square: the move with the promotion k is pseudo-legal exactly if that with the tried
-- promotion is, and k fits
by_man : (p : Setup) (a b : ℕ) (k : Option Kind) (o : Option Man) → man_at p.men a ≡ o
    → moves_as p (move_of a b k) o
    ≡ (moves_as p (move_of a b (tried_promotion p a b)) o && promotion_fits (would_promote p a b) k)
unfolding would_promote is_man
by_man p a b k None at = refl
by_man p a b k (Some x) at = rw at (by_kind p a b k (same_colour p.side x.colour) (same_kind Pawn x.kind))

and_joined : (x y z : Bool) → (x && (y && z)) ≡ ((x && y) && z)
and_joined x y z = grind arith

pub pattern_by : (p : Setup) (a b : ℕ) (k : Option Kind)
    → is_pseudo_legal p (move_of a b k) ≡ (goes p a b && promotion_fits (would_promote p a b) k)
unfolding is_pseudo_legal goes
pattern_by p a b k =
    ap (λ v. (nat_lt a 64 && nat_lt b 64) && v) (by_man p a b k (man_at p.men a) refl)
    ∙ and_joined (nat_lt a 64 && nat_lt b 64) (moves_as p (move_of a b (tried_promotion p a b)) (man_at p.men a))
    (promotion_fits (would_promote p a b) k)

-- a move is pseudo-legal exactly if its piece goes from its start to its end (`goes`), and its promotion fits
pub pattern_is : (p : Setup) (m : Move)
    → is_pseudo_legal p m ≡ (goes p m.from m.to && promotion_fits (would_promote p m.from m.to) m.promotion)
pattern_is p m = pattern_by p m.from m.to m.promotion

-- ---- by the piece

-- whether a piece goes from a to b, by the content of a (o)
goes_as : (p : Setup) (a b : ℕ) (o : Option Man) → man_at p.men a ≡ o → a < 64 → b < 64
    → goes p a b ≡ moves_as p (move_of a b (tried_promotion p a b)) o
unfolding goes is_pseudo_legal
goes_as p a b o at low high = rw (lt-ltb a 64 low, lt-ltb b 64 high, at) refl

moves_pawn : (p : Setup) (m : Move) (x : Man) → x.colour ≡ p.side → same_kind Pawn x.kind ≡ true
    → moves_as p m (Some x) ≡ pawn_moves p m
moves_pawn p m x own pawn = let own' : same_colour p.side x.colour ≡ true = rw own (same_colour-self p.side) in
    rw (own', pawn) refl

-- the promotion that is tried fits
tried_fits : (last x : Bool) → (promotion_fits last (if last then Some Queen else None) && x) ≡ x
tried_fits true x = refl
tried_fits false x = refl

-- a pawn's move with the tried promotion: an advance or a capture
tried_pawn : (p : Setup) (a b : ℕ)
    → pawn_moves p (move_of a b (if rank b == first_rank (other p.side) then Some Queen else None))
    ≡ (pawn_advances p (move_of a b None) || pawn_captures p (move_of a b None))
unfolding pawn_moves pawn_advances pawn_captures is_double_advance
tried_pawn p a b = tried_fits (rank b == first_rank (other p.side))
    (pawn_advances p (move_of a b None) || pawn_captures p (move_of a b None))

promotes_is : (p : Setup) (a b : ℕ) (x : Man) → man_at p.men a ≡ Some x → x.colour ≡ p.side
    → same_kind Pawn x.kind ≡ true → would_promote p a b ≡ (rank b == first_rank (other p.side))
unfolding would_promote is_man
promotes_is p a b x at own pawn = let own' : same_colour p.side x.colour ≡ true = rw own (same_colour-self p.side) in
    rw (at, own', pawn) refl

-- a pawn goes from a to b exactly if it advances or captures there
pub pawn_goes : (p : Setup) (a b : ℕ) (x : Man) → man_at p.men a ≡ Some x → x.colour ≡ p.side
    → same_kind Pawn x.kind ≡ true → a < 64 → b < 64
    → goes p a b ≡ (pawn_advances p (move_of a b None) || pawn_captures p (move_of a b None))
pawn_goes p a b x at own pawn low high =
    goes_as p a b (Some x) at low high
    ∙ moves_pawn p (move_of a b (tried_promotion p a b)) x own pawn
    ∙ ap (λ w. pawn_moves p (move_of a b (if w then Some Queen else None))) (promotes_is p a b x at own pawn)
    ∙ tried_pawn p a b

pub not_promoting : (p : Setup) (a b : ℕ) (x : Man) → man_at p.men a ≡ Some x → same_kind Pawn x.kind ≡ false
    → would_promote p a b ≡ false
unfolding would_promote is_man
not_promoting p a b x at no_pawn =
    rw (at, no_pawn) (by (same_colour p.side x.colour) (rank b == first_rank (other p.side)))
  where
    by : (s t : Bool) → ((s && false) && t) ≡ false
    by s t = grind arith

moves_officer : (p : Setup) (m : Move) (x : Man) → x.colour ≡ p.side → same_kind Pawn x.kind ≡ false
    → moves_as p m (Some x) ≡ castles_or_moves p m (castle_of p m)
moves_officer p m x own no_pawn = let own' : same_colour p.side x.colour ≡ true = rw own (same_colour-self p.side) in
    rw (own', no_pawn) refl

-- a piece other than a pawn goes from a to b exactly if it castles so pseudo-legally or, where the move is no castling,
-- goes as it attacks
pub officer_goes : (p : Setup) (a b : ℕ) (x : Man) → man_at p.men a ≡ Some x → x.colour ≡ p.side
    → same_kind Pawn x.kind ≡ false → a < 64 → b < 64
    → goes p a b ≡ castles_or_moves p (move_of a b None) (castle_of p (move_of a b None))
officer_goes p a b x at own no_pawn low high =
    goes_as p a b (Some x) at low high
    ∙ moves_officer p (move_of a b (tried_promotion p a b)) x own no_pawn
    ∙ ap (λ w. castles_or_moves p (move_of a b (if w then Some Queen else None))
    (castle_of p (move_of a b (if w then Some Queen else None)))) (not_promoting p a b x at no_pawn)

-- ---- legal moves

-- of a legal move, the piece goes from its start to its end (`goes`), and its promotion fits
pub legal_goes : (p : Setup) (m : Move) → is_legal p m ≡ true → (goes p m.from m.to ≡ true)
    × (promotion_fits (would_promote p m.from m.to) m.promotion ≡ true)
unfolding is_legal
legal_goes p m h =
    let pattern = (and_parts (is_pseudo_legal p m) (not (is_in_check (after p m).men p.side)) h).0 in
    and_parts (goes p m.from m.to) (promotion_fits (would_promote p m.from m.to) m.promotion)
    (sym (pattern_is p m) ∙ pattern)

-- a piece other than a pawn goes to each square that `man_goes` names
pub man_sound : (p : Setup) (a b : ℕ) (x : Man) → man_at p.men a ≡ Some x → x.colour ≡ p.side
    → same_kind Pawn x.kind ≡ false → a < 64 → b < 64
    → man_goes p a b ≡ true → goes p a b ≡ true
man_sound p a b x at own no_pawn low high h = by (castle_of p (move_of a b None)) refl h
  where
    by : (o : Option Castle) → castle_of p (move_of a b None) ≡ o
        → legal_or p (move_of a b None) o (man_moves p (move_of a b None)) ≡ true → goes p a b ≡ true
    by None e g = officer_goes p a b x at own no_pawn low high ∙ ap (castles_or_moves p (move_of a b None)) e ∙ g
    by (Some castle) e g = (legal_goes p (move_of a b None) g).0

-- each legal move of a piece other than a pawn ends on a square that `man_goes` names
pub man_complete : (p : Setup) (m : Move) (x : Man) → man_at p.men m.from ≡ Some x → x.colour ≡ p.side
    → same_kind Pawn x.kind ≡ false → m.from < 64 → m.to < 64
    → is_legal p m ≡ true → man_goes p m.from m.to ≡ true
man_complete p m x at own no_pawn low high h = by (castle_of p (move_of m.from m.to None)) refl
  where
    stays : m.promotion ≡ None
    stays = unpromoted_below m.promotion
        (ap (λ w. promotion_fits w m.promotion) (sym (not_promoting p m.from m.to x at no_pawn)) ∙ (legal_goes p m h).1)

    by : (o : Option Castle) → castle_of p (move_of m.from m.to None) ≡ o
        → legal_or p (move_of m.from m.to None) o (man_moves p (move_of m.from m.to None)) ≡ true
    by None e = sym (officer_goes p m.from m.to x at own no_pawn low high
        ∙ ap (castles_or_moves p (move_of m.from m.to None)) e) ∙ (legal_goes p m h).0
    by (Some castle) e = ap (λ k. is_legal p (move_of m.from m.to k)) (sym stays) ∙ h

-- ---- whether a move is legal

-- a move is not legal if its end is not in a set (w) that has the ends of all legal moves from its start
pub not_target : (p : Setup) (m : Move) (w : ℕ)
    → ((n : Move) → is_legal p n ≡ true → n.from ≡ m.from → contains w n.to ≡ true) → contains w m.to ≡ false
    → false ≡ is_legal p m
not_target p m w all out = sym (false_from_ne_true (is_legal p m) (λ e. both_ways (contains w m.to) out (all m e refl)))

pub not_fitting : (p : Setup) (m : Move) → promotion_fits (would_promote p m.from m.to) m.promotion ≡ false
    → false ≡ is_legal p m
not_fitting p m h = sym (false_from_ne_true (is_legal p m)
    (λ e. both_ways (promotion_fits (would_promote p m.from m.to) m.promotion) h (legal_goes p m e).1))

pub pattern_from : (p : Setup) (m : Move) → goes p m.from m.to ≡ true
    → promotion_fits (would_promote p m.from m.to) m.promotion ≡ true → is_pseudo_legal p m ≡ true
pattern_from p m g f = pattern_is p m
    ∙ and_from (goes p m.from m.to) (promotion_fits (would_promote p m.from m.to) m.promotion) g f
