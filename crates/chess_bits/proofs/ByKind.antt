-- By the kind of a piece (officer, pawn, king): which of its moves are pseudo-legal (officer_pattern, pawn_pattern,
-- man_pattern), and that officers' moves and pawns' but to the target change only their two squares (`StepsPlainly`:
-- officer_plain, pawn_plain), so that a short test of the king's safety is enough. From that, the legal starts of
-- officers to a square (officer_starts_are). A king goes by a step or by castling (king_otherwise), from its one square
-- (king_start).
use mathlib.Core.Bool.{and-false, and-true}
use Rattle.std.proofs.Common.{◌≡◌, ℕ, ◌<◌, inl, inr, Bool, true, false, not, ◌&&◌, ◌||◌, ◌==◌, Option, Some, None, refl, sym, ap, ◌∙◌, is_some}
use Rattle.std.proofs.lemmas.Bool.{and_parts, and_from, and_left, and_right, cases_Bool, eqb-true, not-true, or_parts}
use Rattle.chess_base.specs.{declared.castling.Castle.Castle, declared.man.Colour.Colour, declared.man.Kind.Kind, declared.man.Man.Man, declared.man.Move.Move, declared.setup.Setup.Setup, Attacks.could_capture, Attacks.is_in_check, Castling.castle_of, MoveList.move_of, shared.Splits.castles_or_moves, Squares.is_at}
use Rattle.chess_base.specs.declared.man.Kind.TheVariants.{King, Queen, Rook, Bishop, Knight, Pawn}
use Rattle.chess_base.specs.Men.{man_at, is_of, is_man, same_colour, same_kind}
use Rattle.chess_base.specs.Moves.{is_pseudo_legal, is_legal, after, man_moves, pawn_advances, pawn_captures, promotion_fits}
use Rattle.chess_base.proofs.shared.Men.{is_man-kind, same_kind-self}
use Rattle.chess_moves.specs.{Promoting.would_promote, Sets.contains}
use Rattle.chess_bits.specs.{ties.Changes.StepsPlainly, ties.Goes.goes, ties.Goes.legal_or, ties.Goes.IsOfficer}
use Rattle.chess_bits.proofs.{OriginsOf.back, OriginsOf.officer_attacks, TargetsOf.man_told, TargetsOf.steps_of_man, TargetsOf.no_king_castles}
use Rattle.chess_bits.proofs.Patterns.{fits_low, not_fitting, not_promoting, officer_goes, pattern_by, pawn_goes}

-- a move without a promotion of a piece other than a pawn is pseudo-legal exactly if it is a pseudo-legal castling or,
-- where it is no castling, an ordinary move (`man_moves`)
pub man_pattern : (p : Setup) (kind : Kind) (a b : ℕ) → is_man p.side kind (man_at p.men a) ≡ true
    → same_kind Pawn kind ≡ false → a < 64 → b < 64
    → castles_or_moves p (move_of a b None) (castle_of p (move_of a b None)) ≡ is_pseudo_legal p (move_of a b None)
man_pattern p kind a b man no_pawn low high =
    let at = man_told p.side kind (man_at p.men a) man in
    sym (officer_goes p a b _ at refl no_pawn low high)
    ∙ sym (pattern_by p a b None
    ∙ ap (λ w. goes p a b && promotion_fits w None) (not_promoting p a b _ at no_pawn)
    ∙ and-true (goes p a b))

-- an officer's move without a promotion is pseudo-legal exactly if the officer attacks the end square, and no own piece
-- is there
pub officer_pattern : (p : Setup) (kind : Kind) (a b : ℕ) → IsOfficer p.side kind (man_at p.men a) → a < 64 → b < 64
    → (could_capture p.men p.side kind a b && not (is_of p.side (man_at p.men b))) ≡ is_pseudo_legal p (move_of a b None)
officer_pattern p kind a b h low high =
    let at = man_told p.side kind (man_at p.men a) h.man in
    let parts = or_parts (same_kind King kind) (same_kind Pawn kind) h.officer in
    let off : is_man p.side King (man_at p.men a) ≡ false =
    is_man-kind p.side p.side kind King (man_at p.men a) parts.0 h.man in
    let none : castle_of p (move_of a b None) ≡ None = no_king_castles p (move_of a b None) off in
    sym (steps_of_man p a b _ at refl)
    ∙ sym (ap (castles_or_moves p (move_of a b None)) none)
    ∙ man_pattern p kind a b h.man parts.1 low high

pub no_pattern : (p : Setup) (m : Move) → is_pseudo_legal p m ≡ false → is_legal p m ≡ false
unfolding is_legal
no_pattern p m h = and_left (is_pseudo_legal p m) (not (is_in_check (after p m).men p.side)) h

-- such a move changes only its two squares
pub officer_plain : (p : Setup) (kind : Kind) (a b : ℕ) → IsOfficer p.side kind (man_at p.men a)
    → is_pseudo_legal p (move_of a b None) ≡ true → StepsPlainly p (move_of a b None)
officer_plain p kind a b h goes_so =
    let parts = or_parts (same_kind King kind) (same_kind Pawn kind) h.officer in
    record {
      pattern = goes_so;
      no_king = is_man-kind p.side p.side kind King (man_at p.men a) parts.0 h.man;
      no_passing = and_left (is_man p.side Pawn (man_at p.men a)) (is_at p.target b)
          (is_man-kind p.side p.side kind Pawn (man_at p.men a) parts.1 h.man);
    }

-- a move of an officer that names a promotion is not legal
pub promotes_not : (p : Setup) (m : Move) (kind : Kind) → IsOfficer p.side kind (man_at p.men m.from)
    → is_some m.promotion ≡ true → false ≡ is_legal p m
promotes_not p m kind h some =
    let parts = or_parts (same_kind King kind) (same_kind Pawn kind) h.officer in
    not_fitting p m
    (ap (λ w. promotion_fits w m.promotion)
    (not_promoting p m.from m.to _ (man_told p.side kind (man_at p.men m.from) h.man) parts.1)
    ∙ unfit m.promotion some)
  where
    unfit : (o : Option Kind) → is_some o ≡ true → promotion_fits false o ≡ false
    unfit None e = cc
    unfit (Some k) e = fits_low k

-- a move without a promotion is given by its two squares
pub as_triple : (p : Setup) (m : Move) → is_some m.promotion ≡ false
    → is_legal p (move_of m.from m.to None) ≡ is_legal p m
as_triple p m none = ap (λ k. is_legal p (move_of m.from m.to k)) (sym (nothing m.promotion none))
  where
    nothing : (o : Option Kind) → is_some o ≡ false → o ≡ None
    nothing None e = refl
    nothing (Some k) e = cc

-- ---- starts

-- no officer goes to a square of an own piece
pub own_on_end : (p : Setup) (kind : Kind) (to k : ℕ) → (same_kind King kind || same_kind Pawn kind) ≡ false
    → is_of p.side (man_at p.men to) ≡ true → to < 64 → k < 64
    → false ≡ (is_man p.side kind (man_at p.men k) && is_legal p (move_of k to None))
own_on_end p kind to k neither own high low =
    elim (cases_Bool (is_man p.side kind (man_at p.men k))) [
      | inl man ↦
          sym (and_right (is_man p.side kind (man_at p.men k)) (is_legal p (move_of k to None))
          (no_pattern p (move_of k to None)
          (sym (officer_pattern p kind k to (record { man = man; officer = neither }) low high)
          ∙ and_right (could_capture p.men p.side kind k to) (not (is_of p.side (man_at p.men to))) (ap not own))))
      | inr off ↦ sym (and_left (is_man p.side kind (man_at p.men k)) (is_legal p (move_of k to None)) off)
    ]

-- w are the officers of a kind (all of them: u) on squares that this kind attacks from `to`. If no own piece is on
-- `to`, their moves there are pseudo-legal, and change only two squares
pub starts_plain : (p : Setup) (kind : Kind) (to u w : ℕ) → (same_kind King kind || same_kind Pawn kind) ≡ false
    → is_of p.side (man_at p.men to) ≡ false → to < 64
    → ((k : ℕ) → k < 64 → contains w k ≡ (could_capture p.men p.side kind to k && contains u k))
    → ((k : ℕ) → k < 64 → contains u k ≡ is_man p.side kind (man_at p.men k))
    → (k : ℕ) → k < 64 → contains w k ≡ true → StepsPlainly p (move_of k to None)
starts_plain p kind to u w neither free high reached men k low on =
    let parts = and_parts (could_capture p.men p.side kind to k) (contains u k) (sym (reached k low) ∙ on) in
    let kinds = or_parts (same_kind King kind) (same_kind Pawn kind) neither in
    let officer : IsOfficer p.side kind (man_at p.men k) = record { man = sym (men k low) ∙ parts.1; officer = neither } in
    officer_plain p kind k to officer
    (sym (officer_pattern p kind k to officer low high)
    ∙ and_from (could_capture p.men p.side kind k to) (not (is_of p.side (man_at p.men to)))
    (back p.men p.side kind k to kinds.1 ∙ parts.0) (ap not free))

-- so the members of w whose move to `to` is legal are all legal starts of the kind
pub officer_starts_are : (p : Setup) (kind : Kind) (to u w k : ℕ) (s : Bool)
    → (same_kind King kind || same_kind Pawn kind) ≡ false
    → ((j : ℕ) → j < 64 → contains w j ≡ (could_capture p.men p.side kind to j && contains u j))
    → ((j : ℕ) → j < 64 → contains u j ≡ is_man p.side kind (man_at p.men j))
    → k < 64 → s ≡ (contains w k && is_legal p (move_of k to None))
    → s ≡ (is_man p.side kind (man_at p.men k) && is_legal p (move_of k to None))
officer_starts_are p kind to u w k s neither reached men low made =
    let kinds = or_parts (same_kind King kind) (same_kind Pawn kind) neither in
    made
    ∙ ap (λ t. t && is_legal p (move_of k to None))
    (reached k low ∙ ap (λ t. could_capture p.men p.side kind to k && t) (men k low))
    ∙ both (could_capture p.men p.side kind to k) (is_man p.side kind (man_at p.men k)) (is_legal p (move_of k to None))
    (λ man legal. officer_attacks p kind (move_of k to None) kinds.1 kinds.0 legal man)
  where
    both : (x y z : Bool) → (y ≡ true → z ≡ true → x ≡ true) → ((x && y) && z) ≡ (y && z)
    both true y z h = refl
    both false true true h = rw (sym (h refl refl)) refl
    both false true false h = refl
    both false false z h = refl

-- ---- officers

-- a piece that is neither king nor pawn is an officer
pub officer_told : (c : Colour) (x : Man) (o : Option Man) → o ≡ Some x → is_of c o ≡ true
    → not (same_kind King x.kind || same_kind Pawn x.kind) ≡ true → IsOfficer c x.kind o
unfolding is_of is_man
officer_told c x o at own neither =
    let same : same_colour c x.colour ≡ true = rw at at own in
    record {
      man = rw at (and_from (same_colour c x.colour) (same_kind x.kind x.kind) same (same_kind-self x.kind));
      officer = not-true (same_kind King x.kind || same_kind Pawn x.kind) neither;
    }

-- ---- pawns

-- a pawn's move without a promotion is pseudo-legal exactly if it is an advance or a capture, and not to the last rank
pub pawn_pattern : (p : Setup) (a b : ℕ) → is_man p.side Pawn (man_at p.men a) ≡ true → a < 64 → b < 64
    → ((pawn_advances p (move_of a b None) || pawn_captures p (move_of a b None)) && not (would_promote p a b))
    ≡ is_pseudo_legal p (move_of a b None)
pawn_pattern p a b pawn low high =
    ap (λ g. g && not (would_promote p a b))
    (sym (pawn_goes p a b _ (man_told p.side Pawn (man_at p.men a) pawn) refl refl low high))
    ∙ ap (λ f. goes p a b && f) (unpromoted (would_promote p a b))
    ∙ sym (pattern_by p a b None)
  where
    unpromoted : (w : Bool) → not w ≡ promotion_fits w None
    unpromoted true = refl
    unpromoted false = refl

-- a pseudo-legal move of a pawn without a promotion changes only its two squares, if it does not go to the en passant
-- target
pub pawn_plain : (p : Setup) (a b : ℕ) → is_man p.side Pawn (man_at p.men a) ≡ true
    → is_pseudo_legal p (move_of a b None) ≡ true → is_at p.target b ≡ false → StepsPlainly p (move_of a b None)
pawn_plain p a b pawn goes_so off = record {
  pattern = goes_so;
  no_king = is_man-kind p.side p.side Pawn King (man_at p.men a) refl pawn;
  no_passing = and_right (is_man p.side Pawn (man_at p.men a)) (is_at p.target b) off;
}

-- a kind that is neither an officer's nor the king's is the pawn's
pub pawn_left : (kind : Kind) → not (same_kind King kind || same_kind Pawn kind) ≡ false → same_kind King kind ≡ false
    → kind ≡ Pawn
pawn_left Pawn h g = refl
pawn_left King h g = cc
pawn_left Queen h g = cc
pawn_left Rook h g = cc
pawn_left Bishop h g = cc
pawn_left Knight h g = cc

-- ---- the king

-- where the king has no step to a square, its move there is legal exactly if it is legal castling
pub king_otherwise : (p : Setup) (a b : ℕ) → is_man p.side King (man_at p.men a) ≡ true → a < 64 → b < 64
    → man_moves p (move_of a b None) ≡ false
    → legal_or p (move_of a b None) (castle_of p (move_of a b None)) false ≡ is_legal p (move_of a b None)
king_otherwise p a b king low high still = by (castle_of p (move_of a b None)) refl
  where
    by : (o : Option Castle) → castle_of p (move_of a b None) ≡ o
        → legal_or p (move_of a b None) o false ≡ is_legal p (move_of a b None)
    by None e =
        sym (no_pattern p (move_of a b None)
        (sym (man_pattern p King a b king refl low high) ∙ ap (castles_or_moves p (move_of a b None)) e ∙ still))
    by (Some castle) e = refl

-- the only square from which a king may go to `to` is the king's
pub king_start : (p : Setup) (to king k : ℕ) → is_man p.side King (man_at p.men k) ≡ (k == king)
    → (is_legal p (move_of king to None) && (k == king))
    ≡ (is_man p.side King (man_at p.men k) && is_legal p (move_of k to None))
king_start p to king k one =
    rw one
    (elim (cases_Bool (k == king)) [
      | inl same ↦ rw same (and-true _ ∙ ap (λ a. is_legal p (move_of a to None)) (sym (eqb-true k king same)))
      | inr apart ↦ rw apart (and-false _)
    ])
