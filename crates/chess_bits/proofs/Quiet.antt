-- A move that is neither castling nor en passant (`IsPlain`) leaves a square, such as the king's, unattacked if it was
-- so with the mover taken off (stays_safe): the mover arrives where it can only block lines, and no enemy piece comes.
-- A move that is not the king's and not en passant fills its end and changes its two squares (fills_end, changes_both).
use Rattle.chess_bits.proofs.{TargetsOf.no_king_castles, KingAfter.mover_some, KingAfter.mover_own, Lifted.lifted_at}
use mathlib.Core.Bool.{or-false}
use Rattle.std.proofs.Common.{◌≡◌, ℕ, ◌<◌, inl, inr, Bool, true, false, not, ◌&&◌, ◌||◌, ◌==◌, cond, length, refl, sym, ap, ◌∙◌, Option, Some, None, is_none, arith}
use Rattle.std.proofs.lemmas.Bool.{and_parts, and_from, cases_Bool, both_ways, false_from_ne_true}
use Rattle.chess_base.specs.{declared.man.Colour.Colour, declared.man.Kind.Kind, declared.man.Man.Man, declared.man.Move.Move, shared.Splits.could_capture_as, declared.setup.Setup.Setup, Castling.castle_of, Castling.mover_end, Castling.castling_rook_to}
use Rattle.chess_base.specs.declared.man.Kind.TheVariants.{King, Queen, Rook, Bishop, Knight, Pawn}
use Rattle.chess_base.specs.Squares.{is_at, share_rank_or_file, share_diagonal, is_between}
use Rattle.chess_base.specs.Men.{Men, man_at, other, is_man, is_of, same_kind}
use Rattle.chess_base.specs.Attacks.{is_clear, could_capture, attacks, is_attacked}
use Rattle.chess_base.specs.Moves.{is_en_passant, is_pseudo_legal, arriving_man, men_after, second_square_emptied}
use Rattle.chess_base.proofs.shared.MenAfter.{man_after, man_at-men_after, eqb_comm}
use Rattle.chess_base.proofs.shared.Squares.{some_square-at, some_square-none, each_square-all, each_square-at}
use Rattle.chess_bits.specs.{ties.Changes.is_changed, ties.Changes.is_filled, ties.Goes.lifted}

-- what a piece could capture later it could capture before, if the lines that it uses were clear before where they are
-- later
last_told : (n s t u : Bool) → ((n && s) ≡ true → t ≡ true → u ≡ true) → (n && s && t) ≡ true → (n && s && u) ≡ true
last_told true true t u h e = h refl e
last_told true false t u h e = e
last_told false s t u h e = e

queen_told : (n s d t u : Bool) → ((n && s) ≡ true → t ≡ true → u ≡ true) → ((n && d) ≡ true → t ≡ true → u ≡ true)
    → (n && (s || d) && t) ≡ true → (n && (s || d) && u) ≡ true
queen_told true true d t u h g e = h refl e
queen_told true false true t u h g e = g refl e
queen_told true false false t u h g e = e
queen_told false s d t u h g e = e

-- for each kind k of piece on a: what it could capture on b later it could capture before, if a rank or file from a to
-- b that a rook or queen uses was clear before where it is later, and a diagonal that a bishop or queen uses
pub capture_before : (men later : Men) (c : Colour) (k : Kind) (a b : ℕ)
    → ((same_kind Rook k || same_kind Queen k) ≡ true → (not (a == b) && share_rank_or_file a b) ≡ true
    → is_clear later a b ≡ true → is_clear men a b ≡ true)
    → ((same_kind Bishop k || same_kind Queen k) ≡ true → (not (a == b) && share_diagonal a b) ≡ true
    → is_clear later a b ≡ true → is_clear men a b ≡ true)
    → could_capture later c k a b ≡ true → could_capture men c k a b ≡ true
unfolding could_capture
capture_before men later c King a b l d e = e
capture_before men later c Knight a b l d e = e
capture_before men later c Pawn a b l d e = e
capture_before men later c Queen a b l d e =
    queen_told (not (a == b)) (share_rank_or_file a b) (share_diagonal a b) (is_clear later a b) (is_clear men a b)
    (l refl) (d refl) e
capture_before men later c Rook a b l d e =
    last_told (not (a == b)) (share_rank_or_file a b) (is_clear later a b) (is_clear men a b) (l refl) e
capture_before men later c Bishop a b l d e =
    last_told (not (a == b)) (share_diagonal a b) (is_clear later a b) (is_clear men a b) (d refl) e

-- for each content o of square a: what it could capture on b later it could capture before, if the way from a to b was
-- clear before where it is later
pub could_capture_as_clear : (men later : Men) (o : Option Man) (a b : ℕ)
    → (is_clear later a b ≡ true → is_clear men a b ≡ true)
    → could_capture_as later o a b ≡ true → could_capture_as men o a b ≡ true
could_capture_as_clear men later None a b h e = e
could_capture_as_clear men later (Some x) a b h e =
    capture_before men later x.colour x.kind a b (λ lines on. h) (λ lines on. h) e

-- move m empties no second square, brings no rook, and what arrives is a piece and not an enemy
pub record IsPlain (p : Setup) (m : Move) : Type 0 where
  pub also : second_square_emptied p m ≡ None
  pub rook : castling_rook_to p m ≡ None
  pub mover : is_none (arriving_man (man_at p.men m.from) m.promotion) ≡ false
  pub own : is_of (other p.side) (arriving_man (man_at p.men m.from) m.promotion) ≡ false

-- what a plain move leaves on square k: on the mover's end what arrives, on its start nothing, elsewhere what was there
pub plain_after : (p : Setup) (m : Move) (k : ℕ) → IsPlain p m → k < 64
    → man_at (men_after p m) k ≡ cond (mover_end p m == k) (arriving_man (man_at p.men m.from) m.promotion)
    (cond (m.from == k) None (man_at p.men k))
unfolding man_after
plain_after p m k h l = man_at-men_after p m k l ∙ rw (h.also, h.rook) refl

-- ---- the king is as safe after such a move as with the mover taken off

-- a square that is not attacked stays so where each enemy that is there later was there before, and could capture there
-- if it can later
pub attacked_before : (men later : Men) (s : ℕ) (c : Colour)
    → ((b : ℕ) → b < 64 → is_of c (man_at later b) ≡ true → man_at later b ≡ man_at men b)
    → ((b : ℕ) → b < 64 → is_of c (man_at men b) ≡ true → could_capture_as later (man_at men b) b s ≡ true
    → could_capture_as men (man_at men b) b s ≡ true)
    → is_attacked men s c ≡ false → is_attacked later s c ≡ false
unfolding is_attacked attacks
attacked_before men later s c stood hits before =
    some_square-none _
    (λ b low.
    false_from_ne_true _
    (λ e.
    let both = and_parts (is_of c (man_at later b)) (could_capture_as later (man_at later b) b s) e in
    let same = stood b low both.0 in
    let was : is_of c (man_at men b) ≡ true = rw (← same) both.0 in
    both_ways _ before (some_square-at _ b low (and_from _ _ was (hits b low was (rw (← same) both.1))))))

-- an enemy that is there after the move was there before
pub enemy_before : (t : Bool) (arr o : Option Man) (c : Colour) → is_of c arr ≡ false → is_of c (cond t arr o) ≡ true
    → cond t arr o ≡ o
unfolding is_of
enemy_before true arr o c n e = absurd (both_ways _ n e)
enemy_before false arr o c n e = refl

-- and what is empty was empty
empty_before : (t : Bool) (arr o : Option Man) → is_none arr ≡ false → is_none (cond t arr o) ≡ true → is_none o ≡ true
empty_before true arr o g e = absurd (both_ways _ g e)
empty_before false arr o g e = e

-- so the pieces after it are those with the mover taken off, and the mover on its end square
pub lands_over : (p : Setup) (m : Move) (k : ℕ) → length p.men ≡ 64 → m.from < 64 → IsPlain p m → k < 64
    → man_at (men_after p m) k ≡ cond (mover_end p m == k) (arriving_man (man_at p.men m.from) m.promotion)
    (man_at (lifted p.men m.from) k)
lands_over p m k all low plain l =
    plain_after p m k plain l
    ∙ ap (λ o. cond (mover_end p m == k) (arriving_man (man_at p.men m.from) m.promotion) o)
    (ap (λ t. cond t None (man_at p.men k)) (eqb_comm m.from k) ∙ sym (lifted_at p.men m.from k all low))

-- a way that is clear after the move was clear with the mover taken off
clear_before : (p : Setup) (m : Move) (a b : ℕ) → length p.men ≡ 64 → m.from < 64 → IsPlain p m
    → is_clear (men_after p m) a b ≡ true → is_clear (lifted p.men m.from) a b ≡ true
unfolding is_clear
clear_before p m a b all low h e =
    each_square-all _
    (λ x l.
    elim (cases_Bool (is_between a b x)) [
      | inr out ↦ rw out refl
      | inl inside ↦
          let now = rw inside at (each_square-at _ e x l) in
          rw inside
          (empty_before (mover_end p m == x) (arriving_man (man_at p.men m.from) m.promotion)
          (man_at (lifted p.men m.from) x) h.mover
          (rw (lands_over p m x all low h l) at now))
    ])

-- so a square that was not attacked with the mover taken off is not attacked after the move
pub stays_safe : (p : Setup) (m : Move) (king : ℕ) → length p.men ≡ 64 → m.from < 64 → IsPlain p m
    → is_attacked (lifted p.men m.from) king (other p.side) ≡ false
    → is_attacked (men_after p m) king (other p.side) ≡ false
stays_safe p m king all low h =
    attacked_before (lifted p.men m.from) (men_after p m) king (other p.side)
    (λ a k own. lands_over p m a all low h k
    ∙ enemy_before (mover_end p m == a) (arriving_man (man_at p.men m.from) m.promotion) (man_at (lifted p.men m.from) a)
    (other p.side) h.own (rw (lands_over p m a all low h k) at own))
    (λ a k was. could_capture_as_clear _ _ (man_at (lifted p.men m.from) a) a king (clear_before p m a king all low h))

-- ---- moves that change only their two squares

pub not_passing : (p : Setup) (m : Move) → (is_man p.side Pawn (man_at p.men m.from) && is_at p.target m.to) ≡ false
    → is_en_passant p m ≡ false
unfolding is_en_passant
not_passing p m h = out (is_man p.side Pawn (man_at p.men m.from)) (attacks p.men m.from m.to) (is_at p.target m.to)
    h
  where
    out : (a b c : Bool) → (a && c) ≡ false → ((a && b) && c) ≡ false
    out a b c e = grind (arith, e)

pub lands_same : (o : Option Man) → arriving_man o None ≡ o
lands_same None = refl
lands_same (Some x) = refl

-- a move that is not the king's and not en passant fills its end square alone
pub fills_end : (p : Setup) (m : Move) (k : ℕ) → is_man p.side King (man_at p.men m.from) ≡ false
    → (is_man p.side Pawn (man_at p.men m.from) && is_at p.target m.to) ≡ false → (k == m.to) ≡ is_filled p m k
unfolding castling_rook_to mover_end
fills_end p m k no_king no_passing =
    rw (no_king_castles p m no_king) (eqb_comm k m.to ∙ sym (or-false (m.to == k)))

-- a move that is not the king's and not en passant changes its two squares alone
pub changes_both : (p : Setup) (m : Move) (k : ℕ) → is_man p.side King (man_at p.men m.from) ≡ false
    → (is_man p.side Pawn (man_at p.men m.from) && is_at p.target m.to) ≡ false
    → ((k == m.to) || (k == m.from)) ≡ is_changed p m k
unfolding second_square_emptied castling_rook_to mover_end
changes_both p m k no_king no_passing =
    rw (not_passing p m no_passing, no_king_castles p m no_king, eqb_comm k m.to, eqb_comm k m.from) (grind arith)

-- a pseudo-legal move that is neither castling nor en passant is plain
pub plain_by : (p : Setup) (m : Move) → is_pseudo_legal p m ≡ true → castle_of p m ≡ None → is_en_passant p m ≡ false
    → IsPlain p m
unfolding second_square_emptied castling_rook_to
plain_by p m pattern none still = record {
  also = rw (still, none) refl;
  rook = rw none refl;
  mover = mover_some p m pattern;
  own = mover_own p m pattern;
}
