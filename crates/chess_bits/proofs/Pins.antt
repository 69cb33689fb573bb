-- If an enemy attacks the king, or would with the mover off the board, each legal move of a piece other than the king
-- ends between the two, on this enemy, or on the en passant target (check_met, answered): otherwise the enemy would
-- attack the king afterwards. What hides a king from a queen, rook or bishop that aims at it: no piece, one
-- (`IsShield`), or more (none_hides, one_hides, many_hide). Squares with a square between them are on one line
-- (line_between).
use Rattle.chess_base.proofs.{shared.Changes.at_target, shared.Men.is_none-None, shared.Squares.each_square-all, shared.Squares.each_square-at, shared.Squares.some_square-at, shared.Geometry.between_back, shared.MenAfter.eqb_comm}
use Rattle.chess_bits.proofs.{TargetsOf.no_king_castles, Attackers.de_morgan, BetweenSquares.are_on_line, BoardSets.theirs_of, Freely.from_not, KingAfter.king_stays, KingAfter.check_after, KingAfter.legal_is, Lifted.lifted_at}
use Rattle.std.specs.Int.{abs_diff}
use Rattle.std.proofs.Common.{◌≡◌, ℕ, ◌+◌, ◌-◌, ◌<◌, ◌⊎◌, inl, inr, Bool, true, false, not, ◌&&◌, ◌||◌, ◌==◌, cond, Option, Some, None, is_none, length, refl, sym, ap, ◌∙◌, arith}
use Rattle.std.proofs.lemmas.Bool.Decides.{nat_tests}
use Rattle.std.proofs.lemmas.Bool.{and_parts, and_from, and_right, or_parts, or_cases, or_left, or_right, both_ways, cases_Bool, eqb-true, eq-eqb, false_from_ne_true, not-true}
use Rattle.chess_base.specs.{declared.man.Colour.Colour, declared.man.Colour.TheVariants.White, declared.man.Colour.TheVariants.Black, declared.man.Kind.Kind, declared.man.Man.Man, declared.man.Move.Move, declared.setup.Setup.Setup, Sound.IsSound, shared.Parts.crossed_rank, shared.Splits.could_capture_as, declared.line.Line.Line}
use Rattle.chess_base.specs.declared.man.Kind.TheVariants.{King, Queen, Rook, Bishop, Knight, Pawn}
use Rattle.chess_base.specs.Attacks.{is_clear, could_capture, attacks, is_attacked, is_in_check}
use Rattle.chess_base.specs.Castling.{castle_of, castle_from, mover_end, castling_rook_to}
use Rattle.chess_base.specs.Men.{Men, man_at, other, is_man, is_of, same_kind, same_colour, first_rank}
use Rattle.chess_base.specs.Moves.{is_pseudo_legal, is_legal, after, arriving_man, man_moves, men_after, second_square_emptied, promotion_fits}
use Rattle.chess_base.specs.Squares.{file, rank, is_between, is_strictly_between, is_at, share_rank_or_file, share_diagonal}
use Rattle.chess_base.proofs.shared.MoveKinds.{Moves, MoveKind, ManMoves, Castles, PawnMoves, moves_from_pattern, castles_unpromoted}
use Rattle.chess_moves.proofs.shared.Origins.{begins_below}
use Rattle.chess_moves.specs.Sets.{contains}
use Rattle.chess_bits.specs.{ties.Pins.aims_from, ties.Pins.IsShield, ties.Goes.lifted}
use Rattle.chess_base.specs.declared.line.Line.TheVariants.{Rank, File, Diagonal, Antidiagonal}
use Rattle.chess_base.specs.shared.Lines.{same_line, is_between_on_file, is_between_on_rank, is_between_on_diagonal}
use Rattle.chess_bits.proofs.Quiet.{IsPlain, lands_over, lands_same, not_passing, plain_by, could_capture_as_clear}

-- ---- no king arrives but one that leaves

-- what arrives is no king if the mover is none, promoted or not
promoted : (o : Option Man) (c : Colour) (k : Option Kind) (last : Bool) → is_man c King o ≡ false
    → promotion_fits last k ≡ true → is_man c King (arriving_man o k) ≡ false
unfolding is_man
promoted o c None last h fits = ap (is_man c King) (lands_same o) ∙ h
promoted None c (Some k) last h fits = h
promoted (Some x) c (Some King) last h fits = cc
promoted (Some x) c (Some Queen) last h fits = and_right (same_colour c x.colour) false refl
promoted (Some x) c (Some Rook) last h fits = and_right (same_colour c x.colour) false refl
promoted (Some x) c (Some Bishop) last h fits = and_right (same_colour c x.colour) false refl
promoted (Some x) c (Some Knight) last h fits = and_right (same_colour c x.colour) false refl
promoted (Some x) c (Some Pawn) last h fits = cc

unpromoted : (o : Option Man) (c : Colour) (k : Option Kind) → is_man c King o ≡ false → k ≡ None
    → is_man c King (arriving_man o k) ≡ false
unpromoted o c k h e = ap (λ n. is_man c King (arriving_man o n)) e ∙ ap (is_man c King) (lands_same o) ∙ h

pub no_king_arrives : (p : Setup) (m : Move) → is_man p.side King (man_at p.men m.from) ≡ false → MoveKind p m
    → is_man p.side King (arriving_man (man_at p.men m.from) m.promotion) ≡ false
unfolding man_moves
no_king_arrives p m h (ManMoves n e moves) =
    let parts = and_parts (is_none m.promotion && attacks p.men m.from m.to) (not (is_of p.side (man_at p.men m.to)))
    moves in
    let none = and_parts (is_none m.promotion) (attacks p.men m.from m.to) parts.0 in
    unpromoted (man_at p.men m.from) p.side m.promotion h (is_none-None m.promotion none.0)
no_king_arrives p m h (Castles w r e right way) =
    unpromoted (man_at p.men m.from) p.side m.promotion h (castles_unpromoted p m (castle_from p.side w m.from r) way)
no_king_arrives p m h (PawnMoves pawn fits kind) =
    promoted (man_at p.men m.from) p.side m.promotion (rank m.to == first_rank (other p.side)) h fits

-- the en passant target is not on the last rank
apart : (c : Colour) (s : ℕ) → rank s ≡ crossed_rank (other c) → rank s ≡ first_rank (other c) → ⊥
apart White s e f = omega (arith, e, f)
apart Black s e f = omega (arith, e, f)

pub no_target_there : (p : Setup) (b : ℕ) → IsSound p → rank b ≡ first_rank (other p.side)
    → is_at p.target b ≡ false
no_target_there p b sound last =
    false_from_ne_true _ (λ on. apart p.side b (at_target p b sound.target on).0 last)

-- ---- a piece taken off

-- a piece between b and k, on another square than a, shuts the way also with the piece on a taken off
closed_by : (men : Men) (a b k x : ℕ) → length men ≡ 64 → a < 64 → x < 64 → is_between b k x ≡ true
    → is_none (man_at men x) ≡ false → (x == a) ≡ false → is_clear (lifted men a) b k ≡ true → ⊥
unfolding is_clear
closed_by men a b k x all low high inside stands apart clear =
    let now = rw inside at (each_square-at _ clear x high) in
    let same : man_at (lifted men a) x ≡ man_at men x = lifted_at men a x all low
    ∙ ap (λ t. cond t None (man_at men x)) apart in
    both_ways (is_none (man_at men x)) stands (ap is_none (sym same) ∙ now)

-- so if that way is clear then, a piece between them can only be the one on a
only_there : (men : Men) (a b k x : ℕ) → length men ≡ 64 → a < 64 → x < 64 → is_between b k x ≡ true
    → is_none (man_at men x) ≡ false → is_clear (lifted men a) b k ≡ true → x ≡ a
only_there men a b k x all low high inside stands clear =
    elim (cases_Bool (x == a)) [
      | inl same ↦ eqb-true x a same
      | inr apart ↦ absurd (closed_by men a b k x all low high inside stands apart clear)
    ]

-- a clear way is clear also with a piece taken off
clear_lifted : (men : Men) (a b k : ℕ) → length men ≡ 64 → a < 64 → is_clear men b k ≡ true
    → is_clear (lifted men a) b k ≡ true
unfolding is_clear
clear_lifted men a b k all low clear =
    each_square-all _
    (λ x l.
    ap (λ o. not (is_between b k x) || is_none o) (lifted_at men a x all low)
    ∙ either (x == a) (is_between b k x) (man_at men x) (each_square-at _ clear x l))
  where
    either : (t i : Bool) (o : Option Man) → (not i || is_none o) ≡ true → (not i || is_none (cond t None o)) ≡ true
    either true i o h = or_right (not i) true refl
    either false i o h = h

-- ---- the way to the king

-- an enemy that attacks the king once the mover is off the board is captured, or the mover comes between them
pub must_end : (p : Setup) (m : Move) (king b : ℕ) → IsSound p → is_legal p m ≡ true → king < 64
    → ((k : ℕ) → k < 64 → is_man p.side King (man_at p.men k) ≡ (k == king))
    → is_man p.side King (man_at p.men m.from) ≡ false → b < 64 → is_of (other p.side) (man_at p.men b) ≡ true
    → could_capture_as (lifted p.men m.from) (man_at p.men b) b king ≡ true → is_at p.target m.to ≡ false
    → (is_between king b m.to || (m.to == b)) ≡ true
unfolding is_legal second_square_emptied castling_rook_to mover_end is_attacked attacks is_clear
must_end p m king b sound legal there one no_king low theirs hits no_target =
    elim (cases_Bool (is_between king b m.to || (m.to == b))) [
      | inl met ↦ met
      | inr missed ↦ absurd (both_ways (is_attacked (men_after p m) king (other p.side)) safe (struck missed))
    ]
  where
    pattern : is_pseudo_legal p m ≡ true
    pattern = (and_parts (is_pseudo_legal p m) (not (is_in_check (after p m).men p.side)) legal).0

    no_castle : castle_of p m ≡ None
    no_castle = no_king_castles p m no_king

    plain : IsPlain p m
    plain = plain_by p m pattern no_castle (not_passing p m
        (and_right (is_man p.side Pawn (man_at p.men m.from)) (is_at p.target m.to) no_target))

    moves : Moves p m
    moves = moves_from_pattern p m pattern

    ends : mover_end p m ≡ m.to
    ends = rw no_castle refl

    safe : is_attacked (men_after p m) king (other p.side) ≡ false
    safe =
        let king_there : is_man p.side King (man_at (men_after p m) king) ≡ true =
        king_stays p m king sound pattern one (no_king_arrives p m no_king moves.kind) in
        let calm = not-true _ (legal_is p m pattern ∙ legal) in
        sym (check_after p m king sound pattern there king_there) ∙ calm

    open_still : is_between king b m.to ≡ false → is_clear (lifted p.men m.from) b king ≡ true
        → is_clear (men_after p m) b king ≡ true
    open_still off clear =
        each_square-all _
        (λ x l.
        elim (cases_Bool (is_between b king x)) [
          | inr out ↦ rw out refl
          | inl inside ↦
              let now = rw inside at (each_square-at _ clear x l) in
              let apart : (mover_end p m == x) ≡ false =
              false_from_ne_true (mover_end p m == x)
              (λ same.
              both_ways (is_between king b m.to) off
              (ap (is_between king b) (sym ends ∙ eqb-true (mover_end p m) x same)
              ∙ between_back king b x ∙ inside)) in
              let left : man_at (men_after p m) x ≡ man_at (lifted p.men m.from) x =
              lands_over p m x sound.board moves.from_in plain l
              ∙ ap (λ t. cond t (arriving_man (man_at p.men m.from) m.promotion) (man_at (lifted p.men m.from) x)) apart
              in
              rw inside (ap is_none left ∙ now)
        ])

    struck : (is_between king b m.to || (m.to == b)) ≡ false
        → is_attacked (men_after p m) king (other p.side) ≡ true
    struck missed =
        let neither = or_parts (is_between king b m.to) (m.to == b) missed in
        let apart : (mover_end p m == b) ≡ false = ap (λ e. e == b) ends ∙ neither.1 in
        let away : (b == m.from) ≡ false =
        false_from_ne_true (b == m.from)
        (λ same.
        both_ways (is_of (other p.side) (man_at p.men b))
        (ap (λ k. is_of (other p.side) (man_at p.men k)) (eqb-true b m.from same)
        ∙ ap (is_of (other p.side)) moves.at_from ∙ theirs_of p.side moves.mover moves.own)
        theirs) in
        let stood : man_at (men_after p m) b ≡ man_at p.men b =
        lands_over p m b sound.board moves.from_in plain low
        ∙ ap (λ t. cond t (arriving_man (man_at p.men m.from) m.promotion) (man_at (lifted p.men m.from) b)) apart
        ∙ lifted_at p.men m.from b sound.board moves.from_in
        ∙ ap (λ t. cond t None (man_at p.men b)) away in
        let hit : could_capture_as (men_after p m) (man_at p.men b) b king ≡ true =
        could_capture_as_clear (men_after p m) (lifted p.men m.from) (man_at p.men b) b king (open_still neither.0) hits
        in
        some_square-at _ b low
        (and_from _ _ (ap (is_of (other p.side)) stood ∙ theirs)
        (ap (λ o. could_capture_as (men_after p m) o b king) stood ∙ hit))

-- if an enemy on b attacks the king once the mover is off the board, a legal move, not the king's, ends between the
-- two, on b, or on the en passant target
pub answered : (p : Setup) (m : Move) (king b : ℕ) → IsSound p → is_legal p m ≡ true → king < 64
    → ((k : ℕ) → k < 64 → is_man p.side King (man_at p.men k) ≡ (k == king))
    → is_man p.side King (man_at p.men m.from) ≡ false → b < 64 → is_of (other p.side) (man_at p.men b) ≡ true
    → could_capture_as (lifted p.men m.from) (man_at p.men b) b king ≡ true
    → ((is_between king b m.to || (m.to == b)) || is_at p.target m.to) ≡ true
answered p m king b sound legal there one no_king low theirs hits =
    elim (cases_Bool (is_at p.target m.to)) [
      | inl passing ↦ or_right (is_between king b m.to || (m.to == b)) (is_at p.target m.to) passing
      | inr plain ↦
          or_left (is_between king b m.to || (m.to == b)) (is_at p.target m.to)
          (must_end p m king b sound legal there one no_king low theirs hits plain)
    ]

-- ---- pieces that aim at a square

-- a queen, rook or bishop of colour c on a line of its kind with b could capture there, if the way is clear
aims_by : (s : Bool) (c : Colour) (k : Kind) (men : Men) (a b : ℕ)
    → ((((s && same_kind Rook k) || (s && same_kind Queen k)) && (not (a == b) && share_rank_or_file a b))
    || (((s && same_kind Bishop k) || (s && same_kind Queen k)) && (not (a == b) && share_diagonal a b)))
    ≡ true → is_clear men a b ≡ true → (s ≡ true) × (could_capture men c k a b ≡ true)
unfolding could_capture
aims_by false c k men a b h clear = cc
aims_by true c King men a b h clear = cc
aims_by true c Knight men a b h clear = cc
aims_by true c Pawn men a b h clear = cc
aims_by true c Queen men a b h clear = (refl, rw clear (grind (arith, h)))
aims_by true c Rook men a b h clear = (refl, rw clear (grind (arith, h)))
aims_by true c Bishop men a b h clear = (refl, rw clear (grind (arith, h)))

-- the same by the content o of square a
aims_as : (c : Colour) (o : Option Man) (men : Men) (a b : ℕ)
    → (((is_man c Rook o || is_man c Queen o) && (not (a == b) && share_rank_or_file a b))
    || ((is_man c Bishop o || is_man c Queen o) && (not (a == b) && share_diagonal a b)))
    ≡ true → is_clear men a b ≡ true → (is_of c o ≡ true) × (could_capture_as men o a b ≡ true)
unfolding is_man is_of
aims_as c None men a b h clear = cc
aims_as c (Some x) men a b h clear = aims_by (same_colour c x.colour) x.colour x.kind men a b h clear

-- an enemy on b that aims at k could capture there, if the way were clear
pub aims_hit : (p : Setup) (men : Men) (b k : ℕ) → aims_from p b k ≡ true → is_clear men b k ≡ true
    → (is_of (other p.side) (man_at p.men b) ≡ true) × (could_capture_as men (man_at p.men b) b k ≡ true)
aims_hit p men b k h clear = aims_as (other p.side) (man_at p.men b) men b k h clear

-- a piece on b that aims at k is on a rank, file or diagonal with it
pub aims_on_line : (p : Setup) (b k : ℕ) → aims_from p b k ≡ true → are_on_line b k ≡ true
aims_on_line p b k h =
    on (is_man (other p.side) Rook (man_at p.men b) || is_man (other p.side) Queen (man_at p.men b))
    (is_man (other p.side) Bishop (man_at p.men b) || is_man (other p.side) Queen (man_at p.men b)) (not (b == k))
    (share_rank_or_file b k) (share_diagonal b k) h
  where
    on : (x y n r d : Bool) → ((x && (n && r)) || (y && (n && d))) ≡ true → (r || d) ≡ true
    on x y n r d e = grind (arith, e)

-- ---- what hides it

-- nothing: h are the occupied squares between b and k. If there are none, the way is clear
pub none_hides : (men : Men) (h b k : ℕ)
    → ((x : ℕ) → x < 64 → contains h x ≡ (is_between k b x && not (is_none (man_at men x))))
    → ((x : ℕ) → x < 64 → contains h x ≡ false) → is_clear men b k ≡ true
unfolding is_clear
none_hides men h b k hides none =
    each_square-all _
    (λ x l. rw (between_back b k x)
    (sym (de_morgan (is_between k b x) (is_none (man_at men x))) ∙ ap not (sym (hides x l) ∙ none x l)))

-- one piece: s is in h, and r are the others of h. If there are none, the piece on s is the shield
pub one_hides : (p : Setup) (h r s b k : ℕ) → length p.men ≡ 64 → s < 64
    → ((x : ℕ) → x < 64 → contains h x ≡ (is_between k b x && not (is_none (man_at p.men x)))) → contains h s ≡ true
    → ((x : ℕ) → x < 64 → contains r x ≡ (contains h x && not (x == s))) → ((x : ℕ) → x < 64 → contains r x ≡ false)
    → IsShield p s b k
unfolding is_clear
one_hides p h r s b k all low hides here others none = record {
  low = low;
  opens = each_square-all _
      (λ x l.
      elim (cases_Bool (is_between b k x)) [
        | inr out ↦ rw out refl
        | inl inside ↦ rw inside (ap is_none (lifted_at p.men s x all low) ∙ empty x l inside (x == s) refl)
      ]);
  alone = λ a high apart clear.
      let both = and_parts (is_between k b s) (not (is_none (man_at p.men s))) (sym (hides s low) ∙ here) in
      absurd (closed_by p.men a b k s all high low (between_back b k s ∙ both.0) (not-true _ both.1)
      (eqb_comm s a ∙ apart) clear);
}
  where
    from_without : (c t : Bool) → t ≡ false → (c && not t) ≡ false → c ≡ false
    from_without c t e f = grind (arith, e, f)

    empty : (x : ℕ) → x < 64 → is_between b k x ≡ true → (t : Bool) → (x == s) ≡ t
        → is_none (cond t None (man_at p.men x)) ≡ true
    empty x l inside true e = refl
    empty x l inside false e =
        let away : contains h x ≡ false = from_without (contains h x) (x == s) e (sym (others x l) ∙ none x l) in
        from_not _ (sym (ap (λ t. t && not (is_none (man_at p.men x))) (between_back k b x ∙ inside)) ∙ sym (hides x l)
        ∙ away)

-- more than one: if the way is clear with the piece on a taken off, h has no second square
pub many_hide : (p : Setup) (h r s a b k : ℕ) → length p.men ≡ 64 → s < 64 → a < 64
    → ((x : ℕ) → x < 64 → contains h x ≡ (is_between k b x && not (is_none (man_at p.men x)))) → contains h s ≡ true
    → ((x : ℕ) → x < 64 → contains r x ≡ (contains h x && not (x == s)))
    → is_clear (lifted p.men a) b k ≡ true → (x : ℕ) → x < 64 → contains r x ≡ false
many_hide p h r s a b k all low high hides here others clear x l =
    others x l
    ∙ elim (cases_Bool (contains h x)) [
      | inr away ↦ rw away refl
      | inl there ↦
          let same : x ≡ s = only x l there ∙ sym (only s low here) in
          rw (eq-eqb x s same) (and_right (contains h x) false refl)
    ]
  where
    only : (y : ℕ) → y < 64 → contains h y ≡ true → y ≡ a
    only y m g =
        let both = and_parts (is_between k b y) (not (is_none (man_at p.men y))) (sym (hides y m) ∙ g) in
        only_there p.men a b k y all high m (between_back b k y ∙ both.0) (not-true _ both.1) clear

-- ---- what has squares between it is on one line

-- squares a, b and x have the files f, g and h and the ranks r, s and t: if x is between a and b on a file or on a
-- rank, these two share it
not_level : (f g h r s t : ℕ) (over along : Bool)
    → ((((h == f) && (h == g)) && over) || (((t == r) && (t == s)) && along)) ≡ true → (f == g) ≡ false
    → (r == s) ≡ false → ⊥
not_level f g h r s t over along e level upright = grind (arith, nat_tests, e, level, upright)

-- if x is between them on a diagonal, and they share none up to the right, they share one up to the left
aslant : (f r g s h t : ℕ) → f < 8 → g < 8 → h < 8
    → ((((abs_diff f h == abs_diff r t) && (abs_diff h g == abs_diff t s)) && is_strictly_between r s t)
    && is_strictly_between f g h) ≡ true
    → (r + 7 - f == s + 7 - g) ≡ false → (r + f == s + g) ≡ true
aslant f r g s h t lf lg lh e off = grind (arith, nat_tests, e, off, lf, lg, lh)

-- so squares with a square between them are on one line of some kind
pub line_between : (a b x : ℕ) → a < 64 → b < 64 → x < 64 → is_between a b x ≡ true
    → (l : Line) × (same_line l a b ≡ true)
unfolding is_between is_between_on_file is_between_on_rank is_between_on_diagonal
line_between a b x la lb lx h =
    elim (cases_Bool (same_line File a b)) [
      | inl e ↦ (File, e)
      | inr level ↦
          elim (cases_Bool (same_line Rank a b)) [
            | inl e ↦ (Rank, e)
            | inr upright ↦
                elim (cases_Bool (same_line Diagonal a b)) [
                  | inl e ↦ (Diagonal, e)
                  | inr off ↦
                      elim (or_cases (is_between_on_file a b x || is_between_on_rank a b x)
                      (is_between_on_diagonal a b x) h) [
                        | inl straight ↦ absurd (not_level (file a) (file b) (file x) (rank a) (rank b) (rank x)
                            (is_strictly_between (rank a) (rank b) (rank x))
                            (is_strictly_between (file a) (file b) (file x)) straight level upright)
                        | inr d ↦ (
                          Antidiagonal,
                          aslant (file a) (rank a) (file b) (rank b) (file x) (rank x) (omega arith) (omega arith)
                              (omega arith) d off,
                        )
                      ]
                ]
          ]
    ]

-- a square that is no longer in a set was taken out of it, or was not in it
pub taken_out : (before now one : Bool) → now ≡ (before && not one) → now ≡ false
    → (before ≡ false) ⊎ (one ≡ true)
taken_out true now true e h = inr refl
taken_out true now false e h = absurd (both_ways now h e)
taken_out false now one e h = inl refl

-- if the enemy on b gives check, a legal move, not the king's, ends between, on b, or on the en passant target
pub check_met : (p : Setup) (m : Move) (king b : ℕ) → IsSound p → is_legal p m ≡ true → king < 64
    → ((k : ℕ) → k < 64 → is_man p.side King (man_at p.men k) ≡ (k == king))
    → is_man p.side King (man_at p.men m.from) ≡ false → b < 64
    → (is_of (other p.side) (man_at p.men b) && attacks p.men b king) ≡ true
    → ((is_between king b m.to || (m.to == b)) || is_at p.target m.to) ≡ true
unfolding attacks
check_met p m king b sound legal there one no_king low gives =
    let both = and_parts (is_of (other p.side) (man_at p.men b)) (attacks p.men b king) gives in
    let start = begins_below p m legal in
    answered p m king b sound legal there one no_king low both.0
    (could_capture_as_clear (lifted p.men m.from) p.men (man_at p.men b) b king
    (clear_lifted p.men m.from b king sound.board start) both.1)
