-- A move is legal exactly if its mirror is, and then the mirrored position comes after the mirrored move, but for the
-- fullmove number: shown for the board, checks, rights, target and clock, one after another.
use Rattle.std.proofs.Common.{◌≡◌, ◌≢◌, ℕ, zero, suc, ◌+◌, ◌<◌, Bool, true, false, Some, None, Option, refl, sym, ap, ap₂, ◌∙◌, arith, ◌==◌, min, subst, ◌||◌, ◌&&◌, not, ◌∷◌, option_and_then, if◌then◌else◌, map}
use Rattle.std.proofs.{Math.Path.fun_ext, lemmas.Bool.and_parts, lemmas.Bool.eqb-true}
use Rattle.std.specs.Option.{option_map, option_map_or}
use Rattle.chess_base.specs.{declared.castling.Castle.Castle, declared.man.CastlingSide.CastlingSide, declared.man.CastlingSide.TheVariants.KingSide, declared.man.CastlingSide.TheVariants.QueenSide, declared.man.Colour.Colour, declared.man.Colour.TheVariants.White, declared.man.Colour.TheVariants.Black, declared.man.Kind.Kind, declared.man.Kind.TheVariants.King, declared.man.Kind.TheVariants.Rook, declared.man.Kind.TheVariants.Pawn, declared.man.Man.Man, declared.man.Move.Move, declared.man.Rights.Rights, declared.man.Variant.Variant, declared.setup.Setup.Setup, Squares.rank, Squares.is_at, Squares.squares, Attacks.is_in_check, Castling.right_of, Castling.rights_by, Castling.castle_of, Sound.IsSound, shared.Below.from_below, shared.Parts.crossed_rank}
use Rattle.chess_base.specs.Men.{Men, man_at, is_man, is_of, other, forward, first_rank}
use Rattle.chess_base.specs.Moves.{arriving_man, captured_square, after_castling, after_moving, men_after, rights_after, target_after, halfmove_after, after, is_double_advance, is_en_passant, is_legal}
use Rattle.chess_base.proofs.{shared.Captures.resets_clock_is, shared.Changes.at_target, shared.MoveKinds.moves_from_pattern, shared.Squares.map_squares, shared.Squares.get_or-map_squares}
use Rattle.rules_laws.specs.Mirror.{mirrored, mirrored_men, mirrored_rights, mirrored_setup, mirrored_move, MirrorIsAsLegal, MirrorMovesAlike}
use Rattle.rules_laws.proofs.MirrorAttacks.{mirrored_in, twice, same_square, flipped, man_at-mirrored, is_of-mirrored, is_man-mirrored, is_in_check-mirrored}
use Rattle.rules_laws.proofs.MirrorMoves.{forward-mirrored, forward_in, off_last, double_advance-mirrored, is_at-mirrored, en_passant-mirrored, right-mirrored, rook_in, mirrored_castle, castle-mirrored, IsInBoard, castle_in, pseudo_legal-mirrored}

-- ---- lists over the squares

-- lists of the values of functions that agree below n
from_below_same : {A : Type 0} (n : ℕ) (f g : ℕ → A) → ((k : ℕ) → k < n → f k ≡ g k) → from_below n f ≡ from_below n g
from_below_same zero f g h = refl
from_below_same {A} (suc n) f g h =
    ap (λ (x : A). x ∷ from_below n (λ k. f (suc k))) (h zero (omega arith))
    ∙ ap (λ xs. g zero ∷ xs) (from_below_same n (λ k. f (suc k)) (λ k. g (suc k)) (λ k l. h (suc k) (omega (arith, l))))

-- functions that agree on the 64 squares make equal lists over them
map_same : {A : Type 0} (f g : ℕ → A) → ((k : ℕ) → k < 64 → f k ≡ g k) → map f squares ≡ map g squares
map_same f g h = map_squares f ∙ from_below_same 64 f g h ∙ sym (map_squares g)

-- ---- what is on a square afterwards

-- a piece that arrives, promoted or not, arrives in the mirror in the other colour
arriving-flipped : (o : Option Man) (k : Option Kind) → arriving_man (flipped o) k ≡ flipped (arriving_man o k)
arriving-flipped None k = refl
arriving-flipped (Some x) k = refl

flipped_if : (b : Bool) (x y : Option Man) → flipped (if b then x else y) ≡ (if b then flipped x else flipped y)
flipped_if true x y = refl
flipped_if false x y = refl

-- the captured square is mirrored, if the move captures en passant (passes), captures a piece of the other side (enemy)
-- or captures nothing; forward squares must be mirrored where it captures en passant
captured_by : (p : Setup) (m : Move) (passes enemy : Bool)
    → (passes ≡ true → forward (other (other p.side)) (mirrored m.to) ≡ mirrored (forward (other p.side) m.to))
    → (if passes then Some (forward (other (other p.side)) (mirrored m.to)) else if enemy then Some (mirrored m.to) else None)
    ≡ option_map mirrored (if passes then Some (forward (other p.side) m.to) else if enemy then Some m.to else None)
captured_by p m true enemy h = ap (λ (s : ℕ). Some s) (h refl)
captured_by p m false true h = refl
captured_by p m false false h = refl

-- a capture en passant doesn't end on a last rank, so the square of the captured pawn is on the board
passes_off : (p : Setup) (m : Move) → IsSound p → is_en_passant p m ≡ true → rank m.to ≢ first_rank (other (other p.side))
unfolding is_en_passant
passes_off p m sound e = by p.side (at_target p m.to sound.target (and_parts _ _ e).1).0
  where
    by : (c : Colour) → rank m.to ≡ crossed_rank (other c) → rank m.to ≢ first_rank (other (other c))
    by White at off = omega (arith, at, off)
    by Black at off = omega (arith, at, off)

-- the mirrored move captures on the mirrored square
captured-mirrored : (p : Setup) (m : Move) → IsSound p → m.from < 64 → m.to < 64
    → captured_square (mirrored_setup p) (mirrored_move m) ≡ option_map mirrored (captured_square p m)
unfolding captured_square
captured-mirrored p m sound h l =
    ap₂ (λ (a b : Bool). if a then Some (forward (other (other p.side)) (mirrored m.to)) else if b then Some (mirrored m.to) else None)
    (en_passant-mirrored p m sound h l) (is_of-mirrored p.men (other p.side) m.to l)
    ∙ captured_by p m (is_en_passant p m) (is_of (other p.side) (man_at p.men m.to))
    (λ e. forward-mirrored (other p.side) m.to l (passes_off p m sound e))

captured_in_by : (p : Setup) (m : Move) (t : ℕ) (passes enemy : Bool)
    → (passes ≡ true → forward (other p.side) m.to < 64) → m.to < 64
    → (if passes then Some (forward (other p.side) m.to) else if enemy then Some m.to else None) ≡ Some t → t < 64
captured_in_by p m t true enemy h l e = let same : forward (other p.side) m.to ≡ t = cc in subst (λ (s : ℕ). s < 64) same (h refl)
captured_in_by p m t false true h l e = let same : m.to ≡ t = cc in subst (λ (s : ℕ). s < 64) same l
captured_in_by p m t false false h l e = cc

-- the captured square is on the board
captured_in : (p : Setup) (m : Move) (t : ℕ) → IsSound p → m.to < 64 → captured_square p m ≡ Some t → t < 64
unfolding captured_square
captured_in p m t sound l e =
    captured_in_by p m t (is_en_passant p m) (is_of (other p.side) (man_at p.men m.to))
    (λ passes. forward_in (other p.side) m.to l (passes_off p m sound passes)) l e

-- what is on square t after a move that doesn't castle
moving-mirrored : (p : Setup) (m : Move) (t : ℕ) → IsSound p → m.from < 64 → m.to < 64 → t < 64
    → after_moving (mirrored_setup p) (mirrored_move m) (mirrored t) ≡ flipped (after_moving p m t)
moving-mirrored p m t sound h l k =
    rw (
      flipped_if (t == m.to) (arriving_man (man_at p.men m.from) m.promotion)
          (if (t == m.from) || is_at (captured_square p m) t then None else man_at p.men t),
      flipped_if ((t == m.from) || is_at (captured_square p m) t) None (man_at p.men t),
      same_square t m.to k l,
      same_square t m.from k h,
      captured-mirrored p m sound h l,
      is_at-mirrored (captured_square p m) t k (λ x e. captured_in p m x sound l e),
      man_at-mirrored p.men m.from h,
      man_at-mirrored p.men t k,
      arriving-flipped (man_at p.men m.from) m.promotion,
    ) refl

-- what is on square t after castling
castling-mirrored : (p : Setup) (m : Move) (k : Castle) (t : ℕ) → IsInBoard k → m.from < 64 → t < 64
    → after_castling (mirrored_setup p) (mirrored_move m) (mirrored_castle k) (mirrored t) ≡ flipped (after_castling p m k t)
castling-mirrored p m k t in_board h l =
    rw (
      flipped_if (t == k.king_to) (arriving_man (man_at p.men m.from) m.promotion)
          (if t == k.rook_to then Some (record { colour = p.side; kind = Rook })
          else if (t == k.king_from) || (t == k.rook_from) then None else man_at p.men t),
      flipped_if (t == k.rook_to) (Some (record { colour = p.side; kind = Rook }))
          (if (t == k.king_from) || (t == k.rook_from) then None else man_at p.men t),
      flipped_if ((t == k.king_from) || (t == k.rook_from)) None (man_at p.men t),
      same_square t k.king_to l in_board.king_to,
      same_square t k.rook_to l in_board.rook_to,
      same_square t k.king_from l in_board.king_from,
      same_square t k.rook_from l in_board.rook_from,
      man_at-mirrored p.men m.from h,
      man_at-mirrored p.men t l,
      arriving-flipped (man_at p.men m.from) m.promotion,
    ) refl

-- what is on square s after move m, where o is the castling that m is, if any
abbrev on_by : Setup → Move → ℕ → Option Castle → Option Man
on_by p m s o = option_map_or (λ k. after_castling p m k s) o (after_moving p m s)

-- the same for a move of which one knows whether it castles (o)
by_castle : (p : Setup) (m : Move) (t : ℕ) (o : Option Castle) → ((k : Castle) → o ≡ Some k → IsInBoard k) → IsSound p
    → m.from < 64 → m.to < 64 → t < 64
    → on_by (mirrored_setup p) (mirrored_move m) (mirrored t) (option_map mirrored_castle o) ≡ flipped (on_by p m t o)
by_castle p m t None inside sound h l k = moving-mirrored p m t sound h l k
by_castle p m t (Some c) inside sound h l k = castling-mirrored p m c t (inside c refl) h k

on-mirrored : (p : Setup) (m : Move) (t : ℕ) → IsSound p → m.from < 64 → m.to < 64 → t < 64
    → on_by (mirrored_setup p) (mirrored_move m) (mirrored t) (castle_of (mirrored_setup p) (mirrored_move m))
    ≡ flipped (on_by p m t (castle_of p m))
on-mirrored p m t sound h l k =
    ap (on_by (mirrored_setup p) (mirrored_move m) (mirrored t)) (castle-mirrored p m sound h l)
    ∙ by_castle p m t (castle_of p m) (λ c e. castle_in p m c sound h e) sound h l k

-- the whole board after the mirrored move is the mirrored board
pub men_after-mirrored : (p : Setup) (m : Move) → IsSound p → m.from < 64 → m.to < 64
    → men_after (mirrored_setup p) (mirrored_move m) ≡ mirrored_men (men_after p m)
unfolding men_after mirrored_men
men_after-mirrored p m sound h l =
    map_same (λ s. on_by (mirrored_setup p) (mirrored_move m) s (castle_of (mirrored_setup p) (mirrored_move m)))
    (λ s. flipped (man_at (map (λ x. on_by p m x (castle_of p m)) squares) (mirrored s)))
    (λ s k. ap (λ (x : ℕ). on_by (mirrored_setup p) (mirrored_move m) x (castle_of (mirrored_setup p) (mirrored_move m))) (sym (twice s k))
    ∙ on-mirrored p m (mirrored s) sound h l (mirrored_in s k)
    ∙ ap (λ (o : Option Man). flipped o)
    (sym (get_or-map_squares (λ x. on_by p m x (castle_of p m)) (mirrored s) None (mirrored_in s k))))

-- ---- legal moves

-- the move leaves its own king in check exactly if the mirrored move does
check-mirrored : (p : Setup) (m : Move) → IsSound p → m.from < 64 → m.to < 64
    → is_in_check (after (mirrored_setup p) (mirrored_move m)).men (other p.side) ≡ is_in_check (after p m).men p.side
unfolding after
check-mirrored p m sound h l =
    ap (λ (men : Men). is_in_check men (other p.side)) (men_after-mirrored p m sound h l)
    ∙ is_in_check-mirrored (men_after p m) p.side

pub mirror_is_as_legal : MirrorIsAsLegal
unfolding is_legal
mirror_is_as_legal p m sound h l =
    ap₂ (λ (a b : Bool). a && not b) (pseudo_legal-mirrored p m sound h l) (check-mirrored p m sound h l)

-- ---- the other parts of a position

-- a right is lost or kept alike in the mirror, by three tests: the king moves, the rook moves, or it is captured
lost_by : (king from to : Bool) (r : ℕ)
    → option_map mirrored (if king || from || to then None else Some r) ≡ (if king || from || to then None else Some (mirrored r))
lost_by true from to r = refl
lost_by false true to r = refl
lost_by false false true r = refl
lost_by false false false r = refl

-- the right of colour c with its rook on the square o, after move m: none if the king or that rook moves, or if the
-- rook is captured
abbrev kept : Men → Colour → Move → Option ℕ → Option ℕ
kept men c m o = option_and_then
    (λ (rook : ℕ). if is_man c King (man_at men m.from) || (m.from == rook) || (m.to == rook) then None else Some rook) o

kept-mirrored : (p : Setup) (m : Move) (c : Colour) (o : Option ℕ) → m.from < 64 → m.to < 64
    → ((r : ℕ) → o ≡ Some r → r < 64)
    → kept (mirrored_men p.men) (other c) (mirrored_move m) (option_map mirrored o) ≡ option_map mirrored (kept p.men c m o)
kept-mirrored p m c None h l inside = refl
kept-mirrored p m c (Some r) h l inside =
    rw (
      lost_by (is_man c King (man_at p.men m.from)) (m.from == r) (m.to == r) r,
      is_man-mirrored p.men c King m.from h,
      same_square m.from r h (inside r refl),
      same_square m.to r l (inside r refl),
    ) refl

-- a right of the other colour, by the right of this one
right_kept : (p : Setup) (m : Move) (c : Colour) (w : CastlingSide) → IsSound p → m.from < 64 → m.to < 64
    → kept (mirrored_men p.men) (other c) (mirrored_move m) (right_of (mirrored_rights p.rights) (other c) w)
    ≡ option_map mirrored (kept p.men c m (right_of p.rights c w))
right_kept p m c w sound h l =
    ap (kept (mirrored_men p.men) (other c) (mirrored_move m)) (right-mirrored p.rights c w)
    ∙ kept-mirrored p m c (right_of p.rights c w) h l (λ r e. rook_in p c w r sound e)

-- the right of a colour and side among rights that are given by a function
right_by : (f : Colour → CastlingSide → Option ℕ) (c : Colour) (w : CastlingSide) → right_of (rights_by f) c w ≡ f c w
right_by f White KingSide = refl
right_by f White QueenSide = refl
right_by f Black KingSide = refl
right_by f Black QueenSide = refl

-- the rights after the mirrored move are the mirrored ones
rights-mirrored : (p : Setup) (m : Move) → IsSound p → m.from < 64 → m.to < 64
    → rights_after (mirrored_setup p) (mirrored_move m) ≡ mirrored_rights (rights_after p m)
unfolding rights_after
rights-mirrored p m sound h l =
    ap rights_by (fun_ext (λ c. fun_ext (λ w. at c w ∙ ap (option_map mirrored)
    (sym (right_by (λ c w. kept p.men c m (right_of p.rights c w)) (other c) w)))))
  where
    at : (c : Colour) (w : CastlingSide)
        → kept (mirrored_men p.men) c (mirrored_move m) (right_of (mirrored_rights p.rights) c w)
        ≡ option_map mirrored (kept p.men (other c) m (right_of p.rights (other c) w))
    at White w = right_kept p m Black w sound h l
    at Black w = right_kept p m White w sound h l

-- a double advance doesn't start on the last rank, so the square ahead is on the board
double_starts : (p : Setup) (m : Move) → is_double_advance p m ≡ true → rank m.from ≢ first_rank (other p.side)
unfolding is_double_advance
double_starts p m e = off_last p.side m.from (eqb-true _ _ (and_parts _ _ (and_parts _ _ e).0).1)

-- the target is there exactly if the move is a double advance, and is then mirrored
target_by : (double : Bool) (s t : ℕ) → (double ≡ true → s ≡ mirrored t)
    → (if double then Some s else None) ≡ option_map mirrored (if double then Some t else None)
target_by true s t h = ap (λ (x : ℕ). Some x) (h refl)
target_by false s t h = refl

-- the target after the mirrored move is the mirrored one
target-mirrored : (p : Setup) (m : Move) → m.from < 64 → m.to < 64
    → target_after (mirrored_setup p) (mirrored_move m) ≡ option_map mirrored (target_after p m)
unfolding target_after
target-mirrored p m h l =
    ap (λ (b : Bool). if b then Some (forward (other p.side) (mirrored m.from)) else None) (double_advance-mirrored p m h l)
    ∙ target_by (is_double_advance p m) (forward (other p.side) (mirrored m.from)) (forward p.side m.from)
    (λ e. forward-mirrored p.side m.from h (double_starts p m e))

-- captures and pawn moves are the same in the mirror, so the halfmove clock is
clock-mirrored : (p : Setup) (m : Move) → m.from < 64 → m.to < 64
    → halfmove_after (mirrored_setup p) (mirrored_move m) ≡ halfmove_after p m
unfolding halfmove_after
clock-mirrored p m h l =
    ap (λ (b : Bool). if b then 0 else min (p.halfmove + 1) 999999)
    (resets_clock_is (mirrored_setup p) (mirrored_move m)
    ∙ ap₂ (λ (a b : Bool). a || b) (is_man-mirrored p.men p.side Pawn m.from h) (is_of-mirrored p.men (other p.side) m.to l)
    ∙ sym (resets_clock_is p m))

-- ---- the whole position

-- positions with equal parts are equal; the fullmove number n is taken to be one
parts_same : (v : Variant) (c : Colour) (n : ℕ) (men men' : Men) (r r' : Rights) (t t' : Option ℕ) (h h' : ℕ)
    → men ≡ men' → r ≡ r' → t ≡ t' → h ≡ h'
    → (let a : Setup = record { variant = v; men = men; side = c; rights = r; target = t; halfmove = h; fullmove = n } in
    let b : Setup = record { variant = v; men = men'; side = c; rights = r'; target = t'; halfmove = h'; fullmove = n } in
    a ≡ b)
parts_same v c n men men' r r' t t' h h' e f g k = rw (e, f, g, k) refl

pub mirror_moves_alike : MirrorMovesAlike
unfolding is_legal after
mirror_moves_alike p m sound legal =
    let moves = moves_from_pattern p m (and_parts _ _ legal).0 in
    let h = moves.from_in in
    let l = moves.to_in in
    parts_same p.variant (other (other p.side)) 1 _ _ _ _ _ _ _ _ (men_after-mirrored p m sound h l)
    (rights-mirrored p m sound h l) (target-mirrored p m h l) (clock-mirrored p m h l)
