-- A move is pseudo-legal in a sound position exactly if its mirror is in the mirrored position: shown test by test, for
-- pawns, other pieces and castling. Where a test asks for the square ahead (forward), the pawn must not be on its last
-- rank, since that square would be off the board.
use Rattle.std.proofs.Common.{◌≡◌, ◌≢◌, ℕ, ◌<◌, Bool, true, false, cond, Some, None, Option, refl, sym, ap, ap₂, ◌∙◌, arith, ◌==◌, subst, ◌||◌, ◌&&◌, not, is_none, option_and_then, option_map}
use Rattle.std.proofs.lemmas.Bool.{and_parts, and_from, both_ways, eqb-true, eq-eqb, lt-ltb, not-true, or_left, or_right}
use Rattle.chess_base.specs.{declared.castling.Castle.Castle, declared.man.CastlingSide.CastlingSide, declared.man.CastlingSide.TheVariants.KingSide, declared.man.CastlingSide.TheVariants.QueenSide, declared.man.Colour.Colour, declared.man.Colour.TheVariants.White, declared.man.Colour.TheVariants.Black, declared.man.Kind.Kind, declared.man.Kind.TheVariants.King, declared.man.Kind.TheVariants.Rook, declared.man.Kind.TheVariants.Pawn, declared.man.Man.Man, declared.man.Move.Move, declared.man.Rights.Rights, declared.man.Variant.Variant, declared.man.Variant.TheVariants.Normal, declared.man.Variant.TheVariants.Fischerandom, declared.setup.Setup.Setup, Squares.rank, Squares.is_at, Attacks.is_attacked, Sound.IsSound, Sound.no_pawn_on_end_ranks, shared.Parts.crossed_rank, shared.Splits.names_castling, shared.Splits.castles_or_moves}
use Rattle.chess_base.specs.Men.{Men, man_at, is_man, other, forward, first_rank, pawn_rank, same_colour, same_kind}
use Rattle.chess_base.specs.Castling.{home_square, king_home_file, castled_king_file, castled_rook_file, right_of, names_castling_with, is_castling_to, castling, castle_from, castle_of, is_on_way, castling_way_is_empty, castling_way_is_safe, castles}
use Rattle.chess_base.specs.Moves.{is_double_advance, is_en_passant, pawn_advances, pawn_captures, pawn_moves, man_moves, moves_as, is_pseudo_legal}
use Rattle.chess_base.proofs.shared.Castling.{castling_rook_is_there, right_is_sound_of, castled_king_file-below, castled_rook_file-below, home_square-below}
use Rattle.chess_base.proofs.{shared.Changes.at_target, shared.Men.in_board, shared.Parts.castling_way_is_empty_by, shared.Squares.each_square-at, shared.Squares.each_square_same}
use Rattle.rules_laws.specs.Mirror.{mirrored, mirrored_men, mirrored_rights, mirrored_setup, mirrored_move}
use Rattle.rules_laws.proofs.MirrorAttacks.{mirrored_in, other_rank, rank_in, same_square, same_ranks, each_mirrored, flipped, man_at-mirrored, same_colour-other, is_of-mirrored, is_man-mirrored, is_none-mirrored, is_between-mirrored, attacks-mirrored, is_attacked-mirrored}

-- ---- tests of which the first decides whether the others matter

-- b and c need to agree only where a is true
pub and_if : (a b c : Bool) → (a ≡ true → b ≡ c) → (a && b) ≡ (a && c)
and_if true b c h = h refl
and_if false b c h = refl

-- ---- squares ahead

-- the square ahead of the mirrored square is the mirror of the square ahead
pub forward-mirrored : (c : Colour) (s : ℕ) → s < 64 → rank s ≢ first_rank (other c)
    → forward (other c) (mirrored s) ≡ mirrored (forward c s)
forward-mirrored White s h off = omega (arith, h, off)
forward-mirrored Black s h off = omega (arith, h, off)

pub forward_in : (c : Colour) (s : ℕ) → s < 64 → rank s ≢ first_rank (other c) → forward c s < 64
forward_in White s h off = omega (arith, h, off)
forward_in Black s h off = omega (arith, h, off)

first_rank-mirrored : (c : Colour) (s : ℕ) → s < 64
    → (rank (mirrored s) == first_rank (other c)) ≡ (rank s == first_rank c)
first_rank-mirrored White s h = rw (other_rank s h) (same_ranks (rank s) 0 (rank_in s h) (omega arith))
first_rank-mirrored Black s h = rw (other_rank s h) (same_ranks (rank s) 7 (rank_in s h) (omega arith))

pawn_rank-mirrored : (c : Colour) (s : ℕ) → s < 64
    → (rank (mirrored s) == pawn_rank (other c)) ≡ (rank s == pawn_rank c)
pawn_rank-mirrored White s h = rw (other_rank s h) (same_ranks (rank s) 1 (rank_in s h) (omega arith))
pawn_rank-mirrored Black s h = rw (other_rank s h) (same_ranks (rank s) 6 (rank_in s h) (omega arith))

-- a pawn's initial rank is not its last one; nor is the rank ahead of it (off_last_again)
pub off_last : (c : Colour) (s : ℕ) → rank s ≡ pawn_rank c → rank s ≢ first_rank (other c)
off_last White s e f = omega (arith, e, f)
off_last Black s e f = omega (arith, e, f)

off_last_again : (c : Colour) (s : ℕ) → s < 64 → rank s ≡ pawn_rank c → rank (forward c s) ≢ first_rank (other c)
off_last_again White s h e f = omega (arith, h, e, f)
off_last_again Black s h e f = omega (arith, h, e, f)

-- b is two squares ahead of a, on a pawn's initial rank, exactly if it is so in the mirror
two_ahead : (c : Colour) (a b : ℕ) → a < 64 → b < 64 → rank a ≡ pawn_rank c
    → (mirrored b == forward (other c) (forward (other c) (mirrored a))) ≡ (b == forward c (forward c a))
two_ahead c a b h l e =
    let one = forward-mirrored c a h (off_last c a e) in
    let in_one = forward_in c a h (off_last c a e) in
    let two = forward-mirrored c (forward c a) in_one (off_last_again c a h e) in
    let in_two = forward_in c (forward c a) in_one (off_last_again c a h e) in
    rw (one, two) (same_square b (forward c (forward c a)) l in_two)

-- ---- pawns

pub double_advance-mirrored : (p : Setup) (m : Move) → m.from < 64 → m.to < 64
    → is_double_advance (mirrored_setup p) (mirrored_move m) ≡ is_double_advance p m
unfolding is_double_advance
double_advance-mirrored p m h l =
    ap₂ (λ (a b : Bool). a && b && (mirrored m.to == forward (other p.side) (forward (other p.side) (mirrored m.from))))
    (is_man-mirrored p.men p.side Pawn m.from h) (pawn_rank-mirrored p.side m.from h)
    ∙ and_if (is_man p.side Pawn (man_at p.men m.from) && (rank m.from == pawn_rank p.side)) _ _
    (λ e. two_ahead p.side m.from m.to h l (eqb-true _ _ (and_parts _ _ e).1))

-- an en passant target is on the board
low_rank : (c : Colour) (t : ℕ) → rank t ≡ crossed_rank c → t < 64
low_rank White t e = omega (arith, e)
low_rank Black t e = omega (arith, e)

pub target_in : (p : Setup) (t : ℕ) → IsSound p → p.target ≡ Some t → t < 64
target_in p t sound e =
    let here : is_at p.target t ≡ true = subst (λ (o : Option ℕ). is_at o t ≡ true) (sym e) (eq-eqb t t refl) in
    low_rank (other p.side) t (at_target p t sound.target here).0

-- an optional square, such as the target, is s exactly if their mirrors are the same
pub is_at-mirrored : (o : Option ℕ) (s : ℕ) → s < 64 → ((t : ℕ) → o ≡ Some t → t < 64)
    → is_at (option_map mirrored o) (mirrored s) ≡ is_at o s
is_at-mirrored None s l h = refl
is_at-mirrored (Some t) s l h = same_square t s (h t refl) l

pub at-mirrored : (p : Setup) (s : ℕ) → IsSound p → s < 64
    → is_at (option_map mirrored p.target) (mirrored s) ≡ is_at p.target s
at-mirrored p s sound l = is_at-mirrored p.target s l (λ t e. target_in p t sound e)

pub en_passant-mirrored : (p : Setup) (m : Move) → IsSound p → m.from < 64 → m.to < 64
    → is_en_passant (mirrored_setup p) (mirrored_move m) ≡ is_en_passant p m
unfolding is_en_passant
en_passant-mirrored p m sound h l =
    rw (is_man-mirrored p.men p.side Pawn m.from h, attacks-mirrored p.men m.from m.to h l, at-mirrored p m.to sound l) refl

-- a pawn of the side on move is not on its last rank
pub off_ends : (p : Setup) (s : ℕ) → IsSound p → s < 64 → is_man p.side Pawn (man_at p.men s) ≡ true
    → rank s ≢ first_rank (other p.side)
unfolding no_pawn_on_end_ranks
off_ends p s sound l pawn e =
    both_ways _ (not-true _ (each_square-at _ sound.pawns s l)) (and_from _ _ (of_side p.side pawn) (on_end p.side e))
  where
    of_side : (c : Colour) → is_man c Pawn (man_at p.men s) ≡ true
        → (is_man White Pawn (man_at p.men s) || is_man Black Pawn (man_at p.men s)) ≡ true
    of_side White h = or_left _ _ h
    of_side Black h = or_right _ _ h

    on_end : (c : Colour) → rank s ≡ first_rank (other c) → ((rank s == 0) || (rank s == 7)) ≡ true
    on_end White e = or_right (rank s == 0) (rank s == 7) (eq-eqb _ _ e)
    on_end Black e = or_left (rank s == 0) (rank s == 7) (eq-eqb _ _ e)

advances-mirrored : (p : Setup) (m : Move) → m.from < 64 → m.to < 64 → rank m.from ≢ first_rank (other p.side)
    → pawn_advances (mirrored_setup p) (mirrored_move m) ≡ pawn_advances p m
unfolding pawn_advances
advances-mirrored p m h l off =
    let ahead = forward-mirrored p.side m.from h off in
    let inside = forward_in p.side m.from h off in
    rw (
      ahead,
      is_none-mirrored p.men m.to l,
      same_square m.to (forward p.side m.from) l inside,
      double_advance-mirrored p m h l,
      is_none-mirrored p.men (forward p.side m.from) inside,
    ) refl

captures-mirrored : (p : Setup) (m : Move) → IsSound p → m.from < 64 → m.to < 64
    → pawn_captures (mirrored_setup p) (mirrored_move m) ≡ pawn_captures p m
unfolding pawn_captures
captures-mirrored p m sound h l =
    rw (attacks-mirrored p.men m.from m.to h l, is_of-mirrored p.men (other p.side) m.to l, at-mirrored p m.to sound l) refl

pawn_moves-mirrored : (p : Setup) (m : Move) → IsSound p → m.from < 64 → m.to < 64
    → rank m.from ≢ first_rank (other p.side)
    → pawn_moves (mirrored_setup p) (mirrored_move m) ≡ pawn_moves p m
unfolding pawn_moves
pawn_moves-mirrored p m sound h l off =
    rw (first_rank-mirrored (other p.side) m.to l, advances-mirrored p m h l off, captures-mirrored p m sound h l) refl

-- ---- other pieces

man_moves-mirrored : (p : Setup) (m : Move) → m.from < 64 → m.to < 64
    → man_moves (mirrored_setup p) (mirrored_move m) ≡ man_moves p m
unfolding man_moves
man_moves-mirrored p m h l = rw (attacks-mirrored p.men m.from m.to h l, is_of-mirrored p.men p.side m.to l) refl

-- ---- castling

-- the home square on a file, such as e1, has the other colour's home square, e8, as its mirror
pub home-mirrored : (c : Colour) (f : ℕ) → f < 8 → home_square (other c) f ≡ mirrored (home_square c f)
home-mirrored White f h = omega (arith, h)
home-mirrored Black f h = omega (arith, h)

home_named : (c : Colour) (f s : ℕ) → f < 8 → s < 64 → (mirrored s == home_square (other c) f) ≡ (s == home_square c f)
home_named c f s h l =
    ap (λ (t : ℕ). mirrored s == t) (home-mirrored c f h)
    ∙ same_square s (home_square c f) l (home_square-below c f h)

-- the right of the other colour in the mirror has the mirrored rook
pub right-mirrored : (r : Rights) (c : Colour) (w : CastlingSide)
    → right_of (mirrored_rights r) (other c) w ≡ option_map mirrored (right_of r c w)
right-mirrored r White KingSide = refl
right-mirrored r White QueenSide = refl
right-mirrored r Black KingSide = refl
right-mirrored r Black QueenSide = refl

-- the rook of a right is on the board
pub rook_in : (p : Setup) (c : Colour) (w : CastlingSide) (r : ℕ) → IsSound p → right_of p.rights c w ≡ Some r → r < 64
rook_in p c w r sound e =
    in_board p.men c Rook r sound.board (castling_rook_is_there p c w r (right_is_sound_of p sound c w) e)

same_rank : (a b : ℕ) → a < 64 → b < 64 → (rank (mirrored a) == rank (mirrored b)) ≡ (rank a == rank b)
same_rank a b h l = rw (other_rank a h, other_rank b l) (same_ranks (rank a) (rank b) (rank_in a h) (rank_in b l))

-- a move names castling with the rook r exactly if its mirror names it with the mirrored rook
names_with : (v : Variant) (c : Colour) (m : Move) (w : CastlingSide) (r : ℕ) → m.from < 64 → m.to < 64 → r < 64
    → names_castling_with v (other c) (mirrored_move m) w (mirrored r) ≡ names_castling_with v c m w r
names_with Normal c m w r h l k =
    ap₂ (λ (a b : Bool). a && b) (home_named c king_home_file m.from (omega arith) h)
    (home_named c (castled_king_file w) m.to (castled_king_file-below w) l)
names_with Fischerandom c m w r h l k =
    ap₂ (λ (a b : Bool). a && b) (same_rank m.from r h k) (same_square m.to r l k)

-- the same for an optional right o
names-mirrored : (v : Variant) (c : Colour) (m : Move) (w : CastlingSide) (o : Option ℕ) → m.from < 64 → m.to < 64
    → ((r : ℕ) → o ≡ Some r → r < 64)
    → names_castling v (other c) (mirrored_move m) w (option_map mirrored o) ≡ names_castling v c m w o
names-mirrored v c m w None h l k = refl
names-mirrored v c m w (Some r) h l k = names_with v c m w r h l (k r refl)

castling_to-mirrored : (p : Setup) (m : Move) (w : CastlingSide) → IsSound p → m.from < 64 → m.to < 64
    → is_castling_to (mirrored_setup p) (mirrored_move m) w ≡ is_castling_to p m w
unfolding is_castling_to
castling_to-mirrored p m w sound h l =
    ap₂ (λ (a b : Bool). a && b) (is_man-mirrored p.men p.side King m.from h)
    (ap (names_castling p.variant (other p.side) (mirrored_move m) w) (right-mirrored p.rights p.side w)
    ∙ names-mirrored p.variant p.side m w (right_of p.rights p.side w) h l (λ r e. rook_in p p.side w r sound e))

-- a move castles on the same side as its mirror, or neither castles
castling-mirrored : (p : Setup) (m : Move) → IsSound p → m.from < 64 → m.to < 64
    → castling (mirrored_setup p) (mirrored_move m) ≡ castling p m
unfolding castling
castling-mirrored p m sound h l =
    ap₂ (λ (a b : Bool). cond a (Some KingSide) (cond b (Some QueenSide) None))
    (castling_to-mirrored p m KingSide sound h l) (castling_to-mirrored p m QueenSide sound h l)

-- a castling of which each square is mirrored
abbrev pub mirrored_castle : Castle → Castle
mirrored_castle k = record {
  king_from = mirrored k.king_from;
  king_to = mirrored k.king_to;
  rook_from = mirrored k.rook_from;
  rook_to = mirrored k.rook_to;
}

castle_from-mirrored : (c : Colour) (w : CastlingSide) (king rook : ℕ)
    → castle_from (other c) w (mirrored king) (mirrored rook) ≡ mirrored_castle (castle_from c w king rook)
castle_from-mirrored c w king rook =
    ap₂ (λ (a b : ℕ). record { king_from = mirrored king; king_to = a; rook_from = mirrored rook; rook_to = b })
    (home-mirrored c (castled_king_file w) (castled_king_file-below w))
    (home-mirrored c (castled_rook_file w) (castled_rook_file-below w))

castle_with-mirrored : (c : Colour) (w : CastlingSide) (king : ℕ) (o : Option ℕ)
    → option_map (castle_from (other c) w (mirrored king)) (option_map mirrored o)
    ≡ option_map mirrored_castle (option_map (castle_from c w king) o)
castle_with-mirrored c w king None = refl
castle_with-mirrored c w king (Some r) = ap (λ (k : Castle). Some k) (castle_from-mirrored c w king r)

-- the same castling is made of a side o, if there is one, in the mirror
castle_by : (p : Setup) (m : Move) (o : Option CastlingSide)
    → option_and_then (λ w. option_map (castle_from (other p.side) w (mirrored m.from)) (right_of (mirrored_rights p.rights) (other p.side) w)) o
    ≡ option_map mirrored_castle (option_and_then (λ w. option_map (castle_from p.side w m.from) (right_of p.rights p.side w)) o)
castle_by p m None = refl
castle_by p m (Some w) =
    ap (λ (o : Option ℕ). option_map (castle_from (other p.side) w (mirrored m.from)) o) (right-mirrored p.rights p.side w)
    ∙ castle_with-mirrored p.side w m.from (right_of p.rights p.side w)

-- the castling that a move is, if any, is mirrored
pub castle-mirrored : (p : Setup) (m : Move) → IsSound p → m.from < 64 → m.to < 64
    → castle_of (mirrored_setup p) (mirrored_move m) ≡ option_map mirrored_castle (castle_of p m)
unfolding castle_of
castle-mirrored p m sound h l =
    ap (λ (o : Option CastlingSide). option_and_then (λ w. option_map (castle_from (other p.side) w (mirrored m.from)) (right_of (mirrored_rights p.rights) (other p.side) w)) o)
    (castling-mirrored p m sound h l)
    ∙ castle_by p m (castling p m)

-- the squares of a castling are on the board
pub record IsInBoard (k : Castle) : Type 0 where
  pub king_from : k.king_from < 64
  pub king_to : k.king_to < 64
  pub rook_from : k.rook_from < 64
  pub rook_to : k.rook_to < 64

on_way-mirrored : (a b x : ℕ) → a < 64 → b < 64 → x < 64 → is_on_way (mirrored a) (mirrored b) (mirrored x) ≡ is_on_way a b x
on_way-mirrored a b x h l k =
    rw (same_square x a k h, same_square x b k l, is_between-mirrored a b x h l k) refl

way_is_empty-mirrored : (men : Men) (k : Castle) → IsInBoard k
    → castling_way_is_empty (mirrored_men men) (mirrored_castle k) ≡ castling_way_is_empty men k
way_is_empty-mirrored men k h =
    castling_way_is_empty_by (mirrored_men men) (mirrored_castle k)
    ∙ sym (each_mirrored (λ x. not (is_on_way (mirrored k.king_from) (mirrored k.king_to) x || is_on_way (mirrored k.rook_from) (mirrored k.rook_to) x)
    || (x == mirrored k.king_from) || (x == mirrored k.rook_from) || is_none (man_at (mirrored_men men) x)))
    ∙ each_square_same _ (λ x. not (is_on_way k.king_from k.king_to x || is_on_way k.rook_from k.rook_to x)
    || (x == k.king_from) || (x == k.rook_from) || is_none (man_at men x)) (λ x l.
    rw (
      on_way-mirrored k.king_from k.king_to x h.king_from h.king_to l,
      on_way-mirrored k.rook_from k.rook_to x h.rook_from h.rook_to l,
      same_square x k.king_from l h.king_from,
      same_square x k.rook_from l h.rook_from,
      is_none-mirrored men x l,
    ) refl)
    ∙ sym (castling_way_is_empty_by men k)

way_is_safe-mirrored : (men : Men) (c : Colour) (k : Castle) → IsInBoard k
    → castling_way_is_safe (mirrored_men men) (other c) (mirrored_castle k) ≡ castling_way_is_safe men c k
unfolding castling_way_is_safe
way_is_safe-mirrored men c k h =
    sym (each_mirrored (λ x. not (is_on_way (mirrored k.king_from) (mirrored k.king_to) x)
    || not (is_attacked (mirrored_men men) x (other (other c)))))
    ∙ each_square_same _ _ (λ x l.
    rw (on_way-mirrored k.king_from k.king_to x h.king_from h.king_to l, is_attacked-mirrored men x (other c) l) refl)

castles-mirrored : (p : Setup) (m : Move) (k : Castle) → IsInBoard k
    → castles (mirrored_setup p) (mirrored_move m) (mirrored_castle k) ≡ castles p m k
unfolding castles
castles-mirrored p m k h = rw (way_is_empty-mirrored p.men k h, way_is_safe-mirrored p.men p.side k h) refl

-- castling by the right o is on the board; castle_in says so of the castling that a move is
castle_in_by : (p : Setup) (m : Move) (k : Castle) → IsSound p → m.from < 64 → (w : CastlingSide) (o : Option ℕ)
    → right_of p.rights p.side w ≡ o → option_map (castle_from p.side w m.from) o ≡ Some k → IsInBoard k
castle_in_by p m k sound h w None at e = cc
castle_in_by p m k sound h w (Some r) at e =
    let same : castle_from p.side w m.from r ≡ k = cc in
    subst IsInBoard same (record {
      king_from = h;
      king_to = home_square-below p.side (castled_king_file w) (castled_king_file-below w);
      rook_from = rook_in p p.side w r sound at;
      rook_to = home_square-below p.side (castled_rook_file w) (castled_rook_file-below w);
    })

castle_in_side : (p : Setup) (m : Move) (k : Castle) → IsSound p → m.from < 64 → (o : Option CastlingSide)
    → option_and_then (λ w. option_map (castle_from p.side w m.from) (right_of p.rights p.side w)) o ≡ Some k → IsInBoard k
castle_in_side p m k sound h None e = cc
castle_in_side p m k sound h (Some w) e = castle_in_by p m k sound h w (right_of p.rights p.side w) refl e

pub castle_in : (p : Setup) (m : Move) (k : Castle) → IsSound p → m.from < 64 → castle_of p m ≡ Some k → IsInBoard k
unfolding castle_of
castle_in p m k sound h e = castle_in_side p m k sound h (castling p m) e

-- ---- all kinds

-- the tests of a move that is the castling o, or none, are the same in the mirror
by_castle : (p : Setup) (m : Move) (o : Option Castle) → ((k : Castle) → o ≡ Some k → IsInBoard k) → m.from < 64
    → m.to < 64
    → castles_or_moves (mirrored_setup p) (mirrored_move m) (option_map mirrored_castle o) ≡ castles_or_moves p m o
by_castle p m None inside h l = man_moves-mirrored p m h l
by_castle p m (Some k) inside h l = castles-mirrored p m k (inside k refl)

castles_or_moves-mirrored : (p : Setup) (m : Move) → IsSound p → m.from < 64 → m.to < 64
    → castles_or_moves (mirrored_setup p) (mirrored_move m) (castle_of (mirrored_setup p) (mirrored_move m))
    ≡ castles_or_moves p m (castle_of p m)
castles_or_moves-mirrored p m sound h l =
    ap (castles_or_moves (mirrored_setup p) (mirrored_move m)) (castle-mirrored p m sound h l)
    ∙ by_castle p m (castle_of p m) (λ k e. castle_in p m k sound h e) h l

-- for a piece of the side on move: b says whether it is a pawn, so by which of the two tests it moves
kind_by : (p : Setup) (m : Move) (c : Colour) (b : Bool) (k : Kind) → same_kind Pawn k ≡ b → IsSound p → m.from < 64
    → m.to < 64 → same_colour p.side c ≡ true → man_at p.men m.from ≡ Some (record { colour = c; kind = k })
    → cond b (pawn_moves (mirrored_setup p) (mirrored_move m))
    (castles_or_moves (mirrored_setup p) (mirrored_move m) (castle_of (mirrored_setup p) (mirrored_move m)))
    ≡ cond b (pawn_moves p m) (castles_or_moves p m (castle_of p m))
unfolding is_man
kind_by p m c true k kind sound h l own at =
    let pawn : is_man p.side Pawn (man_at p.men m.from) ≡ true = rw at (and_from _ _ own kind) in
    pawn_moves-mirrored p m sound h l (off_ends p m.from sound h pawn)
kind_by p m c false k kind sound h l own at = castles_or_moves-mirrored p m sound h l

-- the same for what is on the move's start: nothing, or a piece of either colour
moves_by : (p : Setup) (m : Move) (o : Option Man) → IsSound p → m.from < 64 → m.to < 64 → man_at p.men m.from ≡ o
    → moves_as (mirrored_setup p) (mirrored_move m) (flipped o) ≡ moves_as p m o
moves_by p m None sound h l at = refl
moves_by p m (Some x) sound h l at =
    ap (λ (b : Bool). b && cond (same_kind Pawn x.kind) (pawn_moves (mirrored_setup p) (mirrored_move m))
    (castles_or_moves (mirrored_setup p) (mirrored_move m) (castle_of (mirrored_setup p) (mirrored_move m))))
    (same_colour-other p.side x.colour)
    ∙ and_if (same_colour p.side x.colour) _ _
    (λ own. kind_by p m x.colour (same_kind Pawn x.kind) x.kind refl sound h l own at)

pub pseudo_legal-mirrored : (p : Setup) (m : Move) → IsSound p → m.from < 64 → m.to < 64
    → is_pseudo_legal (mirrored_setup p) (mirrored_move m) ≡ is_pseudo_legal p m
unfolding is_pseudo_legal
pseudo_legal-mirrored p m sound h l =
    rw (
      lt-ltb _ _ h,
      lt-ltb _ _ l,
      lt-ltb _ _ (mirrored_in m.from h),
      lt-ltb _ _ (mirrored_in m.to l),
      man_at-mirrored p.men m.from h,
    )
    (moves_by p m (man_at p.men m.from) sound h l refl)
