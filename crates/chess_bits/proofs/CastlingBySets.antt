-- Castling tested by sets. King and rook each go along one rank (on_rank), so the table has the squares on their ways.
-- The ways are empty if no other piece is met on them (way_is_empty), and the king's way is safe if no square of it is
-- attacked (way_is_safe); a castling is pseudo-legal exactly if both hold (castle_pattern). What it changes on the
-- board follows from its four squares (castle_steps).
use Rattle.chess_base.proofs.{shared.Squares.each_square_same, shared.Changes.no_en_passant, shared.Men.in_board, shared.Men.is_man-kind, shared.Parts.castling_way_is_empty_by}
use mathlib.Core.Bool.{and-true}
use Rattle.std.proofs.Common.{◌≡◌, ℕ, ◌<◌, Bool, true, false, not, ◌&&◌, ◌||◌, ◌==◌, Option, Some, None, is_none, refl, sym, ap, subst, ◌∙◌, arith}
use Rattle.std.proofs.lemmas.Bool.{and_parts, eqb-true}
use Rattle.std.specs.List.{list_any}
use Rattle.chess_base.specs.{declared.castling.Castle.Castle, declared.man.CastlingSide.CastlingSide, declared.man.CastlingSide.TheVariants.KingSide, declared.man.CastlingSide.TheVariants.QueenSide, declared.man.Colour.Colour, declared.man.Colour.TheVariants.White, declared.man.Colour.TheVariants.Black, declared.man.Kind.TheVariants.King, declared.man.Kind.TheVariants.Rook, declared.man.Kind.TheVariants.Pawn, declared.man.Move.Move, declared.man.Variant.Variant, declared.man.Variant.TheVariants.Normal, declared.man.Variant.TheVariants.Fischerandom, declared.setup.Setup.Setup, Attacks.is_attacked, shared.Parts.is_on_side_of_king, MoveList.move_of, shared.Splits.castles_or_moves, Sound.IsSound}
use Rattle.chess_base.specs.Castling.{home_square, king_home_file, rook_file, castled_king_file, castled_rook_file, right_of, king_square, is_to_side, are_placed_for_castling, right_is_sound, names_castling_with, castling, castle_from, castle_of, castles, is_on_way, castling_way_is_empty, castling_way_is_safe, castling_rook_to, mover_end}
use Rattle.chess_base.specs.Men.{Men, man_at, other, is_man, first_rank}
use Rattle.chess_base.specs.Moves.{is_pseudo_legal, is_legal, promotion_fits, arriving_man, second_square_emptied, steps_of}
use Rattle.chess_base.specs.Squares.{rank, each_square, some_square, squares}
use Rattle.chess_base.proofs.shared.Castling.{right_is_sound_of, placed_for_right, says_from_castling, castling_says, castle_there, no_castle, castled_king_file-below, castled_rook_file-below}
use Rattle.chess_moves.proofs.shared.AnyMove.{any-filter}
use Rattle.chess_moves.specs.{Promoting.would_promote, Sets.contains, Sets.members}
use Rattle.chess_bits.specs.ties.Goes.{goes}
use Rattle.chess_bits.proofs.{Patterns.pattern_by, Patterns.officer_goes, Patterns.not_promoting, TargetsOf.man_told, BetweenSquares.none_square}

-- ---- the squares of a castling are on one rank

rank_home : (c : Colour) (f : ℕ) → f < 8 → rank (home_square c f) ≡ first_rank c
rank_home White f h = omega (arith, h)
rank_home Black f h = omega (arith, h)

rook_low : (w : CastlingSide) → rook_file w < 8
rook_low KingSide = omega arith
rook_low QueenSide = omega arith

-- if move m names castling with the rook on r, and king and rook are where this begins, both start on the first rank
starts : (v : Variant) (men : Men) (c : Colour) (w : CastlingSide) (m : Move) (r : ℕ)
    → names_castling_with v c m w r ≡ true → are_placed_for_castling v men c w r ≡ true
    → (rank m.from ≡ first_rank c) × (rank r ≡ first_rank c)
starts Normal men c w m r n s =
    let from = eqb-true m.from (home_square c king_home_file)
    (and_parts (m.from == home_square c king_home_file) (m.to == home_square c (castled_king_file w)) n).0 in
    let two = and_parts ((r == home_square c (rook_file w)) && is_man c King
    (man_at men (home_square c king_home_file))) (is_man c Rook (man_at men r)) s in
    let rook = eqb-true r (home_square c (rook_file w))
    (and_parts (r == home_square c (rook_file w)) (is_man c King (man_at men (home_square c king_home_file)))
    two.0).0 in (
      ap (λ k. rank k) from ∙ rank_home c king_home_file (omega arith),
      ap (λ k. rank k) rook
          ∙ rank_home c (rook_file w) (rook_low w),
    )
starts Fischerandom men c w m r n s =
    let same = eqb-true (rank m.from) (rank r) (and_parts (rank m.from == rank r) (m.to == r) n).0 in
    let there = beside (king_square men c) (and_parts (is_on_side_of_king c w (king_square men c) r)
    (is_man c Rook (man_at men r)) s).0 in
    (same ∙ there, there)
  where
    beside : (o : Option ℕ) → is_on_side_of_king c w o r ≡ true → rank r ≡ first_rank c
    beside None e = cc
    beside (Some k) e =
        eqb-true (rank r) (first_rank c)
        (and_parts (rank k == first_rank c) (rank r == first_rank c)
        (and_parts ((rank k == first_rank c) && (rank r == first_rank c)) (is_to_side w k r) e).0).1

-- king and rook each end on the rank where they start
pub record OnRank (k : Castle) : Type 0 where
  pub kings : rank k.king_from ≡ rank k.king_to
  pub rooks : rank k.rook_from ≡ rank k.rook_to

-- in each castling of a sound position king and rook each end on the rank where they start
on_rank_by : (p : Setup) (m : Move) (k : Castle) → IsSound p → castle_of p m ≡ Some k → (o : Option CastlingSide)
    → castling p m ≡ o → OnRank k
unfolding right_is_sound
on_rank_by p m k sound e None none = let gone = no_castle p m none in absurd cc
on_rank_by p m k sound e (Some w) says =
    let there = castle_there p m w says in
    let names = (castling_says p m w (says_from_castling p m w says)).1 in
    let named : names_castling_with p.variant p.side m w there.0 ≡ true = rw there.1 at names in
    let stands = placed_for_right p.variant p.men p.side w (right_of p.rights p.side w) there.0
    (right_is_sound_of p sound p.side w) there.1 in
    let ranks = starts p.variant p.men p.side w m there.0 named stands in
    let same : castle_from p.side w m.from there.0 ≡ k = cc in
    subst OnRank same (record {
      kings = ranks.0 ∙ sym (rank_home p.side (castled_king_file w) (castled_king_file-below w));
      rooks = ranks.1 ∙ sym (rank_home p.side (castled_rook_file w) (castled_rook_file-below w));
    })

pub on_rank : (p : Setup) (m : Move) (k : Castle) → IsSound p → castle_of p m ≡ Some k → OnRank k
on_rank p m k sound e = on_rank_by p m k sound e (castling p m) refl

-- ---- each square

-- each square passes p, which is the opposite of q, exactly if none passes q
pub each_not : (p q : ℕ → Bool) → ((k : ℕ) → k < 64 → p k ≡ not (q k)) → each_square p ≡ not (some_square q)
each_not p q h = each_square_same p (λ k. not (q k)) h ∙ sym (none_square q)

crossed : (x y z u v : Bool) → (not (x || y) || z || u || v) ≡ not ((((x || y) && not z) && not u) && not v)
crossed x y z u v = grind arith

-- `met`: the occupied squares that king or rook crosses or ends on, but for those where the two start. There is none
-- exactly if the way is empty
pub way_is_empty : (men : Men) (k : Castle) (met : ℕ → Bool)
    → ((x : ℕ) → x < 64
    → met x ≡
    ((((is_on_way k.king_from k.king_to x || is_on_way k.rook_from k.rook_to x) && not (x == k.king_from))
    && not (x == k.rook_from)) && not (is_none (man_at men x))))
    → not (some_square met) ≡ castling_way_is_empty men k
way_is_empty men k met h =
    sym (castling_way_is_empty_by men k
    ∙ each_not (λ x. not (is_on_way k.king_from k.king_to x || is_on_way k.rook_from k.rook_to x) || (x == k.king_from)
    || (x == k.rook_from) || is_none (man_at men x)) met
    (λ x low. crossed (is_on_way k.king_from k.king_to x) (is_on_way k.rook_from k.rook_to x) (x == k.king_from)
    (x == k.rook_from) (is_none (man_at men x)) ∙ ap not (sym (h x low))))

-- no member of the set w passes q exactly if each square is outside w or fails q
pub none_of : (q : ℕ → Bool) (w : ℕ)
    → not (list_any q (members w)) ≡ each_square (λ x. not (contains w x) || not (q x))
unfolding members some_square
none_of q w =
    ap not (any-filter (λ x. contains w x) q squares)
    ∙ sym (each_not _ (λ x. contains w x && q x) (λ x low. grind arith))

-- no square of the king's way (`way`) is attacked exactly if the way is safe
pub way_is_safe : (men : Men) (c : Colour) (k : Castle) (way : ℕ → Bool)
    → ((x : ℕ) → x < 64 → way x ≡ is_on_way k.king_from k.king_to x)
    → each_square (λ x. not (way x) || not (is_attacked men x (other c))) ≡ castling_way_is_safe men c k
unfolding castling_way_is_safe
way_is_safe men c k way h = each_square_same _ _
    (λ x low. ap (λ t. not t || not (is_attacked men x (other c))) (h x low))

-- ---- the pattern of castling

-- a move that is castling is a king's
pub king_goes : (p : Setup) (m : Move) (k : Castle) → castle_of p m ≡ Some k → (o : Option CastlingSide)
    → castling p m ≡ o → is_man p.side King (man_at p.men m.from) ≡ true
king_goes p m k e None none = let gone = no_castle p m none in absurd cc
king_goes p m k e (Some w) says = (castling_says p m w (says_from_castling p m w says)).0

fits_none : (t : Bool) → t ≡ false → promotion_fits t None ≡ true
fits_none t e = rw e refl

-- a move that is castling, to side o, is pseudo-legal exactly if its way is empty and safe
castle_pattern_by : (p : Setup) (a b : ℕ) (k : Castle) → IsSound p → b < 64 → castle_of p (move_of a b None) ≡ Some k
    → is_pseudo_legal p (move_of a b None) ≡ (castling_way_is_empty p.men k && castling_way_is_safe p.men p.side k)
unfolding castles
castle_pattern_by p a b k sound high e =
    let king = king_goes p (move_of a b None) k e (castling p (move_of a b None)) refl in
    let at = man_told p.side King (man_at p.men a) king in
    let low = in_board p.men p.side King a sound.board king in
    pattern_by p a b None
    ∙ ap (λ f. goes p a b && f) (fits_none (would_promote p a b) (not_promoting p a b _ at refl))
    ∙ and-true (goes p a b)
    ∙ officer_goes p a b _ at refl refl low high
    ∙ ap (castles_or_moves p (move_of a b None)) e

-- a move that is castling and names no promotion is pseudo-legal exactly if its way is empty and safe
pub castle_pattern : (p : Setup) (m : Move) (k : Castle) → IsSound p → m.to < 64 → m.promotion ≡ None
    → castle_of p m ≡ Some k
    → is_pseudo_legal p m ≡ (castling_way_is_empty p.men k && castling_way_is_safe p.men p.side k)
castle_pattern p m k sound high none e =
    ap (λ o. is_pseudo_legal p (move_of m.from m.to o)) none
    ∙ castle_pattern_by p m.from m.to k sound high (ap (λ o. castle_of p (move_of m.from m.to o)) (sym none) ∙ e)

-- what a castling changes on the board (`steps_of`), given by its four squares
pub castle_steps : (p : Setup) (m : Move) (k : Castle) → castle_of p m ≡ Some k → m.promotion ≡ None
    → record {
      from = m.from;
      second_from = Some k.rook_from;
      second_to = Some k.rook_to;
      second = Some (record { colour = p.side; kind = Rook });
      to = k.king_to;
      mover =
          Some (record { colour = p.side; kind = King });
    } ≡ steps_of p m
unfolding second_square_emptied castling_rook_to mover_end
castle_steps p m k e none =
    let king = king_goes p m k e (castling p m) refl in
    let still = no_en_passant p m (is_man-kind p.side p.side King Pawn (man_at p.men m.from) refl king) in
    let mover : arriving_man (man_at p.men m.from) m.promotion ≡ Some (record { colour = p.side; kind = King }) =
    ap (λ o. arriving_man (man_at p.men m.from) o) none
    ∙ ap (λ o. arriving_man o None) (man_told p.side King (man_at p.men m.from) king) in
    rw (still, e, mover) refl

pub not_castling : (p : Setup) (m : Move) → is_pseudo_legal p m ≡ false → false ≡ is_legal p m
unfolding is_legal
not_castling p m h = rw h refl
