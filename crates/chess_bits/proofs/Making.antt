-- The fast way to make a move that only takes a piece from one square to another (`Shifts`; `shift` of placing.rt):
-- what it leaves is the position after the move (after_shift), and what it saves is `saved_of` (saved_shifting). For
-- such a move two writes are what it changes on the board (plainly_written); rights stay if none is left, or if no king
-- or rook moves or is taken (none_lost, rights_kept), and only a pawn leaves a target (officer_leaves_no_target).
use mathlib.Core.Bool.{and-false}
use Rattle.std.proofs.Common.{◌≡◌, ◌≢◌, ℕ, true, false, not, ◌&&◌, Bool, length, set, refl, sym, ap, arith, ◌∙◌, ◌||◌, ◌==◌, Option, Some, None, is_none, if◌then◌else◌, is_some}
use Rattle.std.proofs.lemmas.Bool.{and_parts, and_left, and_right, both_ways, ne_eqb, not-true, or_parts}
use Rattle.std.proofs.lemmas.List.{set_comm}
use Rattle.chess_base.specs.{declared.man.CastlingSide.CastlingSide, declared.man.CastlingSide.TheVariants.KingSide, declared.man.CastlingSide.TheVariants.QueenSide, declared.man.Colour.Colour, declared.man.Colour.TheVariants.White, declared.man.Colour.TheVariants.Black, declared.man.Kind.Kind, declared.man.Man.Man, declared.man.Move.Move, declared.man.Rights.Rights, declared.setup.Saved.Saved, declared.setup.Setup.Setup, Squares.is_at, Before.man_on, Before.saved_of, Sound.IsSound, Attacks.is_in_check, shared.Parts.right_after}
use Rattle.chess_base.specs.declared.man.Kind.TheVariants.{King, Queen, Rook, Bishop, Knight, Pawn}
use Rattle.chess_base.specs.Men.{Men, man_at, other, is_man, is_of, same_colour, same_kind}
use Rattle.chess_base.specs.Castling.{castling_rook_to, mover_end, right_of, is_castling_to}
use Rattle.chess_base.specs.Moves.{after, captured_square, fullmove_after, halfmove_after, is_pseudo_legal, is_double_advance, is_legal, arriving_man, men_after, rights_after, second_square_emptied, target_after}
use Rattle.chess_base.proofs.{shared.Castling.castling_rook_is_there, shared.Castling.right_is_sound_of, shared.LegalMoves.change_of, shared.Captures.resets_clock_is, shared.Men.is_none-None, shared.MoveKinds.is_of-mover, shared.Writes.men_after-written}
use Rattle.chess_base.proofs.shared.Changes.{Change, Rest, Alone, WithCapture, WithRook}
use Rattle.chess_bits.specs.ties.Changes.{clock_left, goes_plainly, has_no_right, is_king_or_rook, shifted, shifts, IsPlainly}
use Rattle.chess_bits.proofs.{BoardSets.set_twice, Quiet.not_passing, TargetsOf.none_castles, TargetsOf.no_king_castles, TargetsOf.other_man}

-- ---- rights

-- if neither colour has a castling right, no colour c has one to a side w (none_of), so the rights after a move are
-- those before it (none_lost)
none_of : (r : Rights) (c : Colour) (w : CastlingSide) → has_no_right r ≡ true → right_of r c w ≡ None
none_of r White KingSide h = is_none-None r.white.king_side (grind (arith, h))
none_of r White QueenSide h = is_none-None r.white.queen_side (grind (arith, h))
none_of r Black KingSide h = is_none-None r.black.king_side (grind (arith, h))
none_of r Black QueenSide h = is_none-None r.black.queen_side (grind (arith, h))

pub none_lost : (p : Setup) (m : Move) → has_no_right p.rights ≡ true → p.rights ≡ rights_after p m
unfolding rights_after
none_lost p m h =
    rw (
      none_of p.rights White KingSide h,
      none_of p.rights White QueenSide h,
      none_of p.rights Black KingSide h,
      none_of p.rights Black QueenSide h,
    ) refl

no_king_or_rook : (c : Colour) (o : Option Man) → is_king_or_rook o ≡ false
    → (is_man c King o ≡ false) × (is_man c Rook o ≡ false)
unfolding is_man
no_king_or_rook c None e = (refl, refl)
no_king_or_rook c (Some x) e =
    let neither = or_parts (same_kind King x.kind) (same_kind Rook x.kind) e in
    (and_right (same_colour c x.colour) _ neither.0, and_right (same_colour c x.colour) _ neither.1)

-- a right (o) stays if neither the mover nor the content of the end square is a king or a rook
right_kept : (p : Setup) (m : Move) (c : Colour) (w : CastlingSide) (o : Option ℕ) → IsSound p
    → is_king_or_rook (man_at p.men m.from) ≡ false → is_king_or_rook (man_at p.men m.to) ≡ false
    → right_of p.rights c w ≡ o → right_after p m c o ≡ o
right_kept p m c w None sound mover taken at = refl
right_kept p m c w (Some s) sound mover taken at =
    let there = castling_rook_is_there p c w s (right_is_sound_of p sound c w) at in
    let starts = no_king_or_rook c (man_at p.men m.from) mover in
    let not_from : (m.from == s) ≡ false = ne_eqb m.from s (λ e. both_ways _ starts.1 (rw e there)) in
    let not_to : (m.to == s) ≡ false =
    ne_eqb m.to s (λ e. both_ways _ (no_king_or_rook c (man_at p.men m.to) taken).1 (rw e there)) in
    rw (starts.0, not_from, not_to) refl

-- all rights stay if neither the mover nor the content of the end square is a king or a rook
rights_kept_at : (p : Setup) (m : Move) → IsSound p
    → (is_king_or_rook (man_at p.men m.from) || is_king_or_rook (man_at p.men m.to)) ≡ false
    → p.rights ≡ rights_after p m
unfolding rights_after
rights_kept_at p m sound h =
    let none = or_parts (is_king_or_rook (man_at p.men m.from)) (is_king_or_rook (man_at p.men m.to)) h in
    rw (
      right_kept p m White KingSide p.rights.white.king_side sound none.0 none.1 refl,
      right_kept p m White QueenSide p.rights.white.queen_side sound none.0 none.1 refl,
      right_kept p m Black KingSide p.rights.black.king_side sound none.0 none.1 refl,
      right_kept p m Black QueenSide p.rights.black.queen_side sound none.0 none.1 refl,
    ) refl

pub rights_kept : (p : Setup) (m : Move) (x : Man) (o : Option Man) → IsSound p → man_at p.men m.from ≡ Some x
    → man_at p.men m.to ≡ o → (is_king_or_rook (Some x) || is_king_or_rook o) ≡ false → p.rights ≡ rights_after p m
rights_kept p m x o sound from to h = rights_kept_at p m sound (rw (from, to) h)

-- if neither colour has a castling right, no move is castling
no_right_says : (p : Setup) (m : Move) (w : CastlingSide) → has_no_right p.rights ≡ true → is_castling_to p m w ≡ false
unfolding is_castling_to
no_right_says p m w h = rw (none_of p.rights p.side w h) (and-false _)

-- ---- plain moves

-- a move is plain (neither castling nor en passant) if no king makes it, and no pawn to the target
no_king_plainly : (p : Setup) (m : Move) → is_man p.side King (man_at p.men m.from) ≡ false
    → (is_man p.side Pawn (man_at p.men m.from) && is_at p.target m.to) ≡ false → IsPlainly p m
no_king_plainly p m no_king no_passing = record {
  no_castle = no_king_castles p m no_king;
  no_passing = not_passing p m no_passing;
}

officer_plainly : (p : Setup) (m : Move) (x : Man) → man_at p.men m.from ≡ Some x → same_kind King x.kind ≡ false
    → same_kind Pawn x.kind ≡ false → IsPlainly p m
officer_plainly p m x at no_king no_pawn = no_king_plainly p m (other_man p.side King (man_at p.men m.from) x at no_king)
    (and_left _ _ (other_man p.side Pawn (man_at p.men m.from) x at no_pawn))

-- a plain move empties no second square, no rook arrives, and the mover ends on the end square
plain_second : (p : Setup) (m : Move) → IsPlainly p m → second_square_emptied p m ≡ None
unfolding second_square_emptied
plain_second p m h = rw (h.no_passing, h.no_castle) refl

plain_rook : (p : Setup) (m : Move) → IsPlainly p m → castling_rook_to p m ≡ None
unfolding castling_rook_to
plain_rook p m h = rw h.no_castle refl

plain_end : (p : Setup) (m : Move) → IsPlainly p m → mover_end p m ≡ m.to
unfolding mover_end
plain_end p m h = rw h.no_castle refl

-- the pieces after a plain move are those before it, with the start emptied and what arrives written on the end square
pub plainly_written : (p : Setup) (m : Move) → length p.men ≡ 64 → IsPlainly p m
    → set (set p.men m.from None) m.to (arriving_man (man_at p.men m.from) m.promotion) ≡ men_after p m
plainly_written p m all h =
    sym (men_after-written p m all ∙ rw (plain_second p m h, plain_rook p m h, plain_end p m h) refl)

-- ---- a piece that goes from one square to another, and changes no more than that

-- a move that passes the code's quick test (`goes_plainly`, of the mover's kind k) is plain
plainly_by : (p : Setup) (m : Move) (x : Man) → man_at p.men m.from ≡ Some x → (k : Kind) → x.kind ≡ k
    → goes_plainly p m k ≡ true → IsPlainly p m
plainly_by p m x at King e h = record {
  no_castle = none_castles p m (no_right_says p m KingSide h) (no_right_says p m QueenSide h);
  no_passing = not_passing p m
      (and_left _ _ (other_man p.side Pawn (man_at p.men m.from) x at (ap (λ k. same_kind Pawn k) e)));
}
plainly_by p m x at Pawn e h = no_king_plainly p m
    (other_man p.side King (man_at p.men m.from) x at (ap (λ k. same_kind King k) e))
    (and_right _ _ (not-true (is_at p.target m.to) h))
plainly_by p m x at Queen e h = officer_plainly p m x at (ap (same_kind King) e) (ap (same_kind Pawn) e)
plainly_by p m x at Rook e h = officer_plainly p m x at (ap (same_kind King) e) (ap (same_kind Pawn) e)
plainly_by p m x at Bishop e h = officer_plainly p m x at (ap (same_kind King) e) (ap (same_kind Pawn) e)
plainly_by p m x at Knight e h = officer_plainly p m x at (ap (same_kind King) e) (ap (same_kind Pawn) e)

-- move m takes the piece x, which is not promoted, from its start to its end square, and changes no other square
pub record Shifts (p : Setup) (m : Move) (x : Man) : Type 0 where
  pub mover : man_at p.men m.from ≡ Some x
  pub unpromoted : m.promotion ≡ None
  pub plainly : IsPlainly p m

-- a move that the code's test `shifted` accepts takes its piece from one square to the other and changes no more
-- (`Shifts`)
shifts_by : (p : Setup) (m : Move) (x : Man) (o : Option Man) → man_at p.men m.from ≡ o → shifted p m o ≡ Some x
    → Shifts p m x
shifts_by p m x None at e = cc
shifts_by p m x (Some y) at e = by (shifts p m y.kind) refl e
  where
    by : (t : Bool) → shifts p m y.kind ≡ t → (if t then Some y else None) ≡ Some x → Shifts p m x
    by false h f = cc
    by true h f =
        let both = and_parts (is_none m.promotion) (goes_plainly p m y.kind) h in
        record {
          mover = at ∙ f;
          unpromoted = is_none-None m.promotion both.0;
          plainly = plainly_by p m y at y.kind refl both.1;
        }

pub shifts_from : (p : Setup) (m : Move) (x : Man) → shifted p m (man_at p.men m.from) ≡ Some x → Shifts p m x
shifts_from p m x e = shifts_by p m x (man_at p.men m.from) refl e

change_legal : (p : Setup) (m : Move) → IsSound p → is_legal p m ≡ true → Change p m
unfolding is_legal
change_legal p m sound legal =
    change_of p m sound (and_parts (is_pseudo_legal p m) (not (is_in_check (after p m).men p.side)) legal).0

-- no own piece is on the end square
not_own : (p : Setup) (m : Move) → IsPlainly p m → Rest p m → is_of p.side (man_at p.men m.to) ≡ false
not_own p m h (Alone walk al ra) = walk.not_own
not_own p m h (WithCapture walk s al ra pawn to_empty mover) = walk.not_own
not_own p m h (WithRook s r al ra rook to_free r_free r_to king r_in to_in no_enemy) =
    let none = rw (plain_rook p m h) at ra in cc none

other_than : (c d : Colour) → same_colour c d ≡ false → same_colour (other c) d ≡ true
other_than White White e = cc
other_than White Black e = refl
other_than Black White e = refl
other_than Black Black e = cc

-- if a square has no piece of colour c, it has one of the other colour exactly if it isn't empty
theirs_there : (c : Colour) (o : Option Man) → is_of c o ≡ false → is_of (other c) o ≡ is_some o
unfolding is_of
theirs_there c None e = refl
theirs_there c (Some x) e = other_than c x.colour e

-- a legal move that shifts its piece does not end where it starts
pub apart : (p : Setup) (m : Move) (x : Man) → IsSound p → is_legal p m ≡ true → Shifts p m x → m.to ≢ m.from
apart p m x sound legal h same =
    let change = change_legal p m sound legal in
    both_ways _ (not_own p m h.plainly change.rest) (rw same (is_of-mover p m change.moves))

-- what the fast way saves, with the content o of the end square as what was captured
abbrev pub saving : Setup → Option Man → Saved
saving p o = record {
  captured = o;
  rights = p.rights;
  target = p.target;
  halfmove = p.halfmove;
  fullmove = p.fullmove;
}

-- what is captured is what was on the end square; so the same is saved as by `saved_of`
captured_on : (men : Men) (t : Bool) (s : ℕ)
    → (if t then man_at men s else None) ≡ man_on men (if t then Some s else None)
captured_on men true s = refl
captured_on men false s = refl

if_there : (o : Option Man) → o ≡ (if is_some o then o else None)
if_there None = refl
if_there (Some x) = refl

pub saved_shifting : (p : Setup) (m : Move) (x : Man) → IsSound p → is_legal p m ≡ true → Shifts p m x
    → saving p (man_at p.men m.to) ≡ saved_of p m
unfolding saved_of captured_square
saved_shifting p m x sound legal h =
    let change = change_legal p m sound legal in
    let theirs = theirs_there p.side (man_at p.men m.to) (not_own p m h.plainly change.rest) in
    let taken : man_at p.men m.to ≡ (if is_of (other p.side) (man_at p.men m.to) then man_at p.men m.to else None) =
    if_there (man_at p.men m.to) ∙ ap (λ t. if t then man_at p.men m.to else None) (sym theirs) in
    rw h.plainly.no_passing
    (ap (saving p) (taken ∙ captured_on p.men (is_of (other p.side) (man_at p.men m.to)) m.to))

-- only a pawn's move leaves a target
pub officer_leaves_no_target : (p : Setup) (m : Move) (x : Man) → man_at p.men m.from ≡ Some x
    → same_kind Pawn x.kind ≡ false → None ≡ target_after p m
unfolding target_after is_double_advance
officer_leaves_no_target p m x at off = rw (other_man p.side Pawn (man_at p.men m.from) x at off) refl

pawn_is : (c : Colour) (o : Option Man) (x : Man) → o ≡ Some x → is_of c o ≡ true
    → is_man c Pawn o ≡ same_kind Pawn x.kind
unfolding is_of is_man
pawn_is c o x at own = rw at (ap (λ t. t && same_kind Pawn x.kind) (rw at at own))

-- the halfmove clock, from the mover's kind and the content of the end square
clock_is : (p : Setup) (m : Move) (x : Man) → IsSound p → is_legal p m ≡ true → Shifts p m x
    → clock_left p.halfmove x.kind (man_at p.men m.to) ≡ halfmove_after p m
unfolding halfmove_after
clock_is p m x sound legal h =
    let change = change_legal p m sound legal in
    rw (
      resets_clock_is p m,
      pawn_is p.side (man_at p.men m.from) x h.mover (is_of-mover p m change.moves),
      theirs_there p.side (man_at p.men m.to) (not_own p m h.plainly change.rest),
    ) refl

-- the pieces after a move that shifts its piece: the start is emptied, and the piece written on the end square
men_shifted : (p : Setup) (m : Move) (x : Man) → IsSound p → Shifts p m x
    → set (set p.men m.from None) m.to (Some x) ≡ men_after p m
men_shifted p m x sound h =
    let lands : arriving_man (man_at p.men m.from) m.promotion ≡ Some x = rw (h.mover, h.unpromoted) refl in
    ap (λ o. set (set p.men m.from None) m.to o) (sym lands) ∙ plainly_written p m sound.board h.plainly

-- the fast way gives the position after the move: two writes, and rights, target and clock as computed
pub after_shift : (p : Setup) (m : Move) (x : Man) (rights : Rights) (target : Option ℕ) (n : ℕ) → IsSound p
    → is_legal p m ≡ true → Shifts p m x → rights ≡ rights_after p m → target ≡ target_after p m
    → n ≡ clock_left p.halfmove x.kind (man_at p.men m.to)
    → record {
      variant = p.variant;
      men = set (set p.men m.from None) m.to (Some x);
      side = other p.side;
      rights = rights;
      target = target;
      halfmove = n;
      fullmove = fullmove_after p.side p.fullmove;
    } ≡ after p m
unfolding after
after_shift p m x rights target n sound legal h r t e =
    rw (r, t, e, clock_is p m x sound legal h, men_shifted p m x sound h) refl

-- cleared first, the end square is filled as if it had been cleared last
pub shifted_over : (men : Men) (a b : ℕ) (o : Option Man) → b ≢ a
    → set (set (set men b None) a None) b o ≡ set (set men a None) b o
shifted_over men a b o away =
    ap (λ xs. set xs b o) (set_comm men b a None None away) ∙ set_twice (set men a None) b None o
