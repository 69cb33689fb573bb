-- For boards: what a pseudo-legal move of a sound position changes (`Change`): what arrives, and what other squares it
-- empties or fills (`Rest`). Shown for a pawn's moves (change_of_pawn, by its three kinds) and for other pieces that
-- don't castle (change_of_man); CastlingChange has castling. Before them: where pawns attack and advance, and what a
-- sound target says.
use Rattle.std.proofs.Common.{◌≡◌, ◌≢◌, ℕ, ◌+◌, ◌<◌, ◌⊎◌, inl, inr, true, false, ◌&&◌, Option, Some, None, is_none, refl, arith, ◌==◌}
use Rattle.std.proofs.lemmas.Bool.{and_parts, and_left, and_right, or_cases, both_ways, eqb-true, eqb-false, false_from_ne_true, not-true}
use Rattle.std.specs.Int.{abs_diff}
use Rattle.chess_base.specs.{declared.man.Colour.Colour, declared.man.Colour.TheVariants.White, declared.man.Colour.TheVariants.Black, declared.man.Kind.Kind, declared.man.CastlingSide.CastlingSide, declared.man.CastlingSide.TheVariants.KingSide, declared.man.CastlingSide.TheVariants.QueenSide, declared.man.Man.Man, declared.man.Move.Move, Squares.rank, Squares.file, Squares.is_at, Attacks.attacks, Attacks.could_capture, shared.Splits.could_capture_as, declared.setup.Setup.Setup, Sound.IsSound, Sound.target_is_sound}
use Rattle.chess_base.specs.declared.man.Kind.TheVariants.{King, Queen, Rook, Bishop, Knight, Pawn}
use Rattle.chess_base.specs.Men.{Men, man_at, other, same_colour, same_kind, is_of, is_man, forward, first_rank, pawn_rank}
use Rattle.chess_base.specs.Castling.{castling_rook_to, castling, is_castling_to, mover_end}
use Rattle.chess_base.specs.Moves.{arriving_man, second_square_emptied, man_moves, pawn_advances, is_double_advance, promotion_fits, is_en_passant}
use Rattle.chess_base.specs.shared.Parts.{crossed_rank, is_rank_ahead, target_is_sound_at, one_rank_back}
use Rattle.chess_base.proofs.{shared.Parts.target_is_sound_is, shared.Castling.lands_on_to, shared.Castling.no_castle}
use Rattle.chess_base.proofs.shared.Men.{same_colour-true, not_is_man, is_man-kind, is_of-none, is_man-none, is_of-other, colour_cases, is_none-None}
use Rattle.chess_base.proofs.shared.MoveKinds.{Moves, PawnKind, Advances, Captures, TakesEnPassant, is_of-mover, no_king_where_attacked}

-- a kind that equals that of a pawn is it
pub pawn_from_same : (k : Kind) → same_kind Pawn k ≡ true → k ≡ Pawn
pawn_from_same King e = cc
pawn_from_same Queen e = cc
pawn_from_same Rook e = cc
pawn_from_same Bishop e = cc
pawn_from_same Knight e = cc
pawn_from_same Pawn e = refl

-- a pawn that could capture from a on b is one file beside b and one rank before it
pawn_attack_by : (men : Men) (c : Colour) (a b : ℕ) (o : Option Man) → is_man c Pawn o ≡ true
    → could_capture_as men o a b ≡ true
    → (abs_diff (file a) (file b) ≡ 1) × (is_rank_ahead c a b ≡ true)
unfolding is_man could_capture
pawn_attack_by men c a b None e h = cc
pawn_attack_by men c a b (Some x) e h =
    let man = and_parts _ _ e in
    let colour : c ≡ x.colour = same_colour-true _ _ man.0 in
    let kind : x.kind ≡ Pawn = pawn_from_same x.kind man.1 in
    let h' = rw (kind, ← colour) at h in
    let both = and_parts _ _ h' in
    (eqb-true _ _ both.0, both.1)

-- a pawn attacks one file aside and one rank ahead
pub pawn_attack : (men : Men) (c : Colour) (a b : ℕ) → is_man c Pawn (man_at men a) ≡ true → attacks men a b ≡ true
    → (abs_diff (file a) (file b) ≡ 1) × (is_rank_ahead c a b ≡ true)
unfolding attacks
pawn_attack men c a b e h = pawn_attack_by men c a b (man_at men a) e h

-- a rank ahead of another for White is the next one up
pub rank_ahead_White : (a b : ℕ) → is_rank_ahead White a b ≡ true → rank b ≡ rank a + 1
rank_ahead_White a b e = eqb-true _ _ e

-- a rank ahead of another for Black is the next one down
pub rank_ahead_Black : (a b : ℕ) → is_rank_ahead Black a b ≡ true → rank a ≡ rank b + 1
rank_ahead_Black a b e = eqb-true _ _ e

-- straight ahead is no capture
straight_one : (c : Colour) (a b : ℕ) → b ≡ forward c a → abs_diff (file a) (file b) ≡ 1 → is_rank_ahead c a b ≡ true
    → ⊥
straight_one White a b e g h = let r = rank_ahead_White a b h in omega (arith, r, e, g)
straight_one Black a b e g h = let r = rank_ahead_Black a b h in omega (arith, r, e, g)

-- a double advance is no step to the file beside
pub straight_two : (c : Colour) (a b : ℕ) → rank a ≡ pawn_rank c → b ≡ forward c (forward c a)
    → abs_diff (file a) (file b) ≡ 1 → is_rank_ahead c a b ≡ true → ⊥
straight_two White a b f e g h = let r = rank_ahead_White a b h in omega (arith, r, e, g)
straight_two Black a b f e g h = let r = rank_ahead_Black a b h in omega (arith, r, e, g)

-- where a pawn's advance goes
pub advance_goes : (p : Setup) (m : Move) → pawn_advances p m ≡ true
    → (m.to ≡ forward p.side m.from) ⊎ ((rank m.from ≡ pawn_rank p.side)
    × (m.to ≡ forward p.side (forward p.side m.from)))
unfolding pawn_advances is_double_advance
advance_goes p m e =
    let ways = and_parts _ _ e in
    elim (or_cases _ _ ways.1) [
      | inl one ↦ inl (eqb-true _ _ one)
      | inr two ↦
          let double = and_parts _ _ two in
          let parts = and_parts _ _ double.0 in
          let start = and_parts _ _ parts.0 in
          inr (
            eqb-true _ _ start.1,
            eqb-true _ _ parts.1,
          )
    ]

-- a pawn advances to an empty square
pub advance_to_empty : (p : Setup) (m : Move) → pawn_advances p m ≡ true → is_none (man_at p.men m.to) ≡ true
unfolding pawn_advances
advance_to_empty p m e = (and_parts _ _ e).0

-- a pawn doesn't attack the square to which it advances
pub advance_is_no_attack : (p : Setup) (m : Move) → is_man p.side Pawn (man_at p.men m.from) ≡ true
    → pawn_advances p m ≡ true → attacks p.men m.from m.to ≡ false
advance_is_no_attack p m man e =
    false_from_ne_true _ (λ h.
    let a = pawn_attack p.men p.side m.from m.to man h in
    elim (advance_goes p m e) [
      | inl one ↦ straight_one p.side m.from m.to one a.0 a.1
      | inr two ↦ straight_two p.side
          m.from m.to two.0 two.1 a.0 a.1
    ])

-- if the target (o) is s, and sound: s is empty and on the rank that enemy double advances cross, an enemy pawn is just
-- past it, and the square from which that came is empty
target_facts : (men : Men) (c : Colour) (o : Option ℕ) (s : ℕ) → target_is_sound_at men c o ≡ true
    → is_at o s ≡ true
    → (rank s ≡ crossed_rank (other c)) × (is_none (man_at men s) ≡ true)
    × (is_man (other c) Pawn (man_at men (forward (other c) s)) ≡ true)
    × (is_none (man_at men (forward c s)) ≡ true)
target_facts men c None s t e = cc
target_facts men c (Some u) s t e =
    let at : u ≡ s = eqb-true _ _ e in
    let t' : target_is_sound_at men c (Some s) ≡ true = rw (← at) t in
    let three = and_parts _ _ t' in
    let two = and_parts _ _ three.0 in
    let one = and_parts _ _ two.0 in
    (eqb-true _ _ one.0, one.1, two.1, three.1)

-- what a sound target says of its square and of the squares next to it on its file
pub at_target : (p : Setup) (s : ℕ) → target_is_sound p ≡ true → is_at p.target s ≡ true
    → (rank s ≡ crossed_rank (other p.side)) × (is_none (man_at p.men s) ≡ true)
    × (is_man (other p.side) Pawn (man_at p.men (one_rank_back p.side s)) ≡ true)
    × (is_none (man_at p.men (forward p.side s)) ≡ true)
at_target p s t e = target_facts p.men p.side p.target s (rw (target_is_sound_is p) at t) e

-- castling and en passant follow from the mover

-- a move of a piece that is no king castles to neither side
says_no_castling : (p : Setup) (m : Move) (w : CastlingSide) → is_man p.side King (man_at p.men m.from) ≡ false
    → is_castling_to p m w ≡ false
unfolding is_castling_to
says_no_castling p m w e = and_left _ _ e

-- a move of another piece than the king is no castling
pub no_castling : (p : Setup) (m : Move) → is_man p.side King (man_at p.men m.from) ≡ false → castling p m ≡ None
unfolding castling
no_castling p m e = simp (says_no_castling p m KingSide e, says_no_castling p m QueenSide e)

-- a move of another piece than a pawn is no capture en passant
pub no_en_passant : (p : Setup) (m : Move) → is_man p.side Pawn (man_at p.men m.from) ≡ false
    → is_en_passant p m ≡ false
unfolding is_en_passant
no_en_passant p m e =
    and_left _ _ (and_left _ _ e)

-- what is on the end square afterwards

-- what arrives: it has the mover's colour, is a king exactly if the mover is one, and if it is a pawn it is on neither
-- end rank
pub record Arrival (p : Setup) (m : Move) : Type 0 where
  pub of : (c : Colour) → is_of c (arriving_man (man_at p.men m.from) m.promotion) ≡ is_of c (man_at p.men m.from)
  pub king : (c : Colour) → is_man c King (arriving_man (man_at p.men m.from) m.promotion)
      ≡ is_man c King (man_at p.men m.from)
  pub pawn : (c : Colour) → is_man c Pawn (arriving_man (man_at p.men m.from) m.promotion) ≡ true
      → (rank (mover_end p m) ≢ 0) × (rank (mover_end p m) ≢ 7)

-- a move that does not castle: the mover goes to the end square, which holds no piece of its colour, and no king
pub record Walk (p : Setup) (m : Move) : Type 0 where
  pub lands : mover_end p m ≡ m.to
  pub not_own : is_of p.side (man_at p.men m.to) ≡ false
  pub no_king : is_man (other p.side) King (man_at p.men m.to) ≡ false

-- x is empty, or it is a or e: so it is free once king and rook have left a and e
abbrev pub IsFreedIn : Men → ℕ → ℕ → ℕ → Type 0
IsFreedIn men a e x = x ≢ a → x ≢ e → is_none (man_at men x) ≡ true

-- the same on the board of position p
abbrev pub IsFreed : Setup → ℕ → ℕ → ℕ → Type 0
IsFreed p a e x = IsFreedIn p.men a e x

-- ---- what else a move changes

-- besides the mover: nothing, or it takes the pawn on e en passant, or it castles with the rook that goes from e to r
pub data Rest (p : Setup) (m : Move) : Type 0 where
  Alone : Walk p m → second_square_emptied p m ≡ None → castling_rook_to p m ≡ None → Rest p m
  WithCapture : Walk p m → (e : ℕ) → second_square_emptied p m ≡ Some e → castling_rook_to p m ≡ None
      → is_man (other p.side) Pawn (man_at p.men e) ≡ true → is_none (man_at p.men m.to) ≡ true
      → is_man p.side Pawn (man_at p.men m.from) ≡ true → Rest p m
  WithRook : (e r : ℕ) → second_square_emptied p m ≡ Some e → castling_rook_to p m ≡ Some r
      → is_man p.side Rook (man_at p.men e) ≡ true → IsFreed p m.from e (mover_end p m) → IsFreed p m.from e r
      → r ≢ mover_end p m
      → is_man p.side King (man_at p.men m.from) ≡ true → r < 64 → mover_end p m < 64
      → is_of (other p.side) (man_at p.men m.to) ≡ false → Rest p m

-- what a pseudo-legal move of a sound position changes
pub record Change (p : Setup) (m : Move) : Type 0 where
  pub moves : Moves p m
  pub arrival : Arrival p m
  pub rest : Rest p m

-- a piece that does not promote arrives as it left
pub arrival_as_it_left : (p : Setup) (m : Move) (x : Man) → man_at p.men m.from ≡ Some x → m.promotion ≡ None
    → ((c : Colour) → is_man c Pawn (Some x) ≡ true → (rank (mover_end p m) ≢ 0) × (rank (mover_end p m) ≢ 7))
    → Arrival p m
arrival_as_it_left p m x at e pawn = record {
  of = λ c. rw (at, e) refl;
  king = λ c. rw (at, e) refl;
  pawn = λ c k. (let k' = rw (at, e) at k in pawn c k');
}

-- the other colour is another
pub not_same_other : (c : Colour) → same_colour (other c) c ≡ false
not_same_other White = refl
not_same_other Black = refl

-- a piece that is no pawn of its colour is a pawn of none
pub no_pawn_of : (c : Colour) (x : Man) → x.colour ≡ c → is_man c Pawn (Some x) ≡ false → (d : Colour)
    → is_man d Pawn (Some x) ≡ false
unfolding is_of
no_pawn_of c x own e d =
    elim (colour_cases c d) [
      | inl same ↦ rw same e
      | inr differs ↦ not_is_man _ _ _ (rw (differs, own) (not_same_other c))
    ]

-- what a move of a piece changes that is neither a pawn nor castles
pub change_of_man : (p : Setup) (m : Move) → IsSound p → Moves p m → is_man p.side Pawn (man_at p.men m.from) ≡ false
    → castling p m ≡ None → man_moves p m ≡ true → Change p m
unfolding man_moves second_square_emptied castling_rook_to
change_of_man p m sound moves n c e =
    let parts = and_parts _ _ e in
    let first = and_parts _ _ parts.0 in
    let passed = no_en_passant p m n in
    let promotion = is_none-None _ first.0 in
    let none = no_castle p m c in
    let n' : is_man p.side Pawn (Some moves.mover) ≡ false = rw (← moves.at_from) n in
    record {
      moves = moves;
      arrival = arrival_as_it_left p m moves.mover moves.at_from promotion
          (λ d k. absurd (both_ways _ (no_pawn_of p.side moves.mover moves.own n' d) k));
      rest =
          Alone (record {
            lands = lands_on_to p m c;
            not_own = not-true _ parts.1;
            no_king = no_king_where_attacked p.men p.side m.from m.to moves.from_in moves.to_in (is_of-mover p m moves)
                first.1 sound.check;
          }) (simp (passed, none)) (simp none);
    }

-- a pawn does not reach its own first rank
leaves_first_rank : (c : Colour) (a b : ℕ) → a < 64
    → (b ≡ forward c a) ⊎ ((rank a ≡ pawn_rank c) × (b ≡ forward c (forward c a))) → rank b ≢ first_rank c
leaves_first_rank White a b h (inl e) f = omega arith
leaves_first_rank White a b h (inr e) f = omega (arith, e.1)
leaves_first_rank Black a b h (inl e) f = omega arith
leaves_first_rank Black a b h (inr e) f = omega (arith, e.1)

-- no square one rank ahead is on the colour's first rank
ahead_leaves_first_rank : (c : Colour) (a b : ℕ) → a < 64 → is_rank_ahead c a b ≡ true → rank b ≢ first_rank c
ahead_leaves_first_rank White a b h e f = let r = rank_ahead_White a b e in omega (arith, r)
ahead_leaves_first_rank Black a b h e f = let r = rank_ahead_Black a b e in omega (arith, r)

-- no pawn's move ends on its side's first rank
pawn_leaves_first_rank : (p : Setup) (m : Move) → m.from < 64 → is_man p.side Pawn (man_at p.men m.from) ≡ true
    → PawnKind p m → rank m.to ≢ first_rank p.side
pawn_leaves_first_rank p m h man (Advances e) = leaves_first_rank p.side m.from m.to h (advance_goes p m e)
pawn_leaves_first_rank p m h man (Captures e taken) =
    ahead_leaves_first_rank p.side m.from m.to h (pawn_attack p.men p.side m.from m.to man e).1
pawn_leaves_first_rank p m h man (TakesEnPassant e at) =
    ahead_leaves_first_rank p.side m.from m.to h (pawn_attack p.men p.side m.from m.to man e).1

-- a rank that is neither side's first rank is neither rank 1 nor rank 8
neither_end : (c : Colour) (n : ℕ) → n ≢ first_rank c → n ≢ first_rank (other c) → (n ≢ 0) × (n ≢ 7)
neither_end White n a b = (a, b)
neither_end Black n a b = (b, a)

-- a pawn that promotes arrives as neither king nor pawn
promoted : (p : Setup) (m : Move) (x : Man) (k : Kind) → man_at p.men m.from ≡ Some x
    → is_man p.side Pawn (man_at p.men m.from) ≡ true → m.promotion ≡ Some k → same_kind King k ≡ false
    → same_kind Pawn k ≡ false → Arrival p m
unfolding is_of is_man
promoted p m x k at man e king pawn = record {
  of = λ c. rw at refl;
  king = λ c.
      let not_king : is_man c King (man_at p.men m.from) ≡ false =
      is_man-kind p.side c Pawn King (man_at p.men m.from) refl man in
      let not_king' : (same_colour c x.colour && same_kind King k) ≡ false =
      and_right (same_colour c x.colour) (same_kind King k) king in
      rw (not_king, at, e) not_king';
  pawn = λ c h.
      let h' = rw (at, e) at h in
      absurd (both_ways (same_kind Pawn k) pawn (and_parts (same_colour c x.colour) (same_kind Pawn k) h').1);
}

-- what arrives by a pawn's move is the pawn, off the end ranks, or the piece it promotes to
pawn_arrival : (p : Setup) (m : Move) (x : Man) → man_at p.men m.from ≡ Some x
    → is_man p.side Pawn (man_at p.men m.from) ≡ true → rank m.to ≢ first_rank p.side → mover_end p m ≡ m.to
    → (o : Option Kind) → m.promotion ≡ o → promotion_fits (rank m.to == first_rank (other p.side)) o ≡ true
    → Arrival p m
pawn_arrival p m x at man away lands None e fits =
    arrival_as_it_left p m x at e
    (λ c k. rw lands (neither_end p.side (rank m.to) away (eqb-false _ _ (not-true _ fits))))
pawn_arrival p m x at man away lands (Some King) e fits = cc
pawn_arrival p m x at man away lands (Some Queen) e fits = promoted p m x Queen at man e refl refl
pawn_arrival p m x at man away lands (Some Rook) e fits = promoted p m x Rook at man e refl refl
pawn_arrival p m x at man away lands (Some Bishop) e fits = promoted p m x Bishop at man e refl refl
pawn_arrival p m x at man away lands (Some Knight) e fits = promoted p m x Knight at man e refl refl
pawn_arrival p m x at man away lands (Some Pawn) e fits = cc

-- a pawn doesn't castle
pub pawn_no_castling : (p : Setup) (m : Move) → is_man p.side Pawn (man_at p.men m.from) ≡ true → castling p m ≡ None
pawn_no_castling p m man = no_castling p m (is_man-kind _ _ _ _ _ refl man)

-- a move that neither takes en passant nor castles empties no second square, and no rook arrives
rest_alone : (p : Setup) (m : Move) → Walk p m → is_en_passant p m ≡ false → castling p m ≡ None → Rest p m
unfolding second_square_emptied castling_rook_to
rest_alone p m walk e c = let none = no_castle p m c in Alone walk (simp (e, none)) (simp none)

-- a pawn's capture on the target empties the square of the pawn taken, and no rook arrives
rest_with_capture : (p : Setup) (m : Move) → Walk p m → target_is_sound p ≡ true
    → is_man p.side Pawn (man_at p.men m.from) ≡ true → attacks p.men m.from m.to ≡ true
    → is_at p.target m.to ≡ true → Rest p m
unfolding second_square_emptied castling_rook_to is_en_passant
rest_with_capture p m walk stands man hits at =
    let there = at_target p m.to stands at in
    let none = no_castle p m (pawn_no_castling p m man) in
    WithCapture walk (one_rank_back p.side m.to) (simp (man, hits, at)) (simp none) there.2 there.1 man

-- a pawn's move, by its kind: an advance and a capture change no third square, en passant does
pawn_rest : (p : Setup) (m : Move) → Walk p m → target_is_sound p ≡ true
    → is_man p.side Pawn (man_at p.men m.from) ≡ true → PawnKind p m → Rest p m
unfolding is_en_passant
pawn_rest p m walk stands man (Advances e) =
    rest_alone p m walk (and_left _ _ (and_right _ _ (advance_is_no_attack p m man e))) (pawn_no_castling p m man)
pawn_rest p m walk stands man (Captures e taken) =
    rest_alone p m walk (and_right _ _ (false_from_ne_true _ (λ at. both_ways _
    (is_of-none _ _ (at_target p m.to stands at).1) taken))) (pawn_no_castling p m man)
pawn_rest p m walk stands man (TakesEnPassant e at) = rest_with_capture p m walk stands man e at

-- a pawn's move doesn't end on a piece of its own side
pawn_not_own : (p : Setup) (m : Move) → target_is_sound p ≡ true → PawnKind p m
    → is_of p.side (man_at p.men m.to) ≡ false
pawn_not_own p m stands (Advances e) = is_of-none _ _ (advance_to_empty p m e)
pawn_not_own p m stands (Captures e taken) = is_of-other _ _ taken
pawn_not_own p m stands (TakesEnPassant e at) = is_of-none _ _ (at_target p m.to stands at).1

-- a pawn's move doesn't end on the other side's king
pawn_no_king : (p : Setup) (m : Move) → IsSound p → Moves p m → PawnKind p m
    → is_man (other p.side) King (man_at p.men m.to) ≡ false
pawn_no_king p m sound moves (Advances e) = is_man-none _ _ _ (advance_to_empty p m e)
pawn_no_king p m sound moves (Captures e taken) =
    no_king_where_attacked p.men p.side m.from m.to moves.from_in moves.to_in (is_of-mover p m moves) e sound.check
pawn_no_king p m sound moves (TakesEnPassant e at) =
    no_king_where_attacked p.men p.side m.from m.to moves.from_in moves.to_in (is_of-mover p m moves) e sound.check

-- what a pawn's move changes
pub change_of_pawn : (p : Setup) (m : Move) → IsSound p → Moves p m → is_man p.side Pawn (man_at p.men m.from) ≡ true
    → promotion_fits (rank m.to == first_rank (other p.side)) m.promotion ≡ true → PawnKind p m → Change p m
change_of_pawn p m sound moves man fits kind = record {
  moves = moves;
  arrival = pawn_arrival p m moves.mover moves.at_from man (pawn_leaves_first_rank p m moves.from_in man kind)
      (lands_on_to p m (pawn_no_castling p m man)) m.promotion refl fits;
  rest =
      pawn_rest p m
      (record {
        lands = lands_on_to p m (pawn_no_castling p m man);
        not_own = pawn_not_own p m sound.target kind;
        no_king = pawn_no_king p m sound moves kind;
      })
      sound.target man kind;
}
