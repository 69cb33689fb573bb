-- The reserve after a legal move of a sound position: it never grows (never_grows), and is lower if the halfmove clock
-- is then 0, so after a capture or a pawn's move (falls_for_good). It is a sum of the weights of all squares, so
-- CountsAfter says what goes and what lands (`Spends`). The mover weighs no more where it lands than where it was
-- (`Lands`), and a pawn less, as it has fewer ranks to go.
use Rattle.std.proofs.Common.{◌≡◌, ◌≢◌, ℕ, ◌+◌, ◌<◌, ◌≤◌, ◌⊎◌, inl, inr, length, set, Bool, false, true, ◌||◌, cond, min, Option, None, Some, is_none, arith, refl, sym, ◌∙◌, length-set, get_or-set_other, get_or-set_same, ◌==◌, sum, ext_get_or}
use Rattle.std.proofs.lemmas.Bool.{and_parts, or_cases, or_parts, or_left, or_right, both_ways, cases_eq, cond_both, eq-eqb, not-true}
use Rattle.std.proofs.lemmas.List.Sums.{sum_by-set}
use Rattle.chess_base.specs.{declared.man.Colour.Colour, declared.man.Colour.TheVariants.White, declared.man.Colour.TheVariants.Black, declared.man.Kind.Kind, declared.man.Kind.TheVariants.Pawn, declared.man.Man.Man, declared.man.Move.Move, declared.castling.Castle.Castle, declared.setup.Setup.Setup, Squares.rank, shared.Below.from_below, Sound.IsSound, Sound.no_pawn_on_end_ranks, shared.Parts.is_rank_ahead, shared.Parts.pawn_is_allowed, Castling.castle_from, Castling.mover_end, Castling.castles, laws.Reserve.ranks_to_go, laws.Reserve.weight, laws.Reserve.reserve}
use Rattle.chess_base.specs.Men.{Men, man_at, other, is_of, is_man, same_colour, same_kind, forward, pawn_rank}
use Rattle.chess_base.specs.Moves.{arriving_man, man_moves, is_legal, men_after, halfmove_after, resets_clock, after}
use Rattle.chess_base.proofs.shared.Squares.{each_square-at, length-from_below, get_or-from_below, map_squares}
use Rattle.chess_base.proofs.shared.Men.{same_colour-true, is_of-from_is_man, is_man-kind, is_none-None}
use Rattle.chess_base.proofs.shared.MoveKinds.{is_of-mover, Moves, MoveKind, ManMoves, Castles, PawnMoves, PawnKind, Advances, Captures, TakesEnPassant}
use Rattle.chess_base.proofs.shared.Changes.{Change, pawn_attack, pawn_no_castling, rank_ahead_White, rank_ahead_Black, advance_goes}
use Rattle.chess_base.proofs.{shared.Captures.resets_clock_is, shared.Castling.says_from_castling, shared.Castling.castling_says, shared.Castling.lands_on_to, CastlingChange.change_of}
use Rattle.chess_base.proofs.CountsAfter.{CountsAs, CountAlone, CountCapture, CountCastled, IsSum, counts_by}

-- a write to one square

-- the sum of the weights of the squares below n
weights_below : ℕ → Men → ℕ
weights_below n men = sum (from_below n (λ k. weight k (man_at men k)))

-- a write to square s changes only the weight there
weights-set : (n : ℕ) (men : Men) (s : ℕ) (v : Option Man) → length men ≡ n → s < n
    → from_below n (λ k. weight k (man_at (set men s v) k)) ≡ set (from_below n (λ k. weight k (man_at men k))) s
    (weight s v)
weights-set n men s v l h =
    let here = λ (k : ℕ). weight k (man_at men k) in
    let there = λ (k : ℕ). weight k (man_at (set men s v) k) in
    let length' : length (set (from_below n here) s (weight s v)) ≡ n = length-set (from_below n here) s (weight s v)
    ∙ length-from_below n here in
    ext_get_or 0 (from_below n there) (set (from_below n here) s (weight s v)) (length-from_below n there ∙ sym length')
    (λ k h'.
    let in' : k < n = omega (arith, length-from_below n there) in
    get_or-from_below n there k 0 in'
    ∙ elim (cases_eq k s) [
      | inl same ↦ rw (same, get_or-set_same men s v None (omega arith))
          (sym (get_or-set_same (from_below n here) s (weight s v) 0 (omega (arith, length-from_below n here))))
      | inr differs ↦ rw (
        get_or-set_other men s k v None differs,
        get_or-set_other (from_below n here) s k (weight s v)
            0 differs,
      ) (sym (get_or-from_below n here k 0 in'))
    ])

-- so the sum loses the old weight of s and gets the new one
weights_below-set : (n : ℕ) (men : Men) (s : ℕ) (v : Option Man) → length men ≡ n → s < n
    → weights_below n (set men s v) + weight s (man_at men s) ≡ weights_below n men + weight s v
unfolding weights_below
weights_below-set n men s v l h =
    let here = λ (k : ℕ). weight k (man_at men k) in
    let sums = sum_by-set (λ (x : ℕ). x) (from_below n here) s (weight s v) 0
    (omega (arith, length-from_below n here)) in
    rw (weights-set n men s v l h) (rw (get_or-from_below n here s 0 h) at sums)

-- so does the reserve
reserve-set : (men : Men) (s : ℕ) (v : Option Man) → length men ≡ 64 → s < 64
    → reserve (set men s v) + weight s (man_at men s) ≡ reserve men + weight s v
unfolding reserve weights_below
reserve-set men s v l h =
    rw (map_squares (λ k. weight k (man_at (set men s v) k)), map_squares (λ k. weight k (man_at men k)))
    (weights_below-set 64 men s v l h)

-- what a piece weighs

-- a piece weighs 1 at least, a pawn 1 and the ranks that it has to go, any other piece 1
weight-of : (c : Colour) (s : ℕ) (o : Option Man) → is_of c o ≡ true → 1 ≤ weight s o
unfolding is_of
weight-of c s None e = cc
weight-of c s (Some x) e = cond_both (same_kind Pawn x.kind) (1 + ranks_to_go x.colour s) 1 (λ n. 1 ≤ n)
    (λ _. omega arith) (λ _. omega arith)

weight-pawn : (c : Colour) (s : ℕ) (o : Option Man) → is_man c Pawn o ≡ true → weight s o ≡ 1 + ranks_to_go c s
unfolding is_man
weight-pawn c s None e = cc
weight-pawn c s (Some x) e =
    let both = and_parts (same_colour c x.colour) (same_kind Pawn x.kind) e in
    rw (both.1, same_colour-true c x.colour both.0) refl

weight-no_pawn : (c : Colour) (s : ℕ) (o : Option Man) → is_of c o ≡ true → is_man c Pawn o ≡ false → weight s o ≡ 1
unfolding is_of is_man
weight-no_pawn c s None own e = cc
weight-no_pawn c s (Some x) own e = let kind : same_kind Pawn x.kind ≡ false = rw own at e in rw kind refl

-- no piece weighs more than a pawn there
weight-at_most : (s : ℕ) (x : Man) → weight s (Some x) ≤ 1 + ranks_to_go x.colour s
weight-at_most s x = cond_both (same_kind Pawn x.kind) (1 + ranks_to_go x.colour s) 1
    (λ n. n ≤ 1 + ranks_to_go x.colour s) (λ _. omega arith) (λ _. omega arith)

-- nor does what arrives there, promoted or not
weight-lands : (c : Colour) (s : ℕ) (o : Option Man) (k : Option Kind) → is_of c o ≡ true
    → weight s (arriving_man o k) ≤ 1 + ranks_to_go c s
unfolding is_of
weight-lands c s None k e = cc
weight-lands c s (Some x) None e = rw (same_colour-true _ _ e) (weight-at_most s x)
weight-lands c s (Some x) (Some k) e =
    rw (same_colour-true _ _ e) (weight-at_most s (record { colour = x.colour; kind = k }))

-- what the mover weighed, and an enemy piece on the end square, goes from the reserve; what lands comes

-- what is taken on s weighs: nothing if no enemy piece is there
taken_by : Bool → ℕ → Option Man → ℕ
taken_by enemy s o = cond enemy (weight s o) 0

taken_at_most : (b : Bool) (s : ℕ) (o : Option Man) → taken_by b s o ≤ weight s o
unfolding taken_by
taken_at_most true s o = omega arith
taken_at_most false s o = omega arith

none_taken : (s : ℕ) (o : Option Man) (b : Bool) → b ≡ false → taken_by b s o ≡ 0
unfolding taken_by
none_taken s o b e = rw e refl

all_taken : (s : ℕ) (o : Option Man) (b : Bool) → b ≡ true → taken_by b s o ≡ weight s o
unfolding taken_by
all_taken s o b e = rw e refl

-- the reserve after move m, with the weights that went, is at most the reserve before it with the weight that landed
Spends : Setup → Move → Type 0
Spends p m =
    reserve (men_after p m) + weight m.from (man_at p.men m.from) + taken_by (is_of (other p.side) (man_at p.men m.to))
    m.to (man_at p.men m.to)
    ≤ reserve p.men + weight (mover_end p m) (arriving_man (man_at p.men m.from) m.promotion)

-- the reserve is a sum over the squares, as CountsAfter has it
reserved : IsSum reserve weight
reserved = record { none = λ s. refl; write = reserve-set }

-- by the three forms of the sum after a move
spends_by : (p : Setup) (m : Move) → CountsAs reserve weight p m → Spends p m
unfolding Spends
spends_by p m (CountAlone walk e) =
    let most = taken_at_most (is_of (other p.side) (man_at p.men m.to)) m.to (man_at p.men m.to) in
    rw walk.lands (omega (arith, e, most))
spends_by p m (CountCapture walk s pawn e) =
    let most = taken_at_most (is_of (other p.side) (man_at p.men m.to)) m.to (man_at p.men m.to) in
    rw walk.lands (omega (arith, e, most))
spends_by p m (CountCastled s r rook no_enemy e) =
    let left = weight-no_pawn p.side s (man_at p.men s) (is_of-from_is_man _ _ _ rook) (is_man-kind _ _ _ _ _ refl rook) in
    let none = none_taken m.to (man_at p.men m.to) (is_of (other p.side) (man_at p.men m.to)) no_enemy in
    omega (arith, e, left, none)

-- so it is for each change by a move of a sound position
spends : (p : Setup) (m : Move) → IsSound p → Change p m → Spends p m
spends p m sound h = spends_by p m (counts_by reserve weight reserved p m sound.board h h.rest)

-- a pawn goes ahead

-- a pawn of a sound position is on neither end rank
pawn_off_ends_at : (men : Men) (c : Colour) (s : ℕ) → is_man c Pawn (man_at men s) ≡ true → pawn_is_allowed men s ≡ true
    → (rank s ≢ 0) × (rank s ≢ 7)
pawn_off_ends_at men c s man e =
    let pawn : (is_man White Pawn (man_at men s) || is_man Black Pawn (man_at men s)) ≡ true = of_some_colour c man in
    let e' : ((rank s == 0) || (rank s == 7)) ≡ false = rw pawn at (not-true _ e) in (
      (λ r. both_ways _ (or_parts _ _ e').0 (eq-eqb _ _ r)),
      (λ r. both_ways _ (or_parts _ _ e').1 (eq-eqb _ _ r)),
    )
  where
    of_some_colour : (d : Colour) → is_man d Pawn (man_at men s) ≡ true
        → (is_man White Pawn (man_at men s) || is_man Black Pawn (man_at men s)) ≡ true
    of_some_colour White h = or_left _ _ h
    of_some_colour Black h = or_right _ _ h

-- so a pawn that moves starts on neither
pawn_off_ends : (p : Setup) (m : Move) → IsSound p → Moves p m → is_man p.side Pawn (man_at p.men m.from) ≡ true
    → (rank m.from ≢ 0) × (rank m.from ≢ 7)
unfolding no_pawn_on_end_ranks
pawn_off_ends p m sound moves man = pawn_off_ends_at p.men p.side m.from man
    (each_square-at _ sound.pawns m.from moves.from_in)

-- a pawn's advance, and its capture, lower the ranks that it has to go
straight_ahead : (c : Colour) (a b : ℕ) → rank a ≢ 0 → b < 64 → (b ≡ forward c a)
    ⊎ ((rank a ≡ pawn_rank c) × (b ≡ forward c (forward c a))) → ranks_to_go c b < ranks_to_go c a
straight_ahead White a b off h (inl e) = omega arith
straight_ahead White a b off h (inr e) = omega (arith, e.1)
straight_ahead Black a b off h (inl e) = omega arith
straight_ahead Black a b off h (inr e) = omega (arith, e.1)

aside_ahead : (c : Colour) (a b : ℕ) → b < 64 → is_rank_ahead c a b ≡ true → ranks_to_go c b < ranks_to_go c a
aside_ahead White a b h e = let r = rank_ahead_White a b e in omega (arith, r)
aside_ahead Black a b h e = let r = rank_ahead_Black a b e in omega (arith, r)

-- so does every pawn's move
goes_ahead : (p : Setup) (m : Move) → IsSound p → Moves p m → is_man p.side Pawn (man_at p.men m.from) ≡ true
    → PawnKind p m → ranks_to_go p.side m.to < ranks_to_go p.side m.from
goes_ahead p m sound moves man (Advances e) = straight_ahead p.side m.from m.to (pawn_off_ends p m sound moves man).0
    moves.to_in (advance_goes p m e)
goes_ahead p m sound moves man (Captures e taken) = aside_ahead p.side m.from m.to moves.to_in
    (pawn_attack p.men p.side m.from m.to man e).1
goes_ahead p m sound moves man (TakesEnPassant e at) = aside_ahead p.side m.from m.to moves.to_in
    (pawn_attack p.men p.side m.from m.to man e).1

-- the mover where it lands, against the mover where it was

-- it weighs no more
Lands : Setup → Move → Type 0
Lands p m = weight (mover_end p m) (arriving_man (man_at p.men m.from) m.promotion) ≤ weight m.from
    (man_at p.men m.from)

-- a piece that is no pawn weighs 1 before and after
man_lands : (p : Setup) (m : Move) → Moves p m → is_man p.side Pawn (man_at p.men m.from) ≡ false
    → is_none m.promotion ≡ true → Lands p m
unfolding Lands
man_lands p m moves n e =
    let own = is_of-mover p m moves in
    let own' : is_of p.side (Some moves.mover) ≡ true = rw (← moves.at_from) own in
    let n' : is_man p.side Pawn (Some moves.mover) ≡ false = rw (← moves.at_from) n in
    let before = weight-no_pawn p.side m.from (Some moves.mover) own' n' in
    let after' = weight-no_pawn p.side (mover_end p m) (Some moves.mover) own' n' in
    let same : arriving_man (man_at p.men m.from) m.promotion ≡ Some moves.mover =
    rw (moves.at_from, is_none-None _ e) refl in
    rw (same, moves.at_from) (omega (arith, before, after'))

-- a pawn weighs less, as it has fewer ranks to go, or is promoted
pawn_lands : (p : Setup) (m : Move) → IsSound p → Moves p m → is_man p.side Pawn (man_at p.men m.from) ≡ true
    → PawnKind p m
    → weight (mover_end p m) (arriving_man (man_at p.men m.from) m.promotion) < weight m.from (man_at p.men m.from)
pawn_lands p m sound moves man kind =
    let before = weight-pawn p.side m.from (man_at p.men m.from) man in
    let lands = weight-lands p.side m.to (man_at p.men m.from) m.promotion (is_of-mover p m moves) in
    let ahead = goes_ahead p m sound moves man kind in
    rw (lands_on_to p m (pawn_no_castling p m man)) (omega (arith, before, lands, ahead))

-- castling promotes nothing
castles_plainly : (p : Setup) (m : Move) (k : Castle) → castles p m k ≡ true → is_none m.promotion ≡ true
unfolding castles
castles_plainly p m k e = (and_parts _ _ (and_parts _ _ e).0).0

-- so for a move of each kind
lands_by : (p : Setup) (m : Move) → IsSound p → Moves p m → MoveKind p m → Lands p m
unfolding man_moves Lands
lands_by p m sound moves (ManMoves n c e) = man_lands p m moves n (and_parts _ _ (and_parts _ _ e).0).0
lands_by p m sound moves (Castles w r c at e) =
    let king = (castling_says _ _ _ (says_from_castling _ _ _ c)).0 in
    man_lands p m moves (is_man-kind _ _ _ _ _ refl king) (castles_plainly p m (castle_from p.side w m.from r) e)
lands_by p m sound moves (PawnMoves man fits kind) = let less = pawn_lands p m sound moves man kind in omega arith

-- the laws

-- no legal move of a sound position raises the reserve
pub never_grows : (p : Setup) (m : Move) → IsSound p → is_legal p m ≡ true → reserve (after p m).men ≤ reserve p.men
unfolding is_legal after Spends Lands
never_grows p m sound legal =
    let h = change_of p m sound (and_parts _ _ legal).0 in
    let spent = spends p m sound h in
    let lands = lands_by p m sound h.moves h.moves.kind in
    omega (arith, spent, lands)

-- a pawn's move lowers the reserve, and so does a capture
pawn_falls : (p : Setup) (m : Move) → IsSound p → Change p m → is_man p.side Pawn (man_at p.men m.from) ≡ true
    → MoveKind p m → reserve (men_after p m) < reserve p.men
unfolding Spends
pawn_falls p m sound h man (ManMoves n c e) = absurd (both_ways _ n man)
pawn_falls p m sound h man (Castles w r c at e) =
    absurd (both_ways _ (is_man-kind _ _ _ _ _ refl (castling_says _ _ _ (says_from_castling _ _ _ c)).0) man)
pawn_falls p m sound h man (PawnMoves man' fits kind) =
    let spent = spends p m sound h in
    let lands = pawn_lands p m sound h.moves man kind in
    omega (arith, spent, lands)

-- a capture on the end square lowers the reserve, since what is captured weighs 1 at least
capture_falls : (p : Setup) (m : Move) → IsSound p → Change p m → is_of (other p.side) (man_at p.men m.to) ≡ true
    → reserve (men_after p m) < reserve p.men
unfolding Spends Lands
capture_falls p m sound h taken =
    let spent = spends p m sound h in
    let lands = lands_by p m sound h.moves h.moves.kind in
    let gone = weight-of (other p.side) m.to (man_at p.men m.to) taken in
    let all = all_taken m.to (man_at p.men m.to) (is_of (other p.side) (man_at p.men m.to)) taken in
    omega (arith, spent, lands, gone, all)

-- the clock is 0 after a move only if the move reset it
clock_was_reset : (p : Setup) (m : Move) → halfmove_after p m ≡ 0 → resets_clock p m ≡ true
unfolding halfmove_after
clock_was_reset p m e = reset_by (resets_clock p m) e
  where
    reset_by : (b : Bool) → cond b 0 (min (p.halfmove + 1) 999999) ≡ 0 → b ≡ true
    reset_by true e' = refl
    reset_by false e' = absurd (omega arith)

-- a legal move of a sound position after which the halfmove clock is 0 lowers it
pub falls_for_good : (p : Setup) (m : Move) → IsSound p → is_legal p m ≡ true → (after p m).halfmove ≡ 0
    → reserve (after p m).men < reserve p.men
unfolding is_legal after
falls_for_good p m sound legal e =
    let reset = sym (resets_clock_is p m) ∙ clock_was_reset p m e in
    let h = change_of p m sound (and_parts _ _ legal).0 in
    elim (or_cases _ _ reset) [
      | inl man ↦ pawn_falls p m sound h man h.moves.kind
      | inr taken ↦ capture_falls p m sound h taken
    ]
