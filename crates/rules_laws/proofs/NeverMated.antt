-- With insufficient material a side in check has a legal move: its king, on k, goes to a square n that is next to k on
-- its rank or file. One of two such squares is not near the enemy king (away_from), and no bishop or knight attacks it
-- (unattacked); so no position of such a game is mate.
use Rattle.std.proofs.Common.{◌≡◌, ◌≢◌, ℕ, ◌+◌, ◌-◌, ◌<◌, ◌≤◌, true, false, List, [], ◌∷◌, Some, None, Option, refl, sym, ap, ◌∙◌, arith, inl, inr, subst, ◌⊎◌, ◌%◌}
use Rattle.std.proofs.lemmas.Bool.{and_parts, and_from, or_cases, or_left, or_right, both_ways, cases_lt, eqb-true, ne_eqb, le-leb, lt-ltb, not_from_false, false_from_ne_true}
use Rattle.std.specs.Int.{abs_diff}
use Rattle.chess_base.specs.{declared.man.Colour.Colour, declared.man.Kind.Kind, declared.man.Man.Man, declared.man.Move.Move, declared.setup.Setup.Setup, Squares.file, Squares.rank, Castling.castle_of, Castling.king_square, Sound.IsSound}
use Rattle.chess_base.specs.declared.man.Kind.TheVariants.{King, Queen, Rook, Bishop, Knight, Pawn}
use Rattle.chess_base.specs.Men.{Men, man_at, is_man, is_of, other, same_colour, same_kind}
use Rattle.chess_base.specs.Attacks.{attacks, could_capture, is_attacked, is_in_check}
use Rattle.chess_base.specs.Moves.{is_legal, is_pseudo_legal, moves_as, after, man_moves}
use Rattle.chess_base.proofs.{shared.Castling.no_castle, shared.LegalMoves.IsSound-after, shared.MoveKinds.no_king_where_attacked, shared.Squares.some_square-none}
use Rattle.chess_base.proofs.shared.Kings.{king_square-at, king_square-king, one_king, one_king_of}
use Rattle.chess_base.proofs.shared.Men.{colour_cases, same_colour-self, same_kind-true, is_man-colour, is_of-from_is_man, no_other, is_of-none, in_board, is_man-none}
use Rattle.chess_game.specs.{Ends.is_kind, Line.position_after, Line.IsLine}
use Rattle.rules_laws.specs.Endings.{HasNoMove, IsMate, InsufficientNeverMates}
use Rattle.rules_laws.proofs.Pieces.{attacks_as, king_is_near}
use Rattle.rules_laws.proofs.Material.{is_minor, is_major, shade, FewMinors, OneMinor, Bishops, IsBare, HasMoved, moved, origin, bishop_shade, knight_shade, attacks_by_kind, no_castling_here, bare_from, bare_after}

-- ---- squares

-- a king on a would reach b, or they are one square
abbrev IsNear : ℕ → ℕ → Type 0
IsNear a b = (abs_diff (file a) (file b) ≤ 1) × (abs_diff (rank a) (rank b) ≤ 1)

-- n is the next square of k's rank or file
record IsBeside (k n : ℕ) : Type 0 where
  pub inside : n < 64
  pub step : abs_diff (file k) (file n) + abs_diff (rank k) (rank n) ≡ 1

-- a square beside k on k's rank: to the right of it, or to the left from the h-file
along_rank : (k : ℕ) → k < 64 → (n : ℕ) × IsBeside k n × (rank n ≡ rank k)
along_rank k l =
    elim (cases_lt (file k) 7) [
      | inl less ↦ (k + 1, record { inside = omega (arith, l, less); step = omega (arith, l, less) }, omega (arith, l, less))
      | inr last ↦ (k - 1, record { inside = omega (arith, l); step = omega (arith, l, last) }, omega (arith, l, last))
    ]

-- a square beside k on k's file: above it, or below it from the eighth rank
along_file : (k : ℕ) → k < 64 → (n : ℕ) × IsBeside k n × (file n ≡ file k)
along_file k l =
    elim (cases_lt (rank k) 7) [
      | inl less ↦ (k + 8, record { inside = omega (arith, l, less); step = omega (arith, l, less) }, omega (arith, l, less))
      | inr last ↦ (k - 8, record { inside = omega (arith, l); step = omega (arith, l, last) }, omega (arith, l, last))
    ]

decide_near : (a b : ℕ) → IsNear a b ⊎ (IsNear a b → ⊥)
decide_near a b =
    elim (cases_lt 1 (abs_diff (file a) (file b))) [
      | inl far ↦ inr (λ h. (let l = h.0 in omega (arith, l, far)))
      | inr near ↦ elim (cases_lt 1 (abs_diff (rank a) (rank b))) [
        | inl far ↦ inr (λ h. (let l = h.1 in omega (arith, l, far)))
        | inr near' ↦ inl (near, near')
      ]
    ]

-- if e (the enemy king) is not near k, it is not near one of the two squares that along_rank and along_file give
away_from : (k e : ℕ) → k < 64 → (IsNear k e → ⊥) → (n : ℕ) × IsBeside k n × (IsNear n e → ⊥)
away_from k e l far =
    let side = along_rank k l in
    let up = along_file k l in
    elim (decide_near side.0 e) [
      | inr off ↦ (side.0, side.1, off)
      | inl near ↦ (up.0, up.1, λ h. far (subst (λ (f : ℕ). abs_diff f (file e) ≤ 1) up.2 h.0, subst (λ (r : ℕ). abs_diff r (rank e) ≤ 1) side.2 near.1))
    ]

beside_apart : (k n : ℕ) → IsBeside k n → k ≢ n
beside_apart k n h e = let step = h.step in let same : k ≡ n = e in
    let none : abs_diff (file k) (file n) + abs_diff (rank k) (rank n) ≡ 0 = omega (arith, same) in omega (arith, step, none)

other_colour : (k n : ℕ) → IsBeside k n → shade k ≢ shade n
other_colour k n h e = by (file k) (rank k) (file n) (rank n) h.step e
  where
    by : (f r g q : ℕ) → abs_diff f g + abs_diff r q ≡ 1 → (f + r) % 2 ≡ (g + q) % 2 → ⊥
    by f r g q step e = omega (arith, step, e)

near_back : (a b : ℕ) → IsNear a b → IsNear b a
near_back a b h = let f = h.0 in let r = h.1 in (omega (arith, f), omega (arith, r))

beside_is_near : (k n : ℕ) → IsBeside k n → IsNear k n
beside_is_near k n h = let step = h.step in (omega (arith, step), omega (arith, step))

king_reaches : (men : Men) (c : Colour) (a b : ℕ) → a ≢ b → IsNear a b → could_capture men c King a b ≡ true
unfolding could_capture
king_reaches men c a b apart near =
    and_from _ _ (and_from _ _ (not_from_false _ (ne_eqb a b apart)) (le-leb _ _ near.0)) (le-leb _ _ near.1)

-- squares have only two colours
two_shades : (a k n : ℕ) → shade a ≢ shade k → shade a ≢ shade n → shade k ≢ shade n → ⊥
two_shades a k n x y z = omega (arith, x, y, z)

-- ---- a king in check

-- the enemy king is nowhere near n
abbrev IsFree : Setup → ℕ → Type 0
IsFree p n = (e : ℕ) → e < 64 → is_man (other p.side) King (man_at p.men e) ≡ true → IsNear n e → ⊥

-- in a sound position the kings are not next to each other, since the side that is not on move is not in check
kings_apart : (p : Setup) (k e : ℕ) → IsSound p → k < 64 → e < 64 → is_man p.side King (man_at p.men k) ≡ true
    → is_man (other p.side) King (man_at p.men e) ≡ true → IsNear k e → ⊥
kings_apart p k e sound l m king enemy near =
    let apart : k ≢ e = λ same. both_ways _ (is_man-colour p.side King King (man_at p.men e) enemy)
    (subst (λ (s : ℕ). is_man p.side King (man_at p.men s) ≡ true) same king) in
    let hits : attacks p.men k e ≡ true =
    attacks_as p.men k e p.side King king ∙ king_reaches p.men p.side k e apart near in
    both_ways _ (no_king_where_attacked p.men p.side k e l m (is_of-from_is_man p.side King (man_at p.men k) king) hits sound.check)
    enemy

-- a square beside k that the enemy king, on the square o, is not near
free_by : (p : Setup) (k : ℕ) → IsSound p → k < 64 → is_man p.side King (man_at p.men k) ≡ true → (o : Option ℕ)
    → king_square p.men (other p.side) ≡ o → (n : ℕ) × IsBeside k n × IsFree p n
free_by p k sound l king None at =
    let side = along_rank k l in (
      side.0,
      side.1,
      λ e m enemy near. nowhere (king_square-at p.men (other p.side) e sound.board
          (one_king_of p sound (other p.side)) enemy),
    )
  where
    nowhere : {e : ℕ} → king_square p.men (other p.side) ≡ Some e → ⊥
    nowhere there = let n = sym at ∙ there in cc
free_by p k sound l king (Some x) at =
    let enemy = king_square-king p.men (other p.side) x at in
    let inside = in_board p.men (other p.side) King x sound.board enemy in
    let free = away_from k x l (kings_apart p k x sound l inside king enemy) in (
      free.0,
      free.1,
      λ e m there near. free.2 (subst (IsNear free.0) (one_king p.men (other p.side) e x sound.board
          (one_king_of p sound (other p.side)) there enemy) near),
    )

-- what is known where a king on k is in check by a piece on a, and n is the square to which it goes
record Check (p : Setup) (k a n : ℕ) : Type 0 where
  pub sound : IsSound p
  pub bare : IsBare p.men
  pub king_in : k < 64
  pub king : is_man p.side King (man_at p.men k) ≡ true
  pub enemy_in : a < 64
  pub enemy : is_of (other p.side) (man_at p.men a) ≡ true
  pub hits : attacks p.men a k ≡ true
  pub beside : IsBeside k n
  pub free : IsFree p n

-- a piece on a board with insufficient material is a king, a bishop or a knight
kind_cases : (men : Men) (s : ℕ) (c : Colour) → IsBare men → is_of c (man_at men s) ≡ true
    → (is_man c King (man_at men s) ≡ true) ⊎ (is_kind Bishop (man_at men s) ≡ true)
    ⊎ (is_kind Knight (man_at men s) ≡ true)
unfolding is_of is_man
kind_cases men s c bare own = by (man_at men s) own (bare.majors s)
  where
    by : (o : Option Man) → is_of c o ≡ true → is_major o ≡ false
        → (is_man c King o ≡ true) ⊎ (is_kind Bishop o ≡ true) ⊎ (is_kind Knight o ≡ true)
    by None e m = cc
    by (Some x) e m = by_kind x.kind x.colour e m
      where
        by_kind : (k : Kind) (d : Colour) → same_colour c d ≡ true → is_major (Some (record { colour = d; kind = k })) ≡ false
            → (is_man c King (Some (record { colour = d; kind = k })) ≡ true)
            ⊎ (is_kind Bishop (Some (record { colour = d; kind = k })) ≡ true)
            ⊎ (is_kind Knight (Some (record { colour = d; kind = k })) ≡ true)
        by_kind King d e m = inl (and_from _ _ e refl)
        by_kind Bishop d e m = inr (inl refl)
        by_kind Knight d e m = inr (inr refl)
        by_kind Queen d e m = cc
        by_kind Rook d e m = cc
        by_kind Pawn d e m = cc

-- the piece that gives check is a bishop on the king's colour, or a knight on the other
checker : (p : Setup) (k a n : ℕ) → Check p k a n
    → ((is_kind Bishop (man_at p.men a) ≡ true) × (shade a ≡ shade k))
    ⊎ ((is_kind Knight (man_at p.men a) ≡ true) × (shade a ≢ shade k))
checker p k a n h =
    elim (kind_cases p.men a (other p.side) h.bare h.enemy) [
      | inl king ↦
          let near = king_is_near p.men (other p.side) a k (sym (attacks_as p.men a k (other p.side) King king) ∙ h.hits) in
          absurd (kings_apart p k a h.sound h.king_in h.enemy_in h.king king (near_back a k (near.1, near.2)))
      | inr minor ↦ elim minor [
        | inl bishop ↦ let by = attacks_by_kind p.men a k Bishop bishop h.hits in inl (bishop, bishop_shade p.men by.0 a k by.1)
        | inr knight ↦ let by = attacks_by_kind p.men a k Knight knight h.hits in inr (knight, knight_shade p.men by.0 a k by.1)
      ]
    ]

checker_is_minor : (p : Setup) (k a n : ℕ) → Check p k a n → is_minor (man_at p.men a) ≡ true
checker_is_minor p k a n h = elim (checker p k a n h) [ inl b ↦ or_left _ _ b.0 | inr b ↦ or_right (is_kind Bishop (man_at p.men a)) _ b.0 ]

no_bishop_and_knight : (o : Option Man) → is_kind Bishop o ≡ true → is_kind Knight o ≡ true → ⊥
no_bishop_and_knight None e f = let n : false ≡ true = e in cc
no_bishop_and_knight (Some x) e f =
    let b : Bishop ≡ x.kind = same_kind-true Bishop x.kind e in
    let k : Knight ≡ x.kind = same_kind-true Knight x.kind f in
    let n : Bishop ≡ Knight = b ∙ sym k in cc

-- no bishop is on a square of n's colour: if a bishop gives check, all are on k's colour; and if a knight does, it is
-- the only minor piece
no_bishop : (p : Setup) (k a n s : ℕ) → Check p k a n → s < 64 → is_kind Bishop (man_at p.men s) ≡ true
    → shade s ≢ shade n
no_bishop p k a n s h l bishop same = by h.bare.minors (checker p k a n h)
  where
    by : FewMinors p.men → ((is_kind Bishop (man_at p.men a) ≡ true) × (shade a ≡ shade k))
        ⊎ ((is_kind Knight (man_at p.men a) ≡ true) × (shade a ≢ shade k)) → ⊥
    by (OneMinor one) (inl b) =
        let here = one s a (or_left _ _ bishop) (checker_is_minor p k a n h) in
        other_colour k n h.beside (sym b.1 ∙ ap shade (sym here) ∙ same)
    by (OneMinor one) (inr b) =
        let here = one s a (or_left _ _ bishop) (checker_is_minor p k a n h) in
        no_bishop_and_knight (man_at p.men s) bishop
        (subst (λ (x : ℕ). is_kind Knight (man_at p.men x) ≡ true) (sym here) b.0)
    by (Bishops c knights on) (inl b) =
        other_colour k n h.beside (sym b.1 ∙ on a h.enemy_in b.0 ∙ sym (on s l bishop) ∙ same)
    by (Bishops c knights on) (inr b) = both_ways _ (knights a) b.0

-- if there is a knight, it is the piece that gives check, and it isn't on the colour of the king's square
only_knight : (p : Setup) (k a n s : ℕ) → Check p k a n → is_kind Knight (man_at p.men s) ≡ true
    → (s ≡ a) × (shade s ≢ shade k)
only_knight p k a n s h knight = by h.bare.minors (checker p k a n h)
  where
    by : FewMinors p.men → ((is_kind Bishop (man_at p.men a) ≡ true) × (shade a ≡ shade k))
        ⊎ ((is_kind Knight (man_at p.men a) ≡ true) × (shade a ≢ shade k)) → (s ≡ a) × (shade s ≢ shade k)
    by (OneMinor one) (inl b) =
        let here = one s a (or_right (is_kind Bishop (man_at p.men s)) _ knight) (checker_is_minor p k a n h) in
        absurd (no_bishop_and_knight (man_at p.men a) b.0
        (subst (λ (x : ℕ). is_kind Knight (man_at p.men x) ≡ true) here knight))
    by (OneMinor one) (inr b) =
        let here = one s a (or_right (is_kind Bishop (man_at p.men s)) _ knight) (checker_is_minor p k a n h) in
        (here, λ same. b.1 (ap shade (sym here) ∙ same))
    by (Bishops c knights on) b = absurd (both_ways _ (knights s) knight)

-- a knight attacks no square beside it
knight_is_far : (men : Men) (c : Colour) (k n : ℕ) → IsBeside k n → could_capture men c Knight n k ≡ true → ⊥
unfolding could_capture
knight_is_far men c k n h e =
    elim (or_cases _ _ e) [
      | inl x ↦ let both = and_parts _ _ x in
          far (file n) (rank n) (file k) (rank k) (inl (eqb-true _ _ both.0, eqb-true _ _ both.1)) h.step
      | inr x ↦ let both = and_parts _ _ x in
          far (file n) (rank n) (file k) (rank k) (inr (eqb-true _ _ both.0, eqb-true _ _ both.1)) h.step
    ]
  where
    far : (f r g q : ℕ) → ((abs_diff f g ≡ 1) × (abs_diff r q ≡ 2)) ⊎ ((abs_diff f g ≡ 2) × (abs_diff r q ≡ 1))
        → abs_diff g f + abs_diff q r ≡ 1 → ⊥
    far f r g q (inl h) step = let x = h.0 in let y = h.1 in omega (arith, x, y, step)
    far f r g q (inr h) step = let x = h.0 in let y = h.1 in omega (arith, x, y, step)

own_colour : (x : Man) → is_of x.colour (Some x) ≡ true
unfolding is_of
own_colour x = same_colour-self x.colour

-- the square to which the king goes is empty
is_empty : (p : Setup) (k a n : ℕ) → Check p k a n → man_at p.men n ≡ None
is_empty p k a n h = by (man_at p.men n) refl
  where
    none_of : (c : Colour) → is_of c (man_at p.men n) ≡ true → ⊥
    none_of c own =
        elim (kind_cases p.men n c h.bare own) [
          | inl king ↦ elim (colour_cases p.side c) [
            | inl mine ↦ beside_apart k n h.beside (one_king p.men p.side k n h.sound.board (one_king_of p h.sound p.side) h.king
                (subst (λ (d : Colour). is_man d King (man_at p.men n) ≡ true) mine king))
            | inr yours ↦ h.free n h.beside.inside (subst (λ (d : Colour). is_man d King (man_at p.men n) ≡ true) yours king)
                (omega arith, omega arith)
          ]
          | inr minor ↦ elim minor [
            | inl bishop ↦ no_bishop p k a n n h h.beside.inside bishop refl
            | inr knight ↦
                let only = only_knight p k a n n h knight in
                let hits = subst (λ (x : ℕ). attacks p.men x k ≡ true) (sym only.0) h.hits in
                let by = attacks_by_kind p.men n k Knight knight hits in
                knight_is_far p.men by.0 k n h.beside by.1
          ]
        ]

    by : (o : Option Man) → man_at p.men n ≡ o → o ≡ None
    by None e = refl
    by (Some x) e = absurd (none_of x.colour (rw e (own_colour x)))

-- ---- the king's move is legal

-- the king's move
abbrev flight : ℕ → ℕ → Move
flight k n = record { from = k; to = n; promotion = None }

-- it is a move of a king: n is beside k, and no piece of its own is there
goes : (p : Setup) (k a n : ℕ) → Check p k a n → man_moves p (flight k n) ≡ true
unfolding man_moves
goes p k a n h =
    let hits : attacks p.men k n ≡ true = attacks_as p.men k n p.side King h.king
    ∙ king_reaches p.men p.side k n (beside_apart k n h.beside) (beside_is_near k n h.beside) in
    let free : is_of p.side (man_at p.men n) ≡ false = is_of-none p.side (man_at p.men n) (rw (is_empty p k a n h) refl) in
    and_from _ _ hits (not_from_false _ free)

as_king : (p : Setup) (m : Move) (o : Option Man) → is_man p.side King o ≡ true → castle_of p m ≡ None
    → man_moves p m ≡ true → moves_as p m o ≡ true
unfolding is_man
as_king p m None e c h = cc
as_king p m (Some x) e c h =
    let both = and_parts (same_colour p.side x.colour) (same_kind King x.kind) e in
    let kind : King ≡ x.kind = same_kind-true King x.kind both.1 in
    rw (both.0, ← kind, c) h

-- the king's move is pseudo-legal
is_pattern : (p : Setup) (k a n : ℕ) → Check p k a n → is_pseudo_legal p (flight k n) ≡ true
unfolding is_pseudo_legal
is_pattern p k a n h =
    let m = flight k n in
    and_from _ _ (and_from _ _ (lt-ltb _ _ h.king_in) (lt-ltb _ _ h.beside.inside))
    (as_king p m (man_at p.men k) h.king (no_castle p m (no_castling_here p m h.sound h.bare)) (goes p k a n h))

-- no enemy piece on s attacks the king on its new square n: not the king (free), nor a bishop or knight, by the colours
-- of squares
unattacked_by : (p : Setup) (k a n s : ℕ) → Check p k a n → (new : Men) → HasMoved p.men new k n → s < 64
    → is_of (other p.side) (man_at new s) ≡ true → attacks new s n ≡ true → ⊥
unattacked_by p k a n s h new step l enemy hits =
    elim (origin p.men new k n s (is_of (other p.side)) step (is_of-none (other p.side) None refl) enemy) [
      | inr arrives ↦ both_ways _ (no_other p.side King (man_at p.men k) h.king) arrives.1
      | inl stays ↦
          let same : man_at new s ≡ man_at p.men s = step.others s stays.1 stays.0 in
          elim (kind_cases p.men s (other p.side) h.bare stays.2) [
            | inl king ↦
                let king' = subst (λ (o : Option Man). is_man (other p.side) King o ≡ true) (sym same) king in
                let near = king_is_near new (other p.side) s n (sym (attacks_as new s n (other p.side) King king') ∙ hits) in
                h.free s l king (near_back s n (near.1, near.2))
            | inr minor ↦ elim minor [
              | inl bishop ↦
                  let bishop' = subst (λ (o : Option Man). is_kind Bishop o ≡ true) (sym same) bishop in
                  let by = attacks_by_kind new s n Bishop bishop' hits in
                  no_bishop p k a n s h l bishop (bishop_shade new by.0 s n by.1)
              | inr knight ↦
                  let knight' = subst (λ (o : Option Man). is_kind Knight o ≡ true) (sym same) knight in
                  let by = attacks_by_kind new s n Knight knight' hits in
                  two_shades s k n (only_knight p k a n s h knight).1 (knight_shade new by.0 s n by.1) (other_colour k n h.beside)
            ]
          ]
    ]

unattacked : (p : Setup) (k a n : ℕ) → Check p k a n → (new : Men) → HasMoved p.men new k n
    → is_attacked new n (other p.side) ≡ false
unfolding is_attacked
unattacked p k a n h new step =
    some_square-none _ (λ s l. false_from_ne_true _ (λ e. let both = and_parts _ _ e in
    unattacked_by p k a n s h new step l both.0 both.1))

out_of_check : (p : Setup) (k a n : ℕ) → Check p k a n → (new : Men) → HasMoved p.men new k n
    → is_in_check new p.side ≡ false
unfolding is_in_check
out_of_check p k a n h new step =
    some_square-none _ (λ s l. false_from_ne_true _ (λ e.
    let both = and_parts _ _ e in
    elim (origin p.men new k n s (λ (o : Option Man). is_man p.side King o) step (is_man-none p.side King None refl) both.0) [
      | inl stays ↦ stays.1 (one_king p.men p.side s k h.sound.board (one_king_of p h.sound p.side) stays.2 h.king)
      | inr arrives ↦ both_ways _ (unattacked p k a n h new step)
          (subst (λ (x : ℕ). is_attacked new x (other p.side) ≡ true) arrives.0 both.1)
    ]))

flight_is_legal : (p : Setup) (k a n : ℕ) → Check p k a n → is_legal p (flight k n) ≡ true
unfolding is_legal
flight_is_legal p k a n h =
    let m = flight k n in
    let step = moved p m h.sound h.bare h.king_in h.beside.inside
    (is_of-from_is_man p.side King (man_at p.men k) h.king) (goes p k a n h) in
    and_from _ _ (is_pattern p k a n h) (not_from_false _ (out_of_check p k a n h (after p m).men step))

-- ---- nobody is mated

-- in check, on k from a, there is a legal move: contradiction with HasNoMove
never_by : (p : Setup) (k a : ℕ) → IsSound p → IsBare p.men → HasNoMove p → k < 64 → a < 64
    → is_man p.side King (man_at p.men k) ≡ true → is_of (other p.side) (man_at p.men a) ≡ true
    → attacks p.men a k ≡ true → ⊥
never_by p k a sound bare none l m king enemy hits =
    let to = free_by p k sound l king (king_square p.men (other p.side)) refl in
    let h : Check p k a to.0 = record {
      sound = sound;
      bare = bare;
      king_in = l;
      king = king;
      enemy_in = m;
      enemy = enemy;
      hits = hits;
      beside = to.1;
      free = to.2;
    } in
    both_ways _ (none (flight k to.0)) (flight_is_legal p k a to.0 h)

never_mated : (p : Setup) → IsSound p → IsBare p.men → HasNoMove p → is_in_check p.men p.side ≡ false
unfolding is_in_check is_attacked
never_mated p sound bare none =
    some_square-none _ (λ k l. false_from_ne_true _ (λ e.
    let both = and_parts _ _ e in
    both_ways _ (some_square-none _ (λ a m. false_from_ne_true _ (λ f.
    let hit = and_parts _ _ f in never_by p k a sound bare none l m both.0 hit.0 hit.1))) both.1))

-- no later position is mate, since material stays insufficient (bare_after); by induction over the moves
never_on : (p : Setup) (ms : List Move) → IsSound p → IsBare p.men → IsLine p ms → IsMate (position_after p ms) → ⊥
never_on p [] sound bare line mate = both_ways _ (never_mated p sound bare mate.moves) mate.check
never_on p (m ∷ ms) sound bare line mate =
    never_on (after p m) ms (IsSound-after p m sound line.0) (bare_after p m sound line.0 bare) line.1 mate

pub insufficient_never_mates : InsufficientNeverMates
insufficient_never_mates start ms sound bare line mate =
    never_on start ms sound (bare_from start.men bare) line mate
