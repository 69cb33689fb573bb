-- A king's step, to a square that it attacks and that holds no own piece, is no castling (step_no_castling), so a king
-- goes by a step or by legal castling (king_goes). A step is legal exactly if its end is not attacked with the king
-- taken off the board (step_is): that board and the one after the step differ on the end alone, and whether a square is
-- attacked doesn't depend on what is on it.
use mathlib.Core.Bool.{or-false}
use Rattle.std.proofs.Common.{◌≡◌, ℕ, ◌<◌, inl, inr, Bool, true, false, not, ◌&&◌, ◌||◌, ◌==◌, Option, Some, None, refl, sym, ap, ◌∙◌}
use Rattle.std.proofs.lemmas.Bool.{and_from, and_parts, and_right, both_ways, cases_Bool, eqb-true, false_from_ne_true}
use Rattle.chess_base.specs.{declared.man.CastlingSide.CastlingSide, declared.man.CastlingSide.TheVariants.KingSide, declared.man.CastlingSide.TheVariants.QueenSide, declared.man.Colour.Colour, declared.man.Colour.TheVariants.White, declared.man.Colour.TheVariants.Black, declared.man.Kind.Kind, declared.man.Man.Man, declared.man.Variant.Variant, declared.man.Variant.TheVariants.Normal, declared.man.Variant.TheVariants.Fischerandom, declared.setup.Setup.Setup, shared.Splits.could_capture_as, shared.Splits.names_castling, Before.mover_to, MoveList.move_of, Sound.IsSound, Squares.rank}
use Rattle.chess_base.specs.declared.man.Kind.TheVariants.{King, Queen, Rook, Bishop, Knight, Pawn}
use Rattle.chess_base.specs.Attacks.{is_clear, could_capture, attacks, is_attacked}
use Rattle.chess_base.specs.Castling.{home_square, king_home_file, castled_king_file, right_of, is_castling_to, castle_of, mover_end}
use Rattle.chess_base.specs.Men.{Men, man_at, other, is_of, is_man, same_colour, same_kind}
use Rattle.chess_base.specs.Moves.{is_pseudo_legal, is_legal, is_en_passant, man_moves, men_after}
use Rattle.chess_base.proofs.{shared.Castling.right_is_sound_of, shared.Castling.castling_rook_is_there, shared.Men.is_of-from_is_man, shared.Men.is_man-kind, shared.Squares.each_square_same, shared.Squares.some_square_same, shared.Captures.could_capture-itself, shared.MenAfter.eqb_comm, shared.Geometry.is_between-end}
use Rattle.chess_moves.specs.Promoting.{would_promote}
use Rattle.chess_bits.specs.ties.Goes.{goes, legal_or, lifted, man_goes}
use Rattle.chess_bits.proofs.{KingAfter.king_lands, KingAfter.check_after, KingAfter.legal_is, Lifted.lifted_at, Listed.unpromoted, Patterns.man_sound, Patterns.not_promoting, TargetsOf.man_told, TargetsOf.none_castles, TargetsOf.steps_of_man}
use Rattle.chess_bits.proofs.Quiet.{lands_same, plain_after, plain_by, not_passing}

-- ---- a square is attacked from elsewhere: what is on it doesn't count

-- no piece attacks its own square
no_hit_as : (men : Men) (o : Option Man) (b : ℕ) → could_capture_as men o b b ≡ false
no_hit_as men None b = refl
no_hit_as men (Some x) b = could_capture-itself men x.colour x.kind b

-- if the pieces `men` and `later` differ on b alone, a way to b is clear on both boards or on neither
clear_same : (men later : Men) (a b : ℕ) → ((k : ℕ) → k < 64 → (k == b) ≡ false → man_at men k ≡ man_at later k)
    → is_clear men a b ≡ is_clear later a b
unfolding is_clear
clear_same men later a b h =
    each_square_same _ _
    (λ x l.
    elim (cases_Bool (x == b)) [
      | inl same ↦ let at : x ≡ b = eqb-true x b same in rw (at, is_between-end a b) refl
      | inr apart ↦ rw (h x l apart) refl
    ])

-- if the way from a to b is clear on both boards or on neither, each kind of piece on a could capture on b on both or
-- on neither
capture_same : (men later : Men) (c : Colour) (k : Kind) (a b : ℕ) → is_clear men a b ≡ is_clear later a b
    → could_capture men c k a b ≡ could_capture later c k a b
unfolding could_capture
capture_same men later c King a b e = refl
capture_same men later c Queen a b e = rw e refl
capture_same men later c Rook a b e = rw e refl
capture_same men later c Bishop a b e = rw e refl
capture_same men later c Knight a b e = refl
capture_same men later c Pawn a b e = refl

capture_as_same : (men later : Men) (o : Option Man) (a b : ℕ) → is_clear men a b ≡ is_clear later a b
    → could_capture_as men o a b ≡ could_capture_as later o a b
capture_as_same men later None a b e = refl
capture_as_same men later (Some x) a b e = capture_same men later x.colour x.kind a b e

-- if the pieces `men` and `later` differ on b alone, b is attacked on both boards or on neither
attacked_same : (men later : Men) (b : ℕ) (c : Colour)
    → ((k : ℕ) → k < 64 → (k == b) ≡ false → man_at men k ≡ man_at later k)
    → is_attacked men b c ≡ is_attacked later b c
unfolding is_attacked attacks
attacked_same men later b c h =
    some_square_same _ _
    (λ a l.
    elim (cases_Bool (a == b)) [
      | inl same ↦
          let at : a ≡ b = eqb-true a b same in
          rw (at, no_hit_as men (man_at men b) b, no_hit_as later (man_at later b) b)
          (and_right (is_of c (man_at men b)) false refl ∙ sym (and_right (is_of c (man_at later b)) false refl))
      | inr apart ↦ rw (h a l apart, capture_as_same men later (man_at later a) a b (clear_same men later a b h)) refl
    ])

-- ---- a step is no castling

-- in normal chess the king castles further than a step
far_from_home : (men : Men) (c : Colour) (w : CastlingSide)
    → could_capture men c King (home_square c king_home_file) (home_square c (castled_king_file w)) ≡ false
unfolding could_capture
far_from_home men White KingSide = refl
far_from_home men White QueenSide = refl
far_from_home men Black KingSide = refl
far_from_home men Black QueenSide = refl

-- a step to a square without an own piece names no castling: in Chess960 that goes to the own rook
named_apart : (v : Variant) (men : Men) (c : Colour) (a b : ℕ) (w : CastlingSide) (o : Option ℕ)
    → ((r : ℕ) → o ≡ Some r → is_man c Rook (man_at men r) ≡ true)
    → could_capture men c King a b ≡ true → is_of c (man_at men b) ≡ false
    → names_castling v c (move_of a b None) w o ≡ true → ⊥
named_apart v men c a b w None rook step free e = absurd cc
named_apart Normal men c a b w (Some r) rook step free e =
    let both = and_parts (a == home_square c king_home_file) (b == home_square c (castled_king_file w)) e in
    let start = eqb-true a (home_square c king_home_file) both.0 in
    let end = eqb-true b (home_square c (castled_king_file w)) both.1 in
    both_ways (could_capture men c King (home_square c king_home_file) (home_square c (castled_king_file w)))
    (far_from_home men c w)
    (sym (ap (λ s. could_capture men c King s b) start
    ∙ ap (λ s. could_capture men c King (home_square c king_home_file) s) end) ∙ step)
named_apart Fischerandom men c a b w (Some r) rook step free e =
    let at = eqb-true b r (and_parts (rank a == rank r) (b == r) e).1 in
    both_ways (is_of c (man_at men b)) free (ap (λ s. is_of c (man_at men s)) at
    ∙ is_of-from_is_man c Rook (man_at men r) (rook r refl))

-- in a sound position a king's move to a square that it attacks, with no own piece there, castles to neither side
not_said : (p : Setup) (a b : ℕ) (w : CastlingSide) → IsSound p → could_capture p.men p.side King a b ≡ true
    → is_of p.side (man_at p.men b) ≡ false
    → is_castling_to p (move_of a b None) w ≡ false
unfolding is_castling_to
not_said p a b w sound step free =
    false_from_ne_true _
    (λ e.
    named_apart p.variant p.men p.side a b w (right_of p.rights p.side w)
    (λ r at. castling_rook_is_there p p.side w r (right_is_sound_of p sound p.side w) at)
    step free
    (and_parts (is_man p.side King (man_at p.men a))
    (names_castling p.variant p.side (move_of a b None) w (right_of p.rights p.side w)) e).1)

-- a king's step goes to a square that the king attacks and where no own piece is
step_parts : (p : Setup) (a b : ℕ) → is_man p.side King (man_at p.men a) ≡ true → man_moves p (move_of a b None) ≡ true
    → (could_capture p.men p.side King a b ≡ true) × (is_of p.side (man_at p.men b) ≡ false)
step_parts p a b king moves =
    let at = man_told p.side King (man_at p.men a) king in
    let both = and_parts (could_capture p.men p.side King a b) (not (is_of p.side (man_at p.men b)))
    (sym (steps_of_man p a b _ at refl) ∙ moves) in
    (both.0, off (is_of p.side (man_at p.men b)) both.1)
  where
    off : (t : Bool) → not t ≡ true → t ≡ false
    off true h = cc
    off false h = refl

pub step_no_castling : (p : Setup) (a b : ℕ) → IsSound p → is_man p.side King (man_at p.men a) ≡ true
    → man_moves p (move_of a b None) ≡ true → castle_of p (move_of a b None) ≡ None
step_no_castling p a b sound king moves =
    let parts = step_parts p a b king moves in
    none_castles p (move_of a b None) (not_said p a b KingSide sound parts.0 parts.1)
    (not_said p a b QueenSide sound parts.0 parts.1)

pub king_told : (c : Colour) (x : Man) (o : Option Man) → o ≡ Some x → is_of c o ≡ true → same_kind King x.kind ≡ true
    → is_man c King o ≡ true
unfolding is_of is_man
king_told c x o at own king = rw at (and_from (same_colour c x.colour) (same_kind King x.kind) (rw at at own) king)

-- a king goes by legal castling or by a step, since no step is castling
pub king_goes : (p : Setup) (a b : ℕ) (x : Man) (step : Bool) → IsSound p → man_at p.men a ≡ Some x
    → is_of p.side (man_at p.men a) ≡ true → same_kind King x.kind ≡ true → step ≡ man_moves p (move_of a b None)
    → (legal_or p (move_of a b None) (castle_of p (move_of a b None)) false || step) ≡ man_goes p a b
king_goes p a b x true sound at own king steps =
    let none = step_no_castling p a b sound (king_told p.side x (man_at p.men a) at own king) (sym steps) in
    rw none steps
king_goes p a b x false sound at own king steps =
    or-false _ ∙ ap (legal_or p (move_of a b None) (castle_of p (move_of a b None))) steps

-- ---- a step is legal where the square isn't attacked once the king has left his own

-- the king's step from a to b, legal exactly if no enemy attacks b with the king taken off the board
pub step_is : (p : Setup) (a b : ℕ) → IsSound p → is_man p.side King (man_at p.men a) ≡ true
    → man_moves p (move_of a b None) ≡ true → a < 64 → b < 64
    → not (is_attacked (lifted p.men a) b (other p.side)) ≡ is_legal p (move_of a b None)
unfolding mover_end
step_is p a b sound king moves low high =
    let m = move_of a b None in
    let at = man_told p.side King (man_at p.men a) king in
    let none : castle_of p m ≡ None = step_no_castling p a b sound king moves in
    let go : goes p a b ≡ true = man_sound p a b _ at refl refl low high
    (ap (λ o. legal_or p m o (man_moves p m)) none ∙ moves) in
    let stays : would_promote p a b ≡ false = not_promoting p a b _ at refl in
    let pattern : is_pseudo_legal p m ≡ true = unpromoted p a b go stays in
    let lands : mover_end p m ≡ b = ap (mover_to m) none in
    let there : is_man p.side King (man_at (men_after p m) b) ≡ true =
    king_lands p m b (sym lands) high (ap (λ o. is_man p.side King o) (lands_same (man_at p.men a)) ∙ king) in
    let no_passing : is_en_passant p m ≡ false =
    not_passing p m (rw (is_man-kind p.side p.side King Pawn (man_at p.men a) refl king) refl) in
    let plain = plain_by p m pattern none no_passing in
    let same : (k : ℕ) → k < 64 → (k == b) ≡ false → man_at (lifted p.men a) k ≡ man_at (men_after p m) k =
    λ k l apart. lifted_at p.men a k sound.board low
    ∙ sym (plain_after p m k plain l ∙ rw (lands, eqb_comm b k, apart, eqb_comm a k) refl) in
    ap not (attacked_same (lifted p.men a) (men_after p m) b (other p.side) same
    ∙ sym (check_after p m b sound pattern high there)) ∙ legal_is p m pattern

-- a king's steps, as the code computes them: to squares that it attacks and that hold no own piece
pub steps_are : (p : Setup) (a b : ℕ) → is_man p.side King (man_at p.men a) ≡ true
    → (could_capture p.men p.side King a b && not (is_of p.side (man_at p.men b))) ≡ man_moves p (move_of a b None)
steps_are p a b king = sym (steps_of_man p a b _ (man_told p.side King (man_at p.men a) king) refl)
