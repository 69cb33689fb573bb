-- A game in the mirror has the mirrored verdict and the same claims. A game's position and that of the mirrored game
-- are mirrors but for the fullmove number (IsMirror), on which nothing here depends (after_ignores, moves_ignore,
-- same_ignores); so repetitions, legal moves and the clock agree.
use Rattle.std.proofs.Common.{◌≡◌, ℕ, ◌+◌, ◌<◌, Bool, true, false, cond, Some, None, Option, refl, sym, ap, ap₂, ◌∙◌, arith, ◌==◌, nat_le, subst, ◌&&◌, List, [], ◌∷◌, length, map, count_by, option_map, if◌then◌else◌}
use Rattle.std.proofs.lemmas.Bool.{and_parts, both_ways, eqb-true, ne_eqb}
use Rattle.std.proofs.{lemmas.List.Sums.sum_by-cons, Math.Bool.and_comm}
use Rattle.std.specs.{Cmp.both_ways as same_tests, List.list_any}
use Rattle.chess_base.specs.{declared.man.CastlingSide.CastlingSide, declared.man.CastlingSide.TheVariants.KingSide, declared.man.CastlingSide.TheVariants.QueenSide, declared.man.Colour.Colour, declared.man.Colour.TheVariants.White, declared.man.Colour.TheVariants.Black, declared.man.Kind.TheVariants.King, declared.man.Kind.TheVariants.Pawn, declared.man.Man.Man, declared.man.Move.Move, declared.setup.Setup.Setup, Squares.rank, Squares.is_at, Squares.some_square, Attacks.is_in_check, MoveList.moves, MoveList.move_of, Sound.IsSound, shared.Parts.crossed_rank}
use Rattle.chess_base.specs.Men.{Men, man_at, is_man, other, first_rank, same_kind}
use Rattle.chess_base.specs.Castling.{right_of, is_castling_to, castling, castle_of, castles}
use Rattle.chess_base.specs.Moves.{is_legal, is_pseudo_legal, after, is_en_passant, is_double_advance, pawn_advances, pawn_captures, pawn_moves, man_moves, captured_square, men_after, rights_after, target_after, resets_clock, halfmove_after, promotion_fits}
use Rattle.chess_base.proofs.{shared.Changes.at_target, shared.LegalMoves.IsSound-after, shared.Men.is_man-kind, shared.Castling.says_from_castling, shared.Castling.castling_says, shared.Squares.each_square_same, shared.Squares.some_square_same}
use Rattle.chess_base.proofs.shared.MoveKinds.{MoveKind, ManMoves, Castles, PawnMoves, unpromoted_below, Moves-from_legal}
use Rattle.chess_moves.proofs.shared.AnyMove.{AllFound, any_by_start}
use Rattle.chess_game.specs.{Ends.has_insufficient_material, Line.positions_of, Line.position_after, Line.IsLine}
use Rattle.chess_game.specs.Same.{same_man, same_men, same_square, same_colour_rights, same_rights, legal_en_passant_square, is_same_position, repetition_count}
use Rattle.chess_game.proofs.shared.Lines.{IsSound-position_after}
use Rattle.rules_laws.specs.Mirror.{mirrored, mirrored_men, mirrored_rights, mirrored_setup, mirrored_move, mirrored_verdict, MirrorGamesAlike}
use Rattle.rules_laws.proofs.NoMove.{judged, has_none, none_from, none_to, some_numbers}
use Rattle.rules_laws.proofs.MirrorAttacks.{mirrored_in, twice, each_mirrored, some_mirrored, flipped, man_at-mirrored, same_colour-other, is_in_check-mirrored}
use Rattle.rules_laws.proofs.MirrorAttacks as attacks
use Rattle.rules_laws.proofs.{MirrorMoves.target_in, MirrorMoves.rook_in, MirrorMoves.en_passant-mirrored, MirrorAfter.mirror_is_as_legal, MirrorAfter.mirror_moves_alike}
use Rattle.rules_laws.proofs.MirrorEndings.{move_twice, none_in_mirror, none_from_mirror, material-mirrored}

-- ---- positions but for their fullmove numbers

-- p with another fullmove number, n
abbrev pub numbered : ℕ → Setup → Setup
numbered n p = record p { fullmove = n }

after_ignores : (n : ℕ) (p : Setup) (m : Move) → numbered 1 (after (numbered n p) m) ≡ numbered 1 (after p m)
unfolding after men_after captured_square is_en_passant castle_of castling is_castling_to rights_after target_after
    is_double_advance halfmove_after resets_clock
after_ignores n p m = refl

moves_ignore : (n : ℕ) (p : Setup) → moves (numbered n p) ≡ moves p
unfolding moves is_legal is_pseudo_legal pawn_moves pawn_advances pawn_captures is_double_advance is_en_passant man_moves
    castle_of castling is_castling_to castles after men_after captured_square
moves_ignore n p = refl

square_ignores : (n : ℕ) (p : Setup) → legal_en_passant_square (numbered n p) ≡ legal_en_passant_square p
unfolding legal_en_passant_square is_en_passant
square_ignores n p = rw (moves_ignore n p) refl

-- that two positions are the same doesn't depend on their fullmove numbers
same_ignores : (n k : ℕ) (p q : Setup) → is_same_position (numbered n p) (numbered k q) ≡ is_same_position p q
unfolding is_same_position
same_ignores n k p q = rw (square_ignores n p, square_ignores k q) refl

-- ---- the same positions

flipped_same : (o r : Option Man) → same_man (flipped o) (flipped r) ≡ same_man o r
flipped_same None None = refl
flipped_same None (Some y) = refl
flipped_same (Some x) None = refl
flipped_same (Some x) (Some y) = ap (λ (b : Bool). b && same_kind x.kind y.kind) (same_colour-other x.colour y.colour)

men_same : (men others : Men) → same_men (mirrored_men men) (mirrored_men others) ≡ same_men men others
unfolding same_men
men_same men others =
    sym (each_mirrored (λ s. same_man (man_at (mirrored_men men) s) (man_at (mirrored_men others) s)))
    ∙ each_square_same _ _ (λ s l.
    ap₂ (λ (o r : Option Man). same_man o r) (man_at-mirrored men s l) (man_at-mirrored others s l)
    ∙ flipped_same (man_at men s) (man_at others s))

-- two optional squares on the board are equal exactly if their mirrors are
square_same : (o r : Option ℕ) → ((s : ℕ) → o ≡ Some s → s < 64) → ((s : ℕ) → r ≡ Some s → s < 64)
    → same_square (option_map mirrored o) (option_map mirrored r) ≡ same_square o r
square_same None None h l = refl
square_same None (Some t) h l = refl
square_same (Some s) None h l = refl
square_same (Some s) (Some t) h l = attacks.same_square s t (h s refl) (l t refl)

rights_same : (p q : Setup) → IsSound p → IsSound q
    → same_rights (mirrored_rights p.rights) (mirrored_rights q.rights) ≡ same_rights p.rights q.rights
unfolding same_rights
rights_same p q sound sound' =
    ap₂ (λ (a b : Bool). a && b)
    (ap₂ (λ (a b : Bool). a && b) (by Black KingSide) (by Black QueenSide))
    (ap₂ (λ (a b : Bool). a && b) (by White KingSide) (by White QueenSide))
    ∙ and_comm (same_colour_rights p.rights.black q.rights.black) (same_colour_rights p.rights.white q.rights.white)
  where
    by : (c : Colour) (w : CastlingSide)
        → same_square (option_map mirrored (right_of p.rights c w)) (option_map mirrored (right_of q.rights c w))
        ≡ same_square (right_of p.rights c w) (right_of q.rights c w)
    by c w = square_same (right_of p.rights c w) (right_of q.rights c w) (λ s e. rook_in p c w s sound e)
        (λ s e. rook_in q c w s sound' e)

-- ---- the square of a legal capture en passant

passes_parts : (p : Setup) (m : Move) → is_en_passant p m ≡ true
    → (is_man p.side Pawn (man_at p.men m.from) ≡ true) × (is_at p.target m.to ≡ true)
unfolding is_en_passant
passes_parts p m e =
    let both = and_parts _ _ e in ((and_parts _ _ both.0).0, both.1)

-- a target is not on the last rank, so a capture en passant doesn't promote (no_promotion)
short_of_last : (c : Colour) (s : ℕ) → rank s ≡ crossed_rank (other c) → (rank s == first_rank (other c)) ≡ false
short_of_last White s e = ne_eqb _ _ (λ f. omega (arith, e, f))
short_of_last Black s e = ne_eqb _ _ (λ f. omega (arith, e, f))

no_promotion : (p : Setup) (m : Move) → IsSound p → is_legal p m ≡ true → is_en_passant p m ≡ true → m.promotion ≡ None
no_promotion p m sound legal passes = by (Moves-from_legal p m legal).kind
  where
    by : MoveKind p m → m.promotion ≡ None
    by (ManMoves n at e) = absurd (both_ways _ n (passes_parts p m passes).0)
    by (Castles w r at right e) = absurd (both_ways _ (is_man-kind p.side p.side King Pawn (man_at p.men m.from) refl
        (castling_says p m w (says_from_castling p m w at)).0) (passes_parts p m passes).0)
    by (PawnMoves pawn fits k) =
        let last = short_of_last p.side m.to (at_target p m.to sound.target (passes_parts p m passes).1).0 in
        unpromoted_below m.promotion (subst (λ (b : Bool). promotion_fits b m.promotion ≡ true) last fits)

-- all legal captures en passant end on the target `to` and don't promote, as AllFound asks; so to look for one it is
-- enough to look at the starts
found : (p : Setup) (to : ℕ) → IsSound p → p.target ≡ Some to → AllFound p (λ m. is_en_passant p m) to
found p to sound at = record {
  ends = λ m legal passes. (let on = (passes_parts p m passes).1 in
      sym (eqb-true to m.to (subst (λ (o : Option ℕ). is_at o m.to ≡ true) at on)));
  stays = λ m legal passes. no_promotion p m sound legal passes;
}

found_in_mirror : (p : Setup) (to : ℕ) → IsSound p → p.target ≡ Some to
    → AllFound (mirrored_setup p) (λ m. is_en_passant (mirrored_setup p) m) (mirrored to)
found_in_mirror p to sound at = record {
  ends = λ m legal passes. (let on = (passes_parts (mirrored_setup p) m passes).1 in
      sym (eqb-true (mirrored to) m.to
      (subst (λ (o : Option ℕ). is_at (option_map mirrored o) m.to ≡ true) at on)));
  stays = λ m legal passes. (let h = Moves-from_legal (mirrored_setup p) m legal in
      let inside = mirrored_in m.from h.from_in in
      let inside' = mirrored_in m.to h.to_in in
      let same = move_twice m h.from_in h.to_in in
      no_promotion p (mirrored_move m) sound
      (sym (mirror_is_as_legal p (mirrored_move m) sound inside inside') ∙ ap (is_legal (mirrored_setup p)) same ∙ legal)
      (sym (en_passant-mirrored p (mirrored_move m) sound inside inside') ∙ ap (is_en_passant (mirrored_setup p)) same ∙ passes));
}

-- there is a legal capture en passant exactly if there is one in the mirror
captures_alike : (p : Setup) (to : ℕ) → IsSound p → p.target ≡ Some to
    → list_any (λ m. is_en_passant (mirrored_setup p) m) (moves (mirrored_setup p))
    ≡ list_any (λ m. is_en_passant p m) (moves p)
unfolding some_square
captures_alike p to sound at =
    let low = target_in p to sound at in
    let here : ℕ → Bool = λ a. is_en_passant p (move_of a to None) && is_legal p (move_of a to None) in
    let there : ℕ → Bool = λ a. is_en_passant (mirrored_setup p) (move_of a (mirrored to) None)
    && is_legal (mirrored_setup p) (move_of a (mirrored to) None) in
    sym (any_by_start (mirrored_setup p) (λ m. is_en_passant (mirrored_setup p) m) (mirrored to) (mirrored_in to low)
    (found_in_mirror p to sound at))
    ∙ sym (some_mirrored there)
    ∙ some_square_same (λ a. there (mirrored a)) here (λ a l.
    ap₂ (λ (x y : Bool). x && y) (en_passant-mirrored p (move_of a to None) sound l low)
    (mirror_is_as_legal p (move_of a to None) sound l low))
    ∙ any_by_start p (λ m. is_en_passant p m) to low (found p to sound at)

-- the square of a legal capture en passant is mirrored, where o is the target
square_by : (p : Setup) → IsSound p → (o : Option ℕ) → p.target ≡ o
    → (if list_any (λ m. is_en_passant (mirrored_setup p) m) (moves (mirrored_setup p)) then option_map mirrored o else None)
    ≡ option_map mirrored (if list_any (λ m. is_en_passant p m) (moves p) then o else None)
square_by p sound None at =
    none (list_any (λ m. is_en_passant (mirrored_setup p) m) (moves (mirrored_setup p)))
    ∙ sym (ap (option_map mirrored) (none (list_any (λ m. is_en_passant p m) (moves p))))
  where
    none : (b : Bool) → (let o : Option ℕ = if b then None else None in o ≡ None)
    none true = refl
    none false = refl
square_by p sound (Some to) at =
    ap (λ (b : Bool). if b then Some (mirrored to) else None) (captures_alike p to sound at)
    ∙ pushed (list_any (λ m. is_en_passant p m) (moves p))
  where
    pushed : (b : Bool) → (if b then Some (mirrored to) else None) ≡ option_map mirrored (if b then Some to else None)
    pushed true = refl
    pushed false = refl

square-mirrored : (p : Setup) → IsSound p
    → legal_en_passant_square (mirrored_setup p) ≡ option_map mirrored (legal_en_passant_square p)
unfolding legal_en_passant_square
square-mirrored p sound = square_by p sound p.target refl

-- that square is on the board
square_in : (p : Setup) (s : ℕ) → IsSound p → legal_en_passant_square p ≡ Some s → s < 64
unfolding legal_en_passant_square
square_in p s sound e = by (list_any (λ m. is_en_passant p m) (moves p)) e
  where
    by : (b : Bool) → (if b then p.target else None) ≡ Some s → s < 64
    by true e = target_in p s sound e
    by false e = cc

-- positions are the same exactly if their mirrors are
same-mirrored : (p q : Setup) → IsSound p → IsSound q
    → is_same_position (mirrored_setup p) (mirrored_setup q) ≡ is_same_position p q
unfolding is_same_position
same-mirrored p q sound sound' =
    rw (
      same_colour-other p.side q.side,
      men_same p.men q.men,
      rights_same p q sound sound',
      square-mirrored p sound,
      square-mirrored q sound',
      square_same (legal_en_passant_square p) (legal_en_passant_square q) (λ s e. square_in p s sound e)
          (λ s e. square_in q s sound' e),
    ) refl

-- ---- lines

-- q is the mirror of p, but for its fullmove number
abbrev IsMirror : Setup → Setup → Type 0
IsMirror p q = numbered 1 q ≡ numbered 1 (mirrored_setup p)

-- mirrors stay mirrors after a legal move and its mirror
next_mirror : (p q : Setup) (m : Move) → IsMirror p q → IsSound p → is_legal p m ≡ true
    → IsMirror (after p m) (after q (mirrored_move m))
next_mirror p q m is sound legal =
    sym (after_ignores 1 q (mirrored_move m))
    ∙ ap (λ (r : Setup). numbered 1 (after r (mirrored_move m))) is
    ∙ after_ignores 1 (mirrored_setup p) (mirrored_move m)
    ∙ mirror_moves_alike p m sound legal

-- positions are the same exactly if their mirrors are, though fullmove numbers may differ
same_by : (p q now now' : Setup) → IsMirror p q → IsMirror now now' → IsSound p → IsSound now
    → is_same_position q now' ≡ is_same_position p now
same_by p q now now' is is' sound sound' =
    sym (same_ignores 1 1 q now')
    ∙ ap₂ (λ (r s : Setup). is_same_position r s) is is'
    ∙ same_ignores 1 1 (mirrored_setup p) (mirrored_setup now)
    ∙ same-mirrored p now sound sound'

-- the last positions of a game and of the mirrored game are mirrors; by induction over the moves
last_mirror : (p q : Setup) (ms : List Move) → IsMirror p q → IsSound p → IsLine p ms
    → IsMirror (position_after p ms) (position_after q (map mirrored_move ms))
last_mirror p q [] is sound line = is
last_mirror p q (m ∷ ms) is sound line =
    last_mirror (after p m) (after q (mirrored_move m)) ms (next_mirror p q m is sound line.0)
    (IsSound-after p m sound line.0) line.1

abbrev one_if : Bool → ℕ
one_if b = cond b 1 0

-- the position now' occurs as often in the mirrored game as its mirror `now` in the game; by induction over the moves
count_alike : (p q : Setup) (ms : List Move) (now now' : Setup) → IsMirror p q → IsMirror now now' → IsSound p
    → IsSound now → IsLine p ms
    → count_by (λ r. is_same_position r now') (positions_of q (map mirrored_move ms))
    ≡ count_by (λ r. is_same_position r now) (positions_of p ms)
count_alike p q [] now now' is is' sound sound' line =
    sum_by-cons (λ r. one_if (is_same_position r now')) q []
    ∙ ap (λ (b : Bool). one_if b + 0) (same_by p q now now' is is' sound sound')
    ∙ sym (sum_by-cons (λ r. one_if (is_same_position r now)) p [])
count_alike p q (m ∷ ms) now now' is is' sound sound' line =
    sum_by-cons (λ r. one_if (is_same_position r now')) q (positions_of (after q (mirrored_move m)) (map mirrored_move ms))
    ∙ ap₂ (λ (b : Bool) (n : ℕ). one_if b + n) (same_by p q now now' is is' sound sound')
    (count_alike (after p m) (after q (mirrored_move m)) ms now now' (next_mirror p q m is sound line.0) is'
    (IsSound-after p m sound line.0) sound' line.1)
    ∙ sym (sum_by-cons (λ r. one_if (is_same_position r now)) p (positions_of (after p m) ms))

-- ---- verdicts

none_alike : (p : Setup) → IsSound p → has_none (mirrored_setup p) ≡ has_none p
none_alike p sound =
    same_tests _ _ (λ e. none_from p (none_from_mirror p sound (none_to (mirrored_setup p) e)))
    (λ e. none_from (mirrored_setup p) (none_in_mirror p sound (none_to p e)))

-- no move is legal in a position exactly if none is in its mirror q
none_by : (p q : Setup) → IsMirror p q → IsSound p → has_none q ≡ has_none p
none_by p q is sound =
    sym (ap (λ ms. length ms == 0) (moves_ignore 1 q)) ∙ ap has_none is
    ∙ ap (λ ms. length ms == 0) (moves_ignore 1 (mirrored_setup p)) ∙ none_alike p sound

-- what a verdict looks at besides
record Alike (p q : Setup) : Type 0 where
  pub men : q.men ≡ mirrored_men p.men
  pub side : q.side ≡ other p.side
  pub clock : q.halfmove ≡ p.halfmove

alike : (p q : Setup) → IsMirror p q → Alike p q
alike p q is = record {
  men = ap (λ (r : Setup). r.men) is;
  side = ap (λ (r : Setup). r.side) is;
  clock = ap (λ (r : Setup). r.halfmove) is;
}

-- the same tests with the other side on move give the mirrored verdict
judged-mirrored : (a b c d k : Bool) (s : Colour)
    → judged a b c d k (other s) ≡ option_map mirrored_verdict (judged a b c d k s)
judged-mirrored true b c d true White = refl
judged-mirrored true b c d true Black = refl
judged-mirrored true b c d false s = refl
judged-mirrored false true c d k s = refl
judged-mirrored false false true d k s = refl
judged-mirrored false false false true k s = refl
judged-mirrored false false false false k s = refl

-- equal tests give equal verdicts
judged_same : (a a' b b' c c' d d' k k' : Bool) (s s' : Colour) → a ≡ a' → b ≡ b' → c ≡ c' → d ≡ d' → k ≡ k' → s ≡ s'
    → judged a b c d k s ≡ judged a' b' c' d' k' s'
judged_same a a' b b' c c' d d' k k' s s' ea eb ec ed ek es = rw (ea, eb, ec, ed, ek, es) refl

-- so the present position has occurred as often in both games
repetitions_alike : (start : Setup) (ms : List Move) → IsSound start → IsLine start ms
    → repetition_count (mirrored_setup start) (map mirrored_move ms) ≡ repetition_count start ms
unfolding repetition_count
repetitions_alike start ms sound line =
    count_alike start (mirrored_setup start) ms (position_after start ms)
    (position_after (mirrored_setup start) (map mirrored_move ms)) refl
    (last_mirror start (mirrored_setup start) ms refl sound line) sound (IsSound-position_after start ms sound line)
    line

pub mirror_games_alike : MirrorGamesAlike
mirror_games_alike start ms sound line =
    let p = position_after start ms in
    let q = position_after (mirrored_setup start) (map mirrored_move ms) in
    let is : IsMirror p q = last_mirror start (mirrored_setup start) ms refl sound line in
    let sound' : IsSound p = IsSound-position_after start ms sound line in
    let at : Alike p q = alike p q is in
    let count = repetitions_alike start ms sound line in
    record {
      verdict = some_numbers.is (mirrored_setup start) (map mirrored_move ms)
          ∙ judged_same _ _ _ _ _ _ _ _ _ _ _ _ (none_by p q is sound')
          (ap has_insufficient_material at.men ∙ material-mirrored p.men sound'.board)
          (ap (λ (n : ℕ). nat_le some_numbers.times n) count)
          (ap (λ (n : ℕ). nat_le some_numbers.clock n) at.clock)
          (ap₂ (λ (men : Men) (c : Colour). is_in_check men c) at.men at.side ∙ is_in_check-mirrored p.men p.side)
          at.side
          ∙ judged-mirrored (has_none p) (has_insufficient_material p.men) (nat_le some_numbers.times (repetition_count start ms))
          (nat_le some_numbers.clock p.halfmove) (is_in_check p.men p.side) p.side
          ∙ sym (ap (option_map mirrored_verdict) (some_numbers.is start ms));
      claims = ap₂ (λ (n k : ℕ). record { threefold = nat_le 3 n; fifty_moves = nat_le 100 k }) count at.clock;
    }
