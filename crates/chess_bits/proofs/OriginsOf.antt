-- Sets that have the start of each legal move of a kind to a square (`HasOrigins`), perhaps others too: officers on
-- squares that their kind would attack from there, since such pieces attack as they are attacked (officer_origins), and
-- pawns that advance or capture to it (pawn_origins). And a pawn is off rank 1, with the square ahead of it on the
-- board (off_lowest, on_board).
use Rattle.std.proofs.Common.{◌≡◌, ℕ, ◌<◌, ◌≤◌, Bool, true, false, not, ◌&&◌, ◌||◌, ◌==◌, None, refl, sym, ap, ◌∙◌, arith}
use Rattle.std.proofs.{lemmas.Bool.and_parts, lemmas.Bool.and_from, lemmas.Bool.not-true, lemmas.Bool.Decides.nat_tests}
use Rattle.chess_base.specs.{declared.man.Colour.Colour, declared.man.Colour.TheVariants.White, declared.man.Colour.TheVariants.Black, declared.man.Kind.Kind, declared.man.Move.Move, declared.setup.Setup.Setup, Attacks.could_capture, MoveList.move_of, Moves.is_legal, Moves.pawn_advances, Moves.pawn_captures, shared.Parts.pawn_is_allowed, Squares.file, Squares.rank}
use Rattle.chess_base.specs.declared.man.Kind.TheVariants.{King, Queen, Rook, Bishop, Knight, Pawn}
use Rattle.chess_base.specs.Men.{Men, man_at, is_of, is_man, same_kind, forward}
use Rattle.chess_base.proofs.{shared.Changes.pawn_from_same, shared.Men.is_of-from_is_man, shared.Geometry.abs_diff_back, shared.Geometry.diagonal_back, shared.Geometry.is_clear_back, shared.MenAfter.eqb_comm}
use Rattle.chess_moves.specs.Sets.{contains, HasOrigins}
use Rattle.chess_moves.proofs.shared.Origins.{begins_below}
use Rattle.chess_bits.specs.ties.Goes.{man_goes}
use Rattle.chess_bits.proofs.{Patterns.man_complete, Patterns.pawn_goes, Patterns.legal_goes, Reached.line_back, TargetsOf.man_told, TargetsOf.officer_is, TargetsOf.ends_below}

-- a piece other than a pawn attacks as it is attacked
pub back : (men : Men) (c : Colour) (kind : Kind) (a b : ℕ) → same_kind Pawn kind ≡ false
    → could_capture men c kind a b ≡ could_capture men c kind b a
unfolding could_capture
back men c King a b h = rw (eqb_comm a b, abs_diff_back (file a) (file b), abs_diff_back (rank a) (rank b)) refl
back men c Queen a b h = rw (eqb_comm a b, ← line_back a b, diagonal_back a b, is_clear_back men a b) refl
back men c Rook a b h = rw (eqb_comm a b, ← line_back a b, is_clear_back men a b) refl
back men c Bishop a b h = rw (eqb_comm a b, diagonal_back a b, is_clear_back men a b) refl
back men c Knight a b h = rw (abs_diff_back (file a) (file b), abs_diff_back (rank a) (rank b)) refl
back men c Pawn a b h = cc

-- an officer's legal move starts from a square that its kind would attack from the end square
pub officer_attacks : (p : Setup) (kind : Kind) (m : Move) → same_kind Pawn kind ≡ false → same_kind King kind ≡ false
    → is_legal p m ≡ true → is_man p.side kind (man_at p.men m.from) ≡ true
    → could_capture p.men p.side kind m.to m.from ≡ true
officer_attacks p kind m no_pawn no_king legal man =
    let at = man_told p.side kind (man_at p.men m.from) man in
    let own = is_of-from_is_man p.side kind (man_at p.men m.from) man in
    let goes : man_goes p m.from m.to ≡ true = man_complete p m _ at refl no_pawn (begins_below p m legal)
    (ends_below p m legal) legal in
    let both = and_parts (could_capture p.men p.side kind m.from m.to) (not (is_of p.side (man_at p.men m.to)))
    (officer_is p m.from m.to _ at own no_king ∙ goes) in
    back p.men p.side kind m.to m.from no_pawn ∙ both.0

-- so if w has the officers of the kind (all of them: u) on squares that the kind attacks from `to`, it has the start of
-- each legal move of the kind to `to`
pub officer_origins : (p : Setup) (kind : Kind) (to w u : ℕ) → same_kind Pawn kind ≡ false → same_kind King kind ≡ false
    → ((k : ℕ) → k < 64 → contains w k ≡ (could_capture p.men p.side kind to k && contains u k))
    → ((k : ℕ) → k < 64 → contains u k ≡ is_man p.side kind (man_at p.men k))
    → HasOrigins p kind to w
officer_origins p kind to w u no_pawn no_king reached men = λ m legal man there.
    let low = begins_below p m legal in
    reached m.from low
    ∙ and_from (could_capture p.men p.side kind to m.from) (contains u m.from)
    (ap (λ t. could_capture p.men p.side kind t m.from) (sym there)
    ∙ officer_attacks p kind m no_pawn no_king legal man)
    (men m.from low ∙ man)

-- ---- pawns

-- no pawn is on rank 1
pub off_lowest : (men : Men) (c : Colour) (a : ℕ) → is_man c Pawn (man_at men a) ≡ true → pawn_is_allowed men a ≡ true
    → 8 ≤ a
off_lowest men White a man e = let f = not-true _ (rw man at e) in grind (arith, nat_tests, f)
off_lowest men Black a man e = by (is_man White Pawn (man_at men a)) (rw man at e)
  where
    by : (w : Bool) → not ((w || true) && ((rank a == 0) || (rank a == 7))) ≡ true → 8 ≤ a
    by true h = let f = not-true _ h in grind (arith, nat_tests, f)
    by false h = let f = not-true _ h in grind (arith, nat_tests, f)

-- the square one ahead of a pawn is on the board
pub on_board : (men : Men) (c : Colour) (a : ℕ) → is_man c Pawn (man_at men a) ≡ true → pawn_is_allowed men a ≡ true
    → a < 64 → forward c a < 64
on_board men White a man e low = let f = not-true _ (rw man at e) in grind (arith, nat_tests, f, low)
on_board men Black a man e low = omega (arith, low)

-- a pawn's legal move is an advance or a capture
pawn_comes : (p : Setup) (m : Move) → is_man p.side Pawn (man_at p.men m.from) ≡ true → is_legal p m ≡ true
    → (pawn_advances p (move_of m.from m.to None) || pawn_captures p (move_of m.from m.to None)) ≡ true
pawn_comes p m pawn legal =
    sym (pawn_goes p m.from m.to _ (man_told p.side Pawn (man_at p.men m.from) pawn) refl refl (begins_below p m legal)
    (ends_below p m legal))
    ∙ (legal_goes p m legal).0

-- so the pawns that advance or capture to the square are the starts of all pawns' legal moves there
pub pawn_origins : (p : Setup) (kind : Kind) (to w : ℕ) → same_kind Pawn kind ≡ true
    → ((k : ℕ) → k < 64 → contains w k ≡ (is_man p.side Pawn (man_at p.men k)
    && (pawn_advances p (move_of k to None) || pawn_captures p (move_of k to None))))
    → HasOrigins p kind to w
pawn_origins p kind to w is starts = λ m legal man there.
    let pawn : is_man p.side Pawn (man_at p.men m.from) ≡ true = ap (λ k. is_man p.side k (man_at p.men m.from))
    (sym (pawn_from_same kind is)) ∙ man in
    starts m.from (begins_below p m legal)
    ∙ and_from (is_man p.side Pawn (man_at p.men m.from))
    (pawn_advances p (move_of m.from to None) || pawn_captures p (move_of m.from to None)) pawn
    (ap (λ t. pawn_advances p (move_of m.from t None) || pawn_captures p (move_of m.from t None)) (sym there)
    ∙ pawn_comes p m pawn legal)
