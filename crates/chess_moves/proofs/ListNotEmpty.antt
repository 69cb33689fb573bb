-- If some move is legal, the list of legal moves isn't empty (some_legal). The promotion of a legal move is one of
-- those in `promotions` (fits_by_kind: by the cases of `MoveKind`), so the move is in the list of all moves, and the
-- filter that leaves the legal ones keeps it.
use Rattle.std.proofs.Common.{◌≡◌, ℕ, ◌<◌, inl, inr, Bool, true, false, Option, Some, None, List, [], ◌∷◌, length, map, refl, ◌∙◌, arith, ◌==◌, nat_lt}
use Rattle.std.proofs.{lemmas.Bool.cases_Bool, lemmas.Bool.both_ways, lemmas.Bool.lt-ltb, lemmas.List.Folds.list_any_at}
use Rattle.std.specs.List.{filter, flat_map, list_any}
use Rattle.chess_base.specs.{declared.man.Kind.Kind, declared.man.Move.Move, declared.setup.Setup.Setup, Castling.castle_from, Men.other, Men.first_rank, Moves.is_legal, Moves.promotion_fits, Squares.rank, Squares.squares}
use Rattle.chess_base.specs.declared.man.Kind.TheVariants.{King, Queen, Rook, Bishop, Knight, Pawn}
use Rattle.chess_base.specs.MoveList.{promotions, move_of, all_moves, moves}
use Rattle.chess_base.proofs.shared.MoveKinds.{MoveKind, ManMoves, Castles, PawnMoves, promoted_by_kind, castles_unpromoted, Moves-from_legal}
use Rattle.chess_moves.proofs.shared.AnyMove.{any-flat_map, any-square}

-- its promotion fits, on its last rank or elsewhere
abbrev Fits : Option Kind → Type 0
Fits o = (last : Bool) × (promotion_fits last o ≡ true)

-- naming no promotion (`None`) fits a move that ends elsewhere than on a last rank
unpromoted : (o : Option Kind) → o ≡ None → Fits o
unpromoted o e = (false, rw e refl)

-- an option that holds no kind is `None`
only_none : (o : Option Kind) → ((k : Kind) → o ≡ Some k → ⊥) → o ≡ None
only_none None h = refl
only_none (Some k) h = absurd (h k refl)

-- the promotion of a move that follows its piece's pattern fits: only a pawn has one
fits_by_kind : (p : Setup) (m : Move) → MoveKind p m → Fits m.promotion
fits_by_kind p m (PawnMoves man fits kind) = (rank m.to == first_rank (other p.side), fits)
fits_by_kind p m (ManMoves n c e) =
    unpromoted m.promotion
    (only_none m.promotion (λ k at. both_ways _ n (promoted_by_kind p m k (ManMoves n c e) at)))
fits_by_kind p m (Castles w r c right e) =
    unpromoted m.promotion (castles_unpromoted p m (castle_from p.side w m.from r) e)

-- a test that the move passes finds one among the moves with its squares: the numbers are indices in `promotions`
any-promotion : (t : Move → Bool) (a b : ℕ) (o : Option Kind) → Fits o → t (move_of a b o) ≡ true
    → list_any t (map (move_of a b) promotions) ≡ true
any-promotion t a b None h e = list_any_at t (map (move_of a b) promotions) 0 (move_of a b None) (omega arith) e
any-promotion t a b (Some Queen) h e = list_any_at t (map (move_of a b) promotions) 1 (move_of a b None) (omega arith) e
any-promotion t a b (Some Rook) h e = list_any_at t (map (move_of a b) promotions) 2 (move_of a b None) (omega arith) e
any-promotion t a b (Some Bishop) h e = list_any_at t (map (move_of a b) promotions) 3 (move_of a b None) (omega arith) e
any-promotion t a b (Some Knight) h e = list_any_at t (map (move_of a b) promotions) 4 (move_of a b None) (omega arith) e
any-promotion t a b (Some King) h e = let never = h.1 in cc
any-promotion t a b (Some Pawn) h e = let never = h.1 in cc

-- a test that the move passes finds one in `all_moves`
any-triple : (t : Move → Bool) (m : Move) → m.from < 64 → m.to < 64 → Fits m.promotion → t m ≡ true
    → list_any t all_moves ≡ true
unfolding all_moves
any-triple t m f b k e =
    let here : list_any t (map (move_of m.from m.to) promotions) ≡ true =
    any-promotion t m.from m.to m.promotion k e in
    let from : list_any t (flat_map (λ b. map (move_of m.from b) promotions) squares) ≡ true =
    any-flat_map t (λ b. map (move_of m.from b) promotions) squares
    ∙ any-square (λ b. list_any t (map (move_of m.from b) promotions)) m.to b here in
    any-flat_map t (λ a. flat_map (λ b. map (move_of a b) promotions) squares) squares
    ∙ any-square (λ a. list_any t (flat_map (λ b. map (move_of a b) promotions) squares)) m.from f from

-- a filter by a test that some element passes keeps one at least
some_kept : {A : Type 0} (q : A → Bool) (xs : List A) → list_any q xs ≡ true → nat_lt 0 (length (filter q xs)) ≡ true
some_kept q [] h = cc
some_kept q (x ∷ xs) h =
    elim (cases_Bool (q x)) [
      | inl on ↦ rw on (lt-ltb _ _ (omega arith))
      | inr off ↦ rw off (some_kept q xs (rw off at h))
    ]

pub some_legal : (p : Setup) (m : Move) → is_legal p m ≡ true → nat_lt 0 (length (moves p)) ≡ true
unfolding moves
some_legal p m legal =
    let h = Moves-from_legal p m legal in
    some_kept (λ x. is_legal p x) all_moves
    (any-triple (λ x. is_legal p x) m h.from_in h.to_in (fits_by_kind p m h.kind) legal)
