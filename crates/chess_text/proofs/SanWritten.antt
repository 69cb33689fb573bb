-- What the writer of SAN puts together, the unmarked text and then the mark of the position after the move, is the SAN
-- of the definition (san_marked). A legal move has a description (always_described), with a promotion only for a pawn
-- (legal_promotes): by what each legal move has (legal_move of Legal).
use Rattle.std.proofs.Common.{◌≡◌, ℕ, List, ◌++◌, Some, None, refl, ap, ◌∙◌, IsTrue}
use Rattle.chess_base.specs.{declared.man.Kind.Kind, declared.man.Move.Move, declared.setup.Setup.Setup, Moves.is_legal, Moves.after, shared.Parts.optional, MoveList.moves}
use Rattle.chess_base.specs.declared.man.Kind.TheVariants.{King, Queen, Rook, Bishop, Knight, Pawn}
use Rattle.chess_text.specs.{ties.SanParts.unmarked_san, declared.described.Described.Described, Moves.described, San.rival_starts, San.check_mark, San.san, ties.Forms.promotes_as_a_pawn}
use Rattle.chess_text.proofs.Legal.{MovesAs, legal_move, described_is, described_as}

-- a description of a legal move has a promotion only for a pawn
by_kind : (p : Setup) (m : Move) (k : Kind) → MovesAs p m k → promotes_as_a_pawn (described_as p m k)
by_kind p m Pawn h = refl
by_kind p m King h = rw h refl
by_kind p m Queen h = rw h refl
by_kind p m Rook h = rw h refl
by_kind p m Bishop h = rw h refl
by_kind p m Knight h = rw h refl

some_same : {A : Type 0} (x y : A) → Some x ≡ Some y → x ≡ y
some_same x y e = cc

-- only a pawn promotes
pub legal_promotes : (p : Setup) (m : Move) (d : Described) → IsTrue (is_legal p m) → Some d ≡ described p m
    → promotes_as_a_pawn d
legal_promotes p m d h e =
    let move = legal_move p m h in
    let is : d ≡ described_as p m move.man = some_same _ _ (e ∙ described_is p m move) in
    rw is (by_kind p m move.man move.moves_as)

-- a legal move has a description, since a piece is on its start square; so `None` is impossible
pub always_described : {A : Type 0} (p : Setup) (m : Move) → IsTrue (is_legal p m) → None ≡ described p m → A
always_described p m h e =
    let is : described p m ≡ Some (described_as p m (legal_move p m h).man) = described_is p m (legal_move p m h) in
    absurd cc

-- the unmarked SAN and the mark of the position after the move are the SAN
pub san_marked : (p : Setup) (m : Move) (d : Described) (unmarked : List ℕ) → Some d ≡ described p m
    → unmarked ≡ unmarked_san (rival_starts p (moves p) d) d → unmarked ++ check_mark (after p m) ≡ san p m
unfolding san
san_marked p m d unmarked is body = ap (λ v. v ++ check_mark (after p m)) body
    ∙ ap (optional (λ e. unmarked_san (rival_starts p (moves p) e) e ++ check_mark (after p m))) is
