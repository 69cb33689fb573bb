-- What each legal move has (legal_move): its squares are on the board, a piece of the side on move is on its start, and
-- it goes as this piece moves (IsMove); only a pawn promotes (unpromoted), and castling is the king's (castling_says).
-- By cases of the piece, from the tests in the definition of a legal move. So a legal move has a description, by that
-- piece (described_is).
use Rattle.std.proofs.Common.{◌≡◌, ℕ, ◌<◌, Bool, true, false, ◌&&◌, ◌||◌, not, cond, Option, Some, None, is_none, refl, sym, ap, ◌∙◌, ◌==◌, nat_lt, IfSome, option_map}
use Rattle.std.proofs.lemmas.Bool.{and_parts, ltb-true, eqb-true}
use Rattle.chess_base.specs.{declared.man.CastlingSide.CastlingSide, declared.man.Colour.Colour, declared.man.Kind.Kind, declared.man.Variant.Variant, declared.man.Variant.TheVariants.Normal, declared.man.Variant.TheVariants.Fischerandom, declared.man.Man.Man, declared.man.Move.Move, declared.setup.Setup.Setup, Attacks.attacks, Attacks.is_in_check, shared.Splits.castles_or_moves, shared.Splits.names_castling, declared.castling.Castle.Castle, Squares.rank}
use Rattle.chess_base.specs.declared.man.Kind.TheVariants.{King, Queen, Rook, Bishop, Knight, Pawn}
use Rattle.chess_base.specs.Men.{is_of, man_at, other, same_colour, same_kind, is_man, first_rank}
use Rattle.chess_base.specs.Moves.{is_legal, is_pseudo_legal, after, moves_as, man_moves, pawn_moves, pawn_advances, pawn_captures, promotion_fits}
use Rattle.chess_base.specs.Castling.{castling, is_castling_to, castled_king_file, castle_of, home_square, king_home_file, right_of}
use Rattle.chess_base.proofs.{shared.Men.same_colour-true, shared.Men.is_none-None, shared.Castling.says_from_castling, shared.MoveKinds.castles_unpromoted}
use Rattle.chess_text.specs.{declared.described.Described.Described, laws.Laws.HasLetter, laws.Laws.CanPromote, ties.Forms.captures, ties.Forms.castling_end, Moves.described}

-- what a text can say of a move of that piece
abbrev pub described_as : Setup → Move → Kind → Described
described_as p m k = record {
  man = k;
  from = m.from;
  to = m.to;
  promotion = m.promotion;
  captures = captures p m;
  castles = castling p m;
}

-- the same of the piece, if there is one
abbrev pub described_by : Setup → Move → Option Man → Option Described
described_by p m o = option_map (λ (x : Man). described_as p m x.kind) o

-- what is known of a move by its kind of piece: a pawn's has a pawn's pattern and isn't castling, another has no
-- promotion
abbrev pub MovesAs : Setup → Move → Kind → Type 0
MovesAs p m Pawn = (pawn_moves p m ≡ true) × (castling p m ≡ None)
MovesAs p m k = m.promotion ≡ None

-- what each legal move m of position p has (legal_move)
pub record IsMove (p : Setup) (m : Move) : Type 0 where
  pub from_in : m.from < 64
  pub to_in : m.to < 64
  pub man : Kind
  pub at_from : man_at p.men m.from ≡ Some (record { colour = p.side; kind = man })
  pub moves_as : MovesAs p m man
  pub promotion_is : IfSome m.promotion CanPromote

-- only a pawn promotes
pub unpromoted : (p : Setup) (m : Move) (k : Kind) → HasLetter k → MovesAs p m k → m.promotion ≡ None
unpromoted p m Pawn lettered h = absurd lettered
unpromoted p m King lettered h = h
unpromoted p m Queen lettered h = h
unpromoted p m Rook lettered h = h
unpromoted p m Bishop lettered h = h
unpromoted p m Knight lettered h = h

-- a promotion that fits the end rank, last or not, is to a piece that a pawn may become
fits_last : (last : Bool) (o : Option Kind) → promotion_fits last o ≡ true → IfSome o CanPromote
fits_last last None e = tt
fits_last last (Some King) e = absurd cc
fits_last last (Some Queen) e = tt
fits_last last (Some Rook) e = tt
fits_last last (Some Bishop) e = tt
fits_last last (Some Knight) e = tt
fits_last last (Some Pawn) e = absurd cc

none_promotes : (o : Option Kind) → o ≡ None → IfSome o CanPromote
none_promotes o e = rw e tt

-- ---- castling

-- castling is the king's move between squares that name it
pub castling_says : (p : Setup) (m : Move) (w : CastlingSide) → castling p m ≡ Some w
    → (is_man p.side King (man_at p.men m.from) ≡ true)
    × (names_castling p.variant p.side m w (right_of p.rights p.side w) ≡ true)
unfolding is_castling_to
castling_says p m w e = and_parts (is_man p.side King (man_at p.men m.from))
    (names_castling p.variant p.side m w (right_of p.rights p.side w)) (says_from_castling p m w e)

-- two squares that name castling to side w: the second is the one of `castling_end`
pub names_end : (v : Variant) (c : Colour) (m : Move) (w : CastlingSide) (o : Option ℕ)
    → names_castling v c m w o ≡ true → m.to ≡ castling_end v c w o
names_end v c m w None e = absurd cc
names_end Normal c m w (Some rook) e = eqb-true m.to (home_square c (castled_king_file w))
    (and_parts (m.from == home_square c king_home_file) (m.to == home_square c (castled_king_file w)) e).1
names_end Fischerandom c m w (Some rook) e =
    eqb-true m.to rook (and_parts (rank m.from == rank rook) (m.to == rook) e).1

-- a pawn's move isn't castling, since that is the king's
pawn_castles_not : (p : Setup) (m : Move) → man_at p.men m.from ≡ Some (record { colour = p.side; kind = Pawn })
    → (o : Option CastlingSide) → castling p m ≡ o → castling p m ≡ None
unfolding is_man
pawn_castles_not p m at None e = e
pawn_castles_not p m at (Some w) e =
    let king = (castling_says p m w e).0 in
    let king' = rw at at king in
    let no = (and_parts (same_colour p.side p.side) false king').1 in
    cc

-- ---- the kinds of move

-- a move that is castling to o, or if o is `None` one of a piece's pattern, has no promotion
no_promotion : (p : Setup) (m : Move) (o : Option Castle) → castles_or_moves p m o ≡ true → m.promotion ≡ None
unfolding man_moves
no_promotion p m None e =
    let two = and_parts (is_none m.promotion && attacks p.men m.from m.to) (not (is_of p.side (man_at p.men m.to))) e in
    is_none-None m.promotion (and_parts (is_none m.promotion) (attacks p.men m.from m.to) two.0).0
no_promotion p m (Some k) e = castles_unpromoted p m k e

-- the move is castling or of its piece's pattern, which is no pawn's
abbrev lettered_moves : Setup → Move → Bool
lettered_moves p m = castles_or_moves p m (castle_of p m)

-- what passes the test of its kind of piece has what `MovesAs` says of the kind
kind_moves : (p : Setup) (m : Move) (k : Kind) → man_at p.men m.from ≡ Some (record { colour = p.side; kind = k })
    → cond (same_kind Pawn k) (pawn_moves p m) (lettered_moves p m) ≡ true → MovesAs p m k
kind_moves p m Pawn at e = (e, pawn_castles_not p m at (castling p m) refl)
kind_moves p m King at e = no_promotion p m (castle_of p m) e
kind_moves p m Queen at e = no_promotion p m (castle_of p m) e
kind_moves p m Rook at e = no_promotion p m (castle_of p m) e
kind_moves p m Bishop at e = no_promotion p m (castle_of p m) e
kind_moves p m Knight at e = no_promotion p m (castle_of p m) e

-- so a promotion, if there is one, is to a piece that a pawn may become
kind_promotes : (p : Setup) (m : Move) (k : Kind) → MovesAs p m k → IfSome m.promotion CanPromote
unfolding pawn_moves
kind_promotes p m Pawn e = fits_last (rank m.to == first_rank (other p.side)) m.promotion
    (and_parts (promotion_fits (rank m.to == first_rank (other p.side)) m.promotion)
    (pawn_advances p m || pawn_captures p m) e.0).0
kind_promotes p m King e = none_promotes m.promotion e
kind_promotes p m Queen e = none_promotes m.promotion e
kind_promotes p m Rook e = none_promotes m.promotion e
kind_promotes p m Bishop e = none_promotes m.promotion e
kind_promotes p m Knight e = none_promotes m.promotion e

-- the facts of `IsMove`, from what is on the start square (o) and the test of how it moves
move_by : (p : Setup) (m : Move) (o : Option Man) → man_at p.men m.from ≡ o → m.from < 64 → m.to < 64
    → moves_as p m o ≡ true → IsMove p m
move_by p m None at f t e = absurd cc
move_by p m (Some x) at f t e =
    let both = and_parts (same_colour p.side x.colour)
    (cond (same_kind Pawn x.kind) (pawn_moves p m) (lettered_moves p m)) e in
    let own : x.colour ≡ p.side = sym (same_colour-true p.side x.colour both.0) in
    let at' : man_at p.men m.from ≡ Some (record { colour = p.side; kind = x.kind }) =
    at ∙ ap (λ (c : Colour). let man : Man = record { colour = c; kind = x.kind } in Some man) own in
    let goes = kind_moves p m x.kind at' both.1 in
    record {
      from_in = f;
      to_in = t;
      man = x.kind;
      at_from = at';
      moves_as = goes;
      promotion_is = kind_promotes p m x.kind goes;
    }

pub legal_move : (p : Setup) (m : Move) → is_legal p m ≡ true → IsMove p m
unfolding is_legal is_pseudo_legal
legal_move p m e =
    let legal = and_parts (nat_lt m.from 64 && nat_lt m.to 64 && moves_as p m (man_at p.men m.from))
    (not (is_in_check (after p m).men p.side)) e in
    let three = and_parts (nat_lt m.from 64 && nat_lt m.to 64) (moves_as p m (man_at p.men m.from)) legal.0 in
    let two = and_parts (nat_lt m.from 64) (nat_lt m.to 64) three.0 in
    move_by p m (man_at p.men m.from) refl (ltb-true m.from 64 two.0) (ltb-true m.to 64 two.1) three.1

pub described_is : (p : Setup) (m : Move) (h : IsMove p m) → described p m ≡ Some (described_as p m h.man)
unfolding described
described_is p m h = ap (described_by p m) h.at_from
