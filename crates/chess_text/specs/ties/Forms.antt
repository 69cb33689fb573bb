-- What a text is read as before any position is looked at: castling, or its parts (its form). Then, in a position, the
-- one square on which all moves end that a form denotes, and which of the moves to it are denoted.
use Rattle.std.specs.Prelude.{Bool, is_some, is_none, not, ◌||◌, ◌==◌, ◌≡◌, ◌&&◌, ◌+◌, ◌*◌, nat_lt, if◌then◌else◌, List, [], ◌∷◌, ℕ, map, Option, Some, None, IsTrue}
use Rattle.std.specs.List.{list_any, filter}
use Rattle.std.specs.Str.{bytes_eq}
use Rattle.chess_base.specs.declared.man.CastlingSide.{CastlingSide}
use Rattle.chess_base.specs.declared.man.CastlingSide.TheVariants.{KingSide, QueenSide}
use Rattle.chess_base.specs.declared.man.Colour.{Colour}
use Rattle.chess_base.specs.declared.man.Kind.{Kind}
use Rattle.chess_base.specs.declared.man.Kind.TheVariants.{King, Pawn}
use Rattle.chess_base.specs.declared.man.Move.{Move}
use Rattle.chess_base.specs.declared.man.Variant.{Variant}
use Rattle.chess_base.specs.declared.man.Variant.TheVariants.{Normal, Fischerandom}
use Rattle.chess_base.specs.declared.setup.Setup.{Setup}
use Rattle.chess_base.specs.Moves.{captured_square, is_legal}
use Rattle.chess_base.specs.Castling.{castled_king_file, castling, home_square, right_of}
use Rattle.chess_base.specs.Men.{same_kind}
use Rattle.chess_base.specs.Squares.{file, rank}
use Rattle.chess_base.specs.MoveList.{move_of}
use Rattle.chess_text.specs.declared.described.Described.{Described}
use Rattle.chess_text.specs.declared.form.Form.{Form}
use Rattle.chess_text.specs.declared.form.Form.TheVariants.{Castling, Piece}
use Rattle.chess_text.specs.declared.parts.Parts.{Parts}
use Rattle.chess_text.specs.Parts.{unmarked}
use Rattle.chess_text.specs.shared.Reader.{parts_at}
use Rattle.chess_moves.specs.Sets.{contains}
use Rattle.chess_text.specs.declared.reading.Reading.{Reading}
use Rattle.chess_text.specs.declared.reading.Reading.TheVariants as reads
use Rattle.chess_text.specs.Moves.{castling_texts, described}
use Rattle.chess_text.specs.shared.Fitting.{passes, admits, parts_fit, is_form, names}

-- the side to which a text without marks denotes castling: O-O, 0-0, O-O-O or 0-0-0; none for any other text
abbrev pub castling_named : List ℕ → Option CastlingSide
castling_named text =
    if list_any (bytes_eq text) (castling_texts KingSide) then Some KingSide
    else (if list_any (bytes_eq text) (castling_texts QueenSide) then Some QueenSide else None)

-- what a text with these parts is read as: the parts, if they can be those of a move's text; `None` if they can't, or
-- if the text has no parts
abbrev pub form_of_parts : Option Parts → Option Form
form_of_parts None = None
form_of_parts (Some q) = if is_form q then Some (Piece q) else None

-- what a text is read as: castling to side w if it denotes that (`Some w`), otherwise its parts, if they can be those
-- of a move's text; otherwise `None`
abbrev pub form_at : Option CastlingSide → List ℕ → Option Form
form_at (Some w) text = Some (Castling w)
form_at None text = form_of_parts (parts_at text)

-- what a text is read as before any position is looked at: castling, or its parts, such as letter and end square;
-- `None` if it hasn't the shape of a move
unfoldable pub form_of : List ℕ → Option Form
form_of text = form_at (castling_named (unmarked text)) (unmarked text)

-- move m of position p captures a piece, on its end square or en passant
abbrev pub captures : Setup → Move → Bool
captures p m = is_some (captured_square p m)

-- two castling sides are equal
abbrev pub same_side : CastlingSide → CastlingSide → Bool
same_side KingSide KingSide = Bool.true
same_side QueenSide QueenSide = Bool.true
same_side _ _ = Bool.false

-- the text that was read as this form denotes the move of description d
abbrev pub form_fits : Form → Described → Bool
form_fits (Castling w) d = passes (same_side w) d.castles
form_fits (Piece q) d = parts_fit q d

-- the text that was read as this form denotes move m of position p
unfoldable pub is_denoted : Form → Setup → Move → Bool
is_denoted form p m = passes (form_fits form) (described p m)

-- the end square of the move by which colour c castles on side w: in normal chess the king's end square, in Chess960
-- the square of the right's rook (if there is no right, no such move is legal)
abbrev pub castling_end : Variant → Colour → CastlingSide → Option ℕ → ℕ
castling_end Normal c w right = home_square c (castled_king_file w)
castling_end Fischerandom c w None = home_square c (castled_king_file w)
castling_end Fischerandom c w (Some rook) = rook

-- the end square of each move of position p that a text of this form can denote
abbrev pub end_square : Form → Setup → ℕ
end_square (Castling w) p = castling_end p.variant p.side w (right_of p.rights p.side w)
end_square (Piece q) p = q.end.to

-- the legal moves from square a to square b, with one of the promotions ks, that a text of this form denotes
abbrev pub denoted_with : Form → Setup → ℕ → ℕ → List (Option Kind) → List Move
denoted_with form p a b ks = filter (λ m. is_denoted form p m && is_legal p m) (map (move_of a b) ks)

-- what a text is read as after one more legal move m that it denotes, from the reading so far: m if it was `NoSuch`,
-- `Ambiguous` if there was a move already (`NotAMove` stays)
abbrev pub with_move : Reading → Move → Reading
with_move reads.NoSuch m = reads.Move m
with_move (reads.Move n) m = reads.Ambiguous
with_move reads.Ambiguous m = reads.Ambiguous
with_move reads.NotAMove m = reads.NotAMove

-- what a text is read as after these legal moves that it denotes, from the reading so far (`found`), one after another
-- by `with_move`: from `NoSuch`, a single move is the reading, several are `Ambiguous`, and with none it stays `NoSuch`
abbrev pub with_moves : Reading → List Move → Reading
with_moves found [] = found
with_moves found (m ∷ ms) = with_moves (with_move found m) ms

-- the square on this file and rank, from 0 on, if both are given and below 8; otherwise none
abbrev pub named_square : Option ℕ → Option ℕ → Option ℕ
named_square None rank = None
named_square (Some f) None = None
named_square (Some f) (Some r) = if nat_lt f 8 && nat_lt r 8 then Some (8 * r + f) else None

-- the set of squares w has at least the start square of each legal move that a text of this form denotes; it may have
-- others too
abbrev pub IsStart : Setup → Form → ℕ → Type 0
IsStart p form w =
    (m : Move) → is_denoted form p m ≡ Bool.true → is_legal p m ≡ Bool.true → contains w m.from ≡ Bool.true

-- the kind of the pieces whose moves a text denotes, from the letter and the start square that it names, either of
-- which may be missing: a letter's kind; without both a pawn (e4, exd5); with a start square alone none, since any
-- piece may be there (e2e4)
abbrev pub kind_by : Option Kind → Option ℕ → Option Kind
kind_by (Some Pawn) square = None
kind_by (Some kind) square = Some kind
kind_by None (Some square) = None
kind_by None None = Some Pawn

-- the kind of the pieces whose moves these parts denote, if the parts say it and name no promotion: a knight for Nf3, a
-- pawn for e4, none for e2e4
abbrev pub one_kind : Parts → Option Kind
one_kind q = if is_some q.end.promotion then None else kind_by q.letter (named_square q.file q.rank)

-- the parts q, which have the letter of kind k, denote m, a legal move of such a piece to their end square: it starts
-- on the file and rank that they name, is a capture if they have `x`, and is not castling
abbrev pub is_denoted_by_letter : Parts → Setup → Kind → Move → Bool
is_denoted_by_letter q p k m = admits q.file (file m.from) && admits q.rank (rank m.from)
    && (not q.takes || captures p m) && not (same_kind King k && is_some (castling p m))

-- the parts q, which have no letter, denote m, a pawn's legal move to their end square without a promotion: straight
-- ahead if they name no file (e4), otherwise from that file, and a capture if they have `x` (exd5)
abbrev pub is_denoted_by_pawn : Parts → Setup → Move → Bool
is_denoted_by_pawn q p m =
    if is_none q.file then is_none q.rank && not q.takes && (file m.from == file m.to)
    else names q.file (file m.from) && admits q.rank (rank m.from) && (not q.takes || captures p m)

-- the parts q, in which only pieces of kind k can be meant, denote m, a legal move of such a piece to their end square,
-- without a promotion
abbrev pub is_denoted_of : Parts → Setup → Kind → Move → Bool
is_denoted_of q p k m = if is_some q.letter then is_denoted_by_letter q p k m else is_denoted_by_pawn q p m

-- the move from square a to the end square of the parts q, as a list of one, if q denotes it; otherwise the empty list.
-- The move is known to be legal, no promotion, and of a piece of kind k
abbrev pub denoted_start : Parts → Setup → Kind → ℕ → List Move
denoted_start q p k a = if is_denoted_of q p k (move_of a q.end.to None) then move_of a q.end.to None ∷ [] else []

-- if the described move names a promotion, its piece is a pawn
abbrev pub promotes_as_a_pawn : Described → Type 0
promotes_as_a_pawn d = IsTrue (same_kind d.man Pawn || is_none d.promotion)
