-- The laws of moves' texts (SAN, coordinates, the texts in lists of moves, and the parts of any text), each as one
-- statement.
use Rattle.std.specs.Prelude.{◌≡◌, ℕ, ◌⊎◌, ◌↔◌, List, Some, IsTrue}
use Rattle.chess_base.specs.Coordinates.{coordinate}
use Rattle.chess_base.specs.declared.man.CastlingSide.{CastlingSide}
use Rattle.chess_base.specs.declared.man.Move.{Move}
use Rattle.chess_base.specs.declared.setup.Setup.{Setup}
use Rattle.chess_base.specs.Moves.{is_legal}
use Rattle.chess_base.specs.Sound.{IsSound}
use Rattle.chess_text.specs.declared.described.Described.{Described}
use Rattle.chess_text.specs.declared.parts.Parts.{Parts}
use Rattle.chess_text.specs.declared.reading.Reading.TheVariants as reads
use Rattle.chess_text.specs.Parts.{unmarked}
use Rattle.chess_text.specs.shared.Reader.{parts_at}
use Rattle.chess_text.specs.shared.Fitting.{parts_text, is_form}
use Rattle.chess_text.specs.Moves.{denotes_described, shape, reading}
use Rattle.chess_text.specs.laws.CastlingTexts.{is_castling_text}
use Rattle.chess_text.specs.laws.Laws.{AreParts, DenotesAlone, IsDenoted}
use Rattle.chess_text.specs.San.{san, shown_move}

-- the SAN of a legal move of a sound position denotes that move, and no other legal move
abbrev pub SanDenotesItsMove : Type 0
SanDenotesItsMove = (p : Setup) → (m : Move) → IsSound p → IsTrue (is_legal p m) → DenotesAlone p (san p m) m

-- the SAN of a legal move of a sound position has the shape of a move
abbrev pub SanHasShape : Type 0
SanHasShape = (p : Setup) → (m : Move) → IsSound p → IsTrue (is_legal p m) → IsTrue (shape (san p m))

-- the SAN of a legal move of a sound position is read as that move
abbrev pub SanIsReadBack : Type 0
SanIsReadBack = (p : Setup) → (m : Move) → IsSound p → IsTrue (is_legal p m) → reading p (san p m) ≡ reads.Move m

-- the coordinate text (e2e4) of a legal move of a sound position denotes that move, and no other legal move
abbrev pub CoordinateDenotesItsMove : Type 0
CoordinateDenotesItsMove =
    (p : Setup) → (m : Move) → IsSound p → IsTrue (is_legal p m) → DenotesAlone p (coordinate m) m

-- the coordinate text of a legal move of a sound position has the shape of a move
abbrev pub CoordinateHasShape : Type 0
CoordinateHasShape = (p : Setup) → (m : Move) → IsSound p → IsTrue (is_legal p m) → IsTrue (shape (coordinate m))

-- the coordinate text of a legal move of a sound position is read as that move
abbrev pub CoordinateIsReadBack : Type 0
CoordinateIsReadBack = (p : Setup) → (m : Move) → IsSound p → IsTrue (is_legal p m)
    → reading p (coordinate m) ≡ reads.Move m

-- the text by which lists of moves show a legal move of a sound position denotes that move, and no other legal move
abbrev pub ShownMoveDenotesItsMove : Type 0
ShownMoveDenotesItsMove =
    (p : Setup) → (m : Move) → IsSound p → IsTrue (is_legal p m) → DenotesAlone p (shown_move p m) m

-- the text by which lists of moves show a legal move of a sound position has the shape of a move
abbrev pub ShownMoveHasShape : Type 0
ShownMoveHasShape = (p : Setup) → (m : Move) → IsSound p → IsTrue (is_legal p m) → IsTrue (shape (shown_move p m))

-- the text by which lists of moves show a legal move of a sound position is read as that move
abbrev pub ShownMoveIsReadBack : Type 0
ShownMoveIsReadBack = (p : Setup) → (m : Move) → IsSound p → IsTrue (is_legal p m)
    → reading p (shown_move p m) ≡ reads.Move m

-- if `parts_at` finds parts in a text, they can be a text's parts (`AreParts`), and it is their text (`parts_text`)
abbrev pub PartsAreTheTexts : Type 0
PartsAreTheTexts = (text : List ℕ) → (q : Parts) → parts_at text ≡ Some q → AreParts q × (text ≡ parts_text q)

-- in the text of parts that can be a text's (`AreParts`), `parts_at` finds these parts
abbrev pub PartsAreRead : Type 0
PartsAreRead = (q : Parts) → AreParts q → parts_at (parts_text q) ≡ Some q

-- a text denotes a described move by `denotes_described`, which compares it with lists of all texts of that move,
-- exactly if it does by `IsDenoted`, which needs no lists
abbrev pub DenotedByText : Type 0
DenotedByText = (text : List ℕ) → (d : Described) → IsTrue (denotes_described text d) ↔ IsDenoted text d

-- the text has the shape of a move: but for the marks (+ # ! ?) at its end it is O-O, 0-0, O-O-O or 0-0-0, or the text
-- of parts, [letter][file][rank][x]square[[=]promotion], in a form of a move's text (`is_form`)
abbrev pub IsShaped : List ℕ → Type 0
IsShaped text =
    ((w : CastlingSide) × IsTrue (is_castling_text text w))
    ⊎ ((q : Parts) × AreParts q × (unmarked text ≡ parts_text q) × IsTrue (is_form q))

-- a text has a move's shape by `shape`, which tries all descriptions of moves, exactly if it has by `IsShaped`, which
-- tries none
abbrev pub ShapedByText : Type 0
ShapedByText = (text : List ℕ) → IsTrue (shape text) ↔ IsShaped text
