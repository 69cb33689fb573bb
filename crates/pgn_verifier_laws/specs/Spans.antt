-- The spans of the reports on a text, in order, and what lies between them make up the text.
use Rattle.std.specs.Prelude.{◌≡◌, ◌<◌, ℕ, ◌+◌, Bool, false, List, [], ◌∷◌, ◌++◌, length}
use Rattle.pgn_pieces.specs.Pieces.{known_pieces}
use Rattle.verify_options.specs.declared.options.Strictness.{Strictness}
use Rattle.pgn_verifier.specs.Collection.{AreCollectionReports}
use Rattle.pgn_verifier.specs.Reports.{AreReports, Placed}

-- the text, which begins at the offset given first, is what lies before the first report's span, that span, which has a
-- byte or more, what lies before the second, and so on; any text may follow the last
pub data MakeUp : ℕ → List ℕ → List Placed → Type 0 where
  no_more : {offset : ℕ} {text : List ℕ} → MakeUp offset text []
  next : {offset : ℕ} (between game : List ℕ) {rest : List ℕ} {placed : Placed} {reports : List Placed}
      → placed.begin ≡ offset + length between → placed.end ≡ placed.begin + length game → 0 < length game
      → MakeUp placed.end rest reports → MakeUp offset (between ++ (game ++ rest)) (placed ∷ reports)

-- a text is made up of the spans of its reports (up to the first fault), in order, and of what lies before, between and
-- after them (`MakeUp`). It begins at the offset `start` of the input
abbrev pub SpansMakeUpTheText : Type 0
SpansMakeUpTheText = (strict : Strictness) (start : ℕ) (text : List ℕ) (reports : List Placed)
    → AreReports false strict start text 0 reports → MakeUp start text reports

-- a collection is made up of the spans of its reports, in order, and of what lies before, between and after them;
-- without the input's end (`ended` is false) its last piece isn't reported
abbrev pub SpansMakeUpTheCollection : Type 0
SpansMakeUpTheCollection = (strict : Strictness) (ended : Bool) (text : List ℕ) (reports : List Placed)
    → AreCollectionReports strict 0 (known_pieces ended text) reports → MakeUp 0 text reports
