-- The parts of the text that is written for a move, as code puts them together.
use Rattle.std.specs.Prelude.{ℕ, ◌==◌, Bool, true, false, not, ◌&&◌, if◌then◌else◌, List, [], ◌∷◌, Option, Some, None}
use Rattle.std.specs.List.{list_any}
use Rattle.std.specs.Option.{option_map, option_map_or}
use Rattle.chess_base.specs.declared.man.Kind.TheVariants.{Pawn}
use Rattle.chess_base.specs.declared.man.Move.{Move}
use Rattle.chess_base.specs.declared.setup.Setup.{Setup}
use Rattle.chess_base.specs.Men.{same_kind}
use Rattle.chess_base.specs.Squares.{file, rank}
use Rattle.chess_text.specs.declared.described.Described.{Described}
use Rattle.chess_text.specs.declared.parts.End.{End}
use Rattle.chess_text.specs.declared.parts.Parts.{Parts}
use Rattle.chess_text.specs.Moves.{described}
use Rattle.chess_text.specs.San.{castling_text, piece_text}
use Rattle.chess_text.specs.shared.Fitting.{passes}
use Rattle.chess_text.specs.declared.writing.Disambiguation.{Disambiguation}

-- move m of position p is a rival of the described move d: it goes to d's end square with a piece of d's kind, but from
-- another square
unfoldable pub is_rival : Setup → Described → Move → Bool
is_rival p d m = (m.to == d.to) && not (m.from == d.from) && passes (λ e. same_kind e.man d.man) (described p m)

-- the SAN of the described move without `+` or `#`; `rivals` are the start squares of other pieces of its kind that
-- could legally move to its end square
abbrev pub unmarked_san : List ℕ → Described → List ℕ
unmarked_san rivals d = option_map_or castling_text d.castles (piece_text rivals d)

-- one of these squares is on the file f, 0 for a
abbrev pub some_on_file : ℕ → List ℕ → Bool
some_on_file f squares = list_any (λ s. file s == f) squares

-- one of these squares is on the rank r, 0 for rank 1
abbrev pub some_on_rank : ℕ → List ℕ → Bool
some_on_rank r squares = list_any (λ s. rank s == r) squares

-- what SAN writes of the start square: its file if f, its rank if r
abbrev pub distinction : Bool → Bool → Disambiguation
distinction f r = record { file = f; rank = r }

-- what SAN writes of the start square `from` beside rivals on other squares: nothing if there are none; its file if no
-- rival is on it; otherwise its rank if no rival is on it; otherwise both
abbrev pub disambiguate : ℕ → List ℕ → Disambiguation
disambiguate from [] = distinction false false
disambiguate from (other ∷ others) =
    if not (some_on_file (file from) (other ∷ others)) then distinction true false
    else (if not (some_on_rank (rank from) (other ∷ others)) then distinction false true else distinction true true)

-- the number n if b says that it is written, otherwise none
abbrev pub if_written : Bool → ℕ → Option ℕ
if_written b n = if b then Some n else None

-- the end of the described move's SAN: the end square, and its promotion with `=` and a capital letter
abbrev pub end_of : Described → End
end_of d = record {
  to = d.to;
  promotion = option_map (λ k. record { kind = k; equals = true; small = false })
      d.promotion;
}

-- the parts of the SAN of a pawn's move: the start file and `x` only for a capture, the end square, the promotion
abbrev pub pawn_parts : Described → Parts
pawn_parts d = record {
  letter = None;
  file = if_written d.captures (file d.from);
  rank = None;
  takes = d.captures;
  end = end_of d;
}

-- the parts of the SAN of a move of another piece than a pawn, not castling; `others` are the start squares of other
-- pieces of its kind that could legally move to its end square
abbrev pub lettered_parts : List ℕ → Described → Parts
lettered_parts others d =
    let start = disambiguate d.from others in
    record {
      letter = Some d.man;
      file = if_written start.file (file d.from);
      rank = if_written start.rank (rank d.from);
      takes = d.captures;
      end = end_of d;
    }

-- the parts of the SAN of a move that is not castling; `others` are the start squares of other pieces of its kind that
-- could legally move to its end square
unfoldable pub piece_parts : List ℕ → Described → Parts
piece_parts others d = if same_kind d.man Pawn then pawn_parts d else lettered_parts others d
