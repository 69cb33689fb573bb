-- A move's text as it is written (PGN standard of 1994, section 8.2.3).
use Rattle.std.specs.Prelude.{ℕ, Bool, true, false, not, ◌&&◌, ◌==◌, if◌then◌else◌, List, [], ◌∷◌, ◌++◌, length, map, codes}
use Rattle.std.specs.List.{list_any, filter}
use Rattle.std.specs.Option.{option_map_or}
use Rattle.chess_base.specs.declared.man.CastlingSide.{CastlingSide}
use Rattle.chess_base.specs.declared.man.Kind.TheVariants.{Pawn}
use Rattle.chess_base.specs.declared.man.Move.{Move}
use Rattle.chess_base.specs.declared.man.Variant.{Variant}
use Rattle.chess_base.specs.declared.man.Variant.TheVariants.{Normal, Fischerandom}
use Rattle.chess_base.specs.declared.setup.Setup.{Setup}
use Rattle.chess_base.specs.Attacks.{is_in_check}
use Rattle.chess_base.specs.Coordinates.{coordinate}
use Rattle.chess_base.specs.Letters.{square_text}
use Rattle.byte_devices.specs.Bytes.{byte}
use Rattle.chess_base.specs.Men.{same_kind}
use Rattle.chess_base.specs.Moves.{after}
use Rattle.chess_base.specs.Castling.{castling, by_side}
use Rattle.chess_base.specs.MoveList.{moves}
use Rattle.chess_base.specs.Squares.{file, rank}
use Rattle.chess_text.specs.declared.described.Described.{Described}
use Rattle.chess_base.specs.Options.{list_if}
use Rattle.chess_text.specs.Parts.{kind_text, file_text, rank_text}
use Rattle.chess_text.specs.Moves.{described}

-- castling to this side in SAN: O-O to the king's, O-O-O to the queen's
abbrev pub castling_text : CastlingSide → List ℕ
castling_text = by_side (codes "O-O") (codes "O-O-O")

-- the start squares of the rivals of move d (8.2.3.4): those moves of `ms` (in `san` all legal moves of position p)
-- that lead a piece of d's kind to d's end square from another square. For a knight's b1d2 this is f3, if a knight on
-- f3 can go to d2 too
unfoldable pub rival_starts : Setup → List Move → Described → List ℕ
rival_starts p ms d = map (λ m. m.from) (filter (λ m. (m.to == d.to) && not (m.from == d.from)
    && option_map_or (λ e. same_kind e.man d.man) (described p m) false) ms)

-- what SAN writes of the start square `from`, given the rivals' start squares (8.2.3.4): nothing if there are none; the
-- file if no rival is on it; otherwise the rank if no rival is on that; otherwise both: Nd2, Nbd2, N1d2, Nb1d2
abbrev pub start_text : ℕ → List ℕ → List ℕ
start_text from [] = []
start_text from (rival ∷ rivals) =
    if not (list_any (λ s. file s == file from) (rival ∷ rivals)) then file_text (file from)
    else if not (list_any (λ s. rank s == rank from) (rival ∷ rivals)) then rank_text (rank from)
    else square_text from

-- the SAN, without `+` or `#`, of move d, not castling: for a pawn's capture its start file, for another piece its
-- letter and `start_text` (`rivals`: start squares of its rivals); then `x` for a capture, the end square, and for a
-- promotion `=` and the new piece's letter: exd5, Nbd2, e8=Q
abbrev pub piece_text : List ℕ → Described → List ℕ
piece_text rivals d =
    (if same_kind d.man Pawn then list_if d.captures (file_text (file d.from))
    else kind_text d.man ++ start_text d.from rivals)
    ++ (list_if d.captures (codes "x")
    ++ (square_text d.to ++ option_map_or (λ k. byte "=" ∷ kind_text k) d.promotion []))

-- the mark of a move that leads to position p: `#` for mate (Laws, 5.1.1), `+` for check (3.9.1), otherwise nothing
unfoldable pub check_mark : Setup → List ℕ
check_mark p = list_if (is_in_check p.men p.side) (if length (moves p) == 0 then codes "#" else codes "+")

-- the SAN of legal move m in position p, with `+` or `#` for check or mate: Nf3, exd5, O-O, Qh4#
unfoldable pub san : Setup → Move → List ℕ
san p m = option_map_or (λ d. option_map_or castling_text d.castles (piece_text (rival_starts p (moves p) d) d)
    ++ check_mark (after p m)) (described p m) []

-- the variant is Chess960
abbrev pub is_fischerandom : Variant → Bool
is_fischerandom Normal = false
is_fischerandom Fischerandom = true

-- the text of move m of position p by its two squares: e2e4, e7e8q, for castling e1g1; but in Chess960 castling is O-O
-- or O-O-O
unfoldable pub shown_move : Setup → Move → List ℕ
shown_move p m =
    if is_fischerandom p.variant then option_map_or castling_text (castling p m) (coordinate m) else coordinate m
