-- The texts of moves by the rules of normal chess alone (Normal of chess_base_laws): each definition says for normal
-- chess what the one of the same name without `normal_` says for both variants.
use Rattle.std.specs.Prelude.{◌≡◌, ℕ, ◌==◌, Bool, false, not, ◌&&◌, List, [], ◌++◌, length, map, filter, codes, Option, is_some, if◌then◌else◌}
use Rattle.std.specs.Option.{option_map, option_map_or}
use Rattle.chess_base.specs.declared.man.Move.{Move}
use Rattle.chess_base.specs.declared.setup.Setup.{Setup}
use Rattle.chess_base.specs.Attacks.{is_in_check}
use Rattle.chess_base.specs.Coordinates.{coordinate}
use Rattle.chess_base.specs.Men.{man_at, same_kind}
use Rattle.chess_base.specs.MoveList.{all_moves, moves}
use Rattle.chess_base.specs.Moves.{captured_square}
use Rattle.chess_base_laws.specs.Normal.{normal_is_legal, normal_castling, normal_after}
use Rattle.chess_text.specs.declared.described.Described.{Described}
use Rattle.chess_text.specs.declared.reading.Reading.{Reading}
use Rattle.chess_text.specs.declared.reading.Reading.TheVariants.{NotAMove}
use Rattle.chess_text.specs.Moves.{shape, denotes_described, one_of, reading}
use Rattle.chess_base.specs.Options.{list_if}
use Rattle.chess_text.specs.San.{castling_text, piece_text, san, shown_move}

-- all legal moves of position p, rising by start square, end square and promotion
unfoldable pub normal_moves : Setup → List Move
normal_moves p = filter (λ m. normal_is_legal p m) all_moves

-- ---- read

-- what a text can say of move m of position p: its piece, squares and promotion, whether it captures, and to which side
-- it castles; none if no piece is on its start square
unfoldable pub normal_described : Setup → Move → Option Described
normal_described p m =
    option_map (λ x. record {
      man = x.kind;
      from = m.from;
      to = m.to;
      promotion = m.promotion;
      captures = is_some (captured_square p m);
      castles = normal_castling p m;
    }) (man_at p.men m.from)

-- the text denotes move m in position p: Nf3, Ng1f3 and g1f3 all denote g1f3 in the initial position
unfoldable pub normal_denotes : Setup → List ℕ → Move → Bool
normal_denotes p text m = option_map_or (denotes_described text) (normal_described p m) false

-- what a text is read as in position p: `NotAMove` if it has no move's shape, otherwise by the legal moves that it
-- denotes (`one_of`)
unfoldable pub normal_reading : Setup → List ℕ → Reading
normal_reading p text = if shape text then one_of (filter (λ m. normal_denotes p text m) (normal_moves p)) else NotAMove

-- ---- written

-- the start squares of the moves from which SAN must distinguish the described move d: legal moves to its end square,
-- of a piece of its kind, from another square
unfoldable pub normal_rival_starts : Setup → Described → List ℕ
normal_rival_starts p d = map (λ m. m.from) (filter (λ m. (m.to == d.to) && not (m.from == d.from)
    && option_map_or (λ e. same_kind e.man d.man) (normal_described p m) false) (normal_moves p))

-- the mark of a move that leads to position p: `#` for mate, `+` for check, otherwise nothing
unfoldable pub normal_check_mark : Setup → List ℕ
normal_check_mark p =
    list_if (is_in_check p.men p.side) (if length (normal_moves p) == 0 then codes "#" else codes "+")

-- the SAN of legal move m in position p, with `+` or `#` at its end for check or mate
unfoldable pub normal_san : Setup → Move → List ℕ
normal_san p m =
    option_map_or (λ d. option_map_or castling_text d.castles (piece_text (normal_rival_starts p d) d)
    ++ normal_check_mark (normal_after p m)) (normal_described p m) []

-- in position p the definitions for both variants agree with those of this file, in the list of legal moves, what each
-- text is read as and each move's SAN; and lists of moves show each move by its coordinates
pub record NormalIsKept (p : Setup) : Type 0 where
  pub moves : moves p ≡ normal_moves p
  pub reading : (text : List ℕ) → reading p text ≡ normal_reading p text
  pub san : (m : Move) → san p m ≡ normal_san p m
  pub shown : (m : Move) → shown_move p m ≡ coordinate m
