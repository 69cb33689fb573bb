-- What is fixed when a match begins, and what is asked of its start, moves and pieces.
use Rattle.std.specs.Prelude.{ℕ, ◌-◌, Bool, ◌||◌, ◌&&◌, not, if◌then◌else◌, List, [], length, take, Option, None, Some}
use Rattle.std.specs.List.{last_or, list_all}
use Rattle.std.specs.Option.{option_map_or}
use Rattle.chess_base.specs.declared.man.Colour.{Colour}
use Rattle.chess_base.specs.declared.man.Kind.TheVariants.{King}
use Rattle.chess_base.specs.declared.man.Move.{Move}
use Rattle.chess_base.specs.declared.setup.Setup.{Setup}
use Rattle.chess_base.specs.Men.{Men, is_of, is_man}
use Rattle.chess_fen.specs.Writing.{fen, is_initial}
use Rattle.chess_game.specs.Line.{position_after}
use Rattle.chess_text.specs.San.{is_fischerandom, san, shown_move}
use Rattle.cecp_engine.specs.Levels.{LevelSeen}
use Rattle.chess_match.specs.declared.draws.Draws.{Draws}
use Rattle.chess_match.specs.declared.patience.Patience.{Patience}

-- what is fixed when a match begins
pub record Rules : Type 0 where
  -- the game's starting position and variant: normal chess or Chess960
  pub start : Setup
  -- the time control of each side
  pub level : Colour → LevelSeen
  -- how long engines are waited for
  pub patience : Patience
  -- whether draws by threefold repetition and 50 moves must be claimed
  pub draws : Draws
  -- the most half-moves that can be played
  pub limit : ℕ

-- the rules with these fields
abbrev pub rules_of : Setup → (Colour → LevelSeen) → Patience → Draws → ℕ → Rules
rules_of start level patience draws limit =
    record { start = start; level = level; patience = patience; draws = draws; limit = limit }

-- the FEN sent by `setboard`; `None` for normal chess from the initial position, which `new` sets up
unfoldable pub start_fen : Setup → Option (List ℕ)
start_fen start = if is_initial start && not (is_fischerandom start.variant) then None else Some (fen start)

-- the text of the last of the moves `played` from `start`: in SAN if `as_san` (`Nf3`), otherwise by its two squares
-- (`g1f3`), but castling in Chess960 as `O-O` or `O-O-O`; empty without moves
abbrev pub text_of_last : Bool → Setup → List Move → List ℕ
text_of_last as_san start played = let before = position_after start (take (length played - 1) played) in
    option_map_or (λ move. if as_san then san before move else shown_move before move) (last_or None played) []

-- whether the side `c` has only its king
unfoldable pub has_bare_king : Colour → Men → Bool
has_bare_king c men = list_all (λ man. not (is_of c man) || is_man c King man) men
