-- Positions in the mirror: colours exchanged, ranks counted from the other side. The rules there are the same.
use Rattle.std.specs.Prelude.{◌≡◌, ◌↔◌, ℕ, ◌+◌, ◌-◌, ◌*◌, ◌<◌, IsTrue, List, map}
use Rattle.std.specs.Option.{option_map}
use Rattle.chess_base.specs.declared.man.Colour.{Colour}
use Rattle.chess_base.specs.declared.man.Man.{Man}
use Rattle.chess_base.specs.declared.man.Move.{Move}
use Rattle.chess_base.specs.declared.man.Rights.{Rights}
use Rattle.chess_base.specs.declared.setup.Setup.{Setup}
use Rattle.chess_base.specs.Attacks.{attacks, is_attacked, is_clear, is_in_check}
use Rattle.chess_base.specs.Castling.{right_of, rights_by}
use Rattle.chess_base.specs.Men.{Men, man_at, other}
use Rattle.chess_base.specs.Moves.{is_legal, after}
use Rattle.chess_base.specs.Sound.{IsSound}
use Rattle.chess_base.specs.Squares.{file, rank, squares}
use Rattle.chess_game.specs.Ends.{claims, has_insufficient_material, verdict}
use Rattle.chess_game.specs.Line.{IsLine}
use Rattle.chess_game.specs.declared.verdicts.Verdict.{Verdict}
use Rattle.chess_game.specs.declared.verdicts.Verdict.TheVariants.{WhiteMates, BlackMates, Stalemate, InsufficientMaterial, FivefoldRepetition, SeventyFiveMoves}
use Rattle.rules_laws.specs.Endings.{IsMate, IsStalemate}

-- the square of the same file on the rank counted from the other side: e2 and e7
abbrev pub mirrored : ℕ → ℕ
mirrored s = 8 * (7 - rank s) + file s

-- the piece of the same kind in the other colour
abbrev pub mirrored_man : Man → Man
mirrored_man x = record { colour = other x.colour; kind = x.kind }

-- a board in the mirror: on each square the piece of the mirrored square, in the other colour
unfoldable pub mirrored_men : Men → Men
mirrored_men men = map (λ s. option_map mirrored_man (man_at men (mirrored s))) squares

-- rights in the mirror: each is the other colour's, with the rook on the mirrored square
abbrev pub mirrored_rights : Rights → Rights
mirrored_rights r = rights_by (λ c w. option_map mirrored (right_of r (other c) w))

-- the position in the mirror; its counters and its variant stay
abbrev pub mirrored_setup : Setup → Setup
mirrored_setup p = record {
  variant = p.variant;
  men = mirrored_men p.men;
  side = other p.side;
  rights = mirrored_rights p.rights;
  target = option_map mirrored p.target;
  halfmove = p.halfmove;
  fullmove = p.fullmove;
}

-- the move between the mirrored squares
abbrev pub mirrored_move : Move → Move
mirrored_move m = record { from = mirrored m.from; to = mirrored m.to; promotion = m.promotion }

-- the board `men` and its mirror agree, with squares mirrored and colours exchanged: between which squares the way is
-- clear, what a piece attacks, which squares a colour attacks, and who is in check
pub record AttacksAreMirrored (men : Men) : Type 0 where
  pub clear : (a b : ℕ) → a < 64 → b < 64
      → is_clear (mirrored_men men) (mirrored a) (mirrored b) ≡ is_clear men a b
  pub attacks : (a b : ℕ) → a < 64 → b < 64
      → attacks (mirrored_men men) (mirrored a) (mirrored b) ≡ attacks men a b
  pub attacked : (b : ℕ) (c : Colour) → b < 64
      → is_attacked (mirrored_men men) (mirrored b) (other c) ≡ is_attacked men b c
  pub check : (c : Colour) → is_in_check (mirrored_men men) (other c) ≡ is_in_check men c

-- `AttacksAreMirrored` holds of each board
abbrev pub MirrorAttacksAlike : Type 0
MirrorAttacksAlike = (men : Men) → AttacksAreMirrored men

-- a move is legal in a sound position exactly if its mirror is legal in the mirrored position
abbrev pub MirrorIsAsLegal : Type 0
MirrorIsAsLegal = (p : Setup) (m : Move) → IsSound p → m.from < 64 → m.to < 64
    → is_legal (mirrored_setup p) (mirrored_move m) ≡ is_legal p m

-- the mirror of a legal move of a sound position leads to the mirror of the position after it, but for the fullmove
-- number, which only Black's moves raise
abbrev pub MirrorMovesAlike : Type 0
MirrorMovesAlike = (p : Setup) (m : Move) → IsSound p → IsTrue (is_legal p m)
    → record (after (mirrored_setup p) (mirrored_move m)) { fullmove = 1 }
    ≡ record (mirrored_setup (after p m)) { fullmove = 1 }

-- mate, stalemate and insufficient material hold in position p exactly if they do in its mirror
pub record EndsAreMirrored (p : Setup) : Type 0 where
  pub mate : IsMate (mirrored_setup p) ↔ IsMate p
  pub stalemate : IsStalemate (mirrored_setup p) ↔ IsStalemate p
  pub material : has_insufficient_material (mirrored_men p.men) ≡ has_insufficient_material p.men

-- `EndsAreMirrored` holds of each sound position
abbrev pub MirrorEndsAlike : Type 0
MirrorEndsAlike = (p : Setup) → IsSound p → EndsAreMirrored p

-- the verdict of the mirrored game: the other colour mates; a draw is the same
abbrev pub mirrored_verdict : Verdict → Verdict
mirrored_verdict WhiteMates = BlackMates
mirrored_verdict BlackMates = WhiteMates
mirrored_verdict Stalemate = Stalemate
mirrored_verdict InsufficientMaterial = InsufficientMaterial
mirrored_verdict FivefoldRepetition = FivefoldRepetition
mirrored_verdict SeventyFiveMoves = SeventyFiveMoves

-- the game from `start` by the moves ms and its mirror have mirrored verdicts and the same claims
pub record GamesAreMirrored (start : Setup) (ms : List Move) : Type 0 where
  pub verdict : verdict (mirrored_setup start) (map mirrored_move ms) ≡ option_map mirrored_verdict (verdict start ms)
  pub claims : claims (mirrored_setup start) (map mirrored_move ms) ≡ claims start ms

-- `GamesAreMirrored` holds of each game of legal moves from a sound start
abbrev pub MirrorGamesAlike : Type 0
MirrorGamesAlike = (start : Setup) (ms : List Move) → IsSound start → IsLine start ms → GamesAreMirrored start ms
