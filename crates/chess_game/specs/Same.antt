-- When two positions are the same, and how often a position occurred (Laws of Chess 2023, article 9.2.3).
use Rattle.std.specs.Prelude.{ℕ, ◌==◌, Bool, ◌&&◌, if◌then◌else◌, List, count_by, Option, None}
use Rattle.std.specs.List.{list_any}
use Rattle.std.specs.Option.{option_eq}
use Rattle.chess_base.specs.declared.man.Man.{Man}
use Rattle.chess_base.specs.declared.man.Move.{Move}
use Rattle.chess_base.specs.declared.man.Rights.{Rights}
use Rattle.chess_base.specs.declared.man.ColourRights.{ColourRights}
use Rattle.chess_base.specs.declared.setup.Setup.{Setup}
use Rattle.chess_base.specs.Men.{Men, man_at, same_colour, same_kind}
use Rattle.chess_base.specs.Squares.{each_square}
use Rattle.chess_base.specs.Moves.{is_en_passant}
use Rattle.chess_base.specs.MoveList.{moves}
use Rattle.chess_game.specs.Line.{positions_of, position_after}

-- two squares' contents are equal: pieces of the same kind and colour, or both none
abbrev pub same_man : Option Man → Option Man → Bool
same_man o r = option_eq (λ x y. same_colour x.colour y.colour && same_kind x.kind y.kind) o r

-- two boards have the same content on each square
unfoldable pub same_men : Men → Men → Bool
same_men men others = each_square (λ s. same_man (man_at men s) (man_at others s))

-- two optional squares are equal: the same square, or both none
abbrev pub same_square : Option ℕ → Option ℕ → Bool
same_square o r = option_eq (λ s t. s == t) o r

-- the castling rights r and q of one colour are equal, on both sides
abbrev pub same_colour_rights : ColourRights → ColourRights → Bool
same_colour_rights r q = same_square r.king_side q.king_side && same_square r.queen_side q.queen_side

-- the castling rights r and q are equal, both White's and Black's
unfoldable pub same_rights : Rights → Rights → Bool
same_rights r q = same_colour_rights r.white q.white && same_colour_rights r.black q.black

-- the en passant target of p if some legal move captures en passant, which makes positions differ (9.2.3.1); otherwise
-- `None`
unfoldable pub legal_en_passant_square : Setup → Option ℕ
legal_en_passant_square p = if list_any (λ m. is_en_passant p m) (moves p) then p.target else None

-- two positions are the same: in side on move, pieces, castling rights and the target of a legal capture en passant;
-- variant, halfmove clock and fullmove number may differ
unfoldable pub is_same_position : Setup → Setup → Bool
is_same_position p q = same_colour p.side q.side && same_men p.men q.men && same_rights p.rights q.rights
    && same_square (legal_en_passant_square p) (legal_en_passant_square q)

-- how often the position after the moves ms has occurred in the game from `start`: 1 if it is new
unfoldable pub repetition_count : Setup → List Move → ℕ
repetition_count start ms = count_by (λ p. is_same_position p (position_after start ms)) (positions_of start ms)
