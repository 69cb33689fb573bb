-- The tokens of moves, one move after another, where only the text's first move has `12...`.
use Rattle.std.specs.Prelude.{ℕ, Bool, true, false, List, [], ◌∷◌, ◌++◌, codes, decimal}
use Rattle.chess_base.specs.declared.man.Colour.{Colour}
use Rattle.chess_base.specs.declared.man.Colour.TheVariants.{White, Black}
use Rattle.chess_base.specs.declared.man.Move.{Move}
use Rattle.chess_base.specs.declared.setup.Setup.{Setup}
use Rattle.chess_base.specs.Moves.{after}
use Rattle.chess_text.specs.San.{san}

-- the number before a move by this side: `12.` for White, `12...` only for Black's move that is the text's first
abbrev pub number_if_due : Colour → Bool → ℕ → List (List ℕ)
number_if_due White is_first number = (decimal number ++ codes ".") ∷ []
number_if_due Black true number = (decimal number ++ codes "...") ∷ []
number_if_due Black false number = []

-- the tokens of move m in position p: its number, if one is due, and its SAN. `is_first`: m is the text's first move
abbrev pub numbered_move : Bool → Setup → Move → List (List ℕ)
numbered_move is_first p m = number_if_due p.side is_first p.fullmove ++ san p m ∷ []

-- the tokens of moves made from the position `p` on. `is_first`: the text's moves begin with them
abbrev pub numbered_moves : Bool → Setup → List Move → List (List ℕ)
numbered_moves is_first p [] = []
numbered_moves is_first p (m ∷ ms) = numbered_move is_first p m ++ numbered_moves false (after p m) ms
