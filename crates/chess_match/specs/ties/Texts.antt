-- The texts that are kept of the last move.
use Rattle.std.specs.Prelude.{◌≡◌, ℕ, ◌<◌, Bool, if◌then◌else◌, List, [], length, Option, None, Some}
use Rattle.chess_base.specs.declared.man.Colour.{Colour}
use Rattle.chess_base.specs.declared.man.Move.{Move}
use Rattle.chess_match.specs.Rules.{Rules, text_of_last}
use Rattle.chess_match.specs.declared.texts.LastMove.{LastMove}
use Rattle.chess_match.specs.declared.texts.MoveTexts.{MoveTexts}

-- of the two texts of a move that are kept, the one in SAN if `as_san`, otherwise the one by squares (`e2e4`)
abbrev pub text_in : MoveTexts → Bool → List ℕ
text_in t as_san = if as_san then t.san.items else t.squares.items

-- the texts `t`, in SAN and by squares, are those of the last of the moves `played`
abbrev pub AreTexts : Rules → MoveTexts → List Move → Type 0
AreTexts r t played = (as_san : Bool) → text_in t as_san ≡ text_of_last as_san r.start played

-- the texts of the last of the moves `played` are kept, if there is a move; `None` if there is none
abbrev pub AreOfLast : Rules → Option LastMove → List Move → Type 0
AreOfLast r None played = played ≡ []
AreOfLast r (Some last) played = (0 < length played) × AreTexts r last.texts played

-- which side is still to be sent the last move, by what is kept of it; `None` if neither is, or there is no move
abbrev pub unsent_in : Option LastMove → Option Colour
unsent_in None = None
unsent_in (Some last) = last.unsent_to

-- what is kept of the last move once nobody is still to be sent it
abbrev pub all_sent : Option LastMove → Option LastMove
all_sent None = None
all_sent (Some last) = Some (record last { unsent_to = None })
