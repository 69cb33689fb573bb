-- The split of the text stops at what can't be read, and no token before ends the game, since reading continued after
-- each (UnreadGames.unread_have_no_end).
use Rattle.chess_pgn.proofs.UnreadGames.{unread_have_no_end}
use Rattle.chess_pgn.proofs.laws.unreadable_games_have_no_end.Goals as goal

pub returns : goal.returns
returns c = unread_have_no_end
