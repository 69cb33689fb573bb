-- The comment of each draw claim, such as `50-move rule`, is short and has no braces, so `cut_comment`, which shortens
-- the comments of results, changes nothing in it.
use Rattle.std.proofs.Common.{◌≡◌, refl}
use Rattle.chess_game.specs.{Ends.claim_comment, Results.cut_comment, declared.verdicts.DrawClaim.DrawClaim, declared.verdicts.DrawClaim.TheVariants.Threefold, declared.verdicts.DrawClaim.TheVariants.FiftyMoves}

pub kept_whole : (claim : DrawClaim) → cut_comment (claim_comment claim) ≡ claim_comment claim
kept_whole Threefold = refl
kept_whole FiftyMoves = refl
