-- Each reason for which a match may end has a result line of its own: from the line the reason can be found again
-- (reason_read), and the line has no line feed (result_plain).
use Rattle.std.proofs.Common.{arith, ◌≡◌, ℕ, true, List, [], ◌∷◌, ◌++◌, bytes_eq, ◌==◌, if◌then◌else◌, not, flat_map}
use Rattle.std.specs.List.{list_all}
use Rattle.byte_devices.specs.Bytes.{new_line}
use Rattle.chess_base.specs.{declared.man.Colour.Colour, declared.man.Colour.TheVariants.White, declared.man.Colour.TheVariants.Black}
use Rattle.chess_game.specs.{Ends.result_text, declared.verdicts.DrawClaim.TheVariants.Threefold, declared.verdicts.DrawClaim.TheVariants.FiftyMoves}
use Rattle.chess_game.specs.declared.verdicts.Verdict.TheVariants.{WhiteMates, BlackMates, Stalemate, InsufficientMaterial, FivefoldRepetition, SeventyFiveMoves}
use Rattle.chess_match.specs.declared.reason.MatchFault.TheVariants.{Ended, Read, Write, NoDone, NoPing, NoSetboard, Flood, NoVariant, NoHandshake, NoAnswer}
use Rattle.chess_match.specs.declared.reason.Reason.{Reason}
use Rattle.chess_match.specs.declared.reason.Reason.TheVariants.{Decided, Claimed, Agreed, Resigns, MovesIllegally, MovesOutOfTurn, ClaimsFalsely, RejectsLegalMove, Forfeits, ForfeitsToBareKing, GameTooLong, Faulted}
use Rattle.match_runner_laws.specs.ReadBack.{text_of_result}

-- the reasons that name this side
abbrev reasons_of : Colour → List Reason
reasons_of c =
    Resigns c ∷ MovesIllegally c ∷ MovesOutOfTurn c ∷ ClaimsFalsely c ∷ RejectsLegalMove c ∷ Forfeits c
    ∷ Faulted c Ended ∷ Faulted c Read ∷ Faulted c Write ∷ Faulted c NoDone ∷ Faulted c NoPing ∷ Faulted c NoSetboard
    ∷ Faulted c Flood ∷ Faulted c NoVariant ∷ Faulted c NoHandshake ∷ Faulted c NoAnswer ∷ []

-- the reasons that name no side
abbrev others : List Reason
others =
    Decided WhiteMates ∷ Decided BlackMates ∷ Decided Stalemate ∷ Decided InsufficientMaterial
    ∷ Decided FivefoldRepetition ∷ Decided SeventyFiveMoves ∷ Claimed Threefold ∷ Claimed FiftyMoves ∷ Agreed
    ∷ ForfeitsToBareKing ∷ GameTooLong ∷ []

-- the first of these reasons that has this result line
abbrev find : List ℕ → List Reason → Reason
find text [] = Agreed
find text (x ∷ xs) = if bytes_eq (text_of_result x) text then x else find text xs

-- the reason that has this result line, among all of them
abbrev pub reason_of : List ℕ → Reason
reason_of text = find text (flat_map reasons_of (White ∷ Black ∷ []) ++ others)

pub reason_read : (x : Reason) → reason_of (text_of_result x) ≡ x
unfolding result_text
reason_read x = grind arith

pub result_plain : (x : Reason) → list_all (λ b. not (b == new_line)) (text_of_result x) ≡ true
unfolding result_text
result_plain x = grind arith
