-- Faults after which no end of the game is looked for.
use Rattle.std.specs.Prelude.{◌≡◌, ℕ, Bool, false, List, Err}
use Rattle.chess_pgn.specs.laws.Unreadable.{is_unreadable}
use Rattle.pgn_verifier.specs.declared.game_fault.FaultKind.{FaultKind}
use Rattle.pgn_verifier.specs.declared.game_fault.FaultKind.TheVariants.{Pgn}
use Rattle.pgn_verifier.specs.declared.game_fault.GameFault.{GameFault}
use Rattle.verify_options.specs.declared.options.Strictness.{Strictness}
use Rattle.pgn_verifier.specs.laws.Reported.{judged_at}

-- whether a game's fault of this kind, at the offset `at`, is one of bytes that can't be read as a token: then the text
-- can't be split into tokens beyond it
abbrev pub stops_tokens : List ℕ → ℕ → FaultKind → Bool
stops_tokens text at (Pgn kind) = is_unreadable text at kind
stops_tokens text at _ = false

-- this fault is reported of the game from the offset `at` of the text on
abbrev pub IsFaultAt : List ℕ → ℕ → GameFault → Type 0
IsFaultAt text at fault = (strict : Strictness) × (judged_at strict text at ≡ Err fault)
