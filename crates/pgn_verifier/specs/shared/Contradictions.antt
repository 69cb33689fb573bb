-- The faults at a game's end, as parts of `judged` and `IsJudged` with names of their own.
use Rattle.std.specs.Prelude.{ℕ, Bool, if◌then◌else◌, List, take, Option, None}
use Rattle.std.specs.Option.{option_map, option_or}
use Rattle.byte_devices.specs.Bytes.{after_byte_order_mark}
use Rattle.pgn_verifier.specs.GameFaults.{result_differs, board_says_otherwise}
use Rattle.chess_base.specs.declared.setup.Setup.{Setup}
use Rattle.chess_game.specs.declared.verdicts.Verdict.{Verdict}
use Rattle.chess_pgn.specs.declared.read.PgnEnd.{PgnEnd}
use Rattle.chess_pgn.specs.declared.read.PgnFault.{PgnFault}
use Rattle.chess_pgn.specs.declared.tagged_result.ResultTag.{ResultTag}
use Rattle.pgn_tokens.specs.Tokens.{Token}
use Rattle.chess_pgn.specs.Variations.{variations_fault}
use Rattle.pgn_verifier.specs.declared.game_fault.FaultKind.TheVariants.{InVariation, UnknownVariant}
use Rattle.pgn_verifier.specs.declared.game_fault.GameFault.{GameFault}
use Rattle.verify_options.specs.declared.options.Strictness.{Strictness}

-- this fault, if faults of its kind are looked for, otherwise none
abbrev pub looked_for : Bool → Option GameFault → Option GameFault
looked_for is_looked_for fault = if is_looked_for then fault else None

-- the first fault in the variations of the game of `text` from the offset `at` on, which starts in the position `start`
-- and ends before `end.offset`. `split other from`: the tokens of a text `other` from its offset `from` on
abbrev pub variation_in : (List ℕ → ℕ → List (ℕ × Token)) → List ℕ → ℕ → Setup → PgnEnd → Option PgnFault
variation_in split text at start end =
    variations_fault split (take end.offset text) start (after_byte_order_mark text at)

-- a game's fault, from this fault in its variations
abbrev pub variation_fault : Option PgnFault → Option GameFault
variation_fault found = option_map (λ fault. record { kind = InVariation fault.kind; offset = fault.offset }) found

-- the fault of a game whose last tag Variant has an unknown name at the offset `unknown`; `None` without such a tag
abbrev pub variant_fault : Option ℕ → Option GameFault
variant_fault unknown = option_map (λ offset. record { kind = UnknownVariant; offset = offset }) unknown

-- the fault of a game whose termination marker (`end`) contradicts its last tag Result (`tag`) or the board's verdict;
-- `None` without a contradiction, or if it isn't looked for
abbrev pub contradiction : Strictness → Option ResultTag → Option Verdict → PgnEnd → Option GameFault
contradiction strict tag verdict end = option_or (looked_for strict.result (result_differs tag end))
    (looked_for strict.board (board_says_otherwise verdict end))

-- the first fault at a game's end (`end`) that is looked for: in its variations, an unknown variant, a contradiction
abbrev pub end_fault : Strictness → (PgnEnd → Option PgnFault) → Option ℕ → Option ResultTag → Option Verdict → PgnEnd
    → Option GameFault
end_fault strict variation unknown tag verdict end =
    option_or (looked_for strict.variations (variation_fault (variation end)))
    (option_or (looked_for strict.variant (variant_fault unknown)) (contradiction strict tag verdict end))
