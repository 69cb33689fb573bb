-- How `verify` names faults, which part of a game an explanation shows, and which reason it gives, worked out.
use Rattle.std.specs.Prelude.{◌≡◌, ℕ, List, [], ◌∷◌, ◌++◌, map, replicate, codes, Some, None}
use Prim.Native.String.{String as Text}
use Rattle.byte_devices.specs.Bytes.{byte, carriage_return}
use Rattle.chess_base.specs.declared.fen_fault.FenFault.{FenFault}
use Rattle.chess_base.specs.declared.fen_fault.FenFault.TheVariants as faults
use Rattle.chess_base.specs.Initial.{initial_setup}
use Rattle.chess_fen.specs.Writing.{fen}
use Rattle.chess_game.specs.Game.{State, current, from_start}
use Rattle.chess_game.specs.declared.results.Outcome.TheVariants.{BlackWins}
use Rattle.chess_game.specs.declared.verdicts.Verdict.TheVariants.{BlackMates}
use Rattle.chess_pgn.specs.declared.read.PgnFaultKind.TheVariants.{BadTag, BadFen, BadToken, IllegalMove, AmbiguousMove, AfterEnd, TooLong, UnclosedComment, UnclosedVariation, NoResult}
use Rattle.pgn_tokens.specs.Tokens.{Tag}
use Rattle.pgn_verifier.specs.Explanations.{IsReason, explanation, explanation_line, shown, wrong_part}
use Rattle.pgn_verifier.specs.GameFaults.{fault_name}
use Rattle.pgn_verifier.specs.Reports.{names_of}
use Rattle.pgn_verifier.specs.WrongParts.{fen_reason, token_reason}
use Rattle.pgn_verifier.specs.declared.game_fault.FaultKind.{FaultKind}
use Rattle.pgn_verifier.specs.declared.game_fault.FaultKind.TheVariants.{Pgn, InVariation, UnknownVariant, ResultDiffers, BoardSaysOtherwise}
use Rattle.pgn_verifier.specs.laws.Reasons.{tag_reason}

-- ---- names

-- a fault of this kind has this name
abbrev pub IsCalled : FaultKind → Text → Type 0
IsCalled kind name = fault_name kind ≡ codes name

-- how faults are named
pub record FaultsAreCalled : Type 0 where
  pub bad_tag : IsCalled (Pgn BadTag) "bad tag"
  pub bad_fen : (fault : FenFault) → IsCalled (Pgn (BadFen fault)) "bad FEN"
  pub bad_token : IsCalled (Pgn BadToken) "bad token"
  pub illegal : IsCalled (Pgn IllegalMove) "illegal move"
  pub ambiguous : IsCalled (Pgn AmbiguousMove) "ambiguous move"
  pub after_end : IsCalled (Pgn AfterEnd) "move after the end"
  pub too_long : IsCalled (Pgn TooLong) "too long"
  pub comment : IsCalled (Pgn UnclosedComment) "unclosed comment"
  pub variation : IsCalled (Pgn UnclosedVariation) "unclosed variation"
  pub no_result : IsCalled (Pgn NoResult) "no result"
  pub in_variation : IsCalled (InVariation AmbiguousMove) "ambiguous move in a variation"
  pub variant : IsCalled UnknownVariant "unknown variant"
  pub differs : IsCalled (ResultDiffers 3 BlackWins) "result differs"
  pub board : IsCalled BoardSaysOtherwise "board says otherwise"

-- ---- the part that is wrong

-- the part that is shown for this fault of a FEN, which begins at the byte 6 of this text
abbrev pub field_shown : Text → FenFault → ℕ × List ℕ
field_shown text fault = wrong_part (Pgn (BadFen fault)) (codes text) 0 6

-- a FEN of six fields, whose halfmove clock is no number
abbrev pub wrong_clock : Text
wrong_clock = "[FEN \"8/8 w KQ e3 x 9\"] *"

-- which part of a text is shown for a fault, and from which byte on; how texts are shown; and the position and the
-- reason after the part
pub record PartsAreShown : Type 0 where
  -- the wrong field of a FEN (PGN standard of 1994, section 16.1.3)
  pub side : field_shown wrong_clock faults.Side ≡ (10, codes "w")
  pub castling : field_shown wrong_clock faults.Castling ≡ (12, codes "KQ")
  pub target : field_shown wrong_clock faults.EnPassant ≡ (15, codes "e3")
  pub clock : field_shown wrong_clock faults.Counters ≡ (18, codes "x")
  pub number : field_shown "[FEN \"8/8 w KQ e3 7 y\"] *" faults.Counters ≡ (20, codes "y")
  -- a clock of seven digits is wrong
  pub long_clock : field_shown "[FEN \"8/8 w KQ e3 1000000 y\"] *" faults.Counters ≡ (18, codes "1000000")
  pub spaces : field_shown "[FEN \"8/8  w KQ\"] *" faults.Side ≡ (11, codes "w")
  pub long_field : wrong_part (Pgn (BadFen faults.Placement)) (replicate 81 (byte "z")) 0 0
      ≡ (0, replicate 80 (byte "z"))
  -- the first field, if the fault is of the placement, of the whole position, or of the number of fields
  pub others : map (field_shown wrong_clock)
      (faults.Placement ∷ faults.Kings ∷ faults.Pawns ∷ faults.Men ∷ faults.Check ∷ faults.Fields ∷ [])
      ≡ replicate 6 (6, codes "8/8")
  -- of an illegal move its word, and of a game without a result its first word
  pub move : wrong_part (Pgn IllegalMove) (codes "1. e9 *") 0 3 ≡ (3, codes "e9")
  pub game : wrong_part (Pgn NoResult) (codes " 1. e4 ") 1 7 ≡ (1, codes "1.")
  -- a text is shown up to white space, with `?` for each byte that is not printable ASCII, as for both bytes of `é`
  pub unprintable : shown (195 ∷ 169 ∷ codes "4 e5") ≡ codes "??4"
  -- at most 40 bytes; `(end)` where the text ends
  pub long : shown (replicate 41 (byte "z")) ≡ replicate 40 (byte "z")
  pub end : shown [] ≡ codes "(end)"
  -- of a player's name, too, at most 40 bytes are shown
  pub long_name : names_of ((60, Tag (codes "White") (replicate 41 (byte "z")) 50) ∷ [])
      ≡ codes " | " ++ (replicate 40 (byte "z") ++ codes " - ?, ? ?")
  -- a carriage return begins no line, but columns count from it
  pub column : explanation_line (codes "a\nbc" ++ (carriage_return ∷ codes "def")) 7 (codes "f")
      ≡ codes "# line 2 column 3 f\n"
  -- the position in which reading stopped; none for a bad tag, a bad FEN, a fault in a variation or an unknown variant
  pub position : explanation (from_start initial_setup) (Pgn IllegalMove) None
      ≡ codes " | rnbqkbnr/pppppppp/8/8/8/8/PPPPPPPP/RNBQKBNR w KQkq - 0 1"
  -- the position is the game's last, not its start; here its FEN is simply `FEN`
  pub last_position : (s : State) → fen (current s) ≡ codes "FEN"
      → explanation s (Pgn IllegalMove) None ≡ codes " | FEN"
  pub reason_after_it : (s : State) → fen (current s) ≡ codes "FEN"
      → explanation s (Pgn IllegalMove) (Some (codes "why")) ≡ codes " | FEN | why"
  pub no_position : (s : State) → map (λ kind. explanation s kind None)
      (Pgn BadTag ∷ Pgn (BadFen faults.Kings) ∷ InVariation IllegalMove ∷ UnknownVariant ∷ []) ≡ replicate 4 []

-- ---- reasons

-- this is the reason for a bad token that begins this text
abbrev pub IsTokenReason : Text → Text → Type 0
IsTokenReason text reason = token_reason (codes text) ≡ codes reason

-- this is the reason for a bad tag that begins this text
abbrev pub IsTagReasonOf : Text → Text → Type 0
IsTagReasonOf text reason = tag_reason (codes text) ≡ codes reason

-- this is the reason for a fault of this kind at the beginning of this text, in a game in which Black has mated
abbrev pub IsGiven : FaultKind → Text → Text → Type 0
IsGiven kind text reason = IsReason kind (codes text) (Some BlackMates) (Some (codes reason))

-- which reasons are given
pub record ReasonsAreGiven : Type 0 where
  -- for a bad token
  pub draw : IsTokenReason "1/2 *" "a draw is written 1/2-1/2"
  -- `½`, and an en dash
  pub half : token_reason (194 ∷ 189 ∷ []) ≡ codes "a draw is written 1/2-1/2"
  pub dash : token_reason (226 ∷ 128 ∷ 147 ∷ []) ≡ codes "an en dash, where results have a hyphen"
  pub null_move : IsTokenReason "-- e5" "a null move, which chess does not have"
  pub other_null_move : IsTokenReason "Z0 e5" "a null move, which chess does not have"
  pub variation : IsTokenReason "(e4)" "no move that this variation replaces"
  pub no_move : IsTokenReason "foo" "not a move"
  pub no_token : IsTokenReason "<" "begins no token"
  -- for a bad tag: the first part that it lacks
  pub no_name : IsTagReasonOf "[\"a\"] *" "no name"
  pub no_value : IsTagReasonOf "[A b\"] *" "no value"
  pub not_closed : IsTagReasonOf "[A \"b] *" "string not closed"
  pub no_bracket : IsTagReasonOf "[A \"b\" *" "no bracket after the value"
  -- a `%` after the bracket begins no line to be skipped
  pub percent : IsTagReasonOf "[%\nA \"b\"] *" "no name"
  pub castling : fen_reason faults.Castling ≡ codes "castling, as in normal chess unless the tag Variant names Chess960"
  pub zeros : IsGiven (Pgn IllegalMove) "0-0 *" "castling, and no result of PGN"
  -- for castling on the queen's side no reason is given
  pub no_zeros : IsReason (Pgn IllegalMove) (codes "0-0-0 *") (Some BlackMates) None
  pub after_end : IsGiven (Pgn AfterEnd) "e4 *" "0-1 {Black mates}"
  pub token_in_variation : IsGiven (InVariation BadToken) "foo)" "not a move"
  pub variant : IsGiven UnknownVariant "Atomic\"]" "neither normal chess nor Chess960, by a name that is known"
  pub differs : IsGiven (ResultDiffers 7 BlackWins) "1/2-1/2\"] 0-1" "Result 1/2-1/2, ended 0-1"
  pub board : IsGiven BoardSaysOtherwise "1-0" "0-1 {Black mates}"
