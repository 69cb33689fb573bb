-- How verifying fails if cutting the input into pieces fails.
use Rattle.pgn_pieces.specs.declared.pieces.PieceFault.{PieceFault}
use Rattle.pgn_pieces.specs.declared.pieces.PieceFault.TheVariants as pieces
use Rattle.pgn_verifier.specs.declared.fault.VerifyFault.{VerifyFault}
use Rattle.pgn_verifier.specs.declared.fault.VerifyFault.TheVariants.{ReadFailed, NoMemory, InputTooLong}

-- the fault of verifying a collection, from that of cutting it: of the same name
abbrev pub of_piece : PieceFault → VerifyFault
of_piece pieces.ReadFailed = ReadFailed
of_piece pieces.NoMemory = NoMemory
of_piece pieces.InputTooLong = InputTooLong
