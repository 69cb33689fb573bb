-- Which fault of the program one of its devices gives.
use Rattle.chess_cecp.specs.declared.run.Fault.{Fault}
use Rattle.chess_cecp.specs.declared.run.Fault.TheVariants.{Read, Write}
use Rattle.chess_arbiter.specs.declared.fault.ProgramFault.{ProgramFault}
use Rattle.chess_arbiter.specs.declared.fault.ProgramFault.TheVariants.{ReadFailed, WriteFailed}

-- the program's fault if a read or a write failed while lines were answered
abbrev pub fault_of : Fault → ProgramFault
fault_of Read = ReadFailed
fault_of Write = WriteFailed
