-- The refusal that ended a run.
use Rattle.dayfile.specs.declared.file_fault.Cause.{Cause}
use Rattle.dayfile.specs.declared.file_fault.Cause.TheVariants.{File, Account, Call, Memory}
use Rattle.faults.specs.declared.Fault.{Fault}
use Rattle.faults.specs.Refusals.{plain}
use Rattle.std.specs.Prelude.{Some, None, Option}

-- want of memory is no refusal
abbrev pub fault_of : Cause → Option Fault
fault_of (File refusal) = Some (plain refusal)
fault_of (Account fault) = Some fault
fault_of (Call f) = Some f.fault
fault_of Memory = None
