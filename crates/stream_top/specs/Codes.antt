-- The status code of the process.
use Rattle.std.specs.Prelude.{ℕ}
use Rattle.stream_top.specs.declared.status.Status.{Status}
use Rattle.stream_top.specs.declared.status.Status.TheVariants.{Done, Usage, Refused, Budget, ReadFault}
use Rattle.stream_top.specs.declared.status.Status.TheVariants.{Fault, WriteFault, NoMemory}

abbrev pub code_of : Status → ℕ
code_of Done = 0
code_of Usage = 1
code_of Refused = 2
code_of Budget = 3
code_of ReadFault = 4
code_of WriteFault = 5
code_of NoMemory = 7
code_of Fault = 8
