-- The numbers with which the program ends.
use Rattle.std.specs.Prelude.{ℕ}
use Rattle.dbn_top.specs.declared.status.Status.{Status}
use Rattle.dbn_top.specs.declared.status.Status.TheVariants.{Done, Usage, Net, Store, ReadFault, WriteFault, DiskFault, InputLimit, Memory}

abbrev pub code_of : Status → ℕ
code_of Done = 0
code_of Usage = 2
code_of Net = 3
code_of Store = 4
code_of ReadFault = 5
code_of WriteFault = 6
code_of DiskFault = 7
code_of InputLimit = 8
code_of Memory = 9
