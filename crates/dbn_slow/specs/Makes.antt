-- What the parts of a firing and of a group answer.
use Rattle.std.specs.Prelude.{◌≡◌, Some, None, Result, Ok, Err}
use Rattle.dbn_net.specs.Values.{Marking}
use Rattle.dbn_core.specs.declared.outcome.FireFault.{FireFault}
use Rattle.dbn_core.specs.declared.outcome.FireFault.TheVariants.{Refused, Memory}
use Rattle.dbn_core.specs.declared.outcome.Refusal.TheVariants.{Disabled, UnknownId, FreshEnd, FiringEnd, CountLimit}
use Rattle.dbn_core.specs.declared.outcome.GroupFault.{GroupFault}
use Rattle.dbn_core.specs.declared.outcome.GroupFault.TheVariants as group
use Rattle.dbn_core.specs.Moves.{first_over}
use Rattle.dbn_core.specs.Fire.{Firing}
use Rattle.dbn_core.specs.Group.{Grouping}
use Rattle.dbn_slow.specs.declared.firing.Made.{Made}
use Rattle.dbn_slow.specs.declared.grouping.MadeAll.{MadeAll}

-- the declared firing, or want of memory
abbrev pub Makes : Firing → Result Made FireFault → Type 0
Makes declared (Ok made) = declared ≡ Ok (made.fired, made.at)
Makes declared (Err (Refused why)) = declared ≡ Err why
Makes declared (Err Memory) = Unit {0}

-- the declared group, or want of memory
abbrev pub MakesAll : Grouping → Result MadeAll GroupFault → Type 0
MakesAll declared (Ok made) = declared ≡ Ok (made.fired, made.at)
MakesAll declared (Err (group.Refused member why)) = declared ≡ Err (member, why)
MakesAll declared (Err group.Memory) = Unit {0}

-- the declared marking, which is refused with its first place that is over, or want of memory
abbrev pub Moves : Marking → Result Marking FireFault → Type 0
Moves declared (Ok marking) = (marking ≡ declared) × (first_over declared ≡ None)
Moves declared (Err (Refused Disabled)) = ⊥
Moves declared (Err (Refused UnknownId)) = ⊥
Moves declared (Err (Refused FreshEnd)) = ⊥
Moves declared (Err (Refused FiringEnd)) = ⊥
Moves declared (Err (Refused (CountLimit place))) = first_over declared ≡ Some place
Moves declared (Err Memory) = Unit {0}
