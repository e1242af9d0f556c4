-- What the calls of a core answer, and what they leave.
use Rattle.std.specs.Prelude.{◌≡◌, Bool, true, false, List, Option, Some, None, Result, Ok, Err}
use Rattle.dbn_net.specs.declared.snapshot.Snapshot.{Snapshot}
use Rattle.dbn_core.specs.declared.outcome.Fired.{Fired}
use Rattle.dbn_core.specs.declared.outcome.Refusal.{Refusal}
use Rattle.dbn_core.specs.declared.outcome.FireFault.{FireFault}
use Rattle.dbn_core.specs.declared.outcome.FireFault.TheVariants.{Refused, Memory}
use Rattle.dbn_core.specs.declared.outcome.GroupFault.{GroupFault}
use Rattle.dbn_core.specs.declared.outcome.GroupFault.TheVariants as group
use Rattle.dbn_core.specs.Fire.{Firing}
use Rattle.dbn_core.specs.Group.{Grouping}

-- a test before a firing answers the first refusal that applies, or none
abbrev pub Tells : Option Refusal → Result (Unit {0}) FireFault → Type 0
Tells declared (Ok none) = declared ≡ None
Tells declared (Err (Refused why)) = declared ≡ Some why
Tells declared (Err Memory) = Unit {0}

-- a firing leaves the snapshot that it makes; a refusal leaves all as it was; after want of memory the core isn't live
abbrev pub Leaves : Firing → Snapshot → Snapshot → Bool → Result Fired FireFault → Type 0
Leaves declared old new live (Ok f) = (declared ≡ Ok (f, new)) × (live ≡ true)
Leaves declared old new live (Err (Refused why)) = (declared ≡ Err why) × (new ≡ old) × (live ≡ true)
Leaves declared old new live (Err Memory) = live ≡ false

-- the same of a group
abbrev pub LeavesGroup : Grouping → Snapshot → Snapshot → Bool → Result (List Fired) GroupFault → Type 0
LeavesGroup declared old new live (Ok all) = (declared ≡ Ok (all, new)) × (live ≡ true)
LeavesGroup declared old new live (Err (group.Refused member why)) = (declared ≡ Err (member, why)) × (new ≡ old) × (live ≡ true)
LeavesGroup declared old new live (Err group.Memory) = live ≡ false
