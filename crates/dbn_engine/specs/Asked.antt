-- Commands that a core of a net can be asked for.
use Rattle.std.specs.Prelude.{◌<◌, ◌≤◌, List, length}
use Rattle.dbn_formula.specs.Solutions.{HasShape}
use Rattle.dbn_net.specs.declared.decl.Decl.{Decl}
use Rattle.dbn_net.specs.Tables.{relations, places, transitions}
use Rattle.dbn_net.specs.Enabled.{shape_at}
use Rattle.dbn_codec.specs.Bodies.{most_members}
use Rattle.dbn_core.specs.Group.{AreMembers}
use Rattle.dbn_command.specs.declared.command.Command.{Command}
use Rattle.dbn_command.specs.declared.command.Command.TheVariants.{Blank, Bindings, Fire, Group, Marking, Facts, Checkpoint}

-- its numbers are in range, and its rows have the types of their transitions
abbrev pub IsOf : List Decl → Command → Type 0
IsOf net Blank = Unit {0}
IsOf net (Bindings t) = t < length (transitions net)
IsOf net (Fire t row) = (t < length (transitions net)) × HasShape row (shape_at net t)
IsOf net (Group members) = (1 ≤ length members) × (length members ≤ most_members) × AreMembers net members
IsOf net (Marking place) = place < length (places net)
IsOf net (Facts rel) = rel < length (relations net)
IsOf net Checkpoint = Unit {0}
