use Rattle.std.proofs.Common.{◌≡◌, ◌++◌, map, take}
use Rattle.dbn_net.specs.Tables.{field_names}
use Rattle.dbn_net.specs.Naming.{name_at}
use Rattle.dbn_net.specs.Printing.{word}
use Rattle.dbn_writer.proofs.declarations.add_fields.Given as goal

abbrev pub invariant-loop-field : goal.invariant-loop-field
invariant-loop-field l = l.out ≡ l.fn.out ++ map word (map (name_at (field_names l.net l.rel)) (take l.field-index l.fields))
