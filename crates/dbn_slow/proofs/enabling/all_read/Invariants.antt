use Rattle.std.proofs.Common.{◌≡◌, drop, []}
use Rattle.std.specs.List.{list_all}
use Rattle.dbn_value.specs.Scope.{bind}
use Rattle.dbn_net.specs.Enabled.{is_read}
use Rattle.dbn_slow.proofs.enabling.all_read.Given as goal

abbrev pub invariant-loop-read : goal.invariant-loop-read
invariant-loop-read l =
    list_all (is_read l.net l.instance (bind l.transition.bound l.bound [])) (drop l.read-index l.transition.reads)
    ≡ list_all (is_read l.net l.instance (bind l.transition.bound l.bound [])) l.transition.reads
