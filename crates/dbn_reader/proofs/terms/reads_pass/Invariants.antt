use Rattle.std.proofs.Common.{◌≡◌, drop}
use Rattle.std.specs.List.{list_all}
use Rattle.dbn_net.specs.Tables.{columns}
use Rattle.dbn_reader.specs.Terms.{tested}
use Rattle.dbn_reader.proofs.terms.reads_pass.Given as goal

abbrev pub invariant-loop-read : goal.invariant-loop-read
invariant-loop-read l =
    list_all (λ r. tested l.test l.scope r.terms (columns l.sites r.view)) l.reads
    ≡ list_all (λ r. tested l.test l.scope r.terms (columns l.sites r.view)) (drop l.read-index l.reads)
