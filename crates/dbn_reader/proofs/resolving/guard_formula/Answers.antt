use Rattle.std.proofs.Common.{List, subst}
use Rattle.dbn_net.specs.declared.decl.Decl.{Decl}
use Rattle.dbn_net.specs.Tables.{relation_names}
use Rattle.dbn_net.specs.Naming.{resolved_formula}
use Rattle.dbn_reader.specs.Parses.{Parses}
use Rattle.dbn_reader.proofs.resolving.guard_formula.Goals as goal

pub returns : goal.returns
returns c =
    subst (λ (net : List Decl). Parses c.resolved_formula.result (resolved_formula (relation_names net) c.args.written)) c.empty-nothing.ensures
    c.resolved_formula.ensures
