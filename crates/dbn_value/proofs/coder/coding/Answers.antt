-- What each coder promises of itself.
use Rattle.std.proofs.Common.{sym, ◌∙◌}
use Rattle.dbn_value.proofs.coder.coding.Goals as goal

pub returns-clause-coding : goal.returns-clause-coding
returns-clause-coding g c =
    let decodes = g.met.P.Coder.decodes c.args._coder.now in
    record {
      total = g.met.P.Cell.Ord.total;
      exact = g.met.P.Cell.Cell.exact;
      one = λ v w cell p q. sym (decodes v cell p) ∙ decodes w cell q;
      ints = g.met.P.Coder.keeps_int c.args._coder.now;
      by_number = g.met.P.Cell.Cell.by_number;
    }
