use Rattle.std.proofs.Common.{[], ap, sym, ◌∙◌, subst}
use Rattle.dbn_formula.specs.declared.formula.Formula.TheVariants.{Exists}
use Rattle.dbn_plan.specs.Making.{IsReady}
use Rattle.dbn_plan.proofs.top.behind_unit.Goals as goal

pub exists_behind-requires-clause-ready : goal.exists_behind-requires-clause-ready
exists_behind-requires-clause-ready g c =
    subst (IsReady (g.P.Coder.cell_of c.args.coder.now) c.args.network.now.rels []) (c.in-Exists.is ∙ ap (Exists c.in-Exists.vars) (sym c.get.ensures)) c.requires.ready

pub exists_behind-requires-clause-form : goal.exists_behind-requires-clause-form
exists_behind-requires-clause-form g c = c.in-Exists.is ∙ ap (Exists c.in-Exists.vars) (sym c.get.ensures)
