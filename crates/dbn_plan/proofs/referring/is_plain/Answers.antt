use Rattle.std.proofs.Common.{ap, sym, ◌∙◌}
use Rattle.dbn_formula.specs.declared.formula.Formula.TheVariants.{Exists}
use Rattle.dbn_plan.proofs.ReferringLaws.{atom_alone, some_alone}
use Rattle.dbn_plan.proofs.referring.is_plain.Goals as goal

pub returns-in-Atom : goal.returns-in-Atom
returns-in-Atom c e = atom_alone c.args.f.now _ _ c.in-Atom.is _

pub returns-in-Exists : goal.returns-in-Exists
returns-in-Exists c e = some_alone c.args.f.now _ c.get.result.now (c.in-Exists.is ∙ ap (Exists _) (sym c.get.ensures)) (c.is_atom.ensures e)
