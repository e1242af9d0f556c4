use Rattle.dbn_plan.proofs.ReferringLaws.{atom_alone}
use Rattle.dbn_plan.proofs.referring.is_atom.Goals as goal

pub returns-in-Atom : goal.returns-in-Atom
returns-in-Atom c e bound = atom_alone c.args.f.now _ _ c.in-Atom.is bound
