use Rattle.std.proofs.Common.{◌≡◌, refl, sym, subst, true, inl}
use Rattle.dbn_value.specs.Members.{In}
use Rattle.dbn_formula.specs.Safe.{known}
use Rattle.dbn_formula.specs.Answers.{constant_of}
use Rattle.dbn_plan.specs.Meaning.{vars_of}
use Rattle.dbn_plan.proofs.ComparisonMade.{known_column}
use Rattle.dbn_plan.proofs.comparison.added_for.Goals as goal

pub column_of-requires : goal.column_of-requires
column_of-requires g c =
    subst (λ a. In a c.args.labels.now) (sym c.in-Var.is) (known_column c.args.labels.now c.in-Var.field-0 (subst (λ a. known (vars_of c.args.labels.now) a ≡ true) c.in-Var.is c.requires.known))

pub cell_of-requires : goal.cell_of-requires
cell_of-requires g c = c.requires.cells c.in-Const.value (subst (λ a. In c.in-Const.value (constant_of a)) (sym c.in-Const.is) (inl refl))
