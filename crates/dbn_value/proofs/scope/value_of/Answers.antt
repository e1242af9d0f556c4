-- What is known of a variable is what it stands for.
use Rattle.std.proofs.Common.{[], pos, sym, ap, ◌∙◌}
use Rattle.std.specs.Option.{unwrap_or}
use Rattle.dbn_value.specs.Scope.{bind, lookup, value_of}
use Rattle.dbn_value.specs.declared.value.Value.TheVariants.{Int}
use Rattle.dbn_value.proofs.Scopes.{lookup_is}
use Rattle.dbn_value.proofs.scope.value_of.Goals as goal

pub returns-in-Var-clause-value : goal.returns-in-Var-clause-value
returns-in-Var-clause-value c =
    let scope = c.args.scope.now in
    ap (λ o. unwrap_or o (Int (pos 0))) c.last_entry.ensures
    ∙ lookup_is (bind scope c.as_slice.result.now []) c.in-Var.var
    ∙ ap (λ row. lookup (bind scope row []) c.in-Var.var) c.as_slice.ensures
    ∙ ap (value_of (bind scope c.args.row.now [])) (sym c.in-Var.is)
