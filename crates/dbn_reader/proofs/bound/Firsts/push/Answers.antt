use Rattle.std.proofs.Common.{[], ◌∷◌, ◌++◌, ap, sym, ◌∙◌}
use Rattle.std.specs.BTreeSet.{insert_key}
use Rattle.dbn_value.specs.Variables.{var_cmp}
use Rattle.dbn_formula.proofs.KnownLaws.{from_ok}
use Rattle.dbn_reader.proofs.BoundLaws.{knows_typed}
use Rattle.dbn_reader.proofs.bound.Firsts.push.Goals as goal

pub invariant_of-self-else-is_err : goal.invariant_of-self-else-is_err
invariant_of-self-else-is_err c =
    knows_typed c.self.inside.known.keys c.insert.new.self.keys c.self.inside.vars c.push.new.self c.args.var.now c.args.kind c.self.invariant
    (from_ok c.insert.result (sym c.is_err.ensures.value ∙ c.if-is_err.false) c.insert.ensures.keys ∙ ap (insert_key var_cmp c.self.inside.known.keys) c.in_ok-known.ensures)
    (c.in_ok-push.ensures.ok ∙ ap (λ y. c.self.inside.vars ++ (y, c.args.kind) ∷ []) c.in_ok-listed.ensures)
