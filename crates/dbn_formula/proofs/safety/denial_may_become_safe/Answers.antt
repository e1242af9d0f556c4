use Rattle.std.proofs.Common.{sym, ◌∙◌, subst, ap}
use Rattle.std.specs.List.{list_any}
use Rattle.dbn_formula.specs.Waiting.{StaysUnsafe, is_among}
use Rattle.dbn_formula.specs.declared.formula.Formula.TheVariants.{Not}
use Rattle.dbn_formula.proofs.Waiting.{neither, not_atom_stays, not_test_stays}
use Rattle.dbn_formula.proofs.safety.denial_may_become_safe.Goals as goal

pub returns-in-Atom : goal.returns-in-Atom
returns-in-Atom c e =
    let fresh = c.args.fresh.now in
    subst (λ f. StaysUnsafe (Not f) fresh) (sym c.in-Atom.is)
    (not_atom_stays c.in-Atom.rel c.in-Atom.terms fresh (ap (list_any (is_among fresh)) (sym c.as_slice.ensures) ∙ sym c.some_among.ensures ∙ e))

pub returns-else-is_among : goal.returns-else-is_among
returns-else-is_among c e =
    let fresh = c.args.fresh.now in
    let left = c.in-Test.left in
    let right = c.in-Test.right in
    subst (λ f. StaysUnsafe (Not f) fresh) (sym c.in-Test.is)
    (not_test_stays c.in-Test.cmp left right fresh
    (neither c.is_among.result c.is_among-else-is_among.result (is_among fresh left) (is_among fresh right) c.is_among.ensures c.is_among-else-is_among.ensures c.if-is_among.false e))
