use Rattle.std.proofs.Common.{sym, subst}
use Rattle.dbn_formula.specs.Waiting.{StaysUnsafe, is_among}
use Rattle.dbn_formula.proofs.Waiting.{neither, test_stays}
use Rattle.dbn_formula.proofs.safety.may_become_safe.Goals as goal

pub returns-else-is_among : goal.returns-else-is_among
returns-else-is_among c e =
    let fresh = c.args.fresh.now in
    let left = c.in-Test.left in
    let right = c.in-Test.right in
    subst (λ f. StaysUnsafe f fresh) (sym c.in-Test.is)
    (test_stays c.in-Test.cmp left right fresh
    (neither c.is_among.result c.is_among-else-is_among.result (is_among fresh left) (is_among fresh right) c.is_among.ensures c.is_among-else-is_among.ensures c.if-is_among.false e))
