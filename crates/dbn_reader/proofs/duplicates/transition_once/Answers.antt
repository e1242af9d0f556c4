use Rattle.std.proofs.Common.{◌≡◌, ◌++◌, List, ap, subst, ◌∙◌, IfOk}
use Rattle.dbn_net.specs.Forms.{Name}
use Rattle.dbn_net.specs.Naming.{bound_of}
use Rattle.dbn_net.specs.Judging.{once, scope_names, var_names}
use Rattle.dbn_reader.proofs.NewLaws.{bound_names}
use Rattle.dbn_reader.proofs.duplicates.transition_once.Goals as goal

pub returns : goal.returns
returns c =
    let net = c.args.net.now in
    let r = c.args.transition.now in
    subst (λ (names : List Name). IfOk c.variables_once.result (λ ok. ok ≡ once (names ++ scope_names r.asked ++ var_names r.fresh)))
    (ap scope_names (c.as_slice-2.ensures ∙ c.in_ok-bound.ensures ∙ ap (bound_of net) c.as_slice.ensures) ∙ bound_names net r)
    c.variables_once.ensures
