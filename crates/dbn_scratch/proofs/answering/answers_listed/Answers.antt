use Rattle.std.proofs.Common.{◌≡◌, [], map, IfOk, subst}
use Rattle.std.specs.List.{filter}
use Rattle.dbn_value.specs.Ascending.{rows_over}
use Rattle.dbn_formula.specs.Answers.{bind}
use Rattle.dbn_formula.specs.Holds.{Domain, holds_over}
use Rattle.dbn_scratch.proofs.answering.answers_listed.Goals as goal

pub returns : goal.returns
returns c =
    subst (λ (dom : Domain). IfOk c.tried_rows.result (λ rows. rows ≡ filter (λ row. holds_over dom c.args.instance.now c.args.f.now (bind c.args.vars.now row [])) (rows_over (map (λ x. dom x.1) c.args.vars.now))))
    (λ i type. c.in_ok-domains.ensures type i) c.tried_rows.ensures
