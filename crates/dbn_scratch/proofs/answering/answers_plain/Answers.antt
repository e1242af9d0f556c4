use Rattle.std.proofs.Common.{rules, ◌≡◌, [], map, true, ap, sym, ◌∙◌}
use Rattle.std.specs.List.{list_all}
use Rattle.dbn_value.specs.Ascending.{ascending}
use Rattle.dbn_value.specs.Order.{row_cmp}
use Rattle.dbn_formula.specs.Answers.{domain}
use Rattle.dbn_formula.specs.Holds.{lookup}
use Rattle.dbn_formula.specs.Solve.{is_bound, solutions_over}
use Rattle.dbn_scratch.specs.Envs.{env_of, envs_of}
use Rattle.dbn_scratch.proofs.FoundLaws.{from_none, over_same}
use Rattle.dbn_scratch.proofs.TurnLaws.{plain_found}
use Rattle.dbn_scratch.proofs.answering.answers_plain.Goals as goal

pub returns : goal.returns
returns c =
    let found : envs_of c.add_solutions.new.out ≡ solutions_over (domain c.args.whole.now c.args.instance.now) c.args.instance.now c.args.solved.now [] =
    from_none c.new-found.result c.add_solutions.new.out (solutions_over (domain c.in_ok-tables.tables.whole.now c.in_ok-tables.tables.instance.now) c.in_ok-tables.tables.instance.now c.args.solved.now []) c.new-found.ensures c.in_ok-add_solutions.ensures.solutions
    ∙ over_same c.in_ok-tables.tables.whole.now c.args.whole.now c.in_ok-tables.tables.instance.now c.args.instance.now c.args.solved.now c.in_ok-tables.ensures.1 c.in_ok-tables.ensures.2 in
    let passes : c.all_have.result ≡ true = search rules in
    let all : true ≡ list_all (λ e. list_all (λ x. is_bound (env_of e.items) x.0) c.args.vars.now) c.add_solutions.new.out =
    sym passes ∙ c.all_have.ensures ∙ ap (list_all (λ e. list_all (λ x. is_bound (env_of e.items) x.0) c.args.vars.now)) c.as_slice.ensures in
    let made : c.in_ok-listed.field-0 ≡ ascending row_cmp (map (λ e. map (λ x. lookup (env_of e.items) x.0) c.args.vars.now) c.add_solutions.new.out) =
    c.in_ok-listed.ensures ∙ c.in_ok-add_plain.ensures ∙ ap (λ es. ascending row_cmp (map (λ e. map (λ x. lookup (env_of e.items) x.0) c.args.vars.now) es)) c.as_slice-2.ensures in
    plain_found (domain c.args.whole.now c.args.instance.now) c.args.vars.now c.add_solutions.new.out (solutions_over (domain c.args.whole.now c.args.instance.now) c.args.instance.now c.args.solved.now []) c.in_ok-listed.field-0 found all made
