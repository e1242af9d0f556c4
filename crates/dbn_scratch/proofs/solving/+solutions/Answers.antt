use Rattle.std.proofs.Common.{◌≡◌, ◌++◌, not, map, IfOk, OnOk, ap, sym, ◌∙◌}
use Rattle.std.proofs.lemmas.List.{map-append}
use Rattle.std.proofs.lemmas.Result.{IfOk-weaker}
use Rattle.std.specs.List.{flat_map, list_any}
use Rattle.dbn_formula.specs.Solve.{is_empty, all_run, chosen, choosable, solutions_over}
use Rattle.dbn_formula.proofs.SolveLaws.{solve_or}
use Rattle.dbn_scratch.specs.Envs.{env_of, envs_of}
use Rattle.dbn_scratch.specs.Prepared.{domain_of}
use Rattle.dbn_scratch.proofs.FoundLaws.{from_none, flat_found, any_found_of}
use Rattle.dbn_scratch.proofs.SolvingLaws.{run_done, some_last, some_inside, some_chosen, some_flat}
use Rattle.dbn_scratch.proofs.TurnLaws.{one_more_run}
use Rattle.dbn_scratch.proofs.solving.+solutions.Goals as goal

pub add_all-loop-part-preserved : goal.add_all-loop-part-preserved
add_all-loop-part-preserved t c = record {
  solutions =
      one_more_run (solutions_over (domain_of c.args.tables.now) c.args.tables.now.instance.now) c.args.parts.now c.loop-part.part-index c.part-item.result c.loop-part.from c.add_each.new.out
      (all_run (map (solutions_over (domain_of c.args.tables.now) c.args.tables.now.instance.now) c.args.parts.now) (env_of c.args.env.now)) c.loop-part.invariant.solutions c.loop-part-test.true c.part-item.is
      (from_none c.new-next.result c.add_each.new.out (flat_map (λ e. solutions_over (domain_of c.args.tables.now) c.args.tables.now.instance.now c.part-item.result (env_of e.items)) c.as_slice.result.now) c.new-next.ensures c.in_ok-add_each.ensures.solutions
      ∙ ap (flat_map (λ e. solutions_over (domain_of c.args.tables.now) c.args.tables.now.instance.now c.part-item.result (env_of e.items))) c.as_slice.ensures);
  same = c.in_ok-add_each.ensures.same ∙ c.loop-part.invariant.same;
}

pub add_all-returns-clause-solutions : goal.add_all-returns-clause-solutions
add_all-returns-clause-solutions t c =
    let whole : envs_of c.loop-part.from ≡ all_run (map (solutions_over (domain_of c.args.tables.now) c.args.tables.now.instance.now) c.args.parts.now) (env_of c.args.env.now) =
    sym (run_done (solutions_over (domain_of c.args.tables.now) c.args.tables.now.instance.now) c.args.parts.now c.loop-part.part-index (envs_of c.loop-part.from) c.loop-part-test.false) ∙ c.loop-part.invariant.solutions in
    IfOk-weaker c.append.result _ _ (λ u e. ap envs_of e ∙ map-append (λ v. env_of v.items) c.args.out.now c.loop-part.from ∙ ap (λ es. envs_of c.args.out.now ++ es) whole) c.append.ensures

pub add_exists-returns-clause-solutions : goal.add_exists-returns-clause-solutions
add_exists-returns-clause-solutions t c =
    let found : envs_of c.add_solutions.new.out ≡ solutions_over (domain_of c.args.tables.now) c.args.tables.now.instance.now c.args.body.now (env_of c.args.env.now) =
    from_none c.new-found.result c.add_solutions.new.out (solutions_over (domain_of c.args.tables.now) c.args.tables.now.instance.now c.args.body.now (env_of c.args.env.now)) c.new-found.ensures c.in_ok-add_solutions.ensures.solutions in
    let told : OnOk c.add_chosen.result (envs_of c.add_chosen.new.out ≡ envs_of c.args.out.now ++ flat_map (λ e. chosen (domain_of c.args.tables.now) c.args.vars.now (env_of e.items)) c.as_slice.result.now) = c.add_chosen.ensures in
    IfOk-weaker c.add_chosen.result _ _ (λ u e. e ∙ ap (λ es. envs_of c.args.out.now ++ es) (flat_found (chosen (domain_of c.args.tables.now) c.args.vars.now) c.add_solutions.new.out c.as_slice.result.now (solutions_over (domain_of c.args.tables.now) c.args.tables.now.instance.now c.args.body.now (env_of c.args.env.now)) c.as_slice.ensures found)) told

pub has_all-returns-in_ok-add_all-in-Some-clause-some : goal.has_all-returns-in_ok-add_all-in-Some-clause-some
has_all-returns-in_ok-add_all-in-Some-clause-some t c =
    let found : envs_of c.add_all.new.out ≡ all_run (map (solutions_over (domain_of c.args.tables.now) c.args.tables.now.instance.now) c.in-Some.others.now) (env_of c.args.env.now) =
    from_none c.new-from.result c.add_all.new.out (all_run (map (solutions_over (domain_of c.args.tables.now) c.args.tables.now.instance.now) c.in-Some.others.now) (env_of c.args.env.now)) c.new-from.ensures c.in_ok-add_all-in-Some.ensures.solutions in
    let told : IfOk c.has_each.result (λ some. some ≡ list_any (λ e. not (is_empty (solutions_over (domain_of c.args.tables.now) c.args.tables.now.instance.now c.in-Some.last.now (env_of e.items)))) c.as_slice.result.now) = c.has_each.ensures.some in
    IfOk-weaker c.has_each.result _ _
    (λ some e. e
    ∙ any_found_of (λ e. not (is_empty (solutions_over (domain_of c.args.tables.now) c.args.tables.now.instance.now c.in-Some.last.now e))) c.add_all.new.out c.as_slice.result.now (all_run (map (solutions_over (domain_of c.args.tables.now) c.args.tables.now.instance.now) c.in-Some.others.now) (env_of c.args.env.now)) c.as_slice.ensures found
    ∙ some_last (solutions_over (domain_of c.args.tables.now) c.args.tables.now.instance.now) c.args.parts.now c.in-Some.others.now c.in-Some.last.now (env_of c.args.env.now) c.in-Some.ensures.cases.0)
    told

pub has_exists-returns-then-have_values-clause-some : goal.has_exists-returns-then-have_values-clause-some
has_exists-returns-then-have_values-clause-some t c =
    let told : IfOk c.has_solution.result (λ some. some ≡ not (is_empty (solutions_over (domain_of c.args.tables.now) c.args.tables.now.instance.now c.args.body.now (env_of c.args.env.now)))) = c.has_solution.ensures.some in
    IfOk-weaker c.has_solution.result _ _ (λ some e. e ∙ some_inside (domain_of c.args.tables.now) c.args.vars.now (solutions_over (domain_of c.args.tables.now) c.args.tables.now.instance.now c.args.body.now (env_of c.args.env.now)) (sym c.have_values.ensures ∙ c.if-have_values.true)) told

pub has_exists-returns-clause-some : goal.has_exists-returns-clause-some
has_exists-returns-clause-some t c =
    let found : envs_of c.add_solutions.new.out ≡ solutions_over (domain_of c.args.tables.now) c.args.tables.now.instance.now c.args.body.now (env_of c.args.env.now) =
    from_none c.new-found.result c.add_solutions.new.out (solutions_over (domain_of c.args.tables.now) c.args.tables.now.instance.now c.args.body.now (env_of c.args.env.now)) c.new-found.ensures c.in_ok-add_solutions.ensures.solutions in
    c.is_choosable_in.ensures ∙ any_found_of (choosable (domain_of c.args.tables.now) c.args.vars.now) c.add_solutions.new.out c.as_slice.result.now (solutions_over (domain_of c.args.tables.now) c.args.tables.now.instance.now c.args.body.now (env_of c.args.env.now)) c.as_slice.ensures found
    ∙ sym (some_chosen (domain_of c.args.tables.now) c.args.vars.now (solutions_over (domain_of c.args.tables.now) c.args.tables.now.instance.now c.args.body.now (env_of c.args.env.now)))

pub has_solution-returns-in-Or-clause-some : goal.has_solution-returns-in-Or-clause-some
has_solution-returns-in-Or-clause-some t c =
    let told : IfOk c.has_any.result (λ some. some ≡ list_any (λ f. not (is_empty (solutions_over (domain_of c.args.tables.now) c.args.tables.now.instance.now f (env_of c.args.env.now)))) c.as_slice-in-Or.result.now) = c.has_any.ensures.some in
    IfOk-weaker c.has_any.result _ _
    (λ some e. e ∙ ap (list_any (λ f. not (is_empty (solutions_over (domain_of c.args.tables.now) c.args.tables.now.instance.now f (env_of c.args.env.now))))) c.as_slice-in-Or.ensures
    ∙ sym (some_flat (λ f. solutions_over (domain_of c.args.tables.now) c.args.tables.now.instance.now f (env_of c.args.env.now)) c.in-Or.parts)
    ∙ ap (λ es. not (is_empty es)) (sym (solve_or (domain_of c.args.tables.now) c.args.tables.now.instance.now c.in-Or.parts (env_of c.args.env.now)))
    ∙ ap (λ f. not (is_empty (solutions_over (domain_of c.args.tables.now) c.args.tables.now.instance.now f (env_of c.args.env.now)))) (sym c.in-Or.is))
    told
