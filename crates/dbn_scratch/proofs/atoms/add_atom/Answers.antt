use Rattle.std.proofs.Common.{◌≡◌, ◌++◌, List, [], OnOk, ap, ◌∙◌}
use Rattle.std.specs.Prelude.{slice_index_or}
use Rattle.std.specs.List.{flat_map}
use Rattle.std.proofs.lemmas.Result.{IfOk-weaker}
use Rattle.dbn_value.specs.declared.value.Value.{Value}
use Rattle.dbn_formula.specs.Holds.{Env}
use Rattle.dbn_formula.specs.Solve.{matched}
use Rattle.dbn_scratch.specs.Envs.{env_of, envs_of}
use Rattle.dbn_scratch.proofs.JoinLaws.{matches_found}
use Rattle.dbn_scratch.proofs.atoms.add_atom.Goals as goal

pub returns-clause-solutions : goal.returns-clause-solutions
returns-clause-solutions c =
    let told : OnOk c.add_matches.result (envs_of c.add_matches.new.out ≡ envs_of c.args.out.now ++ flat_map (λ r. matched c.args.terms.now r.now (env_of c.args.env.now)) c.as_slice.result.now) = c.add_matches.ensures in
    IfOk-weaker c.add_matches.result _ _
    (λ u e. e ∙ ap (λ (es : List Env). envs_of c.args.out.now ++ es)
    (matches_found (λ (row : List Value). matched c.args.terms.now row (env_of c.args.env.now)) c.as_slice.result.now c.in_ok-rows.rows.items (slice_index_or c.args.tables.now.instance.now c.args.rel []) c.as_slice.ensures.value c.in_ok-rows.ensures.rows))
    told
