use Rattle.std.proofs.Common.{◌≡◌, not, List, map, IfOk, ap, ◌∙◌}
use Rattle.std.specs.List.{list_any, flat_map}
use Rattle.std.proofs.lemmas.Result.{IfOk-weaker}
use Rattle.dbn_value.specs.Scope.{value_of}
use Rattle.dbn_value.specs.declared.value.Value.{Value}
use Rattle.dbn_formula.specs.Solve.{is_empty, matched}
use Rattle.dbn_scratch.specs.Envs.{env_of}
use Rattle.dbn_scratch.specs.Indexes.{key_of, rows_under}
use Rattle.dbn_scratch.proofs.JoinLaws.{some_found}
use Rattle.dbn_scratch.proofs.atoms.has_match_under.Goals as goal

pub returns : goal.returns
returns c =
    let told : IfOk c.some_matches.result (λ some. some ≡ list_any (λ r. not (is_empty (matched c.args.terms.now r.now (env_of c.args.env.now)))) c.as_slice.result.now) = c.some_matches.ensures in
    IfOk-weaker c.some_matches.result _ _
    (λ some e. e ∙ some_found (λ (row : List Value). matched c.args.terms.now row (env_of c.args.env.now)) c.as_slice.result.now c.in_ok-rows.rows.items
    (rows_under c.args.index.now.entries (key_of c.args.marks.now (map (value_of (env_of c.args.env.now)) c.args.terms.now))) c.as_slice.ensures.value
    (ap (flat_map (λ (row : List Value). matched c.args.terms.now row (env_of c.args.env.now))) c.in_ok-rows.ensures))
    told
