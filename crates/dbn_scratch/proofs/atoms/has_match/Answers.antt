use Rattle.std.proofs.Common.{not, List, [], map, refl, ap, sym, subst, ◌∙◌}
use Rattle.std.specs.Prelude.{slice_index_or}
use Rattle.std.specs.List.{flat_map}
use Rattle.std.proofs.lemmas.Result.{IfOk-weaker}
use Rattle.dbn_value.specs.Scope.{value_of}
use Rattle.dbn_value.specs.declared.value.Value.{Value}
use Rattle.dbn_formula.specs.Solve.{is_empty, matched}
use Rattle.dbn_scratch.specs.Envs.{env_of}
use Rattle.dbn_scratch.specs.Indexes.{key_of, rows_under, IsIndex}
use Rattle.dbn_scratch.proofs.JoinLaws.{index_matches}
use Rattle.dbn_scratch.proofs.SolvingLaws.{some_flat}
use Rattle.dbn_scratch.proofs.atoms.has_match.Goals as goal

pub returns-in-Some-clause-some : goal.returns-in-Some-clause-some
returns-in-Some-clause-some c =
    let entries = c.in-Some.index.now.entries in
    let right : IsIndex (slice_index_or c.args.tables.now.instance.now c.args.rel []) c.in_ok-marks.marks.items entries =
    subst (λ db. IsIndex (slice_index_or db c.args.rel []) c.in_ok-marks.marks.items entries) c.requires.over c.in-Some.ensures in
    IfOk-weaker c.has_match_under.result _ _
    (λ some e. e ∙ ap (λ es. not (is_empty es)) (index_matches c.args.terms.now (env_of c.args.env.now) c.in_ok-marks.marks.items c.as_slice.result.now (slice_index_or c.args.tables.now.instance.now c.args.rel [])
    (rows_under entries (key_of c.as_slice.result.now (map (value_of (env_of c.args.env.now)) c.args.terms.now))) entries c.in_ok-marks.ensures c.as_slice.ensures.value right refl))
    c.has_match_under.ensures

pub returns-in_ok-note-in-None-clause-some : goal.returns-in_ok-note-in-None-clause-some
returns-in_ok-note-in-None-clause-some c =
    IfOk-weaker c.has_match_in.result _ _
    (λ some e. e ∙ sym (some_flat (λ (row : List Value). matched c.args.terms.now row (env_of c.args.env.now)) c.row_set.result.now.keys)
    ∙ ap (λ rows. not (is_empty (flat_map (λ (row : List Value). matched c.args.terms.now row (env_of c.args.env.now)) rows))) c.row_set.ensures)
    c.has_match_in.ensures
