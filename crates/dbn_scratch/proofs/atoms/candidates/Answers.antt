use Rattle.std.proofs.Common.{[], subst}
use Rattle.std.specs.Prelude.{slice_index_or}
use Rattle.std.proofs.lemmas.Result.{IfOk-weaker}
use Rattle.dbn_scratch.specs.Envs.{env_of}
use Rattle.dbn_scratch.specs.Indexes.{shown, IsIndex}
use Rattle.dbn_scratch.proofs.JoinLaws.{index_matches}
use Rattle.dbn_scratch.proofs.atoms.candidates.Goals as goal

pub returns-in-Some-clause-rows : goal.returns-in-Some-clause-rows
returns-in-Some-clause-rows c =
    let right : IsIndex (slice_index_or c.args.tables.now.instance.now c.args.rel []) c.in_ok-marks.marks.items c.in-Some.index.now.entries =
    subst (λ db. IsIndex (slice_index_or db c.args.rel []) c.in_ok-marks.marks.items c.in-Some.index.now.entries) c.requires.over c.in-Some.ensures in
    IfOk-weaker c.rows_for.result _ _
    (λ rows e. index_matches c.args.terms.now (env_of c.args.env.now) c.in_ok-marks.marks.items c.as_slice.result.now (slice_index_or c.args.tables.now.instance.now c.args.rel []) (shown rows.items) c.in-Some.index.now.entries
    c.in_ok-marks.ensures c.as_slice.ensures.value right e)
    c.rows_for.ensures
