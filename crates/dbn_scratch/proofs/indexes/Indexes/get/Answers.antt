use Rattle.std.proofs.Common.{◌≡◌, [], Some, ap, sym, ◌∙◌, subst}
use Rattle.std.specs.Prelude.{slice_index_or}
use Rattle.std.specs.Map.{lookup}
use Rattle.std.specs.BTreeMap.{is_at}
use Rattle.dbn_scratch.specs.Indexes.{spot_cmp, IsIndex}
use Rattle.dbn_scratch.proofs.IndexLaws.{kept_found}
use Rattle.dbn_scratch.proofs.indexes.Indexes.get.Goals as goal

pub returns-in-Some-Some : goal.returns-in-Some-Some
returns-in-Some-Some c =
    let there : lookup (is_at (spot_cmp c.args.spot.now)) c.self.inside.kept.entries ≡ Some (Some c.in-Some-Some.index) = sym c.in-Some-Some.ensures.value ∙ ap Some c.in-Some-Some.field-0-is in
    subst (λ db. IsIndex (slice_index_or db c.args.spot.now.0 []) c.args.spot.now.1.items c.in-Some-Some.index.entries) c.self.view_is
    (kept_found c.self.inside.instance.now c.self.inside.kept.entries c.args.spot.now c.in-Some-Some.index c.self.invariant there)
