use Rattle.std.proofs.Common.{◌≡◌, ap, ◌∙◌, subst}
use Rattle.std.specs.List.{filter}
use Rattle.std.proofs.lemmas.List.{take_all}
use Rattle.dbn_value.specs.Members.{In}
use Rattle.dbn_slow.specs.Clauses.{candidates, passes}
use Rattle.dbn_slow.proofs.ListingLaws.{listed_are}
use Rattle.dbn_slow.proofs.ViewLaws.{candidate_shape, clauses_fit}
use Rattle.dbn_slow.proofs.LoopLaws.{in_index}
use Rattle.dbn_slow.proofs.JoinLaws.{one_kept}
use Rattle.dbn_slow.proofs.listing.bindings.Goals as goal

pub passes-requires : goal.passes-requires
passes-requires c =
    let net = c.args.net.now in
    let t = c.args.transition.now in
    let db = c.args.at.now.instance in
    let marking = c.args.at.now.marking in
    let row = c.row-item.result in
    let same : c.as_slice-row-items.result.now ≡ candidates net t db marking = c.as_slice-row-items.ensures ∙ c.in_ok-found.ensures in
    candidate_shape net t db marking row (subst (λ l. In row l) same (in_index c.as_slice-row-items.result.now c.loop-row.row-index row c.loop-row-test.true c.row-item.is))

pub loop-row-preserved : goal.loop-row-preserved
loop-row-preserved c =
    one_kept (passes c.args.transition.now c.args.at.now.marking) c.as_slice-row-items.result.now c.loop-row.row-index c.row-item.result c.in_ok-passed.passed c.loop-row.rows c.keep.new.rows
    c.loop-row-test.true c.row-item.is c.in_ok-passed.ensures c.loop-row.invariant c.in_ok-keep.ensures

pub returns : goal.returns
returns c =
    let net = c.args.net.now in
    let t = c.args.transition.now in
    let db = c.args.at.now.instance in
    let marking = c.args.at.now.marking in
    let same : c.as_slice-row-items.result.now ≡ candidates net t db marking = c.as_slice-row-items.ensures ∙ c.in_ok-found.ensures in
    c.loop-row.invariant ∙ ap (filter (passes t marking)) (take_all c.loop-row.row-index c.as_slice-row-items.result.now c.loop-row-test.false ∙ same)
    ∙ listed_are net t db marking c.requires.stands.fits (clauses_fit net t db marking c.requires.stands.fits c.requires.good.tokens_fit)
