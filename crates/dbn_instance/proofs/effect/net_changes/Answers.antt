use Rattle.std.proofs.Common.{rules, ◌≡◌, ◌<◌, ◌++◌, map, length, subst, sym}
use Rattle.std.specs.List.{All}
use Rattle.dbn_instance.specs.Facts.{AreInRange, lost_facts, missing_facts, net_changes, after_changes, after_action, fact_of, AllFit}
use Rattle.dbn_instance.proofs.FactLaws.{net_changes_made, range_ascending, net_changes_lead, net_changes_fit, net_changes_in_range}
use Rattle.dbn_value.specs.Ascending.{ascending}
use Rattle.dbn_instance.specs.FactOrder.{fact_cmp}
use Rattle.dbn_instance.specs.declared.fact.Change.TheVariants.{Plus, Minus}
use Rattle.dbn_instance.specs.Shortest.{IsShortest}
use Rattle.dbn_instance.proofs.ShortestLaws.{net_changes_shortest}
use Rattle.dbn_instance.proofs.effect.net_changes.Goals as goal

pub push_pluses-requires : goal.push_pluses-requires
push_pluses-requires g c =
    let keys : c.in_ok-added.added.keys ≡ ascending (fact_cmp g.C.Ord.cmp) c.args.adds.now = search rules in
    subst (AreInRange c.args.instance.now) (sym keys) (range_ascending g.met.C.Ord.total g.met.C.Cell.exact c.args.adds.now c.args.instance.now c.requires.adds)

pub returns-clause-exact : goal.returns-clause-exact
returns-clause-exact g c =
    let keys : c.in_ok-added.added.keys ≡ ascending (fact_cmp g.C.Ord.cmp) c.args.adds.now = search rules in
    let goes : c.in_ok-lost.lost.keys ≡ lost_facts g.C.Ord.cmp c.args.deletes.now c.in_ok-added.added.keys c.args.instance.now = search rules in
    let minuses : c.push_minuses.new.changes ≡ map (λ f. Minus f) c.in_ok-lost.lost.keys = search rules in
    let is : c.push_pluses.new.changes ≡ c.push_minuses.new.changes ++ map (λ f. Plus f) (missing_facts g.C.Ord.cmp c.in_ok-added.added.keys c.args.instance.now) = search rules in
    net_changes_made g.met.C.Ord.total g.met.C.Cell.exact c.args.deletes.now c.args.adds.now c.in_ok-added.added.keys c.in_ok-lost.lost.keys c.args.instance.now
    c.push_minuses.new.changes c.push_pluses.new.changes keys goes minuses is

pub returns-clause-leads : goal.returns-clause-leads
returns-clause-leads g c =
    let exact : c.push_pluses.new.changes ≡ net_changes g.C.Ord.cmp c.args.deletes.now c.args.adds.now c.args.instance.now = returns-clause-exact g c in
    subst (λ changes. after_changes g.C.Ord.cmp changes c.args.instance.now ≡ after_action g.C.Ord.cmp c.args.deletes.now c.args.adds.now c.args.instance.now) (sym exact)
    (net_changes_lead g.met.C.Ord.total g.met.C.Cell.exact c.args.deletes.now c.args.adds.now c.args.instance.now c.relations-count.ensures.ascending c.requires.deletes c.requires.adds)

pub returns-clause-fits : goal.returns-clause-fits
returns-clause-fits g c =
    let exact : c.push_pluses.new.changes ≡ net_changes g.C.Ord.cmp c.args.deletes.now c.args.adds.now c.args.instance.now = returns-clause-exact g c in
    subst (λ changes. AllFit g.C.Ord.cmp changes c.args.instance.now) (sym exact)
    (net_changes_fit g.met.C.Ord.total g.met.C.Cell.exact c.args.deletes.now c.args.adds.now c.args.instance.now c.relations-count.ensures.ascending c.requires.deletes c.requires.adds)

pub returns-clause-in_range : goal.returns-clause-in_range
returns-clause-in_range g c =
    let exact : c.push_pluses.new.changes ≡ net_changes g.C.Ord.cmp c.args.deletes.now c.args.adds.now c.args.instance.now = returns-clause-exact g c in
    subst (λ changes. All (λ d. (fact_of d).rel < length c.args.instance.now) changes) (sym exact)
    (net_changes_in_range g.met.C.Ord.total g.met.C.Cell.exact c.args.deletes.now c.args.adds.now c.args.instance.now c.requires.deletes c.requires.adds)

pub returns-clause-shortest : goal.returns-clause-shortest
returns-clause-shortest g c =
    let exact : c.push_pluses.new.changes ≡ net_changes g.C.Ord.cmp c.args.deletes.now c.args.adds.now c.args.instance.now = returns-clause-exact g c in
    subst (λ changes. IsShortest g.C.Ord.cmp changes c.args.instance.now) (sym exact)
    (net_changes_shortest g.met.C.Ord.total g.met.C.Cell.exact c.args.deletes.now c.args.adds.now c.args.instance.now c.relations-count.ensures.ascending c.requires.deletes c.requires.adds)
