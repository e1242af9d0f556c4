use Rattle.std.proofs.Common.{◌≡◌, ◌≤◌, ◌<◌, ◌^◌, rules, sym, ap, subst, ◌∙◌}
use Rattle.dbn_keeper.specs.declared.base.Base.{Base}
use Rattle.dbn_store.specs.States.{situation}
use Rattle.dbn_store.specs.Opening.{rest_of}
use Rattle.dbn_store.proofs.Starts.{begun, begun_good, begins, begins_not, same_start, all_rest, no_start, says_err}
use Rattle.dbn_store.proofs.open.open_read.Goals as goal

pub returns-then-next-at-clause-store : goal.returns-then-next-at-clause-store
returns-then-next-at-clause-store g c _ =
    let base = (g.K.Keeper.state c.args.keeper.now).base in
    let less : c.base-base.result.now.next < c.args.at.next = search rules in
    begins_not base c.args.net c.args.at c.requires.text (subst (λ (b : Base). b.next < c.args.at.next) c.base-base.ensures less)

pub returns-then-next-at-clause-says : goal.returns-then-next-at-clause-says
returns-then-next-at-clause-says g c store told =
    let keeper = g.K.Keeper.state c.args.keeper.now in
    let less : c.base-base.result.now.next < c.args.at.next = search rules in
    no_start keeper store (g.met.K.Keeper.settled c.args.keeper.now c.requires.live) told
    (begins_not keeper.base c.args.net c.args.at c.requires.text (subst (λ (b : Base). b.next < c.args.at.next) c.base-base.ensures less))

pub start-requires : goal.start-requires
start-requires g c =
    let numbers = (g.met.K.Keeper.settled c.args.keeper.now c.requires.live).numbers in
    let later : c.args.at.next ≤ c.base-base.result.now.next = search rules in
    begun_good c.args.net c.args.at c.base-base.result.now c.requires.good later
    (subst (λ (b : Base). (b.fired ≤ 2 ^ 62) × (b.next ≤ 2 ^ 62)) (sym c.base-base.ensures) numbers)

pub returns-in-Ok-clause-says : goal.returns-in-Ok-clause-says
returns-in-Ok-clause-says g c store told =
    let keeper = g.K.Keeper.state c.args.keeper.now in
    let later : c.args.at.next ≤ c.base-base.result.now.next = search rules in
    let from = situation c.args.net (begun c.args.at keeper.base) in
    let same = same_start (g.C.Core.rules c.in_ok-core.core) c.args.net (g.C.Core.state c.in_ok-core.core) (begun c.args.at keeper.base) c.in_ok-core.ensures.net (c.in_ok-core.ensures.at ∙ ap (begun c.args.at) c.base-base.ensures) in
    all_rest keeper store from (g.met.K.Keeper.settled c.args.keeper.now c.requires.live) told c.requires.none
    (begins keeper.base c.args.net c.args.at c.requires.text (subst (λ (b : Base). c.args.at.next ≤ b.next) c.base-base.ensures later))
    ∙ ap (rest_of keeper store) (sym same) ∙ c.in-Ok.ensures.stands store told

pub returns-in-Err-clause-says : goal.returns-in-Err-clause-says
returns-in-Err-clause-says g c store told =
    let keeper = g.K.Keeper.state c.args.keeper.now in
    let later : c.args.at.next ≤ c.base-base.result.now.next = search rules in
    let from = situation c.args.net (begun c.args.at keeper.base) in
    let same = same_start (g.C.Core.rules c.in_ok-core.core) c.args.net (g.C.Core.state c.in_ok-core.core) (begun c.args.at keeper.base) c.in_ok-core.ensures.net (c.in_ok-core.ensures.at ∙ ap (begun c.args.at) c.base-base.ensures) in
    let whole = all_rest keeper store from (g.met.K.Keeper.settled c.args.keeper.now c.requires.live) told c.requires.none
    (begins keeper.base c.args.net c.args.at c.requires.text (subst (λ (b : Base). c.args.at.next ≤ b.next) c.base-base.ensures later))
    ∙ ap (rest_of keeper store) (sym same) in
    says_err {X = g.row.C.Denot} (λ core. situation (g.C.Core.rules core) (g.C.Core.state core)) c.in-Err.why _ c.in-Err.ensures.store (λ p e. whole ∙ c.in-Err.ensures.damaged p e store told)
