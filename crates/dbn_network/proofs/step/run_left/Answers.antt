use Rattle.std.proofs.Common.{◌≡◌, ◌∙◌, ◌∷◌, [], refl, sym, eq-eqb, arith}
use Rattle.dbn_network.specs.declared.input.Input.TheVariants as input
use Rattle.dbn_network.proofs.RunLaws.{left_start, left_one, left_events, at_this}
use Rattle.dbn_network.proofs.step.run_left.Goals as goal

pub events_at-requires : goal.events_at-requires
events_at-requires g c = c.requires.within c.in-Earlier.i (sym c.left_input.ensures ∙ c.in-Earlier.is)

pub returns-in-Nothing-clause-ok : goal.returns-in-Nothing-clause-ok
returns-in-Nothing-clause-ok g c =
    left_events g.met.C.Ord.total g.met.C.Cell.exact c.args.held.now c.args.held.now c.args.feed c.args.event.now c.args.all.now input.Nothing _ c.args.out.now c.args.out.now c.args.steps.now c.args.steps.now
    (sym c.left_input.ensures ∙ c.in-Nothing.is) refl (left_start g.met.C.Ord.total g.met.C.Cell.exact c.args.held.now c.args.out.now c.args.steps.now)

pub returns-in-Earlier-clause-ok : goal.returns-in-Earlier-clause-ok
returns-in-Earlier-clause-ok g c =
    left_events g.met.C.Ord.total g.met.C.Cell.exact c.args.held.now c.all_left.new.held c.args.feed c.args.event.now c.args.all.now (input.Earlier c.in-Earlier.i) c.events_at.result.now c.args.out.now c.all_left.new.out c.args.steps.now c.all_left.new.steps
    (sym c.left_input.ensures ∙ c.in-Earlier.is) (sym c.events_at.ensures) c.in_ok-all_left-in-Earlier.ensures.ok

pub returns-in-Feed-clause-ok : goal.returns-in-Feed-clause-ok
returns-in-Feed-clause-ok g c =
    let same : c.in-Feed.own ≡ c.args.feed = omega arith in
    left_events g.met.C.Ord.total g.met.C.Cell.exact c.args.held.now c.one_left.new.held c.args.feed c.args.event.now c.args.all.now (input.Feed c.in-Feed.own) (c.args.event.now ∷ []) c.args.out.now c.one_left.new.out c.args.steps.now c.one_left.new.steps
    (sym c.left_input.ensures ∙ c.in-Feed.is) (at_this c.args.feed c.in-Feed.own c.args.event.now (eq-eqb c.in-Feed.own c.args.feed same))
    (left_one g.met.C.Ord.total g.met.C.Cell.exact c.args.held.now c.one_left.new.held c.args.event.now c.args.out.now c.one_left.new.out c.args.steps.now c.one_left.new.steps
    (record { same = c.one_left.ensures.same; stands = c.in_ok-one_left-in-Feed.ensures.stands; leads = c.in_ok-one_left-in-Feed.ensures.leads; quiet = c.in_ok-one_left-in-Feed.ensures.quiet; cost = c.in_ok-one_left-in-Feed.ensures.cost }))
