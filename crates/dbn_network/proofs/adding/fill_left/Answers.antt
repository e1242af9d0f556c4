use Rattle.std.proofs.Common.{◌∙◌, true, map, refl, ap, subst, arith}
use Rattle.dbn_nodes.specs.Changes.{signed}
use Rattle.dbn_nodes.specs.Stands.{FollowsLeft}
use Rattle.dbn_network.specs.Passes.{FollowsLefts}
use Rattle.dbn_network.proofs.RunLaws.{follows_left_none, take_whole}
use Rattle.dbn_network.proofs.AddLaws.{fill_left_step}
use Rattle.dbn_network.proofs.adding.fill_left.Goals as goal

pub loop-row-init : goal.loop-row-init
loop-row-init g c = (refl, follows_left_none g.met.C.Ord.total g.met.C.Cell.exact c.args.state.now.node c.args.state.now.kept)

pub loop-row-preserved : goal.loop-row-preserved
loop-row-preserved g c =
    let so = c.loop-row.invariant in (
      c.follow_left.ensures.node ∙ so.0,
      fill_left_step g.met.C.Ord.total g.met.C.Cell.exact c.args.state.now.node c.args.state.now.kept c.loop-row.state.kept c.follow_left.new.self.kept c.args.rows.now c.loop-row.row-index c.row-item.result c.new-event.result
          c.loop-row-test.true c.row-item.is (c.new-event.ensures ∙ ap (signed true) c.in_ok-copy_in.ensures) so.1
          (subst (λ n. FollowsLeft g.C.Ord.cmp n c.loop-row.state.kept c.follow_left.new.self.kept c.new-event.result) so.0 c.in_ok-follow_left.ensures.stands),
    )

pub returns-clause-stands : goal.returns-clause-stands
returns-clause-stands g c =
    subst (λ rows. FollowsLefts g.C.Ord.cmp c.args.state.now.node c.args.state.now.kept c.loop-row.state.kept (map (signed true) rows))
    (take_whole c.args.rows.now c.loop-row.row-index (let past = c.loop-row-test.false in omega arith)) c.loop-row.invariant.1
