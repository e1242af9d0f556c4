use Rattle.std.proofs.Common.{rules, ◌≡◌, ◌<◌, ◌∙◌, ◌++◌, sym, ap, subst, length}
use Rattle.dbn_network.specs.Inputs.{left_in, right_in}
use Rattle.dbn_network.specs.States.{IsThere}
use Rattle.dbn_network.specs.Holding.{MarkedBy}
use Rattle.dbn_network.proofs.AddLaws.{marked_both}
use Rattle.dbn_network.proofs.NetworkLaws.{network_is, are_earlier, inputs_there, fits_now, added_network, added_value, added_walks}
use Rattle.dbn_network.proofs.network.Network.add.Goals as goal

pub held_of_node-requires-clause-earlier : goal.held_of_node-requires-clause-earlier
held_of_node-requires-clause-earlier g c = rw (c.as_slice.ensures.value, c.as_slice-2.ensures.value) (are_earlier g.met.C.Ord.total g.met.C.Cell.exact c.self.inside.live c.self.inside.rels (c.self.inside.rels ++ c.self.inside.places) c.self.inside.states.items c.self.inside.feeds.items c.args.self.now c.self.view_is (λ live. (c.self.invariant live).0) c.requires.live)

pub held_of_node-requires-clause-left : goal.held_of_node-requires-clause-left
held_of_node-requires-clause-left g c = rw (c.as_slice.ensures.value, c.as_slice-2.ensures.value) (inputs_there g.met.C.Ord.total g.met.C.Cell.exact c.self.inside.live c.self.inside.rels (c.self.inside.rels ++ c.self.inside.places) c.self.inside.states.items c.self.inside.feeds.items c.args.self.now c.self.view_is (λ live. (c.self.invariant live).0) c.requires.live c.args.node c.requires.fits).0

pub held_of_node-requires-clause-right : goal.held_of_node-requires-clause-right
held_of_node-requires-clause-right g c = rw (c.as_slice.ensures.value, c.as_slice-2.ensures.value) (inputs_there g.met.C.Ord.total g.met.C.Cell.exact c.self.inside.live c.self.inside.rels (c.self.inside.rels ++ c.self.inside.places) c.self.inside.states.items c.self.inside.feeds.items c.args.self.now c.self.view_is (λ live. (c.self.invariant live).0) c.requires.live c.args.node c.requires.fits).1

pub mark_read-requires : goal.mark_read-requires
mark_read-requires g c =
    λ i e. subst (IsThere (length c.self.inside.feeds.items) (length c.self.inside.states.items)) (ap left_in (sym c.in_ok-held.ensures.node) ∙ sym c.left_input-left.ensures ∙ e) (inputs_there g.met.C.Ord.total g.met.C.Cell.exact c.self.inside.live c.self.inside.rels (c.self.inside.rels ++ c.self.inside.places) c.self.inside.states.items c.self.inside.feeds.items c.args.self.now c.self.view_is (λ live. (c.self.invariant live).0) c.requires.live c.args.node c.requires.fits).0

pub mark_read-requires-2 : goal.mark_read-requires-2
mark_read-requires-2 g c =
    λ i e. let below = subst (IsThere (length c.self.inside.feeds.items) (length c.self.inside.states.items)) (ap right_in (sym c.in_ok-held.ensures.node) ∙ sym c.right_input-right.ensures ∙ e) (inputs_there g.met.C.Ord.total g.met.C.Cell.exact c.self.inside.live c.self.inside.rels (c.self.inside.rels ++ c.self.inside.places) c.self.inside.states.items c.self.inside.feeds.items c.args.self.now c.self.view_is (λ live. (c.self.invariant live).0) c.requires.live c.args.node c.requires.fits).1 in
    subst (λ n. i < n) (sym c.mark_read.ensures.size) below

pub invariant_of-self-2 : goal.invariant_of-self-2
invariant_of-self-2 g c =
    let number : c.len-number.result ≡ length c.self.inside.states.items = search rules in
    λ live. rw (c.in_ok-push.ensures.items, c.in_ok-push-2.ensures.items, c.new-2.ensures) (
      added_network g.met.C.Ord.total g.met.C.Cell.exact c.self.inside.live c.self.inside.rels (c.self.inside.rels ++ c.self.inside.places) c.self.inside.states.items c.self.inside.feeds.items c.args.self.now c.self.view_is (λ live. (c.self.invariant live).0) c.requires.live c.args.node c.requires.fits c.mark_read-2.new.states.items c.in_ok-held.held c.in_ok-held.ensures.node
          (marked_both c.self.inside.states.items c.mark_read.new.states.items c.mark_read-2.new.states.items c.in_ok-held.held.state.node
          (subst (MarkedBy c.self.inside.states.items c.mark_read.new.states.items) c.left_input-left.ensures c.mark_read.ensures) (subst (MarkedBy c.mark_read.new.states.items c.mark_read-2.new.states.items) c.right_input-right.ensures c.mark_read-2.ensures))
          ((rw (c.as_slice.ensures.value, c.as_slice-2.ensures.value) at c.in_ok-held.ensures.stands) (c.self.inside.rels ++ c.self.inside.places) (network_is g.met.C.Ord.total g.met.C.Cell.exact c.self.inside.live c.self.inside.rels (c.self.inside.rels ++ c.self.inside.places) c.self.inside.states.items c.self.inside.feeds.items c.args.self.now c.self.view_is (λ live. (c.self.invariant live).0) c.requires.live) (fits_now g.met.C.Ord.total g.met.C.Cell.exact c.self.inside.live c.self.inside.rels (c.self.inside.rels ++ c.self.inside.places) c.self.inside.states.items c.self.inside.feeds.items c.args.self.now c.self.view_is (λ live. (c.self.invariant live).0) c.requires.live c.args.node c.requires.fits)),
      added_walks g.met.C.Ord.total g.met.C.Cell.exact c.self.inside.live c.self.inside.rels (c.self.inside.rels ++ c.self.inside.places) c.self.inside.states.items c.self.inside.feeds.items c.args.self.now c.self.view_is (λ live. (c.self.invariant live).0) c.requires.live c.args.node c.requires.fits c.mark_read-2.new.states.items c.in_ok-held.held c.in_ok-held.ensures.node
          (marked_both c.self.inside.states.items c.mark_read.new.states.items c.mark_read-2.new.states.items c.in_ok-held.held.state.node
          (subst (MarkedBy c.self.inside.states.items c.mark_read.new.states.items) c.left_input-left.ensures c.mark_read.ensures) (subst (MarkedBy c.mark_read.new.states.items c.mark_read-2.new.states.items) c.right_input-right.ensures c.mark_read-2.ensures))
          ((rw (c.as_slice.ensures.value, c.as_slice-2.ensures.value) at c.in_ok-held.ensures.stands) (c.self.inside.rels ++ c.self.inside.places) (network_is g.met.C.Ord.total g.met.C.Cell.exact c.self.inside.live c.self.inside.rels (c.self.inside.rels ++ c.self.inside.places) c.self.inside.states.items c.self.inside.feeds.items c.args.self.now c.self.view_is (λ live. (c.self.invariant live).0) c.requires.live) (fits_now g.met.C.Ord.total g.met.C.Cell.exact c.self.inside.live c.self.inside.rels (c.self.inside.rels ++ c.self.inside.places) c.self.inside.states.items c.self.inside.feeds.items c.args.self.now c.self.view_is (λ live. (c.self.invariant live).0) c.requires.live c.args.node c.requires.fits))
          c.self.inside.walks.items c.lengthen_all.new.walks.items c.self.inside.made.items c.left_input-left.result c.right_input-right.result c.len-number.result (λ live. (c.self.invariant live).1) c.left_input-left.ensures c.right_input-right.ensures number
          c.in_ok-lengthen_all.ensures.size c.in_ok-lengthen_all.ensures.each,
    )

pub returns-clause-ok : goal.returns-clause-ok
returns-clause-ok g c =
    rw c.in_ok-push.ensures.items (added_value g.met.C.Ord.total g.met.C.Cell.exact c.self.inside.live c.self.inside.rels (c.self.inside.rels ++ c.self.inside.places) c.self.inside.states.items c.self.inside.feeds.items c.args.self.now c.self.view_is (λ live. (c.self.invariant live).0) c.requires.live c.args.node c.requires.fits c.mark_read-2.new.states.items c.in_ok-held.held c.in_ok-held.ensures.node
    (marked_both c.self.inside.states.items c.mark_read.new.states.items c.mark_read-2.new.states.items c.in_ok-held.held.state.node
    (subst (MarkedBy c.self.inside.states.items c.mark_read.new.states.items) c.left_input-left.ensures c.mark_read.ensures) (subst (MarkedBy c.mark_read.new.states.items c.mark_read-2.new.states.items) c.right_input-right.ensures c.mark_read-2.ensures))
    ((rw (c.as_slice.ensures.value, c.as_slice-2.ensures.value) at c.in_ok-held.ensures.stands) (c.self.inside.rels ++ c.self.inside.places) (network_is g.met.C.Ord.total g.met.C.Cell.exact c.self.inside.live c.self.inside.rels (c.self.inside.rels ++ c.self.inside.places) c.self.inside.states.items c.self.inside.feeds.items c.args.self.now c.self.view_is (λ live. (c.self.invariant live).0) c.requires.live) (fits_now g.met.C.Ord.total g.met.C.Cell.exact c.self.inside.live c.self.inside.rels (c.self.inside.rels ++ c.self.inside.places) c.self.inside.states.items c.self.inside.feeds.items c.args.self.now c.self.view_is (λ live. (c.self.invariant live).0) c.requires.live c.args.node c.requires.fits)))
