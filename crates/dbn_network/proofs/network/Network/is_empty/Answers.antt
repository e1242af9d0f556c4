use Rattle.std.proofs.Common.{◌∙◌, ◌++◌, sym, ap, length, get_or, arith}
use Rattle.std.proofs.lemmas.Result.{IfOk-weaker}
use Rattle.dbn_nodes.specs.Answering.{IsCounted}
use Rattle.dbn_network.specs.Holding.{IsDirect}
use Rattle.dbn_network.proofs.TableLaws.{counted_direct}
use Rattle.dbn_network.proofs.NetworkLaws.{network_is, are_earlier, many_nodes, val_is, held_at}
use Rattle.dbn_network.proofs.network.Network.is_empty.Goals as goal

pub has_none-requires-clause-range : goal.has_none-requires-clause-range
has_none-requires-clause-range g c =
    let many = many_nodes g.met.C.Ord.total g.met.C.Cell.exact c.self.inside.live c.self.inside.rels (c.self.inside.rels ++ c.self.inside.places) c.self.inside.states.items c.self.inside.feeds.items c.args.self.now c.self.view_is (λ live. (c.self.invariant live).0) c.requires.live in
    let size = ap length c.as_slice.ensures.value in
    let range = c.requires.range in
    omega arith

pub has_none-requires-clause-earlier : goal.has_none-requires-clause-earlier
has_none-requires-clause-earlier g c = rw (c.as_slice.ensures.value, c.as_slice-2.ensures.value) (are_earlier g.met.C.Ord.total g.met.C.Cell.exact c.self.inside.live c.self.inside.rels (c.self.inside.rels ++ c.self.inside.places) c.self.inside.states.items c.self.inside.feeds.items c.args.self.now c.self.view_is (λ live. (c.self.invariant live).0) c.requires.live)

pub returns-clause-value : goal.returns-clause-value
returns-clause-value g c =
    IfOk-weaker c.has_none.result _ _
    (λ empty holds. let both = holds (c.self.inside.rels ++ c.self.inside.places) (network_is g.met.C.Ord.total g.met.C.Cell.exact c.self.inside.live c.self.inside.rels (c.self.inside.rels ++ c.self.inside.places) c.self.inside.states.items c.self.inside.feeds.items c.args.self.now c.self.view_is (λ live. (c.self.invariant live).0) c.requires.live) in let is = val_is g.met.C.Ord.total g.met.C.Cell.exact c.self.inside.live c.self.inside.rels (c.self.inside.rels ++ c.self.inside.places) c.self.inside.states.items c.self.inside.feeds.items c.args.self.now c.self.view_is (λ live. (c.self.invariant live).0) c.requires.live c.args.node in (λ e. sym is ∙ both.0 e, λ e. both.1 (is ∙ e)))
    (rw (c.as_slice.ensures.value, c.as_slice-2.ensures.value) at c.has_none.ensures.value)

pub returns-clause-sure : goal.returns-clause-sure
returns-clause-sure g c =
    λ d direct. let at = held_at g.met.C.Ord.total g.met.C.Cell.exact c.self.inside.live c.self.inside.rels (c.self.inside.rels ++ c.self.inside.places) c.self.inside.states.items c.self.inside.feeds.items c.args.self.now c.self.view_is (λ live. (c.self.invariant live).0) c.requires.live IsCounted c.args.node d c.requires.range direct in (rw c.as_slice.ensures.value at c.has_none.ensures.sure) at.0 (counted_direct (get_or c.self.inside.states.items c.args.node at.0).state.node at.1)

pub returns-clause-told : goal.returns-clause-told
returns-clause-told g c =
    λ d direct. let at = held_at g.met.C.Ord.total g.met.C.Cell.exact c.self.inside.live c.self.inside.rels (c.self.inside.rels ++ c.self.inside.places) c.self.inside.states.items c.self.inside.feeds.items c.args.self.now c.self.view_is (λ live. (c.self.invariant live).0) c.requires.live IsDirect c.args.node d c.requires.range direct in (rw c.as_slice.ensures.value at c.has_none.ensures.sure) at.0 at.1
