use Rattle.std.proofs.Common.{◌∙◌, ◌++◌, ap, length, arith}
use Rattle.dbn_network.proofs.NetworkLaws.{network_is, are_earlier, many_nodes, val_is}
use Rattle.dbn_network.proofs.network.Network.table.Goals as goal

pub table_of_node-requires-clause-range : goal.table_of_node-requires-clause-range
table_of_node-requires-clause-range g c =
    let many = many_nodes g.met.C.Ord.total g.met.C.Cell.exact c.self.inside.live c.self.inside.rels (c.self.inside.rels ++ c.self.inside.places) c.self.inside.states.items c.self.inside.feeds.items c.args.self.now c.self.view_is (λ live. (c.self.invariant live).0) c.requires.live in
    let size = ap length c.as_slice.ensures.value in
    let range = c.requires.range in
    omega arith

pub table_of_node-requires-clause-earlier : goal.table_of_node-requires-clause-earlier
table_of_node-requires-clause-earlier g c = rw (c.as_slice.ensures.value, c.as_slice-2.ensures.value) (are_earlier g.met.C.Ord.total g.met.C.Cell.exact c.self.inside.live c.self.inside.rels (c.self.inside.rels ++ c.self.inside.places) c.self.inside.states.items c.self.inside.feeds.items c.args.self.now c.self.view_is (λ live. (c.self.invariant live).0) c.requires.live)

pub returns : goal.returns
returns g c = (rw (c.as_slice.ensures.value, c.as_slice-2.ensures.value) at c.in_ok-rows.ensures) (c.self.inside.rels ++ c.self.inside.places) (network_is g.met.C.Ord.total g.met.C.Cell.exact c.self.inside.live c.self.inside.rels (c.self.inside.rels ++ c.self.inside.places) c.self.inside.states.items c.self.inside.feeds.items c.args.self.now c.self.view_is (λ live. (c.self.invariant live).0) c.requires.live) ∙ val_is g.met.C.Ord.total g.met.C.Cell.exact c.self.inside.live c.self.inside.rels (c.self.inside.rels ++ c.self.inside.places) c.self.inside.states.items c.self.inside.feeds.items c.args.self.now c.self.view_is (λ live. (c.self.invariant live).0) c.requires.live c.args.node
