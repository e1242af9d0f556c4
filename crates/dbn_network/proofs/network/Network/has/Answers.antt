use Rattle.std.proofs.Common.{◌∙◌, ◌++◌, ap, length, arith}
use Rattle.std.specs.Cmp.Lexicographic.{slice_cmp}
use Rattle.std.proofs.lemmas.Result.{IfOk-weaker}
use Rattle.dbn_nodes.specs.Tables.{has}
use Rattle.dbn_network.specs.Holding.{IsDirect}
use Rattle.dbn_network.proofs.NetworkLaws.{network_is, are_earlier, many_nodes, val_is, held_at}
use Rattle.dbn_network.proofs.network.Network.has.Goals as goal

pub has_row-requires-clause-range : goal.has_row-requires-clause-range
has_row-requires-clause-range g c =
    let many = many_nodes g.met.C.Ord.total g.met.C.Cell.exact c.self.inside.live c.self.inside.rels (c.self.inside.rels ++ c.self.inside.places) c.self.inside.states.items c.self.inside.feeds.items c.args.self.now c.self.view_is (λ live. (c.self.invariant live).0) c.requires.live in
    let size = ap length c.as_slice.ensures.value in
    let range = c.requires.range in
    omega arith

pub has_row-requires-clause-earlier : goal.has_row-requires-clause-earlier
has_row-requires-clause-earlier g c = rw (c.as_slice.ensures.value, c.as_slice-2.ensures.value) (are_earlier g.met.C.Ord.total g.met.C.Cell.exact c.self.inside.live c.self.inside.rels (c.self.inside.rels ++ c.self.inside.places) c.self.inside.states.items c.self.inside.feeds.items c.args.self.now c.self.view_is (λ live. (c.self.invariant live).0) c.requires.live)

pub returns-clause-value : goal.returns-clause-value
returns-clause-value g c =
    IfOk-weaker c.has_row.result _ _ (λ found holds. holds (c.self.inside.rels ++ c.self.inside.places) (network_is g.met.C.Ord.total g.met.C.Cell.exact c.self.inside.live c.self.inside.rels (c.self.inside.rels ++ c.self.inside.places) c.self.inside.states.items c.self.inside.feeds.items c.args.self.now c.self.view_is (λ live. (c.self.invariant live).0) c.requires.live) ∙ ap (λ rows. has (slice_cmp g.C.Ord.cmp) rows c.args.row.now) (val_is g.met.C.Ord.total g.met.C.Cell.exact c.self.inside.live c.self.inside.rels (c.self.inside.rels ++ c.self.inside.places) c.self.inside.states.items c.self.inside.feeds.items c.args.self.now c.self.view_is (λ live. (c.self.invariant live).0) c.requires.live c.args.node))
    (rw (c.as_slice.ensures.value, c.as_slice-2.ensures.value) at c.has_row.ensures.value)

pub returns-clause-sure : goal.returns-clause-sure
returns-clause-sure g c =
    λ d direct. let at = held_at g.met.C.Ord.total g.met.C.Cell.exact c.self.inside.live c.self.inside.rels (c.self.inside.rels ++ c.self.inside.places) c.self.inside.states.items c.self.inside.feeds.items c.args.self.now c.self.view_is (λ live. (c.self.invariant live).0) c.requires.live IsDirect c.args.node d c.requires.range direct in (rw c.as_slice.ensures.value at c.has_row.ensures.sure) at.0 at.1
