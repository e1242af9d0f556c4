use Rattle.std.proofs.Common.{◌∙◌, ◌++◌, sym, ap, subst, length, arith}
use Rattle.dbn_network.specs.Holding.{feeds_of, nodes_of, IsNetwork}
use Rattle.std.proofs.lemmas.List.{length-set}
use Rattle.dbn_network.proofs.WalkLaws.{walks_by, walks_count}
use Rattle.dbn_network.proofs.NetworkLaws.{walks_kept, meant, are_earlier, reads_before, feed_there, applied_network, applied_value, applied_cost}
use Rattle.dbn_network.proofs.network.Network.apply.Goals as goal

pub note_at-requires : goal.note_at-requires
note_at-requires g c = feed_there g.met.C.Ord.total g.met.C.Cell.exact c.self.inside.live c.self.inside.rels (c.self.inside.rels ++ c.self.inside.places) c.self.inside.states.items c.self.inside.feeds.items c.args.self.now c.self.view_is (λ live. (c.self.invariant live).0) c.requires.live c.args.feed c.requires.range

pub run-requires : goal.run-requires
run-requires g c =
    let kept = walks_kept g.met.C.Ord.total g.met.C.Cell.exact c.self.inside.live c.self.inside.rels (c.self.inside.rels ++ c.self.inside.places) c.self.inside.states.items c.self.inside.feeds.items c.args.self.now c.self.view_is (λ live. (c.self.invariant live).0) c.requires.live c.self.inside.walks.items c.self.inside.made.items (λ live. (c.self.invariant live).1) in
    rw c.as_slice.ensures.value (record {
      range = let there = feed_there g.met.C.Ord.total g.met.C.Cell.exact c.self.inside.live c.self.inside.rels (c.self.inside.rels ++ c.self.inside.places) c.self.inside.states.items c.self.inside.feeds.items c.args.self.now c.self.view_is (λ live. (c.self.invariant live).0) c.requires.live c.args.feed c.requires.range in let size = kept.size in omega arith;
      earlier = λ i d within k reads. reads_before (length c.self.inside.feeds.items) c.self.inside.states.items (are_earlier g.met.C.Ord.total g.met.C.Cell.exact c.self.inside.live c.self.inside.rels (c.self.inside.rels ++ c.self.inside.places) c.self.inside.states.items c.self.inside.feeds.items c.args.self.now c.self.view_is (λ live. (c.self.invariant live).0) c.requires.live) i d within k reads;
      walks = walks_by (length c.self.inside.feeds.items) c.self.inside.states.items c.self.inside.walks.items c.self.inside.made.items kept;
    })

pub invariant_of-self-2 : goal.invariant_of-self-2
invariant_of-self-2 g c =
    let kept = walks_kept g.met.C.Ord.total g.met.C.Cell.exact c.self.inside.live c.self.inside.rels (c.self.inside.rels ++ c.self.inside.places) c.self.inside.states.items c.self.inside.feeds.items c.args.self.now c.self.view_is (λ live. (c.self.invariant live).0) c.requires.live c.self.inside.walks.items c.self.inside.made.items (λ live. (c.self.invariant live).1) in
    λ live. (
      subst (IsNetwork g.C.Ord.cmp (c.self.inside.rels ++ c.self.inside.places) c.run.new.states.items) (sym c.in_ok-note_at.ensures.ok.is)
          (applied_network g.met.C.Ord.total g.met.C.Cell.exact c.self.inside.live c.self.inside.rels (c.self.inside.rels ++ c.self.inside.places) c.self.inside.states.items c.self.inside.feeds.items c.args.self.now c.self.view_is (λ live. (c.self.invariant live).0) c.requires.live g.C.Cell.type_of c.args.feed c.args.event.now c.requires.range c.requires.shape c.requires.fits c.in_ok-note_at.ensures.ok.table c.run.new.states.items
          c.in_ok-note_at.ensures.ok.plain c.run.ensures.nodes c.in_ok-run.ensures.ok),
      walks_count (length c.self.inside.walks.items) _ c.run.new.states.items c.self.inside.walks.items c.run.new.made.items
          (kept.size ∙ sym (length-set c.self.inside.feeds.items c.args.feed c.in_ok-note_at.ensures.ok.table) ∙ sym (ap length c.in_ok-note_at.ensures.ok.is)) (rw c.as_slice.ensures.value at c.in_ok-run.ensures.walks),
    )

pub returns-clause-ok : goal.returns-clause-ok
returns-clause-ok g c =
    ap (λ tables. meant _ c.self.inside.rels (c.self.inside.rels ++ c.self.inside.places) (nodes_of c.run.new.states.items) (feeds_of g.C.Ord.cmp tables)) c.in_ok-note_at.ensures.ok.is
    ∙ applied_value g.met.C.Ord.total g.met.C.Cell.exact c.self.inside.live c.self.inside.rels (c.self.inside.rels ++ c.self.inside.places) c.self.inside.states.items c.self.inside.feeds.items c.args.self.now c.self.view_is (λ live. (c.self.invariant live).0) c.requires.live g.C.Cell.type_of c.args.feed c.args.event.now c.requires.range c.requires.shape c.requires.fits c.in_ok-note_at.ensures.ok.table c.run.new.states.items
    c.in_ok-note_at.ensures.ok.plain c.run.ensures.nodes

pub returns-clause-cost : goal.returns-clause-cost
returns-clause-cost g c =
    applied_cost g.met.C.Ord.total g.met.C.Cell.exact c.self.inside.live c.self.inside.rels (c.self.inside.rels ++ c.self.inside.places) c.self.inside.states.items c.self.inside.feeds.items c.args.self.now c.self.view_is (λ live. (c.self.invariant live).0) c.requires.live g.C.Cell.type_of c.args.feed c.args.event.now c.requires.range c.requires.shape c.requires.fits
    c.args.steps.now c.note_at.new.steps c.run.new.steps c.in_ok-note_at.ensures.cost c.in_ok-run.ensures.cost
