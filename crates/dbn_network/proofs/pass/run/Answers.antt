use Rattle.std.proofs.Common.{◌∙◌, [], length, arith}
use Rattle.dbn_network.proofs.PassLaws.{same_inside}
use Rattle.dbn_network.proofs.WalkLaws.{walks_within, walks_after}
use Rattle.dbn_network.proofs.pass.run.Goals as goal

pub pass-requires : goal.pass-requires
pass-requires g c = record {
  earlier = c.requires.earlier;
  walk = c.as_slice-walk.ensures ∙ c.index-walks-feed.is ∙ same_inside c.args.walks.now c.args.feed c.index-walks-feed.result [] c.requires.range ∙ c.requires.walks.each c.args.feed c.requires.range;
  many = c.requires.walks.many;
  none = c.requires.walks.quiet;
}

pub clear-requires : goal.clear-requires
clear-requires g c =
    λ i from.
    let is = c.as_slice-walk.ensures ∙ c.index-walks-feed.is ∙ same_inside c.args.walks.now c.args.feed c.index-walks-feed.result [] c.requires.range ∙ c.requires.walks.each c.args.feed c.requires.range in
    let within = walks_within c.args.feed c.args.states.now.items c.as_slice-walk.result.now i is from in
    let many = c.in_ok-pass.ensures.many in
    omega arith

pub returns-clause-walks : goal.returns-clause-walks
returns-clause-walks g c =
    walks_after (length c.args.walks.now) c.args.states.now.items c.pass.new.states.items c.args.walks.now c.args.made.now.items c.clear.new.made.items c.requires.walks c.pass.ensures.nodes
    (c.clear.ensures.many ∙ c.in_ok-pass.ensures.many) (λ i. c.clear.ensures.none i (c.in_ok-pass.ensures.made i))
