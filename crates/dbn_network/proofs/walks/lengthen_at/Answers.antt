use Rattle.std.proofs.Common.{◌∙◌, [], ap}
use Rattle.std.specs.Prelude.{slice_set}
use Rattle.dbn_network.specs.Walks.{longer}
use Rattle.dbn_network.proofs.PassLaws.{same_inside}
use Rattle.dbn_network.proofs.walks.lengthen_at.Goals as goal

pub returns : goal.returns
returns c =
    ap (slice_set c.args.walks.now.items c.args.feed) (c.in_ok-lengthen.ensures ∙ ap (λ w. longer c.args.feed w c.args.left.now c.args.right.now c.args.number) (c.index_mut.ensures.value ∙ same_inside c.args.walks.now.items c.args.feed c.index_mut.result.now [] c.requires))
