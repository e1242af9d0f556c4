use Rattle.std.proofs.Common.{rules, tests, nat_eq, ◌∙◌}
use Rattle.std.specs.List.{starts_with}
use Rattle.std.proofs.lemmas.Iterator.Consumers.{count_from_yields_List, YieldsList-at, YieldsList-from_filter}
use Rattle.std.proofs.lemmas.Iterator.Splits.{YieldsList-from_slice_split}
use Rattle.std.proofs.lemmas.List.Sums.{length-filter}
use Rattle.dbn_model.specs.Lines.{parts}
use Rattle.dbn_top.specs.Demos.{many}
use Rattle.dbn_top.proofs.tally.many.Goals as goal

pub returns : goal.returns
unfolding many
returns c =
    count_from_yields_List c.filter.result c.count.result c.count.ensures.ran
    (YieldsList-from_filter _ (λ line. starts_with nat_eq line c.args.front.now)
    (YieldsList-at c.filter.ensures.source
    (YieldsList-from_slice_split _ (λ byte. nat_eq byte 10) c.args.text.now c.split.ensures.rest c.split.ensures.done c.split.ensures.closure (λ x b q k. search (rules, tests))))
    c.filter.ensures.closure (λ x b q k. search (rules, tests)))
    ∙ length-filter (λ line. starts_with nat_eq line c.args.front.now) (parts c.args.text.now)
