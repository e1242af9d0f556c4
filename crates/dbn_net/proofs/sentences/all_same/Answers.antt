use Rattle.std.proofs.Common.{◌≡◌, ◌+◌, [], ◌∷◌, ◌++◌, map, drop, ap, ◌∙◌}
use Rattle.dbn_net.specs.Sentences.{same_at, columns_from}
use Rattle.dbn_net.proofs.SentenceLaws.{moved, same_step}
use Rattle.dbn_net.proofs.sentences.all_same.Goals as goal

pub loop-column-preserved : goal.loop-column-preserved
loop-column-preserved c =
    let n = c.loop-column.column in
    let shape = c.args.shape.now in
    let made : c.push.new.self ≡ c.loop-column.parts ++ same_at c.loop-column.column ∷ [] = c.in_ok-push.ensures.ok ∙ ap (λ f. c.loop-column.parts ++ f ∷ []) c.in_ok-same_at.ensures in
    ap (λ l. l ++ map same_at (columns_from (n + 1) (drop (n + 1) shape))) made
    ∙ moved c.loop-column.parts (same_at n) (map same_at (columns_from n (drop n shape))) (map same_at (columns_from (n + 1) (drop (n + 1) shape))) (map same_at (columns_from 0 shape))
    (same_step shape n c.loop-column-test.true) c.loop-column.invariant
