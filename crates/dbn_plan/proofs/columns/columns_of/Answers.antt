use Rattle.std.proofs.Common.{rules, ◌≡◌, ◌+◌, ◌++◌, [], ◌∷◌, take, sym, subst, ap, ◌∙◌}
use Rattle.std.proofs.lemmas.List.{take_more}
use Rattle.dbn_value.specs.Members.{In}
use Rattle.dbn_value.proofs.MemberLaws.{in_get_or}
use Rattle.dbn_plan.specs.Columns.{Labelled}
use Rattle.dbn_plan.proofs.ColumnLaws.{labelled_more}
use Rattle.dbn_plan.proofs.columns.columns_of.Goals as goal

pub column_of-requires : goal.column_of-requires
column_of-requires c =
    c.requires c.label-item.result (subst (λ a. In a c.args.wanted.now) (sym c.label-item.is) (in_get_or c.args.wanted.now c.loop-label.label-index c.label-item.result c.loop-label-test.true))

pub loop-label-preserved : goal.loop-label-preserved
loop-label-preserved c =
    let i = c.loop-label.label-index in
    let label = c.label-item.result in
    let items : c.push.new.self.items ≡ c.loop-label.cols.items ++ c.column_of.result ∷ [] = search rules in
    let more : take (i + 1) c.args.wanted.now ≡ take i c.args.wanted.now ++ label ∷ [] = take_more c.args.wanted.now i label c.loop-label-test.true ∙ ap (λ a. take i c.args.wanted.now ++ a ∷ []) (sym c.label-item.is) in
    subst (λ ws. Labelled c.args.labels.now c.push.new.self.items ws) (sym more)
    (subst (λ cs. Labelled c.args.labels.now cs (take i c.args.wanted.now ++ label ∷ [])) (sym items)
    (labelled_more c.args.labels.now c.loop-label.cols.items (take i c.args.wanted.now) c.column_of.result label c.loop-label.invariant c.column_of.ensures))
