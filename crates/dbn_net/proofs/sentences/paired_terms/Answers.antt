use Rattle.std.proofs.Common.{◌≡◌, ◌+◌, [], ◌∷◌, ◌++◌, drop, ap, ◌∙◌}
use Rattle.dbn_value.specs.declared.term.Term.TheVariants as term
use Rattle.dbn_net.specs.Sentences.{partner, paired_var, paired_terms}
use Rattle.dbn_net.proofs.SentenceLaws.{moved, paired_step}
use Rattle.dbn_net.proofs.sentences.paired_terms.Goals as goal

pub loop-column-preserved : goal.loop-column-preserved
loop-column-preserved c =
    let n = c.loop-column.column in
    let fields = c.args.fields.now in
    let others = c.args.to_fields.now in
    let shape = c.args.shape.now in
    let made : c.push.new.self ≡ c.loop-column.terms ++ term.Var (paired_var (partner c.args.fields.now c.args.to_fields.now c.loop-column.column) c.loop-column.column) ∷ [] =
    c.in_ok-push.ensures.ok ∙ ap (λ v. c.loop-column.terms ++ term.Var v ∷ []) (c.in_ok-var.ensures ∙ ap (λ o. paired_var o c.loop-column.column) c.partner.ensures) in
    ap (λ l. l ++ paired_terms fields others (n + 1) (drop (n + 1) shape)) made
    ∙ moved c.loop-column.terms (term.Var (paired_var (partner fields others n) n)) (paired_terms fields others n (drop n shape)) (paired_terms fields others (n + 1) (drop (n + 1) shape)) (paired_terms fields others 0 shape)
    (paired_step fields others shape n c.loop-column-test.true) c.loop-column.invariant
