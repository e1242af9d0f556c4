use Rattle.std.proofs.Common.{◌++◌, ◌∷◌, [], ap, ◌∙◌, List}
use Rattle.std.proofs.lemmas.List.{take_all}
use Rattle.dbn_value.specs.Order.{value_cmp}
use Rattle.dbn_value.specs.declared.value.Value.{Value}
use Rattle.dbn_instance.specs.Facts.{with_fact}
use Rattle.dbn_formula.specs.declared.formula.Formula.TheVariants.{Atom}
use Rattle.dbn_slow.proofs.ListingLaws.{filled_more, joined_more}
use Rattle.dbn_slow.proofs.JoinLaws.{on_more}
use Rattle.dbn_slow.proofs.listing.add_clause.Goals as goal

pub loop-row-preserved : goal.loop-row-preserved
loop-row-preserved c = (
  c.loop-row.invariant.0,
  filled_more c.args.shown.now c.args.rows.now c.loop-row.row-index c.relations-rel.result c.row-item.result c.loop-row.shown c.insert.new.self c.requires c.loop-row-test.true c.row-item.is
      c.loop-row.invariant.0 c.loop-row.invariant.1
      (c.in_ok-insert.ensures.ok ∙ ap (λ (r : List Value). with_fact value_cmp c.loop-row.shown (record { rel = c.relations-rel.result; row = r })) c.in_ok-row.ensures),
)

pub returns : goal.returns
returns c = λ cs shape joined.
    on_more c.push.result
    (λ more.
    joined_more cs (record { terms = c.args.terms.now; shape = shape; rows = c.args.rows.now }) c.args.atoms.now c.push.new.self c.args.shown.now c.loop-row.shown c.relations-rel.result joined
    c.relations-rel.ensures.count
    (more ∙ ap (λ terms. c.args.atoms.now ++ Atom c.relations-rel.result terms ∷ []) c.in_ok-terms.ensures)
    (c.loop-row.invariant.1 ∙ ap (λ rows. c.args.shown.now ++ rows ∷ []) (take_all c.loop-row.row-index c.args.rows.now c.loop-row-test.false)))
    c.push.ensures.ok
