use Rattle.std.proofs.Common.{rules, ◌≡◌, ◌||◌, refl}
use Rattle.std.specs.List.{list_any}
use Rattle.dbn_value.specs.Order.{value_type, type_eq}
use Rattle.dbn_value.specs.declared.value.ColType.TheVariants as col
use Rattle.dbn_formula.specs.Answers.{values_in}
use Rattle.dbn_scratch.proofs.LoopLaws.{prepared_is}
use Rattle.dbn_scratch.proofs.answering.prepared.Goals as goal

pub returns : goal.returns
returns c =
    let ints : c.occurs-ints.result ≡ (list_any (λ v. type_eq (value_type v) col.Int) (values_in c.args.instance.now) || list_any (λ v. type_eq (value_type v) col.Int) c.in_ok-written.written) = search rules in
    let texts : c.occurs-texts.result ≡ (list_any (λ v. type_eq (value_type v) col.Text) (values_in c.args.instance.now) || list_any (λ v. type_eq (value_type v) col.Text) c.in_ok-written.written) = search rules in
    let ids : c.occurs-ids.result ≡ (list_any (λ v. type_eq (value_type v) col.Id) (values_in c.args.instance.now) || list_any (λ v. type_eq (value_type v) col.Id) c.in_ok-written.written) = search rules in
    (prepared_is _ c.in_ok-written.written c.requires c.in_ok-written.ensures ints texts ids, refl, refl)
