use Rattle.std.proofs.Common.{rules, ◌≡◌}
use Rattle.dbn_value.specs.Order.{value_type, type_eq}
use Rattle.dbn_scratch.proofs.DomainLaws.{kept_more}
use Rattle.dbn_scratch.proofs.domains.of_type.Goals as goal

pub loop-value-preserved : goal.loop-value-preserved
loop-value-preserved c =
    let wanted : c.same_type.result ≡ type_eq (value_type c.value-item.result.now) c.args.column = search rules in
    kept_more c.args.values.now c.loop-value.value-index c.value-item.result c.args.column c.same_type.result c.loop-value.set.keys c.keep.new.set.keys
    c.loop-value.invariant c.loop-value-test.true c.value-item.is wanted c.in_ok-keep.ensures
