use Rattle.std.proofs.Common.{ap, ◌∙◌}
use Rattle.std.specs.List.{flat_map}
use Rattle.dbn_net.specs.declared.written.WrittenPattern.{WrittenPattern}
use Rattle.dbn_net.specs.Naming.{typed_occurrences}
use Rattle.dbn_reader.specs.Bound.{with_all}
use Rattle.dbn_reader.proofs.BoundLaws.{part_step}
use Rattle.dbn_reader.proofs.bound.add_patterns.Goals as goal

pub loop-pattern-preserved : goal.loop-pattern-preserved
loop-pattern-preserved c =
    let shape = c.args.shape.now in
    let old = c.loop-pattern.firsts in
    part_step (λ (h : WrittenPattern). typed_occurrences h.terms shape) c.args.patterns.now c.loop-pattern.pattern-index c.pattern-item.result
    (with_all c.args.firsts.now (flat_map (λ (h : WrittenPattern). typed_occurrences h.terms shape) c.args.patterns.now)) old c.add_terms.new.firsts
    c.loop-pattern-test.true c.pattern-item.is c.loop-pattern.invariant
    (c.in_ok-add_terms.ensures ∙ ap (λ terms. with_all old (typed_occurrences terms shape)) c.as_slice.ensures)
