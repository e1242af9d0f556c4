use Rattle.std.proofs.Common.{◌≡◌, List, [], sym, ap, ◌∙◌, drop}
use Rattle.std.specs.List.{flat_map}
use Rattle.std.proofs.lemmas.List.{drop_all}
use Rattle.dbn_net.specs.declared.written.WrittenInput.{WrittenInput}
use Rattle.dbn_net.specs.Naming.{input_occurrences}
use Rattle.dbn_reader.specs.Bound.{with_all}
use Rattle.dbn_reader.proofs.BoundLaws.{all_firsts, part_step}
use Rattle.dbn_reader.proofs.bound.bound_of.Goals as goal

pub loop-input-preserved : goal.loop-input-preserved
loop-input-preserved c =
    let net = c.args.net.now in
    part_step (input_occurrences net) c.args.inputs.now c.loop-input.input-index c.input-item.result
    (with_all [] (flat_map (input_occurrences net) c.args.inputs.now)) c.loop-input.firsts c.add_input.new.firsts
    c.loop-input-test.true c.input-item.is c.loop-input.invariant c.in_ok-add_input.ensures

pub returns : goal.returns
returns c =
    let net = c.args.net.now in
    let inputs = c.args.inputs.now in
    let left : drop c.loop-input.input-index inputs ≡ [] = drop_all c.loop-input.input-index inputs c.loop-input-test.false in
    c.into_vars.ensures
    ∙ ap (λ (rest : List WrittenInput). with_all c.loop-input.firsts (flat_map (input_occurrences net) rest)) (sym left)
    ∙ sym c.loop-input.invariant
    ∙ all_firsts (flat_map (input_occurrences net) inputs)
