use Rattle.std.proofs.Common.{Bor, ap, ◌∙◌, ◌++◌, [], ◌∷◌}
use Rattle.dbn_formula.specs.Rest.{stand_in}
use Rattle.std.specs.List.{flat_map}
use Rattle.dbn_formula.specs.Free.{occurrences}
use Rattle.dbn_formula.specs.declared.formula.Formula.{Formula}
use Rattle.dbn_formula.proofs.Trials.{left_some}
use Rattle.dbn_formula.proofs.safety.conjunction_left.Goals as goal

abbrev now : Bor Formula → Formula
now f = f.now

pub returns : goal.returns
returns c =
    left_some now c.args.turns.taken c.is_empty.result c.in_ok-stand_in.field-0 c.push.new.self c.args.turns.lefts c.append.new.self c.is_empty.ensures c.if-is_empty.false
    (c.in_ok-stand_in.ensures ∙ ap (λ ws. stand_in (flat_map (λ (w : Bor Formula). occurrences (now w)) ws)) c.as_slice.ensures)
    (c.in_ok-push.ensures.ok ∙ ap (λ fs. fs ++ c.in_ok-stand_in.field-0 ∷ []) c.new-parts.ensures)
    c.in_ok-append.ensures
