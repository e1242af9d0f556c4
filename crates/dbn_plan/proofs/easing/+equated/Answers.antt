use Rattle.std.proofs.Common.{OnOk, ap, sym, ◌∙◌, subst}
use Rattle.std.specs.List.{flat_map}
use Rattle.dbn_plan.specs.Easing.{Adds, equated}
use Rattle.dbn_plan.proofs.EasingLaws.{equated_test, equated_and, equated_none, adds_none}
use Rattle.dbn_plan.proofs.easing.+equated.Goals as goal

pub add_equated-returns-in-Test : goal.add_equated-returns-in-Test
add_equated-returns-in-Test t c =
    subst (λ eqs. OnOk c.add_sides.result (Adds c.args.equations.now.keys c.add_sides.new.equations.keys eqs)) (sym (ap equated c.in-Test.is ∙ equated_test c.in-Test.cmp c.in-Test.left c.in-Test.right)) c.add_sides.ensures

pub add_equated-returns-in-And : goal.add_equated-returns-in-And
add_equated-returns-in-And t c =
    subst (λ eqs. OnOk c.add_each.result (Adds c.args.equations.now.keys c.add_each.new.equations.keys eqs)) (ap (flat_map equated) c.as_slice.ensures ∙ sym (ap equated c.in-And.is ∙ equated_and c.in-And.parts)) c.add_each.ensures

pub add_equated-returns-in_default : goal.add_equated-returns-in_default
add_equated-returns-in_default t c = adds_none c.args.equations.now.keys (equated c.args.f.now) (equated_none c.args.f.now c.in_default.not-Test c.in_default.not-And)
