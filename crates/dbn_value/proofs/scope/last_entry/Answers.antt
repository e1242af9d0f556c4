-- One variable after the other.
use Rattle.std.proofs.Common.{sym, ◌∙◌, inl, inr, ⊎_elim}
use Rattle.std.specs.Option.{option_copied}
use Rattle.dbn_value.proofs.Scopes.{passed, all_passed}
use Rattle.dbn_value.proofs.scope.last_entry.Goals as goal

pub loop-bound-preserved-then-eq : goal.loop-bound-preserved-then-eq
loop-bound-preserved-then-eq c =
    let before = c.loop-bound.bound-iterator in
    let after = c.next.new.self in
    passed before.a.rest.now after.a.rest.now before.b.rest.now after.b.rest.now c.in-Some.bound.now c.in-Some.value.now c.args.var.now _ (option_copied c.loop-bound.last) _ c.in-Some.ensures.steps.0 c.in-Some.ensures.steps.1 (sym c.if-eq.true ∙ c.eq.ensures) c.loop-bound.invariant

pub loop-bound-preserved : goal.loop-bound-preserved
loop-bound-preserved c =
    let before = c.loop-bound.bound-iterator in
    let after = c.next.new.self in
    passed before.a.rest.now after.a.rest.now before.b.rest.now after.b.rest.now c.in-Some.bound.now c.in-Some.value.now c.args.var.now _ (option_copied c.loop-bound.last) _ c.in-Some.ensures.steps.0 c.in-Some.ensures.steps.1 (sym c.if-eq.false ∙ c.eq.ensures) c.loop-bound.invariant

pub returns : goal.returns
returns c = all_passed c.loop-bound.bound-iterator.a.rest.now c.loop-bound.bound-iterator.b.rest.now c.args.var.now (option_copied c.loop-bound.last) _ (⊎_elim (λ s. inl s.1.0) (λ s. inr s.1.0) c.in-None.ensures.steps) c.loop-bound.invariant
