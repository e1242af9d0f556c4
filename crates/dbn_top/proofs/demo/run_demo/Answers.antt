use Rattle.std.proofs.Common.{◌≡◌, List, ℕ, rules, refl, subst}
use Rattle.dbn_top.specs.declared.status.Status.TheVariants as status
use Rattle.dbn_top.specs.Calls.{stream}
use Rattle.dbn_top.specs.Demos.{demo_line}
use Rattle.dbn_top.specs.Writing.{Writes, due}
use Rattle.dbn_top.proofs.Demos.{demo_ends}
use Rattle.dbn_top.proofs.Tops.{ends_wanting, not_after}
use Rattle.dbn_top.proofs.demo.run_demo.Goals as goal

pub returns-in-Ok-clause-ends : goal.returns-in-Ok-clause-ends
returns-in-Ok-clause-ends g c = λ net same commands same_too x y given told.
    let out = stream (g.K.Sink.taken c.args.out.now) (g.K.Sink.taken c.say.new.out) (g.K.Sink.faults c.args.out.now) (g.K.Sink.faults c.say.new.out) in
    let is : c.as_bytes.result.now ≡ demo_line c.args.limits.now c.args.size = search rules in
    demo_ends c.say.result c.args.limits.now c.args.size net commands out given
    (subst (λ (text : List ℕ). Writes c.say.result (due status.Done text) out) is c.say.ensures.writes)
    (not_after _ _ c.say.ensures.which (λ e. cc) (λ e. cc) (λ e. cc)) c.say.ensures.write same same_too

pub returns-in-Err-clause-ends : goal.returns-in-Err-clause-ends
returns-in-Err-clause-ends g c = λ net same commands same_too x y given told. ends_wanting _ given same same_too refl
