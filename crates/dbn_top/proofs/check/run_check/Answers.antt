use Rattle.std.proofs.Common.{ℕ, rules, refl, subst, ◌∙◌, arith, Some}
use Rattle.std.specs.Prelude.{codes}
use Rattle.dbn_model.specs.Causes.{Rose}
use Rattle.dbn_store.specs.States.{situation}
use Rattle.dbn_top.specs.Calls.{stream}
use Rattle.dbn_top.specs.Writing.{Writes, due}
use Rattle.dbn_top.specs.declared.verb.Verb.TheVariants as verbs
use Rattle.dbn_top.specs.declared.status.Status.TheVariants as status
use Rattle.dbn_top.proofs.Tops.{said_never}
use Rattle.dbn_top.proofs.Verbs.{check_ends, refused_check, check_kind, net_touches, net_keeps, moved_writes}
use Rattle.dbn_top.proofs.check.run_check.Goals as goal

pub returns-in-Ok-clause-kind : goal.returns-in-Ok-clause-kind
returns-in-Ok-clause-kind g c = check_kind c.say.result c.say.ensures.which

pub returns-in-Ok-clause-ends : goal.returns-in-Ok-clause-ends
returns-in-Ok-clause-ends g c commands same x y given told =
    let accepted = c.in-Ok.ensures.accepted given.net (told.net refl) in
    let writes : Writes c.say.result (due status.Done (codes "accepted\n")) (stream (g.K.Sink.taken c.read_accepted.new.out) (g.K.Sink.taken c.say.new.out) (g.K.Sink.faults c.read_accepted.new.out) (g.K.Sink.faults c.say.new.out)) = search rules in
    check_ends c.say.result c.args.limits.now _ commands (stream (g.K.Sink.taken c.args.out.now) (g.K.Sink.taken c.say.new.out) (g.K.Sink.faults c.args.out.now) (g.K.Sink.faults c.say.new.out)) given
    (situation c.in-Ok._accepted.net c.in-Ok._accepted.at) accepted.1 c.in-Ok.ensures.end (λ e. subst (λ (n : ℕ). Rose n (g.K.Sink.faults c.say.new.out)) c.in-Ok.ensures.quiet.0 (c.say.ensures.write e))
    (moved_writes c.say.result _ _ _ _ _ _ accepted.2 writes (g.K.Sink.faults c.args.out.now)) (said_never _ c.say.ensures.which).0 same

pub returns-in-Ok-clause-touches : goal.returns-in-Ok-clause-touches
returns-in-Ok-clause-touches g c commands same =
    net_touches c.say.result (Some verbs.Check) c.args.limits.now _ commands _ refl (said_never _ c.say.ensures.which).0
    (λ e. subst (λ (n : ℕ). Rose n (g.K.Sink.faults c.say.new.out)) c.in-Ok.ensures.quiet.0 (c.say.ensures.write e)) same

pub returns-in-Ok-clause-keeps : goal.returns-in-Ok-clause-keeps
returns-in-Ok-clause-keeps g c commands same =
    net_keeps c.say.result (Some verbs.Check) c.args.limits.now _ commands _ c.in-Ok.ensures.calm (λ never. c.say.ensures.calm never ∙ c.in-Ok.ensures.quiet.0) c.read_accepted.ensures.told.0
    (c.say.ensures.told ∙ c.read_accepted.ensures.told.1) (omega (arith, c.read_accepted.ensures.later.1, c.say.ensures.later)) c.read_accepted.ensures.few same

pub returns-in-Ok-clause-never_disk : goal.returns-in-Ok-clause-never_disk
returns-in-Ok-clause-never_disk g c = (said_never _ c.say.ensures.which).1

pub returns-in-Err-clause-ends : goal.returns-in-Err-clause-ends
returns-in-Err-clause-ends g c commands same x y given told =
    refused_check c.in-Err.status c.args.limits.now _ commands _ given (λ then. c.in-Err.ensures.refused given.net then (told.net refl)) c.in-Err.ensures.never.0 c.in-Err.ensures.never.1 c.in-Err.ensures.read.0 c.in-Err.ensures.write.0 same
