use Rattle.std.proofs.Common.{ap, ◌∙◌}
use Rattle.dbn_store.specs.States.{situation, run_state}
use Rattle.dbn_engine.specs.Obeying.{terms_of}
use Rattle.dbn_engine.proofs.Commands.{no_work, is_due_at, due_not, due_is}
use Rattle.dbn_engine.proofs.keeping.tend.Goals as goal

pub returns-then-not-is_due-clause-brings : goal.returns-then-not-is_due-clause-brings
returns-then-not-is_due-clause-brings g c =
    no_work (g.K.Keeper.state c.args.keeper.now) _

pub returns-then-not-is_due-clause-next : goal.returns-then-not-is_due-clause-next
returns-then-not-is_due-clause-next g c =
    let s = situation (g.C.Core.rules c.args.core.now) (g.C.Core.state c.args.core.now) in
    let old = g.K.Keeper.state c.args.keeper.now in
    let r = run_state s old in
    due_not (terms_of c.args.terms.now) r c.is_due.result (c.is_due.ensures ∙ ap (λ n. is_due_at c.args.terms.now.every n) c.records.ensures) c.if-not-is_due.true

pub returns-clause-next : goal.returns-clause-next
returns-clause-next g c =
    let s = situation (g.C.Core.rules c.args.core.now) (g.C.Core.state c.args.core.now) in
    let old = g.K.Keeper.state c.args.keeper.now in
    let r = run_state s old in
    c.in_ok-keep.ensures.next ∙ due_is (terms_of c.args.terms.now) r c.is_due.result (c.is_due.ensures ∙ ap (λ n. is_due_at c.args.terms.now.every n) c.records.ensures) c.if-not-is_due.false
