use Rattle.std.proofs.Common.{sym, ap, subst, ◌∙◌}
use Rattle.dbn_net.specs.Texts.{reads}
use Rattle.dbn_top.specs.Calls.{stream}
use Rattle.dbn_top.specs.Writing.{Declared, Writes}
use Rattle.dbn_top.proofs.Nets.{read_told, faulty_due}
use Rattle.dbn_top.proofs.accepting.read_accepted.Goals as goal

pub returns-in-Err-Bad-clause-refused : goal.returns-in-Err-Bad-clause-refused
returns-in-Err-Bad-clause-refused g c text then told =
    let same = read_told _ _ text c.in-Ok.text told c.in-Ok.ensures.all c.in-Ok.ensures.end in
    let fails = rw c.in-Err-Bad.field-0-is at c.in-Err-Bad.ensures.fault in
    subst (λ (d : Declared). Writes c.refuse_net.result d (stream (g.K.Sink.taken c.args.out.now) (g.K.Sink.taken c.refuse_net.new.out) (g.K.Sink.faults c.args.out.now) (g.K.Sink.faults c.refuse_net.new.out)))
    (sym (faulty_due c.args.limits.now text c.in-Ok.text c.in-Err-Bad.line c.in-Err-Bad.kind then same c.in-Ok.ensures.most (ap reads (sym c.as_slice.ensures) ∙ fails))) c.refuse_net.ensures.writes
