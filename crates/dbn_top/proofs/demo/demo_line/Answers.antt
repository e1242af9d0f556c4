use Rattle.std.proofs.Common.{sym, ap, ◌∙◌}
use Rattle.dbn_net.specs.Texts.{reads}
use Rattle.dbn_top.proofs.Demos.{line_of, no_line}
use Rattle.dbn_top.proofs.demo.demo_line.Goals as goal

pub returns-in-Ok : goal.returns-in-Ok
returns-in-Ok c =
    c.in_ok-line-in-Ok.ensures
    ∙ line_of c.args.limits.now c.args.size c.in_ok-input.input.net c.in_ok-input.input.commands c.taken.result.now _ _ _ c.in_ok-input.ensures.net c.in_ok-input.ensures.commands
    (ap reads (sym c.as_slice.ensures) ∙ c.in-Ok.ensures.read) c.in-Ok.ensures.fired (c.taken.ensures ∙ c.in_ok-outcome-in-Ok.ensures.replies) c.in_ok-outcome-in-Ok.ensures.facts

pub returns-in-Err-Bad : goal.returns-in-Err-Bad
returns-in-Err-Bad c =
    let fails = rw c.in-Err-Bad.field-0-is at c.in-Err-Bad.ensures.fault in
    c.new-line.ensures.bytes ∙ no_line c.args.limits.now c.args.size c.in_ok-input.input.net _ _ c.in_ok-input.ensures.net (ap reads (sym c.as_slice.ensures) ∙ fails)
