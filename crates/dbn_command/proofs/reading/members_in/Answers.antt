use Rattle.std.proofs.Common.{◌≡◌, ◌∷◌, ◌∙◌, sym, ap, length, arith}
use Rattle.std.specs.Vec.Iter.{into_iter_items}
use Rattle.std.proofs.lemmas.Result.{err_from_is_err_and}
use Rattle.dbn_net.specs.Tables.{transition_names}
use Rattle.dbn_command.specs.Lines.{member_in}
use Rattle.dbn_command.proofs.Loops.{nothing_left, taken_more, taken_stops, taken_all}
use Rattle.dbn_command.proofs.reading.members_in.Goals as goal

pub returns-in_err-member_in : goal.returns-in_err-member_in
returns-in_err-member_in c =
    let p = err_from_is_err_and c.from_residual.result c.from_residual.ensures.1 in
    let at = c.loop-call in
    rw (p.1, p.2)
    (taken_stops (member_in (transition_names c.args.net.now)) _ at.members (into_iter_items at.call-iterator) c.in-Some.call (into_iter_items c.next.new.self) c.in-Some.ensures.steps.0 c.in_err-member_in.field-0.0 c.in_err-member_in.ensures at.invariant.0)

pub loop-call-preserved : goal.loop-call-preserved
loop-call-preserved c =
    let at = c.loop-call in
    let steps : into_iter_items at.call-iterator ≡ c.in-Some.call ∷ into_iter_items c.next.new.self = c.in-Some.ensures.steps.0 in (
      rw c.in_ok-push.ensures.ok
          (taken_more (member_in (transition_names c.args.net.now)) _ at.members (into_iter_items at.call-iterator) c.in-Some.call (into_iter_items c.next.new.self) steps c.in_ok-member_in.field-0 c.in_ok-member_in.ensures at.invariant.0),
      let was = at.invariant.1 in
          let gone = c.in-Some.ensures.steps.1 in
          let short = ap length steps in
          omega arith,
    )

pub returns : goal.returns
returns c =
    let at = c.loop-call in
    taken_all (member_in (transition_names c.args.net.now)) _ at.members (into_iter_items at.call-iterator) (nothing_left _ (sym at.invariant.1 ∙ c.in-None.ensures.steps.0)) at.invariant.0
