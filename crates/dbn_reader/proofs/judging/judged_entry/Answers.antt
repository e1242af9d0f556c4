use Rattle.dbn_reader.proofs.JudgingLaws.{arity_stops, type_stops, bound_stops, safe_stops, count_stops, all_passed}
use Rattle.dbn_reader.proofs.judging.judged_entry.Goals as goal

pub returns-then-not-branch : goal.returns-then-not-branch
returns-then-not-branch c = arity_stops c.args.net.now c.args.entry.now _ c.in_ok-has_arity.ensures c.if-not-branch.true

pub returns-then-not-branch-2 : goal.returns-then-not-branch-2
returns-then-not-branch-2 c =
    type_stops c.args.net.now c.args.entry.now _ _ c.in_ok-has_arity.ensures c.if-not-branch.false c.in_ok-is_typed.ensures c.if-not-branch-2.true

pub returns-then-not-branch-3 : goal.returns-then-not-branch-3
returns-then-not-branch-3 c =
    bound_stops c.args.net.now c.args.entry.now _ _ _ c.in_ok-has_arity.ensures c.if-not-branch.false c.in_ok-is_typed.ensures c.if-not-branch-2.false
    c.in_ok-is_bound.ensures c.if-not-branch-3.true

pub returns-then-not-branch-4 : goal.returns-then-not-branch-4
returns-then-not-branch-4 c =
    safe_stops c.args.net.now c.args.entry.now _ _ _ _ c.in_ok-has_arity.ensures c.if-not-branch.false c.in_ok-is_typed.ensures c.if-not-branch-2.false
    c.in_ok-is_bound.ensures c.if-not-branch-3.false c.in_ok-is_safe.ensures c.if-not-branch-4.true

pub returns-then-not-is_counted : goal.returns-then-not-is_counted
returns-then-not-is_counted c =
    count_stops c.args.net.now c.args.entry.now _ _ _ _ _ c.in_ok-has_arity.ensures c.if-not-branch.false c.in_ok-is_typed.ensures c.if-not-branch-2.false
    c.in_ok-is_bound.ensures c.if-not-branch-3.false c.in_ok-is_safe.ensures c.if-not-branch-4.false c.is_counted.ensures c.if-not-is_counted.true

pub returns : goal.returns
returns c =
    all_passed c.args.net.now c.args.entry.now _ _ _ _ _ c.in_ok-has_arity.ensures c.if-not-branch.false c.in_ok-is_typed.ensures c.if-not-branch-2.false
    c.in_ok-is_bound.ensures c.if-not-branch-3.false c.in_ok-is_safe.ensures c.if-not-branch-4.false c.is_counted.ensures c.if-not-is_counted.false
