use Rattle.dbn_reader.proofs.WrittenLaws.{limit_stops, duplicate_stops, written_passes}
use Rattle.dbn_reader.proofs.judging.check_written.Goals as goal

pub returns-then-not-branch : goal.returns-then-not-branch
returns-then-not-branch c = limit_stops c.args.net.now _ c.args.written.now _ c.in_ok-within_limits.ensures c.if-not-branch.true

pub returns-then-not-branch-2 : goal.returns-then-not-branch-2
returns-then-not-branch-2 c =
    duplicate_stops c.args.net.now _ c.args.written.now _ _ c.in_ok-within_limits.ensures c.if-not-branch.false c.in_ok-no_duplicate.ensures c.if-not-branch-2.true

pub returns : goal.returns
returns c =
    written_passes c.args.net.now _ c.args.written.now _ _ c.in_ok-within_limits.ensures c.if-not-branch.false c.in_ok-no_duplicate.ensures c.if-not-branch-2.false
