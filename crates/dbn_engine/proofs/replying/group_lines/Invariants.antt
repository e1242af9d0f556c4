use Rattle.std.proofs.Common.{◌≡◌, ◌+◌, ◌^◌, ◌≤◌, ◌++◌, length}
use Rattle.dbn_engine.specs.Steps.{group_lines}
use Rattle.dbn_engine.proofs.replying.group_lines.Given as goal

abbrev pub invariant-loop-member : goal.invariant-loop-member
invariant-loop-member l = record {
  lines : l.lines ++ group_lines l.count l.member-iterator.a.rest.now l.member-iterator.b.rest.now ≡ group_lines l.fn.before l.fn.members l.fn.all;
  few : l.count + length l.member-iterator.a.rest.now ≤ 2 ^ 63;
}
