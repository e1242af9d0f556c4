use Rattle.std.proofs.Common.{◌≡◌, ◌++◌, take}
use Rattle.std.specs.List.{flat_map, AllByRecursion}
use Rattle.dbn_value.specs.Spelling.{IsValue}
use Rattle.dbn_codec.specs.Bodies.{member_bytes}
use Rattle.dbn_codec.proofs.encoding.put_members.Given as goal

abbrev pub invariant-loop-member : goal.invariant-loop-member
invariant-loop-member l = (l.out.items ≡ l.fn.out.items ++ flat_map member_bytes (take l.member-index l.members)) × AllByRecursion (λ member. AllByRecursion IsValue member.row) (take l.member-index l.members)
