use Rattle.std.proofs.Common.{nat_le}
use Rattle.std.specs.Cmp.Lexicographic.{slice_cmp}
use Rattle.dbn_marking.specs.Counts.{count_at}
use Rattle.dbn_arc.proofs.CountLaws.{all_stops, all_goes_on}
use Rattle.dbn_arc.proofs.inclusion.all_included.Goals as goal

pub returns-then-not-is_included : goal.returns-then-not-is_included
returns-then-not-is_included g c =
    all_stops (λ w. nat_le w.many (count_at (slice_cmp g.C.Ord.cmp) c.args.marking.now w.place w.row)) c.args.wants.now c.loop-want.want-index c.want-item.result c.is_included.result _ c.loop-want-test.true c.want-item.is c.is_included.ensures c.if-not-is_included.true c.loop-want.invariant

pub loop-want-preserved : goal.loop-want-preserved
loop-want-preserved g c =
    all_goes_on (λ w. nat_le w.many (count_at (slice_cmp g.C.Ord.cmp) c.args.marking.now w.place w.row)) c.args.wants.now c.loop-want.want-index c.want-item.result c.is_included.result _ c.loop-want-test.true c.want-item.is c.is_included.ensures c.if-not-is_included.false c.loop-want.invariant
