use Rattle.std.proofs.Common.{rules, ◌≡◌, ◌++◌, ◌∙◌, ap, sym}
use Rattle.std.specs.BTreeSet.{insert_key}
use Rattle.std.specs.Cmp.Lexicographic.{slice_cmp}
use Rattle.dbn_value.specs.Ascending.{ascending}
use Rattle.dbn_nodes.proofs.AnswerLaws.{set_step, append_nil}
use Rattle.dbn_nodes.proofs.answering.add_joined.Goals as goal

pub loop-other-init : goal.loop-other-init
loop-other-init g c = λ xs e. e ∙ ap (ascending (slice_cmp g.C.Ord.cmp)) (sym (append_nil g.met.C.Ord.total g.met.C.Cell.exact xs))

pub loop-other-preserved : goal.loop-other-preserved
loop-other-preserved g c =
    let is : c.insert.new.self.keys ≡ insert_key (slice_cmp g.C.Ord.cmp) c.loop-other.set.keys c.in_ok-join_rows.field-0 = search rules in
    λ xs e. set_step g.met.C.Ord.total g.met.C.Cell.exact (λ b. c.args.row.now ++ b) c.args.others.now c.loop-other.other-index c.other-item.result c.in_ok-join_rows.field-0 c.loop-other.set.keys c.insert.new.self.keys xs
    c.loop-other-test.true c.other-item.is c.in_ok-join_rows.ensures (c.loop-other.invariant xs e) is
