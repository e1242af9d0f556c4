use Rattle.std.proofs.Common.{arith, ◌≡◌, ◌+◌, ◌-◌, [], refl, sym, ap, ◌∙◌}
use Rattle.std.specs.Cmp.Lexicographic.{slice_cmp}
use Rattle.dbn_nodes.specs.Tables.{count_at, choose}
use Rattle.dbn_nodes.proofs.KeyedLaws.{counts_named, lowered_counts}
use Rattle.dbn_nodes.proofs.counts.count_again.Goals as goal

pub returns-then-comes-clause-counts : goal.returns-then-comes-clause-counts
returns-then-comes-clause-counts g c =
    counts_named (slice_cmp g.C.Ord.cmp) c.raise.new.self c.args.table.now c.from_vec-key.result [] c.args.row.now c.args.row.now (count_at (slice_cmp g.C.Ord.cmp) c.args.table.now c.from_vec-key.result c.args.row.now + 1) _
    (c.from_vec-key.ensures ∙ c.new.ensures.items) refl
    (ap (λ x. count_at (slice_cmp g.C.Ord.cmp) c.args.table.now x c.args.row.now + 1) (c.from_vec-key.ensures ∙ c.new.ensures.items) ∙ ap (λ b. choose b (count_at (slice_cmp g.C.Ord.cmp) c.args.table.now [] c.args.row.now + 1) (count_at (slice_cmp g.C.Ord.cmp) c.args.table.now [] c.args.row.now - 1)) (sym c.if-comes.true))
    c.in_ok-many.ensures.counts

pub returns-clause-counts : goal.returns-clause-counts
returns-clause-counts g c =
    let many : c.take-many.result ≡ count_at (slice_cmp g.C.Ord.cmp) c.args.table.now [] c.args.row.now = c.take-many.ensures.told ∙ ap (λ x. count_at (slice_cmp g.C.Ord.cmp) c.args.table.now x c.args.row.now) (c.from_vec-key.ensures ∙ c.new.ensures.items) in
    lowered_counts (slice_cmp g.C.Ord.cmp) c.set.new.self c.take-many.new.self c.args.table.now c.from_vec-key.result c.key.inside.cells.items [] c.args.row.now c.in_ok-copy_in.field-0 (c.take-many.result - 1) _
    (c.from_vec-key.ensures ∙ c.new.ensures.items) (c.key.view_is ∙ c.from_vec-key.ensures ∙ c.new.ensures.items) c.in_ok-copy_in.ensures
    (ap (λ n. n - 1) many ∙ ap (λ b. choose b (count_at (slice_cmp g.C.Ord.cmp) c.args.table.now [] c.args.row.now + 1) (count_at (slice_cmp g.C.Ord.cmp) c.args.table.now [] c.args.row.now - 1)) (sym c.if-comes.false))
    c.take-many.ensures.counts c.in_ok-set.ensures.ok

pub returns-then-many-le1-clause-counts : goal.returns-then-many-le1-clause-counts
returns-then-many-le1-clause-counts g c =
    let many : c.take-many.result ≡ count_at (slice_cmp g.C.Ord.cmp) c.args.table.now [] c.args.row.now = c.take-many.ensures.told ∙ ap (λ x. count_at (slice_cmp g.C.Ord.cmp) c.args.table.now x c.args.row.now) (c.from_vec-key.ensures ∙ c.new.ensures.items) in
    let small = c.if-many-le1.true in
    let none : 0 ≡ count_at (slice_cmp g.C.Ord.cmp) c.args.table.now [] c.args.row.now - 1 = omega arith in
    counts_named (slice_cmp g.C.Ord.cmp) c.take-many.new.self c.args.table.now c.from_vec-key.result [] c.args.row.now c.args.row.now 0 _
    (c.from_vec-key.ensures ∙ c.new.ensures.items) refl
    (none ∙ ap (λ b. choose b (count_at (slice_cmp g.C.Ord.cmp) c.args.table.now [] c.args.row.now + 1) (count_at (slice_cmp g.C.Ord.cmp) c.args.table.now [] c.args.row.now - 1)) (sym c.if-comes.false))
    c.take-many.ensures.counts
