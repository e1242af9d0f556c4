use Rattle.std.proofs.Common.{Some, cond, ap, ◌∙◌}
use Rattle.std.specs.Cmp.Lexicographic.{slice_cmp}
use Rattle.std.specs.Map.{lookup}
use Rattle.std.specs.BTreeMap.{is_at}
use Rattle.dbn_nodes.proofs.keyed.first_row.Goals as goal

pub returns-clause-ok : goal.returns-clause-ok
returns-clause-ok g c = (
  c.one.result,
  λ r. c.one.ensures r ∙ ap (λ x. cond (is_at (slice_cmp g.C.Ord.cmp x) r) 1 0) c.in_ok-first.ensures,
  λ k. c.in_ok-insert.ensures.updates.0 k ∙ ap (λ x. cond (is_at (slice_cmp g.C.Ord.cmp x) k) (Some c.one.result) (lookup (is_at (slice_cmp g.C.Ord.cmp k)) c.args.shelves.now.entries)) c.in_ok-own.ensures,
)
