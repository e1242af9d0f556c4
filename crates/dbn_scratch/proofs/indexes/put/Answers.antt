use Rattle.std.proofs.Common.{◌≡◌, ◌∷◌, ◌++◌, [], if◌then◌else◌, ap, sym, ◌∙◌, is_ok, cond, Some, rules}
use Rattle.std.specs.Map.{lookup}
use Rattle.std.specs.BTreeMap.{is_at}
use Rattle.dbn_value.specs.Order.{row_cmp}
use Rattle.dbn_scratch.proofs.IndexLaws.{put_more, put_first}
use Rattle.dbn_scratch.proofs.indexes.put.Goals as goal

pub returns-in-Some : goal.returns-in-Some
returns-in-Some c =
    let grown : c.push.new.self.items ≡ c.in-Some.rows.now.items ++ c.args.row ∷ [] =
    c.push.ensures.items ∙ ap (λ b. if b then c.in-Some.rows.now.items ++ c.args.row ∷ [] else c.in-Some.rows.now.items) (ap is_ok c.in_ok-push-in-Some.was) in
    put_more c.args.index.now.entries (c.get_mut.follows.lender c.push.new.self).entries c.args.key c.in-Some.rows.now c.push.new.self c.args.row
    (sym c.in-Some.ensures.value) (c.get_mut.follows.holds c.push.new.self).0 grown

pub returns-in-None : goal.returns-in-None
returns-in-None c =
    let one : c.push-in-None.new.self.items ≡ c.args.row ∷ [] = search rules in
    put_first c.args.index.now.entries c.insert.new.self.entries c.args.key c.push-in-None.new.self c.args.row
    (sym c.in-None.ensures.value)
    (λ q. c.in_ok-insert-in-None.ensures.updates.0 q ∙ ap (λ m. cond (is_at (row_cmp c.args.key) q) (Some c.push-in-None.new.self) (lookup (is_at (row_cmp q)) m.entries)) c.get_mut.follows.holds-at-none)
    one
