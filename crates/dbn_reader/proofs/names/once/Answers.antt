use Rattle.std.proofs.Common.{◌≡◌, ℕ, ◌+◌, List, Bor, refl, sym, ap, ◌∙◌, map, drop, subst}
use Rattle.std.proofs.lemmas.Bool.{not-true}
use Rattle.dbn_reader.proofs.SeenNames.{Walked, walked_start, walked_step, walked_twice, named_left}
use Rattle.dbn_reader.proofs.names.once.Goals as goal

abbrev now : Bor (List ℕ) → List ℕ
now x = x.now

pub loop-item-init : goal.loop-item-init
loop-item-init g c = walked_start now c.new-seen.result.keys (map g.T.Named.name_of c.args.items.now) c.new-seen.ensures.empty

pub loop-item-preserved : goal.loop-item-preserved
loop-item-preserved g c =
    walked_step now c.loop-item.seen.keys c.insert.new.self.keys c.name.result (g.T.Named.name_of c.item-item.result) (map g.T.Named.name_of c.args.items.now)
    (map g.T.Named.name_of (drop (c.loop-item.item-index + 1) c.args.items.now)) c.name.ensures
    (not-true _ (sym c.in_ok-insert.ensures.added ∙ c.if-not-branch.false)) c.in_ok-insert.ensures.keys
    (subst (Walked now c.loop-item.seen.keys (map g.T.Named.name_of c.args.items.now))
    (named_left g.T.Named.name_of c.args.items.now c.loop-item.item-index c.item-item.result c.loop-item-test.true c.item-item.is) c.loop-item.invariant)
