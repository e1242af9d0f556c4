use Rattle.std.proofs.Common.{◌≡◌, ◌∷◌}
use Rattle.dbn_formula.proofs.NamingLaws.{finds_more}
use Rattle.dbn_formula.proofs.renewed.latest_of.Goals as goal

-- where the map had no such variable, and where it had one, which is dropped
pub loop-old-preserved : goal.loop-old-preserved
loop-old-preserved c =
    let ys = c.loop-old.old-iterator.a.rest.now in
    let ns = c.loop-old.old-iterator.b.rest.now in
    let a : ys ≡ c.in-Some.old.now ∷ c.next.new.self.a.rest.now = c.in-Some.ensures.steps.0 in
    let b : ns ≡ c.in-Some.new.now ∷ c.next.new.self.b.rest.now = c.in-Some.ensures.steps.1 in
    finds_more c.args.vars.now c.args.made.now ys ns c.next.new.self.a.rest.now c.next.new.self.b.rest.now c.loop-old.latest.entries c.insert.new.self.entries c.in-Some.old.now c.in-Some.new.now c.in_ok-key.key c.in_ok-value.value
    c.loop-old.invariant a b c.in_ok-key.ensures c.in_ok-value.ensures c.in_ok-insert.ensures.updates.0

pub loop-old-preserved-in_ok-insert : goal.loop-old-preserved-in_ok-insert
loop-old-preserved-in_ok-insert c =
    let ys = c.loop-old.old-iterator.a.rest.now in
    let ns = c.loop-old.old-iterator.b.rest.now in
    let a : ys ≡ c.in-Some.old.now ∷ c.next.new.self.a.rest.now = c.in-Some.ensures.steps.0 in
    let b : ns ≡ c.in-Some.new.now ∷ c.next.new.self.b.rest.now = c.in-Some.ensures.steps.1 in
    finds_more c.args.vars.now c.args.made.now ys ns c.next.new.self.a.rest.now c.next.new.self.b.rest.now c.loop-old.latest.entries c.insert.new.self.entries c.in-Some.old.now c.in-Some.new.now c.in_ok-key.key c.in_ok-value.value
    c.loop-old.invariant a b c.in_ok-key.ensures c.in_ok-value.ensures c.in_ok-insert.ensures.updates.0
