use Rattle.std.proofs.Common.{◌≡◌, Some, rules, sym, ◌∙◌}
use Rattle.dbn_store.specs.States.{situation}
use Rattle.dbn_store.specs.Folders.{after_body}
use Rattle.dbn_store.proofs.Replays.{one_on}
use Rattle.dbn_store.proofs.replay.advance.Goals as goal

pub returns-in_ok-fire_body-in-Ok-Body-clause-more : goal.returns-in_ok-fire_body-in-Ok-Body-clause-more
returns-in_ok-fire_body-in-Ok-Body-clause-more g c _ store told =
    let keeper = g.K.Keeper.state c.args.keeper.now in
    let follows = rw c.in-Ok-Body.field-0-is at c.in-Ok-Body.ensures.follows in
    let fires : after_body keeper.form (g.C.Core.rules c.args.core.now) (g.C.Core.state c.args.core.now) c.in-Ok-Body.body ≡ Some (g.C.Core.state c.fire_body.new.core) = search rules in
    one_on keeper (g.K.Keeper.state c.next_body.new.self) store c.in-Ok-Body.place c.in-Ok-Body.body (situation (g.C.Core.rules c.args.core.now) (g.C.Core.state c.args.core.now)) (situation (g.C.Core.rules c.fire_body.new.core) (g.C.Core.state c.fire_body.new.core))
    c.next_body.ensures.header follows.0 (sym c.in-Ok-Body.field-0-is ∙ c.in-Ok-Body.ensures.step store told) c.fire_body.ensures.net fires
