use Rattle.std.proofs.Common.{◌∙◌}
use Rattle.dbn_store.specs.States.{situation}
use Rattle.dbn_top.proofs.Keepers.{joined_from, runs_from, no_store_of, damage_of, is_a_store}
use Rattle.dbn_top.proofs.opening.open_over.Goals as goal

pub returns-in-Ok-clause-joined : goal.returns-in-Ok-clause-joined
returns-in-Ok-clause-joined g c =
    joined_from (g.C.Core.live c.in-Ok.core) (situation (g.C.Core.rules c.in-Ok.core) (g.C.Core.state c.in-Ok.core)) (g.K.Keeper.state c.args.keeper.now) (g.K.Keeper.state c.open_store.new.keeper)
    c.in-Ok.ensures.core c.in-Ok.ensures.end c.open_store.ensures.keeps c.requires.last c.open_store.ensures.files c.in-Ok.ensures.says

pub returns-in-Ok-clause-begins : goal.returns-in-Ok-clause-begins
returns-in-Ok-clause-begins g c f cap told capped =
    let now = situation (g.C.Core.rules c.in-Ok.core) (g.C.Core.state c.in-Ok.core) in
    let joined = joined_from (g.C.Core.live c.in-Ok.core) now (g.K.Keeper.state c.args.keeper.now) (g.K.Keeper.state c.open_store.new.keeper)
    c.in-Ok.ensures.core c.in-Ok.ensures.end c.open_store.ensures.keeps c.requires.last c.open_store.ensures.files c.in-Ok.ensures.says in
    runs_from (g.C.Core.live c.in-Ok.core) (g.K.Keeper.state c.open_store.new.keeper) f now cap (g.met.K.Keeper.settled c.open_store.new.keeper c.in-Ok.ensures.end.1) joined
    (c.open_store.ensures.files.held ∙ told) (c.open_store.ensures.keeps.cap ∙ capped)

pub returns-in-Err-NotAStore-clause-why : goal.returns-in-Err-NotAStore-clause-why
returns-in-Err-NotAStore-clause-why g c f cap told =
    no_store_of cap (g.K.Keeper.state c.args.keeper.now) f (g.met.K.Keeper.settled c.args.keeper.now c.requires.live) told (rw c.in-Err-NotAStore.field-0-is at c.in-Err-NotAStore.ensures.says)

pub returns-in-Err-Damaged-clause-why : goal.returns-in-Err-Damaged-clause-why
returns-in-Err-Damaged-clause-why g c f cap told =
    damage_of cap c.in-Err-Damaged.place (g.K.Keeper.state c.args.keeper.now) f (g.met.K.Keeper.settled c.args.keeper.now c.requires.live) told (rw c.in-Err-Damaged.field-0-is at c.in-Err-Damaged.ensures.says)

pub returns-in-Ok-clause-store : goal.returns-in-Ok-clause-store
returns-in-Ok-clause-store g c f told = is_a_store (g.K.Keeper.state c.args.keeper.now) f (g.met.K.Keeper.settled c.args.keeper.now c.requires.live) told

pub returns-in-Err-NotAStore-clause-store : goal.returns-in-Err-NotAStore-clause-store
returns-in-Err-NotAStore-clause-store g c f told = is_a_store (g.K.Keeper.state c.args.keeper.now) f (g.met.K.Keeper.settled c.args.keeper.now c.requires.live) told

pub returns-in-Err-Damaged-clause-store : goal.returns-in-Err-Damaged-clause-store
returns-in-Err-Damaged-clause-store g c f told = is_a_store (g.K.Keeper.state c.args.keeper.now) f (g.met.K.Keeper.settled c.args.keeper.now c.requires.live) told

pub returns-in-Err-Failed-clause-store : goal.returns-in-Err-Failed-clause-store
returns-in-Err-Failed-clause-store g c f told = is_a_store (g.K.Keeper.state c.args.keeper.now) f (g.met.K.Keeper.settled c.args.keeper.now c.requires.live) told

pub returns-in-Err-Memory-clause-store : goal.returns-in-Err-Memory-clause-store
returns-in-Err-Memory-clause-store g c f told = is_a_store (g.K.Keeper.state c.args.keeper.now) f (g.met.K.Keeper.settled c.args.keeper.now c.requires.live) told
