use Rattle.std.proofs.Common.{Some, true, false, refl, ap}
use Rattle.dbn_command.specs.declared.reply.Reply.TheVariants as reply
use Rattle.dbn_store.specs.States.{situation, run_state}
use Rattle.dbn_engine.proofs.Commands.{unrecorded, kept_changes, kept_done}
use Rattle.dbn_engine.proofs.keeping.checkpoint.Goals as goal

pub returns-in_err-generation-clause-changes : goal.returns-in_err-generation-clause-changes
returns-in_err-generation-clause-changes g c =
    let s = situation (g.C.Core.rules c.args.core.now) (g.C.Core.state c.args.core.now) in
    let old = g.K.Keeper.state c.args.keeper.now in
    let r = run_state s old in
    kept_changes c.args.net_bytes s old (g.K.Keeper.state c.keep.new.keeper) c.keep.ensures.brings

pub returns-in-Some-clause-changes : goal.returns-in-Some-clause-changes
returns-in-Some-clause-changes g c =
    let s = situation (g.C.Core.rules c.args.core.now) (g.C.Core.state c.args.core.now) in
    let old = g.K.Keeper.state c.args.keeper.now in
    let r = run_state s old in
    kept_changes c.args.net_bytes s old (g.K.Keeper.state c.keep.new.keeper) c.keep.ensures.brings

pub returns-in-None-clause-changes : goal.returns-in-None-clause-changes
returns-in-None-clause-changes g c =
    let s = situation (g.C.Core.rules c.args.core.now) (g.C.Core.state c.args.core.now) in
    let old = g.K.Keeper.state c.args.keeper.now in
    let r = run_state s old in
    kept_changes c.args.net_bytes s old (g.K.Keeper.state c.keep.new.keeper) c.keep.ensures.brings

pub returns-in-Some-clause-steady : goal.returns-in-Some-clause-steady
returns-in-Some-clause-steady g c = unrecorded c.said.result (Some (reply.Checkpoint c.in-Some.generation)) _ c.said.ensures

pub returns-in-None-clause-steady : goal.returns-in-None-clause-steady
returns-in-None-clause-steady g c = unrecorded c.said-in-None.result (Some reply.StoreFull) _ c.said-in-None.ensures

pub returns-in-Some-clause-done : goal.returns-in-Some-clause-done
returns-in-Some-clause-done g c =
    let s = situation (g.C.Core.rules c.args.core.now) (g.C.Core.state c.args.core.now) in
    let old = g.K.Keeper.state c.args.keeper.now in
    let r = run_state s old in
    let made = rw c.in-Some.is at c.in_ok-generation.ensures.made in
    kept_done c.args.net_bytes (g.C.Core.live c.args.core.now) s old (g.K.Keeper.state c.keep.new.keeper) true (reply.Checkpoint c.in-Some.generation) c.said.result made.0 (ap reply.Checkpoint made.1) c.said.ensures c.in_ok-generation.ensures.next c.in_ok-generation.ensures.joined

pub returns-in-None-clause-done : goal.returns-in-None-clause-done
returns-in-None-clause-done g c =
    let s = situation (g.C.Core.rules c.args.core.now) (g.C.Core.state c.args.core.now) in
    let old = g.K.Keeper.state c.args.keeper.now in
    let r = run_state s old in
    kept_done c.args.net_bytes (g.C.Core.live c.args.core.now) s old (g.K.Keeper.state c.keep.new.keeper) false reply.StoreFull c.said-in-None.result (rw c.in-None.is at c.in_ok-generation.ensures.made) refl c.said-in-None.ensures c.in_ok-generation.ensures.next c.in_ok-generation.ensures.joined
