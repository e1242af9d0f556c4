use Rattle.std.proofs.Common.{◌≡◌, ◌-◌, ◌^◌, Some, true, ℕ}
use Rattle.dbn_keeper.specs.Files.{Store}
use Rattle.dbn_keeper.specs.Files.Folder.{Holds}
use Rattle.dbn_keeper.specs.Keeping.{Keeps, SameHeader, SameFiles}
use Rattle.dbn_store.specs.States.{situation}
use Rattle.dbn_store.specs.Opening.{rest_of}
use Rattle.dbn_store.proofs.replay.replay_all.Given as goal

abbrev pub invariant-bodies : goal.invariant-bodies
invariant-bodies g l =
    let old = g.K.Keeper.state l.initial.keeper in
    let now = g.K.Keeper.state l.keeper in
    record {
      rest : (store : Store) → old.held ≡ Some (Holds store) → rest_of old store (situation (g.C.Core.rules l.initial.core) (g.C.Core.state l.initial.core)) ≡ rest_of now store (situation (g.C.Core.rules l.core) (g.C.Core.state l.core));
      net : g.C.Core.rules l.core ≡ g.C.Core.rules l.initial.core;
      files : SameFiles old now;
      header : SameHeader old now;
      keeps : Keeps old now;
      faults : now.faults ≡ old.faults;
      core_live : g.C.Core.live l.core ≡ true;
      keeper_live : now.live ≡ true;
    }

abbrev pub decreases-bodies : goal.decreases-bodies
decreases-bodies g l = 2 ^ 64 - (g.K.Keeper.state l.keeper).place
