-- What is told of a folder stays told.
use Rattle.std.proofs.Common.{◌≡◌, Option, None, Some, is_some, IsTrue, refl, sym, ap, subst, ◌∙◌}
use Rattle.std.proofs.lemmas.Bool.{true≢false}
use Rattle.dbn_keeper.specs.Files.{Store, Folder}
use Rattle.dbn_keeper.specs.Files.Folder.{Holds}
use Rattle.dbn_keeper.specs.Keeping.{KeeperState, Keeps}
use Rattle.dbn_engine.specs.Serving.{EngineState, AllStandNow, IsAtRest}

pub was_told : (old new : Option Folder) (f : Folder) → is_some new ≡ is_some old → new ≡ Some f → ((e : Folder) × (old ≡ Some e))
was_told None (Some x) f same told = absurd (true≢false same)
was_told None None f same told = cc
was_told (Some e) new f same told = (e, refl)

-- an engine at rest holds a store where one was held before
pub store_now : (old : KeeperState) (now : EngineState) (store : Store) → IsAtRest now → Keeps old now.keeper → old.held ≡ Some (Holds store) → ((here : Store) × (now.keeper.held ≡ Some (Holds here)))
store_now old now store rests keeps told =
    let is = was_told now.keeper.held old.held (Holds store) (sym keeps.told) told in
    let here = rests.holds is.0 is.1 in
    (here.0, is.1 ∙ ap Some here.1)

pub honest_now : (old now : KeeperState) → Keeps old now → IsTrue old.honest → IsTrue now.honest
honest_now old now keeps honest = subst IsTrue (sym keeps.honest) honest

-- each image of it stands for its situation
pub rests_now : (old : KeeperState) (now : EngineState) → IsAtRest now → Keeps old now.keeper → AllStandNow old now.keeper now.run.now
rests_now old now rests keeps store told honest f image =
    let here = store_now old now store rests keeps told in
    rests.stands here.0 here.1 (honest_now old now.keeper keeps honest) f image

-- two calls one after the other
pub keeps_on : (old mid new : KeeperState) → Keeps old mid → Keeps mid new → Keeps old new
keeps_on old mid new first second = record {
  told = second.told ∙ first.told;
  honest = second.honest ∙ first.honest;
  cap = second.cap ∙ first.cap;
  last = second.last ∙ first.last;
}
