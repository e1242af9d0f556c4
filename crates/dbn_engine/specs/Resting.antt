-- What a folder stands for has a code, so that an engine may keep what it knows of its folder.
use Rattle.std.specs.Prelude.{◌≡◌, ℕ, zero, suc, List, Option, Some, None, refl}
use Rattle.std.specs.Coded.{Coded, code_by}
use Rattle.dbn_net.specs.declared.decl.Decl.{Decl}
use Rattle.dbn_net.specs.declared.snapshot.Snapshot.{Snapshot}
use Rattle.dbn_store.specs.States.{situation}
use Rattle.dbn_store.specs.Folders.{Opened}
use Rattle.dbn_store.specs.Folders.Opened.{IsNotMade, IsNoStore, IsDamaged, Stands}

abbrev pub Parts : Type 0
Parts = ℕ × (ℕ × Option (List Decl × Snapshot))

abbrev pub parts_of : Opened → Parts
parts_of IsNotMade = (0, (0, None))
parts_of IsNoStore = (1, (0, None))
parts_of (IsDamaged place) = (2, (place, None))
parts_of (Stands s) = (2, (0, Some (s.net, s.snapshot)))

abbrev stood : ℕ → Option (List Decl × Snapshot) → Opened
stood place None = IsDamaged place
stood place (Some s) = Stands (situation s.0 s.1)

abbrev pub of_parts : Parts → Opened
of_parts (zero, x) = IsNotMade
of_parts (suc zero, x) = IsNoStore
of_parts (suc (suc n), x) = stood x.0 x.1

again : (o : Opened) → of_parts (parts_of o) ≡ o
again IsNotMade = refl
again IsNoStore = refl
again (IsDamaged place) = refl
again (Stands s) = refl

pub coded_opened : Coded Parts → Coded Opened
coded_opened code = code_by Parts code parts_of of_parts again
