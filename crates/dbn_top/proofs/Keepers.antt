-- A keeper over two disks: what it says of them, before its work and behind it.
use Rattle.std.proofs.Common.{◌≡◌, ◌≢◌, ◌⊎◌, ℕ, ◌^◌, ◌≤◌, ◌&&◌, Bool, true, List, [], ◌∷◌, length, get_or, Option, None, Some, is_some, IsTrue, refl, sym, ap, subst, ◌∙◌}
use Rattle.dbn_model.specs.Causes.{Rose}
use Rattle.dbn_disk.specs.Disk.{DiskState}
use Rattle.dbn_keeper.specs.Files.{Store, Folder, folder, place_behind}
use Rattle.dbn_keeper.specs.Files.Folder.{NotMade, NotAStore, Holds}
use Rattle.dbn_keeper.specs.Keeping.{KeeperState, Keeps, SameFiles, IsSettled, NoneFalls, RoseIn}
use Rattle.dbn_store.specs.States.{Situation, RunState, run_state, run_over}
use Rattle.dbn_store.specs.Folders.{Opened, opened, situation_in, meaning}
use Rattle.dbn_store.specs.Folders.Opened.{IsNotMade, IsNoStore, IsDamaged, Stands}
use Rattle.dbn_engine.specs.Serving.{Joined}
use Rattle.dbn_top.specs.declared.status.Status.{Status}
use Rattle.dbn_top.specs.declared.status.Status.TheVariants as status
use Rattle.dbn_top.specs.Calls.{device}
use Rattle.dbn_top.specs.Crashes.{Stays, is_store}
use Rattle.dbn_top.specs.Endings.{KeepsDisks}
use Rattle.dbn_keeper.specs.declared.find.FindFault.{FindFault}
use Rattle.dbn_keeper.specs.declared.find.FindFault.TheVariants as found
use Rattle.dbn_top.specs.Keepers.{IsOver, ShowsAll, ShowsOnly, IsWhy, fault_of_finding}
use Rattle.dbn_top.specs.Starts.{Found, found_in, found_over}
use Rattle.dbn_top.proofs.Pairs.{one_rose}
use Rattle.dbn_top.specs.Starts.Found.{NoFile, NoStore, Damage, Runs}

contents : (o p : Option (List ℕ)) → (is_some o && is_some p) ≡ true → (x : List ℕ) × (y : List ℕ) × (o ≡ Some x) × (p ≡ Some y)
contents (Some x) (Some y) e = (x, y, refl, refl)
contents (Some x) None e = cc
contents None p e = cc

two_same : (o p o' p' : Option (List ℕ)) → (o ∷ p ∷ []) ≡ (o' ∷ p' ∷ []) → (o ≡ o') × (p ≡ p')
two_same o p o' p' e = (cc, cc)

-- both disks tell what they hold where the keeper does
pub both_known : (keeper : KeeperState) (a b : DiskState) → IsOver keeper a b → is_some keeper.held ≡ true → (x : List ℕ) × (y : List ℕ) × (a.content ≡ Some x) × (b.content ≡ Some y)
both_known keeper a b over told = contents a.content b.content (sym over.told ∙ told)

module _ (old new : KeeperState) (a b a' b' : DiskState) (over : IsOver old a b) (over' : IsOver new a' b') (keeps : Keeps old new) where
  -- where the keeper's files stay, so does what the disks stand for
  pub stays_from : ShowsOnly old a b → ShowsAll new a' b' → SameFiles old new → Stays (device a a') (device b b')
  stays_from only all files = record {
    first = (two_same a'.content b'.content a.content b.content (sym over'.bytes ∙ files.bytes ∙ over.bytes)).0;
    second = (two_same a'.content b'.content a.content b.content (sym over'.bytes ∙ files.bytes ∙ over.bytes)).1;
    image = λ honest u v a_image b_image.
        only honest (folder u v) (files.image (subst IsTrue (sym over.honest) honest) (folder u v) (all u v a_image b_image));
  }

  -- the counts of both, and what they tell
  pub keeps_from : (ended : Status) → NoneFalls old.faults new.faults → (ended ≢ status.DiskFault → new.faults ≡ old.faults) → KeepsDisks ended (device a a') (device b b')
  keeps_from ended later calm = record {
    calm = λ never.
        let e : (a'.faults ∷ b'.faults ∷ []) ≡ (a.faults ∷ b.faults ∷ []) = sym over'.faults ∙ calm never ∙ over.faults in
        (ap (λ (l : List ℕ). get_or l 0 0) e, ap (λ (l : List ℕ). get_or l 1 0) e);
    later = (
      subst (λ (l : List ℕ). get_or l 0 0 ≤ a'.faults) over.faults (subst (λ (l : List ℕ). get_or old.faults 0 0 ≤ get_or l 0 0) over'.faults (later 0)),
      subst (λ (l : List ℕ). get_or l 1 0 ≤ b'.faults) over.faults (subst (λ (l : List ℕ). get_or old.faults 1 0 ≤ get_or l 1 0) over'.faults (later 1)),
    );
    told = sym over'.told ∙ keeps.told ∙ over.told;
    honest = sym over'.honest ∙ keeps.honest ∙ over.honest;
  }

same_store : (a b : Store) → Holds a ≡ Holds b → a ≡ b
same_store a b e = cc

-- a live keeper that tells what it holds holds a store
pub store_held : (keeper : KeeperState) (f : Folder) → IsSettled keeper → keeper.held ≡ Some f → ((store : Store) × (f ≡ Holds store))
store_held keeper f settled told =
    let is = settled.held f told in
    (record { form = keeper.form; base = keeper.base; generation = keeper.generation; bodies = is.0; torn = is.1 }, is.2)

pub is_a_store : (keeper : KeeperState) (f : Folder) → IsSettled keeper → keeper.held ≡ Some f → is_store f ≡ true
is_a_store keeper f settled told = ap is_store (store_held keeper f settled told).1

-- the run that a keeper at its end begins
pub run_is : (keeper : KeeperState) (store : Store) (now : Situation) (cap : ℕ) → IsSettled keeper → keeper.held ≡ Some (Holds store) → IsTrue keeper.at_end → keeper.cap ≡ Some cap → run_over cap now store ≡ run_state now keeper
run_is keeper store now cap settled told end capped =
    let is = settled.held (Holds store) told in
    let same : store ≡ record { form = keeper.form; base = keeper.base; generation = keeper.generation; bodies = is.0; torn = is.1 } = same_store _ _ is.2 in
    let count : length store.bodies ≡ keeper.records = (settled.ended store told end).1 in
    let place : place_behind (length store.bodies) store ≡ keeper.place = ap (λ (n : ℕ). place_behind n store) count ∙ sym (settled.reached store told) in
    let form = ap (λ (s : Store). s.form) same in
    let generation = ap (λ (s : Store). s.generation) same in
    ap (λ (n : ℕ). record { now = now; form = store.form; place = n; generation = store.generation; records = length store.bodies; cap = Some cap }) place
    ∙ ap (λ (n : ℕ). record { now = now; form = store.form; place = keeper.place; generation = store.generation; records = n; cap = Some cap }) count
    ∙ ap (λ f. record { now = now; form = f; place = keeper.place; generation = store.generation; records = keeper.records; cap = Some cap }) form
    ∙ ap (λ (n : ℕ). record { now = now; form = keeper.form; place = keeper.place; generation = n; records = keeper.records; cap = Some cap }) generation
    ∙ ap (λ (o : Option ℕ). record { now = now; form = keeper.form; place = keeper.place; generation = keeper.generation; records = keeper.records; cap = o }) (sym capped)

-- what the folder of a keeper begins, which stands for this situation
pub runs_from : (core_live : Bool) (keeper : KeeperState) (f : Folder) (now : Situation) (cap : ℕ) → IsSettled keeper → Joined core_live now keeper → keeper.held ≡ Some f → keeper.cap ≡ Some cap → found_in cap f ≡ Runs (run_state now keeper)
unfolding found_in
runs_from core_live keeper f now cap settled joined told capped =
    let held = store_held keeper f settled told in
    let here : keeper.held ≡ Some (Holds held.0) = told ∙ ap Some held.1 in
    ap (found_in cap) held.1 ∙ ap (found_over cap held.0) (joined.same held.0 here) ∙ ap Runs (run_is keeper held.0 now cap settled here joined.end capped)

-- a store without an accepted net, or with damage
pub no_store_from : (cap : ℕ) (store : Store) → opened (Holds store) ≡ IsNoStore → found_in cap (Holds store) ≡ NoStore
unfolding found_in
no_store_from cap store is = ap (found_over cap store) is

pub damage_from : (cap place : ℕ) (store : Store) → opened (Holds store) ≡ IsDamaged place → found_in cap (Holds store) ≡ Damage place
unfolding found_in
damage_from cap place store is = ap (found_over cap store) is

pub no_file_from : (cap : ℕ) (f : Folder) → f ≡ NotMade → found_in cap f ≡ NoFile
unfolding found_in
no_file_from cap f is = ap (found_in cap) is

pub nothing_from : (cap : ℕ) (f : Folder) → f ≡ NotAStore → found_in cap f ≡ NoStore
unfolding found_in
nothing_from cap f is = ap (found_in cap) is

pub store_in : (f : Folder) → is_store f ≡ true → ((store : Store) × (f ≡ Holds store))
store_in NotMade e = cc
store_in NotAStore e = cc
store_in (Holds store) e = (store, refl)

abbrev now_in : Situation → Found → Situation
now_in s NoFile = s
now_in s NoStore = s
now_in s (Damage place) = s
now_in s (Runs r) = r.now

found_runs : (cap : ℕ) (store : Store) (o : Opened) (r : RunState) → found_over cap store o ≡ Runs r → situation_in o ≡ Some r.now
found_runs cap store IsNotMade r e = cc
found_runs cap store IsNoStore r e = cc
found_runs cap store (IsDamaged place) r e = cc
found_runs cap store (Stands s) r e = ap Some (ap (now_in s) e)

pub meaning_of : (cap : ℕ) (f : Folder) (r : RunState) → found_in cap f ≡ Runs r → meaning f ≡ Some r.now
unfolding found_in
meaning_of cap NotMade r e = cc
meaning_of cap NotAStore r e = cc
meaning_of cap (Holds store) r e = found_runs cap store (opened (Holds store)) r e

-- a core and a keeper that was gone through to its end
pub joined_from : (core_live : Bool) (now : Situation) (old new : KeeperState) → core_live ≡ true → (new.at_end ≡ true) × (new.live ≡ true) → Keeps old new → old.last ≡ 2 ^ 62 → SameFiles old new
    → ((store : Store) → old.held ≡ Some (Holds store) → opened (Holds store) ≡ Stands now) → Joined core_live now new
joined_from core_live now old new core ended keeps last files stands = record {
  core = core;
  keeper_live = ended.1;
  end = ended.0;
  last = keeps.last ∙ last;
  same = λ store told. stands store (sym files.held ∙ told);
}

-- a folder that begins no run
pub no_store_of : (cap : ℕ) (keeper : KeeperState) (f : Folder) → IsSettled keeper → keeper.held ≡ Some f → ((store : Store) → keeper.held ≡ Some (Holds store) → opened (Holds store) ≡ IsNoStore) → found_in cap f ≡ NoStore
no_store_of cap keeper f settled told says =
    let held = store_held keeper f settled told in
    ap (found_in cap) held.1 ∙ no_store_from cap held.0 (says held.0 (told ∙ ap Some held.1))

pub damage_of : (cap place : ℕ) (keeper : KeeperState) (f : Folder) → IsSettled keeper → keeper.held ≡ Some f → ((store : Store) → keeper.held ≡ Some (Holds store) → opened (Holds store) ≡ IsDamaged place) → found_in cap f ≡ Damage place
damage_of cap place keeper f settled told says =
    let held = store_held keeper f settled told in
    ap (found_in cap) held.1 ∙ damage_from cap place held.0 (says held.0 (told ∙ ap Some held.1))

-- a keeper that was gone through is over the same disks
pub over_same : (old new : KeeperState) (a b : DiskState) → IsOver old a b → Keeps old new → SameFiles old new → new.faults ≡ old.faults → IsOver new a b
over_same old new a b over keeps files calm = record {
  told = keeps.told ∙ over.told;
  honest = keeps.honest ∙ over.honest;
  faults = calm ∙ over.faults;
  bytes = files.bytes ∙ over.bytes;
  held = λ x y a_told b_told. files.held ∙ over.held x y a_told b_told;
}

pub only_same : (old new : KeeperState) (a b : DiskState) → IsOver old a b → SameFiles old new → ShowsOnly old a b → ShowsOnly new a b
only_same old new a b over files only honest f image = only honest f (files.image (subst IsTrue (sym over.honest) honest) f image)

-- a count of the keeper that rose is that of one of its disks
pub rose_from : (old new : KeeperState) (a b a' b' : DiskState) → IsOver old a b → IsOver new a' b' → RoseIn old.faults new.faults → Rose a.faults a'.faults ⊎ Rose b.faults b'.faults
rose_from old new a b a' b' over over' rose =
    one_rose a.faults b.faults a'.faults b'.faults (subst (λ (l : List ℕ). RoseIn l (a'.faults ∷ b'.faults ∷ [])) over.faults (subst (RoseIn old.faults) over'.faults rose))

-- why a store was not found
pub why_found : (why : FindFault) (most : ℕ) (f : Folder) → (why ≡ found.NotMade → f ≡ NotMade) → (why ≡ found.NotAStore → f ≡ NotAStore) → IsWhy (fault_of_finding why) (found_in most f)
why_found found.NotMade most f none other = no_file_from most f (none refl)
why_found found.NotAStore most f none other = nothing_from most f (other refl)
why_found found.Failed most f none other = tt
why_found found.Memory most f none other = tt
