-- What a crash leaves of several calls on a keeper.
use Rattle.std.proofs.Common.{◌≡◌, List, ℕ, Some, IsTrue, inl, inr, sym, subst, arith, ⊎_elim}
use Rattle.dbn_keeper.specs.Files.{Store, Folder}
use Rattle.dbn_keeper.specs.Files.Folder.{Holds}
use Rattle.dbn_keeper.specs.Keeping.{KeeperState, NoneFalls, RoseIn, IsSound, IsSettled, BringsOnly}

-- two calls one after the other
pub brings_both : (old mid new : KeeperState) (P Q R : Folder → Type 0) → BringsOnly old mid P → BringsOnly mid new Q → ((t : List ℕ) → old.steady t → mid.steady t) → ((f : Folder) → P f → R f) → ((f : Folder) → Q f → R f) → BringsOnly old new R
brings_both old mid new P Q R first second steady p q = record {
  later = λ i. omega (arith, first.later i, second.later i);
  only = λ t f steady_old since. ⊎_elim (λ past. ⊎_elim (λ e. inl e) (λ e. inr (p f e)) (first.only t f steady_old past)) (λ e. inr (q f e)) (second.only t f (steady t steady_old) since);
}

-- from a live keeper on: each image since then
pub since_live : (old new : KeeperState) (store : Store) (P : Folder → Type 0) → IsSettled old → IsSound old → old.held ≡ Some (Holds store) → IsTrue old.honest → BringsOnly old new P → P (Holds store) → (f : Folder) → new.since old.moment f → P f
since_live old new store P settled sound told honest work here f since =
    ⊎_elim (λ past. subst P (sym (settled.image (Holds store) f told honest (sound.only_now f past))) here) (λ p. p) (work.only old.moment f (settled.steady (Holds store) told honest) since)

-- and each image now
pub now_live : (old new : KeeperState) (store : Store) (P : Folder → Type 0) → IsSettled old → IsSound old → IsSound new → old.held ≡ Some (Holds store) → IsTrue old.honest → BringsOnly old new P → P (Holds store) → (f : Folder) → new.image f → P f
now_live old new store P settled sound sound_new told honest work here f image = since_live old new store P settled sound told honest work here f (sound_new.now old.moment f work.later image)

-- what rose later rose
pub rose_after : (old mid new : List ℕ) → NoneFalls old mid → RoseIn mid new → RoseIn old new
rose_after old mid new later rose = (rose.0, omega (arith, later rose.0, rose.1))
