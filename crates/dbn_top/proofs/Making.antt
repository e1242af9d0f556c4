-- Making a new store: what a crash leaves, and what stays.
use Rattle.std.proofs.Common.{◌≡◌, ◌≢◌, ◌⊎◌, ℕ, ◌≤◌, Bool, true, false, cond, List, length, Option, None, Some, is_some, IsTrue, inl, inr, refl, sym, ap, subst, ◌∙◌, ⊎_elim}
use Rattle.dbn_disk.specs.Disk.{DiskState, Only, IsSound, LeavesOnly}
use Rattle.std.specs.Prelude.{codes}
use Rattle.dbn_io.specs.declared.limits.Limits.{Limits}
use Rattle.dbn_keeper.specs.Creating.{is_made, is_allowed, IsNoneOrNew}
use Rattle.dbn_keeper.specs.Files.{Folder, folder, new_store}
use Rattle.dbn_keeper.specs.Files.Folder.{NotMade, NotAStore, Holds}
use Rattle.dbn_keeper.specs.declared.base.Base.{Base}
use Rattle.dbn_store.specs.States.{Situation}
use Rattle.dbn_store.specs.Folders.{opened, situation_in, meaning}
use Rattle.dbn_store.specs.Folders.Opened.{Stands}
use Rattle.dbn_top.specs.declared.status.Status.{Status}
use Rattle.dbn_top.specs.declared.status.Status.TheVariants as status
use Rattle.dbn_engine.specs.Steps.{text_at}
use Rattle.dbn_top.specs.Calls.{Stream, IsSettled, device}
use Rattle.dbn_top.specs.Due.{making}
use Rattle.dbn_top.specs.Writing.{Declared, Writes, due}
use Rattle.dbn_top.specs.Crashes.{IsNew, IsInitial, IsKept}
use Rattle.dbn_top.specs.Starts.{base_of}

pub none_made : (f : Folder) → is_made f ≡ false → f ≡ NotMade
none_made NotMade e = refl
none_made NotAStore e = cc
none_made (Holds store) e = cc

initial : (s : Situation) (base : Base) (u v : List ℕ) → base ≡ base_of s → ((generation : ℕ) → opened (Holds (new_store generation base)) ≡ Stands s) → folder u v ≡ Holds (new_store 1 base) → IsInitial s u v
initial s base u v is stands new = (new ∙ ap (λ (b : Base). Holds (new_store 1 b)) is, ap meaning new ∙ ap situation_in (stands 1))

-- two disks on which a store was being made
module _ (s : Situation) (base : Base) (a b a' b' : DiskState) (x y : List ℕ) (is : base ≡ base_of s) (stands : (generation : ℕ) → opened (Holds (new_store generation base)) ≡ Stands s)
    (a_settled : IsSettled a) (b_settled : IsSettled b) (a_told : a.content ≡ Some x) (b_told : b.content ≡ Some y) (later : (a.clock ≤ a'.clock) × (b.clock ≤ b'.clock)) (a_sound : IsSound a') (b_sound : IsSound b')
    (moments : (u v : List ℕ) → a'.since a.clock u → b'.since b.clock v → IsNoneOrNew base (folder u v)) where
  pub each_new : (u v : List ℕ) → a'.image u → b'.image v → (folder u v ≡ NotMade) ⊎ IsInitial s u v
  each_new u v a_image b_image = ⊎_elim (λ e. inl e) (λ e. inr (initial s base u v is stands e)) (moments u v (a_sound.now a.clock u later.0 a_image) (b_sound.now b.clock v later.1 b_image))

  -- it was not made
  pub not_new : (ended : Status) → ended ≢ status.Done → IsNew ended s (device a a') (device b b')
  not_new ended done = record { each = each_new; done = λ e. absurd (done e) }

  -- it was made
  pub is_new : (ended : Status) (u v : List ℕ) → a'.content ≡ Some u → b'.content ≡ Some v → Only u a'.image → Only v b'.image → folder u v ≡ Holds (new_store 1 base) → IsNew ended s (device a a') (device b b')
  is_new ended u v a_held b_held a_only b_only made = record { each = each_new; done = λ e. (u, v, a_held, b_held, a_only, b_only, initial s base u v is stands made) }

-- what a disk holds stays
pub kept_from : (a a' : DiskState) → a'.content ≡ a.content → (IsTrue a.honest → LeavesOnly a a' a.image) → (IsTrue a.honest → IsSound a') → IsKept (device a a')
kept_from a a' same leaves sound = record {
  content = same;
  image = λ honest bytes image. (leaves honest).each bytes ((sound honest).now a.clock bytes (leaves honest).later image);
}

pub told_after : (old new : Option (List ℕ)) (x : List ℕ) → old ≡ Some x → is_some new ≡ is_some old → ((u : List ℕ) × (new ≡ Some u))
told_after old (Some u) x told same = (u, refl)
told_after old None x told same = absurd (differ (same ∙ ap (λ (o : Option (List ℕ)). is_some o) told))
  where
    differ : false ≡ true → ⊥
    differ e = cc

-- what is due for a new store

made_due : (limits : Limits) (a b : List ℕ) (s : Situation) (text : List ℕ) (allowed : Bool) → text ≡ text_at s → is_made (folder a b) ≡ false → is_allowed limits.net_bytes limits.file_bytes (length text) ≡ allowed
    → making limits a b s ≡ cond allowed (due status.Done (codes "made\n")) (due status.Store (codes "store full\n"))
made_due limits a b s text allowed is none test =
    ap (λ (m : Bool). cond m (due status.Store (codes "store exists\n")) (cond (is_allowed limits.net_bytes limits.file_bytes (length (text_at s))) (due status.Done (codes "made\n")) (due status.Store (codes "store full\n")))) none
    ∙ ap (λ (t : List ℕ). cond (is_allowed limits.net_bytes limits.file_bytes (length t)) (due status.Done (codes "made\n")) (due status.Store (codes "store full\n"))) (sym is)
    ∙ ap (λ (m : Bool). cond m (due status.Done (codes "made\n")) (due status.Store (codes "store full\n"))) test

pub writes_made : (ended : Status) (out : Stream) (limits : Limits) (a b : List ℕ) (s : Situation) (base : Base) → base ≡ base_of s → (is_made (folder a b) ≡ false) × (is_allowed limits.net_bytes limits.file_bytes (length base.text) ≡ true) → Writes ended (due status.Done (codes "made\n")) out → Writes ended (making limits a b s) out
writes_made ended out limits a b s base is answer w = subst (λ (d : Declared). Writes ended d out) (sym (made_due limits a b s base.text true (ap (λ (x : Base). x.text) is) answer.0 answer.1)) w

pub writes_full : (ended : Status) (out : Stream) (limits : Limits) (a b : List ℕ) (s : Situation) (base : Base) → base ≡ base_of s → (is_made (folder a b) ≡ false) × (is_allowed limits.net_bytes limits.file_bytes (length base.text) ≡ false) → Writes ended (due status.Store (codes "store full\n")) out → Writes ended (making limits a b s) out
writes_full ended out limits a b s base is answer w = subst (λ (d : Declared). Writes ended d out) (sym (made_due limits a b s base.text false (ap (λ (x : Base). x.text) is) answer.0 answer.1)) w

pub writes_exists : (ended : Status) (out : Stream) (limits : Limits) (a b : List ℕ) (s : Situation) → is_made (folder a b) ≡ true → Writes ended (due status.Store (codes "store exists\n")) out → Writes ended (making limits a b s) out
writes_exists ended out limits a b s made w =
    subst (λ (d : Declared). Writes ended d out) (sym (ap (λ (m : Bool). cond m (due status.Store (codes "store exists\n")) (cond (is_allowed limits.net_bytes limits.file_bytes (length (text_at s))) (due status.Done (codes "made\n")) (due status.Store (codes "store full\n")))) made)) w

pub not_done : (said ended : Status) → (ended ≡ said) ⊎ (ended ≡ status.WriteFault) ⊎ (ended ≡ status.Memory) → said ≢ status.Done → ended ≢ status.Done
not_done said ended (inl e) never done = never (sym e ∙ done)
not_done said ended (inr (inl e)) never done = differ (sym e ∙ done)
  where
    differ : status.WriteFault ≡ status.Done → ⊥
    differ x = cc
not_done said ended (inr (inr e)) never done = differ (sym e ∙ done)
  where
    differ : status.Memory ≡ status.Done → ⊥
    differ x = cc
