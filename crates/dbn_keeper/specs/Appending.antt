-- A body more in the chosen file, beside another one.
use Rattle.std.proofs.Common.{◌≡◌, ◌⊎◌, ℕ, suc, ◌+◌, ◌<◌, ◌≤◌, ◌^◌, Bool, false, List, [], ◌∷◌, ◌++◌, length, take, get_or, Option, None, Some, IsTrue, inl, inr, refl, sym, ap, subst, ◌∙◌, arith, append-nil, ⊎_elim}
use Rattle.dbn_disk.specs.Disk.{DiskState, LeavesOnly, IsSound}
use Rattle.dbn_disk.specs.SoundLaws.{length-written, written_outside, written_inside}
use Rattle.dbn_journal.specs.Records.{RecordList, open_gate, no_records, behind, appended, IsShutAt, IsHeldAt, IsBeforeOrAfter}
use Rattle.dbn_journal.specs.Walk.{bodies_before, prepended}
use Rattle.dbn_journal.proofs.Appends.{take_same, held_at, length-behind}
use Rattle.dbn_journal.proofs.Walks.{none_from, one_from, walked_on, held_there, held_here, prepended-bodies, prepended-torn}
use Rattle.dbn_keeper.specs.Files.{Store, Folder, first_gate, store_with, holds, with_body}
use Rattle.dbn_keeper.specs.Files.Folder.{Holds}
use Rattle.dbn_keeper.specs.TwoFiles.{pair_of, IsChosen, Cursor, both_held, two_state, IsTwo, chosen_in, other_in}
use Rattle.dbn_keeper.specs.declared.base.Base.{Base}
use Rattle.dbn_keeper.specs.declared.opening.Form.{Form}
use Rattle.dbn_keeper.specs.Choosing.{beside, store_here, chosen_same}

-- a store of these bodies
abbrev pub store_of : Form → Base → ℕ → List (List ℕ) → Bool → Store
store_of form base generation bodies torn = record { form = form; base = base; generation = generation; bodies = bodies; torn = torn }

pub stored : (form : Form) (base : Base) (g : ℕ) (front : List (List ℕ)) (list : RecordList) → store_with form g base (prepended front list) ≡ store_of form base g (front ++ list.bodies) list.torn
stored form base g front list = ap (λ (l : List (List ℕ)). store_of form base g l (prepended front list).torn) (prepended-bodies front list) ∙ ap (store_of form base g (front ++ list.bodies)) (prepended-torn front list)

-- the chosen file at its end
pub at_end_here : (form : Form) (base : Base) (g place records : ℕ) (x : List ℕ) → IsChosen form base g place records x → IsShutAt place x → holds form g x ≡ Holds (store_of form base g (bodies_before records (first_gate x) x) false)
at_end_here form base g place records x chosen shut =
    store_here form base g place records x chosen
    ∙ ap (λ (l : RecordList). Holds (store_with form g base (prepended (bodies_before records (first_gate x) x) l))) (none_from place x shut)
    ∙ ap Holds (stored form base g (bodies_before records (first_gate x) x) (no_records place false) ∙ ap (λ (l : List (List ℕ)). store_of form base g l false) (append-nil (bodies_before records (first_gate x) x)))

-- a file that an append may leave
module _ (form : Form) (base : Base) (g place records : ℕ) (x c body : List ℕ) (chosen : IsChosen form base g place records x) (same : take place c ≡ take place x) where
  long : IsHeldAt place body c → place < length c
  long held = omega (arith, held_there place body c held)

  pub without : IsShutAt place c → holds form g c ≡ Holds (store_of form base g (bodies_before records (first_gate x) x) false)
  without shut =
      let there = chosen_same form base g place records x c chosen same shut.there in
      at_end_here form base g place records c there.0 shut ∙ ap (λ (l : List (List ℕ)). Holds (store_of form base g l false)) there.1

  pub with_it : IsHeldAt place body c → length body < 2 ^ 32 → holds form g c ≡ Holds (store_of form base g (bodies_before records (first_gate x) x ++ body ∷ []) false)
  with_it held small =
      let there = chosen_same form base g place records x c chosen same (long held) in
      store_here form base g place records c there.0
      ∙ ap (λ (l : RecordList). Holds (store_with form g base (prepended (bodies_before records (first_gate c) c) l))) (one_from place body c held small)
      ∙ ap Holds (stored form base g (bodies_before records (first_gate c) c) (record { bodies = body ∷ []; end = place + 5 + length body; torn = false }))
      ∙ ap (λ (l : List (List ℕ)). Holds (store_of form base g (l ++ body ∷ []) false)) there.1

  pub chosen_after : IsHeldAt place body c → length body < 2 ^ 32 → IsChosen form base g (place + 5 + length body) (suc records) c
  chosen_after held small =
      let there = (chosen_same form base g place records x c chosen same (long held)).0 in
      record {
        opening = there.opening;
        header = there.header;
        base_is = there.base_is;
        walked = walked_on records (first_gate c) place c body there.walked (held_here place body c held small);
      }

-- what is written
pub appended_front : (place : ℕ) (body b : List ℕ) → place ≤ length b → take place (appended place body b) ≡ take place b
appended_front place body b long =
    take_same place (appended place body b) b (omega (arith, length-written place (open_gate ∷ behind body) b, long)) long (λ i under. written_outside place (open_gate ∷ behind body) b i (inl under))

pub appended_held : (place : ℕ) (body b : List ℕ) → IsHeldAt place body (appended place body b)
appended_held place body b =
    held_at place body (appended place body b) (omega (arith, length-written place (open_gate ∷ behind body) b, length-behind body))
    (ap (λ (k : ℕ). get_or (appended place body b) k 0) (let e : place ≡ place + 0 = omega arith in e) ∙ written_inside place (open_gate ∷ behind body) b 0 (omega arith))
    (λ j under. ap (λ (k : ℕ). get_or (appended place body b) k 0) (let e : place + 1 + j ≡ place + suc j = omega arith in e) ∙ written_inside place (open_gate ∷ behind body) b (suc j) (omega (arith, under)))

-- both contents
pub told_both : (swapped : Bool) (a b : Option (List ℕ)) (f : Folder) → both_held swapped a b ≡ Some f → ((x : List ℕ) × (y : List ℕ) × (a ≡ Some x) × (b ≡ Some y) × (pair_of swapped x y ≡ f))
told_both swapped (Some x) (Some y) f e = (x, y, refl, refl, same (pair_of swapped x y) f e)
  where
    same : (p q : Folder) → Some p ≡ Some q → p ≡ q
    same p q e = cc
told_both swapped (Some x) None f e = cc
told_both swapped None other f e = cc

-- what an append of the chosen file brings, beside the other one
pub append_brings : (k new_k : Cursor) (old new other : DiskState) (body : List ℕ) (z : Store) → IsTwo k old other → new_k.swapped ≡ k.swapped → IsTrue k.at_end → IsSound old → length body < 2 ^ 32
    → both_held k.swapped old.content other.content ≡ Some (Holds z) → IsTrue old.honest → ((b : List ℕ) → old.content ≡ Some b → LeavesOnly old new (IsBeforeOrAfter old.image k.place body))
    → (t : List ℕ) (f : Folder) → (two_state k old other).steady t → (two_state new_k new other).since t f → (two_state k old other).since t f ⊎ ((f ≡ Holds z) ⊎ (f ≡ Holds (with_body body z)))
append_brings k new_k old new other body z two same_swap ended sound small told honest works t f steady since =
    let both = told_both k.swapped old.content other.content (Holds z) told in
    let x : List ℕ = both.0 in
    let chosen = two.chosen_file x both.2 in
    let z_is : Holds z ≡ Holds (store_of k.form k.base k.generation (bodies_before k.records (first_gate x) x) false) =
    sym both.4 ∙ beside k.swapped k.form k.generation x both.1 chosen.opening (two.other_file both.1 both.3) ∙ at_end_here k.form k.base k.generation k.place k.records x chosen (two.shut x both.2 ended) in
    let here = subst (λ (s : Bool). ((c : List ℕ) × (d : List ℕ) × new.since (chosen_in s t) c × other.since (other_in s t) d × (pair_of s c d ≡ f))) same_swap since in
    ⊎_elim
    (λ past. inl (here.0, here.1, past, here.3, here.4))
    (λ (now : IsBeforeOrAfter old.image k.place body here.0).
    let front : take k.place here.0 ≡ take k.place x = now.front ∙ ap (take k.place) (two.chosen_settled x both.2 honest now.from now.image) in
    let way = steady.other_opening here.1 here.3 in
    inr (⊎_elim
    (λ shut. inl (sym here.4 ∙ beside k.swapped k.form k.generation here.0 here.1 (chosen_same k.form k.base k.generation k.place k.records x here.0 chosen front shut.there).0.opening way
    ∙ without k.form k.base k.generation k.place k.records x here.0 body chosen front shut ∙ sym z_is))
    (λ held. inr (sym here.4 ∙ beside k.swapped k.form k.generation here.0 here.1 (chosen_same k.form k.base k.generation k.place k.records x here.0 chosen front (omega (arith, held_there k.place body here.0 held))).0.opening way
    ∙ with_it k.form k.base k.generation k.place k.records x here.0 body chosen front held small ∙ more_bodies z (store_of k.form k.base k.generation (bodies_before k.records (first_gate x) x) false) body (sym z_is)))
    now.gate))
    ((works x both.2).before (chosen_in k.swapped t) here.0 steady.chosen_time here.2)
  where
    more_bodies : (z w : Store) (body : List ℕ) → Holds w ≡ Holds z → Holds (with_body body w) ≡ Holds (with_body body z)
    more_bodies z w body e = ap (λ (v : Store). Holds (with_body body v)) (held_same w z e)
      where
        held_same : (a b : Store) → Holds a ≡ Holds b → a ≡ b
        held_same a b e = cc
