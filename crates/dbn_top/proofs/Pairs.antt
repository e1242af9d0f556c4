-- A keeper over two files, and its disks in their places.
use Rattle.std.proofs.Common.{◌≡◌, ◌⊎◌, ℕ, zero, suc, ◌&&◌, Bool, true, false, cond, List, [], ◌∷◌, get_or, Option, None, Some, is_some, inl, inr, refl, sym, ap, subst, ◌∙◌, arith}
use Rattle.dbn_model.specs.Causes.{Rose}
use Rattle.dbn_disk.specs.Disk.{DiskState}
use Rattle.dbn_keeper.specs.Files.{Folder, folder}
use Rattle.dbn_keeper.specs.Keeping.{RoseIn}
use Rattle.dbn_keeper.specs.TwoFiles.{pair_of, pair_list, pair_bytes, both_held, Cursor, two_state}
use Rattle.dbn_twofile.specs.Finding.{OnlySynced}
use Rattle.dbn_top.specs.Endings.{both_told, both_honest}
use Rattle.dbn_top.specs.Keepers.{IsOver, ShowsOnly}

and_swap : (p q : Bool) → (p && q) ≡ (q && p)
and_swap true true = refl
and_swap true false = refl
and_swap false true = refl
and_swap false false = refl

told_of : (swapped : Bool) (p q : Option (List ℕ)) → is_some (both_held swapped p q) ≡ (is_some p && is_some q)
told_of swapped (Some x) (Some y) = refl
told_of swapped (Some x) None = refl
told_of swapped None q = refl

-- what is said of a keeper and its disks in their places, by which of them is chosen
pub record Sides (swapped : Bool) (chosen other first second : DiskState) : Type 0 where
  pub told : is_some (both_held swapped chosen.content other.content) ≡ both_told first second
  pub honest : (chosen.honest && other.honest) ≡ both_honest first second
  pub faults : pair_list swapped chosen.faults other.faults ≡ first.faults ∷ second.faults ∷ []
  pub bytes : pair_bytes swapped chosen.content other.content ≡ first.content ∷ second.content ∷ []
  pub held : (x y : List ℕ) → first.content ≡ Some x → second.content ≡ Some y → both_held swapped chosen.content other.content ≡ Some (folder x y)
  pub only : (f : Folder) → ((x : List ℕ) × (y : List ℕ) × chosen.image x × other.image y × (pair_of swapped x y ≡ f)) → ((x : List ℕ) × (y : List ℕ) × first.image x × second.image y × (folder x y ≡ f))

both : (p q : Option (List ℕ)) (swapped : Bool) (x y : List ℕ) → p ≡ Some x → q ≡ Some y → both_held swapped p q ≡ Some (pair_of swapped x y)
both p q swapped x y first second = ap (λ (o : Option (List ℕ)). both_held swapped o q) first ∙ ap (both_held swapped (Some x)) second

pub sides : (swapped : Bool) (chosen other : DiskState) → Sides swapped chosen other (cond swapped other chosen) (cond swapped chosen other)
sides true chosen other = record {
  told = told_of true chosen.content other.content ∙ and_swap (is_some chosen.content) (is_some other.content);
  honest = and_swap chosen.honest other.honest;
  faults = refl;
  bytes = refl;
  held = λ x y first second. both chosen.content other.content true y x second first;
  only = λ f image. (image.1, image.0, image.3, image.2, image.4);
}
sides false chosen other = record {
  told = told_of false chosen.content other.content;
  honest = refl;
  faults = refl;
  bytes = refl;
  held = λ x y first second. both chosen.content other.content false x y first second;
  only = λ f image. image;
}

-- the same, of disks that are these two
pub sides_of : {X : Type 0} (state : X → DiskState) (swapped : Bool) (chosen other first second : X) → first ≡ cond swapped other chosen → second ≡ cond swapped chosen other → Sides swapped (state chosen) (state other) (state first) (state second)
sides_of state true chosen other first second is_first is_second =
    subst (λ x. Sides true (state chosen) (state other) (state x) (state second)) (sym is_first) (subst (λ x. Sides true (state chosen) (state other) (state other) (state x)) (sym is_second) (sides true (state chosen) (state other)))
sides_of state false chosen other first second is_first is_second =
    subst (λ x. Sides false (state chosen) (state other) (state x) (state second)) (sym is_first) (subst (λ x. Sides false (state chosen) (state other) (state chosen) (state x)) (sym is_second) (sides false (state chosen) (state other)))

-- a keeper over its disks in their places
pub over_sides : (k : Cursor) (chosen other first second : DiskState) → Sides k.swapped chosen other first second → IsOver (two_state k chosen other) first second
over_sides k chosen other first second s = record { told = s.told; honest = s.honest; faults = s.faults; bytes = s.bytes; held = s.held }

-- a keeper that was found over disks that were only synced
pub over_found : (k : Cursor) (chosen other first second a b : DiskState) → Sides k.swapped chosen other first second → OnlySynced a first → OnlySynced b second → (first.faults ≡ a.faults) × (second.faults ≡ b.faults)
    → IsOver (two_state k chosen other) a b
over_found k chosen other first second a b s synced_a synced_b faults = record {
  told = s.told ∙ ap (λ (t : Bool). t && is_some second.content) synced_a.keeps.told ∙ ap (λ (t : Bool). is_some a.content && t) synced_b.keeps.told;
  honest = s.honest ∙ ap (λ (t : Bool). t && second.honest) synced_a.keeps.honest ∙ ap (λ (t : Bool). a.honest && t) synced_b.keeps.honest;
  bytes = s.bytes ∙ ap (λ (o : Option (List ℕ)). o ∷ second.content ∷ []) synced_a.same ∙ ap (λ (o : Option (List ℕ)). a.content ∷ o ∷ []) synced_b.same;
  faults = s.faults ∙ ap (λ (n : ℕ). n ∷ second.faults ∷ []) faults.0 ∙ ap (λ (n : ℕ). a.faults ∷ n ∷ []) faults.1;
  held = λ x y a_told b_told. s.held x y (synced_a.same ∙ a_told) (synced_b.same ∙ b_told);
}

and_true : (p q : Bool) → (p && q) ≡ true → (p ≡ true) × (q ≡ true)
and_true true true e = (refl, refl)
and_true true false e = cc
and_true false q e = cc

pub shows_found : (k : Cursor) (chosen other first second a b : DiskState) → Sides k.swapped chosen other first second → OnlySynced a first → OnlySynced b second → ShowsOnly (two_state k chosen other) a b
shows_found k chosen other first second a b s synced_a synced_b honest f image =
    let there = s.only f image in
    let fair = and_true a.honest b.honest honest in
    (there.0, there.1, synced_a.images fair.0 there.0 there.2, synced_b.images fair.1 there.1 there.3, there.4)

-- nothing rises in an empty list
no_rise : (i : ℕ) → Rose (get_or [] i 0) (get_or [] i 0) → ⊥
no_rise i e = omega (arith, e)

-- one of two counts rose
pub one_rose : (a b a' b' : ℕ) → RoseIn (a ∷ b ∷ []) (a' ∷ b' ∷ []) → Rose a a' ⊎ Rose b b'
one_rose a b a' b' (zero, e) = inl e
one_rose a b a' b' (suc zero, e) = inr e
one_rose a b a' b' (suc (suc i), e) = absurd (no_rise i e)

pub none_rose : RoseIn [] [] → ⊥
none_rose (i, e) = no_rise i e
