-- A disk in memory on which no call was made.
use Rattle.std.proofs.Common.{◌≡◌, ℕ, List, [], ◌∷◌, ◌++◌, Some, length, refl, sym, ap, subst, ◌∙◌, arith, length-append}
use Rattle.std.proofs.lemmas.List.{get_or_at}
use Rattle.dbn_disk.specs.Images.{IsImage}
use Rattle.dbn_disk.specs.MemState.{MemState, present, fresh}
use Rattle.dbn_disk.proofs.ImageLaws.{settled_only}
use Rattle.dbn_journal.specs.Records.{IsShutAt}

-- its one image is what it holds
pub fresh_only : (m : MemState) (bytes : List ℕ) → m ≡ fresh bytes [] → (x : List ℕ) → IsImage (present m) x → x ≡ bytes
fresh_only m bytes is x image = settled_only bytes x (subst (λ (n : MemState). IsImage (present n) x) is image)

pub fresh_held : (m : MemState) (bytes b : List ℕ) → m ≡ fresh bytes [] → (present m).held ≡ b → bytes ≡ b
fresh_held m bytes b is held = sym (ap (λ (n : MemState). (present n).held) is) ∙ held

pub same_bytes : (a b : List ℕ) → Some a ≡ Some b → a ≡ b
same_bytes a b e = cc

-- a zero behind a front is a shut gate
pub shut_behind : (front : List ℕ) → IsShutAt (length front) (front ++ 0 ∷ [])
shut_behind front = record {
  there = omega (arith, length-append front (0 ∷ []));
  shut = λ e. let gate = get_or_at front 0 [] 0 (length front) refl in absurd (omega (arith, gate, e));
}
