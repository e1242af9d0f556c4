-- Two ways in which code makes the ascending list of a list's members: std's ordered set, and a sort that is followed by `dedup`.
use Rattle.std.proofs.Common.{◌≡◌, List, ◌∙◌, sym}
use Rattle.std.specs.declared.cmp.Ordering.{Ordering}
use Rattle.std.specs.Ordering.{eq_by_cmp}
use Rattle.std.specs.Cmp.{IsTotalOrder, eq_by_cmp_equiv}
use Rattle.std.specs.List.{dedup}
use Rattle.std.specs.List.Sorted.{IsPermutation, IsSorted}
use Rattle.std.specs.BTreeSet.{BTreeSet}
use Rattle.std.specs.BTreeSet as sorted
use Rattle.std.proofs.lemmas.List.Sorted.{Contains-permutation, IsPermutation-sym}
use Rattle.std.proofs.lemmas.List.Kept.{Contains-dedup, Contains-from_dedup, IsStrictlySortedBy-dedup}
use Rattle.std.specs.FinMap.{IsAntisymmetric}
use Rattle.dbn_value.specs.Ascending.{ascending}
use Rattle.dbn_value.proofs.MemberLaws.{contains_from_in, in_from_contains}
use Rattle.dbn_value.proofs.AscendingLaws.{same_tests, sorted_ascending, any_ascending, is_ascending, is_one}

module _ {K : Type 0} {R : K → K → Ordering} (o : IsTotalOrder R) (exact : IsAntisymmetric R) where
  pub collected_ascending : (xs : List K) (s : BTreeSet K) → sorted.IsFromIterResult R xs s → s.keys ≡ ascending R xs
  collected_ascending xs s made =
      same_tests o exact s.keys (ascending R xs) made.1 (sorted_ascending o xs) (λ q. made.0 q ∙ sym (any_ascending o exact q xs))

  pub dedup_ascending : (xs ys : List K) → IsPermutation xs ys → IsSorted R ys → dedup (eq_by_cmp R) ys ≡ ascending R xs
  dedup_ascending xs ys moved rises =
      is_ascending o exact (dedup (eq_by_cmp R) ys) xs (IsStrictlySortedBy-dedup o (λ x y. λ i. eq_by_cmp R x y) ys rises)
      (λ q at. in_from_contains q xs (Contains-permutation ys xs q (IsPermutation-sym xs ys moved) (Contains-from_dedup (eq_by_cmp R) ys q (contains_from_in q (dedup (eq_by_cmp R) ys) at))))
      (λ q at. in_from_contains q (dedup (eq_by_cmp R) ys) (Contains-dedup (eq_by_cmp_equiv o) (is_one o exact) ys q (Contains-permutation xs ys q moved (contains_from_in q xs at))))
