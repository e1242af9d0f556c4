-- Whether two names are the same, and the order of names.
use Rattle.std.specs.Prelude.{◌≡◌, ℕ, Bool, List}
use Rattle.std.specs.Str.{bytes_eq}
use Rattle.std.specs.Ordering.{nat_cmp, eq_by_cmp, as_partial_cmp}
use Rattle.std.specs.declared.cmp.Ordering.{Ordering}
use Rattle.std.specs.Cmp.{IsEquivalence, IsPartialOrder, IsTotalOrder}
use Rattle.std.specs.Cmp.Lexicographic.{slice_cmp, nat_list_cmp_total, nat_list_eq_equiv, texts_ties, texts_po}
use Rattle.std.specs.FinMap.{IsAntisymmetric, nat_cmp-IsAntisymmetric, slice_cmp-IsAntisymmetric}

abbrev pub name_eq : List ℕ → List ℕ → Bool
name_eq a b = bytes_eq a b

-- by their bytes, with a proper prefix first
abbrev pub name_cmp : List ℕ → List ℕ → Ordering
name_cmp a b = slice_cmp nat_cmp a b

pub name_equiv : IsEquivalence name_eq
name_equiv = nat_list_eq_equiv

pub name_total : IsTotalOrder name_cmp
name_total = nat_list_cmp_total

pub name_partial : IsPartialOrder name_eq (as_partial_cmp name_cmp)
name_partial = texts_po

-- names are equal exactly where they tie
pub names_tie : (a b : List ℕ) → name_eq a b ≡ eq_by_cmp name_cmp a b
names_tie a b = texts_ties a b

-- names that tie are equal
pub exact_names : IsAntisymmetric name_cmp
exact_names = slice_cmp-IsAntisymmetric nat_cmp-IsAntisymmetric
