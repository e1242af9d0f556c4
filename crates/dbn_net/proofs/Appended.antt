-- Insertion of a key that is greater than all.
use Rattle.std.proofs.Common.{◌≡◌, false, cond, ◌||◌, List, [], ◌∷◌, ◌++◌, refl, ap, ◌∙◌, Some, None}
use Rattle.std.specs.declared.cmp.Ordering.{Ordering}
use Rattle.std.specs.declared.cmp.Ordering.TheVariants.{Less, Greater}
use Rattle.std.specs.Ordering.{is_eq, ordering_reverse, match_ordering}
use Rattle.std.specs.Cmp.{IsTotalOrder}
use Rattle.std.specs.List.{list_any, AllByRecursion}
use Rattle.std.specs.List.Sorted.{IsStrictlySortedBy}
use Rattle.std.specs.Map.{lookup, keys_of}
use Rattle.std.specs.BTreeMap.{is_at, insert_entry}
use Rattle.std.specs.BTreeSet.{insert_key}
use Rattle.std.proofs.lemmas.Map.Keys.{sorted_head, sorted_tail}

module _ {K : Type 0} (R : K → K → Ordering) where
  -- the key is greater than all of them
  abbrev pub IsPast : K → List K → Type 0
  IsPast k xs = AllByRecursion (λ x. R k x ≡ Greater) xs

  pub append_key : (k : K) (xs : List K) → IsPast k xs → insert_key R xs k ≡ xs ++ k ∷ []
  append_key k [] past = refl
  append_key k (x ∷ xs) past =
      ap (λ r. match_ordering r (k ∷ x ∷ xs) (x ∷ xs) (x ∷ insert_key R xs k)) past.0 ∙ ap (λ l. x ∷ l) (append_key k xs past.1)

  pub not_there : (k : K) (xs : List K) → IsPast k xs → list_any (is_at (R k)) xs ≡ false
  not_there k [] past = refl
  not_there k (x ∷ xs) past = ap (λ r. is_eq r || list_any (is_at (R k)) xs) past.0 ∙ not_there k xs past.1

  module _ {X : Type 0} where
    pub append_entry : (k : K) (v : X) (es : List (K × X)) → IsPast k (keys_of es) → insert_entry R es k v ≡ es ++ (k, v) ∷ []
    append_entry k v [] past = refl
    append_entry k v (e ∷ es) past =
        ap (λ r. match_ordering r ((k, v) ∷ e ∷ es) ((e.0, v) ∷ es) (e ∷ insert_entry R es k v)) past.0 ∙ ap (λ l. e ∷ l) (append_entry k v es past.1)

    pub no_entry : (k : K) (es : List (K × X)) → IsPast k (keys_of es) → lookup (is_at (R k)) es ≡ None
    no_entry k [] past = refl
    no_entry k (e ∷ es) past = ap (λ r. cond (is_eq r) (Some e.1) (lookup (is_at (R k)) es)) past.0 ∙ no_entry k es past.1

module _ {K : Type 0} {R : K → K → Ordering} (o : IsTotalOrder R) where
  middle : (x : K) (xs : List K) (k : K) (ks : List K) → AllByRecursion (λ y. R x y ≡ Less) (xs ++ k ∷ ks) → R x k ≡ Less
  middle x [] k ks all = all.0
  middle x (y ∷ xs) k ks all = middle x xs k ks all.1

  -- in an ascending list each key is greater than those before it
  pub past_those_before : (xs : List K) (k : K) (ks : List K) → IsStrictlySortedBy R (xs ++ k ∷ ks) → IsPast R k xs
  past_those_before [] k ks s = tt
  past_those_before (x ∷ xs) k ks s =
      (o.antisymm k x ∙ ap ordering_reverse (middle x xs k ks (sorted_head R x (xs ++ k ∷ ks) s)), past_those_before xs k ks (sorted_tail R x (xs ++ k ∷ ks) s))
