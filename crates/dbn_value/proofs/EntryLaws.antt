-- Lists of pairs whose keys strictly ascend: look-ups, keys and order after each change, and that the look-ups determine the list.
use Rattle.std.proofs.Common.{◌≡◌, Bool, true, false, cond, ◌&&◌, T, List, [], ◌∷◌, refl, sym, ap, ◌∙◌, subst, Some, None, ⊎_elim, inl, inr}
use Rattle.std.specs.declared.cmp.Ordering.{Ordering}
use Rattle.std.specs.declared.cmp.Ordering.TheVariants.{Less, Equal, Greater}
use Rattle.std.specs.Ordering.{eq_by_cmp, is_eq, is_lt, match_ordering}
use Rattle.std.specs.Cmp.{IsTotalOrder, eq_by_cmp_equiv, tied_itself}
use Rattle.std.specs.Option.{IsSome}
use Rattle.std.specs.List.Sorted.{IsStrictlySortedBy}
use Rattle.std.specs.Map.{lookup, remove_entry, set_value, keys_of}
use Rattle.std.specs.BTreeMap.{is_at, insert_entry}
use Rattle.std.specs.BTreeSet.{insert_key}
use Rattle.std.specs.Set.{remove_key}
use Rattle.std.specs.FinMap.Entries.{find, put, is_sorted, below_all, by_order, find-put, same_entries}
use Rattle.std.proofs.lemmas.Bool.{true≢false, and_parts}
use Rattle.std.proofs.lemmas.Map.{keys-set_value, lookup-set_value, lookup-remove_entry}
use Rattle.std.proofs.lemmas.Map.Keys.{sorted_tail, IsDistinct-from_sorted}
use Rattle.std.specs.FinMap.{IsAntisymmetric}
use Rattle.dbn_value.specs.Members.{In}
use Rattle.dbn_value.proofs.AscendingLaws.{sorted_nil, sorted_cons, head_below, sorted_insert_key, sorted_remove_key}

holds : (b : Bool) → b ≡ true → T b
holds b e = subst T (sym e) tt

is_true : (b : Bool) → T b → b ≡ true
is_true true h = refl
is_true false h = absurd h

both_hold : (a b : Bool) → T a → T b → T (a && b)
both_hold true b p q = q
both_hold false b p q = p

is_less : (r : Ordering) → is_lt r ≡ true → r ≡ Less
is_less Less e = refl
is_less Equal e = absurd (true≢false (sym e))
is_less Greater e = absurd (true≢false (sym e))

module _ {K X : Type 0} (R : K → K → Ordering) where
  -- ---- the words of std's finite maps, in the words of its ordered maps

  pub find_is : (q : K) (es : List (K × X)) → find R q es ≡ lookup (is_at (R q)) es
  find_is q [] = refl
  find_is q (e ∷ es) = ap (cond (eq_by_cmp R q e.0) (Some e.1)) (find_is q es)

  pub put_is : (k : K) (v : X) (es : List (K × X)) → put R k v es ≡ insert_entry R es k v
  put_is k v [] = refl
  put_is k v (e ∷ es) =
      elim (R k e.0) as (λ r. by_order r ((k, v) ∷ e ∷ es) ((e.0, v) ∷ es) (e ∷ put R k v es) ≡ match_ordering r ((k, v) ∷ e ∷ es) ((e.0, v) ∷ es) (e ∷ insert_entry R es k v)) [
        | Less ↦ refl
        | Equal ↦ refl
        | Greater ↦ ap (λ l. e ∷ l) (put_is k v es)
      ]

  below_test : (x : K) (es : List (K × X)) → ((y : K) → In y (keys_of es) → R x y ≡ Less) → T (below_all R x es)
  below_test x [] each = tt
  below_test x (e ∷ es) each = both_hold (is_lt (R x e.0)) _ (holds _ (ap is_lt (each e.0 (inl refl)))) (below_test x es (λ y at. each y (inr at)))

  pub sorted_test : (es : List (K × X)) → IsStrictlySortedBy R (keys_of es) → T (is_sorted R es)
  sorted_test [] s = tt
  sorted_test (e ∷ es) s =
      both_hold (below_all R e.0 es) (is_sorted R es)
      (below_test e.0 es (λ y at. head_below R e.0 (keys_of es) y s at))
      (sorted_test es (sorted_tail R e.0 (keys_of es) s))

  below_from_test : (x : K) (es : List (K × X)) → T (below_all R x es) → (y : K) → In y (keys_of es) → R x y ≡ Less
  below_from_test x [] h y at = absurd at
  below_from_test x (e ∷ es) h y at =
      let both = and_parts (is_lt (R x e.0)) (below_all R x es) (is_true _ h) in
      ⊎_elim
      (λ here. subst (λ z. R x z ≡ Less) (sym here) (is_less (R x e.0) both.0))
      (λ there. below_from_test x es (holds _ both.1) y there)
      at

  pub sorted_from_test : (es : List (K × X)) → T (is_sorted R es) → IsStrictlySortedBy R (keys_of es)
  sorted_from_test [] h = sorted_nil R
  sorted_from_test (e ∷ es) h =
      let both = and_parts (below_all R e.0 es) (is_sorted R es) (is_true _ h) in
      sorted_cons R e.0 (keys_of es) (below_from_test e.0 es (holds _ both.0)) (sorted_from_test es (holds _ both.1))

  -- ---- keys after a change

  pub keys_insert_entry : (k : K) (v : X) (es : List (K × X)) → keys_of (insert_entry R es k v) ≡ insert_key R (keys_of es) k
  keys_insert_entry k v [] = refl
  keys_insert_entry k v (e ∷ es) =
      elim (R k e.0) as (λ r. keys_of (match_ordering r ((k, v) ∷ e ∷ es) ((e.0, v) ∷ es) (e ∷ insert_entry R es k v)) ≡ match_ordering r (k ∷ e.0 ∷ keys_of es) (e.0 ∷ keys_of es) (e.0 ∷ insert_key R (keys_of es) k)) [
        | Less ↦ refl
        | Equal ↦ refl
        | Greater ↦ ap (λ l. e.0 ∷ l) (keys_insert_entry k v es)
      ]

pub keys_remove_entry : {K X : Type 0} (test : K → Bool) (es : List (K × X)) → keys_of (remove_entry test es) ≡ remove_key test (keys_of es)
keys_remove_entry test [] = refl
keys_remove_entry test (e ∷ es) =
    elim (test e.0) as (λ b. keys_of (cond b es (e ∷ remove_entry test es)) ≡ cond b (keys_of es) (e.0 ∷ remove_key test (keys_of es))) [
      | true ↦ refl
      | false ↦ ap (λ l. e.0 ∷ l) (keys_remove_entry test es)
    ]

module _ {K : Type 0} {R : K → K → Ordering} (o : IsTotalOrder R) where
  alike : (k x y : K) → is_at (R k) x ≡ true → is_at (R k) y ≡ eq_by_cmp R x y
  alike k x y e = (eq_by_cmp_equiv o).congr k x y e

  pub is_at_itself : (k : K) → is_at (R k) k ≡ true
  is_at_itself k = ap is_eq (tied_itself o k)

module _ {K X : Type 0} {R : K → K → Ordering} (o : IsTotalOrder R) where
  pub sorted_insert_entry : (k : K) (v : X) (es : List (K × X)) → IsStrictlySortedBy R (keys_of es) → IsStrictlySortedBy R (keys_of (insert_entry R es k v))
  sorted_insert_entry k v es s = subst (IsStrictlySortedBy R) (sym (keys_insert_entry R k v es)) (sorted_insert_key o k (keys_of es) s)

  pub sorted_remove_entry : (k : K) (es : List (K × X)) → IsStrictlySortedBy R (keys_of es) → IsStrictlySortedBy R (keys_of (remove_entry (is_at (R k)) es))
  sorted_remove_entry k es s = subst (IsStrictlySortedBy R) (sym (keys_remove_entry (is_at (R k)) es)) (sorted_remove_key o k (keys_of es) s)

  pub sorted_set_value : (k : K) (v : X) (es : List (K × X)) → IsStrictlySortedBy R (keys_of es) → IsStrictlySortedBy R (keys_of (set_value (is_at (R k)) es v))
  sorted_set_value k v es s = subst (IsStrictlySortedBy R) (sym (keys-set_value (is_at (R k)) es v)) s

  -- ---- look-ups after a change

  pub lookup_insert_entry : (q k : K) (v : X) (es : List (K × X)) → lookup (is_at (R q)) (insert_entry R es k v) ≡ cond (is_at (R k) q) (Some v) (lookup (is_at (R q)) es)
  lookup_insert_entry q k v es =
      ap (λ l. lookup (is_at (R q)) l) (sym (put_is R k v es))
      ∙ sym (find_is R q (put R k v es))
      ∙ find-put R o q k v es
      ∙ ap (λ b. cond b (Some v) (find R q es)) ((eq_by_cmp_equiv o).symm q k)
      ∙ ap (cond (eq_by_cmp R k q) (Some v)) (find_is R q es)

  pub lookup_set_value : (q k : K) (v : X) (es : List (K × X)) → IsSome (lookup (is_at (R k)) es) → lookup (is_at (R q)) (set_value (is_at (R k)) es v) ≡ cond (is_at (R k) q) (Some v) (lookup (is_at (R q)) es)
  lookup_set_value q k v es there = lookup-set_value (eq_by_cmp_equiv o) (is_at (R k)) (alike o k) q v es there

  pub lookup_remove_entry : (q k : K) (es : List (K × X)) → IsStrictlySortedBy R (keys_of es) → lookup (is_at (R q)) (remove_entry (is_at (R k)) es) ≡ cond (is_at (R k) q) None (lookup (is_at (R q)) es)
  lookup_remove_entry q k es s = lookup-remove_entry (eq_by_cmp_equiv o) (is_at (R k)) (alike o k) q es (IsDistinct-from_sorted R (keys_of es) s)

  -- at the key of the change
  pub lookup_inserted : (k : K) (v : X) (es : List (K × X)) → lookup (is_at (R k)) (insert_entry R es k v) ≡ Some v
  lookup_inserted k v es = lookup_insert_entry k k v es ∙ ap (λ b. cond b (Some v) (lookup (is_at (R k)) es)) (is_at_itself o k)

  pub lookup_changed : (k : K) (v : X) (es : List (K × X)) → IsSome (lookup (is_at (R k)) es) → lookup (is_at (R k)) (set_value (is_at (R k)) es v) ≡ Some v
  lookup_changed k v es there = lookup_set_value k k v es there ∙ ap (λ b. cond b (Some v) (lookup (is_at (R k)) es)) (is_at_itself o k)

  pub lookup_removed : (k : K) (es : List (K × X)) → IsStrictlySortedBy R (keys_of es) → lookup (is_at (R k)) (remove_entry (is_at (R k)) es) ≡ None
  lookup_removed k es s = lookup_remove_entry k k es s ∙ ap (λ b. cond b None (lookup (is_at (R k)) es)) (is_at_itself o k)

  -- two lists in the order of their keys, with one value at each key, are one
  pub same_lookups : IsAntisymmetric R → (es fs : List (K × X)) → IsStrictlySortedBy R (keys_of es) → IsStrictlySortedBy R (keys_of fs) → ((q : K) → lookup (is_at (R q)) es ≡ lookup (is_at (R q)) fs) → es ≡ fs
  same_lookups exact es fs s t each =
      same_entries R o exact es fs (sorted_test R es s) (sorted_test R fs t) (λ q. find_is R q es ∙ each q ∙ sym (find_is R q fs))

  -- a value written where the key is, in either of std's words
  pub insert_entry_found : IsAntisymmetric R → (k : K) (v : X) (es : List (K × X)) → IsStrictlySortedBy R (keys_of es) → IsSome (lookup (is_at (R k)) es) → insert_entry R es k v ≡ set_value (is_at (R k)) es v
  insert_entry_found exact k v es s there =
      same_lookups exact (insert_entry R es k v) (set_value (is_at (R k)) es v) (sorted_insert_entry k v es s) (sorted_set_value k v es s)
      (λ q. lookup_insert_entry q k v es ∙ sym (lookup_set_value q k v es there))
