-- Where events lead: rows that all come, rows that all go, and one event of an input.
use Rattle.std.proofs.Common.{◌≡◌, ◌⊎◌, inl, inr, ⊎_elim, Bool, true, false, List, [], ◌∷◌, ◌++◌, map, refl, sym, ap, ◌∙◌, subst}
use Rattle.std.specs.declared.cmp.Ordering.{Ordering}
use Rattle.std.specs.Ordering.{eq_by_cmp, is_eq}
use Rattle.std.specs.Cmp.{IsTotalOrder, Equal-is, tied_itself}
use Rattle.std.specs.Cmp.Lexicographic.{slice_cmp, lists_total}
use Rattle.std.specs.FinMap.{IsAntisymmetric, slice_cmp-IsAntisymmetric}
use Rattle.std.specs.List.Sorted.{IsStrictlySortedBy}
use Rattle.std.specs.BTreeMap.{is_at}
use Rattle.std.specs.BTreeSet.{insert_key}
use Rattle.std.specs.Set.{remove_key}
use Rattle.std.proofs.lemmas.Bool.{true≢false, false_from_ne_true}
use Rattle.dbn_value.specs.Members.{In}
use Rattle.dbn_value.proofs.AscendingLaws.{in_insert_key, insert_key_old, insert_key_new, sorted_insert_key, sorted_remove_key, in_remove_key, remove_key_other, same_members, any_from_in, in_from_any}
use Rattle.dbn_nodes.specs.declared.event.Event.{Event}
use Rattle.dbn_nodes.specs.declared.event.Event.TheVariants as event
use Rattle.dbn_nodes.specs.Tables.{has}
use Rattle.dbn_nodes.specs.Changes.{row_in, comes, signed, Leads}

-- no row twice
abbrev pub Apart : {A : Type 0} → List A → Type 0
Apart [] = Unit {0}
Apart (x ∷ xs) = (In x xs → ⊥) × Apart xs

-- t is s and these rows, of which none was there
pub record Adds {A : Type 0} (s rows t : List A) : Type 0 where
  pub apart : Apart rows
  pub fresh : (x : A) → In x rows → In x s → ⊥
  pub back : (x : A) → In x t → In x rows ⊎ In x s
  pub front : (x : A) → In x rows → In x t
  pub keep : (x : A) → In x s → In x t

-- the rows come or go
abbrev pub Moves : {A : Type 0} → Bool → List A → List A → List A → Type 0
Moves true s rows t = Adds s rows t
Moves false s rows t = Adds t rows s

module _ {C : Type 0} {R : C → C → Ordering} (o : IsTotalOrder R) (exact : IsAntisymmetric R) where
  pub rows_exact : IsAntisymmetric (slice_cmp R)
  rows_exact = slice_cmp-IsAntisymmetric exact

  pub row_in_rows : (row : List C) (rows : List (List C)) → has (slice_cmp R) rows row ≡ true → In row rows
  row_in_rows row rows e = in_from_any (lists_total o) rows_exact row rows e

  pub in_row : (row : List C) (rows : List (List C)) → In row rows → has (slice_cmp R) rows row ≡ true
  in_row row rows at = any_from_in (lists_total o) row rows at

  pub not_row : (row : List C) (rows : List (List C)) → (In row rows → ⊥) → has (slice_cmp R) rows row ≡ false
  not_row row rows none = false_from_ne_true (has (slice_cmp R) rows row) (λ e. none (row_in_rows row rows e))

  pub row_not : (row : List C) (rows : List (List C)) → has (slice_cmp R) rows row ≡ false → In row rows → ⊥
  row_not row rows e at = true≢false (sym (in_row row rows at) ∙ e)

  pub itself : (row : List C) → eq_by_cmp (slice_cmp R) row row ≡ true
  itself row = ap is_eq (tied_itself (lists_total o) row)

  pub same_row : (a b : List C) → eq_by_cmp (slice_cmp R) a b ≡ true → a ≡ b
  same_row a b e = rows_exact a b ((Equal-is (slice_cmp R a b)).0 e)

  pub other_row : (a b : List C) → (a ≡ b → ⊥) → eq_by_cmp (slice_cmp R) a b ≡ false
  other_row a b none = false_from_ne_true (eq_by_cmp (slice_cmp R) a b) (λ e. none (same_row a b e))

  pub nothing_added : (s t : List (List C)) → IsStrictlySortedBy (slice_cmp R) s → IsStrictlySortedBy (slice_cmp R) t → Adds s [] t → s ≡ t
  nothing_added s t ss st a = same_members (lists_total o) s t ss st (λ q at. a.keep q at) (λ q at. ⊎_elim (λ none. absurd none) (λ there. there) (a.back q at))

  pub plus_all : (rows s t : List (List C)) → IsStrictlySortedBy (slice_cmp R) s → IsStrictlySortedBy (slice_cmp R) t → Adds s rows t → Leads R s (map (signed true) rows) t
  plus_all [] s t ss st a = nothing_added s t ss st a
  plus_all (r ∷ rows) s t ss st a = (
    not_row r s (λ at. a.fresh r (inl refl) at),
    plus_all rows (insert_key (slice_cmp R) s r) t (sorted_insert_key (lists_total o) r s ss) st (record {
      apart = a.apart.1;
      fresh = λ x at was. ⊎_elim (λ e. a.apart.0 (subst (λ z. In z rows) e at)) (λ old. a.fresh x (inr at) old) (in_insert_key (slice_cmp R) r x s was);
      back = λ x at. ⊎_elim (λ new. ⊎_elim (λ e. inr (subst (λ z. In z (insert_key (slice_cmp R) s r)) (sym e) (insert_key_new (lists_total o) rows_exact r s))) (λ more. inl more) new)
          (λ old. inr (insert_key_old (slice_cmp R) r x s old)) (a.back x at);
      front = λ x at. a.front x (inr at);
      keep = λ x at. ⊎_elim (λ e. subst (λ z. In z t) (sym e) (a.front r (inl refl))) (λ old. a.keep x old) (in_insert_key (slice_cmp R) r x s at);
    }),
  )

  pub minus_all : (rows s t : List (List C)) → IsStrictlySortedBy (slice_cmp R) s → IsStrictlySortedBy (slice_cmp R) t → Adds s rows t → Leads R t (map (signed false) rows) s
  minus_all [] s t ss st a = sym (nothing_added s t ss st a)
  minus_all (r ∷ rows) s t ss st a = (
    in_row r t (a.front r (inl refl)),
    minus_all rows s (remove_key (is_at (slice_cmp R r)) t) ss (sorted_remove_key (lists_total o) r t st) (record {
      apart = a.apart.1;
      fresh = λ x at was. a.fresh x (inr at) was;
      back = λ x at.
          let left = in_remove_key (lists_total o) r x t st at in
          ⊎_elim (λ new. ⊎_elim (λ e. absurd (true≢false (sym (itself r) ∙ ap (eq_by_cmp (slice_cmp R) r) (sym e) ∙ left.1))) (λ more. inl more) new) (λ old. inr old) (a.back x left.0);
      front = λ x at. remove_key_other (lists_total o) r x t st (a.front x (inr at)) (other_row r x (λ e. a.apart.0 (subst (λ z. In z rows) (sym e) at)));
      keep = λ x at. remove_key_other (lists_total o) r x t st (a.keep x at) (other_row r x (λ e. a.fresh r (inl refl) (subst (λ z. In z s) (sym e) at)));
    }),
  )

  pub leads_on : (es fs : List (Event C)) (s t u : List (List C)) → Leads R s es t → Leads R t fs u → Leads R s (es ++ fs) u
  leads_on [] fs s t u l m = subst (λ x. Leads R x fs u) (sym l) m
  leads_on (event.Plus row ∷ es) fs s t u l m = (l.0, leads_on es fs (insert_key (slice_cmp R) s row) t u l.1 m)
  leads_on (event.Minus row ∷ es) fs s t u l m = (l.0, leads_on es fs (remove_key (is_at (slice_cmp R row)) s) t u l.1 m)

  -- the row moves from the one list to the other
  pub one_moves : (e : Event C) (s z : List (List C)) → IsStrictlySortedBy (slice_cmp R) s → Leads R s (e ∷ []) z → Moves (comes e) s (row_in e ∷ []) z
  one_moves (event.Plus r) s z ss l = subst (λ x. Adds s (r ∷ []) x) l.1 (record {
    apart = (λ none. none, tt);
    fresh = λ x at was. ⊎_elim (λ e. row_not r s l.0 (subst (λ y. In y s) e was)) (λ none. none) at;
    back = λ x at. ⊎_elim (λ e. inl (inl e)) (λ old. inr old) (in_insert_key (slice_cmp R) r x s at);
    front = λ x at. ⊎_elim (λ e. subst (λ y. In y (insert_key (slice_cmp R) s r)) (sym e) (insert_key_new (lists_total o) rows_exact r s)) (λ none. absurd none) at;
    keep = λ x at. insert_key_old (slice_cmp R) r x s at;
  })
  one_moves (event.Minus r) s z ss l = subst (λ x. Adds x (r ∷ []) s) l.1 (record {
    apart = (λ none. none, tt);
    fresh = λ x at was. ⊎_elim (λ e. true≢false (sym (itself r) ∙ ap (eq_by_cmp (slice_cmp R) r) (sym e) ∙ (in_remove_key (lists_total o) r x s ss was).1)) (λ none. none) at;
    back = λ x at. out (eq_by_cmp (slice_cmp R) r x) x refl at;
    front = λ x at. ⊎_elim (λ e. subst (λ y. In y s) (sym e) (row_in_rows r s l.0)) (λ none. absurd none) at;
    keep = λ x at. (in_remove_key (lists_total o) r x s ss at).0;
  })
    where
      out : (b : Bool) → (x : List C) → eq_by_cmp (slice_cmp R) r x ≡ b → In x s → In x (r ∷ []) ⊎ In x (remove_key (is_at (slice_cmp R r)) s)
      out true x e at = inl (inl (sym (same_row r x e)))
      out false x e at = inr (remove_key_other (lists_total o) r x s ss at e)

  pub moves_lead : (b : Bool) (s rows t : List (List C)) → IsStrictlySortedBy (slice_cmp R) s → IsStrictlySortedBy (slice_cmp R) t → Moves b s rows t → Leads R s (map (signed b) rows) t
  moves_lead true s rows t ss st a = plus_all rows s t ss st a
  moves_lead false s rows t ss st a = minus_all rows t s st ss a

  -- events that led to s, and then rows that move
  pub moved_on : (b : Bool) (begin s rows t : List (List C)) (was out : List (Event C)) → IsStrictlySortedBy (slice_cmp R) s → IsStrictlySortedBy (slice_cmp R) t → Moves b s rows t
      → Leads R begin was s → out ≡ was ++ map (signed b) rows → Leads R begin out t
  moved_on b begin s rows t was out ss st a l is = subst (λ es. Leads R begin es t) (sym is) (leads_on was (map (signed b) rows) begin s t l (moves_lead b s rows t ss st a))
