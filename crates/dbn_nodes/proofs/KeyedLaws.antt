-- What a change of one shelf does to the counts of a table.
use Rattle.std.proofs.Common.{◌≡◌, ◌<◌, ◌+◌, ◌↔◌, IsTrue, ℕ, zero, Bool, true, false, cond, ◌&&◌, List, [], ◌∷◌, refl, sym, ap, ◌∙◌, subst, Some, None, Option, nat_lt, Result, Ok, Err, length, arith}
use Rattle.std.specs.Prelude.{IsSome, OnErr}
use Rattle.std.proofs.lemmas.Bool.{true≢false}
use Rattle.std.specs.declared.cmp.Ordering.{Ordering}
use Rattle.std.specs.Ordering.{eq_by_cmp, is_eq}
use Rattle.std.specs.Option.{unwrap_or, IfSome}
use Rattle.std.specs.Cmp.{IsTotalOrder, Equal-is, tied_itself}
use Rattle.std.specs.FinMap.{IsAntisymmetric}
use Rattle.std.specs.Map.{lookup, keys_of, set_value}
use Rattle.std.specs.BTreeMap.{is_at}
use Rattle.std.proofs.lemmas.Map.Steps.{set_value_same}
use Rattle.dbn_value.proofs.EntryLaws.{lookup_set_value}
use Rattle.dbn_nodes.specs.Tables.{shelf_count, shelf_at, count_at, IsFilled, IsTable, IsShelf, AreRowsOf}
use Rattle.dbn_nodes.proofs.ShelfLaws.{keys_have}
use Rattle.dbn_value.proofs.AscendingLaws.{sorted_nil}

module _ {K : Type 0} {R : K → K → Ordering} (o : IsTotalOrder R) (exact : IsAntisymmetric R) where
  -- a shelf is put under a key
  pub put_counts : (old new : List (K × List (K × ℕ))) (key row : K) (many : ℕ) (shelf : List (K × ℕ))
      → ((q : K) → lookup (is_at (R q)) new ≡ cond (is_at (R key) q) (Some shelf) (lookup (is_at (R q)) old))
      → ((r : K) → shelf_count R shelf r ≡ cond (is_at (R row) r) many (count_at R old key r))
      → (k r : K) → count_at R new k r ≡ cond (eq_by_cmp R key k && eq_by_cmp R row r) many (count_at R old k r)
  put_counts old new key row many shelf put counts k r = here (is_at (R key) k) refl
    where
      here : (b : Bool) → is_at (R key) k ≡ b → count_at R new k r ≡ cond (is_at (R key) k && is_at (R row) r) many (count_at R old k r)
      here true e =
          ap (λ found. shelf_count R (unwrap_or found []) r) (put k ∙ ap (λ b. cond b (Some shelf) (lookup (is_at (R k)) old)) e)
          ∙ counts r
          ∙ ap (λ x. cond (is_at (R row) r) many (count_at R old x r)) (exact key k ((Equal-is (R key k)).0 e))
          ∙ ap (λ b. cond (b && is_at (R row) r) many (count_at R old k r)) (sym e)
      here false e =
          ap (λ found. shelf_count R (unwrap_or found []) r) (put k ∙ ap (λ b. cond b (Some shelf) (lookup (is_at (R k)) old)) e)
          ∙ ap (λ b. cond (b && is_at (R row) r) many (count_at R old k r)) (sym e)

  pub put_table : (old new : List (K × List (K × ℕ))) (key : K) (shelf : List (K × ℕ))
      → ((q : K) → lookup (is_at (R q)) new ≡ cond (is_at (R key) q) (Some shelf) (lookup (is_at (R q)) old))
      → IsTable R old → IsFilled R shelf → IsTable R new
  put_table old new key shelf put table filled q = subst (λ found. IfSome found (IsFilled R)) (sym (put q)) (two (is_at (R key) q) (lookup (is_at (R q)) old) (table q))
    where
      two : (b : Bool) (found : Option (List (K × ℕ))) → IfSome found (IsFilled R) → IfSome (cond b (Some shelf) found) (IsFilled R)
      two true found h = filled
      two false found h = h

  -- the shelf of a key is changed
  pub changed_put : (old new : List (K × List (K × ℕ))) (key : K) (shelf after : List (K × ℕ)) → lookup (is_at (R key)) old ≡ Some shelf → new ≡ set_value (is_at (R key)) old after
      → (q : K) → lookup (is_at (R q)) new ≡ cond (is_at (R key) q) (Some after) (lookup (is_at (R q)) old)
  changed_put old new key shelf after was is q = ap (lookup (is_at (R q))) is ∙ lookup_set_value o q key after old (subst IsSome (sym was) refl)

  pub shelf_is : (old : List (K × List (K × ℕ))) (key : K) (shelf : List (K × ℕ)) → lookup (is_at (R key)) old ≡ Some shelf → shelf ≡ shelf_at R old key
  shelf_is old key shelf was = sym (ap (λ found. unwrap_or found []) was)

  pub changed_counts : (old new : List (K × List (K × ℕ))) (key row : K) (many : ℕ) (shelf after : List (K × ℕ)) → lookup (is_at (R key)) old ≡ Some shelf → new ≡ set_value (is_at (R key)) old after
      → ((r : K) → shelf_count R after r ≡ cond (is_at (R row) r) many (shelf_count R shelf r))
      → (k r : K) → count_at R new k r ≡ cond (eq_by_cmp R key k && eq_by_cmp R row r) many (count_at R old k r)
  changed_counts old new key row many shelf after was is counts =
      put_counts old new key row many after (changed_put old new key shelf after was is) (λ r. counts r ∙ ap (λ s. cond (is_at (R row) r) many (shelf_count R s r)) (shelf_is old key shelf was))

  pub changed_table : (old new : List (K × List (K × ℕ))) (key : K) (shelf after : List (K × ℕ)) → lookup (is_at (R key)) old ≡ Some shelf → new ≡ set_value (is_at (R key)) old after
      → IsTable R old → IsFilled R after → IsTable R new
  changed_table old new key shelf after was is = put_table old new key after (changed_put old new key shelf after was is)

  pub unchanged : (old new : List (K × List (K × ℕ))) (key : K) (shelf after : List (K × ℕ)) → lookup (is_at (R key)) old ≡ Some shelf → new ≡ set_value (is_at (R key)) old after → after ≡ shelf → new ≡ old
  unchanged old new key shelf after was is same = is ∙ ap (set_value (is_at (R key)) old) same ∙ set_value_same (is_at (R key)) old shelf was

  pub filled_set : (after : List (K × ℕ)) (row : K) (many : ℕ) (rest : K → ℕ) → ((r : K) → shelf_count R after r ≡ cond (is_at (R row) r) many (rest r)) → 0 < many → IsFilled R after
  filled_set after row many rest counts some = (row, subst (λ (n : ℕ). 0 < n) (sym (counts row ∙ ap (λ b. cond b many (rest row)) (ap is_eq (tied_itself o row)))) some)

  -- a key that was not there is put in
  pub new_counts : (old new : List (K × List (K × ℕ))) (key row : K) (many : ℕ) (shelf : List (K × ℕ)) → lookup (is_at (R key)) old ≡ None
      → ((q : K) → lookup (is_at (R q)) new ≡ cond (is_at (R key) q) (Some shelf) (lookup (is_at (R q)) old))
      → ((r : K) → shelf_count R shelf r ≡ cond (is_at (R row) r) many 0)
      → (k r : K) → count_at R new k r ≡ cond (eq_by_cmp R key k && eq_by_cmp R row r) many (count_at R old k r)
  new_counts old new key row many shelf was put counts =
      put_counts old new key row many shelf put (λ r. counts r ∙ ap (λ (found : Option (List (K × ℕ))). cond (is_at (R row) r) many (shelf_count R (unwrap_or found []) r)) (sym was))

  -- the shelf of a key is changed and then let go
  pub taken_put : (old mid new : List (K × List (K × ℕ))) (key : K) (shelf after : List (K × ℕ)) → lookup (is_at (R key)) old ≡ Some shelf → mid ≡ set_value (is_at (R key)) old after
      → ((q : K) → lookup (is_at (R q)) new ≡ cond (is_at (R key) q) None (lookup (is_at (R q)) mid))
      → (q : K) → lookup (is_at (R q)) new ≡ cond (is_at (R key) q) None (lookup (is_at (R q)) old)
  taken_put old mid new key shelf after was is taken q = taken q ∙ ap (cond (is_at (R key) q) None) (changed_put old mid key shelf after was is q) ∙ two (is_at (R key) q) (lookup (is_at (R q)) old)
    where
      two : (b : Bool) (found : Option (List (K × ℕ))) → cond b None (cond b (Some after) found) ≡ cond b None found
      two true found = refl
      two false found = refl

  pub taken_counts : (old new : List (K × List (K × ℕ))) (key row : K)
      → ((q : K) → lookup (is_at (R q)) new ≡ cond (is_at (R key) q) None (lookup (is_at (R q)) old))
      → ((r : K) → count_at R old key r ≡ cond (is_at (R row) r) (count_at R old key row) 0)
      → (k r : K) → count_at R new k r ≡ cond (eq_by_cmp R key k && eq_by_cmp R row r) 0 (count_at R old k r)
  taken_counts old new key row taken gone k r = here (is_at (R key) k) refl
    where
      none_left : is_at (R key) k ≡ true → (b : Bool) → is_at (R row) r ≡ b → zero ≡ cond b 0 (count_at R old k r)
      none_left e true f = refl
      none_left e false f =
          sym (ap (λ x. count_at R old x r) (sym (exact key k ((Equal-is (R key k)).0 e))) ∙ gone r ∙ ap (λ b. cond b (count_at R old key row) 0) f)

      here : (b : Bool) → is_at (R key) k ≡ b → count_at R new k r ≡ cond (is_at (R key) k && is_at (R row) r) 0 (count_at R old k r)
      here true e =
          ap (λ found. shelf_count R (unwrap_or found []) r) (taken k ∙ ap (λ b. cond b None (lookup (is_at (R k)) old)) e)
          ∙ none_left e (is_at (R row) r) refl
          ∙ ap (λ b. cond (b && is_at (R row) r) 0 (count_at R old k r)) (sym e)
      here false e =
          ap (λ found. shelf_count R (unwrap_or found []) r) (taken k ∙ ap (λ b. cond b None (lookup (is_at (R k)) old)) e)
          ∙ ap (λ b. cond (b && is_at (R row) r) 0 (count_at R old k r)) (sym e)

  pub taken_table : (old new : List (K × List (K × ℕ))) (key : K) → ((q : K) → lookup (is_at (R q)) new ≡ cond (is_at (R key) q) None (lookup (is_at (R q)) old)) → IsTable R old → IsTable R new
  taken_table old new key taken table q = subst (λ found. IfSome found (IsFilled R)) (sym (taken q)) (two (is_at (R key) q) (lookup (is_at (R q)) old) (table q))
    where
      two : (b : Bool) (found : Option (List (K × ℕ))) → IfSome found (IsFilled R) → IfSome (cond b None found) (IsFilled R)
      two true found h = tt
      two false found h = h

  -- the count of a row, by the shelf that a look-up found
  pub told_at : (table same : List (K × List (K × ℕ))) (key row : K) (shelf : List (K × ℕ)) (many : ℕ) → table ≡ same → Some shelf ≡ lookup (is_at (R key)) table → many ≡ shelf_count R shelf row → many ≡ count_at R same key row
  told_at table same key row shelf many is was told = told ∙ ap (λ s. shelf_count R s row) (shelf_is table key shelf (sym was)) ∙ ap (λ t. count_at R t key row) is

  pub told_none : (table same : List (K × List (K × ℕ))) (key row : K) → table ≡ same → None ≡ lookup (is_at (R key)) table → 0 ≡ count_at R same key row
  told_none table same key row is was = sym (ap (λ (found : Option (List (K × ℕ))). shelf_count R (unwrap_or found []) row) (sym was)) ∙ ap (λ t. count_at R t key row) is

  -- the count of a row is one more
  pub raised_counts : (old new same : List (K × List (K × ℕ))) (key row : K) (shelf after : List (K × ℕ)) → old ≡ same → lookup (is_at (R key)) old ≡ Some shelf → new ≡ set_value (is_at (R key)) old after
      → ((r : K) → shelf_count R after r ≡ cond (is_at (R row) r) (shelf_count R shelf row + 1) (shelf_count R shelf r))
      → (k r : K) → count_at R new k r ≡ cond (eq_by_cmp R key k && eq_by_cmp R row r) (count_at R same key row + 1) (count_at R same k r)
  raised_counts old new same key row shelf after same_is was is counts k r =
      changed_counts old new key row (shelf_count R shelf row + 1) shelf after was is counts k r
      ∙ ap (λ (n : ℕ). cond (eq_by_cmp R key k && eq_by_cmp R row r) (n + 1) (count_at R old k r)) (told_at old same key row shelf (shelf_count R shelf row) same_is (sym was) refl)
      ∙ ap (λ t. cond (eq_by_cmp R key k && eq_by_cmp R row r) (count_at R same key row + 1) (count_at R t k r)) same_is

  pub first_counts : (old mid new same : List (K × List (K × ℕ))) (key row : K) (shelf : List (K × ℕ)) → old ≡ same → mid ≡ old → lookup (is_at (R key)) old ≡ None
      → ((q : K) → lookup (is_at (R q)) new ≡ cond (is_at (R key) q) (Some shelf) (lookup (is_at (R q)) mid))
      → ((r : K) → shelf_count R shelf r ≡ cond (is_at (R row) r) 1 0)
      → (k r : K) → count_at R new k r ≡ cond (eq_by_cmp R key k && eq_by_cmp R row r) (count_at R same key row + 1) (count_at R same k r)
  first_counts old mid new same key row shelf same_is mid_is was put counts k r =
      new_counts old new key row 1 shelf was (λ q. put q ∙ ap (λ t. cond (is_at (R key) q) (Some shelf) (lookup (is_at (R q)) t)) mid_is) counts k r
      ∙ ap (λ (n : ℕ). cond (eq_by_cmp R key k && eq_by_cmp R row r) (n + 1) (count_at R old k r)) (told_none old same key row same_is (sym was))
      ∙ ap (λ t. cond (eq_by_cmp R key k && eq_by_cmp R row r) (count_at R same key row + 1) (count_at R t k r)) same_is

  pub first_table : (old mid new : List (K × List (K × ℕ))) (key row : K) (shelf : List (K × ℕ)) → mid ≡ old
      → ((q : K) → lookup (is_at (R q)) new ≡ cond (is_at (R key) q) (Some shelf) (lookup (is_at (R q)) mid))
      → ((r : K) → shelf_count R shelf r ≡ cond (is_at (R row) r) 1 0) → IsTable R old → IsTable R new
  first_table old mid new key row shelf mid_is put counts table =
      put_table old new key shelf (λ q. put q ∙ ap (λ t. cond (is_at (R key) q) (Some shelf) (lookup (is_at (R q)) t)) mid_is) table (filled_set shelf row 1 (λ q. 0) counts (omega arith))

  -- a key that is not there has no counts, and taking it out changes none
  pub absent_counts : (old : List (K × List (K × ℕ))) (key row : K) → lookup (is_at (R key)) old ≡ None
      → (k r : K) → count_at R old k r ≡ cond (eq_by_cmp R key k && eq_by_cmp R row r) 0 (count_at R old k r)
  absent_counts old key row was k r = here (is_at (R key) k) (is_at (R row) r) refl
    where
      here : (b c : Bool) → is_at (R key) k ≡ b → count_at R old k r ≡ cond (b && c) 0 (count_at R old k r)
      here true true e = ap (λ x. count_at R old x r) (sym (exact key k ((Equal-is (R key k)).0 e))) ∙ ap (λ (found : Option (List (K × ℕ))). shelf_count R (unwrap_or found []) r) was
      here true false e = refl
      here false c e = refl

  -- ---- empty tables

  pub none_at : (table : List (K × List (K × ℕ))) → length table ≡ 0 → (k r : K) → count_at R table k r ≡ 0
  none_at [] e k r = refl
  none_at (x ∷ table) e k r = absurd (omega arith)

  pub none_there : (table : List (K × List (K × ℕ))) → IsTable R table → ((k r : K) → count_at R table k r ≡ 0) → length table ≡ 0
  none_there [] table none = refl
  none_there (e ∷ es) table none =
      let same : is_at (R e.0) e.0 ≡ true = ap is_eq (tied_itself o e.0) in
      let some = subst (λ b. IfSome (cond b (Some e.1) (lookup (is_at (R e.0)) es)) (IsFilled R)) same (table e.0) in
      let here : shelf_count R e.1 some.0 ≡ 0 = subst (λ b. shelf_count R (unwrap_or (cond b (Some e.1) (lookup (is_at (R e.0)) es)) []) some.0 ≡ 0) same (none e.0 some.0) in
      absurd (below_none (shelf_count R e.1 some.0) some.1 here)
    where
      below_none : (n : ℕ) → 0 < n → n ≡ 0 → ⊥
      below_none n some e = omega arith

  -- ---- whether each row under a key is under it in another table

  none_below : (n : ℕ) → 0 < n → n ≡ 0 → ⊥
  none_below n some e = omega arith

  no_count : (table : List (K × List (K × ℕ))) (key r : K) → lookup (is_at (R key)) table ≡ None → count_at R table key r ≡ 0
  no_count table key r was = ap (λ (found : Option (List (K × ℕ))). shelf_count R (unwrap_or found []) r) was

  pub found_at : (table same : List (K × List (K × ℕ))) (key : K) (found : Option (List (K × ℕ))) → table ≡ same → found ≡ lookup (is_at (R key)) table → lookup (is_at (R key)) same ≡ found
  found_at table same key found is was = sym (was ∙ ap (lookup (is_at (R key))) is)

  pub within_key : (table other : List (K × List (K × ℕ))) (key at : K) (b : Bool) → key ≡ at
      → (IsTrue b ↔ ((r : K) → 0 < count_at R table key r → 0 < count_at R other key r)) → IsTrue b ↔ ((r : K) → 0 < count_at R table at r → 0 < count_at R other at r)
  within_key table other key at b is both = subst (λ k. IsTrue b ↔ ((r : K) → 0 < count_at R table k r → 0 < count_at R other k r)) is both

  pub within_found : (table other : List (K × List (K × ℕ))) (key : K) (shelf others : List (K × ℕ)) (b : Bool) → lookup (is_at (R key)) table ≡ Some shelf → lookup (is_at (R key)) other ≡ Some others
      → (IsTrue b ↔ ((r : K) → 0 < shelf_count R shelf r → 0 < shelf_count R others r)) → IsTrue b ↔ ((r : K) → 0 < count_at R table key r → 0 < count_at R other key r)
  within_found table other key shelf others b was is both =
      subst (λ s. IsTrue b ↔ ((r : K) → 0 < shelf_count R s r → 0 < count_at R other key r)) (shelf_is table key shelf was)
      (subst (λ s. IsTrue b ↔ ((r : K) → 0 < shelf_count R shelf r → 0 < shelf_count R s r)) (shelf_is other key others is) both)

  -- a key that is there has a row, which the other table doesn't have
  pub within_left : (table other : List (K × List (K × ℕ))) (key : K) (shelf : List (K × ℕ)) → IsTable R table → lookup (is_at (R key)) table ≡ Some shelf → lookup (is_at (R key)) other ≡ None
      → IsTrue false ↔ ((r : K) → 0 < count_at R table key r → 0 < count_at R other key r)
  within_left table other key shelf held was is = (
    λ t. absurd (true≢false (sym t)),
    λ within.
        let filled = subst (λ found. IfSome found (IsFilled R)) was (held key) in
        absurd (none_below (count_at R other key filled.0) (within filled.0 (subst (λ s. 0 < shelf_count R s filled.0) (shelf_is table key shelf was) filled.1)) (no_count other key filled.0 is)),
  )

  -- ---- the rows of a key

  pub rows_found : (table : List (K × List (K × ℕ))) (key : K) (shelf : List (K × ℕ)) (rows : List K) → lookup (is_at (R key)) table ≡ Some shelf → IsShelf R shelf → rows ≡ keys_of shelf → AreRowsOf R table key rows
  rows_found table key shelf rows was held is = subst (AreRowsOf R table key) (sym is) (record {
    ascends = held.ascends;
    members = λ row. keys_have o exact shelf held row ∙ ap (λ found. nat_lt 0 (shelf_count R (unwrap_or found []) row)) (sym was);
  })

  pub rows_none : (table : List (K × List (K × ℕ))) (key : K) (rows : List K) → lookup (is_at (R key)) table ≡ None → rows ≡ [] → AreRowsOf R table key rows
  rows_none table key rows was is = subst (AreRowsOf R table key) (sym is) (record {
    ascends = sorted_nil R;
    members = λ row. ap (λ (found : Option (List (K × ℕ))). nat_lt 0 (shelf_count R (unwrap_or found []) row)) (sym was);
  })

-- a choice by the key and the row
abbrev pub if_both : {K : Type 0} → (K → K → Ordering) → K → K → K → K → ℕ → ℕ → ℕ
if_both R key row k r m n = cond (eq_by_cmp R key k && eq_by_cmp R row r) m n

pub on_err : {T E P : Type 0} (r : Result T E) → P → OnErr r P
on_err (Ok x) p = tt
on_err (Err e) p = p

-- the key, the row and the count by other names
pub counts_named : {K : Type 0} (R : K → K → Ordering) (new old : List (K × List (K × ℕ))) (key at row copy : K) (m n : ℕ) → key ≡ at → copy ≡ row → m ≡ n
    → ((k r : K) → count_at R new k r ≡ cond (eq_by_cmp R key k && eq_by_cmp R copy r) m (count_at R old k r))
    → (k r : K) → count_at R new k r ≡ cond (eq_by_cmp R at k && eq_by_cmp R row r) n (count_at R old k r)
counts_named R new old key at row copy m n key_is copy_is m_is counts k r =
    counts k r
    ∙ ap (λ x. cond (eq_by_cmp R x k && eq_by_cmp R copy r) m (count_at R old k r)) key_is
    ∙ ap (λ x. cond (eq_by_cmp R at k && eq_by_cmp R x r) m (count_at R old k r)) copy_is
    ∙ ap (λ x. cond (eq_by_cmp R at k && eq_by_cmp R row r) x (count_at R old k r)) m_is

-- a count that is taken out and put back one less
pub lowered_counts : {K : Type 0} (R : K → K → Ordering) (new mid old : List (K × List (K × ℕ))) (key again at row copy : K) (m n : ℕ) → key ≡ at → again ≡ at → copy ≡ row → m ≡ n
    → ((k r : K) → count_at R mid k r ≡ cond (eq_by_cmp R key k && eq_by_cmp R row r) 0 (count_at R old k r))
    → ((k r : K) → count_at R new k r ≡ cond (eq_by_cmp R again k && eq_by_cmp R copy r) m (count_at R mid k r))
    → (k r : K) → count_at R new k r ≡ cond (eq_by_cmp R at k && eq_by_cmp R row r) n (count_at R old k r)
lowered_counts R new mid old key again at row copy m n key_is again_is copy_is m_is taken put k r =
    counts_named R new mid again at row copy m n again_is copy_is m_is put k r
    ∙ ap (cond (eq_by_cmp R at k && eq_by_cmp R row r) n) (counts_named R mid old key at row row 0 0 key_is refl refl taken k r)
    ∙ over (eq_by_cmp R at k && eq_by_cmp R row r)
  where
    over : (b : Bool) → cond b n (cond b 0 (count_at R old k r)) ≡ cond b n (count_at R old k r)
    over true = refl
    over false = refl
