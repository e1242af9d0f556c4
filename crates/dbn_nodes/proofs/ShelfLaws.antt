-- A shelf with one row, and what a change does to the counts.
use Rattle.std.proofs.Common.{◌≡◌, ◌<◌, ◌+◌, ℕ, zero, suc, Bool, true, false, cond, ◌&&◌, ◌||◌, ◌↔◌, IsTrue, nat_lt, is_some, List, [], ◌∷◌, refl, sym, ap, ◌∙◌, subst, Some, None, Option, length, arith}
use Rattle.std.specs.declared.cmp.Ordering.{Ordering}
use Rattle.std.specs.Ordering.{is_eq}
use Rattle.std.specs.Option.{unwrap_or, IfSome}
use Rattle.std.specs.Cmp.{IsTotalOrder, Equal-is, tied_itself}
use Rattle.std.specs.FinMap.{IsAntisymmetric}
use Rattle.std.specs.Map.{lookup, keys_of, set_value}
use Rattle.std.specs.BTreeMap.{is_at, insert_entry}
use Rattle.std.specs.List.{list_all}
use Rattle.std.specs.List.Sorted.{IsStrictlySortedBy}
use Rattle.dbn_value.proofs.MemberLaws.{all_at, all_from}
use Rattle.dbn_value.proofs.AscendingLaws.{sorted_one, any_from_in, in_from_any}
use Rattle.dbn_value.proofs.EntryLaws.{lookup_insert_entry, lookup_set_value}
use Rattle.std.specs.Prelude.{IsSome}
use Rattle.std.proofs.lemmas.Map.{keys-set_value}
use Rattle.std.proofs.lemmas.Bool.Decides.{nat_tests}
use Rattle.dbn_nodes.specs.Tables.{shelf_count, IsShelf, IsFilled, has}

pub nil_of : {A : Type 0} (xs : List A) → length xs ≡ 0 → xs ≡ []
nil_of [] e = refl
nil_of (x ∷ xs) e = absurd (omega arith)

pub some_of : (n : ℕ) → nat_lt 0 n ≡ true → 0 < n
some_of n e = grind (arith, nat_tests)

pub of_some : (n : ℕ) → 0 < n → nat_lt 0 n ≡ true
of_some n some = grind (arith, nat_tests)

module _ {K : Type 0} {R : K → K → Ordering} (o : IsTotalOrder R) (exact : IsAntisymmetric R) where
  pub one_count : (row own : K) (many : ℕ) (b : Bool) → is_eq (R row own) ≡ b → cond b many 0 ≡ shelf_count R ((own, many) ∷ []) row
  one_count row own many true e = rw e refl
  one_count row own many false e = rw e refl

  pub filled_put : (es fs : List (K × ℕ)) (k : K) (v : ℕ) → 0 < v → ((q : K) → lookup (is_at (R q)) fs ≡ cond (is_at (R k) q) (Some v) (lookup (is_at (R q)) es))
      → ((q : K) → IfSome (lookup (is_at (R q)) es) (λ n. 0 < n)) → IsStrictlySortedBy R (keys_of fs) → IsShelf R fs
  filled_put es fs k v some is filled sorted = record {
    ascends = sorted;
    filled = λ q. subst (λ found. IfSome found (λ n. 0 < n)) (sym (is q)) (pick_one (is_at (R k) q) (lookup (is_at (R q)) es) (filled q));
  }
    where
      pick_one : (b : Bool) (found : Option ℕ) → IfSome found (λ n. 0 < n) → IfSome (cond b (Some v) found) (λ n. 0 < n)
      pick_one true found h = some
      pick_one false found h = h

  pub one_filled : (row : K) (many : ℕ) → 0 < many → IsShelf R ((row, many) ∷ [])
  one_filled row many some = filled_put [] ((row, many) ∷ []) row many some (λ q. lookup_insert_entry o q row many []) (λ q. tt) (sorted_one R row)

  -- counts after an entry is put in
  pub put_count : (es : List (K × ℕ)) (k : K) (v : ℕ) (q : K) → shelf_count R (insert_entry R es k v) q ≡ cond (is_at (R k) q) v (shelf_count R es q)
  put_count es k v q = ap (λ found. unwrap_or found 0) (lookup_insert_entry o q k v es) ∙ two (is_at (R k) q) (lookup (is_at (R q)) es)
    where
      two : (b : Bool) (found : Option ℕ) → unwrap_or (cond b (Some v) found) 0 ≡ cond b v (unwrap_or found 0)
      two true found = refl
      two false found = refl

  pub one_is : (row : K) (many : ℕ) (q : K) → shelf_count R ((row, many) ∷ []) q ≡ cond (is_at (R row) q) many 0
  one_is row many q = put_count [] row many q

  -- the one row's count is changed
  pub one_changed : (row own : K) (held many : ℕ) → is_eq (R row own) ≡ true → (q : K) → shelf_count R ((own, many) ∷ []) q ≡ cond (is_at (R row) q) many (shelf_count R ((own, held) ∷ []) q)
  one_changed row own held many e q =
      subst (λ x. shelf_count R ((own, many) ∷ []) q ≡ cond (is_at (R x) q) many (shelf_count R ((own, held) ∷ []) q)) (sym (exact row own ((Equal-is (R row own)).0 e)))
      (one_is own many q ∙ over (is_at (R own) q) ∙ ap (cond (is_at (R own) q) many) (sym (one_is own held q)))
    where
      over : (b : Bool) → cond b many 0 ≡ cond b many (cond b held 0)
      over true = refl
      over false = refl

  pub one_held : (own : K) (held : ℕ) → IsShelf R ((own, held) ∷ []) → 0 < held
  one_held own held inv = subst (λ b. IfSome (cond b (Some held) None) (λ n. 0 < n)) (ap is_eq (tied_itself o own)) (inv.filled own)

  pub one_same : (row own : K) (held : ℕ) → is_eq (R row own) ≡ true → (q : K) → shelf_count R ((own, held) ∷ []) q ≡ cond (is_at (R row) q) (shelf_count R ((own, held) ∷ []) row) 0
  one_same row own held e q =
      subst (λ x. shelf_count R ((own, held) ∷ []) q ≡ cond (is_at (R x) q) (shelf_count R ((own, held) ∷ []) x) 0) (sym (exact row own ((Equal-is (R row own)).0 e)))
      (one_is own held q ∙ ap (λ n. cond (is_at (R own) q) n 0) (sym (one_is own held own ∙ ap (λ b. cond b held 0) (ap is_eq (tied_itself o own)))))

  -- a change that the shelf of another row does not see
  pub absent_same : (es : List (K × ℕ)) (row : K) → shelf_count R es row ≡ 0 → (q : K) → shelf_count R es q ≡ cond (is_at (R row) q) 0 (shelf_count R es q)
  absent_same es row none q = here (is_at (R row) q) refl
    where
      here : (b : Bool) → is_at (R row) q ≡ b → shelf_count R es q ≡ cond b 0 (shelf_count R es q)
      here true e = subst (λ x. shelf_count R es x ≡ 0) (exact row q ((Equal-is (R row q)).0 e)) none
      here false e = refl

  pub taken_left : (es fs : List (K × ℕ)) (k : K) → ((q : K) → lookup (is_at (R q)) fs ≡ cond (is_at (R k) q) None (lookup (is_at (R q)) es)) → (q : K)
      → shelf_count R fs q ≡ cond (is_at (R k) q) 0 (shelf_count R es q)
  taken_left es fs k is q = ap (λ found. unwrap_or found 0) (is q) ∙ two (is_at (R k) q) (lookup (is_at (R q)) es)
    where
      two : (b : Bool) (found : Option ℕ) → unwrap_or (cond b None found) 0 ≡ cond b 0 (unwrap_or found 0)
      two true found = refl
      two false found = refl

  pub taken_gone : (es fs : List (K × ℕ)) (k : K) → ((q : K) → lookup (is_at (R q)) fs ≡ cond (is_at (R k) q) None (lookup (is_at (R q)) es)) → fs ≡ [] → (q : K)
      → shelf_count R es q ≡ cond (is_at (R k) q) (shelf_count R es k) 0
  taken_gone es fs k is none q = here (is_at (R k) q) refl
    where
      here : (b : Bool) → is_at (R k) q ≡ b → shelf_count R es q ≡ cond b (shelf_count R es k) 0
      here true e = ap (shelf_count R es) (sym (exact k q ((Equal-is (R k q)).0 e)))
      here false e = sym (ap (λ b. cond b 0 (shelf_count R es q)) e) ∙ sym (taken_left es fs k is q) ∙ ap (λ l. shelf_count R l q) none

  pub filled_taken : (es fs : List (K × ℕ)) (k : K) → ((q : K) → lookup (is_at (R q)) fs ≡ cond (is_at (R k) q) None (lookup (is_at (R q)) es))
      → ((q : K) → IfSome (lookup (is_at (R q)) es) (λ n. 0 < n)) → IsStrictlySortedBy R (keys_of fs) → IsShelf R fs
  filled_taken es fs k is filled sorted = record {
    ascends = sorted;
    filled = λ q. subst (λ found. IfSome found (λ n. 0 < n)) (sym (is q)) (pick_one (is_at (R k) q) (lookup (is_at (R q)) es) (filled q));
  }
    where
      pick_one : (b : Bool) (found : Option ℕ) → IfSome found (λ n. 0 < n) → IfSome (cond b None found) (λ n. 0 < n)
      pick_one true found h = tt
      pick_one false found h = h

  -- ---- some row has a count

  pub one_filled_row : (own : K) (held : ℕ) → 0 < held → IsFilled R ((own, held) ∷ [])
  one_filled_row own held some = (own, subst (λ (n : ℕ). 0 < n) (sym (one_is own held own ∙ ap (λ b. cond b held 0) (ap is_eq (tied_itself o own)))) some)

  pub some_there : (es : List (K × ℕ)) → ((q : K) → IfSome (lookup (is_at (R q)) es) (λ n. 0 < n)) → (length es ≡ 0 → ⊥) → IsFilled R es
  some_there [] filled none = absurd (none refl)
  some_there (e ∷ es) filled none =
      let same : is_at (R e.0) e.0 ≡ true = ap is_eq (tied_itself o e.0) in
      (e.0, subst (λ b. 0 < unwrap_or (cond b (Some e.1) (lookup (is_at (R e.0)) es)) 0) (sym same) (subst (λ b. IfSome (cond b (Some e.1) (lookup (is_at (R e.0)) es)) (λ n. 0 < n)) same (filled e.0)))

  -- a row is on the shelf exactly where it has a count
  pub keys_have : (es : List (K × ℕ)) → IsShelf R es → (row : K) → has R (keys_of es) row ≡ nat_lt 0 (shelf_count R es row)
  keys_have es shelf row = has_lookup es row ∙ counted (lookup (is_at (R row)) es) (shelf.filled row)
    where
      has_lookup : (fs : List (K × ℕ)) (q : K) → has R (keys_of fs) q ≡ is_some (lookup (is_at (R q)) fs)
      has_lookup [] q = refl
      has_lookup (f ∷ fs) q = two (is_at (R q) f.0) f.1 (lookup (is_at (R q)) fs) (has R (keys_of fs) q) (has_lookup fs q)
        where
          two : (b : Bool) (n : ℕ) (found : Option ℕ) (c : Bool) → c ≡ is_some found → (b || c) ≡ is_some (cond b (Some n) found)
          two true n found c e = refl
          two false n found c e = e

      counted : (found : Option ℕ) → IfSome found (λ n. 0 < n) → is_some found ≡ nat_lt 0 (unwrap_or found 0)
      counted (Some zero) h = absurd (omega arith)
      counted (Some (suc n)) h = grind (arith, nat_tests)
      counted None h = refl

  -- ---- one count more

  pub two_count : (fs : List (K × ℕ)) (row own : K) (many held : ℕ) → ((q : K) → lookup (is_at (R q)) fs ≡ cond (is_at (R row) q) (Some many) (cond (is_at (R own) q) (Some held) None))
      → (q : K) → shelf_count R fs q ≡ cond (is_at (R row) q) many (shelf_count R ((own, held) ∷ []) q)
  two_count fs row own many held is q = ap (λ found. unwrap_or found 0) (is q) ∙ two (is_at (R row) q) (is_at (R own) q) ∙ ap (cond (is_at (R row) q) many) (sym (one_is own held q))
    where
      two : (b c : Bool) → unwrap_or (cond b (Some many) (cond c (Some held) None)) 0 ≡ cond b many (cond c held 0)
      two true c = refl
      two false true = refl
      two false false = refl

  pub two_filled : (fs : List (K × ℕ)) (row own : K) (many held : ℕ) → 0 < many → 0 < held → ((q : K) → lookup (is_at (R q)) fs ≡ cond (is_at (R row) q) (Some many) (cond (is_at (R own) q) (Some held) None))
      → IsStrictlySortedBy R (keys_of fs) → IsShelf R fs
  two_filled fs row own many held some more is sorted = record {
    ascends = sorted;
    filled = λ q. subst (λ found. IfSome found (λ n. 0 < n)) (sym (is q)) (two (is_at (R row) q) (is_at (R own) q));
  }
    where
      two : (b c : Bool) → IfSome (cond b (Some many) (cond c (Some held) None)) (λ n. 0 < n)
      two true c = some
      two false true = more
      two false false = tt

  -- .. of the one row, of another row, and in a map
  pub raised_one : (row own : K) (held : ℕ) → is_eq (R row own) ≡ true → (q : K)
      → shelf_count R ((own, held + 1) ∷ []) q ≡ cond (is_at (R row) q) (shelf_count R ((own, held) ∷ []) row + 1) (shelf_count R ((own, held) ∷ []) q)
  raised_one row own held e q = one_changed row own held (held + 1) e q ∙ ap (λ n. cond (is_at (R row) q) (n + 1) (shelf_count R ((own, held) ∷ []) q)) (one_count row own held true e)

  pub raised_two : (fs : List (K × ℕ)) (row copy own : K) (held : ℕ) → copy ≡ row → is_eq (R row own) ≡ false → ((q : K) → lookup (is_at (R q)) fs ≡ cond (is_at (R copy) q) (Some 1) (cond (is_at (R own) q) (Some held) None))
      → (q : K) → shelf_count R fs q ≡ cond (is_at (R row) q) (shelf_count R ((own, held) ∷ []) row + 1) (shelf_count R ((own, held) ∷ []) q)
  raised_two fs row copy own held copy_is e is q =
      two_count fs copy own 1 held is q
      ∙ ap (λ x. cond (is_at (R x) q) 1 (shelf_count R ((own, held) ∷ []) q)) copy_is
      ∙ ap (λ (n : ℕ). cond (is_at (R row) q) (n + 1) (shelf_count R ((own, held) ∷ []) q)) (one_count row own held false e)

  -- .. of a row in a map, which is there or not
  pub raised_found : (es fs : List (K × ℕ)) (row : K) (many : ℕ) → lookup (is_at (R row)) es ≡ Some many → fs ≡ set_value (is_at (R row)) es (many + 1)
      → (q : K) → lookup (is_at (R q)) fs ≡ cond (is_at (R row) q) (Some (shelf_count R es row + 1)) (lookup (is_at (R q)) es)
  raised_found es fs row many was is q =
      ap (lookup (is_at (R q))) is
      ∙ lookup_set_value o q row (many + 1) es (subst IsSome (sym was) refl)
      ∙ ap (λ (n : ℕ). cond (is_at (R row) q) (Some (n + 1)) (lookup (is_at (R q)) es)) (sym (ap (λ f. unwrap_or f 0) was))

  pub set_ordered : (es fs : List (K × ℕ)) (row : K) (many : ℕ) → fs ≡ set_value (is_at (R row)) es many → IsStrictlySortedBy R (keys_of es) → IsStrictlySortedBy R (keys_of fs)
  set_ordered es fs row many is sorted = subst (IsStrictlySortedBy R) (sym (ap keys_of is ∙ keys-set_value (is_at (R row)) es many)) sorted

  pub raised_new : (es mid fs : List (K × ℕ)) (row copy : K) → lookup (is_at (R row)) es ≡ None → mid ≡ es → copy ≡ row → ((q : K) → lookup (is_at (R q)) fs ≡ cond (is_at (R copy) q) (Some 1) (lookup (is_at (R q)) mid))
      → (q : K) → lookup (is_at (R q)) fs ≡ cond (is_at (R row) q) (Some (shelf_count R es row + 1)) (lookup (is_at (R q)) es)
  raised_new es mid fs row copy was mid_is copy_is is q =
      is q
      ∙ ap (λ x. cond (is_at (R x) q) (Some 1) (lookup (is_at (R q)) mid)) copy_is
      ∙ ap (λ l. cond (is_at (R row) q) (Some 1) (lookup (is_at (R q)) l)) mid_is
      ∙ ap (λ (n : ℕ). cond (is_at (R row) q) (Some (n + 1)) (lookup (is_at (R q)) es)) (sym (ap (λ (f : Option ℕ). unwrap_or f 0) was))

  pub put_at_count : (es fs : List (K × ℕ)) (row : K) (many : ℕ) → ((q : K) → lookup (is_at (R q)) fs ≡ cond (is_at (R row) q) (Some many) (lookup (is_at (R q)) es))
      → (q : K) → shelf_count R fs q ≡ cond (is_at (R row) q) many (shelf_count R es q)
  put_at_count es fs row many is q = ap (λ found. unwrap_or found 0) (is q) ∙ two (is_at (R row) q) (lookup (is_at (R q)) es)
    where
      two : (b : Bool) (found : Option ℕ) → unwrap_or (cond b (Some many) found) 0 ≡ cond b many (unwrap_or found 0)
      two true found = refl
      two false found = refl

  -- what a look-up found, as a count
  pub found_count : (es : List (K × ℕ)) (row : K) (many : ℕ) → Some many ≡ lookup (is_at (R row)) es → many ≡ shelf_count R es row
  found_count es row many found = ap (λ f. unwrap_or f 0) found

  pub none_count : (es : List (K × ℕ)) (row : K) → None ≡ lookup (is_at (R row)) es → 0 ≡ shelf_count R es row
  none_count es row found = ap (λ f. unwrap_or f 0) found

  -- ---- whether each row is on another shelf

  -- the rows are all on a shelf exactly where it has a count of each row that has one
  pub within_all : (es fs : List (K × ℕ)) → IsShelf R es → IsTrue (list_all (λ row. nat_lt 0 (shelf_count R fs row)) (keys_of es)) ↔ ((q : K) → 0 < shelf_count R es q → 0 < shelf_count R fs q)
  within_all es fs shelf = (
    λ e q some. some_of (shelf_count R fs q) (all_at (λ row. nat_lt 0 (shelf_count R fs row)) q (keys_of es) e (in_from_any o exact q (keys_of es) (keys_have es shelf q ∙ of_some (shelf_count R es q) some))),
    λ within. all_from (λ row. nat_lt 0 (shelf_count R fs row)) (keys_of es) (λ x at. of_some (shelf_count R fs x) (within x (some_of (shelf_count R es x) (sym (keys_have es shelf x) ∙ any_from_in o x (keys_of es) at)))),
  )

  -- .. the rows of a map, and the one row
  pub many_within : (es rows fs : List (K × ℕ)) (b : Bool) → es ≡ rows → IsShelf R es → b ≡ list_all (λ row. nat_lt 0 (shelf_count R fs row)) (keys_of rows) → IsTrue b ↔ ((q : K) → 0 < shelf_count R es q → 0 < shelf_count R fs q)
  many_within es rows fs b is shelf told =
      subst (λ x. IsTrue x ↔ ((q : K) → 0 < shelf_count R es q → 0 < shelf_count R fs q)) (ap (λ xs. list_all (λ row. nat_lt 0 (shelf_count R fs row)) (keys_of xs)) is ∙ sym told) (within_all es fs shelf)

  pub one_within : (es : List (K × ℕ)) (own : K) (held : ℕ) (fs : List (K × ℕ)) (n : ℕ) → es ≡ (own, held) ∷ [] → IsShelf R es → n ≡ shelf_count R fs own → IsTrue (nat_lt 0 n) ↔ ((q : K) → 0 < shelf_count R es q → 0 < shelf_count R fs q)
  one_within es own held fs n is shelf told = many_within es ((own, held) ∷ []) fs (nat_lt 0 n) is shelf (ap (nat_lt 0) told ∙ sym (and_last (nat_lt 0 (shelf_count R fs own))))
    where
      and_last : (b : Bool) → (b && true) ≡ b
      and_last true = refl
      and_last false = refl
