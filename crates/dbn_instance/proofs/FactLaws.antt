-- Instances after changes: they stay instances, which facts are there, and that net changes lead where the action leads and can be taken back.
use Rattle.std.proofs.Common.{◌≡◌, ℕ, ◌<◌, ◌≢◌, zero, suc, Bool, true, false, cond, not, ◌&&◌, ◌||◌, List, [], ◌∷◌, ◌++◌, map, refl, sym, ap, ◌∙◌, subst, inl, inr, ⊎_elim, length, get_or, set, arith, get_or-set_same, get_or-set_other, length-set, replicate, take, append_assoc, ◌+◌, append-nil, drop, add-one, drop-cons, if◌then◌else◌, Result, Ok, Err, OnErr, OnOk}
use Rattle.std.specs.declared.cmp.Ordering.{Ordering}
use Rattle.std.specs.declared.cmp.Ordering.TheVariants.{Less, Equal, Greater}
use Rattle.std.specs.Ordering.{eq_by_cmp, is_eq, nat_cmp, ordering_then}
use Rattle.std.specs.Cmp.{IsTotalOrder, nat_cmp_total, tied_itself, eq_by_cmp_equiv}
use Rattle.std.specs.Cmp.Lexicographic.{slice_cmp, lists_total}
use Rattle.std.specs.FinMap.{IsAntisymmetric, nat_cmp-IsAntisymmetric, slice_cmp-IsAntisymmetric}
use Rattle.std.specs.List.{list_any, filter, All}
use Rattle.std.specs.List.Sorted.{IsStrictlySortedBy}
use Rattle.std.specs.BTreeMap.{is_at}
use Rattle.std.specs.BTreeSet.{insert_key}
use Rattle.std.specs.Set.{remove_key}
use Rattle.std.proofs.lemmas.Bool.{true≢false, cases_eq, and_parts, not-true}
use Rattle.std.proofs.lemmas.Option.{slice_get_read}
use Rattle.std.proofs.lemmas.Result.{on_ok_weaker}
use Rattle.std.proofs.lemmas.List.Elements.{All-head, All-tail, filter_more}
use Rattle.std.proofs.lemmas.List.{take_more}
use Rattle.std.proofs.lemmas.Map.Keys.{sorted_tail}
use Rattle.std.proofs.lemmas.Map.Views.{any-filter_same}
use Rattle.dbn_value.specs.Members.{In}
use Rattle.dbn_value.specs.Ascending.{ascending}
use Rattle.dbn_value.proofs.MemberLaws.{in_any, in_filter, in_append, in_map, all_elements_at, all_elements_from}
use Rattle.dbn_value.proofs.AppendLaws.{append_key, past_those_before}
use Rattle.dbn_value.proofs.AscendingLaws.{sorted_nil, sorted_insert_key, sorted_remove_key, sorted_ascending, any_insert_key, any_remove_key, any_ascending, filter_ascending, ascending_push, in_ascending, head_below, same_tests, is_one}
use Rattle.dbn_instance.specs.declared.fact.Fact.{Fact}
use Rattle.dbn_instance.specs.declared.fact.Change.{Change}
use Rattle.dbn_instance.specs.declared.fact.Change.TheVariants.{Plus, Minus}
use Rattle.dbn_instance.specs.FactOrder.{fact_cmp, fact_total}
use Rattle.dbn_instance.specs.Facts.{Relations, rows_of, fact_of, comes, turned, AreInRange, IsInstance, has_fact, with_fact, without_fact, with_facts, without_facts, after_action, changed, after_changes, taken_back, StoppedAt, Fits, AllFit, is_among, lost_facts, missing_facts, gained_facts, net_changes}

pub on_err : {T E P : Type 0} (r : Result T E) → P → OnErr r P
on_err (Ok a) p = tt
on_err (Err e) p = p

-- ---- one change, and the change that takes it back

module _ {C : Type 0} (cmp : C → C → Ordering) where
  pub changed_is : (db : Relations C) (c : Change C) → changed cmp db c ≡ (if comes c then with_fact cmp db (fact_of c) else without_fact cmp db (fact_of c))
  changed_is db (Plus f) = refl
  changed_is db (Minus f) = refl

  pub turned_is : (db : Relations C) (c : Change C) → changed cmp db (turned c) ≡ (if not (comes c) then with_fact cmp db (fact_of c) else without_fact cmp db (fact_of c))
  turned_is db (Plus f) = refl
  turned_is db (Minus f) = refl

  -- one more change is taken back
  pub back_more : (changes : List (Change C)) (at next : ℕ) (c : Change C) (old new : Relations C) → at < length changes → at + 1 ≡ next → c ≡ get_or changes at c
      → new ≡ (if not (comes c) then with_fact cmp (taken_back cmp (drop next changes) old) (fact_of c) else without_fact cmp (taken_back cmp (drop next changes) old) (fact_of c))
      → new ≡ taken_back cmp (drop at changes) old
  back_more changes at next c old new within after is made =
      made
      ∙ sym (turned_is (taken_back cmp (drop next changes) old) c)
      ∙ ap (λ n. changed cmp (taken_back cmp (drop n changes) old) (turned c)) (sym after ∙ add-one at)
      ∙ ap (λ d. changed cmp (taken_back cmp (drop (suc at) changes) old) (turned d)) is
      ∙ ap (λ l. taken_back cmp l old) (sym (drop-cons changes at c within))

  pub stopped_at : (changes : List (Change C)) (at next : ℕ) (c : Change C) (old new : Relations C) → at < length changes → at + 1 ≡ next → c ≡ get_or changes at c → not (comes c) ≡ true
      → new ≡ taken_back cmp (drop next changes) old → StoppedAt cmp at changes old new
  stopped_at changes at next (Plus f) old new within after is goes behind = absurd (true≢false (sym goes))
  stopped_at changes at next (Minus f) old new within after is goes behind = record {
    minus = (f, slice_get_read changes (length changes) at (Minus f) refl within is);
    behind = behind ∙ ap (λ n. taken_back cmp (drop n changes) old) (sym after);
  }

-- ---- the order of facts

pub then_equal : (r s : Ordering) → ordering_then r s ≡ Equal → (r ≡ Equal) × (s ≡ Equal)
then_equal Less s e = absurd (true≢false (sym (ap is_eq e)))
then_equal Equal s e = (refl, e)
then_equal Greater s e = absurd (true≢false (sym (ap is_eq e)))

pub fact_exact : {C : Type 0} {cmp : C → C → Ordering} → IsAntisymmetric cmp → IsAntisymmetric (fact_cmp cmp)
fact_exact exact f g e =
    let both = then_equal _ _ e in
    let rels = nat_cmp-IsAntisymmetric f.rel g.rel both.0 in
    let rows = slice_cmp-IsAntisymmetric exact f.row g.row both.1 in
    λ i. record { rel = rels i; row = rows i }

module _ {C : Type 0} (cmp : C → C → Ordering) where
  -- facts of one relation differ by their rows, and facts of two relations differ
  same_relation : (f g : Fact C) → f.rel ≡ g.rel → eq_by_cmp (fact_cmp cmp) f g ≡ eq_by_cmp (slice_cmp cmp) f.row g.row
  same_relation f g e =
      ap (λ r. is_eq (ordering_then r (slice_cmp cmp f.row g.row))) (ap (λ n. nat_cmp n g.rel) e ∙ tied_itself nat_cmp_total g.rel)

  other_relation : (f g : Fact C) → f.rel ≢ g.rel → eq_by_cmp (fact_cmp cmp) f g ≡ false
  other_relation f g apart =
      elim (nat_cmp f.rel g.rel) as (λ r. nat_cmp f.rel g.rel ≡ r → is_eq (ordering_then r (slice_cmp cmp f.row g.row)) ≡ false) [
        | Less ↦ λ e. refl
        | Equal ↦ λ e. absurd (apart (nat_cmp-IsAntisymmetric f.rel g.rel e))
        | Greater ↦ λ e. refl
      ] refl

  -- ---- instances stay instances

  pub rows_ascend : (db : Relations C) (rel : ℕ) → IsInstance cmp db → IsStrictlySortedBy (slice_cmp cmp) (rows_of db rel)
  rows_ascend [] rel is = sorted_nil (slice_cmp cmp)
  rows_ascend (rows ∷ db) zero is = is.0
  rows_ascend (rows ∷ db) (suc rel) is = rows_ascend db rel is.1

  pub instance_set : (db : Relations C) (rel : ℕ) (rows : List (List C)) → IsInstance cmp db → IsStrictlySortedBy (slice_cmp cmp) rows → IsInstance cmp (set db rel rows)
  instance_set [] rel rows is s = tt
  instance_set (old ∷ db) zero rows is s = (s, is.1)
  instance_set (old ∷ db) (suc rel) rows is s = (is.0, instance_set db rel rows is.1 s)

  pub instance_empty : (n : ℕ) → IsInstance cmp (replicate n [])
  instance_empty zero = tt
  instance_empty (suc n) = (sorted_nil (slice_cmp cmp), instance_empty n)

  instance_more : (db : Relations C) → IsInstance cmp db → IsInstance cmp (db ++ [] ∷ [])
  instance_more [] is = (sorted_nil (slice_cmp cmp), tt)
  instance_more (rows ∷ db) is = (is.0, instance_more db is.1)

  pub instance_either : (b : Bool) (db : Relations C) → IsInstance cmp db → IsInstance cmp (cond b (db ++ [] ∷ []) db)
  instance_either true db is = instance_more db is
  instance_either false db is = is

  pub length_changed : (db : Relations C) (c : Change C) → length (changed cmp db c) ≡ length db
  length_changed db (Plus f) = length-set db f.rel _
  length_changed db (Minus f) = length-set db f.rel _

module _ {C : Type 0} {cmp : C → C → Ordering} (o : IsTotalOrder cmp) where
  pub instance_with : (db : Relations C) (f : Fact C) → IsInstance cmp db → IsInstance cmp (with_fact cmp db f)
  instance_with db f is = instance_set cmp db f.rel _ is (sorted_insert_key (lists_total o) f.row (rows_of db f.rel) (rows_ascend cmp db f.rel is))

  pub instance_without : (db : Relations C) (f : Fact C) → IsInstance cmp db → IsInstance cmp (without_fact cmp db f)
  instance_without db f is = instance_set cmp db f.rel _ is (sorted_remove_key (lists_total o) f.row (rows_of db f.rel) (rows_ascend cmp db f.rel is))

  pub instance_changed : (db : Relations C) (c : Change C) → IsInstance cmp db → IsInstance cmp (changed cmp db c)
  instance_changed db (Plus f) is = instance_with db f is
  instance_changed db (Minus f) is = instance_without db f is

  pub instance_with_facts : (db : Relations C) (facts : List (Fact C)) → IsInstance cmp db → IsInstance cmp (with_facts cmp db facts)
  instance_with_facts db [] is = is
  instance_with_facts db (f ∷ facts) is = instance_with_facts (with_fact cmp db f) facts (instance_with db f is)

  pub instance_without_facts : (db : Relations C) (facts : List (Fact C)) → IsInstance cmp db → IsInstance cmp (without_facts cmp db facts)
  instance_without_facts db [] is = is
  instance_without_facts db (f ∷ facts) is = instance_without_facts (without_fact cmp db f) facts (instance_without db f is)

  pub instance_after_action : (deletes adds : List (Fact C)) (db : Relations C) → IsInstance cmp db → IsInstance cmp (after_action cmp deletes adds db)
  instance_after_action deletes adds db is = instance_with_facts _ adds (instance_without_facts db deletes is)

  pub instance_after_changes : (changes : List (Change C)) (db : Relations C) → IsInstance cmp db → IsInstance cmp (after_changes cmp changes db)
  instance_after_changes [] db is = is
  instance_after_changes (c ∷ changes) db is = instance_after_changes changes (changed cmp db c) (instance_changed db c is)

-- ---- copies

module _ {K : Type 0} {R : K → K → Ordering} (o : IsTotalOrder R) where
  -- one more key is copied
  pub copied_more : (copied rest whole new : List K) (k : K) → IsStrictlySortedBy R whole → copied ++ k ∷ rest ≡ whole → new ≡ insert_key R copied k → new ++ rest ≡ whole
  copied_more copied rest whole new k s so_far is =
      let last = append_key R k copied (past_those_before o copied k rest (subst (IsStrictlySortedBy R) (sym so_far) s)) in
      ap (λ keys. keys ++ rest) (is ∙ last) ∙ append_assoc copied (k ∷ []) rest ∙ so_far

-- ---- facts that are not there, one after the other

module _ {C : Type 0} (cmp : C → C → Ordering) where
  pub plus_more : (db : Relations C) (f : Fact C) (rest : List (Fact C)) (changes new target : List (Change C)) → not (has_fact cmp db f) ≡ true → new ≡ changes ++ Plus f ∷ []
      → changes ++ map (λ g. Plus g) (missing_facts cmp (f ∷ rest) db) ≡ target → new ++ map (λ g. Plus g) (missing_facts cmp rest db) ≡ target
  plus_more db f rest changes new target wanted is so_far =
      ap (λ l. l ++ map (λ g. Plus g) (missing_facts cmp rest db)) is
      ∙ append_assoc changes (Plus f ∷ []) (map (λ g. Plus g) (missing_facts cmp rest db))
      ∙ ap (λ b. changes ++ map (λ g. Plus g) (cond b (f ∷ missing_facts cmp rest db) (missing_facts cmp rest db))) (sym wanted)
      ∙ so_far

  pub range_tail : (f : Fact C) (facts : List (Fact C)) (db : Relations C) → AreInRange db (f ∷ facts) → AreInRange db facts
  range_tail f facts db all = All-tail (λ (g : Fact C). g.rel < length db) f facts all

  pub plus_same : (db : Relations C) (f : Fact C) (rest : List (Fact C)) (changes target : List (Change C)) → not (has_fact cmp db f) ≡ false
      → changes ++ map (λ g. Plus g) (missing_facts cmp (f ∷ rest) db) ≡ target → changes ++ map (λ g. Plus g) (missing_facts cmp rest db) ≡ target
  plus_same db f rest changes target there so_far =
      ap (λ b. changes ++ map (λ g. Plus g) (cond b (f ∷ missing_facts cmp rest db) (missing_facts cmp rest db))) (sym there) ∙ so_far

-- ---- how many relations there are

module _ {C : Type 0} (cmp : C → C → Ordering) where
  pub length_with_facts : (db : Relations C) (facts : List (Fact C)) → length (with_facts cmp db facts) ≡ length db
  length_with_facts db [] = refl
  length_with_facts db (f ∷ facts) = length_with_facts (with_fact cmp db f) facts ∙ length-set db f.rel _

  pub length_without_facts : (db : Relations C) (facts : List (Fact C)) → length (without_facts cmp db facts) ≡ length db
  length_without_facts db [] = refl
  length_without_facts db (f ∷ facts) = length_without_facts (without_fact cmp db f) facts ∙ length-set db f.rel _

  pub length_after_action : (deletes adds : List (Fact C)) (db : Relations C) → length (after_action cmp deletes adds db) ≡ length db
  length_after_action deletes adds db = length_with_facts (without_facts cmp db deletes) adds ∙ length_without_facts db deletes

  pub length_after_changes : (changes : List (Change C)) (db : Relations C) → length (after_changes cmp changes db) ≡ length db
  length_after_changes [] db = refl
  length_after_changes (c ∷ changes) db = length_after_changes changes (changed cmp db c) ∙ length_changed cmp db c

-- ---- which facts are there

or_turn : (a b c : Bool) → (a || (b || c)) ≡ ((b || a) || c)
or_turn true true c = refl
or_turn true false c = refl
or_turn false true c = refl
or_turn false false c = refl

not_turn : (a b c : Bool) → (not a && (not b && c)) ≡ (not (b || a) && c)
not_turn true true c = refl
not_turn true false c = refl
not_turn false true c = refl
not_turn false false c = refl

module _ {C : Type 0} {cmp : C → C → Ordering} (o : IsTotalOrder cmp) (exact : IsAntisymmetric cmp) where
  abbrev same : Fact C → Fact C → Bool
  same f g = eq_by_cmp (fact_cmp cmp) f g

  pub same_is : (f g : Fact C) → same f g ≡ true → f ≡ g
  same_is f g e = is_one (fact_total o) (fact_exact exact) f g e

  -- at the relation that changes, and at the others
  has_at : (db : Relations C) (rel : ℕ) (rows : List (List C)) (g : Fact C) → rel < length db → g.rel ≡ rel → has_fact cmp (set db rel rows) g ≡ list_any (is_at (slice_cmp cmp g.row)) rows
  has_at db rel rows g within e =
      ap (λ l. list_any (is_at (slice_cmp cmp g.row)) l) (ap (λ n. get_or (set db rel rows) n []) e ∙ get_or-set_same db rel rows [] within)

  has_past : (db : Relations C) (rel : ℕ) (rows : List (List C)) (g : Fact C) → g.rel ≢ rel → has_fact cmp (set db rel rows) g ≡ has_fact cmp db g
  has_past db rel rows g apart = ap (λ l. list_any (is_at (slice_cmp cmp g.row)) l) (get_or-set_other db rel g.rel rows [] apart)

  pub has_with : (db : Relations C) (f g : Fact C) → f.rel < length db → has_fact cmp (with_fact cmp db f) g ≡ (same g f || has_fact cmp db g)
  has_with db f g within =
      ⊎_elim
      (λ here.
      has_at db f.rel _ g within here
      ∙ any_insert_key (lists_total o) (slice_cmp-IsAntisymmetric exact) g.row f.row (rows_of db f.rel)
      ∙ (λ i. sym (same_relation cmp g f here) i || list_any (is_at (slice_cmp cmp g.row)) (rows_of db (sym here i))))
      (λ there. has_past db f.rel _ g there ∙ ap (λ b. b || has_fact cmp db g) (sym (other_relation cmp g f there)))
      (cases_eq g.rel f.rel)

  pub has_without : (db : Relations C) (f g : Fact C) → f.rel < length db → IsInstance cmp db → has_fact cmp (without_fact cmp db f) g ≡ (not (same g f) && has_fact cmp db g)
  has_without db f g within is =
      ⊎_elim
      (λ here.
      has_at db f.rel _ g within here
      ∙ any_remove_key (lists_total o) (slice_cmp-IsAntisymmetric exact) g.row f.row (rows_of db f.rel) (rows_ascend cmp db f.rel is)
      ∙ ap (λ b. not b && list_any (is_at (slice_cmp cmp g.row)) (rows_of db f.rel)) ((eq_by_cmp_equiv (lists_total o)).symm f.row g.row)
      ∙ (λ i. not (sym (same_relation cmp g f here) i) && list_any (is_at (slice_cmp cmp g.row)) (rows_of db (sym here i))))
      (λ there. has_past db f.rel _ g there ∙ ap (λ b. not b && has_fact cmp db g) (sym (other_relation cmp g f there)))
      (cases_eq g.rel f.rel)

  -- two instances with the same facts are one
  pub same_instance : (x y : Relations C) → IsInstance cmp x → IsInstance cmp y → length x ≡ length y → ((f : Fact C) → f.rel < length x → has_fact cmp x f ≡ has_fact cmp y f) → x ≡ y
  same_instance [] [] is js e each = refl
  same_instance [] (ys ∷ y) is js e each = absurd (omega arith)
  same_instance (xs ∷ x) [] is js e each = absurd (omega arith)
  same_instance (xs ∷ x) (ys ∷ y) is js e each =
      let heads : xs ≡ ys = same_tests (lists_total o) (slice_cmp-IsAntisymmetric exact) xs ys is.0 js.0 (λ row. each (record { rel = 0; row = row }) (omega arith)) in
      let tails : x ≡ y = same_instance x y is.1 js.1 (omega arith) (λ f below. each (record { rel = suc f.rel; row = f.row }) (omega arith)) in
      λ i. heads i ∷ tails i

  pub in_range : (n m : ℕ) (facts : List (Fact C)) → m ≡ n → All (λ f. f.rel < n) facts → All (λ f. f.rel < m) facts
  in_range n m facts e all = subst (λ (k : ℕ). All (λ (f : Fact C). f.rel < k) facts) (sym e) all

  pub has_with_facts : (db : Relations C) (facts : List (Fact C)) (g : Fact C) → AreInRange db facts → has_fact cmp (with_facts cmp db facts) g ≡ (is_among cmp facts g || has_fact cmp db g)
  has_with_facts db [] g all = refl
  has_with_facts db (f ∷ facts) g all =
      has_with_facts (with_fact cmp db f) facts g (in_range _ _ facts (length-set db f.rel _) (All-tail (λ (f : Fact C). f.rel < length db) f facts all))
      ∙ ap (λ b. is_among cmp facts g || b) (has_with db f g (All-head (λ (f : Fact C). f.rel < length db) f facts all))
      ∙ or_turn (is_among cmp facts g) (same g f) (has_fact cmp db g)

  pub has_without_facts : (db : Relations C) (facts : List (Fact C)) (g : Fact C) → AreInRange db facts → IsInstance cmp db → has_fact cmp (without_facts cmp db facts) g ≡ (not (is_among cmp facts g) && has_fact cmp db g)
  has_without_facts db [] g all is = refl
  has_without_facts db (f ∷ facts) g all is =
      has_without_facts (without_fact cmp db f) facts g (in_range _ _ facts (length-set db f.rel _) (All-tail (λ (f : Fact C). f.rel < length db) f facts all)) (instance_without o db f is)
      ∙ ap (λ b. not (is_among cmp facts g) && b) (has_without db f g (All-head (λ (f : Fact C). f.rel < length db) f facts all) is)
      ∙ not_turn (is_among cmp facts g) (same g f) (has_fact cmp db g)

  -- what an action makes of an instance, fact by fact
  pub has_after_action : (deletes adds : List (Fact C)) (db : Relations C) (g : Fact C) → IsInstance cmp db → AreInRange db deletes → AreInRange db adds
      → has_fact cmp (after_action cmp deletes adds db) g ≡ (is_among cmp adds g || (not (is_among cmp deletes g) && has_fact cmp db g))
  has_after_action deletes adds db g is deletes_in adds_in =
      has_with_facts (without_facts cmp db deletes) adds g (in_range (length db) (length (without_facts cmp db deletes)) adds (length_without_facts cmp db deletes) adds_in)
      ∙ ap (λ b. is_among cmp adds g || b) (has_without_facts db deletes g deletes_in is)

  -- ---- net changes

  pub among_from_in : (facts : List (Fact C)) (f : Fact C) → In f facts → is_among cmp facts f ≡ true
  among_from_in facts f at = in_any (same f) f facts at (ap is_eq (tied_itself (fact_total o) f))

  pub in_lost : (deletes adds : List (Fact C)) (db : Relations C) (f : Fact C) → In f (lost_facts cmp deletes adds db) → In f deletes × (has_fact cmp db f ≡ true)
  in_lost deletes adds db f at =
      let found = in_filter (λ f. has_fact cmp db f && not (is_among cmp adds f)) f deletes (in_ascending (fact_cmp cmp) f _ at) in
      (found.0, (and_parts (has_fact cmp db f) (not (is_among cmp adds f)) found.1).0)

  pub in_gained : (adds : List (Fact C)) (db : Relations C) (f : Fact C) → In f (gained_facts cmp adds db) → In f adds × (has_fact cmp db f ≡ false)
  in_gained adds db f at =
      let found = in_filter (λ f. not (has_fact cmp db f)) f adds (in_ascending (fact_cmp cmp) f _ at) in
      (found.0, not-true (has_fact cmp db f) found.1)

  -- a test of a filtered list, at a fact
  among_filter : (t : Fact C → Bool) (facts : List (Fact C)) (g : Fact C) → is_among cmp (ascending (fact_cmp cmp) (filter t facts)) g ≡ (t g && is_among cmp facts g)
  among_filter t facts g =
      any_ascending (fact_total o) (fact_exact exact) g (filter t facts)
      ∙ any-filter_same (same g) t (t g) (λ f e. ap t (sym (same_is g f e))) facts

  settled : (d a h : Bool) → ((not h && a) || (not ((h && not a) && d) && h)) ≡ (a || (not d && h))
  settled true true true = refl
  settled true true false = refl
  settled true false true = refl
  settled true false false = refl
  settled false true true = refl
  settled false true false = refl
  settled false false true = refl
  settled false false false = refl

  after_parts : (minus plus : List (Fact C)) (db : Relations C) → after_changes cmp (map (λ f. Minus f) minus ++ map (λ f. Plus f) plus) db ≡ with_facts cmp (without_facts cmp db minus) plus
  after_parts [] [] db = refl
  after_parts [] (f ∷ plus) db = after_parts [] plus (with_fact cmp db f)
  after_parts (f ∷ minus) plus db = after_parts minus plus (without_fact cmp db f)

  pub lost_in_range : (deletes adds : List (Fact C)) (db : Relations C) → AreInRange db deletes → AreInRange db (lost_facts cmp deletes adds db)
  lost_in_range deletes adds db all = all_elements_from (λ (f : Fact C). f.rel < length db) _ (λ f at. all_elements_at (λ (f : Fact C). f.rel < length db) f deletes all (in_lost deletes adds db f at).0)

  pub gained_in_range : (adds : List (Fact C)) (db : Relations C) → AreInRange db adds → AreInRange db (gained_facts cmp adds db)
  gained_in_range adds db all = all_elements_from (λ (f : Fact C). f.rel < length db) _ (λ f at. all_elements_at (λ (f : Fact C). f.rel < length db) f adds all (in_gained adds db f at).0)

  pub net_changes_in_range : (deletes adds : List (Fact C)) (db : Relations C) → AreInRange db deletes → AreInRange db adds → All (λ (c : Change C). (fact_of c).rel < length db) (net_changes cmp deletes adds db)
  net_changes_in_range deletes adds db deletes_in adds_in =
      let within : Change C → Type 0 = λ c. (fact_of c).rel < length db in
      all_elements_from within (net_changes cmp deletes adds db)
      (λ c at.
      ⊎_elim
      (λ goes. let found = in_map (λ f. Minus f) c (lost_facts cmp deletes adds db) goes in
      subst within (sym found.2) (all_elements_at (λ (f : Fact C). f.rel < length db) found.0 (lost_facts cmp deletes adds db) (lost_in_range deletes adds db deletes_in) found.1))
      (λ comes_in. let found = in_map (λ f. Plus f) c (gained_facts cmp adds db) comes_in in
      subst within (sym found.2) (all_elements_at (λ (f : Fact C). f.rel < length db) found.0 (gained_facts cmp adds db) (gained_in_range adds db adds_in) found.1))
      (in_append c (map (λ f. Minus f) (lost_facts cmp deletes adds db)) (map (λ f. Plus f) (gained_facts cmp adds db)) at))

  -- the net changes, made one after the other, lead to what the action makes of the instance
  pub net_changes_lead : (deletes adds : List (Fact C)) (db : Relations C) → IsInstance cmp db → AreInRange db deletes → AreInRange db adds → after_changes cmp (net_changes cmp deletes adds db) db ≡ after_action cmp deletes adds db
  net_changes_lead deletes adds db is deletes_in adds_in =
      let minus = lost_facts cmp deletes adds db in
      let plus = gained_facts cmp adds db in
      let minus_in = lost_in_range deletes adds db deletes_in in
      let plus_in = in_range (length db) (length (without_facts cmp db minus)) plus (length_without_facts cmp db minus) (gained_in_range adds db adds_in) in
      after_parts minus plus db
      ∙ same_instance (with_facts cmp (without_facts cmp db minus) plus) (after_action cmp deletes adds db)
      (instance_with_facts o (without_facts cmp db minus) plus (instance_without_facts o db minus is))
      (instance_after_action o deletes adds db is)
      (length_with_facts cmp (without_facts cmp db minus) plus ∙ length_without_facts cmp db minus ∙ sym (length_after_action cmp deletes adds db))
      (λ g below.
      has_with_facts (without_facts cmp db minus) plus g plus_in
      ∙ (λ i. among_filter (λ f. not (has_fact cmp db f)) adds g i || has_without_facts db minus g minus_in is i)
      ∙ ap (λ b. (not (has_fact cmp db g) && is_among cmp adds g) || (not b && has_fact cmp db g)) (among_filter (λ f. has_fact cmp db f && not (is_among cmp adds f)) deletes g)
      ∙ settled (is_among cmp deletes g) (is_among cmp adds g) (has_fact cmp db g)
      ∙ ap (λ b. is_among cmp adds g || b) (sym (has_without_facts db deletes g deletes_in is))
      ∙ sym (has_with_facts (without_facts cmp db deletes) adds g (in_range (length db) (length (without_facts cmp db deletes)) adds (length_without_facts cmp db deletes) adds_in)))

  -- one more of the facts is looked at, and kept where it passes
  pub gathered_more : (t : Fact C → Bool) (facts : List (Fact C)) (i : ℕ) (f : Fact C) (keys new : List (Fact C)) (wanted : Bool)
      → keys ≡ ascending (fact_cmp cmp) (filter t (take i facts)) → i < length facts → f ≡ get_or facts i f → wanted ≡ t f
      → new ≡ cond wanted (insert_key (fact_cmp cmp) keys f) keys → new ≡ ascending (fact_cmp cmp) (filter t (take (i + 1) facts))
  gathered_more t facts i f keys new wanted so_far within at tested is =
      is
      ∙ ap (λ b. cond b (insert_key (fact_cmp cmp) keys f) keys) tested
      ∙ ap (λ l. cond (t f) (insert_key (fact_cmp cmp) l f) l) so_far
      ∙ by (t f)
      ∙ ap (λ l. ascending (fact_cmp cmp) l) (sym (filter_more t facts i f within ∙ ap (λ g. filter t (take i facts) ++ cond (t g) (g ∷ []) []) (sym at)))
    where
      by : (b : Bool) → cond b (insert_key (fact_cmp cmp) (ascending (fact_cmp cmp) (filter t (take i facts))) f) (ascending (fact_cmp cmp) (filter t (take i facts))) ≡ ascending (fact_cmp cmp) (filter t (take i facts) ++ cond b (f ∷ []) [])
      by true = sym (ascending_push (fact_total o) (fact_exact exact) f (filter t (take i facts)))
      by false = ap (λ l. ascending (fact_cmp cmp) l) (sym (append-nil (filter t (take i facts))))

  -- facts that are kept in a set, in place of the list of added facts
  pub range_ascending : (facts : List (Fact C)) (db : Relations C) → AreInRange db facts → AreInRange db (ascending (fact_cmp cmp) facts)
  range_ascending facts db all =
      all_elements_from (λ (f : Fact C). f.rel < length db) _ (λ f at. all_elements_at (λ (f : Fact C). f.rel < length db) f facts all (in_ascending (fact_cmp cmp) f facts at))

  net_changes_by_set : (deletes adds : List (Fact C)) (db : Relations C) → net_changes cmp deletes adds db
      ≡ map (λ f. Minus f) (lost_facts cmp deletes (ascending (fact_cmp cmp) adds) db) ++ map (λ f. Plus f) (missing_facts cmp (ascending (fact_cmp cmp) adds) db)
  net_changes_by_set deletes adds db = (λ i. map (λ f. Minus f) (ascending (fact_cmp cmp) (filter (λ f. has_fact cmp db f && not (sym (any_ascending (fact_total o) (fact_exact exact) f adds) i)) deletes))
      ++ map (λ f. Plus f) (sym (filter_ascending (fact_total o) (fact_exact exact) (λ f. not (has_fact cmp db f)) adds) i))

  -- the changes that are made from the set of added facts
  pub net_changes_made : (deletes adds keys lost : List (Fact C)) (db : Relations C) (first changes : List (Change C)) → keys ≡ ascending (fact_cmp cmp) adds → lost ≡ lost_facts cmp deletes keys db
      → first ≡ map (λ f. Minus f) lost → changes ≡ first ++ map (λ f. Plus f) (missing_facts cmp keys db) → changes ≡ net_changes cmp deletes adds db
  net_changes_made deletes adds keys lost db first changes set goes minuses is =
      is
      ∙ ap (λ l. l ++ map (λ f. Plus f) (missing_facts cmp keys db)) (minuses ∙ ap (λ l. map (λ f. Minus f) l) goes)
      ∙ ap (λ l. map (λ f. Minus f) (lost_facts cmp deletes l db) ++ map (λ f. Plus f) (missing_facts cmp l db)) set
      ∙ sym (net_changes_by_set deletes adds db)

  pub fact_more : (facts : List (Fact C)) (i : ℕ) (f : Fact C) (keys new : List (Fact C)) → keys ≡ ascending (fact_cmp cmp) (take i facts) → i < length facts → f ≡ get_or facts i f
      → new ≡ insert_key (fact_cmp cmp) keys f → new ≡ ascending (fact_cmp cmp) (take (i + 1) facts)
  fact_more facts i f keys new so_far within at is =
      is ∙ ap (λ l. insert_key (fact_cmp cmp) l f) so_far ∙ sym (ascending_push (fact_total o) (fact_exact exact) f (take i facts))
      ∙ ap (λ l. ascending (fact_cmp cmp) l) (sym (take_more facts i f within ∙ ap (λ g. take i facts ++ g ∷ []) (sym at)))

  -- ---- each change fits

  pub apart_false : (f g : Fact C) → fact_cmp cmp f g ≡ Less → same g f ≡ false
  apart_false f g e = (eq_by_cmp_equiv (fact_total o)).symm g f ∙ ap is_eq e

  pluses_fit : (plus : List (Fact C)) (db : Relations C) → IsStrictlySortedBy (fact_cmp cmp) plus → AreInRange db plus → ((f : Fact C) → In f plus → has_fact cmp db f ≡ false) → AllFit cmp (map (λ f. Plus f) plus) db
  pluses_fit [] db s all missing = tt
  pluses_fit (f ∷ plus) db s all missing = (
    missing f (inl refl),
    pluses_fit plus (with_fact cmp db f) (sorted_tail (fact_cmp cmp) f plus s)
        (in_range (length db) (length (with_fact cmp db f)) plus (length-set db f.rel _) (All-tail (λ (f : Fact C). f.rel < length db) f plus all))
        (λ g at.
        has_with db f g (All-head (λ (f : Fact C). f.rel < length db) f plus all)
        ∙ (λ i. apart_false f g (head_below (fact_cmp cmp) f plus g s at) i || missing g (inr at) i)),
  )

  parts_fit : (minus plus : List (Fact C)) (db : Relations C) → IsInstance cmp db → IsStrictlySortedBy (fact_cmp cmp) minus → IsStrictlySortedBy (fact_cmp cmp) plus → AreInRange db minus → AreInRange db plus
      → ((f : Fact C) → In f minus → has_fact cmp db f ≡ true) → ((f : Fact C) → In f plus → has_fact cmp db f ≡ false) → AllFit cmp (map (λ f. Minus f) minus ++ map (λ f. Plus f) plus) db
  parts_fit [] plus db is s t minus_in plus_in there missing = pluses_fit plus db t plus_in missing
  parts_fit (f ∷ minus) plus db is s t minus_in plus_in there missing =
      let within = All-head (λ (f : Fact C). f.rel < length db) f minus minus_in in
      let long = length-set db f.rel (remove_key (is_at (slice_cmp cmp f.row)) (rows_of db f.rel)) in (
        there f (inl refl),
        parts_fit minus plus (without_fact cmp db f) (instance_without o db f is) (sorted_tail (fact_cmp cmp) f minus s) t
            (in_range (length db) (length (without_fact cmp db f)) minus long (All-tail (λ (f : Fact C). f.rel < length db) f minus minus_in))
            (in_range (length db) (length (without_fact cmp db f)) plus long plus_in)
            (λ g at. has_without db f g within is ∙ (λ i. not (apart_false f g (head_below (fact_cmp cmp) f minus g s at) i) && there g (inr at) i))
            (λ g at. has_without db f g within is ∙ ap (λ b. not (same g f) && b) (missing g at) ∙ and_false (not (same g f))),
      )
    where
      and_false : (b : Bool) → (b && false) ≡ false
      and_false true = refl
      and_false false = refl

  pub net_changes_fit : (deletes adds : List (Fact C)) (db : Relations C) → IsInstance cmp db → AreInRange db deletes → AreInRange db adds → AllFit cmp (net_changes cmp deletes adds db) db
  net_changes_fit deletes adds db is deletes_in adds_in =
      parts_fit (lost_facts cmp deletes adds db) (gained_facts cmp adds db) db is
      (sorted_ascending (fact_total o) (filter (λ f. has_fact cmp db f && not (is_among cmp adds f)) deletes))
      (sorted_ascending (fact_total o) (filter (λ f. not (has_fact cmp db f)) adds))
      (lost_in_range deletes adds db deletes_in) (gained_in_range adds db adds_in)
      (λ f at. (in_lost deletes adds db f at).1) (λ f at. (in_gained adds db f at).1)

  -- ---- changes taken back

  one_back : (db : Relations C) (c : Change C) → IsInstance cmp db → (fact_of c).rel < length db → Fits cmp db c → changed cmp (changed cmp db c) (turned c) ≡ db
  one_back db (Plus f) is within fits =
      same_instance (without_fact cmp (with_fact cmp db f) f) db (instance_without o (with_fact cmp db f) f (instance_with o db f is)) is
      (length-set (with_fact cmp db f) f.rel _ ∙ length-set db f.rel _)
      (λ g below.
      has_without (with_fact cmp db f) f g (subst (λ (n : ℕ). f.rel < n) (sym (length-set db f.rel _)) within) (instance_with o db f is)
      ∙ ap (λ b. not (same g f) && b) (has_with db f g within)
      ∙ by g (same g f) refl)
    where
      by : (g : Fact C) (b : Bool) → same g f ≡ b → (not b && (b || has_fact cmp db g)) ≡ has_fact cmp db g
      by g true e = sym (ap (has_fact cmp db) (same_is g f e) ∙ fits)
      by g false e = refl
  one_back db (Minus f) is within fits =
      same_instance (with_fact cmp (without_fact cmp db f) f) db (instance_with o (without_fact cmp db f) f (instance_without o db f is)) is
      (length-set (without_fact cmp db f) f.rel _ ∙ length-set db f.rel _)
      (λ g below.
      has_with (without_fact cmp db f) f g (subst (λ (n : ℕ). f.rel < n) (sym (length-set db f.rel _)) within)
      ∙ ap (λ b. same g f || b) (has_without db f g within is)
      ∙ by g (same g f) refl)
    where
      by : (g : Fact C) (b : Bool) → same g f ≡ b → (b || (not b && has_fact cmp db g)) ≡ has_fact cmp db g
      by g true e = sym (ap (has_fact cmp db) (same_is g f e) ∙ fits)
      by g false e = refl

  pub all_back : (changes : List (Change C)) (db : Relations C) → IsInstance cmp db → All (λ (c : Change C). (fact_of c).rel < length db) changes → AllFit cmp changes db → taken_back cmp changes (after_changes cmp changes db) ≡ db
  all_back [] db is all fits = refl
  all_back (c ∷ changes) db is all fits =
      ap (λ later. changed cmp later (turned c))
      (all_back changes (changed cmp db c) (instance_changed o db c is)
      (subst (λ (n : ℕ). All (λ (c : Change C). (fact_of c).rel < n) changes) (sym (length_changed cmp db c)) (All-tail (λ (c : Change C). (fact_of c).rel < length db) c changes all))
      fits.1)
      ∙ one_back db c is (All-head (λ (c : Change C). (fact_of c).rel < length db) c changes all) fits.0

  pub reverted : {T E : Type 0} (r : Result T E) (changes : List (Change C)) (old new : Relations C) → All (λ (c : Change C). (fact_of c).rel < length old) changes → OnOk r (new ≡ taken_back cmp changes old)
      → OnOk r ((before : Relations C) → IsInstance cmp before → AllFit cmp changes before → old ≡ after_changes cmp changes before → new ≡ before)
  reverted r changes old new all done =
      on_ok_weaker r
      (λ is before instance fits e.
      is ∙ ap (λ later. taken_back cmp changes later) e
      ∙ all_back changes before instance
      (subst (λ (n : ℕ). All (λ (c : Change C). (fact_of c).rel < n) changes) (ap (λ (later : Relations C). length later) e ∙ length_after_changes cmp changes before) all)
      fits)
      done
