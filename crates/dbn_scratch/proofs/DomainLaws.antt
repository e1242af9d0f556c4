-- Values of a domain, and rows over columns.
use Rattle.std.proofs.Common.{Bor, ◌≡◌, ℕ, ◌+◌, ◌<◌, Bool, true, false, cond, not, ◌||◌, if◌then◌else◌, List, [], ◌∷◌, ◌++◌, take, drop, length, get_or, drop-cons, add-one, refl, ap, sym, ◌∙◌}
use Rattle.std.specs.Prelude.{slice_index_or}
use Rattle.std.specs.declared.cmp.Ordering.{Ordering}
use Rattle.std.specs.declared.cmp.Ordering.TheVariants.{Less, Equal, Greater}
use Rattle.std.specs.Ordering.{match_ordering}
use Rattle.std.specs.BTreeSet.{insert_key}
use Rattle.std.specs.List.{list_any, filter}
use Rattle.std.proofs.lemmas.List.{map-append, take_more}
use Rattle.std.proofs.lemmas.List.Elements.{filter-append}
use Rattle.dbn_value.specs.Ascending.{ascending}
use Rattle.dbn_value.specs.Order.{value_cmp, value_type, type_eq, value_total, exact_values}
use Rattle.dbn_value.specs.declared.value.Value.{Value}
use Rattle.dbn_value.specs.declared.value.ColType.{ColType}
use Rattle.dbn_value.proofs.AscendingLaws.{ascending_push}
use Rattle.dbn_formula.specs.Holds.{Instance}
use Rattle.dbn_formula.specs.Answers.{constants, values_in, domain}
use Rattle.dbn_formula.specs.Solve.{is_empty}
use Rattle.dbn_formula.specs.declared.formula.Formula.{Formula}
use Rattle.dbn_scratch.specs.Given.{of_type, row_of}

-- ---- whether there is one

inserted_some : {K : Type 0} (R : K → K → Ordering) (xs : List K) (k : K) → is_empty (insert_key R xs k) ≡ false
inserted_some R [] k = refl
inserted_some R (x ∷ xs) k = elim (R k x) as (λ r. is_empty (match_ordering r (k ∷ x ∷ xs) (x ∷ xs) (x ∷ insert_key R xs k)) ≡ false) [ Less ↦ refl | Equal ↦ refl | Greater ↦ refl ]

some_ascending : {K : Type 0} (R : K → K → Ordering) (xs : List K) → is_empty (ascending R xs) ≡ is_empty xs
some_ascending R [] = refl
some_ascending R (x ∷ xs) = inserted_some R (ascending R xs) x

some_filter : {A : Type 0} (p : A → Bool) (xs : List A) → not (is_empty (filter p xs)) ≡ list_any p xs
some_filter p [] = refl
some_filter p (x ∷ xs) = elim (p x) as (λ b. not (is_empty (cond b (x ∷ filter p xs) (filter p xs))) ≡ (b || list_any p xs)) [ true ↦ refl | false ↦ some_filter p xs ]

pub any_append : {A : Type 0} (p : A → Bool) (xs ys : List A) → list_any p (xs ++ ys) ≡ (list_any p xs || list_any p ys)
any_append p [] ys = refl
any_append p (x ∷ xs) ys = elim (p x) as (λ b. (b || list_any p (xs ++ ys)) ≡ ((b || list_any p xs) || list_any p ys)) [ true ↦ refl | false ↦ any_append p xs ys ]

pub some_in_domain : (f : Formula) (db : Instance) (type : ColType)
    → (list_any (λ v. type_eq (value_type v) type) (values_in db) || list_any (λ v. type_eq (value_type v) type) (constants f)) ≡ not (is_empty (domain f db type))
some_in_domain f db type =
    sym (any_append (λ v. type_eq (value_type v) type) (values_in db) (constants f))
    ∙ sym (some_filter (λ v. type_eq (value_type v) type) (values_in db ++ constants f))
    ∙ ap not (sym (some_ascending value_cmp (filter (λ v. type_eq (value_type v) type) (values_in db ++ constants f))))

-- ---- one relation after the other

pub relation_next : {A : Type 0} (db : List (List A)) (rel : ℕ) → rel < length db → drop rel db ≡ slice_index_or db rel [] ∷ drop (rel + 1) db
relation_next db rel below = drop-cons db rel [] below ∙ ap (λ n. slice_index_or db rel [] ∷ drop n db) (sym (add-one rel))

-- ---- the values of a type, one after the other

pub kept_more : (xs : List (Bor Value)) (i : ℕ) (x : Bor Value) (type : ColType) (b : Bool) (before after : List Value)
    → before ≡ of_type (row_of (take i xs)) type → i < length xs → x ≡ get_or xs i x → b ≡ type_eq (value_type x.now) type
    → after ≡ (if b then insert_key value_cmp before x.now else before) → after ≡ of_type (row_of (take (i + 1) xs)) type
kept_more xs i x type b before after e below is wanted grown =
    let more : row_of (take (i + 1) xs) ≡ row_of (take i xs) ++ x.now ∷ [] =
    ap row_of (take_more xs i x below) ∙ map-append (λ (v : Bor Value). v.now) (take i xs) (get_or xs i x ∷ []) ∙ ap (λ (y : Bor Value). row_of (take i xs) ++ y.now ∷ []) (sym is) in
    grown ∙ ap (λ c. if c then insert_key value_cmp before x.now else before) wanted
    ∙ ap (λ ks. if type_eq (value_type x.now) type then insert_key value_cmp ks x.now else ks) e
    ∙ one_more (row_of (take i xs)) x.now (type_eq (value_type x.now) type) refl
    ∙ ap (λ vs. of_type vs type) (sym more)
  where
    nil : (vs : List Value) → vs ≡ vs ++ []
    nil [] = refl
    nil (v ∷ vs) = ap (λ l. v ∷ l) (nil vs)

    picked : (vs : List Value) (v : Value) (c : Bool) → (if c then insert_key value_cmp (of_type vs type) v else of_type vs type) ≡ ascending value_cmp (filter (λ w. type_eq (value_type w) type) vs ++ cond c (v ∷ []) [])
    picked vs v true = sym (ascending_push value_total exact_values v (filter (λ w. type_eq (value_type w) type) vs))
    picked vs v false = ap (ascending value_cmp) (nil (filter (λ w. type_eq (value_type w) type) vs))

    one_more : (vs : List Value) (v : Value) (c : Bool) → c ≡ type_eq (value_type v) type → (if c then insert_key value_cmp (of_type vs type) v else of_type vs type) ≡ of_type (vs ++ v ∷ []) type
    one_more vs v c e =
        picked vs v c
        ∙ ap (λ d. ascending value_cmp (filter (λ w. type_eq (value_type w) type) vs ++ cond d (v ∷ []) [])) e
        ∙ ap (ascending value_cmp) (sym (filter-append (λ w. type_eq (value_type w) type) vs (v ∷ [])))
