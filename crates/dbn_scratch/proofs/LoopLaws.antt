-- One turn of a loop, and what is looked up beforehand.
use Rattle.std.specs.Borrow.{Bor}
use Rattle.std.proofs.Common.{arith, ◌≡◌, ◌⊎◌, inl, inr, ℕ, ◌+◌, ◌<◌, Bool, true, false, cond, not, ◌||◌, if◌then◌else◌, List, [], ◌∷◌, ◌++◌, map, take, length, get_or, Some, None, is_some, pos, refl, ap, sym, ◌∙◌, subst, append-nil, append_assoc}
use Rattle.std.specs.declared.cmp.Ordering.TheVariants.{Equal}
use Rattle.std.specs.Ordering.{is_eq}
use Rattle.std.specs.Cmp.{both_ways, Equal-is, tied_itself}
use Rattle.std.specs.List.{filter, flat_map, list_any}
use Rattle.std.specs.BTreeMap.{is_at}
use Rattle.std.proofs.lemmas.List.{map-append, take_more}
use Rattle.std.proofs.lemmas.List.Elements.{filter-append}
use Rattle.dbn_value.specs.Order.{value_type, type_eq, row_cmp, rows_total, exact_rows}
use Rattle.dbn_value.specs.Scope.{TypedVars, Env, lookup, entry_of, bind}
use Rattle.dbn_value.specs.declared.value.Value.{Value}
use Rattle.dbn_value.specs.declared.value.Value.TheVariants.{Int}
use Rattle.dbn_value.specs.declared.value.ColType.{ColType}
use Rattle.dbn_value.specs.declared.value.ColType.TheVariants as col
use Rattle.dbn_value.specs.declared.term.Var.{Var}
use Rattle.dbn_formula.specs.Holds.{Domain, row_eq}
use Rattle.dbn_formula.specs.Answers.{constants, values_in, domain}
use Rattle.dbn_formula.specs.Solve.{is_empty, is_bound}
use Rattle.dbn_scratch.specs.declared.tables.Tables.{Tables}
use Rattle.dbn_scratch.specs.Prepared.{domain_of, has_some, IsPrepared}
use Rattle.dbn_scratch.specs.Given.{column_of, row_of}
use Rattle.dbn_scratch.proofs.EnvLaws.{known_is_bound, known_value}
use Rattle.dbn_scratch.proofs.DomainLaws.{some_in_domain}

flat_joined : {A B : Type 0} (f : A → List B) (xs ys : List A) → flat_map f (xs ++ ys) ≡ flat_map f xs ++ flat_map f ys
flat_joined f [] ys = refl
flat_joined f (x ∷ xs) ys = ap (λ r. f x ++ r) (flat_joined f xs ys) ∙ sym (append_assoc (f x) (flat_map f xs) (flat_map f ys))

-- ---- one more element

pub flat_step : {A B : Type 0} (f : A → List B) (xs : List A) (i : ℕ) (x : A) → i < length xs → x ≡ get_or xs i x → flat_map f (take i xs) ++ f x ≡ flat_map f (take (i + 1) xs)
flat_step f xs i x below is =
    ap (λ y. flat_map f (take i xs) ++ f y) is ∙ ap (λ ys. flat_map f (take i xs) ++ ys) (sym (append-nil (f (get_or xs i x))))
    ∙ sym (flat_joined f (take i xs) (get_or xs i x ∷ [])) ∙ ap (flat_map f) (sym (take_more xs i x below))

pub map_step : {A B : Type 0} (f : A → B) (xs : List A) (i : ℕ) (x : A) → i < length xs → x ≡ get_or xs i x → map f (take i xs) ++ f x ∷ [] ≡ map f (take (i + 1) xs)
map_step f xs i x below is =
    ap (λ y. map f (take i xs) ++ f y ∷ []) is ∙ sym (map-append f (take i xs) (get_or xs i x ∷ [])) ∙ ap (map f) (sym (take_more xs i x below))

pub filter_step : {A B : Type 0} (p : B → Bool) (f : A → B) (xs : List A) (i : ℕ) (x : A) → i < length xs → x ≡ get_or xs i x
    → filter p (map f (take i xs)) ++ cond (p (f x)) (f x ∷ []) [] ≡ filter p (map f (take (i + 1) xs))
filter_step p f xs i x below is = sym (filter-append p (map f (take i xs)) (f x ∷ [])) ∙ ap (filter p) (map_step f xs i x below is)

-- ---- entries

pub is_known : (env : Env) (x : Var) (v : Value) → entry_of env x ≡ Some v → true ≡ is_bound env x
is_known env x v e = sym (ap is_some e) ∙ known_is_bound env x

pub is_unknown : (env : Env) (x : Var) → entry_of env x ≡ None → false ≡ is_bound env x
is_unknown env x e = sym (ap is_some e) ∙ known_is_bound env x

-- no variable or no value is left
pub all_bound : (vars : TypedVars) (row : List (Bor Value)) (env all : Env) → (length vars ≡ 0) ⊎ (length row ≡ 0) → all ≡ bind vars (row_of row) env → env ≡ all
all_bound [] row env all end e = sym e
all_bound (x ∷ vars) [] env all end e = sym e
all_bound (x ∷ vars) (v ∷ row) env all (inl end) e = absurd (omega arith)
all_bound (x ∷ vars) (v ∷ row) env all (inr end) e = absurd (omega arith)

-- the values that a variable may take
pub known_column : (dom : Domain) (env : Env) (x : Var × ColType) (v : Value) → entry_of env x.0 ≡ Some v → v ∷ [] ≡ column_of dom env x
known_column dom env x v e =
    ap (λ w. w ∷ []) (known_value env x.0 v e) ∙ ap (λ b. if b then lookup env x.0 ∷ [] else dom x.1) (is_known env x.0 v e)

pub unknown_column : (dom : Domain) (env : Env) (x : Var × ColType) → entry_of env x.0 ≡ None → dom x.1 ≡ column_of dom env x
unknown_column dom env x e = ap (λ b. if b then lookup env x.0 ∷ [] else dom x.1) (is_unknown env x.0 e)

-- a row is looked for, and each row is tested
pub turned_rows : (row : List Value) (rows : List (List Value)) → list_any (is_at (row_cmp row)) rows ≡ list_any (λ r. row_eq r row) rows
turned_rows row [] = refl
turned_rows row (r ∷ rows) =
    ap (λ b. b || list_any (is_at (row_cmp row)) rows) (both_ways _ _
    (λ e. same row r ((Equal-is (row_cmp row r)).0 e))
    (λ e. same r row ((Equal-is (row_cmp r row)).0 e)))
    ∙ ap (λ b. row_eq r row || b) (turned_rows row rows)
  where
    same : (a b : List Value) → row_cmp a b ≡ Equal → is_eq (row_cmp b a) ≡ true
    same a b e = subst (λ x. is_eq (row_cmp x a) ≡ true) (exact_rows a b e) (ap is_eq (tied_itself rows_total a))

-- ---- what is looked up beforehand

abbrev found_of : Tables → List Value → ColType → Bool
found_of t written type = list_any (λ v. type_eq (value_type v) type) (values_in t.instance.now) || list_any (λ v. type_eq (value_type v) type) written

pub prepared_is : (t : Tables) (written : List Value) → t.zero.now ≡ Int (pos 0) → written ≡ constants t.whole.now
    → t.ints ≡ found_of t written col.Int → t.texts ≡ found_of t written col.Text → t.ids ≡ found_of t written col.Id → IsPrepared t
prepared_is t written zero e ints texts ids = record {
  zero_is = zero;
  some_is = λ type. elim type as (λ c. has_some t c ≡ not (is_empty (domain_of t c))) [
    | col.Int ↦ ints ∙ known col.Int
    | col.Text ↦ texts ∙ known col.Text
    | col.Id ↦ ids ∙ known col.Id
  ];
}
  where
    known : (type : ColType) → found_of t written type ≡ not (is_empty (domain t.whole.now t.instance.now type))
    known type = ap (λ ws. found_of t ws type) e ∙ some_in_domain t.whole.now t.instance.now type
