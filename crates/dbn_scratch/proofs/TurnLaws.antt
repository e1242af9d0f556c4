-- One turn of a loop and its end, stated over plain variables.
use Rattle.std.specs.Global.{Vec}
use Rattle.std.specs.Borrow.{Bor}
use Rattle.std.specs.Prelude.{IsTrue, ◌↔◌}
use Rattle.std.proofs.Common.{arith, ◌≡◌, ℕ, suc, ◌+◌, ◌-◌, ◌<◌, ◌≤◌, Bool, true, false, not, ◌&&◌, ◌||◌, if◌then◌else◌, List, [], ◌∷◌, ◌++◌, map, take, drop, length, get_or, refl, ap, sym, ◌∙◌, drop-cons, add-one}
use Rattle.std.proofs.lemmas.List.{drop_all}
use Rattle.std.specs.List.{filter, flat_map, list_any, list_all}
use Rattle.dbn_value.specs.Ascending.{ascending, rows_over}
use Rattle.dbn_value.specs.Order.{row_cmp}
use Rattle.dbn_value.specs.declared.value.Value.{Value}
use Rattle.dbn_value.specs.declared.value.ColType.{ColType}
use Rattle.dbn_value.specs.declared.term.Var.{Var}
use Rattle.dbn_value.specs.declared.term.Term.{Term}
use Rattle.dbn_formula.specs.Variables.{TypedVars}
use Rattle.dbn_formula.specs.Holds.{Env, Domain, lookup, some_choice, every_choice}
use Rattle.dbn_formula.specs.Solve.{is_empty, is_bound, matched, term_is, all_run}
use Rattle.dbn_scratch.specs.Envs.{env_of, envs_of}
use Rattle.dbn_scratch.specs.Given.{rows_given, row_of, rows_of}
use Rattle.dbn_scratch.proofs.LoopLaws.{filter_step}
use Rattle.dbn_scratch.proofs.GivenLaws.{plain_rows}
use Rattle.dbn_scratch.proofs.SolvingLaws.{run_more, flat_view, all_view, map_view}

-- what is left begins with the element
left_over : {A : Type 0} (xs : List A) (i : ℕ) (x : A) → i < length xs → x ≡ get_or xs i x → drop i xs ≡ x ∷ drop (i + 1) xs
left_over xs i x below is = drop-cons xs i x below ∙ ap (λ y. y ∷ drop (suc i) xs) (sym is) ∙ ap (λ n. x ∷ drop n xs) (sym (add-one i))

-- ---- some element passes, or each

module _ {A B : Type 0} (p : B → Bool) (f : A → B) (xs : List A) (i : ℕ) (whole : Bool) where
  any_turn : (x : A) → whole ≡ list_any p (map f (drop i xs)) → i < length xs → x ≡ get_or xs i x → whole ≡ (p (f x) || list_any p (map f (drop (i + 1) xs)))
  any_turn x e below is = e ∙ ap (λ ys. list_any p (map f ys)) (left_over xs i x below is)

  pub any_found : (x : A) → whole ≡ list_any p (map f (drop i xs)) → i < length xs → x ≡ get_or xs i x → true ≡ p (f x) → true ≡ whole
  any_found x e below is here = sym (any_turn x e below is ∙ ap (λ b. b || list_any p (map f (drop (i + 1) xs))) (sym here))

  pub any_passed : (x : A) → whole ≡ list_any p (map f (drop i xs)) → i < length xs → x ≡ get_or xs i x → false ≡ p (f x) → whole ≡ list_any p (map f (drop (i + 1) xs))
  any_passed x e below is here = any_turn x e below is ∙ ap (λ b. b || list_any p (map f (drop (i + 1) xs))) (sym here)

  pub any_ended : whole ≡ list_any p (map f (drop i xs)) → length xs ≤ i → false ≡ whole
  any_ended e past = sym (e ∙ ap (λ ys. list_any p (map f ys)) (drop_all i xs past))

  all_turn : (x : A) → whole ≡ list_all p (map f (drop i xs)) → i < length xs → x ≡ get_or xs i x → whole ≡ (p (f x) && list_all p (map f (drop (i + 1) xs)))
  all_turn x e below is = e ∙ ap (λ ys. list_all p (map f ys)) (left_over xs i x below is)

  pub all_failed : (x : A) → whole ≡ list_all p (map f (drop i xs)) → i < length xs → x ≡ get_or xs i x → false ≡ p (f x) → false ≡ whole
  all_failed x e below is here = sym (all_turn x e below is ∙ ap (λ b. b && list_all p (map f (drop (i + 1) xs))) (sym here))

  pub all_passed : (x : A) → whole ≡ list_all p (map f (drop i xs)) → i < length xs → x ≡ get_or xs i x → true ≡ p (f x) → whole ≡ list_all p (map f (drop (i + 1) xs))
  all_passed x e below is here = all_turn x e below is ∙ ap (λ b. b && list_all p (map f (drop (i + 1) xs))) (sym here)

  pub all_ended : whole ≡ list_all p (map f (drop i xs)) → length xs ≤ i → true ≡ whole
  all_ended e past = sym (e ∙ ap (λ ys. list_all p (map f ys)) (drop_all i xs past))

-- ---- choices of values

pub some_first : (dom : Domain) (vars : TypedVars) (at : ℕ) (x : Var × ColType) (test : Env → Bool) (env : Env) (values : List Value) → at < length vars → x ≡ get_or vars at x → values ≡ dom x.1
    → some_choice dom (drop at vars) test env ≡ list_any (λ v. some_choice dom (drop (at + 1) vars) test ((x.0, v) ∷ env)) values
some_first dom vars at x test env values below is e =
    ap (λ vs. some_choice dom vs test env) (left_over vars at x below is) ∙ ap (list_any (λ v. some_choice dom (drop (at + 1) vars) test ((x.0, v) ∷ env))) (sym e)

pub every_first : (dom : Domain) (vars : TypedVars) (at : ℕ) (x : Var × ColType) (test : Env → Bool) (env : Env) (values : List Value) → at < length vars → x ≡ get_or vars at x → values ≡ dom x.1
    → every_choice dom (drop at vars) test env ≡ list_all (λ v. every_choice dom (drop (at + 1) vars) test ((x.0, v) ∷ env)) values
every_first dom vars at x test env values below is e =
    ap (λ vs. every_choice dom vs test env) (left_over vars at x below is) ∙ ap (list_all (λ v. every_choice dom (drop (at + 1) vars) test ((x.0, v) ∷ env))) (sym e)

-- ---- rows over columns

flat_mapped : {A B C : Type 0} (g : B → List C) (f : A → B) (xs : List A) → flat_map (λ x. g (f x)) xs ≡ flat_map g (map f xs)
flat_mapped g f [] = refl
flat_mapped g f (x ∷ xs) = ap (λ r. g (f x) ++ r) (flat_mapped g f xs)

map_mapped : {A B C : Type 0} (g : B → C) (f : A → B) (xs : List A) → map (λ x. g (f x)) xs ≡ map g (map f xs)
map_mapped g f [] = refl
map_mapped g f (x ∷ xs) = ap (λ r. g (f x) ∷ r) (map_mapped g f xs)

behind_all : (rows : List (Vec (Bor Value))) (values : List (Bor Value)) → flat_map (λ v. map (λ row. v.now ∷ row_of row.items) rows) values ≡ flat_map (λ w. map (λ row. w ∷ row) (rows_of rows)) (row_of values)
behind_all rows [] = refl
behind_all rows (v ∷ values) =
    ap (λ made. made ++ flat_map (λ v. map (λ row. v.now ∷ row_of row.items) rows) values) (map_mapped (λ row. v.now ∷ row) (λ (row : Vec (Bor Value)). row_of row.items) rows)
    ∙ ap (λ made. map (λ row. v.now ∷ row) (rows_of rows) ++ made) (behind_all rows values)

pub column_more : (columns : List (Vec (Bor Value))) (done : ℕ) (column : Vec (Bor Value)) (rows : List (Vec (Bor Value))) (made : List (List Value))
    → done < length columns → column ≡ get_or columns (length columns - 1 - done) column → rows_of rows ≡ rows_over (rows_of (drop (length columns - done) columns))
    → made ≡ flat_map (λ v. map (λ row. v.now ∷ row_of row.items) rows) column.items → made ≡ rows_over (rows_of (drop (length columns - (done + 1)) columns))
column_more columns done column rows made below is before extended =
    let i = length columns - 1 - done in
    let within : length columns - 1 - done < length columns = omega (arith, below) in
    let more : length columns - done ≡ length columns - 1 - done + 1 = omega (arith, below) in
    let less : length columns - 1 - done ≡ length columns - (done + 1) = omega (arith, below) in
    extended ∙ behind_all rows column.items
    ∙ ap (λ rs. flat_map (λ w. map (λ row. w ∷ row) rs) (row_of column.items)) (before ∙ ap (λ n. rows_over (rows_of (drop n columns))) more)
    ∙ ap (λ cs. rows_over (rows_of cs)) (sym (left_over columns i column within is))
    ∙ ap (λ n. rows_over (rows_of (drop n columns))) less

-- ---- terms and rows of other lengths

none_each : (f : Env → List Env) → ((e : Env) → [] ≡ f e) → (es : List Env) → [] ≡ flat_map f es
none_each f none [] = refl
none_each f none (e ∷ es) = none_each f none es ∙ ap (λ r. r ++ flat_map f es) (none e)

pub unequal : (terms : List Term) (row : List Value) (env : Env) → (length terms ≡ length row → ⊥) → [] ≡ matched terms row env
unequal [] [] env differ = absurd (differ refl)
unequal [] (w ∷ row) env differ = refl
unequal (t ∷ terms) [] env differ = refl
unequal (t ∷ terms) (w ∷ row) env differ = none_each (λ next. matched terms row next) (λ next. unequal terms row next (λ e. differ (ap suc e))) (term_is t w env)

-- ---- rows that are kept

pub kept_row : (p : List Value → Bool) (rows : List (Vec (Bor Value))) (i : ℕ) (row : Vec (Bor Value)) (b : Bool) (before after : List (List Value))
    → before ≡ filter p (rows_of (take i rows)) → i < length rows → row ≡ get_or rows i row → b ≡ p (row_of row.items)
    → after ≡ before ++ (if b then row_of row.items ∷ [] else []) → after ≡ filter p (rows_of (take (i + 1) rows))
kept_row p rows i row b before after e below is wanted grown =
    grown ∙ ap (λ rs. rs ++ (if b then row_of row.items ∷ [] else [])) e
    ∙ ap (λ c. filter p (rows_of (take i rows)) ++ (if c then row_of row.items ∷ [] else [])) wanted
    ∙ filter_step p (λ (r : Vec (Bor Value)). row_of r.items) rows i row below is

-- ---- rows from solutions

pub plain_found : (dom : Domain) (vars : TypedVars) (envs : List (Vec (Bor Var × Bor Value))) (found : List Env) (rows : List (List Value)) → envs_of envs ≡ found
    → true ≡ list_all (λ e. list_all (λ x. is_bound (env_of e.items) x.0) vars) envs → rows ≡ ascending row_cmp (map (λ e. map (λ x. lookup (env_of e.items) x.0) vars) envs)
    → rows ≡ ascending row_cmp (flat_map (rows_given dom vars) found)
plain_found dom vars envs found rows is all made =
    made
    ∙ ap (ascending row_cmp) (map_view (λ e. map (λ x. lookup e x.0) vars) envs
    ∙ plain_rows dom vars (envs_of envs) (sym (all ∙ all_view (λ e. list_all (λ x. is_bound e x.0) vars) envs))
    ∙ ap (flat_map (rows_given dom vars)) is)

pub products_found : (dom : Domain) (vars : TypedVars) (envs : List (Vec (Bor Var × Bor Value))) (found : List Env) (rows : List (List Value)) → envs_of envs ≡ found
    → rows ≡ ascending row_cmp (flat_map (λ e. rows_given dom vars (env_of e.items)) envs) → rows ≡ ascending row_cmp (flat_map (rows_given dom vars) found)
products_found dom vars envs found rows is made =
    made ∙ ap (ascending row_cmp) (flat_view (rows_given dom vars) envs ∙ ap (flat_map (rows_given dom vars)) is)

-- ---- conjunctions

pub one_more_run : {F : Type 0} (run : F → Env → List Env) (parts : List F) (i : ℕ) (part : F) (from next : List (Vec (Bor Var × Bor Value))) (whole : List Env)
    → flat_map (all_run (map run (drop i parts))) (envs_of from) ≡ whole → i < length parts → part ≡ get_or parts i part
    → envs_of next ≡ flat_map (λ e. run part (env_of e.items)) from → flat_map (all_run (map run (drop (i + 1) parts))) (envs_of next) ≡ whole
one_more_run run parts i part from next whole e below is made =
    ap (flat_map (all_run (map run (drop (i + 1) parts)))) (made ∙ flat_view (run part) from) ∙ run_more run parts i part (envs_of from) below is ∙ e

-- ---- whether there is one

no_first : {A : Type 0} (x : A) (xs : List A) → x ∷ xs ≡ [] → ⊥
no_first x xs e = cc

pub some_view : (envs : List (Vec (Bor Var × Bor Value))) (b : Bool) → IsTrue b ↔ (envs ≡ []) → not b ≡ not (is_empty (envs_of envs))
some_view [] b e = ap not (e.1 refl)
some_view (x ∷ envs) true e = absurd (no_first x envs (e.0 refl))
some_view (x ∷ envs) false e = refl
