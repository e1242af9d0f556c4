-- Rows that are bound to the variables of a generated sentence, and choices of values that are rows.
use Rattle.std.proofs.Common.{◌≡◌, ℕ, pos, ◌+◌, ◌<◌, zero, suc, Bool, true, false, cond, not, ◌||◌, List, [], ◌∷◌, ◌++◌, map, refl, sym, ap, ◌∙◌, subst, inl, inr, Some, arith, length}
use Rattle.std.specs.Prelude.{slice_get}
use Rattle.std.specs.List.{list_all, list_any, filter}
use Rattle.std.specs.Option.{unwrap_or}
use Rattle.std.specs.Ordering.{is_eq}
use Rattle.std.specs.Cmp.{tied_itself, Equal-is}
use Rattle.std.proofs.lemmas.List.{length-map}
use Rattle.dbn_value.specs.Members.{In}
use Rattle.dbn_value.specs.Ascending.{CellsIn}
use Rattle.dbn_value.specs.Order.{value_cmp, value_total, value_type, exact_values, rows_total, exact_rows, row_cmp}
use Rattle.dbn_value.specs.declared.value.Value.{Value}
use Rattle.dbn_value.specs.declared.value.Value.TheVariants.{Int}
use Rattle.dbn_value.specs.declared.value.ColType.{ColType}
use Rattle.dbn_value.specs.declared.term.Var.{Var}
use Rattle.dbn_value.specs.declared.term.Term.TheVariants as term
use Rattle.dbn_value.proofs.MemberLaws.{all_at, all_from, any_in, in_any, in_filter, filter_in, append_left}
use Rattle.dbn_value.proofs.AscendingLaws.{ascending_in, in_ascending}
use Rattle.dbn_formula.specs.Variables.{TypedVars, var_eq, type_eq, binds}
use Rattle.dbn_formula.specs.Holds.{Env, Domain, Instance, lookup, value_of, row_eq, some_choice, every_choice}
use Rattle.dbn_formula.specs.Answers.{bind, domain, constants, values_in}
use Rattle.dbn_formula.specs.Solutions.{HasShape}
use Rattle.dbn_formula.specs.declared.formula.Formula.{Formula}
use Rattle.dbn_formula.proofs.VariableLaws.{var_itself, var_other, type_same, type_itself}
use Rattle.dbn_formula.proofs.SolutionLaws.{bind_other}
use Rattle.dbn_net.specs.Sentences.{column_var, row_vars, as_terms}
use Rattle.dbn_net.proofs.Listed.{heads, tails}

abbrev pub unbound : Value
unbound = Int (pos 0)

-- the cell in a column, or the value of an unbound variable
abbrev pub cell : List Value → ℕ → Value
cell row n = unwrap_or (slice_get row n) unbound

-- ---- choices

pub every_out : (dom : Domain) (vars : TypedVars) (test : Env → Bool) (env : Env) → every_choice dom vars test env ≡ true
    → (row : List Value) → CellsIn row (map (λ x. dom x.1) vars) → test (bind vars row env) ≡ true
every_out dom [] test env e [] cells = e
every_out dom [] test env e (v ∷ row) cells = absurd cells
every_out dom (x ∷ vars) test env e [] cells = absurd cells
every_out dom (x ∷ vars) test env e (v ∷ row) cells =
    every_out dom vars test ((x.0, v) ∷ env) (all_at (λ w. every_choice dom vars test ((x.0, w) ∷ env)) v (dom x.1) e cells.0) row cells.1

pub every_in : (dom : Domain) (vars : TypedVars) (test : Env → Bool) (env : Env)
    → ((row : List Value) → CellsIn row (map (λ x. dom x.1) vars) → test (bind vars row env) ≡ true) → every_choice dom vars test env ≡ true
every_in dom [] test env each = each [] tt
every_in dom (x ∷ vars) test env each =
    all_from (λ w. every_choice dom vars test ((x.0, w) ∷ env)) (dom x.1) (λ v at. every_in dom vars test ((x.0, v) ∷ env) (λ row cells. each (v ∷ row) (at, cells)))

pub every_twice : (dom : Domain) (xs ys : TypedVars) (test : Env → Bool) (env : Env) → every_choice dom (xs ++ ys) test env ≡ every_choice dom xs (every_choice dom ys test) env
every_twice dom [] ys test env = refl
every_twice dom (x ∷ xs) ys test env = (λ i. list_all (λ v. every_twice dom xs ys test ((x.0, v) ∷ env) i) (dom x.1))

pub some_out : (dom : Domain) (vars : TypedVars) (test : Env → Bool) (env : Env) → some_choice dom vars test env ≡ true
    → (row : List Value) × CellsIn row (map (λ x. dom x.1) vars) × (test (bind vars row env) ≡ true)
some_out dom [] test env e = ([], tt, e)
some_out dom (x ∷ vars) test env e =
    let v = any_in (λ w. some_choice dom vars test ((x.0, w) ∷ env)) (dom x.1) e in
    let rest = some_out dom vars test ((x.0, v.0) ∷ env) v.2 in
    (v.0 ∷ rest.0, (v.1, rest.1), rest.2)

pub some_in : (dom : Domain) (vars : TypedVars) (test : Env → Bool) (env : Env) (row : List Value) → CellsIn row (map (λ x. dom x.1) vars)
    → test (bind vars row env) ≡ true → some_choice dom vars test env ≡ true
some_in dom [] test env [] cells e = e
some_in dom [] test env (v ∷ row) cells e = absurd cells
some_in dom (x ∷ vars) test env [] cells e = absurd cells
some_in dom (x ∷ vars) test env (v ∷ row) cells e =
    in_any (λ w. some_choice dom vars test ((x.0, w) ∷ env)) v (dom x.1) cells.0 (some_in dom vars test ((x.0, v) ∷ env) row cells.1 e)

-- ---- rows of the instance are choices, and choices are typed

pub domain_in : (f : Formula) (db : Instance) (v : Value) → In v (values_in db) → In v (domain f db (value_type v))
domain_in f db v at =
    ascending_in value_total exact_values v (filter (λ w. type_eq (value_type w) (value_type v)) (values_in db ++ constants f))
    (filter_in (λ w. type_eq (value_type w) (value_type v)) v (values_in db ++ constants f) (append_left v (values_in db) (constants f) at) (type_itself (value_type v)))

pub domain_type : (f : Formula) (db : Instance) (type : ColType) (v : Value) → In v (domain f db type) → value_type v ≡ type
domain_type f db type v at =
    type_same (value_type v) type
    (in_filter (λ w. type_eq (value_type w) type) v (values_in db ++ constants f) (in_ascending value_cmp v (filter (λ w. type_eq (value_type w) type) (values_in db ++ constants f)) at)).1

pub cells_typed : (f : Formula) (db : Instance) (var : ℕ → Var) (n : ℕ) (shape : List ColType) (row : List Value)
    → CellsIn row (map (λ x. domain f db x.1) (row_vars var n shape)) → HasShape row shape
cells_typed f db var n [] [] cells = refl
cells_typed f db var n [] (v ∷ row) cells = absurd cells
cells_typed f db var n (type ∷ shape) [] cells = absurd cells
cells_typed f db var n (type ∷ shape) (v ∷ row) cells =
    (λ i. domain_type f db type v cells.0 i ∷ cells_typed f db var (n + 1) shape row cells.1 i)

pub typed_cells : (f : Formula) (db : Instance) (var : ℕ → Var) (n : ℕ) (shape : List ColType) (row : List Value)
    → HasShape row shape → ((v : Value) → In v row → In v (values_in db)) → CellsIn row (map (λ x. domain f db x.1) (row_vars var n shape))
typed_cells f db var n [] [] fits known = tt
typed_cells f db var n [] (v ∷ row) fits known = absurd cc
typed_cells f db var n (type ∷ shape) [] fits known = absurd cc
typed_cells f db var n (type ∷ shape) (v ∷ row) fits known = (
  subst (λ t. In v (domain f db t)) (heads (value_type v) type (map value_type row) shape fits) (domain_in f db v (known v (inl refl))),
  typed_cells f db var (n + 1) shape row (tails (value_type v) type (map value_type row) shape fits) (λ w at. known w (inr at)),
)

-- ---- variables of columns

pub other_column : (l k n m : ℕ) → (n ≡ m → ⊥) → var_eq (column_var l n) (column_var k m) ≡ false
other_column l k n m ne = var_other (column_var l n) (column_var k m) (λ e. ne (ap (λ (x : Var). x.mark) e))

pub other_letter : (l k n m : ℕ) → (l ≡ k → ⊥) → var_eq (column_var l n) (column_var k m) ≡ false
other_letter l k n m ne = var_other (column_var l n) (column_var k m) (λ e. ne (heads l k [] [] (ap (λ (x : Var). x.name) e)))

pub not_bound : (l k : ℕ) → (l ≡ k → ⊥) → (n m : ℕ) (shape : List ColType) → binds (row_vars (column_var k) n shape) (column_var l m) ≡ false
not_bound l k ne n m [] = refl
not_bound l k ne n m (type ∷ shape) =
    ap (λ b. b || binds (row_vars (column_var k) (n + 1) shape) (column_var l m)) (other_letter l k m n ne) ∙ not_bound l k ne (n + 1) m shape

earlier_free : (l n m : ℕ) (shape : List ColType) → m < n → binds (row_vars (column_var l) n shape) (column_var l m) ≡ false
earlier_free l n m [] less = refl
earlier_free l n m (type ∷ shape) less =
    ap (λ b. b || binds (row_vars (column_var l) (n + 1) shape) (column_var l m)) (other_column l l m n (λ e. omega (arith, e, less))) ∙ earlier_free l (n + 1) m shape (omega (arith, less))

-- a variable has the value of its column, or the one that it had before
pub cell_is : (l n : ℕ) (shape : List ColType) (row : List Value) (env : Env) (m k : ℕ) → HasShape row shape → m ≡ n + k
    → lookup (bind (row_vars (column_var l) n shape) row env) (column_var l m) ≡ unwrap_or (slice_get row k) (lookup env (column_var l m))
cell_is l n [] [] env m k fits is = refl
cell_is l n [] (v ∷ row) env m k fits is = absurd cc
cell_is l n (type ∷ shape) [] env m k fits is = absurd cc
cell_is l n (type ∷ shape) (v ∷ row) env m zero fits is =
    let same : m ≡ n = omega (arith, is) in
    bind_other (row_vars (column_var l) (n + 1) shape) row ((column_var l n, v) ∷ env) (column_var l m) (earlier_free l (n + 1) m shape (omega (arith, same)))
    ∙ ap (λ b. cond b v (lookup env (column_var l m))) (ap (λ j. var_eq (column_var l m) (column_var l j)) (sym same) ∙ var_itself (column_var l m))
cell_is l n (type ∷ shape) (v ∷ row) env m (suc k) fits is =
    cell_is l (n + 1) shape row ((column_var l n, v) ∷ env) m k (tails (value_type v) type (map value_type row) shape fits) (omega (arith, is))
    ∙ ap (λ b. unwrap_or (slice_get row k) (cond b v (lookup env (column_var l m)))) (other_column l l m n (λ e. omega (arith, e, is)))

-- the terms of a row are worth the row, where each variable is worth its cell
pub terms_are : (l n : ℕ) (shape : List ColType) (row : List Value) (env : Env) → HasShape row shape
    → ((m k : ℕ) → m ≡ n + k → lookup env (column_var l m) ≡ cell row k) → map (value_of env) (as_terms (row_vars (column_var l) n shape)) ≡ row
terms_are l n [] [] env fits each = refl
terms_are l n [] (v ∷ row) env fits each = absurd cc
terms_are l n (type ∷ shape) [] env fits each = absurd cc
terms_are l n (type ∷ shape) (v ∷ row) env fits each =
    let here : n ≡ n + 0 = omega arith in
    (λ i. each n 0 here i ∷ terms_are l (n + 1) shape row env (tails (value_type v) type (map value_type row) shape fits) (λ m k is. each m (suc k) (omega (arith, is))) i)

-- ---- atoms

pub atom_in : (rows : List (List Value)) (row : List Value) → list_any (λ r. row_eq r row) rows ≡ true → In row rows
atom_in rows row e =
    let found = any_in (λ r. row_eq r row) rows e in
    subst (λ r. In r rows) (exact_rows found.0 row ((Equal-is (row_cmp found.0 row)).0 found.2)) found.1

pub in_atom : (rows : List (List Value)) (row : List Value) → In row rows → list_any (λ r. row_eq r row) rows ≡ true
in_atom rows row at = in_any (λ r. row_eq r row) row rows at (ap is_eq (tied_itself rows_total row))

-- ---- cells and rows

pub cells_equal : (a b : List Value) (n : ℕ) → length a ≡ length b → cell a n ≡ cell b n → slice_get a n ≡ slice_get b n
cells_equal [] [] n long e = refl
cells_equal [] (w ∷ b) n long e = absurd (omega (arith, long))
cells_equal (v ∷ a) [] n long e = absurd (omega (arith, long))
cells_equal (v ∷ a) (w ∷ b) zero long e = ap Some e
cells_equal (v ∷ a) (w ∷ b) (suc n) long e = cells_equal a b n (omega (arith, long)) e

pub rows_equal : (a b : List Value) → length a ≡ length b → ((n : ℕ) → n < length a → cell a n ≡ cell b n) → a ≡ b
rows_equal [] [] long each = refl
rows_equal [] (w ∷ b) long each = absurd (omega (arith, long))
rows_equal (v ∷ a) [] long each = absurd (omega (arith, long))
rows_equal (v ∷ a) (w ∷ b) long each =
    (λ i. each 0 (omega arith) i ∷ rows_equal a b (omega (arith, long)) (λ n less. each (suc n) (omega (arith, less))) i)

pub as_long : (row : List Value) (shape : List ColType) → HasShape row shape → length row ≡ length shape
as_long row shape fits = sym (length-map row value_type) ∙ ap length fits

-- ---- truth values

pub implied : (p q : Bool) → (p ≡ true → q ≡ true) → (not p || q) ≡ true
implied true q then_q = then_q refl
implied false q then_q = refl

pub implies : (p q : Bool) → (not p || q) ≡ true → p ≡ true → q ≡ true
implies true q e is = e
implies false q e is = absurd cc

pub equal_values : (v w : Value) → is_eq (value_cmp v w) ≡ true → v ≡ w
equal_values v w e = exact_values v w ((Equal-is (value_cmp v w)).0 e)

pub values_equal : (v w : Value) → v ≡ w → is_eq (value_cmp v w) ≡ true
values_equal v w e = subst (λ z. is_eq (value_cmp v z) ≡ true) e (ap is_eq (tied_itself value_total v))
