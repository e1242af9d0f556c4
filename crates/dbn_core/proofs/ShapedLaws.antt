-- Rows that are made of terms of the right types have the shapes of their columns.
use Rattle.std.proofs.Common.{◌≡◌, ℕ, ◌+◌, Bool, true, false, cond, not, ◌&&◌, List, [], ◌∷◌, ◌++◌, map, refl, sym, ap, ◌∙◌, subst, inl, length, Some}
use Rattle.std.specs.List.{list_all, flat_map}
use Rattle.std.proofs.lemmas.Bool.{and_parts, eqb-true}
use Rattle.std.proofs.lemmas.List.{map-append}
use Rattle.dbn_value.specs.Members.{In}
use Rattle.dbn_value.specs.Order.{value_type}
use Rattle.dbn_value.specs.Scope.{Env, lookup, value_of, bind}
use Rattle.dbn_value.specs.declared.value.Value.{Value}
use Rattle.dbn_value.specs.declared.value.ColType.{ColType}
use Rattle.dbn_value.specs.declared.value.ColType.TheVariants as col
use Rattle.dbn_value.specs.declared.term.Var.{Var}
use Rattle.dbn_value.specs.declared.term.Term.{Term}
use Rattle.dbn_value.specs.declared.term.Term.TheVariants as term
use Rattle.dbn_value.proofs.MemberLaws.{in_map, in_flat, all_at, append_left, append_right}
use Rattle.dbn_formula.specs.Variables.{TypedVars, var_eq, binds}
use Rattle.dbn_formula.specs.Typing.{Shapes, type_in, term_type, agree, terms_fit}
use Rattle.dbn_formula.specs.Free.{variable_of}
use Rattle.dbn_formula.specs.Distinct.{distinct_vars}
use Rattle.dbn_formula.specs.Solutions.{HasShape}
use Rattle.dbn_formula.proofs.VariableLaws.{var_same, type_same}
use Rattle.dbn_formula.proofs.Choices.{type_of_bound}
use Rattle.dbn_instance.specs.Grounding.{grounded, grounded_fact}
use Rattle.dbn_instance.specs.declared.fact.Fact.{Fact}
use Rattle.dbn_instance.specs.declared.fact.FactPattern.{FactPattern}
use Rattle.dbn_net.specs.declared.want.Want.{Want}
use Rattle.dbn_net.specs.declared.rules.Arc.{Arc}
use Rattle.dbn_net.specs.declared.rules.Pattern.{Pattern}
use Rattle.dbn_net.specs.declared.rules.Transition.{Transition}
use Rattle.dbn_net.specs.Tables.{columns, types_of, given, shape_of, with_type, scope_of}
use Rattle.dbn_net.specs.Judging.{as_many, all_patterns, all_facts, terms_bound}
use Rattle.dbn_net.specs.Wants.{bound_tokens, bound_token}
use Rattle.dbn_net.specs.WellFormed.{terms_in}
use Rattle.dbn_net.proofs.Maybes.{some_is}
use Rattle.dbn_net.proofs.Listed.{heads, tails}
use Rattle.dbn_net.proofs.InsideLaws.{bind_first}
use Rattle.dbn_core.specs.Fire.{fresh_values, scope_values, fire_env}

-- ---- rows of terms

-- each variable that has a type has a value of it
abbrev pub IsTyped : TypedVars → Env → Type 0
IsTyped scope env = (x : Var) (type : ColType) → type_in scope x ≡ Some type → value_type (lookup env x) ≡ type

typed_term : (scope : TypedVars) (env : Env) → IsTyped scope env → (a : Term) (type : ColType) → agree (term_type scope a) (Some type) ≡ true
    → ((x : Var) → In x (variable_of a) → binds scope x ≡ true) → value_type (value_of env a) ≡ type
typed_term scope env typed (term.Var x) type fits bound =
    let own = type_of_bound scope x (bound x (inl refl)) in
    typed x own.0 own.1 ∙ type_same own.0 type (subst (λ o. agree o (Some type) ≡ true) own.1 fits)
typed_term scope env typed (term.Const v) type fits bound = type_same (value_type v) type fits

terms_shaped : (scope : TypedVars) (env : Env) → IsTyped scope env → (terms : List Term) (shape : List ColType) → length terms ≡ length shape → terms_fit scope terms shape ≡ true
    → ((x : Var) → In x (flat_map variable_of terms) → binds scope x ≡ true) → HasShape (map (value_of env) terms) shape
terms_shaped scope env typed [] [] same fit bound = refl
terms_shaped scope env typed [] (type ∷ shape) same fit bound = absurd cc
terms_shaped scope env typed (a ∷ terms) [] same fit bound = absurd cc
terms_shaped scope env typed (a ∷ terms) (type ∷ shape) same fit bound =
    let parts = and_parts (agree (term_type scope a) (Some type)) (terms_fit scope terms shape) fit in
    let rest : length terms ≡ length shape = cc in
    ap (λ t. t ∷ map value_type (map (value_of env) terms)) (typed_term scope env typed a type parts.0 (λ x at. bound x (append_left x (variable_of a) (flat_map variable_of terms) at)))
    ∙ ap (λ types. type ∷ types) (terms_shaped scope env typed terms shape rest parts.1 (λ x at. bound x (append_right x (variable_of a) (flat_map variable_of terms) at)))

pub row_shaped : (scope : TypedVars) (env : Env) → IsTyped scope env → (terms : List Term) (shape : List ColType) → terms_in scope terms shape ≡ true → HasShape (map (value_of env) terms) shape
row_shaped scope env typed terms shape fits =
    let all = and_parts (as_many terms shape && terms_fit scope terms shape) (terms_bound scope terms shape) fits in
    let parts = and_parts (as_many terms shape) (terms_fit scope terms shape) all.0 in
    terms_shaped scope env typed terms shape (eqb-true (length terms) (length shape) parts.0) parts.1 (λ x at. all_at (binds scope) x (flat_map variable_of terms) all.1 at)

-- ---- values of a scope

pub bind_typed : (vars : TypedVars) (row : List Value) (env : Env) → distinct_vars vars ≡ true → HasShape row (types_of vars) → IsTyped vars (bind vars row env)
bind_typed [] row env once fits x type e = absurd cc
bind_typed (y ∷ vars) [] env once fits x type e = absurd cc
bind_typed (y ∷ vars) (v ∷ row) env once fits x type e =
    by (var_eq x y.0) refl e
    (λ rest. bind_typed vars row ((y.0, v) ∷ env) (and_parts (not (binds vars y.0)) (distinct_vars vars) once).1 (tails (value_type v) y.1 (map value_type row) (types_of vars) fits) x type rest)
  where
    by : (b : Bool) → var_eq x y.0 ≡ b → cond b (Some y.1) (type_in vars x) ≡ Some type
        → (type_in vars x ≡ Some type → value_type (lookup (bind vars row ((y.0, v) ∷ env)) x) ≡ type) → value_type (lookup (bind vars row ((y.0, v) ∷ env)) x) ≡ type
    by true same own rest =
        ap (λ z. value_type (lookup (bind vars row ((y.0, v) ∷ env)) z)) (var_same x y.0 same) ∙ ap value_type (bind_first y v vars row env once)
        ∙ heads (value_type v) y.1 (map value_type row) (types_of vars) fits ∙ some_is y.1 type own
    by false other own rest = rest own

fresh_shaped : (fresh : List Var) (next : ℕ) → map value_type (fresh_values next fresh) ≡ types_of (with_type col.Id fresh)
fresh_shaped [] next = refl
fresh_shaped (x ∷ fresh) next = ap (λ types. col.Id ∷ types) (fresh_shaped fresh (next + 1))

pub scope_shaped : (t : Transition) (row : List Value) (next : ℕ) → HasShape row (shape_of t) → HasShape (scope_values t row next) (types_of (scope_of t))
scope_shaped t row next fits =
    map-append value_type row (fresh_values next t.fresh)
    ∙ ap (λ types. types ++ map value_type (fresh_values next t.fresh)) fits
    ∙ ap (λ types. shape_of t ++ types) (fresh_shaped t.fresh next)
    ∙ sym (map-append (λ (x : Var × ColType). x.1) (given t) (with_type col.Id t.fresh))

-- the values of all variables of a firing have their types
pub fire_typed : (t : Transition) (row : List Value) (next : ℕ) → distinct_vars (scope_of t) ≡ true → HasShape row (shape_of t) → IsTyped (scope_of t) (fire_env t row next)
fire_typed t row next once fits = bind_typed (scope_of t) (scope_values t row next) [] once (scope_shaped t row next fits)

-- ---- tokens and facts

pub tokens_shaped : (sites : Shapes) (scope : TypedVars) (env : Env) (arcs : List Arc) → IsTyped scope env → all_patterns (terms_in scope) sites arcs ≡ true
    → (w : Want Value) → In w (bound_tokens env arcs) → HasShape w.row (columns sites w.place)
tokens_shaped sites scope env arcs typed fits w at =
    let in_arc = in_flat (λ (arc : Arc). map (bound_token env arc.place) arc.patterns) w arcs at in
    let found = in_map (bound_token env in_arc.0.place) w in_arc.0.patterns in_arc.2 in
    let all = all_at (λ (arc : Arc). list_all (λ (p : Pattern). terms_in scope p.terms (columns sites arc.place)) arc.patterns) in_arc.0 arcs fits in_arc.1 in
    let one = all_at (λ (p : Pattern). terms_in scope p.terms (columns sites in_arc.0.place)) found.0 in_arc.0.patterns all found.1 in
    subst (λ (v : Want Value). HasShape v.row (columns sites v.place)) (sym found.2) (row_shaped scope env typed found.0.terms (columns sites in_arc.0.place) one)

pub facts_shaped : (rels : Shapes) (params : TypedVars) (args : List Value) (patterns : List FactPattern) → distinct_vars params ≡ true → HasShape args (types_of params)
    → all_facts (terms_in params) rels patterns ≡ true → (f : Fact Value) → In f (grounded params args patterns) → HasShape f.row (columns rels f.rel)
facts_shaped rels params args patterns once shape fits f at =
    let found = in_map (grounded_fact params args) f patterns at in
    let one = all_at (λ (p : FactPattern). terms_in params p.terms (columns rels p.rel)) found.0 patterns fits found.1 in
    subst (λ (g : Fact Value). HasShape g.row (columns rels g.rel)) (sym found.2)
    (row_shaped params (bind params args []) (bind_typed params args [] once shape) found.0.terms (columns rels found.0.rel) one)
