-- The variables of a transition that was made from names: each once, the bound ones from its `in` and `read` clauses.
use Rattle.std.proofs.Common.{◌≡◌, Bool, true, false, not, List, [], ◌∷◌, ◌++◌, map, refl, sym, ap, subst, ◌∙◌, ◌⊎◌, inl, inr, ⊎_elim, Some}
use Rattle.std.specs.List.{list_all, list_any, flat_map, filter}
use Rattle.std.proofs.lemmas.Bool.{and_parts, and_from, not-true}
use Rattle.std.proofs.lemmas.List.{map-append}
use Rattle.std.proofs.lemmas.List.Folds.{flat_map-map}
use Rattle.std.proofs.lemmas.Slice.Eq.{bytes_eq-Decides}
use Rattle.dbn_value.specs.Members.{In}
use Rattle.dbn_value.specs.Names.{name_eq}
use Rattle.dbn_value.specs.declared.value.ColType.{ColType}
use Rattle.dbn_value.specs.declared.value.ColType.TheVariants as col
use Rattle.dbn_value.specs.declared.term.Var.{Var}
use Rattle.dbn_value.specs.declared.term.Term.{Term}
use Rattle.dbn_value.specs.declared.term.Term.TheVariants as term
use Rattle.dbn_value.proofs.MemberLaws.{all_from, none_from, fails_at, map_in, in_append, append_left, append_right}
use Rattle.dbn_formula.specs.Variables.{TypedVars, var_eq, is_in, binds, firsts}
use Rattle.dbn_formula.specs.Free.{variable_of}
use Rattle.dbn_formula.specs.Distinct.{distinct_vars}
use Rattle.dbn_formula.proofs.VariableLaws.{var_other, is_of_in, in_firsts}
use Rattle.dbn_formula.proofs.Maps.{map-map}
use Rattle.dbn_net.specs.declared.written.WrittenAtom.{WrittenAtom}
use Rattle.dbn_net.specs.declared.written.WrittenPattern.{WrittenPattern}
use Rattle.dbn_net.specs.declared.written.WrittenArc.{WrittenArc}
use Rattle.dbn_net.specs.declared.written.WrittenInput.{WrittenInput}
use Rattle.dbn_net.specs.declared.written.WrittenInput.TheVariants as input
use Rattle.dbn_net.specs.declared.written.WrittenTransition.{WrittenTransition}
use Rattle.dbn_net.specs.declared.rules.Arc.{Arc}
use Rattle.dbn_net.specs.declared.rules.Read.{Read}
use Rattle.dbn_net.specs.declared.rules.Transition.{Transition}
use Rattle.dbn_net.specs.declared.decl.Decl.{Decl}
use Rattle.dbn_net.specs.Forms.{Name}
use Rattle.dbn_net.specs.Tables.{place_shapes, given, with_type, scope_of}
use Rattle.dbn_net.specs.Naming.{control_number, view_number, pattern, arc, read, ins_of, reads_of, typed_occurrences, columns_at, input_occurrences, first_typed, bound_of}
use Rattle.dbn_net.specs.Judging.{is_new, once_behind, once, var_names, scope_names, input_vars, bound_vars, transition_once}
use Rattle.dbn_net.specs.WellFormed.{arc_vars, read_vars, clause_vars, transition_scoped}
use Rattle.dbn_net.proofs.Maybes.{mapped_found}
use Rattle.dbn_net.proofs.Listed.{each_flat, map_flat, map_filter}
use Rattle.dbn_net.proofs.MadeLaws.{Made}

-- ---- names that stand once

pub later_new : (names seen : List Name) (s y : Name) → once_behind seen names ≡ true → In s seen → In y names → name_eq y s ≡ false
later_new [] seen s y e before at = absurd at
later_new (z ∷ names) seen s y e before at =
    let parts = and_parts (is_new seen z) (once_behind (seen ++ z ∷ []) names) e in
    ⊎_elim (λ here. ap (λ n. name_eq n s) here ∙ fails_at (name_eq z) s seen (not-true (list_any (name_eq z) seen) parts.0) before)
    (λ later. later_new names (seen ++ z ∷ []) s y parts.1 (append_left s seen (z ∷ []) before) later) at

pub itself : (n : Name) → name_eq n n ≡ true
itself n = (bytes_eq-Decides n n).1 refl

pub once_distinct : (seen : List Name) (vars : TypedVars) → once_behind seen (scope_names vars) ≡ true → distinct_vars vars ≡ true
once_distinct seen [] e = refl
once_distinct seen (x ∷ vars) e =
    let parts = and_parts (is_new seen x.0.name) (once_behind (seen ++ x.0.name ∷ []) (scope_names vars)) e in
    and_from (not (binds vars x.0)) (distinct_vars vars)
    (ap not (none_from (λ y. var_eq x.0 y.0) vars (λ y at. var_other x.0 y.0 (λ same.
    clash (name_eq y.0.name x.0.name) (ap (λ (v : Var). name_eq y.0.name v.name) same ∙ itself y.0.name)
    (later_new (scope_names vars) (seen ++ x.0.name ∷ []) x.0.name y.0.name parts.1
    (append_right x.0.name seen (x.0.name ∷ []) (inl refl)) (map_in (λ (z : Var × ColType). z.0.name) y vars at))))))
    (once_distinct (seen ++ x.0.name ∷ []) vars parts.1)
  where
    clash : (b : Bool) → b ≡ true → b ≡ false → ⊥
    clash b t f = cc

-- ---- the bound variables

abbrev var_in : Var × ColType → Var
var_in x = x.0

first_vars : (xs : TypedVars) → map var_in (first_typed xs) ≡ firsts (map var_in xs)
first_vars [] = refl
first_vars (x ∷ xs) =
    ap (λ l. x.0 ∷ l) (map_filter var_in (λ y. not (var_eq x.0 y)) (first_typed xs) ∙ ap (filter (λ y. not (var_eq x.0 y))) (first_vars xs))

occurrence_vars : (terms : List Term) (shape : List ColType) → map var_in (typed_occurrences terms shape) ≡ flat_map variable_of terms
occurrence_vars [] shape = refl
occurrence_vars (term.Var x ∷ terms) [] = ap (λ l. x ∷ l) (occurrence_vars terms [])
occurrence_vars (term.Const v ∷ terms) [] = occurrence_vars terms []
occurrence_vars (term.Var x ∷ terms) (type ∷ shape) = ap (λ l. x ∷ l) (occurrence_vars terms shape)
occurrence_vars (term.Const v ∷ terms) (type ∷ shape) = occurrence_vars terms shape

input_vars_are : (net : List Decl) (m : WrittenInput) → map var_in (input_occurrences net m) ≡ input_vars m
input_vars_are net (input.In p) =
    map_flat var_in (λ (h : WrittenPattern). typed_occurrences h.terms (columns_at (place_shapes net) (control_number net p.place))) (λ h. flat_map variable_of h.terms)
    (λ h. occurrence_vars h.terms (columns_at (place_shapes net) (control_number net p.place))) p.patterns
input_vars_are net (input.Read g) = occurrence_vars g.terms (columns_at (place_shapes net) (view_number net g.name))

pub bound_vars_are : (net : List Decl) (inputs : List WrittenInput) → map var_in (bound_of net inputs) ≡ bound_vars inputs
bound_vars_are net inputs =
    first_vars (flat_map (input_occurrences net) inputs) ∙ ap firsts (map_flat var_in (input_occurrences net) input_vars (input_vars_are net) inputs)

-- ---- each variable of a transition stands once

names_map : (vars : TypedVars) → scope_names vars ≡ var_names (map var_in vars)
names_map vars = sym (map-map (λ (x : Var). x.name) var_in vars)

fresh_names : (xs : List Var) → scope_names (with_type col.Id xs) ≡ var_names xs
fresh_names xs = map-map (λ (x : Var × ColType). x.0.name) (λ (x : Var). (x, col.Id)) xs

scope_name_list : (net : List Decl) (r : WrittenTransition) (t : Transition) → Made net r t → scope_names (scope_of t) ≡ var_names (bound_vars r.inputs) ++ scope_names r.asked ++ var_names r.fresh
scope_name_list net r t made =
    map-append (λ (x : Var × ColType). x.0.name) (given t) (with_type col.Id t.fresh)
    ∙ ap (λ l. l ++ scope_names (with_type col.Id t.fresh)) (map-append (λ (x : Var × ColType). x.0.name) t.bound t.asked)
    ∙ ap (λ l. l ++ scope_names t.asked ++ scope_names (with_type col.Id t.fresh)) (names_map t.bound ∙ ap (λ vars. var_names (map var_in vars)) made.bound ∙ ap var_names (bound_vars_are net r.inputs))
    ∙ ap (λ vars. var_names (bound_vars r.inputs) ++ scope_names vars ++ scope_names (with_type col.Id t.fresh)) made.asked
    ∙ ap (λ l. var_names (bound_vars r.inputs) ++ scope_names r.asked ++ l) (fresh_names t.fresh ∙ ap var_names made.fresh)

-- ---- each bound variable occurs in a clause

abbrev part_vars : WrittenArc → List Var
part_vars p = flat_map (λ h. flat_map variable_of h.terms) p.patterns

abbrev written_atom_vars : WrittenAtom → List Var
written_atom_vars g = flat_map variable_of g.terms

arc_part : (net : List Decl) (p : WrittenArc) (a : Arc) → arc net p ≡ Some a → flat_map (λ q. flat_map variable_of q.terms) a.patterns ≡ part_vars p
arc_part net p a e =
    let (n, is, made) = mapped_found (λ k. record { place = k; patterns = map pattern p.patterns }) (control_number net p.place) a e in
    ap (λ (b : Arc). flat_map (λ q. flat_map variable_of q.terms) b.patterns) (sym made) ∙ flat_map-map (λ q. flat_map variable_of q.terms) pattern p.patterns

read_part : (net : List Decl) (g : WrittenAtom) (r : Read) → read net g ≡ Some r → flat_map variable_of r.terms ≡ written_atom_vars g
read_part net g r e =
    let (n, is, made) = mapped_found (λ k. record { view = k; terms = g.terms }) (view_number net g.name) r e in
    ap (λ (q : Read). flat_map variable_of q.terms) (sym made)

parted : (x : Var) (inputs : List WrittenInput) → In x (flat_map input_vars inputs) → In x (flat_map part_vars (ins_of inputs)) ⊎ In x (flat_map written_atom_vars (reads_of inputs))
parted x [] at = absurd at
parted x (input.In p ∷ inputs) at =
    ⊎_elim (λ here. inl (append_left x (part_vars p) (flat_map part_vars (ins_of inputs)) here))
    (λ later. ⊎_elim (λ a. inl (append_right x (part_vars p) (flat_map part_vars (ins_of inputs)) a)) (λ b. inr b) (parted x inputs later))
    (in_append x (part_vars p) (flat_map input_vars inputs) at)
parted x (input.Read g ∷ inputs) at =
    ⊎_elim (λ here. inr (append_left x (written_atom_vars g) (flat_map written_atom_vars (reads_of inputs)) here))
    (λ later. ⊎_elim (λ a. inl a) (λ b. inr (append_right x (written_atom_vars g) (flat_map written_atom_vars (reads_of inputs)) b)) (parted x inputs later))
    (in_append x (written_atom_vars g) (flat_map input_vars inputs) at)

occurs : (net : List Decl) (r : WrittenTransition) (t : Transition) → Made net r t → (x : Var × ColType) → In x t.bound → In x.0 (clause_vars t)
occurs net r t made x at =
    let named : In x.0 (bound_vars r.inputs) = subst (λ l. In x.0 l) (ap (map var_in) made.bound ∙ bound_vars_are net r.inputs) (map_in var_in x t.bound at) in
    ⊎_elim
    (λ a. append_left x.0 (arc_vars t.ins) (read_vars t.reads)
    (subst (λ l. In x.0 l) (sym (each_flat (arc net) (λ (b : Arc). flat_map (λ q. flat_map variable_of q.terms) b.patterns) part_vars (arc_part net) (ins_of r.inputs) t.ins made.ins)) a))
    (λ b. append_right x.0 (arc_vars t.ins) (read_vars t.reads)
    (subst (λ l. In x.0 l) (sym (each_flat (read net) (λ (q : Read). flat_map variable_of q.terms) written_atom_vars (read_part net) (reads_of r.inputs) t.reads made.reads)) b))
    (parted x.0 r.inputs (in_firsts x.0 (flat_map input_vars r.inputs) named))

pub scoped : (net : List Decl) (r : WrittenTransition) (t : Transition) → Made net r t → transition_once r ≡ true → transition_scoped t ≡ true
scoped net r t made once_all =
    and_from (distinct_vars (scope_of t)) (list_all (λ x. is_in x.0 (clause_vars t)) t.bound)
    (once_distinct [] (scope_of t) (ap once (scope_name_list net r t made) ∙ once_all))
    (all_from (λ x. is_in x.0 (clause_vars t)) t.bound (λ x at. is_of_in x.0 (clause_vars t) (occurs net r t made x at)))
