-- The tests of a declaration behind those that were declared before. The kind of a fault is that of the first test that fails.
use Rattle.std.specs.Prelude.{ℕ, Bool, true, not, ◌&&◌, ◌==◌, nat_le, nat_lt, if◌then◌else◌, List, [], ◌∷◌, ◌++◌, map, length, Option, Some, None, Result, Ok, Err, slice_get}
use Rattle.std.specs.List.{filter_map, flat_map, list_any, list_all}
use Rattle.std.specs.Option.{option_map_or}
use Rattle.dbn_value.specs.Names.{name_eq}
use Rattle.dbn_value.specs.Order.{value_cmp, value_type, row_cmp}
use Rattle.dbn_value.specs.declared.value.Value.{Value}
use Rattle.dbn_value.specs.declared.value.ColType.{ColType}
use Rattle.dbn_value.specs.declared.term.Var.{Var}
use Rattle.dbn_value.specs.declared.term.Term.{Term}
use Rattle.dbn_sexp.specs.declared.sexp.Item.{Item, out-Item}
use Rattle.dbn_sexp.specs.declared.sexp.Item.TheOpen as atom
use Rattle.dbn_sexp.specs.declared.sexp.Sexp.{Sexp}
use Rattle.dbn_sexp.specs.Printing.{atoms}
use Rattle.dbn_formula.specs.Variables.{TypedVars, type_eq, is_in, binds, firsts}
use Rattle.dbn_formula.specs.Free.{variable_of, occurrences}
use Rattle.dbn_formula.specs.Typing.{Shapes, arity_fits, types_fit, terms_fit, all_bound}
use Rattle.dbn_formula.specs.Safe.{query_safe, sentence_safe}
use Rattle.dbn_instance.specs.Facts.{has_fact}
use Rattle.dbn_instance.specs.declared.fact.FactPattern.{FactPattern}
use Rattle.dbn_marking.specs.Counts.{count_at}
use Rattle.dbn_net.specs.declared.fault.NetKind.{NetKind}
use Rattle.dbn_net.specs.declared.fault.NetKind.TheVariants as kind
use Rattle.dbn_net.specs.declared.written.WrittenFormula.{WrittenFormula}
use Rattle.dbn_net.specs.declared.written.WrittenFormula.TheOpen.{WrittenFormula-F}
use Rattle.dbn_net.specs.declared.written.WrittenFormula.TheOpen as layer
use Rattle.dbn_net.specs.declared.written.WrittenFormula.TheFolds.{fold-WrittenFormula}
use Rattle.dbn_net.specs.declared.written.WrittenInput.{WrittenInput}
use Rattle.dbn_net.specs.declared.written.WrittenInput.TheVariants.{In, Read}
use Rattle.dbn_net.specs.declared.written.WrittenTransition.{WrittenTransition}
use Rattle.dbn_net.specs.declared.written.Written.{Written}
use Rattle.dbn_net.specs.declared.written.Written.TheVariants as written
use Rattle.dbn_net.specs.declared.rules.Arc.{Arc}
use Rattle.dbn_net.specs.declared.rules.Transition.{Transition}
use Rattle.dbn_net.specs.declared.decl.Decl.{Decl}
use Rattle.dbn_net.specs.declared.decl.Decl.TheVariants.{Foreign, Always, Query, Act, Trans}
use Rattle.dbn_net.specs.declared.decl.Decl.TheVariants as decl
use Rattle.dbn_net.specs.declared.decl.Entry.{Entry}
use Rattle.dbn_net.specs.declared.decl.Entry.TheVariants.{Part, Fact, Tokens}
use Rattle.dbn_net.specs.Forms.{Name}
use Rattle.dbn_net.specs.Printing.{sexp_of}
use Rattle.dbn_net.specs.Tables.{relations, relation_names, always_names, queries, query_names, actions, action_names, places, place_names, transitions, transition_names, columns, relation_shapes, action_shapes, place_shapes, scope_of}
use Rattle.dbn_net.specs.Naming.{number_of, control_number, resolved}
use Rattle.dbn_net.specs.Sentences.{labelled_sentences}

-- the facts and tokens that were declared before
pub record Begun : Type 0 where
  pub facts : List (List (List Value))
  pub tokens : List (List (List Value × ℕ))

-- ---- Limit

-- 64 bytes at most
abbrev pub atom_short : atom.Item-F Item Sexp → Bool
atom_short (atom.Name name) = nat_le (length name) 64
atom_short (atom.Const value) = true
atom_short (atom.List parts) = true

unfoldable pub is_short : Item → Bool
is_short one = atom_short (out-Item one)

-- each name that is written in it is short
abbrev pub short_names : Written → Bool
short_names w = list_all is_short (atoms (sexp_of w).item)

abbrev pub is_small : {A : Type 0} → List A → Bool
is_small xs = nat_le (length xs) 16

abbrev pub input_vars : WrittenInput → List Var
input_vars (In p) = flat_map (λ h. flat_map variable_of h.terms) p.patterns
input_vars (Read g) = flat_map variable_of g.terms

-- the bound variables, each once
abbrev pub bound_vars : List WrittenInput → List Var
bound_vars inputs = firsts (flat_map input_vars inputs)

abbrev pub transition_small : WrittenTransition → Bool
transition_small r = nat_le (length (bound_vars r.inputs)) 64 && is_small r.asked && is_small r.fresh

-- no list of columns, parameters or query variables has more than 16 parts; a transition has at most 64 bound, 16 asked and
-- 16 fresh variables
abbrev pub short_lists : Written → Bool
short_lists (written.Relation name fields) = is_small fields
short_lists (written.Query name vars body) = is_small vars
short_lists (written.Action name params deletes adds) = is_small params
short_lists (written.Control name shape) = is_small shape
short_lists (written.Transition r) = transition_small r
short_lists w = true

abbrev pub is_few : {A : Type 0} → List A → Bool
is_few xs = nat_lt (length xs) 65535

-- fewer than 65,535 of its kind were declared before; keys, foreign keys and `always` count together, and so do all places
abbrev pub few_of_kind : List Decl → Written → Bool
few_of_kind net (written.Relation name fields) = is_few (relations net)
few_of_kind net (written.Key rel fields) = is_few (labelled_sentences net)
few_of_kind net (written.Foreign rel fields to to_fields) = is_few (labelled_sentences net)
few_of_kind net (written.Always name body) = is_few (labelled_sentences net)
few_of_kind net (written.Query name vars body) = is_few (queries net)
few_of_kind net (written.Action name params deletes adds) = is_few (actions net)
few_of_kind net (written.Control name shape) = is_few (places net)
few_of_kind net (written.View name query) = is_few (places net)
few_of_kind net (written.Transition r) = is_few (transitions net)
few_of_kind net w = true

abbrev pub within_limits : List Decl → Written → Bool
within_limits net w = short_names w && short_lists w && few_of_kind net w

-- ---- Duplicate

abbrev pub is_new : List Name → Name → Bool
is_new names name = not (list_any (name_eq name) names)

-- no name stands twice, nor among those before
abbrev pub once_behind : List Name → List Name → Bool
once_behind seen [] = true
once_behind seen (x ∷ xs) = is_new seen x && once_behind (seen ++ x ∷ []) xs

abbrev pub once : List Name → Bool
once names = once_behind [] names

abbrev pub var_names : List Var → List Name
var_names vars = map (λ x. x.name) vars

abbrev pub scope_names : TypedVars → List Name
scope_names vars = map (λ x. x.0.name) vars

abbrev pub quantifies_step : WrittenFormula-F Bool → Bool
quantifies_step (layer.Atom rel terms) = true
quantifies_step (layer.Test cmp left right) = true
quantifies_step (layer.And parts) = list_all (λ part. part) parts
quantifies_step (layer.Or parts) = list_all (λ part. part) parts
quantifies_step (layer.Not part) = part
quantifies_step (layer.Implies left right) = left && right
quantifies_step (layer.Exists vars body) = once (scope_names vars) && body
quantifies_step (layer.Forall vars body) = once (scope_names vars) && body

-- every quantifier names each variable once
unfoldable pub quantifies_once : WrittenFormula → Bool
quantifies_once p = fold-WrittenFormula Bool quantifies_step p

-- a guard quantifies nothing; the bound, asked and fresh variables all have names of their own
abbrev pub transition_once : WrittenTransition → Bool
transition_once r = once (var_names (bound_vars r.inputs) ++ scope_names r.asked ++ var_names r.fresh)

abbrev pub fact_is_new : Begun → List Value → Option ℕ → Bool
fact_is_new begun row None = true
fact_is_new begun row (Some n) = not (has_fact value_cmp begun.facts (record { rel = n; row = row }))

abbrev pub token_is_new : Begun → List Value → Option ℕ → Bool
token_is_new begun row None = true
token_is_new begun row (Some n) = count_at row_cmp begun.tokens n row == 0

-- the name is new in its kind, no list names something twice, and the fact or the tokens are new
abbrev pub no_duplicate : List Decl → Begun → Written → Bool
no_duplicate net begun (written.Relation name fields) = is_new (relation_names net) name && once (map (λ f. f.0) fields)
no_duplicate net begun (written.Key rel fields) = once fields
no_duplicate net begun (written.Foreign rel fields to to_fields) = once fields && once to_fields
no_duplicate net begun (written.Always name body) = is_new (always_names net) name && quantifies_once body
no_duplicate net begun (written.Query name vars body) = is_new (query_names net) name && once (scope_names vars) && quantifies_once body
no_duplicate net begun (written.Action name params deletes adds) = is_new (action_names net) name && once (scope_names params)
no_duplicate net begun (written.Control name shape) = is_new (place_names net) name
no_duplicate net begun (written.View name query) = is_new (place_names net) name
no_duplicate net begun (written.Transition r) = is_new (transition_names net) r.name && transition_once r
no_duplicate net begun (written.Fact rel row) = fact_is_new begun row (number_of (relation_names net) rel)
no_duplicate net begun (written.Token place many row) = token_is_new begun row (control_number net place)

-- ---- Arity

abbrev pub as_many : {A B : Type 0} → List A → List B → Bool
as_many xs ys = length xs == length ys

-- a test of the terms of each pattern and the columns of its place or relation
abbrev pub all_patterns : (List Term → List ColType → Bool) → Shapes → List Arc → Bool
all_patterns test sites arcs = list_all (λ arc. list_all (λ p. test p.terms (columns sites arc.place)) arc.patterns) arcs

abbrev pub all_facts : (List Term → List ColType → Bool) → Shapes → List FactPattern → Bool
all_facts test rels patterns = list_all (λ p. test p.terms (columns rels p.rel)) patterns

-- the same of all terms of a transition: `before` tests those of `in` and `read` clauses, `after` those of the others
abbrev pub all_terms : (List Term → List ColType → Bool) → (List Term → List ColType → Bool) → List Decl → Transition → Bool
all_terms before after net t =
    all_patterns before (place_shapes net) t.ins
    && list_all (λ r. before r.terms (columns (place_shapes net) r.view)) t.reads
    && option_map_or (λ c. after c.args (columns (action_shapes net) c.action)) t.call true
    && all_patterns after (place_shapes net) t.outs
    && all_patterns after (place_shapes net) t.backs

-- as many terms, arguments and values as were declared, and both lists of a foreign key are equally long
abbrev pub has_arity : List Decl → Entry → Bool
has_arity net (Part (decl.Foreign rel fields to to_fields)) = as_many fields to_fields
has_arity net (Part (decl.Always name body)) = arity_fits (relation_shapes net) body
has_arity net (Part (decl.Query name vars body)) = arity_fits (relation_shapes net) body
has_arity net (Part (decl.Act a)) = all_facts as_many (relation_shapes net) a.deletes && all_facts as_many (relation_shapes net) a.adds
has_arity net (Part (decl.Trans t)) = all_terms as_many as_many net t
has_arity net (Fact rel row) = as_many row (columns (relation_shapes net) rel)
has_arity net (Tokens place many row) = as_many row (columns (place_shapes net) place)
has_arity net e = true

-- ---- TypeClash

-- each value has the type of its column
abbrev pub row_fits : List Value → List ColType → Bool
row_fits [] shape = true
row_fits (v ∷ row) [] = true
row_fits (v ∷ row) (type ∷ shape) = type_eq (value_type v) type && row_fits row shape

abbrev pub types_eq : List ColType → List ColType → Bool
types_eq [] others = true
types_eq (a ∷ types) [] = true
types_eq (a ∷ types) (b ∷ others) = type_eq a b && types_eq types others

-- the types of these columns
abbrev pub picked_types : List ColType → List ℕ → List ColType
picked_types shape fields = filter_map (slice_get shape) fields

-- each constant, value and variable has the type of its position
abbrev pub is_typed : List Decl → Entry → Bool
is_typed net (Part (decl.Foreign rel fields to to_fields)) =
    types_eq (picked_types (columns (relation_shapes net) rel) fields) (picked_types (columns (relation_shapes net) to) to_fields)
is_typed net (Part (decl.Always name body)) = types_fit (relation_shapes net) body []
is_typed net (Part (decl.Query name vars body)) = types_fit (relation_shapes net) body vars
is_typed net (Part (decl.Act a)) =
    all_facts (terms_fit a.params) (relation_shapes net) a.deletes && all_facts (terms_fit a.params) (relation_shapes net) a.adds
is_typed net (Part (decl.Trans t)) =
    all_terms (terms_fit t.bound) (terms_fit (scope_of t)) net t
    && option_map_or (λ g. types_fit [] g t.bound) t.guard true
is_typed net (Fact rel row) = row_fits row (columns (relation_shapes net) rel)
is_typed net (Tokens place many row) = row_fits row (columns (place_shapes net) place)
is_typed net e = true

-- ---- Unbound

-- each variable of the terms is one of the scope
abbrev pub terms_bound : TypedVars → List Term → List ColType → Bool
terms_bound scope terms shape = list_all (binds scope) (flat_map variable_of terms)

-- each variable is quantified, declared, bound, asked or fresh where it stands; a query variable is free in the formula
abbrev pub is_bound : List Decl → Entry → Bool
is_bound net (Part (decl.Always name body)) = all_bound body []
is_bound net (Part (decl.Query name vars body)) = all_bound body vars && list_all (λ x. is_in x.0 (occurrences body)) vars
is_bound net (Part (decl.Act a)) =
    all_facts (terms_bound a.params) (relation_shapes net) a.deletes && all_facts (terms_bound a.params) (relation_shapes net) a.adds
is_bound net (Part (decl.Trans t)) =
    all_terms (terms_bound t.bound) (terms_bound (scope_of t)) net t
    && option_map_or (λ g. all_bound g t.bound) t.guard true
is_bound net e = true

-- ---- Unsafe and Count

abbrev pub is_safe : Entry → Bool
is_safe (Part (decl.Always name body)) = sentence_safe body
is_safe (Part (decl.Query name vars body)) = query_safe body
is_safe e = true

abbrev pub is_count : ℕ → Bool
is_count n = nat_le 1 n && nat_le n 4294967295

abbrev pub arcs_counted : List Arc → Bool
arcs_counted arcs = list_all (λ arc. list_all (λ p. is_count p.many) arc.patterns) arcs

-- each number of tokens is from 1 to 4,294,967,295
abbrev pub is_counted : Entry → Bool
is_counted (Part (decl.Trans t)) = arcs_counted t.ins && arcs_counted t.outs && arcs_counted t.backs
is_counted (Tokens place many row) = is_count many
is_counted e = true

-- ---- all tests, in their order

-- the kind, unless the test passes
abbrev pub unless : {A E : Type 0} → Bool → E → Result A E → Result A E
unless passed kind rest = if passed then rest else Err kind

abbrev pub judged_entry : List Decl → Entry → Result Entry NetKind
judged_entry net e =
    unless (has_arity net e) kind.Arity
    (unless (is_typed net e) kind.TypeClash
    (unless (is_bound net e) kind.Unbound
    (unless (is_safe e) kind.Unsafe
    (unless (is_counted e) kind.Count (Ok e)))))

abbrev pub judged_resolved : List Decl → Option Entry → Result Entry NetKind
judged_resolved net None = Err kind.Unknown
judged_resolved net (Some e) = judged_entry net e

-- what a declaration means behind those before it, or the kind of its first fault
abbrev pub judged : List Decl → Begun → Written → Result Entry NetKind
judged net begun w =
    unless (within_limits net w) kind.Limit
    (unless (no_duplicate net begun w) kind.Duplicate
    (judged_resolved net (resolved net w)))
