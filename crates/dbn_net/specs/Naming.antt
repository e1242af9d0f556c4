-- Numbers for names, by what was declared before, and names for numbers.
use Rattle.std.specs.Prelude.{ℕ, ℤ, pos, negsuc, Bool, true, false, not, List, [], ◌∷◌, ◌++◌, map, Option, Some, None, slice_get, slice_index_or}
use Rattle.std.specs.List.{filter, filter_map, flat_map, position}
use Rattle.std.specs.Option.{option_map, option_map_or}
use Rattle.dbn_value.specs.Names.{name_eq}
use Rattle.dbn_value.specs.declared.value.ColType.{ColType}
use Rattle.dbn_value.specs.declared.value.ColType.TheVariants as col
use Rattle.dbn_value.specs.declared.term.Term.{Term}
use Rattle.dbn_value.specs.declared.term.Term.TheVariants as term
use Rattle.dbn_formula.specs.Variables.{TypedVars, var_eq}
use Rattle.dbn_formula.specs.Typing.{Shapes}
use Rattle.dbn_formula.specs.declared.formula.Formula.{Formula}
use Rattle.dbn_formula.specs.declared.formula.Formula.TheVariants as formula
use Rattle.dbn_formula.specs.declared.formula.Formula.TheOpen.{Formula-F}
use Rattle.dbn_formula.specs.declared.formula.Formula.TheOpen as numbered
use Rattle.dbn_formula.specs.declared.formula.Formula.TheFolds.{fold-Formula}
use Rattle.dbn_instance.specs.declared.fact.FactPattern.{FactPattern}
use Rattle.dbn_net.specs.declared.written.WrittenFormula.{WrittenFormula}
use Rattle.dbn_net.specs.declared.written.WrittenFormula.TheVariants as written_formula
use Rattle.dbn_net.specs.declared.written.WrittenFormula.TheOpen.{WrittenFormula-F}
use Rattle.dbn_net.specs.declared.written.WrittenFormula.TheOpen as layer
use Rattle.dbn_net.specs.declared.written.WrittenFormula.TheFolds.{fold-WrittenFormula}
use Rattle.dbn_net.specs.declared.written.WrittenAtom.{WrittenAtom}
use Rattle.dbn_net.specs.declared.written.WrittenPattern.{WrittenPattern}
use Rattle.dbn_net.specs.declared.written.WrittenArc.{WrittenArc}
use Rattle.dbn_net.specs.declared.written.WrittenInput.{WrittenInput}
use Rattle.dbn_net.specs.declared.written.WrittenInput.TheVariants as input
use Rattle.dbn_net.specs.declared.written.WrittenTransition.{WrittenTransition}
use Rattle.dbn_net.specs.declared.written.Written.{Written}
use Rattle.dbn_net.specs.declared.written.Written.TheVariants as written
use Rattle.dbn_net.specs.declared.rules.Pattern.{Pattern}
use Rattle.dbn_net.specs.declared.rules.Arc.{Arc}
use Rattle.dbn_net.specs.declared.rules.Read.{Read}
use Rattle.dbn_net.specs.declared.rules.Call.{Call}
use Rattle.dbn_net.specs.declared.rules.Transition.{Transition}
use Rattle.dbn_net.specs.declared.decl.Place.{Place}
use Rattle.dbn_net.specs.declared.decl.Place.TheVariants as place
use Rattle.dbn_net.specs.declared.decl.Decl.{Decl}
use Rattle.dbn_net.specs.declared.decl.Decl.TheVariants as decl
use Rattle.dbn_net.specs.declared.decl.Entry.{Entry}
use Rattle.dbn_net.specs.declared.decl.Entry.TheVariants.{Part, Fact, Tokens}
use Rattle.dbn_net.specs.Maybe.{◌>>=◌, each, all_known, if_given, only_if}
use Rattle.dbn_net.specs.Forms.{Name}
use Rattle.dbn_net.specs.Tables.{relation_names, query_names, action_names, place_names, field_names, places, place_shapes, columns, is_control, is_view}

-- ---- numbers of names

-- the place of a name among names
abbrev pub number_of : List Name → Name → Option ℕ
number_of names name = position (name_eq name) names

abbrev pub name_at : List Name → ℕ → Name
name_at names n = slice_index_or names n []

abbrev pub site_if : (Place → Bool) → List Place → ℕ → Option ℕ
site_if is sites n = slice_get sites n >>= λ site. only_if (is site) n

-- the number of a control place, and of a view
abbrev pub control_number : List Decl → Name → Option ℕ
control_number net name = number_of (place_names net) name >>= site_if is_control (places net)

abbrev pub view_number : List Decl → Name → Option ℕ
view_number net name = number_of (place_names net) name >>= site_if is_view (places net)

-- ---- formulas

abbrev pub number_step : List Name → WrittenFormula-F (Option Formula) → Option Formula
number_step names (layer.Atom rel terms) = option_map (λ n. formula.Atom n terms) (number_of names rel)
number_step names (layer.Test cmp left right) = Some (formula.Test cmp left right)
number_step names (layer.And parts) = option_map formula.And (all_known parts)
number_step names (layer.Or parts) = option_map formula.Or (all_known parts)
number_step names (layer.Not part) = option_map formula.Not part
number_step names (layer.Implies left right) = left >>= λ f. right >>= λ g. Some (formula.Implies f g)
number_step names (layer.Exists vars body) = option_map (formula.Exists vars) body
number_step names (layer.Forall vars body) = option_map (formula.Forall vars) body

-- the formula with the numbers of its relations
unfoldable pub resolved_formula : List Name → WrittenFormula → Option Formula
resolved_formula names p = fold-WrittenFormula (Option Formula) (number_step names) p

abbrev pub name_step : List Name → Formula-F WrittenFormula → WrittenFormula
name_step names (numbered.Atom rel terms) = written_formula.Atom (name_at names rel) terms
name_step names (numbered.Test cmp left right) = written_formula.Test cmp left right
name_step names (numbered.And parts) = written_formula.And parts
name_step names (numbered.Or parts) = written_formula.Or parts
name_step names (numbered.Not part) = written_formula.Not part
name_step names (numbered.Implies left right) = written_formula.Implies left right
name_step names (numbered.Exists vars body) = written_formula.Exists vars body
name_step names (numbered.Forall vars body) = written_formula.Forall vars body

-- the formula with the names of its relations
unfoldable pub named_formula : List Name → Formula → WrittenFormula
named_formula names f = fold-Formula WrittenFormula (name_step names) f

-- ---- arcs, reads and calls

-- a number below 0 is none of tokens, which the test of counts refuses
abbrev pub count : ℤ → ℕ
count (pos n) = n
count (negsuc n) = 0

abbrev pub pattern : WrittenPattern → Pattern
pattern h = record { many = count h.many; terms = h.terms }

abbrev pub written_pattern : Pattern → WrittenPattern
written_pattern p = record { many = pos p.many; terms = p.terms }

abbrev pub arc : List Decl → WrittenArc → Option Arc
arc net p = option_map (λ n. record { place = n; patterns = map pattern p.patterns }) (control_number net p.place)

abbrev pub written_arc : List Decl → Arc → WrittenArc
written_arc net a = record { place = name_at (place_names net) a.place; patterns = map written_pattern a.patterns }

abbrev pub read : List Decl → WrittenAtom → Option Read
read net g = option_map (λ n. record { view = n; terms = g.terms }) (view_number net g.name)

abbrev pub written_read : List Decl → Read → WrittenAtom
written_read net r = record { name = name_at (place_names net) r.view; terms = r.terms }

abbrev pub call : List Decl → WrittenAtom → Option Call
call net g = option_map (λ n. record { action = n; args = g.terms }) (number_of (action_names net) g.name)

abbrev pub written_call : List Decl → Call → WrittenAtom
written_call net c = record { name = name_at (action_names net) c.action; terms = c.args }

-- ---- transitions

abbrev pub in_clause : WrittenInput → Option WrittenArc
in_clause (input.In p) = Some p
in_clause (input.Read g) = None

abbrev pub read_clause : WrittenInput → Option WrittenAtom
read_clause (input.In p) = None
read_clause (input.Read g) = Some g

abbrev pub is_in_clause : WrittenInput → Bool
is_in_clause (input.In p) = true
is_in_clause (input.Read g) = false

abbrev pub ins_of : List WrittenInput → List WrittenArc
ins_of inputs = filter_map in_clause inputs

abbrev pub reads_of : List WrittenInput → List WrittenAtom
reads_of inputs = filter_map read_clause inputs

-- the clauses in the order of the flags, of which true stands for an `in` clause
abbrev pub mixed : List Bool → List WrittenArc → List WrittenAtom → List WrittenInput
mixed [] ins reads = []
mixed (true ∷ flags) [] reads = mixed flags [] reads
mixed (true ∷ flags) (p ∷ ins) reads = input.In p ∷ mixed flags ins reads
mixed (false ∷ flags) ins [] = mixed flags ins []
mixed (false ∷ flags) ins (g ∷ reads) = input.Read g ∷ mixed flags ins reads

abbrev pub typed_variable : Term → ColType → TypedVars
typed_variable (term.Var x) type = (x, type) ∷ []
typed_variable (term.Const v) type = []

-- the variables of terms with the types of their columns; a variable behind the last column gets some type, since the test of
-- numbers of terms refuses it
abbrev pub typed_occurrences : List Term → List ColType → TypedVars
typed_occurrences [] shape = []
typed_occurrences (t ∷ terms) [] = typed_variable t col.Int ++ typed_occurrences terms []
typed_occurrences (t ∷ terms) (type ∷ shape) = typed_variable t type ++ typed_occurrences terms shape

abbrev pub columns_at : Shapes → Option ℕ → List ColType
columns_at shapes n = option_map_or (columns shapes) n []

abbrev pub input_occurrences : List Decl → WrittenInput → TypedVars
input_occurrences net (input.In p) = flat_map (λ h. typed_occurrences h.terms (columns_at (place_shapes net) (control_number net p.place))) p.patterns
input_occurrences net (input.Read g) = typed_occurrences g.terms (columns_at (place_shapes net) (view_number net g.name))

-- each variable once, with the type of its first occurrence
abbrev pub first_typed : TypedVars → TypedVars
first_typed [] = []
first_typed (x ∷ xs) = x ∷ filter (λ y. not (var_eq x.0 y.0)) (first_typed xs)

-- the bound variables: those of the `in` and `read` clauses
abbrev pub bound_of : List Decl → List WrittenInput → TypedVars
bound_of net inputs = first_typed (flat_map (input_occurrences net) inputs)

abbrev pub transition : List Decl → WrittenTransition → Option Transition
transition net r =
    each (arc net) (ins_of r.inputs) >>= λ ins.
    each (read net) (reads_of r.inputs) >>= λ reads.
    if_given (resolved_formula []) r.guard >>= λ guard.
    if_given (call net) r.call >>= λ called.
    each (arc net) r.outs >>= λ outs.
    each (arc net) r.backs >>= λ backs.
    Some (record {
      name = r.name;
      ins = ins;
      reads = reads;
      mixture = map is_in_clause r.inputs;
      guard = guard;
      asked = r.asked;
      fresh = r.fresh;
      call = called;
      outs = outs;
      backs = backs;
      bound = bound_of net r.inputs;
    })

abbrev pub written_transition : List Decl → Transition → WrittenTransition
written_transition net t = record {
  name = t.name;
  inputs = mixed t.mixture (map (written_arc net) t.ins) (map (written_read net) t.reads);
  guard = option_map (named_formula []) t.guard;
  asked = t.asked;
  fresh = t.fresh;
  call = option_map (written_call net) t.call;
  outs = map (written_arc net) t.outs;
  backs = map (written_arc net) t.backs;
}

-- ---- the other declarations

-- the numbers of columns of a relation
abbrev pub fields_of : List Decl → ℕ → List Name → Option (List ℕ)
fields_of net n fields = each (number_of (field_names net n)) fields

abbrev pub resolved_key : List Decl → Name → List Name → Option Decl
resolved_key net rel fields =
    number_of (relation_names net) rel >>= λ n.
    fields_of net n fields >>= λ numbers.
    Some (decl.Key n numbers)

abbrev pub resolved_foreign : List Decl → Name → List Name → Name → List Name → Option Decl
resolved_foreign net rel fields to to_fields =
    number_of (relation_names net) rel >>= λ n.
    fields_of net n fields >>= λ numbers.
    number_of (relation_names net) to >>= λ m.
    fields_of net m to_fields >>= λ to_numbers.
    Some (decl.Foreign n numbers m to_numbers)

abbrev pub fact_pattern : List Name → WrittenAtom → Option FactPattern
fact_pattern names g = option_map (λ n. record { rel = n; terms = g.terms }) (number_of names g.name)

abbrev pub written_fact : List Decl → FactPattern → WrittenAtom
written_fact net p = record { name = name_at (relation_names net) p.rel; terms = p.terms }

abbrev pub resolved_action : List Decl → Name → TypedVars → List WrittenAtom → List WrittenAtom → Option Decl
resolved_action net name params deletes adds =
    each (fact_pattern (relation_names net)) deletes >>= λ gone.
    each (fact_pattern (relation_names net)) adds >>= λ new.
    Some (decl.Act (record { name = name; params = params; deletes = gone; adds = new }))

-- the declaration with the numbers of what was declared before; nothing exactly where a name is unknown, or a place is of
-- the other kind
abbrev pub resolved : List Decl → Written → Option Entry
resolved net (written.Relation name fields) = Some (Part (decl.Relation name fields))
resolved net (written.Key rel fields) = option_map Part (resolved_key net rel fields)
resolved net (written.Foreign rel fields to to_fields) = option_map Part (resolved_foreign net rel fields to to_fields)
resolved net (written.Always name body) = option_map (λ f. Part (decl.Always name f)) (resolved_formula (relation_names net) body)
resolved net (written.Query name vars body) = option_map (λ f. Part (decl.Query name vars f)) (resolved_formula (relation_names net) body)
resolved net (written.Action name params deletes adds) = option_map Part (resolved_action net name params deletes adds)
resolved net (written.Control name shape) = Some (Part (decl.Site (place.Control name shape)))
resolved net (written.View name query) = option_map (λ n. Part (decl.Site (place.View name n))) (number_of (query_names net) query)
resolved net (written.Transition r) = option_map (λ t. Part (decl.Trans t)) (transition net r)
resolved net (written.Fact rel row) = option_map (λ n. Fact n row) (number_of (relation_names net) rel)
resolved net (written.Token place many row) = option_map (λ n. Tokens n (count many) row) (control_number net place)

abbrev pub named_place : List Decl → Place → Written
named_place net (place.Control name shape) = written.Control name shape
named_place net (place.View name query) = written.View name (name_at (query_names net) query)

-- the declaration with the names of what was declared before
abbrev pub named : List Decl → Decl → Written
named net (decl.Relation name fields) = written.Relation name fields
named net (decl.Key rel fields) = written.Key (name_at (relation_names net) rel) (map (name_at (field_names net rel)) fields)
named net (decl.Foreign rel fields to to_fields) =
    written.Foreign (name_at (relation_names net) rel) (map (name_at (field_names net rel)) fields)
    (name_at (relation_names net) to) (map (name_at (field_names net to)) to_fields)
named net (decl.Always name body) = written.Always name (named_formula (relation_names net) body)
named net (decl.Query name vars body) = written.Query name vars (named_formula (relation_names net) body)
named net (decl.Act a) = written.Action a.name a.params (map (written_fact net) a.deletes) (map (written_fact net) a.adds)
named net (decl.Site p) = named_place net p
named net (decl.Trans t) = written.Transition (written_transition net t)

abbrev pub named_entry : List Decl → Entry → Written
named_entry net (Part d) = named net d
named_entry net (Fact rel row) = written.Fact (name_at (relation_names net) rel) row
named_entry net (Tokens place many row) = written.Token (name_at (place_names net) place) (pos many) row
