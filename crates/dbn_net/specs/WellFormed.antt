-- Which declarations may follow a net, and what follows from it.
use Rattle.std.specs.Prelude.{◌≡◌, ℕ, ◌≤◌, Bool, true, ◌&&◌, nat_lt, List, [], ◌∷◌, ◌++◌, length, Option, Some, Ok, slice_get}
use Rattle.std.specs.List.{flat_map, list_all}
use Rattle.std.specs.Option.{option_map_or}
use Rattle.dbn_value.specs.Members.{In}
use Rattle.dbn_value.specs.declared.value.ColType.{ColType}
use Rattle.dbn_value.specs.declared.term.Var.{Var}
use Rattle.dbn_value.specs.declared.term.Term.{Term}
use Rattle.dbn_sexp.specs.Printing.{nesting}
use Rattle.dbn_formula.specs.Variables.{TypedVars, is_in}
use Rattle.dbn_formula.specs.Free.{variable_of}
use Rattle.dbn_formula.specs.Distinct.{distinct_vars}
use Rattle.dbn_formula.specs.Typing.{arity_fits, types_fit, terms_fit, all_bound}
use Rattle.dbn_formula.specs.declared.formula.Formula.{Formula}
use Rattle.dbn_instance.specs.declared.fact.FactPattern.{FactPattern}
use Rattle.dbn_instance.specs.declared.fact.Action.{Action}
use Rattle.dbn_net.specs.declared.rules.Arc.{Arc}
use Rattle.dbn_net.specs.declared.rules.Read.{Read}
use Rattle.dbn_net.specs.declared.rules.Transition.{Transition}
use Rattle.dbn_net.specs.declared.decl.Decl.{Decl}
use Rattle.dbn_net.specs.declared.decl.Decl.TheVariants.{Trans}
use Rattle.dbn_net.specs.declared.decl.Entry.TheVariants.{Part}
use Rattle.dbn_net.specs.declared.written.Written.{Written}
use Rattle.dbn_net.specs.Forms.{declaration_in}
use Rattle.dbn_net.specs.Printing.{sexp_of}
use Rattle.dbn_net.specs.Tables.{actions, places, relations, relation_shapes, scope_of, is_control, is_view, has_place}
use Rattle.dbn_net.specs.Naming.{named}
use Rattle.dbn_net.specs.Judging.{Begun, judged, as_many, all_terms, all_facts, terms_bound, arcs_counted}

-- ---- the rule of the reader: written with the names of those before it, a declaration is read behind them as itself

pub record Passes (before : List Decl) (d : Decl) : Type 0 where
  pub shape : declaration_in (sexp_of (named before d)) ≡ Some (named before d)
  pub tests : (begun : Begun) → judged before begun (named before d) ≡ Ok (Part d)
  pub nests : nesting (sexp_of (named before d)).item ≤ 64

abbrev pub AllPass : List Decl → List Decl → Type 0
AllPass before [] = Unit {0}
AllPass before (d ∷ net) = Passes before d × AllPass (before ++ d ∷ []) net

-- each declaration passes behind those before it
abbrev pub WellFormed : List Decl → Type 0
WellFormed net = AllPass [] net

-- each declaration as it is written
abbrev pub written_from : List Decl → List Decl → List Written
written_from before [] = []
written_from before (d ∷ net) = named before d ∷ written_from (before ++ d ∷ []) net

-- ---- what a core takes from it, over the tables of the whole net

-- as many terms as columns, each of the type of its column, and each variable one of the scope
abbrev pub terms_in : TypedVars → List Term → List ColType → Bool
terms_in scope terms shape = as_many terms shape && terms_fit scope terms shape && terms_bound scope terms shape

abbrev pub guard_in : TypedVars → Option Formula → Bool
guard_in scope guard = option_map_or (λ g. arity_fits [] g && types_fit [] g scope && all_bound g scope) guard true

abbrev pub transition_typed : List Decl → Transition → Bool
transition_typed net t = all_terms (terms_in t.bound) (terms_in (scope_of t)) net t && guard_in t.bound t.guard

abbrev pub arcs_known : List Decl → List Arc → Bool
arcs_known net arcs = list_all (λ arc. has_place is_control (places net) arc.place) arcs

-- each number is in range, and each place is of the kind that is asked for
abbrev pub transition_known : List Decl → Transition → Bool
transition_known net t =
    arcs_known net t.ins
    && list_all (λ r. has_place is_view (places net) r.view) t.reads
    && option_map_or (λ c. nat_lt c.action (length (actions net))) t.call true
    && arcs_known net t.outs
    && arcs_known net t.backs

abbrev pub arc_vars : List Arc → List Var
arc_vars arcs = flat_map (λ arc. flat_map (λ p. flat_map variable_of p.terms) arc.patterns) arcs

abbrev pub read_vars : List Read → List Var
read_vars reads = flat_map (λ r. flat_map variable_of r.terms) reads

-- the variables of the `in` and `read` clauses
abbrev pub clause_vars : Transition → List Var
clause_vars t = arc_vars t.ins ++ read_vars t.reads

-- no variable of a firing stands twice, and each bound one occurs in an `in` or `read` clause
abbrev pub transition_scoped : Transition → Bool
transition_scoped t = distinct_vars (scope_of t) && list_all (λ x. is_in x.0 (clause_vars t)) t.bound

abbrev pub facts_known : List Decl → List FactPattern → Bool
facts_known net patterns = list_all (λ p. nat_lt p.rel (length (relations net))) patterns

-- the facts that an action adds are of relations that there are, and typed
abbrev pub action_fits : List Decl → Action → Bool
action_fits net a = facts_known net a.adds && all_facts (terms_in a.params) (relation_shapes net) a.adds

pub record Fits (net : List Decl) (t : Transition) : Type 0 where
  pub known : transition_known net t ≡ true
  pub typed : transition_typed net t ≡ true
  pub scoped : transition_scoped t ≡ true
  -- its constants are values of the net
  pub declared : In (Trans t) net
  pub acts : (n : ℕ) (a : Action) → slice_get (actions net) n ≡ Some a → action_fits net a ≡ true
  pub ins : arcs_counted t.ins ≡ true
  pub outs : arcs_counted t.outs ≡ true
  pub backs : arcs_counted t.backs ≡ true
