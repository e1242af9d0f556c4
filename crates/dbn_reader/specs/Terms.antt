-- Tests of terms under a scope, against the columns at which they stand.
use Rattle.std.specs.Prelude.{Bool, ◌&&◌, List}
use Rattle.dbn_value.specs.declared.value.ColType.{ColType}
use Rattle.dbn_value.specs.declared.term.Term.{Term}
use Rattle.dbn_formula.specs.Variables.{TypedVars}
use Rattle.dbn_formula.specs.Typing.{terms_fit}
use Rattle.dbn_instance.specs.declared.fact.Action.{Action}
use Rattle.dbn_net.specs.declared.rules.Transition.{Transition}
use Rattle.dbn_net.specs.declared.decl.Decl.{Decl}
use Rattle.dbn_net.specs.Tables.{relation_shapes, scope_of}
use Rattle.dbn_net.specs.Judging.{as_many, terms_bound, all_facts, all_terms}
use Rattle.dbn_reader.specs.declared.terms.TermTest.{TermTest}
use Rattle.dbn_reader.specs.declared.terms.TermTest.TheVariants.{AsMany, Fit, Bound}

abbrev pub tested : TermTest → TypedVars → List Term → List ColType → Bool
tested AsMany scope terms shape = as_many terms shape
tested Fit scope terms shape = terms_fit scope terms shape
tested Bound scope terms shape = terms_bound scope terms shape

-- all terms of an action, under its parameters
abbrev pub all_of_action : TermTest → List Decl → Action → Bool
all_of_action test net a = all_facts (tested test a.params) (relation_shapes net) a.deletes && all_facts (tested test a.params) (relation_shapes net) a.adds

-- all terms of a transition, each under the variables that have values where it stands
abbrev pub all_of_transition : TermTest → List Decl → Transition → Bool
all_of_transition test net t = all_terms (tested test t.bound) (tested test (scope_of t)) net t
