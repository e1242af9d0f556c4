-- A query of which one of several parts holds: its rows are a union, with its columns in the order of the variables.
use Rattle.std.proofs.Common.{◌≡◌, ℕ, ℤ, inr, true, List, [], refl, sym, subst, Option}
use Rattle.std.specs.declared.cmp.Ordering.{Ordering}
use Rattle.std.specs.List.{flat_map}
use Rattle.dbn_value.specs.Members.{In}
use Rattle.dbn_value.proofs.MemberLaws.{in_map}
use Rattle.dbn_value.specs.declared.value.Value.{Value}
use Rattle.dbn_value.specs.declared.value.ColType.{ColType}
use Rattle.dbn_value.specs.declared.term.Var.{Var}
use Rattle.dbn_value.specs.declared.term.Term.{Term}
use Rattle.dbn_value.specs.declared.term.Term.TheVariants as term
use Rattle.dbn_formula.specs.Variables.{TypedVars, binds}
use Rattle.dbn_formula.specs.Free.{occurrences}
use Rattle.dbn_formula.specs.declared.formula.Formula.{Formula}
use Rattle.dbn_formula.specs.declared.formula.Formula.TheVariants.{Or}
use Rattle.dbn_formula.proofs.FreeLaws.{occurrences_or}
use Rattle.dbn_formula.proofs.VariableLaws.{in_bound}
use Rattle.dbn_nodes.specs.declared.node.Node.TheVariants as node
use Rattle.dbn_nodes.specs.Answering.{IsCounted}
use Rattle.dbn_network.specs.Holding.{IsDirect}
use Rattle.dbn_network.specs.States.{State}
use Rattle.dbn_plan.specs.declared.sources.Sources.{Sources}
use Rattle.dbn_plan.specs.Making.{AreSources, Made, SomeMade, WithVars, IsUnion}
use Rattle.dbn_plan.specs.Answering.{Rooted, Finished, Ends, var_labels}
use Rattle.dbn_plan.proofs.Places.{there_small, get_or_there}
use Rattle.dbn_plan.proofs.StepsMade.{shown_same}
use Rattle.dbn_plan.proofs.MadeLaws.{or_made}
use Rattle.dbn_plan.proofs.TopLaws.{wanted_occurs, rooted_plain}
use Rattle.dbn_plan.proofs.DeniedLaws.{wanted_var}

-- the variables of the query are those of all parts
pub wanted_labels : (parts : List Formula) (vars : TypedVars) (labels wanted : List Term) → labels ≡ [] → wanted ≡ var_labels vars
    → ((x : Var) → binds vars x ≡ true → In x (occurrences (Or parts))) → ((x : Var) → In x (occurrences (Or parts)) → binds vars x ≡ true) → WithVars (flat_map occurrences parts) labels wanted
wanted_labels parts vars labels wanted e_labels e occurring bound =
    subst (λ ls. WithVars (flat_map occurrences parts) ls wanted) (sym e_labels)
    (record {
      labelled = record {
        keeps = λ a at. absurd at;
        bound = record {
          there = λ x at. subst (In x) (occurrences_or parts) (wanted_occurs vars (Or parts) wanted occurring e x at);
          back = λ x at. wanted_var vars wanted e x (bound x (subst (In x) (sym (occurrences_or parts)) at));
        };
      };
      only = λ a at.
          let found = in_map (λ (y : Var × ColType). term.Var y.0) a vars (subst (In a) e at) in
          inr (found.0.0, found.2, subst (In found.0.0) (occurrences_or parts) (occurring found.0.0 (in_bound vars found.0 found.1)));
    })

union_ends : {C : Type 0} (s : State C) (vars : TypedVars) (i : ℕ) → IsUnion s i → Ends s vars i
union_ends s vars i (left, right, is) = record {
  there = there_small s.nodes i (node.Union left right) is;
  direct = λ d. subst IsDirect (sym (get_or_there s.nodes i (node.Union left right) d is)) tt;
  counted = λ none d. subst IsCounted (sym (get_or_there s.nodes i (node.Union left right) d is)) tt;
}

module _ {C : Type 0} {R : C → C → Ordering} {int_of : C → Option ℤ} (cell_of : Value → Option C) where
  pub union_finished : (consts : List Value) (parts : List Formula) (vars : TypedVars) (old new : State C) (sources : Sources) (i : ℕ) (labels : List Term) (made : ℕ) (wanted : List Term) → AreSources old sources → i ≡ sources.unit → labels ≡ []
      → WithVars (flat_map occurrences parts) labels wanted → SomeMade R int_of cell_of consts parts parts old new i labels made wanted → IsUnion new made → Finished R int_of cell_of consts (Or parts) vars old new made wanted
  union_finished consts parts vars old new sources i labels made wanted are e_i e_labels own some kept =
      let step : Made R int_of cell_of consts (Or parts) old new i labels made wanted = or_made parts old new i labels made wanted own.labelled some in
      let rooted : Rooted R int_of cell_of consts (Or parts) old new made wanted = rooted_plain cell_of consts (Or parts) old new sources i labels made wanted are e_i e_labels step in
      record {
        mid = new;
        inner = made;
        inner_labels = wanted;
        rooted = rooted;
        shown = shown_same R int_of new made wanted wanted rooted.placed refl;
        ends = union_ends new vars made kept;
      }
