-- What a test asks of its query and its network.
use Rattle.std.specs.Prelude.{◌≡◌, true, length, IsTrue}
use Rattle.dbn_value.specs.Members.{In}
use Rattle.dbn_value.specs.declared.term.Var.{Var}
use Rattle.dbn_formula.specs.Variables.{TypedVars, binds}
use Rattle.dbn_formula.specs.Free.{occurrences}
use Rattle.dbn_formula.specs.Distinct.{distinct_vars}
use Rattle.dbn_formula.specs.Safe.{query_safe}
use Rattle.dbn_formula.specs.declared.formula.Formula.{Formula}
use Rattle.dbn_network.specs.States.{State}

-- accepted, but for its types
pub record Passes (f : Formula) (vars : TypedVars) : Type 0 where
  pub once : distinct_vars vars ≡ true
  pub each : (x : Var) → binds vars x ≡ true → In x (occurrences f)
  pub is_safe : query_safe f ≡ true

-- live, over relations alone
pub record IsTested {C : Type 0} (s : State C) : Type 0 where
  pub live : IsTrue s.live
  pub rels : s.shapes ≡ s.rels
  pub feeds : length s.feeds ≡ length s.rels
