-- Facts from patterns: arguments in the place of parameters.
use Rattle.std.specs.Prelude.{List, [], map}
use Rattle.dbn_value.specs.Scope.{TypedVars, bind, value_of}
use Rattle.dbn_value.specs.declared.value.Value.{Value}
use Rattle.dbn_instance.specs.declared.fact.Fact.{Fact}
use Rattle.dbn_instance.specs.declared.fact.FactPattern.{FactPattern}

-- the fact of a pattern, each variable with the argument in its place
abbrev pub grounded_fact : TypedVars → List Value → FactPattern → Fact Value
grounded_fact params args pattern = record { rel = pattern.rel; row = map (value_of (bind params args [])) pattern.terms }

-- the facts of the patterns, in their order
abbrev pub grounded : TypedVars → List Value → List FactPattern → List (Fact Value)
grounded params args patterns = map (grounded_fact params args) patterns
