-- The scope at a place of a formula, with the variables of each quantifier around it.
use Rattle.dbn_formula.specs.Variables.{TypedVars}
use Rattle.dbn_formula.specs.Typing.{entered}
use Rattle.dbn_reader.specs.declared.formula_types.Scope.{Scope}
use Rattle.dbn_reader.specs.declared.formula_types.Scope.TheVariants.{Given, Inner'}

-- the scope at a place of a formula as a list, from the given variables and the quantifiers around the place
abbrev pub entries : Scope → TypedVars
entries (Given vars) = vars.now
entries (Inner' vars p outer) = entered vars.now (entries outer)
