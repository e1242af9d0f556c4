-- The scope at a place of a formula as a list, from the given variables and the quantifiers around the place.
use Rattle.dbn_formula.specs.Variables.{TypedVars}
use Rattle.dbn_formula.specs.Typing.{entered}
use Rattle.dbn_formula.specs.declared.typing.Scope.{Scope}
use Rattle.dbn_formula.specs.declared.typing.Scope.TheVariants.{Given, Inner'}

abbrev pub entries : Scope → TypedVars
entries (Given vars) = vars.now
entries (Inner' vars p outer) = entered vars.now (entries outer)
