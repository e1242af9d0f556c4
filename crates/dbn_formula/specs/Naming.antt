-- The renaming at a place of a formula as a list, from the quantifiers around the place and their variables with new marks.
use Rattle.std.specs.Prelude.{[]}
use Rattle.dbn_formula.specs.Apart.{Renaming}
use Rattle.dbn_formula.specs.Renewing.{paired}
use Rattle.dbn_formula.specs.declared.apart.Names.{Names}
use Rattle.dbn_formula.specs.declared.apart.Names.TheVariants.{Own, Under'}

abbrev pub named : Names → Renaming
named Own = []
named (Under' renewed p outer) = paired renewed.now.0 renewed.now.1 (named outer)
