-- A transition, resolved in two parts: what it moves, and its guard and its call.
use Rattle.std.specs.Prelude.{List, [], map, Option, Some}
use Rattle.dbn_formula.specs.declared.formula.Formula.{Formula}
use Rattle.dbn_net.specs.declared.written.WrittenFormula.{WrittenFormula}
use Rattle.dbn_net.specs.declared.written.WrittenAtom.{WrittenAtom}
use Rattle.dbn_net.specs.declared.written.WrittenArc.{WrittenArc}
use Rattle.dbn_net.specs.declared.written.WrittenInput.{WrittenInput}
use Rattle.dbn_net.specs.declared.rules.Arc.{Arc}
use Rattle.dbn_net.specs.declared.rules.Read.{Read}
use Rattle.dbn_net.specs.declared.rules.Call.{Call}
use Rattle.dbn_net.specs.declared.decl.Decl.{Decl}
use Rattle.dbn_net.specs.Maybe.{◌>>=◌, each, if_given}
use Rattle.dbn_net.specs.Naming.{arc, read, call, resolved_formula, ins_of, reads_of}

-- what the `in` and `read` clauses take and look at, and what the `out` and `back` clauses produce
abbrev pub moved : List Decl → List WrittenInput → List WrittenArc → List WrittenArc → Option (List Arc × List Read × List Arc × List Arc)
moved net inputs outs backs =
    each (arc net) (ins_of inputs) >>= λ is. each (read net) (reads_of inputs) >>= λ rs. each (arc net) outs >>= λ os. each (arc net) backs >>= λ bs. Some (is, rs, os, bs)

-- the guard and the call
abbrev pub called : List Decl → Option WrittenFormula → Option WrittenAtom → Option (Option Formula × Option Call)
called net guard action = if_given (resolved_formula []) guard >>= λ g. if_given (call net) action >>= λ c. Some (g, c)
