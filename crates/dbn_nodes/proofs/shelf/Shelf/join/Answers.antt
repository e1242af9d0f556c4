use Rattle.std.proofs.Common.{subst}
use Rattle.std.specs.Cmp.Lexicographic.{slice_cmp}
use Rattle.dbn_nodes.specs.Tables.{IsShelf}
use Rattle.dbn_nodes.proofs.shelf.Shelf.join.Goals as goal

pub returns-in-One-clause-held : goal.returns-in-One-clause-held
returns-in-One-clause-held g c = subst (IsShelf (slice_cmp g.C.Ord.cmp)) c.self.view_is c.self.invariant

pub returns-in-Many-clause-held : goal.returns-in-Many-clause-held
returns-in-Many-clause-held g c = subst (IsShelf (slice_cmp g.C.Ord.cmp)) c.self.view_is c.self.invariant
