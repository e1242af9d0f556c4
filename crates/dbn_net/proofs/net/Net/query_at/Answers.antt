use Rattle.std.proofs.Common.{subst, sym, ◌∙◌}
use Rattle.dbn_net.specs.Tables.{query_in}
use Rattle.dbn_net.specs.WellFormed.{WellFormed}
use Rattle.dbn_net.proofs.PositionLaws.{stands, stands_for}
use Rattle.dbn_net.proofs.LiftLaws.{accepted_at}
use Rattle.dbn_net.proofs.net.Net.query_at.Goals as goal

pub nth-requires : goal.nth-requires
nth-requires c = stands query_in c.self.inside.decls c.args.self.now c.self.inside.tables.queries.at c.args.n c.self.invariant.queries_at c.self.view_is c.requires

pub returns-clause-value : goal.returns-clause-value
returns-clause-value c = stands_for query_in c.self.inside.decls c.args.self.now c.self.inside.tables.queries.at c.args.n c.nth.result.now c.self.invariant.queries_at c.self.view_is c.requires c.nth.ensures

pub returns-clause-accepted : goal.returns-clause-accepted
returns-clause-accepted c = λ q is.
    accepted_at c.args.self.now c.args.n q (subst WellFormed c.self.view_is c.self.invariant.well_formed) (sym (stands_for query_in c.self.inside.decls c.args.self.now c.self.inside.tables.queries.at c.args.n c.nth.result.now c.self.invariant.queries_at c.self.view_is c.requires c.nth.ensures) ∙ is)
