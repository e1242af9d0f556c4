use Rattle.dbn_net.specs.Tables.{relation_in}
use Rattle.dbn_net.proofs.PositionLaws.{stands, stands_for}
use Rattle.dbn_net.proofs.net.Net.relation_at.Goals as goal

pub nth-requires : goal.nth-requires
nth-requires c = stands relation_in c.self.inside.decls c.args.self.now c.self.inside.tables.relations.at c.args.n c.self.invariant.relations_at c.self.view_is c.requires

pub returns : goal.returns
returns c = stands_for relation_in c.self.inside.decls c.args.self.now c.self.inside.tables.relations.at c.args.n c.nth.result.now c.self.invariant.relations_at c.self.view_is c.requires c.nth.ensures
