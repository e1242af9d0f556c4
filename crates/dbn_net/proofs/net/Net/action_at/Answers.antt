use Rattle.std.proofs.Common.{subst, sym, ap, ◌∙◌}
use Rattle.dbn_net.specs.Tables.{action_in, actions}
use Rattle.dbn_net.specs.WellFormed.{WellFormed}
use Rattle.dbn_net.proofs.PositionLaws.{stands, stands_for, there}
use Rattle.dbn_net.proofs.LiftLaws.{action_in_is, acts_at}
use Rattle.dbn_net.proofs.net.Net.action_at.Goals as goal

pub nth-requires : goal.nth-requires
nth-requires c = stands action_in c.self.inside.decls c.args.self.now c.self.inside.tables.actions.at c.args.n c.self.invariant.actions_at c.self.view_is c.requires

pub unreachable-requires : goal.unreachable-requires
unreachable-requires c =
    let some = there (actions c.args.self.now) c.args.n c.requires in
    c.in_default.not-Act some.0 (action_in_is c.nth.result.now some.0 (stands_for action_in c.self.inside.decls c.args.self.now c.self.inside.tables.actions.at c.args.n c.nth.result.now c.self.invariant.actions_at c.self.view_is c.requires c.nth.ensures ∙ some.1))

pub returns-clause-value : goal.returns-clause-value
returns-clause-value c = sym (stands_for action_in c.self.inside.decls c.args.self.now c.self.inside.tables.actions.at c.args.n c.nth.result.now c.self.invariant.actions_at c.self.view_is c.requires c.nth.ensures) ∙ ap action_in c.in-Act.is

pub returns-clause-fits : goal.returns-clause-fits
returns-clause-fits c =
    acts_at c.args.self.now (subst WellFormed c.self.view_is c.self.invariant.well_formed) c.args.n c.in-Act.action
    (sym (stands_for action_in c.self.inside.decls c.args.self.now c.self.inside.tables.actions.at c.args.n c.nth.result.now c.self.invariant.actions_at c.self.view_is c.requires c.nth.ensures) ∙ ap action_in c.in-Act.is)
