use Rattle.std.proofs.Common.{subst, sym, ap, ◌∙◌}
use Rattle.dbn_net.specs.Tables.{transition_in, transitions}
use Rattle.dbn_net.specs.WellFormed.{WellFormed}
use Rattle.dbn_net.proofs.PositionLaws.{stands, stands_for, there}
use Rattle.dbn_net.proofs.LiftLaws.{transition_in_is, fits_at}
use Rattle.dbn_net.proofs.net.Net.transition_at.Goals as goal

pub nth-requires : goal.nth-requires
nth-requires c = stands transition_in c.self.inside.decls c.args.self.now c.self.inside.tables.transitions.at c.args.n c.self.invariant.transitions_at c.self.view_is c.requires

pub unreachable-requires : goal.unreachable-requires
unreachable-requires c =
    let some = there (transitions c.args.self.now) c.args.n c.requires in
    c.in_default.not-Trans some.0 (transition_in_is c.nth.result.now some.0 (stands_for transition_in c.self.inside.decls c.args.self.now c.self.inside.tables.transitions.at c.args.n c.nth.result.now c.self.invariant.transitions_at c.self.view_is c.requires c.nth.ensures ∙ some.1))

pub returns-clause-value : goal.returns-clause-value
returns-clause-value c = sym (stands_for transition_in c.self.inside.decls c.args.self.now c.self.inside.tables.transitions.at c.args.n c.nth.result.now c.self.invariant.transitions_at c.self.view_is c.requires c.nth.ensures) ∙ ap transition_in c.in-Trans.is

pub returns-clause-fits : goal.returns-clause-fits
returns-clause-fits c =
    fits_at c.args.self.now c.args.n c.in-Trans.transition (subst WellFormed c.self.view_is c.self.invariant.well_formed)
    (sym (stands_for transition_in c.self.inside.decls c.args.self.now c.self.inside.tables.transitions.at c.args.n c.nth.result.now c.self.invariant.transitions_at c.self.view_is c.requires c.nth.ensures) ∙ ap transition_in c.in-Trans.is)
