use Rattle.std.proofs.Common.{sym, ap, ◌∙◌}
use Rattle.dbn_net.specs.Tables.{place_in, places}
use Rattle.dbn_net.proofs.PositionLaws.{stands, stands_for, there}
use Rattle.dbn_net.proofs.LiftLaws.{site_in_is as place_in_is}
use Rattle.dbn_net.proofs.net.Net.place_at.Goals as goal

pub nth-requires : goal.nth-requires
nth-requires c = stands place_in c.self.inside.decls c.args.self.now c.self.inside.tables.places.at c.args.n c.self.invariant.places_at c.self.view_is c.requires

pub unreachable-requires : goal.unreachable-requires
unreachable-requires c =
    let some = there (places c.args.self.now) c.args.n c.requires in
    c.in_default.not-Site some.0 (place_in_is c.nth.result.now some.0 (stands_for place_in c.self.inside.decls c.args.self.now c.self.inside.tables.places.at c.args.n c.nth.result.now c.self.invariant.places_at c.self.view_is c.requires c.nth.ensures ∙ some.1))

pub returns : goal.returns
returns c = sym (stands_for place_in c.self.inside.decls c.args.self.now c.self.inside.tables.places.at c.args.n c.nth.result.now c.self.invariant.places_at c.self.view_is c.requires c.nth.ensures) ∙ ap place_in c.in-Site.is
