use Rattle.std.proofs.Common.{ap}
use Rattle.dbn_store.specs.States.{situation}
use Rattle.dbn_engine.specs.Obeying.{terms_of}
use Rattle.dbn_top.proofs.Keepers.{runs_from}
use Rattle.dbn_top.proofs.Runs.{serves_moved}
use Rattle.dbn_top.proofs.serving.serve.Goals as goal

pub returns-clause-serves : goal.returns-clause-serves
returns-clause-serves g c all told =
    serves_moved {X = g.row.C.Denot} {Y = g.row.K.Denot} (λ core. situation (g.C.Core.rules core) (g.C.Core.state core)) (g.K.Keeper.state) c.serve_lines-end.result c.args.most all _ _ _ _ (terms_of c.args.terms)
    c.new-engine.result.core c.args.core c.serve_lines-end.new.engine.core c.into_parts-core.result.0 c.new-engine.result.keeper c.args.keeper c.serve_lines-end.new.engine.keeper c.into_parts-core.result.1 _ _ _ _
    c.new-engine.ensures.core c.new-engine.ensures.keeper (ap terms_of c.new-engine.ensures.terms) c.into_parts-core.ensures.core c.into_parts-core.ensures.keeper (c.serve_lines-end.ensures.serves all told)

pub returns-clause-begins : goal.returns-clause-begins
returns-clause-begins g c e f most held capped =
    let joined = c.into_parts-core.ensures.joined (c.serve_lines-end.ensures.live e) in
    runs_from (g.C.Core.live c.into_parts-core.result.0) (g.K.Keeper.state c.into_parts-core.result.1) f (situation (g.C.Core.rules c.into_parts-core.result.0) (g.C.Core.state c.into_parts-core.result.0)) most
    (g.met.K.Keeper.settled c.into_parts-core.result.1 joined.keeper_live) joined held capped
