use Rattle.std.proofs.Common.{◌≡◌, List, ℕ, None, IfOk, ap, subst, ◌∙◌}
use Rattle.dbn_keeper.specs.Memory.{mem_state}
use Rattle.dbn_model.specs.Lines.{lines}
use Rattle.dbn_model.specs.Runs.{text_of}
use Rattle.dbn_net.specs.declared.decl.Decl.{Decl}
use Rattle.dbn_store.specs.States.{situation, RunState, run_state}
use Rattle.dbn_engine.specs.Steps.{step}
use Rattle.dbn_top.specs.Demos.{facts_behind}
use Rattle.dbn_top.specs.Starts.{terms_of}
use Rattle.dbn_top.proofs.Runs.{memory_run_is, memory_joined}
use Rattle.dbn_top.proofs.demo.serve_accepted.Goals as goal

pub serve_text-requires-clause-joined : goal.serve_text-requires-clause-joined
serve_text-requires-clause-joined c =
    let k = c.new-keeper.result in
    let a = c.args.accepted in
    memory_joined a.text a.net a.at k.base k.generation k.bodies.items k.live c.new-keeper.ensures.base c.new-keeper.ensures.generation c.new-keeper.ensures.bodies c.new-keeper.ensures.live
    _ _ c.in_ok-core.ensures.live (ap (λ (net : List Decl). situation net c.in_ok-core.core.1) c.in_ok-core.ensures.net ∙ ap (situation a.net) c.in_ok-core.ensures.at) c.requires.read c.requires.first

pub returns-clause-replies : goal.returns-clause-replies
returns-clause-replies c =
    let k = c.new-keeper.result in
    let a = c.args.accepted in
    let same = ap (λ (net : List Decl). run_state (situation net c.in_ok-core.core.1) (mem_state k.base k.generation k.bodies.items k.live)) c.in_ok-core.ensures.net
    ∙ ap (λ at. run_state (situation a.net at) (mem_state k.base k.generation k.bodies.items k.live)) c.in_ok-core.ensures.at
    ∙ memory_run_is a.text a.net a.at k.base k.generation k.bodies.items k.live c.new-keeper.ensures.base c.new-keeper.ensures.generation c.new-keeper.ensures.bodies c.new-keeper.ensures.live in
    subst (λ (r : RunState). IfOk c.serve_text.result (λ o. o.replies.taken ≡ text_of (step (terms_of c.args.limits.now None)) r (lines c.args.text))) same c.serve_text.ensures.replies

pub returns-clause-facts : goal.returns-clause-facts
returns-clause-facts c =
    let k = c.new-keeper.result in
    let a = c.args.accepted in
    let same = ap (λ (net : List Decl). run_state (situation net c.in_ok-core.core.1) (mem_state k.base k.generation k.bodies.items k.live)) c.in_ok-core.ensures.net
    ∙ ap (λ at. run_state (situation a.net at) (mem_state k.base k.generation k.bodies.items k.live)) c.in_ok-core.ensures.at
    ∙ memory_run_is a.text a.net a.at k.base k.generation k.bodies.items k.live c.new-keeper.ensures.base c.new-keeper.ensures.generation c.new-keeper.ensures.bodies c.new-keeper.ensures.live in
    subst (λ (r : RunState). IfOk c.serve_text.result (λ o. o.facts ≡ facts_behind (terms_of c.args.limits.now None) r (lines c.args.text))) same c.serve_text.ensures.facts
