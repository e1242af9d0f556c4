use Rattle.std.proofs.Common.{List, refl, sym, subst, ◌∙◌}
use Rattle.dbn_net.specs.Good.{Good}
use Rattle.dbn_net.specs.declared.decl.Decl.{Decl}
use Rattle.dbn_engine.proofs.Commands.{base_is_of}
use Rattle.dbn_engine.proofs.keeping.base_of.Goals as goal

pub returns-clause-stands : goal.returns-clause-stands
returns-clause-stands g c =
    λ generation.
    base_is_of generation _ (g.C.Core.rules c.args.core.now) c.net.result.now (g.C.Core.state c.args.core.now) c.in_ok-at.at c.in_ok-text.text c.net.ensures c.in_ok-at.ensures
    (c.in_ok-text.ensures.read_again (subst (λ (n : List Decl). Good n c.in_ok-at.at) (sym c.net.ensures) (subst (Good (g.C.Core.rules c.args.core.now)) (sym c.in_ok-at.ensures) c.requires.sound.snapshot))) (c.from_vec.ensures ∙ c.into_vec.ensures) refl refl
