use Rattle.std.proofs.Common.{ap, ◌∙◌}
use Rattle.std.specs.Prelude.{max}
use Rattle.dbn_net.proofs.NextLaws.{next_made}
use Rattle.dbn_net.proofs.net.start_next.Goals as goal

pub returns-clause-value : goal.returns-clause-value
returns-clause-value c =
    c.greater-2.ensures ∙ ap (λ n. max n c.past.result) c.greater.ensures
    ∙ next_made c.args.net.now c.args.at.now.instance c.args.at.now.marking c.past_instance-facts.result c.past_marking-tokens.result c.past.result
    c.past_instance-facts.ensures.value c.past_marking-tokens.ensures.value c.past.ensures.value
