use Rattle.std.proofs.Common.{Some, ap, ◌∙◌}
use Rattle.dbn_engine.specs.AllLines.{is_between}
use Rattle.dbn_engine.specs.Obeying.{terms_of}
use Rattle.dbn_top.proofs.Demos.{served_replies, served_facts}
use Rattle.dbn_top.proofs.demo.serve_text.Goals as goal

pub facts_of-requires : goal.facts_of-requires
facts_of-requires g c = (c.serve-served.ensures.joined (ap is_between c.in-Done.is)).core

pub returns-clause-replies : goal.returns-clause-replies
returns-clause-replies g c =
    served_replies c.serve-served.result.end _ (terms_of c.args.terms) _ _ _ _ c.args.text _ _ _ _ c.in-Done.is c.length_of-most.ensures c.new-replies.ensures.taken
    (c.serve-served.ensures.serves c.args.text (ap Some c.new-source.ensures.bytes))

pub returns-clause-facts : goal.returns-clause-facts
returns-clause-facts g c =
    c.in_ok-facts.ensures
    ∙ served_facts c.serve-served.result.end _ (terms_of c.args.terms) _ _ _ _ c.args.text _ _ _ _ c.in-Done.is c.length_of-most.ensures c.new-replies.ensures.taken
    (c.serve-served.ensures.serves c.args.text (ap Some c.new-source.ensures.bytes))
