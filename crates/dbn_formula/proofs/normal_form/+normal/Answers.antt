use Rattle.std.proofs.Common.{ap, sym, ◌∙◌, map}
use Rattle.dbn_formula.specs.Normal.{normal_at}
use Rattle.dbn_formula.proofs.NormalLaws.{joined_and, joined_or}
use Rattle.dbn_formula.proofs.normal_form.+normal.Goals as goal

pub normal_at-returns-in_ok-each_normal-in-And : goal.normal_at-returns-in_ok-each_normal-in-And
normal_at-returns-in_ok-each_normal-in-And t c =
    c.joined.ensures
    ∙ joined_and c.in-And.parts c.in_ok-each_normal-in-And.field-0 c.args.keep (c.in_ok-each_normal-in-And.ensures ∙ ap (map (λ f. normal_at f c.args.keep)) c.as_slice.ensures)
    ∙ ap (λ f. normal_at f c.args.keep) (sym c.in-And.is)

pub normal_at-returns-in_ok-each_normal-in-Or : goal.normal_at-returns-in_ok-each_normal-in-Or
normal_at-returns-in_ok-each_normal-in-Or t c =
    c.joined-in-Or.ensures
    ∙ joined_or c.in-Or.parts c.in_ok-each_normal-in-Or.field-0 c.args.keep (c.in_ok-each_normal-in-Or.ensures ∙ ap (map (λ f. normal_at f c.args.keep)) c.as_slice-in-Or.ensures)
    ∙ ap (λ f. normal_at f c.args.keep) (sym c.in-Or.is)
