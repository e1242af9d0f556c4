use Rattle.std.proofs.Common.{◌≡◌, [], ap, sym, ◌∙◌, subst, IfOk}
use Rattle.std.specs.Ordering.{nat_cmp}
use Rattle.dbn_value.specs.Ascending.{ascending}
use Rattle.dbn_formula.specs.Apart.{marks, renamed_at}
use Rattle.dbn_formula.proofs.ApartMarks.{ascending_again, renamed_by}
use Rattle.dbn_formula.proofs.apart.rename_apart.Goals as goal

pub renamed_at-requires : goal.renamed_at-requires
renamed_at-requires c =
    subst (λ ms. ascending nat_cmp ms ≡ ms) (sym (c.as_slice.ensures ∙ c.in_ok-used.ensures)) (ascending_again (marks c.args.f.now))

pub returns : goal.returns
returns c =
    subst (λ made. IfOk c.renamed_at.result (λ g. g ≡ made))
    (ap (λ ms. renamed_at ms c.args.f.now [] 0) (c.as_slice.ensures ∙ c.in_ok-used.ensures) ∙ renamed_by c.args.f.now)
    c.renamed_at.ensures.formula
