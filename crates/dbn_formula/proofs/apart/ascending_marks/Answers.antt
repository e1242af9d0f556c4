use Rattle.std.proofs.Common.{nat_eq, ◌++◌, ap, ◌∙◌, subst, length, IsPermutation}
use Rattle.std.specs.List.{dedup}
use Rattle.dbn_formula.specs.Apart.{marks}
use Rattle.dbn_formula.proofs.ApartMarks.{sorted_marks, refilled}
use Rattle.dbn_formula.proofs.apart.ascending_marks.Goals as goal

pub returns : goal.returns
returns c =
    c.dedup.ensures.items
    ∙ ap (dedup nat_eq) (refilled (length c.add_marks.new.out.items) c.add_marks.new.out.items c.sort_unstable.new.self (c.sort_unstable.ensures.len ∙ ap length c.as_mut_slice.ensures.value))
    ∙ sorted_marks (marks c.args.f.now) c.sort_unstable.new.self
    (subst (λ xs. IsPermutation xs c.sort_unstable.new.self) (c.as_mut_slice.ensures.value ∙ c.in_ok-add_marks.ensures ∙ ap (λ xs. xs ++ marks c.args.f.now) c.new-used.ensures.items) c.sort_unstable.ensures.permutation)
    c.sort_unstable.ensures.sorted
