use Rattle.std.proofs.Common.{[], ap, sym, ◌∙◌}
use Rattle.std.proofs.lemmas.Bool.{true≢false}
use Rattle.dbn_plan.specs.Columns.{tests_after}
use Rattle.dbn_plan.proofs.top.is_whole.Goals as goal

pub returns : goal.returns
returns g c e = record {
  same = sym c.as_slice.ensures ∙ c.same_terms.ensures c.if-not-same_terms.false ∙ c.as_slice-2.ensures;
  plain = ap (tests_after (g.P.Coder.cell_of c.args.coder.now) []) (sym c.as_slice-3.ensures) ∙ sym c.in_ok-tests.ensures ∙ c.is_empty-2.ensures.0 e;
  some = λ none. true≢false (sym (c.is_empty.ensures.1 none) ∙ c.if-is_empty.false);
}
