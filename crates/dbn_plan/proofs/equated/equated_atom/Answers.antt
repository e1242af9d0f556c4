use Rattle.std.proofs.Common.{◌≡◌, ◌<◌, ◌∷◌, [], take, ap, sym, ◌∙◌, subst, length, arith}
use Rattle.dbn_value.specs.Members.{In}
use Rattle.dbn_value.specs.declared.term.Cmp.TheVariants as cmp
use Rattle.dbn_value.proofs.MemberLaws.{flat_in, in_get_or}
use Rattle.dbn_formula.specs.Answers.{constants}
use Rattle.dbn_formula.specs.declared.formula.Formula.TheVariants.{Test, Atom}
use Rattle.dbn_plan.specs.Equated.{PairFor, AllMade}
use Rattle.dbn_plan.proofs.EquatedMade.{pair_small, two_taken}
use Rattle.dbn_plan.proofs.equated.equated_atom.Goals as goal

pub atom_where-requires-clause-cells : goal.atom_where-requires-clause-cells
atom_where-requires-clause-cells g c v at =
    let parts = c.args.parts.now in
    let part = c.index-parts-1.result in
    let long : 1 < length parts = omega (arith, c.if-parts-lt2.false) in
    c.requires.cells v (flat_in constants v part parts (subst (λ f. In f parts) (sym c.index-parts-1.is) (in_get_or parts 1 part long)) (subst (In v) (ap constants (sym c.in-Atom.is)) at))

pub atom_where-requires-clause-left : goal.atom_where-requires-clause-left
atom_where-requires-clause-left g c =
    subst (λ ls. c.in-Some.pair.0 < length ls) c.as_slice.ensures
    (pair_small c.as_slice.result.now c.as_slice-then-rel-len.result.now c.in-Test.left c.in-Test.right c.in-Some.pair c.in-Some.ensures).0

pub atom_where-requires-clause-right : goal.atom_where-requires-clause-right
atom_where-requires-clause-right g c =
    subst (λ ls. c.in-Some.pair.1 < length ls) c.as_slice-then-rel-len.ensures
    (pair_small c.as_slice.result.now c.as_slice-then-rel-len.result.now c.in-Test.left c.in-Test.right c.in-Some.pair c.in-Some.ensures).1

pub returns-in-Some-clause-some : goal.returns-in-Some-clause-some
returns-in-Some-clause-some g c =
    let parts = c.args.parts.now in
    let left = c.in-Test.left in
    let right = c.in-Test.right in
    let long : 1 < length parts = omega (arith, c.if-parts-lt2.false) in
    let two : take 2 parts ≡ Test cmp.Eq left right ∷ Atom c.in-Atom.rel c.in-Atom.terms ∷ [] =
    two_taken parts c.index-parts-0.result c.index-parts-1.result (Test cmp.Eq left right) (Atom c.in-Atom.rel c.in-Atom.terms) long c.index-parts-0.is c.index-parts-1.is
    (c.in-Test.is ∙ ap (λ k. Test k left right) c.in-Eq.is) c.in-Atom.is in
    let pairs : PairFor c.args.at.now.labels c.in-Atom.terms left right c.in-Some.pair =
    subst (λ ls. PairFor ls c.in-Atom.terms left right c.in-Some.pair) c.as_slice.ensures
    (subst (λ ts. PairFor c.as_slice.result.now ts left right c.in-Some.pair) c.as_slice-then-rel-len.ensures c.in-Some.ensures) in (
      long,
      subst (λ fs. AllMade g.P.Cell.Ord.cmp g.P.Cell.Cell.int_of (g.P.Coder.cell_of c.args.coder.now) c.args.sources.now.consts fs c.args.network.now c.atom_where.new.network c.args.at.now.node c.args.at.now.labels c.in_ok-made.made.node c.in_ok-made.made.labels)
          (sym two) (c.in_ok-made.ensures left right pairs),
    )
