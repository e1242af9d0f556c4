use Rattle.std.proofs.Common.{◌≡◌, ◌+◌, ◌<◌, ◌≤◌, true, map, [], ◌∷◌, ◌++◌, drop, take, ap, sym, ◌∙◌, subst, length, sum_by, arith, get_or}
use Rattle.std.specs.Prelude.{Option, IfSome, IfNone, ◌-◌}
use Rattle.std.specs.List.{list_all, flat_map}
use Rattle.std.proofs.lemmas.List.{drop_all, drop_more, take_all, take_more, take_rest}
use Rattle.std.proofs.lemmas.List.Sums.{get_or-le-sum_by}
use Rattle.std.proofs.lemmas.Result.{IfOk-weaker}
use Rattle.dbn_value.specs.Members.{In}
use Rattle.dbn_value.proofs.MemberLaws.{in_get_or}
use Rattle.dbn_formula.specs.declared.formula.Formula.{Formula}
use Rattle.dbn_formula.specs.declared.formula.Formula.TheVariants.{And, Not, Exists, Or}
use Rattle.dbn_formula.specs.Answers.{constants}
use Rattle.dbn_formula.specs.Free.{occurrences}
use Rattle.dbn_formula.specs.Typing.{arity_fits}
use Rattle.dbn_formula.specs.Safe.{in_turn, as_level}
use Rattle.dbn_formula.proofs.Weights.{weight, weight_and, weight_not, weight_exists, weight_or}
use Rattle.dbn_formula.proofs.SafeLaws.{in_order_and}
use Rattle.dbn_plan.specs.declared.context.Context.{Context}
use Rattle.dbn_plan.specs.Columns.{HaveCells}
use Rattle.dbn_plan.specs.Equated.{AllMade}
use Rattle.dbn_plan.specs.Meaning.{vars_of}
use Rattle.dbn_formula.specs.Free.{unhidden}
use Rattle.dbn_formula.specs.Variables.{firsts}
use Rattle.dbn_nodes.specs.declared.node.Node.TheVariants as node
use Rattle.dbn_plan.specs.Making.{Grown, IsReady, IsUnion, Made, RoomMade, SomeMade, WithVars}
use Rattle.dbn_plan.proofs.StepLaws.{AllSoFar, so_far_start, so_far_step, so_far_two, so_far_end, first_safe, open_after, placed_after, sources_after, grown_then, grown_at}
use Rattle.dbn_plan.proofs.FormsReady.{and_ready, and_arity, and_cells, not_ready, exists_ready, or_ready, never_implies, never_forall}
use Rattle.dbn_plan.proofs.MadeLaws.{denial_made, choice_made, nothing_made, part_made, union_made, or_made, wanted_there, first_labels, chosen_there, union_fits, none_there, some_there, union_kept}
use Rattle.dbn_plan.proofs.StepsMade.{diff_fits}
use Rattle.dbn_plan.proofs.forms.+compiled.Goals as goal

-- ---- `and`

pub all_parts-loop-done-init : goal.all_parts-loop-done-init
all_parts-loop-done-init g t c =
    subst (λ (b : Context). AllSoFar g.P.Cell.Ord.cmp g.P.Cell.Cell.int_of (g.P.Coder.cell_of c.args.coder.now) c.args.sources.now.consts c.args.parts.now c.args.parts.now c.args.network.now c.args.network.now c.args.at.now.node c.args.at.now.labels b.node b.labels)
    (sym c.in_ok-now.ensures)
    (so_far_start (g.P.Coder.cell_of c.args.coder.now) c.args.sources.now.consts c.args.parts.now c.args.network.now c.args.at.now.node c.args.at.now.labels c.requires.open c.requires.placed
    (sym (in_order_and c.args.parts.now (vars_of c.args.at.now.labels)) ∙ c.requires.ready.safe))

pub all_parts-equated_atom-requires-clause-sources : goal.all_parts-equated_atom-requires-clause-sources
all_parts-equated_atom-requires-clause-sources g t c = sources_after c.args.network.now c.loop-done.network c.args.sources.now c.loop-done.invariant.grown c.requires.sources

pub all_parts-equated_atom-requires-clause-arity : goal.all_parts-equated_atom-requires-clause-arity
all_parts-equated_atom-requires-clause-arity g t c =
    subst (λ fs. list_all (arity_fits c.loop-done.network.rels) fs ≡ true) (sym (take_rest c.args.parts.now c.loop-done.done))
    (and_arity (g.P.Coder.cell_of c.args.coder.now) c.args.network.now.rels c.loop-done.network.rels (vars_of c.args.at.now.labels) c.loop-done.done c.args.parts.now c.loop-done.invariant.grown.rels c.requires.ready)

pub all_parts-equated_atom-requires-clause-cells : goal.all_parts-equated_atom-requires-clause-cells
all_parts-equated_atom-requires-clause-cells g t c =
    subst (λ fs. HaveCells (g.P.Coder.cell_of c.args.coder.now) (flat_map constants fs)) (sym (take_rest c.args.parts.now c.loop-done.done))
    (and_cells (g.P.Coder.cell_of c.args.coder.now) c.args.network.now.rels (vars_of c.args.at.now.labels) c.loop-done.done c.args.parts.now c.requires.ready)

pub all_parts-loop-done-preserved-in-Some : goal.all_parts-loop-done-preserved-in-Some
all_parts-loop-done-preserved-in-Some g t c =
    let parts = c.args.parts.now in
    let i = c.loop-done.done in
    let rest = take (length parts - i) (drop i parts) in
    let found =
    subst (λ (m : Option Context). IfSome m (λ b. (1 < length rest) × AllMade g.P.Cell.Ord.cmp g.P.Cell.Cell.int_of (g.P.Coder.cell_of c.args.coder.now) c.args.sources.now.consts (take 2 rest) c.loop-done.network c.equated_atom.new.network c.loop-done.now.node c.loop-done.now.labels b.node b.labels))
    c.in-Some.is c.in_ok-next.ensures.some in
    so_far_two (g.P.Coder.cell_of c.args.coder.now) c.args.sources.now.consts i parts c.args.network.now c.loop-done.network c.equated_atom.new.network c.args.at.now.node c.args.at.now.labels
    c.loop-done.now.node c.loop-done.now.labels c.in-Some.next.node c.in-Some.next.labels c.loop-done.invariant
    (subst (λ fs. AllMade g.P.Cell.Ord.cmp g.P.Cell.Cell.int_of (g.P.Coder.cell_of c.args.coder.now) c.args.sources.now.consts (take 2 fs) c.loop-done.network c.equated_atom.new.network c.loop-done.now.node c.loop-done.now.labels c.in-Some.next.node c.in-Some.next.labels) (take_rest parts i) found.1)

pub all_parts-compile_at-requires : goal.all_parts-compile_at-requires
all_parts-compile_at-requires g t c κs within =
    let parts = c.args.parts.now in
    let i = c.loop-done.done in
    let part = c.index-parts-done.result in
    let same : c.equated_atom.new.network ≡ c.loop-done.network = subst (λ (m : Option Context). IfNone m (c.equated_atom.new.network ≡ c.loop-done.network)) c.in-None.is c.in_ok-next.ensures.none in
    let so = subst (λ n. AllSoFar g.P.Cell.Ord.cmp g.P.Cell.Cell.int_of (g.P.Coder.cell_of c.args.coder.now) c.args.sources.now.consts parts (drop i parts) c.args.network.now n c.args.at.now.node c.args.at.now.labels c.loop-done.now.node c.loop-done.now.labels) (sym same) c.loop-done.invariant in
    let small : weight (get_or parts i part) ≤ sum_by weight parts = get_or-le-sum_by weight parts i part c.loop-done-test.true in
    let is : weight part ≡ weight (get_or parts i part) = ap weight c.index-parts-done.is in
    let front : drop i parts ≡ part ∷ drop (i + 1) parts = drop_more parts i part c.loop-done-test.true ∙ ap (λ f. f ∷ drop (i + 1) parts) (sym c.index-parts-done.is) in
    let at : In part parts = subst (λ f. In f parts) (sym c.index-parts-done.is) (in_get_or parts i part c.loop-done-test.true) in (
      omega (arith, small, is),
      (
        within.0,
        (
          within.1,
          (
            so.ready,
            (
              so.placed,
              (
                sources_after c.args.network.now c.equated_atom.new.network c.args.sources.now so.grown c.requires.sources,
                and_ready (g.P.Coder.cell_of c.args.coder.now) c.args.network.now.rels c.equated_atom.new.network.rels (vars_of c.args.at.now.labels) (vars_of c.loop-done.now.labels) parts part at so.grown.rels c.requires.ready
                    (first_safe part (drop (i + 1) parts) (vars_of c.loop-done.now.labels) (subst (λ fs. in_turn (map as_level fs) (vars_of c.loop-done.now.labels) ≡ true) front so.turn)),
              ),
            ),
          ),
        ),
      ),
    )

pub all_parts-loop-done-preserved : goal.all_parts-loop-done-preserved
all_parts-loop-done-preserved g t c =
    let parts = c.args.parts.now in
    let i = c.loop-done.done in
    let part = c.index-parts-done.result in
    let same : c.equated_atom.new.network ≡ c.loop-done.network = subst (λ (m : Option Context). IfNone m (c.equated_atom.new.network ≡ c.loop-done.network)) c.in-None.is c.in_ok-next.ensures.none in
    let so = subst (λ n. AllSoFar g.P.Cell.Ord.cmp g.P.Cell.Cell.int_of (g.P.Coder.cell_of c.args.coder.now) c.args.sources.now.consts parts (drop i parts) c.args.network.now n c.args.at.now.node c.args.at.now.labels c.loop-done.now.node c.loop-done.now.labels) (sym same) c.loop-done.invariant in
    let front : drop i parts ≡ part ∷ drop (i + 1) parts = drop_more parts i part c.loop-done-test.true ∙ ap (λ f. f ∷ drop (i + 1) parts) (sym c.index-parts-done.is) in
    so_far_step (g.P.Coder.cell_of c.args.coder.now) c.args.sources.now.consts part parts (drop (i + 1) parts) c.args.network.now c.equated_atom.new.network c.compile_at.new.network c.args.at.now.node c.args.at.now.labels
    c.loop-done.now.node c.loop-done.now.labels c.in_ok-now-in-None.now.node c.in_ok-now-in-None.now.labels
    (subst (λ rest. AllSoFar g.P.Cell.Ord.cmp g.P.Cell.Cell.int_of (g.P.Coder.cell_of c.args.coder.now) c.args.sources.now.consts parts rest c.args.network.now c.equated_atom.new.network c.args.at.now.node c.args.at.now.labels c.loop-done.now.node c.loop-done.now.labels) front so)
    c.in_ok-now-in-None.ensures

pub all_parts-returns : goal.all_parts-returns
all_parts-returns g t c =
    let left : drop c.loop-done.done c.args.parts.now ≡ [] = drop_all c.loop-done.done c.args.parts.now c.loop-done-test.false in
    so_far_end (g.P.Coder.cell_of c.args.coder.now) c.args.sources.now.consts c.args.parts.now c.args.network.now c.loop-done.network c.args.at.now.node c.args.at.now.labels c.loop-done.now.node c.loop-done.now.labels
    (subst (λ rest. AllSoFar g.P.Cell.Ord.cmp g.P.Cell.Cell.int_of (g.P.Coder.cell_of c.args.coder.now) c.args.sources.now.consts c.args.parts.now rest c.args.network.now c.loop-done.network c.args.at.now.node c.args.at.now.labels c.loop-done.now.node c.loop-done.now.labels) left c.loop-done.invariant)

-- ---- one form or another

pub compile_at-all_parts-requires : goal.compile_at-all_parts-requires
compile_at-all_parts-requires g t c κs within =
    let parts = c.as_slice.result.now in
    let is : c.args.f.now ≡ And parts = c.in-And.is ∙ ap And (sym c.as_slice.ensures) in
    let heavy : weight c.args.f.now ≡ sum_by weight parts + length parts + 6 = ap weight is ∙ weight_and parts in
    (omega (arith, heavy), (within.0, (within.1, (c.requires.open, (c.requires.placed, (c.requires.sources, subst (IsReady (g.P.Coder.cell_of c.args.coder.now) c.args.network.now.rels (vars_of c.args.at.now.labels)) is c.requires.ready))))))

pub compile_at-denied-requires : goal.compile_at-denied-requires
compile_at-denied-requires g t c κs within =
    let is : c.args.f.now ≡ Not c.get.result.now = c.in-Not.is ∙ ap Not (sym c.get.ensures) in
    let heavy : weight c.args.f.now ≡ weight c.get.result.now + 1 = ap weight is ∙ weight_not c.get.result.now in
    (omega (arith, heavy), (within.0, (within.1, (c.requires.open, (c.requires.placed, (c.requires.sources, subst (IsReady (g.P.Coder.cell_of c.args.coder.now) c.args.network.now.rels (vars_of c.args.at.now.labels)) is c.requires.ready))))))

pub compile_at-chosen-requires : goal.compile_at-chosen-requires
compile_at-chosen-requires g t c κs within =
    let body = c.get-in-Exists.result.now in
    let is : c.args.f.now ≡ Exists c.in-Exists.vars body = c.in-Exists.is ∙ ap (Exists c.in-Exists.vars) (sym c.get-in-Exists.ensures) in
    let heavy : weight c.args.f.now ≡ weight body + length c.in-Exists.vars + 3 = ap weight is ∙ weight_exists c.in-Exists.vars body in
    (omega (arith, heavy), (within.0, (within.1, (c.requires.open, (c.requires.placed, (c.requires.sources, subst (IsReady (g.P.Coder.cell_of c.args.coder.now) c.args.network.now.rels (vars_of c.args.at.now.labels)) is c.requires.ready))))))

pub compile_at-some_part-requires : goal.compile_at-some_part-requires
compile_at-some_part-requires g t c κs within =
    let parts = c.as_slice-in-Or.result.now in
    let is : c.args.f.now ≡ Or parts = c.in-Or.is ∙ ap Or (sym c.as_slice-in-Or.ensures) in
    let heavy : weight c.args.f.now ≡ sum_by weight parts + 5 = ap weight is ∙ weight_or parts in
    (omega (arith, heavy), (within.0, (within.1, (c.requires.open, (c.requires.placed, (c.requires.sources, subst (IsReady (g.P.Coder.cell_of c.args.coder.now) c.args.network.now.rels (vars_of c.args.at.now.labels)) is c.requires.ready))))))

pub compile_at-atom-requires-clause-ready : goal.compile_at-atom-requires-clause-ready
compile_at-atom-requires-clause-ready g t c = subst (IsReady (g.P.Coder.cell_of c.args.coder.now) c.args.network.now.rels (vars_of c.args.at.now.labels)) c.in-Atom.is c.requires.ready

pub compile_at-comparison-requires-clause-ready : goal.compile_at-comparison-requires-clause-ready
compile_at-comparison-requires-clause-ready g t c = subst (IsReady (g.P.Coder.cell_of c.args.coder.now) c.args.network.now.rels (vars_of c.args.at.now.labels)) c.in-Test.is c.requires.ready

pub compile_at-returns-in-Test : goal.compile_at-returns-in-Test
compile_at-returns-in-Test g t c =
    IfOk-weaker c.comparison.result _ _
    (λ b made. subst (λ f. Made g.P.Cell.Ord.cmp g.P.Cell.Cell.int_of (g.P.Coder.cell_of c.args.coder.now) c.args.sources.now.consts f c.args.network.now c.comparison.new.network c.args.at.now.node c.args.at.now.labels b.node b.labels) (sym c.in-Test.is)
    (made c.args.sources.now.consts))
    c.comparison.ensures

pub compile_at-unreachable-requires : goal.compile_at-unreachable-requires
compile_at-unreachable-requires g t c =
    never_implies (g.P.Coder.cell_of c.args.coder.now) c.args.network.now.rels (vars_of c.args.at.now.labels) _ _
    (subst (IsReady (g.P.Coder.cell_of c.args.coder.now) c.args.network.now.rels (vars_of c.args.at.now.labels)) c.in-Implies.is c.requires.ready)

pub compile_at-unreachable-requires-in-Forall : goal.compile_at-unreachable-requires-in-Forall
compile_at-unreachable-requires-in-Forall g t c =
    never_forall (g.P.Coder.cell_of c.args.coder.now) c.args.network.now.rels (vars_of c.args.at.now.labels) _ _
    (subst (IsReady (g.P.Coder.cell_of c.args.coder.now) c.args.network.now.rels (vars_of c.args.at.now.labels)) c.in-Forall.is c.requires.ready)

-- ---- `not`

pub denied-compile_at-requires : goal.denied-compile_at-requires
denied-compile_at-requires g t c κs within =
    (omega arith, (within.0, (within.1, (c.requires.open, (c.requires.placed, (c.requires.sources, not_ready (g.P.Coder.cell_of c.args.coder.now) c.args.network.now.rels (vars_of c.args.at.now.labels) c.args.part.now c.requires.ready))))))

pub denied-shown-requires-clause-open : goal.denied-shown-requires-clause-open
denied-shown-requires-clause-open g t c = open_after c.args.network.now c.compile_at.new.network c.in_ok-inner.ensures.grown c.requires.open

pub denied-shown-requires-clause-there : goal.denied-shown-requires-clause-there
denied-shown-requires-clause-there g t c = c.in_ok-inner.ensures.labelled.keeps

pub denied-add-requires-clause-live : goal.denied-add-requires-clause-live
denied-add-requires-clause-live g t c =
    (open_after c.args.network.now c.shown.new.network (grown_then c.args.network.now c.compile_at.new.network c.shown.new.network c.in_ok-inner.ensures.grown c.in_ok-back.ensures.grown) c.requires.open).live

pub denied-add-requires-clause-fits : goal.denied-add-requires-clause-fits
denied-add-requires-clause-fits g t c =
    diff_fits c.shown.new.network c.args.at.now.node c.args.at.now.labels c.in_ok-back.back
    (placed_after c.args.network.now c.shown.new.network c.args.at.now.node c.args.at.now.labels (grown_then c.args.network.now c.compile_at.new.network c.shown.new.network c.in_ok-inner.ensures.grown c.in_ok-back.ensures.grown) c.requires.placed)
    c.in_ok-back.ensures.placed

pub denied-returns : goal.denied-returns
denied-returns g t c =
    denial_made c.args.part.now c.args.network.now c.compile_at.new.network c.shown.new.network c.add.new.self c.args.at.now.node c.args.at.now.labels c.in_ok-inner.inner.node c.in_ok-inner.inner.labels
    c.in_ok-back.back c.in_ok-node.node c.in_ok-labels.labels c.requires.placed c.requires.ready.safe c.in_ok-inner.ensures c.in_ok-back.ensures c.in_ok-node.ensures.ok c.in_ok-node.ensures.number c.in_ok-labels.ensures

-- ---- `exists`

pub chosen-compile_at-requires : goal.chosen-compile_at-requires
chosen-compile_at-requires g t c κs within =
    (omega arith, (within.0, (within.1, (c.requires.open, (c.requires.placed, (c.requires.sources, exists_ready (g.P.Coder.cell_of c.args.coder.now) c.args.network.now.rels (vars_of c.args.at.now.labels) c.args.vars.now c.args.body.now c.requires.ready))))))

pub chosen-with_room-requires-clause-open : goal.chosen-with_room-requires-clause-open
chosen-with_room-requires-clause-open g t c = open_after c.args.network.now c.compile_at.new.network c.in_ok-inner.ensures.grown c.requires.open

pub chosen-with_room-requires-clause-sources : goal.chosen-with_room-requires-clause-sources
chosen-with_room-requires-clause-sources g t c = sources_after c.args.network.now c.compile_at.new.network c.args.sources.now c.in_ok-inner.ensures.grown c.requires.sources

pub chosen-shown-requires-clause-open : goal.chosen-shown-requires-clause-open
chosen-shown-requires-clause-open g t c =
    open_after c.args.network.now c.with_room.new.network (grown_then c.args.network.now c.compile_at.new.network c.with_room.new.network c.in_ok-inner.ensures.grown c.in_ok-from.ensures.grown) c.requires.open

pub chosen-shown-requires-clause-there : goal.chosen-shown-requires-clause-there
chosen-shown-requires-clause-there g t c =
    chosen_there c.args.vars.now c.args.body.now c.args.at.now.labels c.in_ok-inner.inner.labels c.in_ok-labels.labels
    (subst (λ vs. WithVars (unhidden vs (firsts (occurrences c.args.body.now))) c.args.at.now.labels c.in_ok-labels.labels) c.as_slice-2.ensures c.in_ok-labels.ensures) c.in_ok-inner.ensures.labelled

pub chosen-returns : goal.chosen-returns
chosen-returns g t c =
    choice_made c.args.vars.now c.args.body.now c.args.network.now c.compile_at.new.network c.with_room.new.network c.shown.new.network c.args.at.now.node c.args.at.now.labels c.in_ok-inner.inner.node c.in_ok-inner.inner.labels
    c.in_ok-from.from c.in_ok-node.node c.in_ok-labels.labels c.requires.ready.safe c.in_ok-inner.ensures
    (subst (λ vs. RoomMade g.P.Cell.Ord.cmp g.P.Cell.Cell.int_of (g.P.Coder.cell_of c.args.coder.now) c.args.sources.now.consts vs c.args.body.now c.compile_at.new.network c.with_room.new.network c.in_ok-inner.inner.node c.in_ok-inner.inner.labels c.in_ok-from.from)
    c.as_slice.ensures c.in_ok-from.ensures)
    (subst (λ vs. WithVars (unhidden vs (firsts (occurrences c.args.body.now))) c.args.at.now.labels c.in_ok-labels.labels) c.as_slice-2.ensures c.in_ok-labels.ensures) c.in_ok-node.ensures

-- ---- `or`

pub one_of-compile_at-requires : goal.one_of-compile_at-requires
one_of-compile_at-requires g t c κs within =
    (omega arith, (within.0, (within.1, (c.requires.open, (c.requires.placed, (c.requires.sources, or_ready (g.P.Coder.cell_of c.args.coder.now) c.args.network.now.rels (vars_of c.args.at.now.labels) c.args.parts.now c.args.part.now c.requires.part c.requires.ready))))))

pub one_of-shown-requires-clause-open : goal.one_of-shown-requires-clause-open
one_of-shown-requires-clause-open g t c = open_after c.args.network.now c.compile_at.new.network c.in_ok-inner.ensures.grown c.requires.open

pub one_of-shown-requires-clause-there : goal.one_of-shown-requires-clause-there
one_of-shown-requires-clause-there g t c =
    wanted_there c.args.parts.now c.args.part.now c.args.at.now.labels c.args.wanted.now c.in_ok-inner.inner.labels c.requires.part c.requires.ready.safe c.requires.labels c.in_ok-inner.ensures.labelled

pub one_of-returns : goal.one_of-returns
one_of-returns g t c =
    part_made c.args.parts.now c.args.part.now c.args.network.now c.compile_at.new.network c.shown.new.network c.args.at.now.node c.args.at.now.labels c.in_ok-inner.inner.node c.in_ok-inner.inner.labels
    c.args.wanted.now c.in_ok-made.made c.requires.part c.in_ok-inner.ensures c.in_ok-made.ensures

pub any_of-one_of-requires-in-loop-i : goal.any_of-one_of-requires-in-loop-i
any_of-one_of-requires-in-loop-i g t c κs within =
    let parts = c.args.parts.now in
    let i = c.loop-i.i in
    let part = c.index-parts-i.result in
    let grown : Grown c.args.network.now c.loop-i.network = c.loop-i.invariant.some.grown in
    let small : weight (get_or parts i part) ≤ sum_by weight parts = get_or-le-sum_by weight parts i part c.loop-i-test.true in
    let is : weight part ≡ weight (get_or parts i part) = ap weight c.index-parts-i.is in (
      omega (arith, small, is),
      (
        within.0,
        (
          within.1,
          (
            c.loop-i.invariant.ready,
            (
              placed_after c.args.network.now c.loop-i.network c.args.at.now.node c.args.at.now.labels grown c.requires.placed,
              (
                sources_after c.args.network.now c.loop-i.network c.args.sources.now grown c.requires.sources,
                (subst (λ rs. IsReady (g.P.Coder.cell_of c.args.coder.now) rs (vars_of c.args.at.now.labels) (Or parts)) (sym grown.rels) c.requires.ready, (c.requires.labels, subst (λ f. In f parts) (sym c.index-parts-i.is) (in_get_or parts i part c.loop-i-test.true))),
              ),
            ),
          ),
        ),
      ),
    )

pub any_of-add-requires-clause-live : goal.any_of-add-requires-clause-live
any_of-add-requires-clause-live g t c = (open_after c.loop-i.network c.one_of-in-loop-i.new.network c.in_ok-right.ensures.grown c.loop-i.invariant.ready).live

pub any_of-add-requires-clause-fits : goal.any_of-add-requires-clause-fits
any_of-add-requires-clause-fits g t c =
    union_fits c.one_of-in-loop-i.new.network c.loop-i.made c.args.wanted.now c.in_ok-right.right
    (placed_after c.loop-i.network c.one_of-in-loop-i.new.network c.loop-i.made c.args.wanted.now c.in_ok-right.ensures.grown c.loop-i.invariant.some.placed) c.in_ok-right.ensures.placed

pub any_of-loop-i-preserved : goal.any_of-loop-i-preserved
any_of-loop-i-preserved g t c =
    let parts = c.args.parts.now in
    let i = c.loop-i.i in
    let part = c.index-parts-i.result in
    let more : take (i + 1) parts ≡ take i parts ++ part ∷ [] = take_more parts i part c.loop-i-test.true ∙ ap (λ (f : Formula). take i parts ++ f ∷ []) (sym c.index-parts-i.is) in
    let new : Grown c.one_of-in-loop-i.new.network c.add.new.self = grown_at c.one_of-in-loop-i.new.network c.add.new.self (node.Union c.loop-i.made c.in_ok-right.right) c.in_ok-made-2.ensures.ok in
    record {
      ready = open_after c.one_of-in-loop-i.new.network c.add.new.self new (open_after c.loop-i.network c.one_of-in-loop-i.new.network c.in_ok-right.ensures.grown c.loop-i.invariant.ready);
      some = union_made parts (take i parts) (part ∷ []) (take (i + 1) parts) c.args.network.now c.loop-i.network c.one_of-in-loop-i.new.network c.add.new.self c.args.at.now.node c.args.at.now.labels c.loop-i.made c.in_ok-right.right c.args.wanted.now c.in_ok-made-2.made
          more c.requires.placed c.loop-i.invariant.some c.in_ok-right.ensures c.in_ok-made-2.ensures.ok c.in_ok-made-2.ensures.number;
      union = λ two. union_kept c.one_of-in-loop-i.new.network c.add.new.self c.loop-i.made c.in_ok-right.right c.in_ok-made-2.made c.in_ok-made-2.ensures.ok c.in_ok-made-2.ensures.number;
    }

pub any_of-one_of-requires : goal.any_of-one_of-requires
any_of-one_of-requires g t c κs within =
    let parts = c.args.parts.now in
    let part = c.index-parts-0.result in
    let small : weight (get_or parts 0 part) ≤ sum_by weight parts = get_or-le-sum_by weight parts 0 part c.requires.some in
    let is : weight part ≡ weight (get_or parts 0 part) = ap weight c.index-parts-0.is in
    (omega (arith, small, is), (within.0, (within.1, (c.requires.open, (c.requires.placed, (c.requires.sources, (c.requires.ready, (c.requires.labels, subst (λ f. In f parts) (sym c.index-parts-0.is) (in_get_or parts 0 part c.requires.some)))))))))

pub any_of-loop-i-init : goal.any_of-loop-i-init
any_of-loop-i-init g t c =
    let parts = c.args.parts.now in
    let part = c.index-parts-0.result in
    let one : take 1 parts ≡ part ∷ [] = take_more parts 0 part c.requires.some ∙ ap (λ (f : Formula). f ∷ []) (sym c.index-parts-0.is) in
    record {
      ready = open_after c.args.network.now c.one_of.new.network c.in_ok-made.ensures.grown c.requires.open;
      some = subst (λ fs. SomeMade g.P.Cell.Ord.cmp g.P.Cell.Cell.int_of (g.P.Coder.cell_of c.args.coder.now) c.args.sources.now.consts parts fs c.args.network.now c.one_of.new.network c.args.at.now.node c.args.at.now.labels c.in_ok-made.made c.args.wanted.now) (sym one) c.in_ok-made.ensures;
      union = λ two. let single = ap length one in absurd (omega (arith, two, single));
    }

pub any_of-returns-clause-kept : goal.any_of-returns-clause-kept
any_of-returns-clause-kept g t c = subst (λ fs. 1 < length fs → IsUnion c.loop-i.network c.loop-i.made) (take_all c.loop-i.i c.args.parts.now c.loop-i-test.false) c.loop-i.invariant.union

pub any_of-returns-clause-made : goal.any_of-returns-clause-made
any_of-returns-clause-made g t c =
    subst (λ fs. SomeMade g.P.Cell.Ord.cmp g.P.Cell.Cell.int_of (g.P.Coder.cell_of c.args.coder.now) c.args.sources.now.consts c.args.parts.now fs c.args.network.now c.loop-i.network c.args.at.now.node c.args.at.now.labels c.loop-i.made c.args.wanted.now) (take_all c.loop-i.i c.args.parts.now c.loop-i-test.false)
    c.loop-i.invariant.some

pub some_part-returns-then-is_empty : goal.some_part-returns-then-is_empty
some_part-returns-then-is_empty g t c =
    nothing_made c.args.parts.now c.args.network.now c.nothing.new.network c.args.at.now.node c.args.at.now.labels c.in_ok-none.none c.in_ok-same.same (none_there c.args.parts.now c.is_empty.result c.is_empty.ensures c.if-is_empty.true) c.in_ok-none.ensures c.in_ok-same.ensures

pub some_part-any_of-requires : goal.some_part-any_of-requires
some_part-any_of-requires g t c κs within =
    let parts = c.args.parts.now in
    let some : 0 < length parts = some_there parts c.is_empty.result c.is_empty.ensures c.if-is_empty.false in
    let at : In c.index-parts-0.result parts = subst (λ f. In f parts) (sym c.index-parts-0.is) (in_get_or parts 0 c.index-parts-0.result some) in (
      omega arith,
      (
        within.0,
        (
          within.1,
          (
            c.requires.open,
            (
              c.requires.placed,
              (
                c.requires.sources,
                (
                  c.requires.ready,
                  (first_labels parts c.index-parts-0.result c.args.at.now.labels c.in_ok-labels.labels at c.requires.ready.safe c.in_ok-labels.ensures, some),
                ),
              ),
            ),
          ),
        ),
      ),
    )

pub some_part-returns : goal.some_part-returns
some_part-returns g t c =
    let parts = c.args.parts.now in
    let some : 0 < length parts = some_there parts c.is_empty.result c.is_empty.ensures c.if-is_empty.false in
    let at : In c.index-parts-0.result parts = subst (λ f. In f parts) (sym c.index-parts-0.is) (in_get_or parts 0 c.index-parts-0.result some) in
    or_made parts c.args.network.now c.any_of.new.network c.args.at.now.node c.args.at.now.labels c.in_ok-node.node c.in_ok-labels.labels
    (first_labels parts c.index-parts-0.result c.args.at.now.labels c.in_ok-labels.labels at c.requires.ready.safe c.in_ok-labels.ensures).labelled c.in_ok-node.ensures.made
