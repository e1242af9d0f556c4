use Rattle.std.proofs.Common.{IsTrue, true, false, sym, ap, subst, ◌∙◌}
use Rattle.dbn_keeper.specs.TwoFiles.{gives_way}
use Rattle.dbn_keeper.proofs.Opened.{with_base}
use Rattle.dbn_twofile.proofs.Choices.{first_chosen, second_chosen, not_a_store_first, not_a_store_second, no_base}
use Rattle.dbn_twofile.proofs.look.look.Goals as goal

pub returns-in-Some-clause-found_a : goal.returns-in-Some-clause-found_a
returns-in-Some-clause-found_a g c x told =
    let choice = first_chosen c.in_ok-first.first c.in_ok-second.second c.in-First.form c.in-First.generation (sym c.choose.ensures.choice ∙ c.in-First.is) in
    with_base c.in-First.form c.in-Some.base c.in-First.generation x (sym choice.0 ∙ c.in_ok-first.ensures.opening x told) (sym c.in-Some.is ∙ c.in_ok-base-in-First.ensures.base x (c.settle.ensures.same ∙ told))

pub returns-in-Some-clause-found_b : goal.returns-in-Some-clause-found_b
returns-in-Some-clause-found_b g c y told =
    let choice = first_chosen c.in_ok-first.first c.in_ok-second.second c.in-First.form c.in-First.generation (sym c.choose.ensures.choice ∙ c.in-First.is) in
    ap (gives_way false c.in-First.generation) (sym (c.in_ok-second.ensures.opening y told)) ∙ choice.1

pub returns-in-None-clause-not_a_store : goal.returns-in-None-clause-not_a_store
returns-in-None-clause-not_a_store g c _ x y told_x told_y =
    let choice = first_chosen c.in_ok-first.first c.in_ok-second.second c.in-First.form c.in-First.generation (sym c.choose.ensures.choice ∙ c.in-First.is) in
    not_a_store_first c.in-First.form c.in-First.generation x y (sym (c.in_ok-first.ensures.opening x told_x) ∙ choice.0) (ap (gives_way false c.in-First.generation) (sym (c.in_ok-second.ensures.opening y told_y)) ∙ choice.1)
    (no_base x (sym c.in-None.is ∙ c.in_ok-base-in-First.ensures.base x (c.settle.ensures.same ∙ told_x)))

pub returns-in-Some-2-clause-found_a : goal.returns-in-Some-2-clause-found_a
returns-in-Some-2-clause-found_a g c x told =
    let choice = second_chosen c.in_ok-first.first c.in_ok-second.second c.in-Second.form c.in-Second.generation (sym c.choose.ensures.choice ∙ c.in-Second.is) in
    ap (gives_way true c.in-Second.generation) (sym (c.in_ok-first.ensures.opening x told)) ∙ choice.1

pub returns-in-Some-2-clause-found_b : goal.returns-in-Some-2-clause-found_b
returns-in-Some-2-clause-found_b g c y told =
    let choice = second_chosen c.in_ok-first.first c.in_ok-second.second c.in-Second.form c.in-Second.generation (sym c.choose.ensures.choice ∙ c.in-Second.is) in
    with_base c.in-Second.form c.in-Some-2.base c.in-Second.generation y (sym choice.0 ∙ c.in_ok-second.ensures.opening y told) (sym c.in-Some-2.is ∙ c.in_ok-base-in-Second.ensures.base y (c.settle-2.ensures.same ∙ told))

pub returns-in-Some-2-clause-settled_b : goal.returns-in-Some-2-clause-settled_b
returns-in-Some-2-clause-settled_b g c y told honest x image =
    c.in_ok-second.ensures.settled y told honest x ((c.base_at-in-Second.ensures.still (subst IsTrue (sym c.settle-2.ensures.keeps.honest) honest)).image x image)

pub returns-in-None-2-clause-not_a_store : goal.returns-in-None-2-clause-not_a_store
returns-in-None-2-clause-not_a_store g c _ x y told_x told_y =
    let choice = second_chosen c.in_ok-first.first c.in_ok-second.second c.in-Second.form c.in-Second.generation (sym c.choose.ensures.choice ∙ c.in-Second.is) in
    not_a_store_second c.in-Second.form c.in-Second.generation x y (sym (c.in_ok-second.ensures.opening y told_y) ∙ choice.0) (ap (gives_way true c.in-Second.generation) (sym (c.in_ok-first.ensures.opening x told_x)) ∙ choice.1)
    (no_base y (sym c.in-None-2.is ∙ c.in_ok-base-in-Second.ensures.base y (c.settle-2.ensures.same ∙ told_y)))
