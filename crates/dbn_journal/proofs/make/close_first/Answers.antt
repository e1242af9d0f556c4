use Rattle.std.proofs.Common.{◌≡◌, ◌∷◌, [], true, IsTrue, ap, subst, sym, ◌∙◌}
use Rattle.std.specs.Option.{option_map}
use Rattle.dbn_disk.specs.Disk.{written}
use Rattle.dbn_journal.specs.Making.{has_shut_first}
use Rattle.dbn_journal.specs.Records.{IsShutAt}
use Rattle.dbn_journal.proofs.Makes.{shut_first, shut_written, closing_work, closing_settled}
use Rattle.dbn_journal.proofs.make.close_first.Goals as goal

pub returns-then-branch-clause-shut : goal.returns-then-branch-clause-shut
returns-then-branch-clause-shut g c b told honest bytes image =
    let first : has_shut_first b ≡ true = sym (c.in_ok-has_shut_first.ensures.first b told) ∙ c.if-branch.true in
    c.requires b told honest (shut_first b first) bytes ((c.has_shut_first.ensures.still honest).image bytes image)

pub returns-in_err-write_through-clause-any_moment : goal.returns-in_err-write_through-clause-any_moment
returns-in_err-write_through-clause-any_moment g c b told honest =
    closing_work (g.D.Disk.state c.args.disk.now) (g.D.Disk.state c.has_shut_first.new.disk) (g.D.Disk.state c.write_through.new.disk) (c.has_shut_first.ensures.still honest)
    (c.write_through.ensures.any_moment (subst IsTrue (sym c.has_shut_first.ensures.keeps.honest) honest))

pub returns-clause-shut : goal.returns-clause-shut
returns-clause-shut g c b told honest bytes image =
    let held = c.in_ok-write_through.ensures.value ∙ ap (option_map (written 0 (0 ∷ []))) (c.has_shut_first.ensures.same ∙ told) in
    let only = c.in_ok-write_through.ensures.durable (written 0 (0 ∷ []) b) (subst IsTrue (sym c.has_shut_first.ensures.keeps.honest) honest) held in
    subst (IsShutAt 0) (sym (only bytes image)) (shut_written b)

pub returns-clause-any_moment : goal.returns-clause-any_moment
returns-clause-any_moment g c b told honest =
    closing_work (g.D.Disk.state c.args.disk.now) (g.D.Disk.state c.has_shut_first.new.disk) (g.D.Disk.state c.write_through.new.disk) (c.has_shut_first.ensures.still honest)
    (c.write_through.ensures.any_moment (subst IsTrue (sym c.has_shut_first.ensures.keeps.honest) honest))

pub returns-in_err-write_through-clause-settled : goal.returns-in_err-write_through-clause-settled
returns-in_err-write_through-clause-settled g c b told honest only =
    closing_settled (g.D.Disk.state c.args.disk.now) (g.D.Disk.state c.has_shut_first.new.disk) (g.D.Disk.state c.write_through.new.disk) b (c.has_shut_first.ensures.still honest)
    (c.write_through.ensures.any_moment (subst IsTrue (sym c.has_shut_first.ensures.keeps.honest) honest)) only (sym (c.in_ok-has_shut_first.ensures.first b told) ∙ c.if-branch.false)

pub returns-clause-settled : goal.returns-clause-settled
returns-clause-settled g c b told honest only =
    closing_settled (g.D.Disk.state c.args.disk.now) (g.D.Disk.state c.has_shut_first.new.disk) (g.D.Disk.state c.write_through.new.disk) b (c.has_shut_first.ensures.still honest)
    (c.write_through.ensures.any_moment (subst IsTrue (sym c.has_shut_first.ensures.keeps.honest) honest)) only (sym (c.in_ok-has_shut_first.ensures.first b told) ∙ c.if-branch.false)
