use Rattle.std.proofs.Common.{◌≡◌, List, ℕ, IsTrue, subst, sym, ◌∙◌}
use Rattle.dbn_journal.specs.Records.{IsShutAt}
use Rattle.dbn_journal.specs.Making.{closed, filled}
use Rattle.dbn_keeper.proofs.Makings.{making_closed, making_filled, making_opened, was_told, same_some, closed_some, closed_told, opened_told, opened_filled, filled_shut}
use Rattle.dbn_keeper.proofs.make.make.Goals as goal

pub close_first-requires : goal.close_first-requires
close_first-requires g c b told honest shut x image = subst IsShutAt_0 (sym (c.requires.settled b told honest x image)) shut
  where
    IsShutAt_0 : List ℕ → Type 0
    IsShutAt_0 l = IsShutAt 0 l

pub returns-in_err-close_first-clause-any_moment : goal.returns-in_err-close_first-clause-any_moment
returns-in_err-close_first-clause-any_moment g c b told honest =
    let s0 = g.D.Disk.state c.args.disk.now in
    let s1 = g.D.Disk.state c.close_first.new.disk in
    making_closed s0 s1 s1 s1 c.args.rest.now b (c.close_first.ensures.settled b told honest (c.requires.settled b told honest))

pub fill-requires-clause-shut : goal.fill-requires-clause-shut
fill-requires-clause-shut g c b told honest =
    let before = was_told _ _ b c.close_first.ensures.keeps.told told in
    c.in_ok-close_first.ensures.shut before.0 before.1 (subst IsTrue c.close_first.ensures.keeps.honest honest)

pub returns-in_err-fill-clause-any_moment : goal.returns-in_err-fill-clause-any_moment
returns-in_err-fill-clause-any_moment g c b told honest =
    let s0 = g.D.Disk.state c.args.disk.now in
    let s1 = g.D.Disk.state c.close_first.new.disk in
    let s2 = g.D.Disk.state c.fill.new.disk in
    let held = closed_told _ _ b c.in_ok-close_first.ensures.value told in
    making_filled s0 s1 s2 s2 c.args.rest.now b (c.close_first.ensures.settled b told honest (c.requires.settled b told honest)) (c.fill.ensures.any_moment (closed b) held (subst IsTrue (sym c.close_first.ensures.keeps.honest) honest))

pub open_first-requires : goal.open_first-requires
open_first-requires g c b told honest =
    let s1 = g.D.Disk.state c.close_first.new.disk in
    let mid = was_told _ _ b c.fill.ensures.keeps.told told in
    let old = was_told _ _ mid.0 c.close_first.ensures.keeps.told mid.1 in
    let honest_mid = subst IsTrue c.fill.ensures.keeps.honest honest in
    let honest_old = subst IsTrue c.close_first.ensures.keeps.honest honest_mid in
    let shut = c.in_ok-close_first.ensures.shut old.0 old.1 honest_old mid.0 ((g.met.D.Disk.sound c.close_first.new.disk honest_mid).held mid.0 mid.1) in
    let held : filled c.args.rest.now mid.0 ≡ b = same_some _ _ (sym (c.in_ok-fill.ensures.value mid.0 mid.1 shut.there) ∙ told) in (
      subst IsShutAt_0 held (filled_shut c.args.rest.now mid.0 shut),
      λ x image. c.in_ok-fill.ensures.durable mid.0 mid.1 honest_mid x image ∙ held,
    )
  where
    IsShutAt_0 : List ℕ → Type 0
    IsShutAt_0 l = IsShutAt 0 l

pub returns-in_err-open_first-clause-any_moment : goal.returns-in_err-open_first-clause-any_moment
returns-in_err-open_first-clause-any_moment g c b told honest =
    let s0 = g.D.Disk.state c.args.disk.now in
    let s1 = g.D.Disk.state c.close_first.new.disk in
    let s2 = g.D.Disk.state c.fill.new.disk in
    let s3 = g.D.Disk.state c.open_first.new.disk in
    let held = closed_told _ _ b c.in_ok-close_first.ensures.value told in
    let honest_1 = subst IsTrue (sym c.close_first.ensures.keeps.honest) honest in
    let honest_2 = subst IsTrue (sym c.fill.ensures.keeps.honest) honest_1 in
    let whole = c.in_ok-fill.ensures.value (closed b) held (closed_some b) in
    making_opened s0 s1 s2 s3 c.args.rest.now b (closed b) (closed_some b) (c.close_first.ensures.settled b told honest (c.requires.settled b told honest)) (c.fill.ensures.any_moment (closed b) held honest_1)
    (c.open_first.ensures.any_moment (filled c.args.rest.now (closed b)) whole honest_2)

pub returns-clause-any_moment : goal.returns-clause-any_moment
returns-clause-any_moment g c b told honest =
    let s0 = g.D.Disk.state c.args.disk.now in
    let s1 = g.D.Disk.state c.close_first.new.disk in
    let s2 = g.D.Disk.state c.fill.new.disk in
    let s3 = g.D.Disk.state c.open_first.new.disk in
    let held = closed_told _ _ b c.in_ok-close_first.ensures.value told in
    let honest_1 = subst IsTrue (sym c.close_first.ensures.keeps.honest) honest in
    let honest_2 = subst IsTrue (sym c.fill.ensures.keeps.honest) honest_1 in
    let whole = c.in_ok-fill.ensures.value (closed b) held (closed_some b) in
    making_opened s0 s1 s2 s3 c.args.rest.now b (closed b) (closed_some b) (c.close_first.ensures.settled b told honest (c.requires.settled b told honest)) (c.fill.ensures.any_moment (closed b) held honest_1)
    (c.open_first.ensures.any_moment (filled c.args.rest.now (closed b)) whole honest_2)

pub returns-clause-value : goal.returns-clause-value
returns-clause-value g c b told =
    let held = closed_told _ _ b c.in_ok-close_first.ensures.value told in
    opened_told c.args.rest.now _ _ (closed b) c.in_ok-open_first.ensures.value (closed_some b) (c.in_ok-fill.ensures.value (closed b) held (closed_some b))

pub returns-clause-durable : goal.returns-clause-durable
returns-clause-durable g c b told honest x image =
    let held = closed_told _ _ b c.in_ok-close_first.ensures.value told in
    let honest_1 = subst IsTrue (sym c.close_first.ensures.keeps.honest) honest in
    let honest_2 = subst IsTrue (sym c.fill.ensures.keeps.honest) honest_1 in
    c.in_ok-open_first.ensures.durable _ (c.in_ok-fill.ensures.value (closed b) held (closed_some b)) honest_2 x image ∙ opened_filled c.args.rest.now (closed b) (closed_some b)
