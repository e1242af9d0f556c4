use Rattle.std.proofs.Common.{List, ℕ, ◌∷◌, Some, inl, subst, ap, ◌∙◌}
use Rattle.dbn_disk.specs.Disk.{LeavesOnly, Only}
use Rattle.dbn_disk.proofs.Going.{started}
use Rattle.dbn_journal.specs.Records.{open_gate}
use Rattle.dbn_keeper.specs.Creating.{IsMaking}
use Rattle.dbn_keeper.specs.Files.{file_of}
use Rattle.dbn_keeper.proofs.make.make_new.Goals as goal

pub returns-in_err-rest-clause-any_moment : goal.returns-in_err-rest-clause-any_moment
returns-in_err-rest-clause-any_moment g c b told honest =
    started (g.D.Disk.state c.args.disk.now) (IsMaking b (file_of c.args.generation c.args.base.now)) (g.met.D.Disk.sound c.args.disk.now honest) (λ x image. inl (c.requires.settled b told honest x image))

pub returns-in_err-make-clause-any_moment : goal.returns-in_err-make-clause-any_moment
returns-in_err-make-clause-any_moment g c b told honest =
    let bytes = c.as_slice.ensures.value ∙ c.in_ok-rest.ensures.bytes in
    subst (λ (l : List ℕ). LeavesOnly (g.D.Disk.state c.args.disk.now) (g.D.Disk.state c.make.new.disk) (IsMaking b (open_gate ∷ l))) bytes (c.make.ensures.any_moment b told honest)

pub returns-clause-any_moment : goal.returns-clause-any_moment
returns-clause-any_moment g c b told honest =
    let bytes = c.as_slice.ensures.value ∙ c.in_ok-rest.ensures.bytes in
    subst (λ (l : List ℕ). LeavesOnly (g.D.Disk.state c.args.disk.now) (g.D.Disk.state c.make.new.disk) (IsMaking b (open_gate ∷ l))) bytes (c.make.ensures.any_moment b told honest)

pub returns-clause-value : goal.returns-clause-value
returns-clause-value g c b told =
    let bytes = c.as_slice.ensures.value ∙ c.in_ok-rest.ensures.bytes in
    c.in_ok-make.ensures.value b told ∙ ap (λ (l : List ℕ). Some (open_gate ∷ l)) bytes

pub returns-clause-durable : goal.returns-clause-durable
returns-clause-durable g c b told honest =
    let bytes = c.as_slice.ensures.value ∙ c.in_ok-rest.ensures.bytes in
    subst (λ (l : List ℕ). Only (open_gate ∷ l) (g.D.Disk.state c.make.new.disk).image) bytes (c.in_ok-make.ensures.durable b told honest)
