use Rattle.std.proofs.Common.{rules, ◌+◌, true, false, refl, sym, subst, arith}
use Rattle.dbn_journal.specs.Records.{IsShutAt}
use Rattle.dbn_twofile.specs.Resting.{two_cursor}
use Rattle.dbn_keeper.proofs.Steps.{append_clause, append_steady, two_appended, held_appended}
use Rattle.dbn_twofile.proofs.Causes.{cause_chosen}
use Rattle.dbn_twofile.proofs.Rests.{other_rests}
use Rattle.dbn_twofile.proofs.two.TwoFileKeeper.append.Goals as goal

pub append-requires-clause-shut : goal.append-requires-clause-shut
append-requires-clause-shut g c b told honest x image =
    let two = c.args.self.now.two c.requires.live in
    let only = two.chosen_settled b told honest x image in
    subst (λ l. IsShutAt c.args.self.now.place l) (sym only) (two.shut b told c.requires.end)

pub returns-in_err-self-clause-any_moment : goal.returns-in_err-self-clause-any_moment
returns-in_err-self-clause-any_moment g c store told honest =
    let self = c.args.self.now in
    let k = two_cursor self.form self.base self.generation self.file_bytes self.live self.records self.place self.at_end self.swapped in
    let new_k = two_cursor self.form self.base self.generation self.file_bytes false self.records self.place self.at_end self.swapped in
    append_clause k new_k (g.D.Disk.state self.chosen) (g.D.Disk.state c.append.new.disk) (g.D.Disk.state self.other) c.args.body.now store (self.two c.requires.live) refl c.requires.end (g.met.D.Disk.sound self.chosen) c.requires.size told honest c.append.ensures.any_moment

pub invariant_of-self-2-clause-two : goal.invariant_of-self-2-clause-two
invariant_of-self-2-clause-two g c live =
    let self = c.args.self.now in
    let k = two_cursor self.form self.base self.generation self.file_bytes self.live self.records self.place self.at_end self.swapped in
    let new_k = two_cursor self.form self.base self.generation self.file_bytes true (self.records + 1) c.in_ok-self.field-0 self.at_end self.swapped in
    two_appended k new_k (g.D.Disk.state self.chosen) (g.D.Disk.state c.append.new.disk) (g.D.Disk.state self.other) c.args.body.now refl refl refl refl c.in_ok-self.ensures.end refl c.requires.end c.in_ok-self.ensures.value c.append.ensures.keeps.honest
    c.in_ok-self.ensures.durable c.requires.size (omega arith) (self.two c.requires.live)

pub returns-clause-value : goal.returns-clause-value
returns-clause-value g c store told =
    let self = c.args.self.now in
    let k = two_cursor self.form self.base self.generation self.file_bytes self.live self.records self.place self.at_end self.swapped in
    let new_k = two_cursor self.form self.base self.generation self.file_bytes true (self.records + 1) c.in_ok-self.field-0 self.at_end self.swapped in
    held_appended k new_k (g.D.Disk.state self.chosen) (g.D.Disk.state c.append.new.disk) (g.D.Disk.state self.other) c.args.body.now refl refl refl refl c.in_ok-self.ensures.end refl c.requires.end c.in_ok-self.ensures.value c.append.ensures.keeps.honest
    c.in_ok-self.ensures.durable c.requires.size (omega arith) (self.two c.requires.live) store told

pub returns-clause-any_moment : goal.returns-clause-any_moment
returns-clause-any_moment g c store told honest =
    let self = c.args.self.now in
    let k = two_cursor self.form self.base self.generation self.file_bytes self.live self.records self.place self.at_end self.swapped in
    let new_k = two_cursor self.form self.base self.generation self.file_bytes true (self.records + 1) c.in_ok-self.field-0 self.at_end self.swapped in
    append_clause k new_k (g.D.Disk.state self.chosen) (g.D.Disk.state c.append.new.disk) (g.D.Disk.state self.other) c.args.body.now store (self.two c.requires.live) refl c.requires.end (g.met.D.Disk.sound self.chosen) c.requires.size told honest c.append.ensures.any_moment

pub returns-clause-steady : goal.returns-clause-steady
returns-clause-steady g c store told honest =
    let self = c.args.self.now in
    let k = two_cursor self.form self.base self.generation self.file_bytes self.live self.records self.place self.at_end self.swapped in
    let new_k = two_cursor self.form self.base self.generation self.file_bytes true (self.records + 1) c.in_ok-self.field-0 self.at_end self.swapped in
    append_steady k new_k (g.D.Disk.state self.chosen) (g.D.Disk.state c.append.new.disk) (g.D.Disk.state self.other) c.args.body.now store (self.two c.requires.live) refl refl refl c.requires.end c.requires.size told honest c.append.ensures.any_moment

pub returns-in_err-self-clause-cause : goal.returns-in_err-self-clause-cause
returns-in_err-self-clause-cause g c =
    let self = c.args.self.now in
    cause_chosen self.swapped (g.D.Disk.state self.chosen).faults (g.D.Disk.state self.other).faults (g.D.Disk.state c.append.new.disk).faults c.append.result _ c.append.ensures.cause (search rules) (search rules)

pub returns-clause-cause : goal.returns-clause-cause
returns-clause-cause g c =
    let self = c.args.self.now in
    cause_chosen self.swapped (g.D.Disk.state self.chosen).faults (g.D.Disk.state self.other).faults (g.D.Disk.state c.append.new.disk).faults c.append.result _ c.append.ensures.cause (search rules) (search rules)

pub invariant_of-self-2-clause-rests : goal.invariant_of-self-2-clause-rests
invariant_of-self-2-clause-rests g c =
    let self = c.args.self.now in
    let k = two_cursor self.form self.base self.generation self.file_bytes self.live self.records self.place self.at_end self.swapped in
    other_rests k (g.D.Disk.state self.chosen) (g.D.Disk.state c.append.new.disk) (g.D.Disk.state self.other) (self.two c.requires.live)
