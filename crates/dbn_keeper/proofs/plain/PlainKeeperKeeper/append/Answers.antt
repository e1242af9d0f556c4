use Rattle.std.proofs.Common.{◌+◌, true, false, refl, sym, subst, arith}
use Rattle.dbn_journal.specs.Records.{IsShutAt}
use Rattle.dbn_keeper.specs.Plain.{plain_cursor, no_disk}
use Rattle.dbn_keeper.proofs.Steps.{append_clause, append_steady, two_appended, held_appended}
use Rattle.dbn_keeper.proofs.plain.PlainKeeperKeeper.append.Goals as goal

pub append-requires-clause-shut : goal.append-requires-clause-shut
append-requires-clause-shut g c b told honest x image =
    let two = c.args.self.now.one c.requires.live in
    let only = two.chosen_settled b told honest x image in
    subst (λ l. IsShutAt c.args.self.now.place l) (sym only) (two.shut b told c.requires.end)

pub returns-in_err-self-clause-any_moment : goal.returns-in_err-self-clause-any_moment
returns-in_err-self-clause-any_moment g c store told honest =
    let self = c.args.self.now in
    let k = plain_cursor self.form self.base self.generation self.last self.file_bytes self.live self.records self.place self.at_end in
    let new_k = plain_cursor self.form self.base self.generation self.last self.file_bytes false self.records self.place self.at_end in
    append_clause k new_k (g.D.Disk.state self.disk) (g.D.Disk.state c.append.new.disk) no_disk c.args.body.now store (self.one c.requires.live) refl c.requires.end (g.met.D.Disk.sound self.disk) c.requires.size told honest c.append.ensures.any_moment

pub invariant_of-self-2-clause-one : goal.invariant_of-self-2-clause-one
invariant_of-self-2-clause-one g c live =
    let self = c.args.self.now in
    let k = plain_cursor self.form self.base self.generation self.last self.file_bytes self.live self.records self.place self.at_end in
    let new_k = plain_cursor self.form self.base self.generation self.last self.file_bytes true (self.records + 1) c.in_ok-self.field-0 self.at_end in
    two_appended k new_k (g.D.Disk.state self.disk) (g.D.Disk.state c.append.new.disk) no_disk c.args.body.now refl refl refl refl c.in_ok-self.ensures.end refl c.requires.end c.in_ok-self.ensures.value c.append.ensures.keeps.honest
    c.in_ok-self.ensures.durable c.requires.size (omega arith) (self.one c.requires.live)

pub returns-clause-value : goal.returns-clause-value
returns-clause-value g c store told =
    let self = c.args.self.now in
    let k = plain_cursor self.form self.base self.generation self.last self.file_bytes self.live self.records self.place self.at_end in
    let new_k = plain_cursor self.form self.base self.generation self.last self.file_bytes true (self.records + 1) c.in_ok-self.field-0 self.at_end in
    held_appended k new_k (g.D.Disk.state self.disk) (g.D.Disk.state c.append.new.disk) no_disk c.args.body.now refl refl refl refl c.in_ok-self.ensures.end refl c.requires.end c.in_ok-self.ensures.value c.append.ensures.keeps.honest
    c.in_ok-self.ensures.durable c.requires.size (omega arith) (self.one c.requires.live) store told

pub returns-clause-any_moment : goal.returns-clause-any_moment
returns-clause-any_moment g c store told honest =
    let self = c.args.self.now in
    let k = plain_cursor self.form self.base self.generation self.last self.file_bytes self.live self.records self.place self.at_end in
    let new_k = plain_cursor self.form self.base self.generation self.last self.file_bytes true (self.records + 1) c.in_ok-self.field-0 self.at_end in
    append_clause k new_k (g.D.Disk.state self.disk) (g.D.Disk.state c.append.new.disk) no_disk c.args.body.now store (self.one c.requires.live) refl c.requires.end (g.met.D.Disk.sound self.disk) c.requires.size told honest c.append.ensures.any_moment

pub returns-clause-steady : goal.returns-clause-steady
returns-clause-steady g c store told honest =
    let self = c.args.self.now in
    let k = plain_cursor self.form self.base self.generation self.last self.file_bytes self.live self.records self.place self.at_end in
    let new_k = plain_cursor self.form self.base self.generation self.last self.file_bytes true (self.records + 1) c.in_ok-self.field-0 self.at_end in
    append_steady k new_k (g.D.Disk.state self.disk) (g.D.Disk.state c.append.new.disk) no_disk c.args.body.now store (self.one c.requires.live) refl refl refl c.requires.end c.requires.size told honest c.append.ensures.any_moment
