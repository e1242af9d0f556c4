use Rattle.std.proofs.Common.{◌≡◌, ◌+◌, ℕ, Some, true, false, rules, length, suc, drop, refl, sym, ap, ◌∙◌, arith}
use Rattle.std.proofs.lemmas.Bool.{false≢true}
use Rattle.dbn_journal.specs.Records.{gate_in}
use Rattle.dbn_journal.specs.Records.Found.{Held}
use Rattle.dbn_journal.specs.Walk.{records_by, place_after}
use Rattle.dbn_journal.specs.declared.gate.Gate.TheVariants.{Shut as ShutGate, Held as HeldGate, Torn as TornGate}
use Rattle.dbn_journal.proofs.Walks.{walked_on, shut_there}
use Rattle.dbn_keeper.specs.Files.{first_gate}
use Rattle.dbn_keeper.specs.TwoFiles.{IsTwo}
use Rattle.dbn_keeper.specs.Plain.{plain_cursor, no_disk}
use Rattle.dbn_keeper.proofs.Steps.{looked, two_after, step_here, step_is, is_shut_gate, is_held_gate}
use Rattle.dbn_keeper.proofs.plain.PlainKeeperKeeper.next_body.Goals as goal

pub returns-in-Shut-clause-files : goal.returns-in-Shut-clause-files
returns-in-Shut-clause-files g c =
    let self = c.args.self.now in
    let k = plain_cursor self.form self.base self.generation self.last self.file_bytes self.live self.records self.place self.at_end in
    let new_k = plain_cursor self.form self.base self.generation self.last self.file_bytes true self.records self.place true in
    looked k new_k (g.D.Disk.state self.disk) (g.D.Disk.state c.gate_at.new.disk) no_disk refl refl refl c.gate_at.ensures.same c.gate_at.ensures.still

pub returns-in-Shut-clause-step : goal.returns-in-Shut-clause-step
returns-in-Shut-clause-step g c store told =
    let self = c.args.self.now in
    let k = plain_cursor self.form self.base self.generation self.last self.file_bytes self.live self.records self.place self.at_end in
    step_here k (g.D.Disk.state self.disk) no_disk (self.one c.requires) store told _
    (λ x told_x. step_is self.place x (records_by self.place ShutGate x) (c.in_ok-gate_at.ensures.walk x told_x ∙ ap (λ gate. records_by self.place gate x) c.in-Shut.is))

pub returns-in-Held-clause-files : goal.returns-in-Held-clause-files
returns-in-Held-clause-files g c =
    let self = c.args.self.now in
    let k = plain_cursor self.form self.base self.generation self.last self.file_bytes self.live self.records self.place self.at_end in
    let new_k = plain_cursor self.form self.base self.generation self.last self.file_bytes true (self.records + 1) c.in-Held.after false in
    looked k new_k (g.D.Disk.state self.disk) (g.D.Disk.state c.gate_at.new.disk) no_disk refl refl refl c.gate_at.ensures.same c.gate_at.ensures.still

pub returns-in-Held-clause-step : goal.returns-in-Held-clause-step
returns-in-Held-clause-step g c store told =
    let self = c.args.self.now in
    let k = plain_cursor self.form self.base self.generation self.last self.file_bytes self.live self.records self.place self.at_end in
    step_here k (g.D.Disk.state self.disk) no_disk (self.one c.requires) store told _
    (λ x told_x. step_is self.place x (records_by self.place (HeldGate c.in-Held.body c.in-Held.after) x) (c.in_ok-gate_at.ensures.walk x told_x ∙ ap (λ gate. records_by self.place gate x) c.in-Held.is))

pub returns-in-Torn-clause-files : goal.returns-in-Torn-clause-files
returns-in-Torn-clause-files g c =
    let self = c.args.self.now in
    let k = plain_cursor self.form self.base self.generation self.last self.file_bytes self.live self.records self.place self.at_end in
    let new_k = plain_cursor self.form self.base self.generation self.last self.file_bytes true self.records self.place false in
    looked k new_k (g.D.Disk.state self.disk) (g.D.Disk.state c.gate_at.new.disk) no_disk refl refl refl c.gate_at.ensures.same c.gate_at.ensures.still

pub returns-in-Torn-clause-step : goal.returns-in-Torn-clause-step
returns-in-Torn-clause-step g c store told =
    let self = c.args.self.now in
    let k = plain_cursor self.form self.base self.generation self.last self.file_bytes self.live self.records self.place self.at_end in
    step_here k (g.D.Disk.state self.disk) no_disk (self.one c.requires) store told _
    (λ x told_x. step_is self.place x (records_by self.place TornGate x) (c.in_ok-gate_at.ensures.walk x told_x ∙ ap (λ gate. records_by self.place gate x) c.in-Torn.is))

pub invariant_of-self-in-Shut-clause-one : goal.invariant_of-self-in-Shut-clause-one
invariant_of-self-in-Shut-clause-one g c live =
    let self = c.args.self.now in
    let k = plain_cursor self.form self.base self.generation self.last self.file_bytes self.live self.records self.place self.at_end in
    let new_k = plain_cursor self.form self.base self.generation self.last self.file_bytes true self.records self.place true in
    let two : IsTwo k (g.D.Disk.state self.disk) no_disk = self.one c.requires in
    two_after k new_k (g.D.Disk.state self.disk) (g.D.Disk.state c.gate_at.new.disk) no_disk refl refl refl refl c.gate_at.ensures.same c.gate_at.ensures.still c.gate_at.ensures.keeps.honest two
    two.few two.sized (λ x told. (two.chosen_file x told).walked) (λ x told _. shut_there self.place x (is_shut_gate self.place _ (sym c.in-Shut.is ∙ c.in_ok-gate_at.ensures.gate x told)))

pub invariant_of-self-in-Held-clause-one : goal.invariant_of-self-in-Held-clause-one
invariant_of-self-in-Held-clause-one g c live =
    let self = c.args.self.now in
    let k = plain_cursor self.form self.base self.generation self.last self.file_bytes self.live self.records self.place self.at_end in
    let new_k = plain_cursor self.form self.base self.generation self.last self.file_bytes true (self.records + 1) c.in-Held.after false in
    let two : IsTwo k (g.D.Disk.state self.disk) no_disk = self.one c.requires in
    two_after k new_k (g.D.Disk.state self.disk) (g.D.Disk.state c.gate_at.new.disk) no_disk refl refl refl refl c.gate_at.ensures.same c.gate_at.ensures.still c.gate_at.ensures.keeps.honest two
    (let on : c.in-Held.after ≡ self.place + 5 + length c.in-Held.body = search rules in omega (arith, on, two.few)) (omega arith)
    (λ x told. let on : c.in-Held.after ≡ self.place + 5 + length c.in-Held.body = search rules in
    let here : gate_in (drop self.place x) ≡ Held c.in-Held.body = is_held_gate self.place c.in-Held.after c.in-Held.body _ (sym c.in-Held.is ∙ c.in_ok-gate_at.ensures.gate x told) in
    ap (λ (n : ℕ). place_after n (first_gate x) x) (let e : self.records + 1 ≡ suc self.records = omega arith in e) ∙ walked_on self.records (first_gate x) self.place x c.in-Held.body (two.chosen_file x told).walked here ∙ ap Some (sym on))
    (λ x told ended. absurd (false≢true ended))

pub invariant_of-self-in-Torn-clause-one : goal.invariant_of-self-in-Torn-clause-one
invariant_of-self-in-Torn-clause-one g c live =
    let self = c.args.self.now in
    let k = plain_cursor self.form self.base self.generation self.last self.file_bytes self.live self.records self.place self.at_end in
    let new_k = plain_cursor self.form self.base self.generation self.last self.file_bytes true self.records self.place false in
    let two : IsTwo k (g.D.Disk.state self.disk) no_disk = self.one c.requires in
    two_after k new_k (g.D.Disk.state self.disk) (g.D.Disk.state c.gate_at.new.disk) no_disk refl refl refl refl c.gate_at.ensures.same c.gate_at.ensures.still c.gate_at.ensures.keeps.honest two
    two.few two.sized (λ x told. (two.chosen_file x told).walked) (λ x told ended. absurd (false≢true ended))

pub returns-in_err-gate_at-clause-files : goal.returns-in_err-gate_at-clause-files
returns-in_err-gate_at-clause-files g c =
    let self = c.args.self.now in
    let k = plain_cursor self.form self.base self.generation self.last self.file_bytes self.live self.records self.place self.at_end in
    let new_k = plain_cursor self.form self.base self.generation self.last self.file_bytes false self.records self.place self.at_end in
    looked k new_k (g.D.Disk.state self.disk) (g.D.Disk.state c.gate_at.new.disk) no_disk refl refl refl c.gate_at.ensures.same c.gate_at.ensures.still
