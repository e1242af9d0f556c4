use Rattle.std.proofs.Common.{◌≡◌, ◌+◌, ℕ, Some, true, false, rules, length, suc, drop, refl, sym, ap, ◌∙◌, arith}
use Rattle.std.proofs.lemmas.Bool.{false≢true}
use Rattle.dbn_journal.specs.Records.{gate_in}
use Rattle.dbn_journal.specs.Records.Found.{Held}
use Rattle.dbn_journal.specs.Walk.{records_by, place_after}
use Rattle.dbn_journal.specs.declared.gate.Gate.TheVariants.{Shut as ShutGate, Held as HeldGate, Torn as TornGate}
use Rattle.dbn_journal.proofs.Walks.{walked_on, shut_there}
use Rattle.dbn_keeper.specs.Files.{first_gate}
use Rattle.dbn_keeper.specs.TwoFiles.{IsTwo}
use Rattle.dbn_twofile.specs.Resting.{two_cursor}
use Rattle.dbn_keeper.proofs.Steps.{looked, two_after, step_here, step_is, is_shut_gate, is_held_gate}
use Rattle.dbn_twofile.proofs.Causes.{cause_chosen}
use Rattle.dbn_twofile.proofs.Rests.{rests_looked}
use Rattle.dbn_twofile.proofs.two.TwoFileKeeper.next_body.Goals as goal

pub returns-in-Shut-clause-files : goal.returns-in-Shut-clause-files
returns-in-Shut-clause-files g c =
    let self = c.args.self.now in
    let k = two_cursor self.form self.base self.generation self.file_bytes self.live self.records self.place self.at_end self.swapped in
    let new_k = two_cursor self.form self.base self.generation self.file_bytes true self.records self.place true self.swapped in
    looked k new_k (g.D.Disk.state self.chosen) (g.D.Disk.state c.gate_at.new.disk) (g.D.Disk.state self.other) refl refl refl c.gate_at.ensures.same c.gate_at.ensures.still

pub returns-in-Shut-clause-step : goal.returns-in-Shut-clause-step
returns-in-Shut-clause-step g c store told =
    let self = c.args.self.now in
    let k = two_cursor self.form self.base self.generation self.file_bytes self.live self.records self.place self.at_end self.swapped in
    step_here k (g.D.Disk.state self.chosen) (g.D.Disk.state self.other) (self.two c.requires) store told _
    (λ x told_x. step_is self.place x (records_by self.place ShutGate x) (c.in_ok-gate_at.ensures.walk x told_x ∙ ap (λ gate. records_by self.place gate x) c.in-Shut.is))

pub returns-in-Held-clause-files : goal.returns-in-Held-clause-files
returns-in-Held-clause-files g c =
    let self = c.args.self.now in
    let k = two_cursor self.form self.base self.generation self.file_bytes self.live self.records self.place self.at_end self.swapped in
    let new_k = two_cursor self.form self.base self.generation self.file_bytes true (self.records + 1) c.in-Held.after false self.swapped in
    looked k new_k (g.D.Disk.state self.chosen) (g.D.Disk.state c.gate_at.new.disk) (g.D.Disk.state self.other) refl refl refl c.gate_at.ensures.same c.gate_at.ensures.still

pub returns-in-Held-clause-step : goal.returns-in-Held-clause-step
returns-in-Held-clause-step g c store told =
    let self = c.args.self.now in
    let k = two_cursor self.form self.base self.generation self.file_bytes self.live self.records self.place self.at_end self.swapped in
    step_here k (g.D.Disk.state self.chosen) (g.D.Disk.state self.other) (self.two c.requires) store told _
    (λ x told_x. step_is self.place x (records_by self.place (HeldGate c.in-Held.body c.in-Held.after) x) (c.in_ok-gate_at.ensures.walk x told_x ∙ ap (λ gate. records_by self.place gate x) c.in-Held.is))

pub returns-in-Torn-clause-files : goal.returns-in-Torn-clause-files
returns-in-Torn-clause-files g c =
    let self = c.args.self.now in
    let k = two_cursor self.form self.base self.generation self.file_bytes self.live self.records self.place self.at_end self.swapped in
    let new_k = two_cursor self.form self.base self.generation self.file_bytes true self.records self.place false self.swapped in
    looked k new_k (g.D.Disk.state self.chosen) (g.D.Disk.state c.gate_at.new.disk) (g.D.Disk.state self.other) refl refl refl c.gate_at.ensures.same c.gate_at.ensures.still

pub returns-in-Torn-clause-step : goal.returns-in-Torn-clause-step
returns-in-Torn-clause-step g c store told =
    let self = c.args.self.now in
    let k = two_cursor self.form self.base self.generation self.file_bytes self.live self.records self.place self.at_end self.swapped in
    step_here k (g.D.Disk.state self.chosen) (g.D.Disk.state self.other) (self.two c.requires) store told _
    (λ x told_x. step_is self.place x (records_by self.place TornGate x) (c.in_ok-gate_at.ensures.walk x told_x ∙ ap (λ gate. records_by self.place gate x) c.in-Torn.is))

pub invariant_of-self-in-Shut-clause-two : goal.invariant_of-self-in-Shut-clause-two
invariant_of-self-in-Shut-clause-two g c live =
    let self = c.args.self.now in
    let k = two_cursor self.form self.base self.generation self.file_bytes self.live self.records self.place self.at_end self.swapped in
    let new_k = two_cursor self.form self.base self.generation self.file_bytes true self.records self.place true self.swapped in
    let two : IsTwo k (g.D.Disk.state self.chosen) (g.D.Disk.state self.other) = self.two c.requires in
    two_after k new_k (g.D.Disk.state self.chosen) (g.D.Disk.state c.gate_at.new.disk) (g.D.Disk.state self.other) refl refl refl refl c.gate_at.ensures.same c.gate_at.ensures.still c.gate_at.ensures.keeps.honest two
    two.few two.sized (λ x told. (two.chosen_file x told).walked) (λ x told _. shut_there self.place x (is_shut_gate self.place _ (sym c.in-Shut.is ∙ c.in_ok-gate_at.ensures.gate x told)))

pub invariant_of-self-in-Held-clause-two : goal.invariant_of-self-in-Held-clause-two
invariant_of-self-in-Held-clause-two g c live =
    let self = c.args.self.now in
    let k = two_cursor self.form self.base self.generation self.file_bytes self.live self.records self.place self.at_end self.swapped in
    let new_k = two_cursor self.form self.base self.generation self.file_bytes true (self.records + 1) c.in-Held.after false self.swapped in
    let two : IsTwo k (g.D.Disk.state self.chosen) (g.D.Disk.state self.other) = self.two c.requires in
    two_after k new_k (g.D.Disk.state self.chosen) (g.D.Disk.state c.gate_at.new.disk) (g.D.Disk.state self.other) refl refl refl refl c.gate_at.ensures.same c.gate_at.ensures.still c.gate_at.ensures.keeps.honest two
    (let on : c.in-Held.after ≡ self.place + 5 + length c.in-Held.body = search rules in omega (arith, on, two.few)) (omega arith)
    (λ x told. let on : c.in-Held.after ≡ self.place + 5 + length c.in-Held.body = search rules in
    let here : gate_in (drop self.place x) ≡ Held c.in-Held.body = is_held_gate self.place c.in-Held.after c.in-Held.body _ (sym c.in-Held.is ∙ c.in_ok-gate_at.ensures.gate x told) in
    ap (λ (n : ℕ). place_after n (first_gate x) x) (let e : self.records + 1 ≡ suc self.records = omega arith in e) ∙ walked_on self.records (first_gate x) self.place x c.in-Held.body (two.chosen_file x told).walked here ∙ ap Some (sym on))
    (λ x told ended. absurd (false≢true ended))

pub invariant_of-self-in-Torn-clause-two : goal.invariant_of-self-in-Torn-clause-two
invariant_of-self-in-Torn-clause-two g c live =
    let self = c.args.self.now in
    let k = two_cursor self.form self.base self.generation self.file_bytes self.live self.records self.place self.at_end self.swapped in
    let new_k = two_cursor self.form self.base self.generation self.file_bytes true self.records self.place false self.swapped in
    let two : IsTwo k (g.D.Disk.state self.chosen) (g.D.Disk.state self.other) = self.two c.requires in
    two_after k new_k (g.D.Disk.state self.chosen) (g.D.Disk.state c.gate_at.new.disk) (g.D.Disk.state self.other) refl refl refl refl c.gate_at.ensures.same c.gate_at.ensures.still c.gate_at.ensures.keeps.honest two
    two.few two.sized (λ x told. (two.chosen_file x told).walked) (λ x told ended. absurd (false≢true ended))

pub returns-in_err-gate_at-clause-files : goal.returns-in_err-gate_at-clause-files
returns-in_err-gate_at-clause-files g c =
    let self = c.args.self.now in
    let k = two_cursor self.form self.base self.generation self.file_bytes self.live self.records self.place self.at_end self.swapped in
    let new_k = two_cursor self.form self.base self.generation self.file_bytes false self.records self.place self.at_end self.swapped in
    looked k new_k (g.D.Disk.state self.chosen) (g.D.Disk.state c.gate_at.new.disk) (g.D.Disk.state self.other) refl refl refl c.gate_at.ensures.same c.gate_at.ensures.still

pub returns-in-Shut-clause-cause : goal.returns-in-Shut-clause-cause
returns-in-Shut-clause-cause g c =
    let self = c.args.self.now in
    cause_chosen self.swapped (g.D.Disk.state self.chosen).faults (g.D.Disk.state self.other).faults (g.D.Disk.state c.gate_at.new.disk).faults c.gate_at.result _ c.gate_at.ensures.cause (search rules) (search rules)

pub returns-in-Held-clause-cause : goal.returns-in-Held-clause-cause
returns-in-Held-clause-cause g c =
    let self = c.args.self.now in
    cause_chosen self.swapped (g.D.Disk.state self.chosen).faults (g.D.Disk.state self.other).faults (g.D.Disk.state c.gate_at.new.disk).faults c.gate_at.result _ c.gate_at.ensures.cause (search rules) (search rules)

pub returns-in-Torn-clause-cause : goal.returns-in-Torn-clause-cause
returns-in-Torn-clause-cause g c =
    let self = c.args.self.now in
    cause_chosen self.swapped (g.D.Disk.state self.chosen).faults (g.D.Disk.state self.other).faults (g.D.Disk.state c.gate_at.new.disk).faults c.gate_at.result _ c.gate_at.ensures.cause (search rules) (search rules)

pub returns-in_err-gate_at-clause-cause : goal.returns-in_err-gate_at-clause-cause
returns-in_err-gate_at-clause-cause g c =
    let self = c.args.self.now in
    cause_chosen self.swapped (g.D.Disk.state self.chosen).faults (g.D.Disk.state self.other).faults (g.D.Disk.state c.gate_at.new.disk).faults c.gate_at.result _ c.gate_at.ensures.cause (search rules) (search rules)

pub invariant_of-self-in-Shut-clause-rests : goal.invariant_of-self-in-Shut-clause-rests
invariant_of-self-in-Shut-clause-rests g c =
    let self = c.args.self.now in
    rests_looked self.making (g.D.Disk.state self.chosen) (g.D.Disk.state c.gate_at.new.disk) (g.D.Disk.state self.other) c.gate_at.ensures.same c.gate_at.ensures.still c.gate_at.ensures.keeps.honest self.rests

pub invariant_of-self-in-Held-clause-rests : goal.invariant_of-self-in-Held-clause-rests
invariant_of-self-in-Held-clause-rests g c =
    let self = c.args.self.now in
    rests_looked self.making (g.D.Disk.state self.chosen) (g.D.Disk.state c.gate_at.new.disk) (g.D.Disk.state self.other) c.gate_at.ensures.same c.gate_at.ensures.still c.gate_at.ensures.keeps.honest self.rests

pub invariant_of-self-in-Torn-clause-rests : goal.invariant_of-self-in-Torn-clause-rests
invariant_of-self-in-Torn-clause-rests g c =
    let self = c.args.self.now in
    rests_looked self.making (g.D.Disk.state self.chosen) (g.D.Disk.state c.gate_at.new.disk) (g.D.Disk.state self.other) c.gate_at.ensures.same c.gate_at.ensures.still c.gate_at.ensures.keeps.honest self.rests
