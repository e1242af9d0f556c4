use Rattle.std.proofs.Common.{rules, Ok, ◌≡◌, ◌+◌, ◌<◌, ◌^◌, List, ℕ, Some, true, false, not, nat_lt, length, refl, sym, subst, ap, ◌∙◌, arith}
use Rattle.std.proofs.lemmas.Bool.{and_parts, ltb-true, false≢true}
use Rattle.dbn_disk.specs.Disk.{DiskState}
use Rattle.dbn_keeper.specs.declared.opening.Form.TheVariants.{Two}
use Rattle.dbn_keeper.specs.Files.{new_store}
use Rattle.dbn_keeper.specs.Files.Folder.{Holds}
use Rattle.dbn_keeper.specs.Keeping.{BringsOnly, is_within}
use Rattle.dbn_keeper.specs.TwoFiles.{both_held, two_state, IsTwo}
use Rattle.dbn_twofile.specs.Resting.{two_cursor, OneRests}
use Rattle.dbn_io.specs.Causes.{HasCause}
use Rattle.dbn_twofile.proofs.Causes.{cause_other, made_cause}
use Rattle.dbn_twofile.proofs.Rests.{chosen_rests, made_rests}
use Rattle.dbn_twofile.proofs.Checkpoints.{making_clause, made_clause, two_made, held_made}
use Rattle.dbn_twofile.proofs.two.TwoFileKeeper.checkpoint.Goals as goal

pub returns-in_err-make_new-clause-any_moment : goal.returns-in_err-make_new-clause-any_moment
returns-in_err-make_new-clause-any_moment g c z told honest =
    let self = c.args.self.now in
    let k = two_cursor self.form self.base self.generation self.file_bytes self.live self.records self.place self.at_end self.swapped in
    let new_k = two_cursor self.form self.base self.generation self.file_bytes false self.records self.place self.at_end self.swapped in
    let under : self.generation < 2 ^ 62 = ltb-true self.generation (2 ^ 62) (and_parts (is_within (Some self.file_bytes) (34 + length c.args.base.text)) (nat_lt self.generation (2 ^ 62)) c.requires.fits).1 in
    making_clause k (g.D.Disk.state self.chosen) (g.D.Disk.state self.other) (g.D.Disk.state c.make_new.new.disk) c.args.base (self.generation + 1) refl (omega arith) c.requires.numbers.0 c.requires.numbers.1 (omega (arith, c.requires.text)) (self.two c.requires.live) (g.met.D.Disk.sound self.other) z told honest
    c.make_new.ensures.any_moment new_k refl

pub invariant_of-self-2-clause-two : goal.invariant_of-self-2-clause-two
invariant_of-self-2-clause-two g c live =
    let self = c.args.self.now in
    let k = two_cursor self.form self.base self.generation self.file_bytes self.live self.records self.place self.at_end self.swapped in
    let new_k = two_cursor Two (record { fired = c.args.base.fired; next = c.args.base.next; text = c.args.base.text }) (self.generation + 1) self.file_bytes true 0 (33 + length c.as_slice.result.now) self.at_end (not self.swapped) in
    let under : self.generation < 2 ^ 62 = ltb-true self.generation (2 ^ 62) (and_parts (is_within (Some self.file_bytes) (34 + length c.args.base.text)) (nat_lt self.generation (2 ^ 62)) c.requires.fits).1 in
    let o' = g.D.Disk.state c.make_new.new.disk in
    let moved : c.swap.new.x ≡ c.make_new.new.disk = c.swap.ensures.x_after in
    let kept : c.swap.new.y ≡ self.chosen = c.swap.ensures.y_after in
    subst (λ d. IsTwo new_k (g.D.Disk.state d) (g.D.Disk.state c.swap.new.y)) (sym moved) (subst (λ d. IsTwo new_k o' (g.D.Disk.state d)) (sym kept) (two_made k (g.D.Disk.state self.chosen) (g.D.Disk.state self.other) c.args.base (self.generation + 1) refl (omega arith) c.requires.numbers.0 c.requires.numbers.1 (omega (arith, c.requires.text)) (self.two c.requires.live) new_k o' refl refl refl (ap (λ (l : List ℕ). 33 + length l) c.as_slice.ensures) refl refl
    c.make_new.ensures.keeps.told c.make_new.ensures.keeps.honest c.in_ok-make_new.ensures.value c.in_ok-make_new.ensures.durable))

pub returns-clause-value : goal.returns-clause-value
returns-clause-value g c z told =
    let self = c.args.self.now in
    let k = two_cursor self.form self.base self.generation self.file_bytes self.live self.records self.place self.at_end self.swapped in
    let under : self.generation < 2 ^ 62 = ltb-true self.generation (2 ^ 62) (and_parts (is_within (Some self.file_bytes) (34 + length c.args.base.text)) (nat_lt self.generation (2 ^ 62)) c.requires.fits).1 in
    let moved : c.swap.new.x ≡ c.make_new.new.disk = c.swap.ensures.x_after in
    let kept : c.swap.new.y ≡ self.chosen = c.swap.ensures.y_after in
    ap (λ d. both_held (not self.swapped) (g.D.Disk.state d).content (g.D.Disk.state c.swap.new.y).content) moved ∙ ap (λ d. both_held (not self.swapped) (g.D.Disk.state c.make_new.new.disk).content (g.D.Disk.state d).content) kept
    ∙ held_made k (g.D.Disk.state self.chosen) (g.D.Disk.state self.other) c.args.base (self.generation + 1) refl (omega arith) c.requires.numbers.0 c.requires.numbers.1 (omega (arith, c.requires.text)) (self.two c.requires.live) (not self.swapped) (g.D.Disk.state c.make_new.new.disk) z refl told
    c.in_ok-make_new.ensures.value

pub returns-clause-any_moment : goal.returns-clause-any_moment
returns-clause-any_moment g c z told honest =
    let self = c.args.self.now in
    let k = two_cursor self.form self.base self.generation self.file_bytes self.live self.records self.place self.at_end self.swapped in
    let new_k = two_cursor Two (record { fired = c.args.base.fired; next = c.args.base.next; text = c.args.base.text }) (self.generation + 1) self.file_bytes true 0 (33 + length c.as_slice.result.now) self.at_end (not self.swapped) in
    let under : self.generation < 2 ^ 62 = ltb-true self.generation (2 ^ 62) (and_parts (is_within (Some self.file_bytes) (34 + length c.args.base.text)) (nat_lt self.generation (2 ^ 62)) c.requires.fits).1 in
    let o = g.D.Disk.state self.other in
    let o' = g.D.Disk.state c.make_new.new.disk in
    let moved : c.swap.new.x ≡ c.make_new.new.disk = c.swap.ensures.x_after in
    let kept : c.swap.new.y ≡ self.chosen = c.swap.ensures.y_after in
    let P : DiskState → DiskState → Type 0 = λ d e. BringsOnly (two_state k (g.D.Disk.state self.chosen) o) (two_state new_k d e) (λ f. f ≡ Holds (new_store (self.generation + 1) c.args.base)) in
    subst (λ d. P (g.D.Disk.state d) (g.D.Disk.state c.swap.new.y)) (sym moved) (subst (λ d. P o' (g.D.Disk.state d)) (sym kept) (made_clause k (g.D.Disk.state self.chosen) o o' c.args.base (self.generation + 1) refl (omega arith) c.requires.numbers.0 c.requires.numbers.1 (omega (arith, c.requires.text)) (self.two c.requires.live) (g.met.D.Disk.sound self.other) z told honest
    c.make_new.ensures.any_moment new_k refl))

pub returns-in_err-make_new-clause-cause : goal.returns-in_err-make_new-clause-cause
returns-in_err-make_new-clause-cause g c =
    let self = c.args.self.now in
    cause_other self.swapped (g.D.Disk.state self.chosen).faults (g.D.Disk.state self.other).faults (g.D.Disk.state c.make_new.new.disk).faults c.make_new.result _ c.make_new.ensures.cause (search rules) (search rules)

pub returns-clause-cause : goal.returns-clause-cause
returns-clause-cause g c =
    let self = c.args.self.now in
    let moved : c.swap.new.x ≡ c.make_new.new.disk = c.swap.ensures.x_after in
    let kept : c.swap.new.y ≡ self.chosen = c.swap.ensures.y_after in
    let was : c.make_new.result ≡ Ok c.in_ok-make_new.field-0 = c.in_ok-make_new.was in
    made_cause self.swapped (g.D.Disk.state self.chosen).faults (g.D.Disk.state self.other).faults (g.D.Disk.state c.swap.new.x).faults (g.D.Disk.state c.swap.new.y).faults c.make_new.result (self.generation + 1)
    (subst (λ d. HasCause (g.D.Disk.state self.other).faults (g.D.Disk.state d).faults c.make_new.result) (sym moved) c.make_new.ensures.cause) (ap (λ d. (g.D.Disk.state d).faults) kept) (search rules)

pub invariant_of-self-2-clause-rests : goal.invariant_of-self-2-clause-rests
invariant_of-self-2-clause-rests g c =
    let self = c.args.self.now in
    let k = two_cursor self.form self.base self.generation self.file_bytes self.live self.records self.place self.at_end self.swapped in
    let kept : c.swap.new.y ≡ self.chosen = c.swap.ensures.y_after in
    subst (λ d. OneRests false (g.D.Disk.state c.swap.new.x) (g.D.Disk.state d)) (sym kept) (made_rests k (g.D.Disk.state self.chosen) (g.D.Disk.state self.other) (g.D.Disk.state c.swap.new.x) (self.two c.requires.live))

pub invariant_of-self : goal.invariant_of-self
invariant_of-self g c =
    let self = c.args.self.now in
    let k = two_cursor self.form self.base self.generation self.file_bytes self.live self.records self.place self.at_end self.swapped in
    record {
      first_generation = self.first_generation;
      last_generation = self.last_generation;
      file_bound = self.file_bound;
      two = λ live. absurd (false≢true live);
      rests = chosen_rests k (g.D.Disk.state self.chosen) (g.D.Disk.state self.other) (g.D.Disk.state c.make_new.new.disk) (self.two c.requires.live);
    }
