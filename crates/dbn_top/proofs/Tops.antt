-- From what the parts of a call say to what the call says.
use Rattle.std.proofs.Common.{◌≡◌, ◌≢◌, ◌⊎◌, ◌&&◌, ◌||◌, not, ℕ, ◌≤◌, Bool, true, false, List, [], take, Option, None, Some, is_some, IsTrue, inl, inr, refl, sym, ap, subst, ◌∙◌, ⊎_elim, arith, append-nil}
use Rattle.std.proofs.lemmas.Bool.{true≢false, and_parts}
use Rattle.std.specs.Io.KnownBytes.{Appends, Consumes, IsAtEnd}
use Rattle.dbn_model.specs.Causes.{Rose}
use Rattle.dbn_model.specs.Lines.{Line, due_lines}
use Rattle.dbn_model.specs.Runs.{text_of, replies, answered, IsSilentWhereBlank}
use Rattle.dbn_model.proofs.RunLaws.{answered-blank}
use Rattle.dbn_disk.specs.Disk.{DiskState}
use Rattle.dbn_io.specs.declared.limits.Limits.{Limits}
use Rattle.dbn_keeper.specs.Creating.{is_made}
use Rattle.dbn_keeper.specs.Files.{Store, Folder, folder}
use Rattle.dbn_keeper.specs.Files.Folder.{NotMade, NotAStore, Holds}
use Rattle.dbn_keeper.specs.Keeping.{KeeperState, SameFiles, Keeps as KeepsBounds}
use Rattle.dbn_model.specs.Content.{SameTold}
use Rattle.dbn_twofile.specs.Resting.{IsStable}
use Rattle.dbn_store.specs.States.{Situation, RunState, run_state}
use Rattle.dbn_store.specs.Folders.{meaning}
use Rattle.dbn_engine.specs.Steps.{Terms, step, text_at}
use Rattle.dbn_engine.specs.Serving.{engine_state}
use Rattle.dbn_engine.specs.AllLines.{Serves}
use Rattle.dbn_engine.specs.AllLines as lines
use Rattle.dbn_engine.specs.declared.run_end.RunEnd.{RunEnd}
use Rattle.dbn_engine.specs.declared.run_end.RunEnd.TheVariants as end
use Rattle.dbn_top.specs.declared.verb.Verb.{Verb}
use Rattle.dbn_top.specs.declared.verb.Verb.TheVariants.{Check, Try, New, Run, Dump, Demo}
use Rattle.dbn_top.specs.declared.status.Status.{Status}
use Rattle.dbn_top.specs.declared.status.Status.TheVariants as status
use Rattle.dbn_top.specs.declared.opening.OpenFault.{OpenFault}
use Rattle.dbn_top.specs.declared.opening.OpenFault.TheVariants as fault
use Rattle.dbn_top.specs.Calls.{Stream, Device, Call, Given, Uses, IsUntouched, IsIdle, IsSettled, device, call_of}
use Rattle.dbn_top.specs.Crashes.{StandsAfter, StandsFront, RunLeaves, IsNew, CrashOf, Spares, Stays, IsKept, is_store}
use Rattle.dbn_top.specs.Due.{declared, with_store, replies as replies_due, uses_of, reached, answers_from}
use Rattle.dbn_top.specs.Endings.{can_end, BreaksOff, Touches, TouchesDisks, Keeps, KeepsDisks, Ends, TakesFew, both_told, both_honest}
use Rattle.dbn_top.specs.Keepers.{IsOver, ShowsAll, IsWhy, status_of_end}
use Rattle.dbn_top.specs.Starts.{Found, found, found_in, run_in, is_there, accepted_in, terms_of}
use Rattle.dbn_top.specs.Starts.Found.{NoFile, NoStore, Damage, Runs}
use Rattle.dbn_top.specs.Writing.{Writes, due as due_record}
use Rattle.dbn_top.proofs.GroupLaws.{behind_groups}
use Rattle.dbn_top.proofs.Keepers.{both_known, store_in, meaning_of}
use Rattle.dbn_top.proofs.Runs.{stands_after, is_done}
use Rattle.dbn_top.proofs.Saying.{said_nothing}

-- ---- nothing was done

pub idle : (disk : DiskState) → IsIdle (device disk disk)
idle disk = record { content = refl; honest = refl; faults = refl; still = record { clock = refl; image = λ c x. x; image_back = λ c x. x; since = λ t c x. x; since_back = λ t c x. x } }

pub idle_disks : (uses : Uses) (ended : Status) (a b : DiskState) → ended ≢ status.DiskFault → TouchesDisks uses ended (device a a) (device b b)
idle_disks uses ended a b never = record { a_idle = λ e. idle a; b_idle = λ e. idle b; fault = λ e. absurd (never e) }

pub same_files : (a b : DiskState) → Stays (device a a) (device b b)
same_files a b = record { first = refl; second = refl; image = λ honest u v a_image b_image. (u, v, a_image, b_image, refl) }

pub kept_same : (disk : DiskState) → IsKept (device disk disk)
kept_same disk = record { content = refl; image = λ honest bytes x. x }

pub idle_spares : (ended : Status) (call : Call) (a b : DiskState) (given : Given) → ended ≢ status.DiskFault → Spares ended call (device a a) (device b b) given
idle_spares ended call a b given never = record { order = idle_disks _ ended a b never; stays = λ e. same_files a b; bytes = λ e. (kept_same a, kept_same b) }

pub idle_keeps : (ended : Status) (a b : DiskState) → KeepsDisks ended (device a a) (device b b)
idle_keeps ended a b = record { calm = λ e. (refl, refl); later = (omega arith, omega arith); told = refl; honest = refl }

nothing : (old new : Option (List ℕ)) → new ≡ old → Appends old new []
nothing None new e = tt
nothing (Some bytes) new e = subst (λ (o : Option (List ℕ)). Appends (Some bytes) o []) (sym e) (sym (append-nil bytes))

none_taken : (old new : Option (List ℕ)) → new ≡ old → Consumes old new []
none_taken None new e = tt
none_taken (Some bytes) new e = subst (λ (o : Option (List ℕ)). Consumes (Some bytes) o []) (sym e) refl

pub few_of_none : (most : ℕ) (source : Stream) → IsUntouched source → TakesFew most source
few_of_none most source same = record { taken = []; consumed = none_taken source.bytes source.bytes_after same.0; few = omega arith }

-- memory was wanting before anything was done
pub ends_wanting : (call : Call) (given : Given) → IsUntouched call.net → IsUntouched call.commands → call.out.bytes_after ≡ call.out.bytes → Ends status.Memory call given
ends_wanting call given net commands out = record {
  writes = said_nothing status.Memory (declared call.limits call.verb given) call.out out refl;
  served = λ answers e. record { read = λ x. cc; disk = λ x. cc };
  read = λ x. cc;
  order = record { net = λ _. net; commands = λ _. commands; read_fault = λ x. cc; write_fault = λ x. cc };
}

-- ---- what stands where nothing was written to the disks

-- files that stand for the start of a run, of which nothing was answered
pub at_start : (ended : Status) (terms : Terms) (r : RunState) (due : List Line) (x y : List ℕ) → IsSilentWhereBlank (step terms) → ((j : ℕ) → StandsAfter ended j j) → meaning (folder x y) ≡ Some r.now → StandsFront ended terms r due [] x y
at_start ended terms r due x y silent stays is = record {
  n = answered (replies (step terms) r due) 0;
  after = stays (answered (replies (step terms) r due) 0);
  stands = behind_groups terms r (take (answered (replies (step terms) r due) 0) due) (folder x y) (is ∙ ap (λ (s : RunState). Some s.now) (sym (answered-blank (step terms) r due silent)));
}

-- files that stay, on settled disks
module _ (a b a' b' : DiskState) (x y : List ℕ) (a_told : a.content ≡ Some x) (b_told : b.content ≡ Some y) (a_settled : IsSettled a) (b_settled : IsSettled b) (stays : Stays (device a a') (device b b')) where
  honest : IsTrue (both_honest a b)
  honest = ap (λ (t : Bool). t && b.honest) a_settled.honest ∙ b_settled.honest

  pub same_folder : (u v : List ℕ) → a'.image u → b'.image v → folder u v ≡ folder x y
  same_folder u v a_image b_image =
      let there = stays.image honest u v a_image b_image in
      sym there.4 ∙ ap (λ (z : List ℕ). folder z there.1) (a_settled.only x a_told there.0 there.2) ∙ ap (folder x) (b_settled.only y b_told there.1 there.3)

  pub stays_prefix : (ended : Status) (limits : Limits) (every : Option ℕ) (r : RunState) (due : List Line) (out : Stream) → found limits x y ≡ Runs r → out.bytes_after ≡ out.bytes
      → IsSilentWhereBlank (step (terms_of limits every)) → ((j : ℕ) → StandsAfter ended j j) → ended ≢ status.Done → RunLeaves ended limits (terms_of limits every) r due out (device a a') (device b b')
  stays_prefix ended limits every r due out begun same silent after done = (
    record {
      written = [];
      wrote = nothing out.bytes out.bytes_after same;
      each = λ u v a_image b_image. at_start ended (terms_of limits every) r due u v silent after (ap meaning (same_folder u v a_image b_image) ∙ meaning_of limits.file_bytes (folder x y) r begun);
    },
    λ e. absurd (done e),
  )

not_made : (f : Folder) → is_made f ≡ false → f ≡ NotMade
not_made NotMade e = refl
not_made NotAStore e = cc
not_made (Holds store) e = cc

pub nothing_new : (ended : Status) (s : Situation) (a b a' b' : DiskState) (x y : List ℕ) → a.content ≡ Some x → b.content ≡ Some y → IsSettled a → IsSettled b → Stays (device a a') (device b b') → is_made (folder x y) ≡ false → ended ≢ status.Done
    → IsNew ended s (device a a') (device b b')
nothing_new ended s a b a' b' x y a_told b_told a_settled b_settled stays none done = record {
  each = λ u v a_image b_image. inl (same_folder a b a' b' x y a_told b_told a_settled b_settled stays u v a_image b_image ∙ not_made (folder x y) none);
  done = λ e. absurd (done e);
}

memory_after : (j : ℕ) → StandsAfter status.Memory j j
memory_after j = inl refl

-- memory was wanting before anything was done
pub crash_wanting : (verb : Option Verb) (call : Call) (a b : DiskState) (given : Given) → call.out.bytes_after ≡ call.out.bytes → ((terms : Terms) → IsSilentWhereBlank (step terms)) → (IsTrue (reached call.limits verb given).disks → a.content ≡ Some given.a) → (IsTrue (reached call.limits verb given).disks → b.content ≡ Some given.b)
    → IsSettled a → IsSettled b → CrashOf status.Memory verb call (device a a) (device b b) given
crash_wanting None call a b given quiet silent a_told b_told a_settled b_settled = tt
crash_wanting (Some Check) call a b given quiet silent a_told b_told a_settled b_settled = tt
crash_wanting (Some Try) call a b given quiet silent a_told b_told a_settled b_settled = tt
crash_wanting (Some New) call a b given quiet silent a_told b_told a_settled b_settled = λ s accepted none.
    let there : IsTrue (is_there (accepted_in call.limits given.net)) = ap (λ (o : Option Situation). is_there o) accepted in
    nothing_new status.Memory s a b a b given.a given.b (a_told there) (b_told there) a_settled b_settled (same_files a b) none (λ e. cc)
crash_wanting (Some (Run every)) call a b given quiet silent a_told b_told a_settled b_settled = λ r begun.
    stays_prefix a b a b given.a given.b (a_told refl) (b_told refl) a_settled b_settled (same_files a b) status.Memory call.limits every r (due_lines call.limits.input_bytes given.commands) call.out begun quiet
    (silent (terms_of call.limits every)) memory_after (λ e. cc)
crash_wanting (Some Dump) call a b given quiet silent a_told b_told a_settled b_settled = tt
crash_wanting (Some (Demo size)) call a b given quiet silent a_told b_told a_settled b_settled = tt

-- ---- a run that was served

honest_both : (a b : DiskState) → IsSettled a → IsSettled b → both_honest a b ≡ true
honest_both a b a_settled b_settled = ap (λ (t : Bool). t && b.honest) a_settled.honest ∙ b_settled.honest

told_both : (a b : DiskState) (x y : List ℕ) → a.content ≡ Some x → b.content ≡ Some y → both_told a b ≡ true
told_both a b x y a_told b_told = ap (λ (o : Option (List ℕ)). is_some o && is_some b.content) a_told ∙ ap (λ (o : Option (List ℕ)). is_some (Some x) && is_some o) b_told

whole_done : (ended : RunEnd) → ended ≡ end.Done → (lines.is_whole ended ≡ true) × (lines.is_between ended ≡ true)
whole_done ended e = (ap lines.is_whole e, ap lines.is_between e)

module _ (ended : RunEnd) (limits : Limits) (every : Option ℕ) (given : Given) (now now' : Situation) (old new : KeeperState) (left left_after : Option (List ℕ)) (out : Stream) (a b a' b' : DiskState)
    (begun : found limits given.a given.b ≡ Runs (run_state now old)) (over : IsOver old a b) (over' : IsOver new a' b') (all : ShowsAll new a' b') (store : is_store (folder given.a given.b) ≡ true) (bounds : KeepsBounds old new) (capped : old.cap ≡ Some limits.file_bytes)
    (serves : Serves ended limits.input_bytes given.commands (engine_state true (terms_of limits every) now old) (engine_state true (terms_of limits every) now' new) left left_after out.bytes out.bytes_after)
    (begins : lines.is_between ended ≡ true → (f : Folder) (cap : ℕ) → new.held ≡ Some f → new.cap ≡ Some cap → found_in cap f ≡ Runs (run_state now' new))
    (settled : lines.is_between ended ≡ true → IsStable a' × IsStable b')
    (a_told : a.content ≡ Some given.a) (b_told : b.content ≡ Some given.b) (a_settled : IsSettled a) (b_settled : IsSettled b) where
  abbrev pub due : List Line
  due = due_lines limits.input_bytes given.commands

  abbrev holds : (s : Store) × (folder given.a given.b ≡ Holds s)
  holds = store_in (folder given.a given.b) store

  abbrev held : old.held ≡ Some (Holds holds.0)
  held = over.held given.a given.b a_told b_told ∙ ap Some holds.1

  abbrev honest_old : IsTrue old.honest
  honest_old = over.honest ∙ honest_both a b a_settled b_settled

  abbrev honest_new : both_honest a' b' ≡ true
  honest_new = sym over'.honest ∙ bounds.honest ∙ honest_old

  abbrev known : (u : List ℕ) × (v : List ℕ) × (a'.content ≡ Some u) × (b'.content ≡ Some v)
  known = both_known new a' b' over' (bounds.told ∙ over.told ∙ told_both a b given.a given.b a_told b_told)

  first_leaves : RunLeaves (status_of_end ended) limits (terms_of limits every) (run_state now old) due out (device a a') (device b b')
  first_leaves = (
    record {
      written = serves.written;
      wrote = serves.wrote;
      each = λ u v a_image b_image.
          let there = serves.stands holds.0 held honest_old (folder u v) (all u v a_image b_image) in
          record { n = there.0; after = stands_after ended _ there.0 there.1; stands = behind_groups (terms_of limits every) (run_state now old) (take there.0 due) (folder u v) there.2 };
    },
    λ e.
        let done = whole_done ended (is_done ended e) in
        let rest = settled done.1 in
        let fair = and_parts a'.honest b'.honest honest_new in
        record {
          x = known.0;
          y = known.1;
          a_held = known.2;
          b_held = known.3;
          a_settled = rest.0 known.0 known.2 fair.0;
          b_settled = rest.1 known.1 known.3 fair.1;
          stands = begins done.1 (folder known.0 known.1) limits.file_bytes (over'.held known.0 known.1 known.2 known.3) (bounds.cap ∙ capped) ∙ ap Runs (serves.run done.0);
        },
  )

  same_run : (r s : RunState) → Runs r ≡ Runs s → r ≡ s
  same_run r s e = cc

  pub run_crash : (r : RunState) → found limits given.a given.b ≡ Runs r → RunLeaves (status_of_end ended) limits (terms_of limits every) r due out (device a a') (device b b')
  run_crash r is = subst (λ (s : RunState). RunLeaves (status_of_end ended) limits (terms_of limits every) s due out (device a a') (device b b')) (same_run (run_state now old) r (sym begun ∙ is)) first_leaves

-- ---- files that begin no run

quiet_why : (why : OpenFault) (r : RunState) → IsWhy why (Runs r) → (why ≡ fault.Failed) ⊎ (why ≡ fault.Memory)
quiet_why fault.NotMade r e = cc
quiet_why fault.NotAStore r e = cc
quiet_why (fault.Damaged place) r e = cc
quiet_why fault.Failed r e = inl refl
quiet_why fault.Memory r e = inr refl

runs_of : (begun : Found) (r : RunState) → run_in begun ≡ Some r → begun ≡ Runs r
runs_of NoFile r e = cc
runs_of NoStore r e = cc
runs_of (Damage place) r e = cc
runs_of (Runs s) r e = cc

quiet_after : (ended : Status) → (ended ≡ status.DiskFault) ⊎ (ended ≡ status.Memory) → (j : ℕ) → StandsAfter ended j j
quiet_after ended (inl e) j = subst (λ (s : Status). StandsAfter s j j) (sym e) (inl refl)
quiet_after ended (inr e) j = subst (λ (s : Status). StandsAfter s j j) (sym e) (inl refl)

from_answers : (limits : Limits) (every : Option ℕ) (o : Option RunState) (answers : List Line → List ℕ) → answers_from limits every o ≡ Some answers → ((r : RunState) × (o ≡ Some r) × (text_of (step (terms_of limits every)) r ≡ answers))
from_answers limits every None answers e = cc
from_answers limits every (Some r) answers e = (r, refl, same answers e)
  where
    same : (answers : List Line → List ℕ) → Some (text_of (step (terms_of limits every)) r) ≡ Some answers → text_of (step (terms_of limits every)) r ≡ answers
    same answers e = cc

module _ (ended : Status) (why : OpenFault) (limits : Limits) (every : Option ℕ) (net commands out : Stream) (given : Given)
    (is : IsWhy why (found limits given.a given.b))
    (failed : why ≡ fault.Failed → (ended ≡ status.DiskFault) × (out.bytes_after ≡ out.bytes)) (wanting : why ≡ fault.Memory → (ended ≡ status.Memory) × (out.bytes_after ≡ out.bytes)) where
  quiet_out : (r : RunState) → found limits given.a given.b ≡ Runs r → ((ended ≡ status.DiskFault) ⊎ (ended ≡ status.Memory)) × (out.bytes_after ≡ out.bytes)
  quiet_out r begun = ⊎_elim (λ e. (inl (failed e).0, (failed e).1)) (λ e. (inr (wanting e).0, (wanting e).1)) (quiet_why why r (subst (IsWhy why) begun is))

  pub refused_ends : Writes ended (with_store (found limits given.a given.b) (replies_due limits every given.commands)) out → ended ≢ status.Done → ended ≢ status.ReadFault → (ended ≡ status.WriteFault → Rose out.faults out.faults_after)
      → IsUntouched net → IsUntouched commands → Ends ended (call_of (Some (Run every)) limits net commands out) given
  refused_ends writes done read write same_net same = record {
    writes = writes;
    served = λ answers e.
        let from = from_answers limits every (run_in (found limits given.a given.b)) answers e in
        record {
          read = λ x. absurd (read x);
          disk = λ x. (0, subst (λ (answers : List Line → List ℕ). Appends out.bytes out.bytes_after (answers [])) from.2 (nothing out.bytes out.bytes_after (quiet_out from.0 (runs_of (found limits given.a given.b) from.0 from.1)).1));
        };
    read = λ x. absurd (done x);
    order = record { net = λ _. same_net; commands = λ _. same; read_fault = λ x. absurd (read x); write_fault = write };
  }

  pub refused_crash : (a b a' b' : DiskState) → Stays (device a a') (device b b') → a.content ≡ Some given.a → b.content ≡ Some given.b → IsSettled a → IsSettled b → ended ≢ status.Done → IsSilentWhereBlank (step (terms_of limits every))
      → (r : RunState) → found limits given.a given.b ≡ Runs r → RunLeaves ended limits (terms_of limits every) r (due_lines limits.input_bytes given.commands) out (device a a') (device b b')
  refused_crash a b a' b' stays a_told b_told a_settled b_settled done silent r begun =
      let quiet = quiet_out r begun in
      stays_prefix a b a' b' given.a given.b a_told b_told a_settled b_settled stays ended limits every r (due_lines limits.input_bytes given.commands) out begun quiet.1 silent (quiet_after ended quiet.0) done

-- ---- a run over a store

same_run_of : (r s : RunState) → Some r ≡ Some s → r ≡ s
same_run_of r s e = cc

pub run_ends : (ended : Status) (limits : Limits) (every : Option ℕ) (net commands out : Stream) (given : Given) (r : RunState)
    → found limits given.a given.b ≡ Runs r → Writes ended (replies_due limits every given.commands r) out → BreaksOff ended (due_lines limits.input_bytes given.commands) commands out (text_of (step (terms_of limits every)) r) → (ended ≡ status.Done → IsAtEnd commands.bytes_after)
    → (ended ≡ status.ReadFault → Rose commands.faults commands.faults_after) → (ended ≡ status.WriteFault → Rose out.faults out.faults_after) → IsUntouched net
    → Ends ended (call_of (Some (Run every)) limits net commands out) given
run_ends ended limits every net commands out given r begun writes breaks end read write same = record {
  writes = subst (λ (f : Found). Writes ended (with_store f (replies_due limits every given.commands)) out) (sym begun) writes;
  served = λ answers e. subst (BreaksOff ended (due_lines limits.input_bytes given.commands) commands out)
      (some_answers _ _ (ap (λ (f : Found). answers_from limits every (run_in f)) (sym begun) ∙ e)) breaks;
  read = λ e. record { net = λ none. absurd (true≢false (sym none)); commands = λ _. end e };
  order = record {
    net = λ _. same;
    commands = λ none. absurd (true≢false (sym (ap (λ (f : Found). is_there (run_in f)) begun) ∙ none));
    read_fault = λ e. inr (ap (λ (f : Found). is_there (run_in f)) begun, read e);
    write_fault = write;
  };
}
  where
    some_answers : (p q : List Line → List ℕ) → Some p ≡ Some q → p ≡ q
    some_answers p q e = cc

pub run_kind : (every : Option ℕ) (ended : Status) → ended ≢ status.Usage → ended ≢ status.Net → IsTrue (can_end (Some (Run every)) ended)
run_kind every status.Done usage net = refl
run_kind every status.Usage usage net = absurd (usage refl)
run_kind every status.Net usage net = absurd (net refl)
run_kind every status.Store usage net = refl
run_kind every status.ReadFault usage net = refl
run_kind every status.WriteFault usage net = refl
run_kind every status.DiskFault usage net = refl
run_kind every status.InputLimit usage net = refl
run_kind every status.Memory usage net = refl

-- ---- completeness

-- where nothing failed, a call ends as it is declared to end, or for want of memory
pub complete : (ended : Status) (call : Call) (given : Given) → Ends ended call given → Touches (uses_of call.verb) ended call
    → (Rose call.net.faults call.net.faults_after → ⊥) → (Rose call.commands.faults call.commands.faults_after → ⊥) → (Rose call.out.faults call.out.faults_after → ⊥)
    → ended ≢ status.DiskFault → (ended ≡ (declared call.limits call.verb given).status) ⊎ (ended ≡ status.Memory)
complete status.Done call given ends touches net commands out disks = inl (ends.writes.whole refl).0
complete status.Usage call given ends touches net commands out disks = inl (ends.writes.whole refl).0
complete status.Net call given ends touches net commands out disks = inl (ends.writes.whole refl).0
complete status.Store call given ends touches net commands out disks = inl (ends.writes.whole refl).0
complete status.ReadFault call given ends touches net commands out disks = ⊎_elim (λ e. absurd (net e.1)) (λ e. absurd (commands e.1)) (touches.read_fault refl)
complete status.WriteFault call given ends touches net commands out disks = absurd (out (touches.write_fault refl))
complete status.DiskFault call given ends touches net commands out disks = absurd (disks refl)
complete status.InputLimit call given ends touches net commands out disks = inl (ends.writes.whole refl).0
complete status.Memory call given ends touches net commands out disks = inr refl

-- ---- what is kept byte by byte stays

and_true : (p q : Bool) → (p && q) ≡ true → (p ≡ true) × (q ≡ true)
and_true true true e = (refl, refl)
and_true true false e = cc
and_true false q e = cc

pub kept_stays : (a b a' b' : DiskState) → IsKept (device a a') → IsKept (device b b') → Stays (device a a') (device b b')
kept_stays a b a' b' first second = record {
  first = first.content;
  second = second.content;
  image = λ honest u v a_image b_image. let fair = and_true a.honest b.honest honest in (u, v, first.image fair.0 u a_image, second.image fair.1 v b_image, refl);
}

-- `new` is due to write nothing to the disks where a file is open
pub made_of_spared : (there made : Bool) → there ≡ true → (there && not made) ≡ false → made ≡ true
made_of_spared true true e x = refl
made_of_spared true false e x = absurd (true≢false x)
made_of_spared false made e x = absurd (true≢false (sym e))

pub made_of_kept : (there made : Bool) → there ≡ true → (not there || made) ≡ true → made ≡ true
made_of_kept true true e x = refl
made_of_kept true false e x = x
made_of_kept false made e x = absurd (true≢false (sym e))

-- ---- what begins a run, and what does not

pub not_store : (b : Bool) → not b ≡ true → b ≡ false
not_store true e = cc
not_store false e = refl

pub same_self : (keeper : KeeperState) → KeepsBounds keeper keeper
same_self keeper = record { told = refl; honest = refl; cap = refl; last = refl }

pub files_self : (keeper : KeeperState) → SameFiles keeper keeper
files_self keeper = record { held = refl; bytes = refl; moment = λ honest. refl; image = λ honest f image. image; since = λ honest t f since. since; steady = λ honest t steady. steady }

pub runs_there : (begun : Found) (r : RunState) → begun ≡ Runs r → is_there (run_in begun) ≡ true
runs_there begun r e = ap (λ (f : Found). is_there (run_in f)) e

pub not_after : (ended other : Status) → (ended ≡ status.Done) ⊎ (ended ≡ status.WriteFault) ⊎ (ended ≡ status.Memory) → other ≢ status.Done → other ≢ status.WriteFault → other ≢ status.Memory → ended ≢ other
not_after ended other (inl e) done write memory is = done (sym is ∙ e)
not_after ended other (inr (inl e)) done write memory is = write (sym is ∙ e)
not_after ended other (inr (inr e)) done write memory is = memory (sym is ∙ e)

-- a last line was said: no source and no disk failed
pub said_never : (ended : Status) → (ended ≡ status.Done) ⊎ (ended ≡ status.WriteFault) ⊎ (ended ≡ status.Memory) → (ended ≢ status.ReadFault) × (ended ≢ status.DiskFault)
said_never ended which = (not_after ended status.ReadFault which (λ e. cc) (λ e. cc) (λ e. cc), not_after ended status.DiskFault which (λ e. cc) (λ e. cc) (λ e. cc))

no_answers : (answers : List Line → List ℕ) → None ≡ Some answers → ⊥
no_answers answers e = cc

pub dump_ends : (ended : Status) (limits : Limits) (net commands out : Stream) (given : Given) → Writes ended (with_store (found limits given.a given.b) (λ r. due_record status.Done (text_at r.now))) out
    → ended ≢ status.ReadFault → (ended ≡ status.WriteFault → Rose out.faults out.faults_after) → IsUntouched net → IsUntouched commands → Ends ended (call_of (Some Dump) limits net commands out) given
dump_ends ended limits net commands out given writes read write same same_too = record {
  writes = writes;
  served = λ answers e. absurd (no_answers answers e);
  read = λ e. record { net = λ none. absurd (true≢false (sym none)); commands = λ none. absurd (true≢false (sym none)) };
  order = record { net = λ _. same; commands = λ _. same_too; read_fault = λ e. absurd (read e); write_fault = write };
}

pub dump_touches : (ended : Status) (limits : Limits) (net commands out : Stream) → ended ≢ status.ReadFault → (ended ≡ status.WriteFault → Rose out.faults out.faults_after) → IsUntouched net → IsUntouched commands
    → Touches (uses_of (Some Dump)) ended (call_of (Some Dump) limits net commands out)
dump_touches ended limits net commands out read write same same_too = record { net = λ _. same; commands = λ _. same_too; read_fault = λ e. absurd (read e); write_fault = write }

pub dump_keeps : (ended : Status) (limits : Limits) (net commands out : Stream) → (ended ≢ status.WriteFault → out.faults_after ≡ out.faults) → SameTold out.bytes out.bytes_after → out.faults ≤ out.faults_after → IsUntouched net → IsUntouched commands
    → Keeps ended (call_of (Some Dump) limits net commands out)
dump_keeps ended limits net commands out sink told later same same_too = record {
  sources = λ never. (same.1, same_too.1);
  sink = sink;
  told = (ap (λ (o : Option (List ℕ)). is_some o) same.0, ap (λ (o : Option (List ℕ)). is_some o) same_too.0, told);
  later = (omega (arith, same.1), omega (arith, same_too.1), later);
  few = (few_of_none limits.net_bytes net same, few_of_none limits.input_bytes commands same_too);
}

pub dump_disks : (ended : Status) (a b : Device) → ended ≢ status.DiskFault → TouchesDisks (uses_of (Some Dump)) ended a b
dump_disks ended a b never = record { a_idle = λ none. absurd (true≢false none); b_idle = λ none. absurd (true≢false none); fault = λ e. absurd (never e) }

pub run_touches : (ended : Status) (limits : Limits) (every : Option ℕ) (net commands out : Stream) → (ended ≡ status.ReadFault → Rose commands.faults commands.faults_after) → (ended ≡ status.WriteFault → Rose out.faults out.faults_after) → IsUntouched net
    → Touches (uses_of (Some (Run every))) ended (call_of (Some (Run every)) limits net commands out)
run_touches ended limits every net commands out read write same = record { net = λ _. same; commands = λ none. absurd (true≢false none); read_fault = λ e. inr (refl, read e); write_fault = write }

pub run_disks : (ended : Status) (every : Option ℕ) (a b : Device) → (ended ≡ status.DiskFault → Rose a.before.faults a.after.faults ⊎ Rose b.before.faults b.after.faults) → TouchesDisks (uses_of (Some (Run every))) ended a b
run_disks ended every a b rose = record { a_idle = λ none. absurd (true≢false none); b_idle = λ none. absurd (true≢false none); fault = λ e. (refl, rose e) }

pub run_keeps : (ended : Status) (limits : Limits) (every : Option ℕ) (net commands out : Stream) → (ended ≢ status.ReadFault → commands.faults_after ≡ commands.faults) → (ended ≢ status.WriteFault → out.faults_after ≡ out.faults)
    → SameTold commands.bytes commands.bytes_after × SameTold out.bytes out.bytes_after → (commands.faults ≤ commands.faults_after) × (out.faults ≤ out.faults_after) → TakesFew limits.input_bytes commands → IsUntouched net
    → Keeps ended (call_of (Some (Run every)) limits net commands out)
run_keeps ended limits every net commands out source sink told later few same = record {
  sources = λ never. (same.1, source never);
  sink = sink;
  told = (ap (λ (o : Option (List ℕ)). is_some o) same.0, told.0, told.1);
  later = (omega (arith, same.1), later.0, later.1);
  few = (few_of_none limits.net_bytes net same, few);
}
