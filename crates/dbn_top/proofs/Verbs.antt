-- The verbs that read a net: how a call ends whose net is accepted, and one whose net is not.
use Rattle.std.proofs.Common.{◌≡◌, ◌≢◌, ◌⊎◌, ℕ, ◌≤◌, nat_lt, Bool, true, false, cond, List, [], length, take, Option, None, Some, is_some, Result, Ok, Err, IsTrue, inl, inr, refl, sym, ap, subst, ◌∙◌, arith, append-nil}
use Rattle.std.specs.Prelude.{codes}
use Rattle.std.proofs.lemmas.Bool.{true≢false}
use Rattle.std.specs.Io.KnownBytes.{Appends, Consumes, IsAtEnd}
use Rattle.dbn_model.specs.Causes.{Rose}
use Rattle.dbn_model.specs.Content.{SameTold}
use Rattle.dbn_model.specs.Lines.{Line, due_lines, whole_lines}
use Rattle.dbn_model.specs.Runs.{text_of}
use Rattle.dbn_io.specs.declared.limits.Limits.{Limits}
use Rattle.dbn_net.specs.declared.fault.NetKind.{NetKind}
use Rattle.dbn_net.specs.Texts.{Start, Fault, reads}
use Rattle.dbn_store.specs.States.{Situation}
use Rattle.dbn_engine.specs.Steps.{step}
use Rattle.dbn_top.specs.declared.verb.Verb.{Verb}
use Rattle.dbn_top.specs.declared.verb.Verb.TheVariants.{Check, Try, New}
use Rattle.dbn_top.specs.declared.status.Status.{Status}
use Rattle.dbn_top.specs.declared.status.Status.TheVariants as status
use Rattle.dbn_top.specs.Calls.{Stream, Given, IsUntouched, stream, call_of}
use Rattle.dbn_top.specs.Due.{with_net, net_line, replies, making, answers_from, memory_run, uses_of}
use Rattle.dbn_top.specs.Endings.{BreaksOff, Ends, Touches, Keeps, TakesFew, can_end}
use Rattle.dbn_top.specs.Starts.{by_reading, accepted_in, run_in_memory, terms_of, is_there}
use Rattle.dbn_top.specs.Writing.{Declared, due, Writes}
use Rattle.dbn_top.proofs.Tops.{few_of_none}

pub same_situation : (s t : Situation) → Some s ≡ Some t → s ≡ t
same_situation s t e = cc

-- what is due for an accepted net
accepted_reading : (over : Bool) (read : Result Start Fault) (s : Situation) (then : Situation → Declared) (first : Declared) (faulty : ℕ → NetKind → Declared)
    → cond over None (by_reading (λ line kind. None) (λ s. Some s) read) ≡ Some s → cond over first (by_reading faulty then read) ≡ then s
accepted_reading true read s then first faulty e = cc
accepted_reading false (Ok start) s then first faulty e = ap then (same_situation _ s e)
accepted_reading false (Err fault) s then first faulty e = cc

pub accepted_due : (limits : Limits) (net : List ℕ) (s : Situation) (then : Situation → Declared) → accepted_in limits net ≡ Some s → with_net limits net then ≡ then s
accepted_due limits net s then e = accepted_reading (nat_lt limits.net_bytes (length net)) (reads net) s then (due status.InputLimit []) (λ line kind. due status.Net (net_line line kind)) e

there : (limits : Limits) (net : List ℕ) (s : Situation) → accepted_in limits net ≡ Some s → is_there (accepted_in limits net) ≡ true
there limits net s e = ap (λ (o : Option Situation). is_there o) e

no_answers : (answers : List Line → List ℕ) → None ≡ Some answers → ⊥
no_answers answers e = cc

nothing : (old new : Option (List ℕ)) → new ≡ old → Appends old new []
nothing None new e = tt
nothing (Some bytes) new e = subst (λ (o : Option (List ℕ)). Appends (Some bytes) o []) (sym e) (sym (append-nil bytes))

none_taken : (old new : Option (List ℕ)) → new ≡ old → Consumes old new []
none_taken None new e = tt
none_taken (Some bytes) new e = subst (λ (o : Option (List ℕ)). Consumes (Some bytes) o []) (sym e) refl

from_memory : (limits : Limits) (text : List ℕ) (o : Option Situation) (answers : List Line → List ℕ) → answers_from limits None (memory_run text o) ≡ Some answers
    → ((s : Situation) × (o ≡ Some s) × (text_of (step (terms_of limits None)) (run_in_memory text s) ≡ answers))
from_memory limits text None answers e = cc
from_memory limits text (Some s) answers e = (s, refl, same answers e)
  where
    same : (answers : List Line → List ℕ) → Some (text_of (step (terms_of limits None)) (run_in_memory text s)) ≡ Some answers → text_of (step (terms_of limits None)) (run_in_memory text s) ≡ answers
    same answers e = cc

-- ---- an accepted net

module _ (ended : Status) (limits : Limits) (net commands out : Stream) (given : Given) (s : Situation) (accepted : accepted_in limits given.net ≡ Some s) (end : IsAtEnd net.bytes_after) (write : ended ≡ status.WriteFault → Rose out.faults out.faults_after) where
  pub check_ends : Writes ended (due status.Done (codes "accepted\n")) out → ended ≢ status.ReadFault → IsUntouched commands → Ends ended (call_of (Some Check) limits net commands out) given
  check_ends writes never same = record {
    writes = subst (λ (d : Declared). Writes ended d out) (sym (accepted_due limits given.net s (λ s. due status.Done (codes "accepted\n")) accepted)) writes;
    served = λ answers e. absurd (no_answers answers e);
    read = λ e. record { net = λ _. end; commands = λ none. absurd (true≢false (sym none)) };
    order = record { net = λ none. absurd (true≢false none); commands = λ _. same; read_fault = λ e. absurd (never e); write_fault = write };
  }

  pub new_ends : Writes ended (making limits given.a given.b s) out → ended ≢ status.ReadFault → IsUntouched commands → Ends ended (call_of (Some New) limits net commands out) given
  new_ends writes never same = record {
    writes = subst (λ (d : Declared). Writes ended d out) (sym (accepted_due limits given.net s (making limits given.a given.b) accepted)) writes;
    served = λ answers e. absurd (no_answers answers e);
    read = λ e. record { net = λ _. end; commands = λ none. absurd (true≢false (sym none)) };
    order = record { net = λ none. absurd (true≢false none); commands = λ _. same; read_fault = λ e. absurd (never e); write_fault = write };
  }

  pub try_ends : Writes ended (replies limits None given.commands (run_in_memory given.net s)) out
      → BreaksOff ended (due_lines limits.input_bytes given.commands) commands out (text_of (step (terms_of limits None)) (run_in_memory given.net s))
      → (ended ≡ status.Done → IsAtEnd commands.bytes_after) → (ended ≡ status.ReadFault → Rose commands.faults commands.faults_after) → Ends ended (call_of (Some Try) limits net commands out) given
  try_ends writes breaks end_commands read = record {
    writes = subst (λ (d : Declared). Writes ended d out) (sym (accepted_due limits given.net s (λ s. replies limits None given.commands (run_in_memory given.net s)) accepted)) writes;
    served = λ answers e.
        let from = from_memory limits given.net (accepted_in limits given.net) answers e in
        let same : from.0 ≡ s = same_situation from.0 s (sym from.1 ∙ accepted) in
        subst (BreaksOff ended (due_lines limits.input_bytes given.commands) commands out) (ap (λ (s : Situation). text_of (step (terms_of limits None)) (run_in_memory given.net s)) (sym same) ∙ from.2) breaks;
    read = λ e. record { net = λ _. end; commands = λ _. end_commands e };
    order = record {
      net = λ none. absurd (true≢false none);
      commands = λ none. absurd (true≢false (sym (there limits given.net s accepted) ∙ none));
      read_fault = λ e. inr (there limits given.net s accepted, read e);
      write_fault = write;
    };
  }

-- ---- any other net

module _ (ended : Status) (limits : Limits) (net commands out : Stream) (given : Given) (writes : (then : Situation → Declared) → Writes ended (with_net limits given.net then) out)
    (done : ended ≢ status.Done) (disk : ended ≢ status.DiskFault) (read : ended ≡ status.ReadFault → Rose net.faults net.faults_after) (write : ended ≡ status.WriteFault → Rose out.faults out.faults_after) (same : IsUntouched commands) where
  pub refused_check : Ends ended (call_of (Some Check) limits net commands out) given
  refused_check = record {
    writes = writes (λ s. due status.Done (codes "accepted\n"));
    served = λ answers e. absurd (no_answers answers e);
    read = λ e. absurd (done e);
    order = record { net = λ none. absurd (true≢false none); commands = λ _. same; read_fault = λ e. inl (refl, read e); write_fault = write };
  }

  pub refused_new : Ends ended (call_of (Some New) limits net commands out) given
  refused_new = record {
    writes = writes (making limits given.a given.b);
    served = λ answers e. absurd (no_answers answers e);
    read = λ e. absurd (done e);
    order = record { net = λ none. absurd (true≢false none); commands = λ _. same; read_fault = λ e. inl (refl, read e); write_fault = write };
  }

  pub refused_try : (ended ≡ status.ReadFault → out.bytes_after ≡ out.bytes) → Ends ended (call_of (Some Try) limits net commands out) given
  refused_try quiet = record {
    writes = writes (λ s. replies limits None given.commands (run_in_memory given.net s));
    served = λ answers e.
        let from = from_memory limits given.net (accepted_in limits given.net) answers e in
        record {
          read = λ e. ([], none_taken commands.bytes commands.bytes_after same.0, subst (λ (answers : List Line → List ℕ). Appends out.bytes out.bytes_after (answers [])) from.2 (nothing out.bytes out.bytes_after (quiet e)));
          disk = λ e. absurd (disk e);
        };
    read = λ e. absurd (done e);
    order = record { net = λ none. absurd (true≢false none); commands = λ _. same; read_fault = λ e. inl (refl, read e); write_fault = write };
  }

pub check_kind : (ended : Status) → (ended ≡ status.Done) ⊎ (ended ≡ status.WriteFault) ⊎ (ended ≡ status.Memory) → IsTrue (can_end (Some Check) ended)
check_kind ended (inl e) = subst (λ (s : Status). IsTrue (can_end (Some Check) s)) (sym e) refl
check_kind ended (inr (inl e)) = subst (λ (s : Status). IsTrue (can_end (Some Check) s)) (sym e) refl
check_kind ended (inr (inr e)) = subst (λ (s : Status). IsTrue (can_end (Some Check) s)) (sym e) refl

pub try_kind : (ended : Status) → ended ≢ status.Usage → ended ≢ status.Store → ended ≢ status.DiskFault → IsTrue (can_end (Some Try) ended)
try_kind status.Done usage store disk = refl
try_kind status.Usage usage store disk = absurd (usage refl)
try_kind status.Net usage store disk = refl
try_kind status.Store usage store disk = absurd (store refl)
try_kind status.ReadFault usage store disk = refl
try_kind status.WriteFault usage store disk = refl
try_kind status.DiskFault usage store disk = absurd (disk refl)
try_kind status.InputLimit usage store disk = refl
try_kind status.Memory usage store disk = refl

pub new_kind : (ended : Status) → ended ≢ status.Usage → IsTrue (can_end (Some New) ended)
new_kind status.Done usage = refl
new_kind status.Usage usage = absurd (usage refl)
new_kind status.Net usage = refl
new_kind status.Store usage = refl
new_kind status.ReadFault usage = refl
new_kind status.WriteFault usage = refl
new_kind status.DiskFault usage = refl
new_kind status.InputLimit usage = refl
new_kind status.Memory usage = refl

-- ---- what a call uses and keeps that read its net whole

pub net_touches : (ended : Status) (verb : Option Verb) (limits : Limits) (net commands out : Stream) → IsTrue (uses_of verb).net → ended ≢ status.ReadFault → (ended ≡ status.WriteFault → Rose out.faults out.faults_after) → IsUntouched commands
    → Touches (uses_of verb) ended (call_of verb limits net commands out)
net_touches ended verb limits net commands out used read write same = record {
  net = λ none. absurd (true≢false (sym used ∙ none));
  commands = λ _. same;
  read_fault = λ e. absurd (read e);
  write_fault = write;
}

pub net_keeps : (ended : Status) (verb : Option Verb) (limits : Limits) (net commands out : Stream) → net.faults_after ≡ net.faults → (ended ≢ status.WriteFault → out.faults_after ≡ out.faults)
    → SameTold net.bytes net.bytes_after → SameTold out.bytes out.bytes_after → out.faults ≤ out.faults_after → TakesFew limits.net_bytes net → IsUntouched commands → Keeps ended (call_of verb limits net commands out)
net_keeps ended verb limits net commands out calm sink told told_out later few same = record {
  sources = λ never. (calm, same.1);
  sink = sink;
  told = (told, ap (λ (o : Option (List ℕ)). is_some o) same.0, told_out);
  later = (omega (arith, calm), omega (arith, same.1), later);
  few = (few, few_of_none limits.input_bytes commands same);
}

-- ---- after a net was read, of which nothing was written

pub moved_writes : (ended : Status) (d : Declared) (old mid new : Option (List ℕ)) (f g : ℕ) → mid ≡ old → Writes ended d (stream mid new f g) → (f' : ℕ) → Writes ended d (stream old new f' g)
moved_writes ended d old mid new f g same w f' = record { written = w.written; rest = w.rest; wrote = subst (λ (o : Option (List ℕ)). Appends o new w.written) same w.wrote; front = w.front; whole = w.whole }

pub moved_breaks : (ended : Status) (lines : List Line) (source : Stream) (old mid new : Option (List ℕ)) (f g : ℕ) (answers : List Line → List ℕ) → mid ≡ old → BreaksOff ended lines source (stream mid new f g) answers → (f' : ℕ) → BreaksOff ended lines source (stream old new f' g) answers
moved_breaks ended lines source old mid new f g answers same b f' = record {
  read = λ e. let r = b.read e in (r.0, r.1, subst (λ (o : Option (List ℕ)). Appends o new (answers (whole_lines r.0))) same r.2);
  disk = λ e. let r = b.disk e in (r.0, subst (λ (o : Option (List ℕ)). Appends o new (answers (take r.0 lines))) same r.1);
}
