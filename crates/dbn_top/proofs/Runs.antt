-- A run as it was served, in the words of a call.
use Rattle.std.proofs.Common.{◌≡◌, ◌≢◌, ℕ, ◌+◌, ◌≤◌, nat_lt, Bool, true, false, cond, List, [], length, take, Option, None, Some, Ok, IsTrue, refl, sym, ap, subst, ◌∙◌, arith}
use Rattle.std.proofs.lemmas.Bool.{le-leb}
use Rattle.std.specs.Io.KnownBytes.{Appends}
use Rattle.dbn_model.specs.Causes.{Rose}
use Rattle.dbn_model.specs.Lines.{due_lines, whole_lines}
use Rattle.dbn_model.specs.Runs.{text_of}
use Rattle.dbn_io.specs.declared.limits.Limits.{Limits}
use Rattle.dbn_net.specs.declared.decl.Decl.{Decl}
use Rattle.dbn_net.specs.declared.snapshot.Snapshot.{Snapshot}
use Rattle.dbn_net.specs.Texts.{reads}
use Rattle.dbn_keeper.specs.declared.base.Base.{Base}
use Rattle.dbn_keeper.specs.declared.opening.Form.TheVariants.{Two}
use Rattle.dbn_keeper.specs.Files.{Store, new_store}
use Rattle.dbn_keeper.specs.Files.Folder.{Holds}
use Rattle.dbn_keeper.specs.Keeping.{KeeperState}
use Rattle.dbn_keeper.specs.Memory.{mem_state, mem_store}
use Rattle.dbn_store.specs.States.{Situation, situation, RunState, run_state}
use Rattle.dbn_store.specs.Folders.{opened, opened_from, started}
use Rattle.dbn_store.specs.Folders.Opened.{Stands}
use Rattle.dbn_engine.specs.Steps.{Terms, step}
use Rattle.dbn_engine.specs.Serving.{EngineState, engine_state, Joined}
use Rattle.dbn_engine.specs.AllLines.{Serves, MayTake, Takes, HasCountOf}
use Rattle.dbn_engine.specs.AllLines as lines
use Rattle.dbn_engine.specs.declared.run_end.RunEnd.{RunEnd}
use Rattle.dbn_engine.specs.declared.run_end.RunEnd.TheVariants as end
use Rattle.dbn_top.specs.declared.status.Status.{Status}
use Rattle.dbn_top.specs.declared.status.Status.TheVariants as status
use Rattle.dbn_top.specs.Calls.{Stream, stream}
use Rattle.dbn_top.specs.Crashes.{StandsAfter}
use Rattle.dbn_top.specs.Due.{replies}
use Rattle.dbn_top.specs.Endings.{BreaksOff, TakesFew}
use Rattle.dbn_top.specs.Keepers.{status_of_end}
use Rattle.dbn_top.specs.Starts.{terms_of, run_in_memory}
use Rattle.dbn_top.specs.Writing.{Writes, is_broken_off}

-- whether the engine is live at its end makes no difference
pub any_live : (live : Bool) (terms : Terms) (now : Situation) (keeper : KeeperState) (other : Bool) (ended : RunEnd) (most : ℕ) (all : List ℕ) (old : EngineState) (left left_after out out_after : Option (List ℕ))
    → Serves ended most all old (engine_state live terms now keeper) left left_after out out_after → Serves ended most all old (engine_state other terms now keeper) left left_after out out_after
any_live live terms now keeper other ended most all old left left_after out out_after s = record {
  written = s.written;
  rest = s.rest;
  wrote = s.wrote;
  front = s.front;
  whole = s.whole;
  read = s.read;
  disk = s.disk;
  run = s.run;
  stands = s.stands;
}

-- the same run, said of other values that are the same
pub serves_moved : {X Y : Type 0} (sit : X → Situation) (state : Y → KeeperState) (ended : RunEnd) (most : ℕ) (all : List ℕ) (live live' : Bool) (first second terms : Terms) (x x0 x' x1 : X) (y y0 y' y1 : Y) (left left_after out out_after : Option (List ℕ))
    → x ≡ x0 → y ≡ y0 → first ≡ terms → x1 ≡ x' → y1 ≡ y'
    → Serves ended most all (engine_state live first (sit x) (state y)) (engine_state live' second (sit x') (state y')) left left_after out out_after
    → Serves ended most all (engine_state true terms (sit x0) (state y0)) (engine_state true terms (sit x1) (state y1)) left left_after out out_after
serves_moved sit state ended most all live live' first second terms x x0 x' x1 y y0 y' y1 left left_after out out_after ex ey et ex' ey' s =
    let s1 = subst (λ x. Serves ended most all (engine_state live first (sit x) (state y)) (engine_state live' second (sit x') (state y')) left left_after out out_after) ex s in
    let s2 = subst (λ y. Serves ended most all (engine_state live first (sit x0) (state y)) (engine_state live' second (sit x') (state y')) left left_after out out_after) ey s1 in
    let s3 = subst (λ (t : Terms). Serves ended most all (engine_state live t (sit x0) (state y0)) (engine_state live' second (sit x') (state y')) left left_after out out_after) et s2 in
    let s4 = subst (λ x. Serves ended most all (engine_state live terms (sit x0) (state y0)) (engine_state live' second (sit x) (state y')) left left_after out out_after) (sym ex') s3 in
    let s5 = subst (λ y. Serves ended most all (engine_state live terms (sit x0) (state y0)) (engine_state live' second (sit x1) (state y)) left left_after out out_after) (sym ey') s4 in
    record { written = s5.written; rest = s5.rest; wrote = s5.wrote; front = s5.front; whole = s5.whole; read = s5.read; disk = s5.disk; run = s5.run; stands = s5.stands }

-- ---- the status of an end

due_status : (over : Bool) → status_of_end (cond over end.InputLimit end.Done) ≡ cond over status.InputLimit status.Done
due_status true = refl
due_status false = refl

is_whole : (ended : RunEnd) → is_broken_off (status_of_end ended) ≡ false → lines.is_whole ended ≡ true
is_whole end.Done e = refl
is_whole end.ReadFault e = cc
is_whole end.WriteFault e = cc
is_whole end.DiskFault e = cc
is_whole end.InputLimit e = refl
is_whole end.Memory e = cc

pub is_read : (ended : RunEnd) → status_of_end ended ≡ status.ReadFault → ended ≡ end.ReadFault
is_read end.Done e = cc
is_read end.ReadFault e = refl
is_read end.WriteFault e = cc
is_read end.DiskFault e = cc
is_read end.InputLimit e = cc
is_read end.Memory e = cc

pub is_write : (ended : RunEnd) → status_of_end ended ≡ status.WriteFault → ended ≡ end.WriteFault
is_write end.Done e = cc
is_write end.ReadFault e = cc
is_write end.WriteFault e = refl
is_write end.DiskFault e = cc
is_write end.InputLimit e = cc
is_write end.Memory e = cc

pub is_disk : (ended : RunEnd) → status_of_end ended ≡ status.DiskFault → ended ≡ end.DiskFault
is_disk end.Done e = cc
is_disk end.ReadFault e = cc
is_disk end.WriteFault e = cc
is_disk end.DiskFault e = refl
is_disk end.InputLimit e = cc
is_disk end.Memory e = cc

pub is_done : (ended : RunEnd) → status_of_end ended ≡ status.Done → ended ≡ end.Done
is_done end.Done e = refl
is_done end.ReadFault e = cc
is_done end.WriteFault e = cc
is_done end.DiskFault e = cc
is_done end.InputLimit e = cc
is_done end.Memory e = cc

-- a run never ends for its words, its net or its store
pub record NeverOfStart (ended : Status) : Type 0 where
  pub usage : ended ≢ status.Usage
  pub net : ended ≢ status.Net
  pub store : ended ≢ status.Store

pub never_of_start : (ended : RunEnd) → NeverOfStart (status_of_end ended)
never_of_start end.Done = record { usage = λ e. cc; net = λ e. cc; store = λ e. cc }
never_of_start end.ReadFault = record { usage = λ e. cc; net = λ e. cc; store = λ e. cc }
never_of_start end.WriteFault = record { usage = λ e. cc; net = λ e. cc; store = λ e. cc }
never_of_start end.DiskFault = record { usage = λ e. cc; net = λ e. cc; store = λ e. cc }
never_of_start end.InputLimit = record { usage = λ e. cc; net = λ e. cc; store = λ e. cc }
never_of_start end.Memory = record { usage = λ e. cc; net = λ e. cc; store = λ e. cc }

pub stands_after : (ended : RunEnd) (count n : ℕ) → lines.StandsAfter ended count n → StandsAfter (status_of_end ended) count n
stands_after end.Done count n e = e
stands_after end.ReadFault count n e = e
stands_after end.WriteFault count n e = e
stands_after end.DiskFault count n e = e
stands_after end.InputLimit count n e = e
stands_after end.Memory count n e = e

few_taken : (ended : RunEnd) (most count : ℕ) → MayTake ended most count → count ≤ most + 1
few_taken end.Done most count e = omega arith
few_taken end.ReadFault most count e = omega arith
few_taken end.WriteFault most count e = omega arith
few_taken end.DiskFault most count e = omega arith
few_taken end.InputLimit most count e = omega arith
few_taken end.Memory most count e = omega arith

pub takes_few : (ended : RunEnd) (most : ℕ) (source : Stream) → Takes ended most source.bytes source.bytes_after → TakesFew most source
takes_few ended most source takes = record { taken = takes.0; consumed = takes.1; few = few_taken ended most (length takes.0) takes.2 }

pub counted : (blamed ended : RunEnd) (blame : Status) (before now : ℕ) → (status_of_end ended ≡ blame → ended ≡ blamed) → (ended ≡ blamed → status_of_end ended ≡ blame) → HasCountOf blamed ended before now
    → (before ≤ now) × (status_of_end ended ≡ blame → Rose before now) × (status_of_end ended ≢ blame → now ≡ before)
counted blamed ended blame before now to from count = (count.later, λ e. count.failed (to e), λ other. count.kept (λ e. other (from e)))

-- ---- what was written

module _ (ended : RunEnd) (limits : Limits) (every : Option ℕ) (all : List ℕ) (now : Situation) (keeper : KeeperState) (new : EngineState) (left left_after out out_after : Option (List ℕ)) (r : RunState)
    (same : run_state now keeper ≡ r) (s : Serves ended limits.input_bytes all (engine_state true (terms_of limits every) now keeper) new left left_after out out_after) where
  pub writes_of : (faults faults_after : ℕ) → Writes (status_of_end ended) (replies limits every all r) (stream out out_after faults faults_after)
  writes_of faults faults_after = record {
    written = s.written;
    rest = s.rest;
    wrote = s.wrote;
    front = ap (λ (r : RunState). text_of (step (terms_of limits every)) r (due_lines limits.input_bytes all)) (sym same) ∙ s.front;
    whole = λ e.
        let whole = s.whole (is_whole ended e) in
        (ap status_of_end whole.0 ∙ due_status (nat_lt limits.input_bytes (length all)), whole.1);
  }

  pub breaks_of : (faults faults_after source_faults source_faults_after : ℕ)
      → BreaksOff (status_of_end ended) (due_lines limits.input_bytes all) (stream left left_after source_faults source_faults_after) (stream out out_after faults faults_after) (text_of (step (terms_of limits every)) r)
  breaks_of faults faults_after source_faults source_faults_after = record {
    read = λ e.
        let taken = s.read (is_read ended e) in
        (taken.0, taken.1, subst (Appends out out_after) (taken.2 ∙ ap (λ (r : RunState). text_of (step (terms_of limits every)) r (whole_lines taken.0)) same) s.wrote);
    disk = λ e.
        let some = s.disk (is_disk ended e) in
        (some.0, subst (Appends out out_after) (some.1 ∙ ap (λ (r : RunState). text_of (step (terms_of limits every)) r (take some.0 (due_lines limits.input_bytes all))) same) s.wrote);
  }

-- ---- in memory

abbrev pub memory_base : List ℕ → ℕ → Base
memory_base text next = record { fired = 0; next = next; text = text }

-- a store whose base has a text that was read, and no body
text_opens : (text : List ℕ) (net : List Decl) (at : Snapshot) → reads text ≡ Ok (record { decls = net; facts = at.instance; tokens = at.marking; next = at.next }) → at.fired ≡ 0
    → opened (Holds (new_store 1 (memory_base text at.next))) ≡ Stands (situation net at)
text_opens text net at read none =
    ap (opened_from (new_store 1 (memory_base text at.next)))
    (ap (started (memory_base text at.next)) read
    ∙ ap (λ (b : Bool). cond b (Some (situation net (record { instance = at.instance; marking = at.marking; next = at.next; fired = 0 }))) None) (le-leb at.next at.next (omega arith))
    ∙ ap (λ (n : ℕ). Some (situation net (record { instance = at.instance; marking = at.marking; next = at.next; fired = n }))) (sym none))

same_store : (a b : Store) → Some (Holds a) ≡ Some (Holds b) → a ≡ b
same_store a b e = cc

module _ (text : List ℕ) (net : List Decl) (at : Snapshot) (base : Base) (generation : ℕ) (bodies : List (List ℕ)) (live : Bool)
    (base_is : base ≡ memory_base text at.next) (first : generation ≡ 1) (none : bodies ≡ []) (lives : live ≡ true) where
  fresh : mem_state base generation bodies live ≡ mem_state (memory_base text at.next) 1 [] true
  fresh = ap (λ (b : Base). mem_state b generation bodies live) base_is ∙ ap (λ (n : ℕ). mem_state (memory_base text at.next) n bodies live) first
      ∙ ap (λ (l : List (List ℕ)). mem_state (memory_base text at.next) 1 l live) none ∙ ap (mem_state (memory_base text at.next) 1 []) lives

  pub memory_run_is : run_state (situation net at) (mem_state base generation bodies live) ≡ run_in_memory text (situation net at)
  memory_run_is = ap (run_state (situation net at)) fresh
      ∙ ap (λ (n : ℕ). record { now = situation net at; form = Two; place = n; generation = 1; records = 0; cap = None }) (let e : 33 + length text + 0 ≡ 33 + length text = omega arith in e)

  pub memory_joined : (core_live : Bool) (now : Situation) → IsTrue core_live → now ≡ situation net at
      → reads text ≡ Ok (record { decls = net; facts = at.instance; tokens = at.marking; next = at.next }) → at.fired ≡ 0 → Joined core_live now (mem_state base generation bodies live)
  memory_joined core_live now core now_is read zero = subst (Joined core_live now) (sym fresh) (record {
    core = core;
    keeper_live = refl;
    end = refl;
    last = refl;
    same = λ store told.
        ap (λ (s : Store). opened (Holds s)) (sym (same_store (mem_store (memory_base text at.next) 1 []) store told)) ∙ text_opens text net at read zero ∙ ap Stands (sym now_is);
  })
