-- The line of a demo, from the run over its commands.
use Rattle.std.proofs.Common.{◌≡◌, ◌≢◌, ◌⊎◌, ℕ, ◌≤◌, Bool, true, false, cond, List, [], ◌∷◌, ◌++◌, length, take, Option, None, Some, Result, Ok, Err, IsTrue, inl, inr, refl, sym, ap, subst, ◌∙◌, arith, append-nil}
use Rattle.std.proofs.lemmas.Bool.{true≢false, le-ltb}
use Rattle.std.specs.Io.KnownBytes.{Appends}
use Rattle.dbn_model.specs.Causes.{Rose}
use Rattle.dbn_model.specs.Lines.{Line, lines, whole_lines, due_lines}
use Rattle.dbn_model.specs.Runs.{text_of, state_after}
use Rattle.dbn_io.specs.declared.limits.Limits.{Limits}
use Rattle.dbn_net.specs.declared.decl.Decl.{Decl}
use Rattle.dbn_net.specs.declared.snapshot.Snapshot.{Snapshot}
use Rattle.dbn_net.specs.declared.fault.NetKind.{NetKind}
use Rattle.dbn_net.specs.Texts.{fault, reads}
use Rattle.dbn_keeper.specs.Keeping.{KeeperState}
use Rattle.dbn_store.specs.States.{Situation, situation, RunState, run_state}
use Rattle.dbn_engine.specs.Steps.{Terms, step}
use Rattle.dbn_engine.specs.Serving.{engine_state}
use Rattle.dbn_engine.specs.AllLines.{Serves, is_whole}
use Rattle.dbn_engine.specs.declared.run_end.RunEnd.{RunEnd}
use Rattle.dbn_engine.specs.declared.run_end.RunEnd.TheVariants as end
use Rattle.dbn_top.specs.declared.verb.Verb.TheVariants.{Demo}
use Rattle.dbn_top.specs.declared.status.Status.{Status}
use Rattle.dbn_top.specs.declared.status.Status.TheVariants as status
use Rattle.dbn_top.specs.Calls.{Stream, Given, IsUntouched, call_of}
use Rattle.dbn_top.specs.Demos.{demo_net, demo_commands, facts_in, facts_behind, counts_line, run_line, line_from, demo_line}
use Rattle.dbn_top.specs.Endings.{Ends, can_end}
use Rattle.dbn_top.specs.Starts.{by_reading, run_in_memory, terms_of}
use Rattle.dbn_top.specs.Writing.{Writes, due}

-- ---- all lines were served

-- a source within its limit gives all its lines
all_due : (all : List ℕ) → due_lines (length all) all ≡ lines all
all_due all = ap (λ (b : Bool). cond b (whole_lines (take (length all) all)) (lines all)) (le-ltb (length all) (length all) (omega arith))

module _ (ended : RunEnd) (most : ℕ) (terms : Terms) (now later : Situation) (keeper keeper' : KeeperState) (all : List ℕ) (left left_after : Option (List ℕ)) (before taken : List ℕ)
    (done : ended ≡ end.Done) (within : most ≡ length all) (empty : before ≡ [])
    (s : Serves ended most all (engine_state true terms now keeper) (engine_state true terms later keeper') left left_after (Some before) (Some taken)) where
  is_done : is_whole ended ≡ true
  is_done = ap is_whole done

  all_lines : due_lines most all ≡ lines all
  all_lines = ap (λ (n : ℕ). due_lines n all) within ∙ all_due all

  wrote : taken ≡ before ++ s.written
  wrote = s.wrote

  pub served_replies : taken ≡ text_of (step terms) (run_state now keeper) (lines all)
  served_replies =
      wrote
      ∙ ap (λ (l : List ℕ). l ++ s.written) empty
      ∙ sym (append-nil s.written)
      ∙ ap (λ (l : List ℕ). s.written ++ l) (sym (s.whole is_done).1)
      ∙ sym s.front
      ∙ ap (text_of (step terms) (run_state now keeper)) all_lines

  pub served_facts : facts_in later.snapshot.instance ≡ facts_behind terms (run_state now keeper) (lines all)
  served_facts = ap (λ (r : RunState). facts_in r.now.snapshot.instance) (s.run is_done ∙ ap (state_after (step terms) (run_state now keeper)) all_lines)

-- ---- the line

-- over an accepted net
pub line_of : (limits : Limits) (size : ℕ) (text commands replies : List ℕ) (facts : ℕ) (net : List Decl) (at : Snapshot)
    → text ≡ demo_net size → commands ≡ demo_commands size → reads text ≡ Ok (record { decls = net; facts = at.instance; tokens = at.marking; next = at.next }) → at.fired ≡ 0
    → replies ≡ text_of (step (terms_of limits None)) (run_in_memory text (situation net at)) (lines commands)
    → facts ≡ facts_behind (terms_of limits None) (run_in_memory text (situation net at)) (lines commands)
    → counts_line size replies facts ≡ demo_line limits size
unfolding demo_line
line_of limits size text commands replies facts net at text_is commands_is read zero replied counted =
    ap (λ (l : List ℕ). counts_line size l facts) replied
    ∙ ap (counts_line size (text_of (step (terms_of limits None)) (run_in_memory text (situation net at)) (lines commands))) counted
    ∙ ap (λ (l : List ℕ). run_line (terms_of limits None) size (run_in_memory text (situation net at)) (lines l)) commands_is
    ∙ ap (λ (l : List ℕ). run_line (terms_of limits None) size (run_in_memory l (situation net at)) (lines (demo_commands size))) text_is
    ∙ ap (λ (n : ℕ). line_from limits size (situation net (record { instance = at.instance; marking = at.marking; next = at.next; fired = n }))) zero
    ∙ sym (ap (by_reading (λ line kind. []) (line_from limits size)) (ap reads (sym text_is) ∙ read))

-- over any other net
pub no_line : (limits : Limits) (size : ℕ) (text : List ℕ) (line : ℕ) (kind : NetKind) → text ≡ demo_net size → reads text ≡ fault line kind → [] ≡ demo_line limits size
unfolding demo_line
no_line limits size text line kind text_is read =
    sym (ap (by_reading (λ line kind. []) (line_from limits size)) (ap reads (sym text_is) ∙ read))

-- ---- the end of the call

no_answers : (answers : List Line → List ℕ) → None ≡ Some answers → ⊥
no_answers answers e = cc

pub demo_ends : (ended : Status) (limits : Limits) (size : ℕ) (net commands out : Stream) (given : Given) → Writes ended (due status.Done (demo_line limits size)) out
    → ended ≢ status.ReadFault → (ended ≡ status.WriteFault → Rose out.faults out.faults_after) → IsUntouched net → IsUntouched commands → Ends ended (call_of (Some (Demo size)) limits net commands out) given
demo_ends ended limits size net commands out given writes read write same same_too = record {
  writes = writes;
  served = λ answers e. absurd (no_answers answers e);
  read = λ e. record { net = λ none. absurd (true≢false (sym none)); commands = λ none. absurd (true≢false (sym none)) };
  order = record { net = λ _. same; commands = λ _. same_too; read_fault = λ e. absurd (read e); write_fault = write };
}
