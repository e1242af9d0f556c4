-- From what the parts of serving a line do to what serving it leaves.
use Rattle.std.proofs.Common.{◌≡◌, ℕ, Bool, true, false, cond, List, [], Option, Some, IsTrue, inl, inr, refl, sym, ap, subst, ◌∙◌, ⊎_elim, append-nil, length}
use Rattle.std.specs.Io.KnownBytes.{Appends}
use Rattle.std.proofs.KnownBytes.{Appends-nil}
use Rattle.dbn_model.specs.Lines.{Line}
use Rattle.dbn_net.specs.declared.decl.Decl.{Decl}
use Rattle.dbn_keeper.specs.Files.{Store}
use Rattle.dbn_keeper.specs.Files.Folder.{Holds}
use Rattle.dbn_keeper.specs.Keeping.{KeeperState, IsSettled, IsSound, Keeps}
use Rattle.dbn_keeper.proofs.Crashes.{now_live}
use Rattle.dbn_store.specs.States.{Situation, RunState, run_state}
use Rattle.dbn_store.specs.Folders.{situation_in}
use Rattle.dbn_engine.specs.Steps.{Terms, text_at, checkpointed, may_keep, kept, is_due, tended, said, behind, line_answer, step}
use Rattle.dbn_engine.specs.Serving.{Joined, StandsFor, StandsForEither, Brings, StaysSteady, AllStandNow, EitherSince, Stops, engine_state}
use Rattle.dbn_engine.specs.Saying.{HasText, Misses}
use Rattle.dbn_engine.specs.Obeying.{Obeyed, Changes}
use Rattle.dbn_engine.specs.declared.answered.Answered.{Answered}
use Rattle.dbn_engine.specs.declared.fault.ServeFault.{ServeFault}
use Rattle.dbn_engine.specs.declared.fault.ServeFault.TheVariants.{Write, Disk}
use Rattle.dbn_engine.proofs.Told.{was_told, keeps_on}
use Rattle.dbn_engine.proofs.Firings.{now_stands, then_kept, either_since, either_now, both_one}
use Rattle.dbn_engine.proofs.Silent.{silent}

-- ---- one step

step_reply : (terms : Terms) (r : RunState) (line : Line) → (step terms r line).reply ≡ said r.now.net (line_answer terms r line).reply
unfolding step
step_reply terms r line = refl

step_next : (terms : Terms) (r : RunState) (line : Line) → (step terms r line).next ≡ behind terms (line_answer terms r line)
unfolding step
step_next terms r line = refl

kept_now : (r : RunState) (size : ℕ) (may : Bool) → (cond may (checkpointed r size) r).now ≡ r.now
kept_now r size true = refl
kept_now r size false = refl

tended_now : (terms : Terms) (r : RunState) (due : Bool) → (cond due (kept terms.net_bytes r) r).now ≡ r.now
tended_now terms r true = kept_now r (length (text_at r.now)) (may_keep terms.net_bytes r)
tended_now terms r false = refl

behind_now : (terms : Terms) (r : RunState) (recorded : Bool) → (cond recorded (tended terms r) r).now ≡ r.now
behind_now terms r true = tended_now terms r (is_due terms.every r)
behind_now terms r false = refl

-- a checkpoint keeps the situation
step_now : (terms : Terms) (r : RunState) (line : Line) → (step terms r line).next.now ≡ (line_answer terms r line).next.now
step_now terms r line = ap (λ (x : RunState). x.now) (step_next terms r line) ∙ behind_now terms (line_answer terms r line).next (line_answer terms r line).recorded

changes_now : (terms : Terms) (s : Situation) (old new : KeeperState) (line : Line) → Changes (line_answer terms (run_state s old) line) s old new → Brings old new (StandsForEither s (step terms (run_state s old) line).next.now)
changes_now terms s old new line work = subst (λ (u : Situation). Brings old new (StandsForEither s u)) (sym (step_now terms (run_state s old) line)) work

-- ---- what obeying leaves, said of the step

-- the situation behind it
after_is : (terms : Terms) (live : Bool) (s t : Situation) (old mid : KeeperState) (line : Line) (made : Answered) → Obeyed (line_answer terms (run_state s old) line) live t mid made → (step terms (run_state s old) line).next.now ≡ t
after_is terms live s t old mid line made done = step_now terms (run_state s old) line ∙ ap (λ (x : RunState). x.now) (sym done.next)

-- the text of its reply
pub text_is : (terms : Terms) (live : Bool) (s t : Situation) (old mid : KeeperState) (line : Line) (made : Answered) → Obeyed (line_answer terms (run_state s old) line) live t mid made → t.net ≡ s.net
    → (step terms (run_state s old) line).reply ≡ said t.net made.reply
text_is terms live s t old mid line made done net =
    step_reply terms (run_state s old) line ∙ ap (λ (n : List Decl). said n (line_answer terms (run_state s old) line).reply) (sym net) ∙ ap (said t.net) (sym done.reply)

pub has_text : (terms : Terms) (live : Bool) (s t : Situation) (old mid : KeeperState) (line : Line) (made : Answered) → Obeyed (line_answer terms (run_state s old) line) live t mid made → t.net ≡ s.net
    → HasText s.net (line_answer terms (run_state s old) line).reply → HasText t.net made.reply
has_text terms live s t old mid line made done net text =
    subst (HasText t.net) (sym done.reply) (subst (λ (n : List Decl). HasText n (line_answer terms (run_state s old) line).reply) (sym net) text)

-- without a record that is all
pub next_plain : (terms : Terms) (live : Bool) (s t : Situation) (old mid : KeeperState) (line : Line) (made : Answered) → Obeyed (line_answer terms (run_state s old) line) live t mid made → made.recorded ≡ false
    → run_state t mid ≡ (step terms (run_state s old) line).next
next_plain terms live s t old mid line made done none =
    let a = line_answer terms (run_state s old) line in
    done.next ∙ sym (step_next terms (run_state s old) line ∙ ap (λ (b : Bool). cond b (tended terms a.next) a.next) (sym done.recorded ∙ none))

-- behind a record a checkpoint may be due
pub next_tended : (terms : Terms) (live : Bool) (s t : Situation) (old mid new : KeeperState) (line : Line) (made : Answered) → Obeyed (line_answer terms (run_state s old) line) live t mid made → made.recorded ≡ true
    → run_state t new ≡ tended terms (run_state t mid) → run_state t new ≡ (step terms (run_state s old) line).next
next_tended terms live s t old mid new line made done some next =
    let a = line_answer terms (run_state s old) line in
    next ∙ ap (tended terms) done.next ∙ sym (step_next terms (run_state s old) line ∙ ap (λ (b : Bool). cond b (tended terms a.next) a.next) (sym done.recorded ∙ some))

-- ---- images

pub stand_now : (terms : Terms) (live : Bool) (s t : Situation) (old mid : KeeperState) (line : Line) (made : Answered) → Obeyed (line_answer terms (run_state s old) line) live t mid made → IsSettled mid → Keeps old mid
    → AllStandNow old mid (step terms (run_state s old) line).next.now
stand_now terms live s t old mid line made done settled keeps =
    subst (AllStandNow old mid) (sym (after_is terms live s t old mid line made done)) (now_stands live t old mid done.joined settled keeps)

pub stand_behind : (terms : Terms) (live live' : Bool) (s t : Situation) (old mid new : KeeperState) (line : Line) (made : Answered) → Obeyed (line_answer terms (run_state s old) line) live t mid made → Joined live' t new → IsSettled new → Keeps old mid → Keeps mid new
    → AllStandNow old new (step terms (run_state s old) line).next.now
stand_behind terms live live' s t old mid new line made done joined settled first second =
    subst (AllStandNow old new) (sym (after_is terms live s t old mid line made done)) (now_stands live' t old new joined settled (keeps_on old mid new first second))

tended_stand : (live : Bool) (t : Situation) (old mid new : KeeperState) → Joined live t mid → IsSettled mid → (IsTrue mid.honest → IsSound mid) → (IsTrue new.honest → IsSound new) → Keeps old mid → Keeps mid new → Brings mid new (StandsFor t)
    → AllStandNow old new t
tended_stand live t old mid new joined settled sound sound_new first second work store told honest f image =
    let now = was_told mid.held old.held (Holds store) (sym first.told) told in
    let is = settled.held now.0 now.1 in
    let here : Store = record { form = mid.form; base = mid.base; generation = mid.generation; bodies = is.0; torn = is.1 } in
    let held : mid.held ≡ Some (Holds here) = now.1 ∙ ap Some is.2 in
    let fair : IsTrue mid.honest = subst IsTrue (sym first.honest) honest in
    now_live mid new here (StandsFor t) settled (sound fair) (sound_new (subst IsTrue (sym second.honest) fair)) held fair (work here held fair) (ap situation_in (joined.same here held)) f image

pub stand_tended : (terms : Terms) (live : Bool) (s t : Situation) (old mid new : KeeperState) (line : Line) (made : Answered) → Obeyed (line_answer terms (run_state s old) line) live t mid made → IsSettled mid → (IsTrue mid.honest → IsSound mid)
    → (IsTrue new.honest → IsSound new) → Keeps old mid → Keeps mid new → Brings mid new (StandsFor t) → AllStandNow old new (step terms (run_state s old) line).next.now
stand_tended terms live s t old mid new line made done settled sound sound_new first second work =
    subst (AllStandNow old new) (sym (after_is terms live s t old mid line made done)) (tended_stand live t old mid new done.joined settled sound sound_new first second work)

-- since the call began
pub since_obeyed : (terms : Terms) (live : Bool) (s : Situation) (old new : KeeperState) (line : Line) → Joined live s old → IsSettled old → (IsTrue old.honest → IsSound old) → Changes (line_answer terms (run_state s old) line) s old new
    → EitherSince old new s (step terms (run_state s old) line).next.now
since_obeyed terms live s old new line joined settled sound work =
    either_since live old new s (step terms (run_state s old) line).next.now joined settled sound (changes_now terms s old new line work)

pub since_tended : (terms : Terms) (live live' : Bool) (s t : Situation) (old mid new : KeeperState) (line : Line) (made : Answered) → Joined live s old → IsSettled old → (IsTrue old.honest → IsSound old)
    → Obeyed (line_answer terms (run_state s old) line) live' t mid made → IsSettled mid → Keeps old mid → Changes (line_answer terms (run_state s old) line) s old mid → StaysSteady old mid → Brings mid new (StandsFor t)
    → EitherSince old new s (step terms (run_state s old) line).next.now
since_tended terms live live' s t old mid new line made joined settled sound done settled_mid keeps first steady second =
    let after = after_is terms live' s t old mid line made done in
    either_since live old new s (step terms (run_state s old) line).next.now joined settled sound
    (then_kept old mid new s (step terms (run_state s old) line).next.now settled_mid keeps (changes_now terms s old mid line first) steady (subst (λ (u : Situation). Brings mid new (StandsFor u)) (sym after) second))

-- ---- lines that were not served to their end

pub stops_obeying : (why : ServeFault) (live : Bool) (terms : Terms) (s t : Situation) (old new : KeeperState) (line : Line) (out : Option (List ℕ)) → Joined live s old → IsSettled old → (IsTrue old.honest → IsSound old) → (IsTrue new.honest → IsSound new)
    → Keeps old new → Changes (line_answer terms (run_state s old) line) s old new → (why ≡ Write → ⊥) → Stops why (engine_state true terms s old) (engine_state true terms t new) line out out
stops_obeying why live terms s t old new line out joined settled sound sound_new keeps work never =
    let after = (step terms (run_state s old) line).next.now in
    let either = either_now live old new s after joined settled sound sound_new keeps.honest (changes_now terms s old new line work) in
    record {
      front = [];
      rest = (step terms (run_state s old) line).reply;
      reply = refl;
      wrote = Appends-nil out;
      write = λ e. absurd (never e);
      disk = λ e. inl refl;
      each = either;
      all = λ e. ⊎_elim (λ w. absurd (never w)) (λ none. both_one old new s after (ap (λ (x : RunState). x.now) (silent terms (run_state s old) line none)) either) e;
    }

pub stops_writing : (why : ServeFault) (live : Bool) (terms : Terms) (s t : Situation) (old new : KeeperState) (line : Line) (before after : Option (List ℕ)) (made : Answered) → Obeyed (line_answer terms (run_state s old) line) live t new made → t.net ≡ s.net
    → IsSettled new → Keeps old new → Misses why before after (said t.net made.reply) → (why ≡ Disk → ⊥) → Stops why (engine_state true terms s old) (engine_state true terms t new) line before after
stops_writing why live terms s t old new line before after made done net settled keeps misses never =
    let all = stand_now terms live s t old new line made done settled keeps in
    record {
      front = misses.front;
      rest = misses.rest;
      reply = text_is terms live s t old new line made done net ∙ misses.parts;
      wrote = misses.wrote;
      write = misses.write;
      disk = λ e. absurd (never e);
      each = λ store told honest f image. inr (all store told honest f image);
      all = λ e. all;
    }

pub stops_tending : (why : ServeFault) (live : Bool) (terms : Terms) (s t : Situation) (old mid new : KeeperState) (line : Line) (before after : Option (List ℕ)) (made : Answered) → Obeyed (line_answer terms (run_state s old) line) live t mid made → t.net ≡ s.net
    → IsSettled mid → (IsTrue mid.honest → IsSound mid) → (IsTrue new.honest → IsSound new) → Keeps old mid → Keeps mid new → Brings mid new (StandsFor t) → Appends before after (said t.net made.reply) → (why ≡ Write → ⊥)
    → Stops why (engine_state true terms s old) (engine_state true terms t new) line before after
stops_tending why live terms s t old mid new line before after made done net settled sound sound_new first second work wrote never =
    let all = stand_tended terms live s t old mid new line made done settled sound sound_new first second work in
    let text = text_is terms live s t old mid line made done net in
    record {
      front = said t.net made.reply;
      rest = [];
      reply = text ∙ sym (append-nil (said t.net made.reply));
      wrote = wrote;
      write = λ e. absurd (never e);
      disk = λ e. inr refl;
      each = λ store told honest f image. inr (all store told honest f image);
      all = λ e. all;
    }
