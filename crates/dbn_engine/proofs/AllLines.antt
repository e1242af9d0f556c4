-- What is known between two lines of a run, and what stands where it ends.
use Rattle.std.proofs.Common.{◌≡◌, ◌⊎◌, ℕ, suc, ◌+◌, ◌-◌, ◌<◌, ◌≤◌, Bool, true, List, [], ◌∷◌, ◌++◌, length, take, Option, Some, IsTrue, inl, inr, refl, sym, ap, subst, ◌∙◌, ⊎_elim, arith, append_assoc, append-nil, length-append}
use Rattle.std.specs.Prelude.{cond}
use Rattle.std.proofs.lemmas.Bool.{lt-ltb, le-ltb}
use Rattle.std.proofs.Math.Seq.{take-append_seam}
use Rattle.std.proofs.KnownBytes.{Appends-nil, Appends-trans}
use Rattle.std.specs.Io.KnownBytes.{Appends, Consumes}
use Rattle.dbn_model.specs.Lines.{Line, due_lines, whole_lines}
use Rattle.dbn_model.specs.Runs.{Step, text_of, state_after, replies, answered}
use Rattle.dbn_model.proofs.RunLaws.{text-append, state-append, state-take, answered-append, answered-blank, answered-first, answered-none}
use Rattle.dbn_io.specs.Reading.{Reading, HasRead, GivesNext}
use Rattle.dbn_io.specs.declared.lines.Line.{Line as Given}
use Rattle.dbn_io.specs.declared.lines.Line.TheVariants.{Bytes, Long, End}
use Rattle.dbn_keeper.specs.Files.{Store, Folder}
use Rattle.dbn_keeper.specs.Files.Folder.{Holds}
use Rattle.dbn_keeper.specs.Keeping.{Keeps}
use Rattle.dbn_store.specs.States.{Situation, RunState}
use Rattle.dbn_store.specs.Folders.{meaning}
use Rattle.dbn_engine.specs.Steps.{Terms, step}
use Rattle.dbn_engine.specs.Serving.{EngineState, Stops, IsAtRest, line_of}
use Rattle.dbn_engine.specs.AllLines.{is_whole, due_end, StandsAfter, Serves}
use Rattle.dbn_engine.specs.declared.fault.ServeFault.{ServeFault}
use Rattle.dbn_engine.specs.declared.fault.ServeFault.TheVariants as fault
use Rattle.dbn_engine.specs.declared.run_end.RunEnd.{RunEnd}
use Rattle.dbn_engine.specs.declared.run_end.RunEnd.TheVariants.{Done, ReadFault, WriteFault, DiskFault, InputLimit, Memory}
use Rattle.dbn_engine.proofs.Silent.{silent}
use Rattle.dbn_engine.proofs.Told.{store_now, honest_now, rests_now}

-- ---- between two lines

-- these lines were answered
pub record Answered (old now : EngineState) (out out_now : Option (List ℕ)) (lines : List Line) : Type 0 where
  pub wrote : Appends out out_now (text_of (step old.terms) old.run lines)
  pub run : now.run ≡ state_after (step old.terms) old.run lines
  pub terms : now.terms ≡ old.terms

-- these lines were read, and answered
pub record SoFar (most : ℕ) (initial left : Option (List ℕ)) (reader : Reading) (old now : EngineState) (out out_now : Option (List ℕ)) : Type 0 where
  pub lines : List Line
  pub read : HasRead most initial left reader lines
  pub answered : Answered old now out out_now lines

pub none_answered : (e : EngineState) (out : Option (List ℕ)) → Answered e e out out []
none_answered e out = record { wrote = Appends-nil out; run = refl; terms = refl }

-- the step in the state between
step_now : (old now : EngineState) (out out_now : Option (List ℕ)) (lines : List Line) (line : Line) → Answered old now out out_now lines
    → step now.terms now.run line ≡ step old.terms (state_after (step old.terms) old.run lines) line
step_now old now out out_now lines line so = ap (λ (t : Terms). step t now.run line) so.terms ∙ ap (λ (r : RunState). step old.terms r line) so.run

pub one_more : (old mid new : EngineState) (out mid_out out_new : Option (List ℕ)) (lines : List Line) (line : Line) → Answered old mid out mid_out lines
    → Appends mid_out out_new (step mid.terms mid.run line).reply → new.run ≡ (step mid.terms mid.run line).next → new.terms ≡ mid.terms
    → Answered old new out out_new (lines ++ line ∷ [])
one_more old mid new out mid_out out_new lines line so wrote next terms =
    let same = step_now old mid out mid_out lines line so in
    record {
      wrote = subst (Appends out out_new)
          (ap (λ (x : Step RunState). text_of (step old.terms) old.run lines ++ x.reply) same
          ∙ ap (λ (l : List ℕ). text_of (step old.terms) old.run lines ++ l) (sym (append-nil (step old.terms (state_after (step old.terms) old.run lines) line).reply))
          ∙ sym (text-append (step old.terms) old.run lines (line ∷ [])))
          (Appends-trans out mid_out out_new (text_of (step old.terms) old.run lines) (step mid.terms mid.run line).reply so.wrote wrote);
      run = next ∙ ap (λ (x : Step RunState). x.next) same ∙ sym (state-append (step old.terms) old.run lines (line ∷ []));
      terms = terms ∙ so.terms;
    }

-- the line that was given
pub given_line : (line : Given) (most : ℕ) (initial left : Option (List ℕ)) (reader : Reading) (lines : List Line) → (line ≡ End → ⊥) → GivesNext line most initial left reader lines
    → HasRead most initial left reader (lines ++ line_of line ∷ [])
given_line (Bytes bytes) most initial left reader lines some read = read
given_line Long most initial left reader lines some read = read
given_line End most initial left reader lines some read = absurd (some refl)

-- ---- which lines a folder stands behind

-- so many bytes of the replies were written, and the folder stands for this
pub record At (ended : RunEnd) (terms : Terms) (r : RunState) (lines : List Line) (count : ℕ) (m : Option Situation) : Type 0 where
  pub n : ℕ
  pub after : StandsAfter ended (answered (replies (step terms) r lines) count) n
  pub is : m ≡ Some (state_after (step terms) r (take n lines)).now

plus : (ended : RunEnd) (l j n : ℕ) → StandsAfter ended j n → StandsAfter ended (l + j) (l + n)
plus Done l j n e = ap (λ x. l + x) e
plus ReadFault l j n e = ap (λ x. l + x) e
plus WriteFault l j n e = omega (arith, e)
plus DiskFault l j n e = ⊎_elim (λ a. inl (ap (λ x. l + x) a)) (λ a. inr (omega (arith, a))) e
plus InputLimit l j n e = ap (λ x. l + x) e
plus Memory l j n e = ⊎_elim (λ a. inl (ap (λ x. l + x) a)) (λ a. inr (omega (arith, a))) e

shift : (ended : RunEnd) (terms : Terms) (r : RunState) (lines more : List Line) (count : ℕ) (m : Option Situation) → At ended terms (state_after (step terms) r lines) more count m
    → At ended terms r (lines ++ more) (length (text_of (step terms) r lines) + count) m
shift ended terms r lines more count m at = record {
  n = length lines + at.n;
  after = subst (λ j. StandsAfter ended j (length lines + at.n)) (sym (answered-append (step terms) r lines more count))
      (plus ended (length lines) (answered (replies (step terms) (state_after (step terms) r lines) more) count) at.n at.after);
  is = at.is ∙ ap (λ (s : RunState). Some s.now) (sym (state-take (step terms) r lines more at.n));
}

-- nothing of the next reply was written
rests_at : (ended : RunEnd) (terms : Terms) (r : RunState) (more : List Line) (m : Option Situation) → ((j : ℕ) → StandsAfter ended j j) → m ≡ Some r.now → At ended terms r more 0 m
rests_at ended terms r more m stays is = record {
  n = answered (replies (step terms) r more) 0;
  after = stays (answered (replies (step terms) r more) 0);
  is = is ∙ ap (λ (s : RunState). Some s.now) (sym (answered-blank (step terms) r more (silent terms)));
}

-- the reply to the line was written whole
whole_at : (ended : RunEnd) (terms : Terms) (r : RunState) (line : Line) (more : List Line) (front : List ℕ) (m : Option Situation) → ((j : ℕ) → StandsAfter ended j j) → (step terms r line).reply ≡ front
    → m ≡ Some (step terms r line).next.now → At ended terms r (line ∷ more) (length front) m
whole_at ended terms r line more front m stays reply is =
    let next = (step terms r line).next in
    let rest = replies (step terms) next more in
    let size : length (step terms r line).reply ≡ length front = ap length reply in
    let none : length front - length (step terms r line).reply ≡ 0 = omega arith in
    let count : answered (replies (step terms) r (line ∷ more)) (length front) ≡ suc (answered rest 0) =
    answered-first (step terms r line).reply rest (length front) (omega arith) ∙ ap (λ k. suc (answered rest k)) none in
    record {
      n = suc (answered rest 0);
      after = subst (λ j. StandsAfter ended j (suc (answered rest 0))) (sym count) (stays (suc (answered rest 0)));
      is = is ∙ ap (λ (s : RunState). Some s.now) (sym (answered-blank (step terms) next more (silent terms)));
    }

-- something of the reply to the line is missing
part_at : (ended : RunEnd) (terms : Terms) (r : RunState) (line : Line) (more : List Line) (front : List ℕ) (byte : ℕ) (rest : List ℕ) (n : ℕ) (m : Option Situation)
    → (step terms r line).reply ≡ front ++ byte ∷ rest → StandsAfter ended 0 n → m ≡ Some (state_after (step terms) r (take n (line ∷ more))).now → At ended terms r (line ∷ more) (length front) m
part_at ended terms r line more front byte rest n m reply after is =
    let size : length (step terms r line).reply ≡ length front + length (byte ∷ rest) = ap length reply ∙ length-append front (byte ∷ rest) in
    let count : answered (replies (step terms) r (line ∷ more)) (length front) ≡ 0 =
    answered-none (step terms r line).reply (replies (step terms) (step terms r line).next more) (length front) (omega arith) in
    record { n = n; after = subst (λ j. StandsAfter ended j n) (sym count) after; is = is }

abbrev pub end_of : ServeFault → RunEnd
end_of fault.Write = WriteFault
end_of fault.Disk = DiskFault
end_of fault.Memory = Memory

-- a line was not served to its end
stops_at : (why : ServeFault) (terms : Terms) (r : RunState) (line : Line) (more : List Line) (front rest : List ℕ) (m : Option Situation) → (step terms r line).reply ≡ front ++ rest
    → (why ≡ fault.Write → rest ≡ [] → ⊥) → (m ≡ Some r.now) ⊎ (m ≡ Some (step terms r line).next.now)
    → ((why ≡ fault.Write) ⊎ (rest ≡ []) → m ≡ Some (step terms r line).next.now) → At (end_of why) terms r (line ∷ more) (length front) m
stops_at fault.Write terms r line more front [] m reply write each all = absurd (write refl refl)
stops_at fault.Disk terms r line more front [] m reply write each all = whole_at DiskFault terms r line more front m (λ j. inl refl) (reply ∙ append-nil front) (all (inr refl))
stops_at fault.Memory terms r line more front [] m reply write each all = whole_at Memory terms r line more front m (λ j. inl refl) (reply ∙ append-nil front) (all (inr refl))
stops_at fault.Write terms r line more front (byte ∷ rest) m reply write each all = part_at WriteFault terms r line more front byte rest 1 m reply refl (all (inl refl))
stops_at fault.Disk terms r line more front (byte ∷ rest) m reply write each all =
    ⊎_elim (λ e. part_at DiskFault terms r line more front byte rest 0 m reply (inl refl) e) (λ e. part_at DiskFault terms r line more front byte rest 1 m reply (inr refl) e) each
stops_at fault.Memory terms r line more front (byte ∷ rest) m reply write each all =
    ⊎_elim (λ e. part_at Memory terms r line more front byte rest 0 m reply (inl refl) e) (λ e. part_at Memory terms r line more front byte rest 1 m reply (inr refl) e) each

-- ---- how a run ends

serves : (ended : RunEnd) (most : ℕ) (all : List ℕ) (old new : EngineState) (left left_after out out_after : Option (List ℕ)) (lines more : List Line) (front rest : List ℕ)
    → due_lines most all ≡ lines ++ more → Appends out out_after (text_of (step old.terms) old.run lines ++ front)
    → text_of (step old.terms) (state_after (step old.terms) old.run lines) more ≡ front ++ rest
    → (is_whole ended ≡ true → (ended ≡ due_end most all) × (rest ≡ []))
    → (ended ≡ ReadFault → (taken : List ℕ) × Consumes left left_after taken × (text_of (step old.terms) old.run lines ++ front ≡ text_of (step old.terms) old.run (whole_lines taken)))
    → (ended ≡ DiskFault → (n : ℕ) × (text_of (step old.terms) old.run lines ++ front ≡ text_of (step old.terms) old.run (take n (due_lines most all))))
    → (is_whole ended ≡ true → new.run ≡ state_after (step old.terms) old.run (due_lines most all))
    → ((store : Store) → old.keeper.held ≡ Some (Holds store) → IsTrue old.keeper.honest → (f : Folder) → new.keeper.image f → At ended old.terms (state_after (step old.terms) old.run lines) more (length front) (meaning f))
    → Serves ended most all old new left left_after out out_after
serves ended most all old new left left_after out out_after lines more front rest is wrote text whole read disk run at = record {
  written = text_of (step old.terms) old.run lines ++ front;
  rest = rest;
  wrote = wrote;
  front = ap (text_of (step old.terms) old.run) is ∙ text-append (step old.terms) old.run lines more
      ∙ ap (λ (l : List ℕ). text_of (step old.terms) old.run lines ++ l) text ∙ sym (append_assoc (text_of (step old.terms) old.run lines) front rest);
  whole = whole;
  read = read;
  disk = disk;
  run = run;
  stands = λ store told honest f image.
      let here = subst (λ (l : List Line). At ended old.terms old.run l (length (text_of (step old.terms) old.run lines) + length front) (meaning f)) (sym is)
      (shift ended old.terms old.run lines more (length front) (meaning f) (at store told honest f image)) in
      let there = subst (λ (k : ℕ). At ended old.terms old.run (due_lines most all) k (meaning f)) (sym (length-append (text_of (step old.terms) old.run lines) front)) here in
      (there.n, there.after, there.is);
}

-- it ended between two lines, where the engine is at rest
pub serves_between : (ended : RunEnd) (most : ℕ) (all : List ℕ) (old now : EngineState) (left left_after out out_now : Option (List ℕ)) (lines more : List Line) → Answered old now out out_now lines
    → due_lines most all ≡ lines ++ more
    → (is_whole ended ≡ true → (ended ≡ due_end most all) × (more ≡ []))
    → (ended ≡ ReadFault → (taken : List ℕ) × Consumes left left_after taken × (lines ≡ whole_lines taken))
    → (ended ≡ DiskFault → ⊥) → ((j : ℕ) → StandsAfter ended j j) → IsAtRest now → Keeps old.keeper now.keeper
    → Serves ended most all old now left left_after out out_now
serves_between ended most all old now left left_after out out_now lines more so is whole read disk stays rests keeps =
    let text = text_of (step old.terms) old.run lines in
    let none : text ++ [] ≡ text = append-nil text in
    serves ended most all old now left left_after out out_now lines more [] (text_of (step old.terms) (state_after (step old.terms) old.run lines) more) is
    (subst (Appends out out_now) (sym none) so.wrote) refl
    (λ e. ((whole e).0, ap (text_of (step old.terms) (state_after (step old.terms) old.run lines)) (whole e).1))
    (λ e. let taken = read e in (taken.0, taken.1, none ∙ ap (text_of (step old.terms) old.run) taken.2))
    (λ e. absurd (disk e))
    (λ e. so.run ∙ ap (state_after (step old.terms) old.run) (sym (append-nil lines) ∙ ap (λ (l : List Line). lines ++ l) (sym (whole e).1) ∙ sym is))
    (λ store told honest f image. rests_at ended old.terms (state_after (step old.terms) old.run lines) more (meaning f) stays
    (rests_now old.keeper now rests keeps store told honest f image ∙ ap (λ (s : RunState). Some s.now) so.run))

-- all lines that are due were answered
pub serves_all : (ended : RunEnd) (most : ℕ) (all : List ℕ) (old now : EngineState) (left left_after out out_now : Option (List ℕ)) (lines : List Line) → Answered old now out out_now lines
    → lines ≡ due_lines most all → ended ≡ due_end most all → (ended ≡ ReadFault → ⊥) → (ended ≡ DiskFault → ⊥) → ((j : ℕ) → StandsAfter ended j j) → IsAtRest now → Keeps old.keeper now.keeper
    → Serves ended most all old now left left_after out out_now
serves_all ended most all old now left left_after out out_now lines so is due read disk stays rests keeps =
    serves_between ended most all old now left left_after out out_now lines [] so (sym is ∙ sym (append-nil lines)) (λ e. (due, refl)) (λ e. absurd (read e)) disk stays rests keeps

not_whole : (why : ServeFault) → is_whole (end_of why) ≡ true → ⊥
not_whole fault.Write e = cc
not_whole fault.Disk e = cc
not_whole fault.Memory e = cc

not_read : (why : ServeFault) → end_of why ≡ ReadFault → ⊥
not_read fault.Write e = cc
not_read fault.Disk e = cc
not_read fault.Memory e = cc

is_disk : (why : ServeFault) → end_of why ≡ DiskFault → why ≡ fault.Disk
is_disk fault.Write e = cc
is_disk fault.Disk e = refl
is_disk fault.Memory e = cc

-- a line was not served to its end
pub serves_stopped : (why : ServeFault) (most : ℕ) (all : List ℕ) (old mid new : EngineState) (left left_after out mid_out out_new : Option (List ℕ)) (lines more : List Line) (line : Line)
    → Answered old mid out mid_out lines → due_lines most all ≡ (lines ++ line ∷ []) ++ more → IsAtRest mid → Keeps old.keeper mid.keeper → Stops why mid new line mid_out out_new
    → Serves (end_of why) most all old new left left_after out out_new
serves_stopped why most all old mid new left left_after out mid_out out_new lines more line so is rests keeps s =
    let text = text_of (step old.terms) old.run lines in
    let now = state_after (step old.terms) old.run lines in
    let same = step_now old mid out mid_out lines line so in
    let after = text_of (step old.terms) (step old.terms now line).next more in
    let here : due_lines most all ≡ lines ++ line ∷ more = is ∙ append_assoc lines (line ∷ []) more in
    let reply : (step old.terms now line).reply ≡ s.front ++ s.rest = ap (λ (x : Step RunState). x.reply) (sym same) ∙ s.reply in
    serves (end_of why) most all old new left left_after out out_new lines (line ∷ more) s.front (s.rest ++ after) here
    (Appends-trans out mid_out out_new text s.front so.wrote s.wrote)
    (ap (λ (l : List ℕ). l ++ after) reply ∙ append_assoc s.front s.rest after)
    (λ e. absurd (not_whole why e)) (λ e. absurd (not_read why e))
    (λ e. ⊎_elim
    (λ none. (length lines, ap (λ (l : List ℕ). text ++ l) none ∙ append-nil text ∙ ap (text_of (step old.terms) old.run) (sym (take-append_seam lines (line ∷ more)) ∙ ap (take (length lines)) (sym here))))
    (λ all_of. (
      length (lines ++ line ∷ []),
      ap (λ (l : List ℕ). text ++ l) (sym (append-nil s.front) ∙ ap (λ (l : List ℕ). s.front ++ l) (sym all_of) ∙ sym reply ∙ sym (append-nil (step old.terms now line).reply))
          ∙ sym (text-append (step old.terms) old.run lines (line ∷ []))
          ∙ ap (text_of (step old.terms) old.run) (sym (take-append_seam (lines ++ line ∷ []) more) ∙ ap (take (length (lines ++ line ∷ []))) (sym is)),
    ))
    (s.disk (is_disk why e)))
    (λ e. absurd (not_whole why e))
    (λ store told honest f image.
    let now_told = store_now old.keeper mid store rests keeps told in
    let fair = honest_now old.keeper mid.keeper keeps honest in
    let at_mid = stops_at why mid.terms mid.run line more s.front s.rest (meaning f) s.reply s.write (s.each now_told.0 now_told.1 fair f image) (λ e. s.all e now_told.0 now_told.1 fair f image) in
    subst (λ (r : RunState). At (end_of why) old.terms r (line ∷ more) (length s.front) (meaning f)) so.run
    (subst (λ (t : Terms). At (end_of why) t mid.run (line ∷ more) (length s.front) (meaning f)) so.terms at_mid))

-- ---- the end that is due

pub ends_within : (most : ℕ) (all : List ℕ) → length all ≤ most → Done ≡ due_end most all
ends_within most all within = sym (ap (λ (b : Bool). cond b InputLimit Done) (le-ltb most (length all) within))

pub ends_over : (most : ℕ) (all : List ℕ) → most < length all → InputLimit ≡ due_end most all
ends_over most all over = sym (ap (λ (b : Bool). cond b InputLimit Done) (lt-ltb most (length all) over))
