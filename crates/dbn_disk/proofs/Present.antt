-- A disk in memory after one more call.
use Rattle.std.proofs.Common.{◌≡◌, ◌⊎◌, ℕ, ◌+◌, ◌^◌, ◌<◌, ◌≤◌, Bool, true, false, cond, List, [], ◌∷◌, ◌++◌, length, take, Some, Result, Ok, Err, OnOk, inl, inr, refl, sym, ap, subst, ◌∙◌, arith, rules, length-append}
use Rattle.std.specs.List.{All}
use Rattle.std.specs.Option.{option_map}
use Rattle.std.proofs.lemmas.List.{take-append-le, take_all}
use Rattle.std.proofs.lemmas.List.Elements.{All-push, All-same}
use Rattle.std.proofs.lemmas.Bool.{cases_lt, true≢false, false≢true}
use Rattle.dbn_io.specs.Memory.{Plan}
use Rattle.dbn_io.specs.declared.trouble.Trouble.{Trouble}
use Rattle.dbn_io.specs.declared.trouble.Trouble.TheVariants.{Failed}
use Rattle.dbn_disk.specs.Disk.{Elapses, Follows, Torn, Cut, Only, written}
use Rattle.dbn_disk.specs.Images.{Moment, IsImage, WasImage, settled, then_call, after_calls}
use Rattle.dbn_disk.specs.MemState.{MemState, IsMemDisk, IsSized, is_pending, pending_after, present, disk_state}
use Rattle.dbn_disk.specs.SoundLaws.{present_image}
use Rattle.dbn_disk.specs.declared.log.Call.{Call}
use Rattle.dbn_disk.specs.declared.log.Call.TheVariants.{Write, Cut as CutCall, Sync}
use Rattle.dbn_disk.proofs.ImageLaws.{settled_only, write_follows, cut_follows}

pub after_calls-append : (m : Moment) (calls : List Call) (call : Call) → after_calls m (calls ++ call ∷ []) ≡ then_call (after_calls m calls) call
after_calls-append m [] call = refl
after_calls-append m (first ∷ calls) call = after_calls-append (then_call m first) calls call

-- a list of calls, its last one, and all of them
module _ (first : List ℕ) (calls more : List Call) (call : Call) (is : more ≡ calls ++ call ∷ []) where
  pub present_is : after_calls (settled first) more ≡ then_call (after_calls (settled first) calls) call
  present_is = ap (after_calls (settled first)) is ∙ after_calls-append (settled first) calls call

  pub length_is : length more ≡ length calls + 1
  length_is = ap length is ∙ omega (arith, length-append calls (call ∷ []))

  -- the moments before the last one are those of before
  earlier : (n : ℕ) → n ≤ length calls → take n more ≡ take n calls
  earlier n le = ap (take n) is ∙ take-append-le n calls (call ∷ []) le

  past : (t : ℕ) (c : List ℕ) → WasImage first more t c → WasImage first calls t c ⊎ IsImage (after_calls (settled first) more) c
  past t c was = by_time (cases_lt (length calls) was.at)
    where
      by_time : (length calls < was.at) ⊎ (was.at ≤ length calls) → WasImage first calls t c ⊎ IsImage (after_calls (settled first) more) c
      by_time (inl last) = inr (subst (λ (l : List Call). IsImage (after_calls (settled first) l) c) (take_all was.at more (omega (arith, length_is))) was.image)
      by_time (inr le) = inl (record {
        at = was.at;
        from = was.from;
        in_time = le;
        image = subst (λ (l : List Call). IsImage (after_calls (settled first) l) c) (earlier was.at le) was.image;
      })

  kept : (t : ℕ) (c : List ℕ) → WasImage first calls t c → WasImage first more t c
  kept t c was = record {
    at = was.at;
    from = was.from;
    in_time = omega (arith, was.in_time, length_is);
    image = subst (λ (l : List Call). IsImage (after_calls (settled first) l) c) (sym (earlier was.at was.in_time)) was.image;
  }

  pub time_is : (old new : MemState) → old.first ≡ first → new.first ≡ first → old.calls ≡ calls → new.calls ≡ more → Elapses (disk_state old) (disk_state new)
  time_is old new of nf oc nc = record {
    later = omega (arith, length_is, ap length oc, ap length nc);
    nothing_else = λ t c le was. step t c was;
    keeps = λ t c le was. keep t c was;
  }
    where
      step : (t : ℕ) (c : List ℕ) → WasImage new.first new.calls t c → WasImage old.first old.calls t c ⊎ IsImage (present new) c
      step t c = rw (of, nf, oc, nc) (past t c)

      keep : (t : ℕ) (c : List ℕ) → WasImage old.first old.calls t c → WasImage new.first new.calls t c
      keep t c = rw (of, nf, oc, nc) (kept t c)

abbrev pub state : List ℕ → List Call → Plan → MemState
state first calls plan = record { first = first; calls = calls; plan = plan }

pending_after-append : (before : Bool) (calls : List Call) (call : Call) → pending_after before (calls ++ call ∷ []) ≡ pending_after (pending_after before calls) (call ∷ [])
pending_after-append before [] call = refl
pending_after-append before (Write at bytes done ∷ calls) call = pending_after-append true calls call
pending_after-append before (CutCall to done ∷ calls) call = pending_after-append true calls call
pending_after-append before (Sync ∷ calls) call = pending_after-append false calls call

module _ (first : List ℕ) (calls more : List Call) (plan next : Plan) where
  -- the fields after a call that is counted, but for a sync
  noted : (call : Call) (held : List ℕ) (count capacity : ℕ) → more ≡ calls ++ call ∷ [] → held ≡ (then_call (after_calls (settled first) calls) call).held
      → pending_after (is_pending calls) (call ∷ []) ≡ true → All IsSized calls → IsSized call → count < capacity → IsMemDisk first more held true count capacity
  noted call held count capacity is held_is pends sized this room = record {
    held_is = held_is ∙ sym (ap (λ (m : Moment). m.held) (present_is first calls more call is));
    pending_is = sym (ap is_pending is ∙ pending_after-append false calls call ∙ pends);
    clean = λ e. absurd (true≢false e);
    room = λ e. room;
    sized = All-same IsSized more (calls ++ call ∷ []) is (All-push IsSized calls call sized this);
  }

  module _ (at : ℕ) (bytes : List ℕ) (done : Bool) (is : more ≡ calls ++ Write at bytes done ∷ []) where
    pub wrote_fields : (before held : List ℕ) (count capacity : ℕ) → before ≡ (after_calls (settled first) calls).held → held ≡ cond done (written at bytes before) before → All IsSized calls → at + length bytes ≤ 2 ^ 62
        → count < capacity → IsMemDisk first more held true count capacity
    wrote_fields before held count capacity was held_is sized this room =
        noted (Write at bytes done) held count capacity is (held_is ∙ ap (λ (l : List ℕ). cond done (written at bytes l) l) was) refl sized this room

    pub wrote_value : (r : Result (Unit {0}) Trouble) → r ≡ cond done (Ok tt) (Err Failed) → OnOk r ((disk_state (state first more next)).content ≡ option_map (written at bytes) (disk_state (state first calls plan)).content)
    wrote_value r answers = by_answer done is answers
      where
        by_answer : (d : Bool) → more ≡ calls ++ Write at bytes d ∷ [] → r ≡ cond d (Ok tt) (Err Failed) → OnOk r ((disk_state (state first more next)).content ≡ option_map (written at bytes) (disk_state (state first calls plan)).content)
        by_answer true e a = rw a (ap (λ (m : Moment). Some m.held) (present_is first calls more (Write at bytes true) e))
        by_answer false e a = rw a (search rules)

    pub wrote_crash : Follows (Torn at (length bytes)) (IsImage (present (state first calls plan))) (IsImage (present (state first more next)))
    wrote_crash c image = write_follows (after_calls (settled first) calls) at bytes done (present_image (state first calls plan)) c (subst (λ (m : Moment). IsImage m c) (present_is first calls more (Write at bytes done) is) image)

    pub wrote_time : Elapses (disk_state (state first calls plan)) (disk_state (state first more next))
    wrote_time = time_is first calls more (Write at bytes done) is (state first calls plan) (state first more next) refl refl refl refl

  module _ (to : ℕ) (done : Bool) (is : more ≡ calls ++ CutCall to done ∷ []) where
    pub cut_fields : (before held : List ℕ) (count capacity : ℕ) → before ≡ (after_calls (settled first) calls).held → held ≡ cond done (take to before) before → All IsSized calls → count < capacity
        → IsMemDisk first more held true count capacity
    cut_fields before held count capacity was held_is sized room = noted (CutCall to done) held count capacity is (held_is ∙ ap (λ (l : List ℕ). cond done (take to l) l) was) refl sized tt room

    pub cut_value : (r : Result (Unit {0}) Trouble) → r ≡ cond done (Ok tt) (Err Failed) → OnOk r ((disk_state (state first more next)).content ≡ option_map (take to) (disk_state (state first calls plan)).content)
    cut_value r answers = by_answer done is answers
      where
        by_answer : (d : Bool) → more ≡ calls ++ CutCall to d ∷ [] → r ≡ cond d (Ok tt) (Err Failed) → OnOk r ((disk_state (state first more next)).content ≡ option_map (take to) (disk_state (state first calls plan)).content)
        by_answer true e a = rw a (ap (λ (m : Moment). Some m.held) (present_is first calls more (CutCall to true) e))
        by_answer false e a = rw a (search rules)

    pub cut_crash : Follows (Cut to) (IsImage (present (state first calls plan))) (IsImage (present (state first more next)))
    cut_crash c image = cut_follows (after_calls (settled first) calls) to done (present_image (state first calls plan)) c (subst (λ (m : Moment). IsImage m c) (present_is first calls more (CutCall to done) is) image)

    pub cut_time : Elapses (disk_state (state first calls plan)) (disk_state (state first more next))
    cut_time = time_is first calls more (CutCall to done) is (state first calls plan) (state first more next) refl refl refl refl

  module _ (is : more ≡ calls ++ Sync ∷ []) where
    now_settled : present (state first more next) ≡ settled (present (state first calls plan)).held
    now_settled = present_is first calls more Sync is

    pub synced_fields : (held : List ℕ) (count capacity : ℕ) → held ≡ (after_calls (settled first) calls).held → All IsSized calls → IsMemDisk first more held false count capacity
    synced_fields held count capacity was sized = record {
      held_is = was ∙ sym (ap (λ (m : Moment). m.held) now_settled);
      pending_is = sym (ap is_pending is ∙ pending_after-append false calls Sync);
      clean = λ e. now_settled ∙ ap settled (sym was);
      room = λ e. absurd (false≢true e);
      sized = All-same IsSized more (calls ++ Sync ∷ []) is (All-push IsSized calls Sync sized tt);
    }

    pub synced_same : (disk_state (state first more next)).content ≡ (disk_state (state first calls plan)).content
    synced_same = ap (λ (m : Moment). Some m.held) now_settled

    pub synced_crash : (c : List ℕ) → IsImage (present (state first more next)) c → IsImage (present (state first calls plan)) c
    synced_crash c image =
        subst (IsImage (present (state first calls plan))) (sym (settled_only (present (state first calls plan)).held c (subst (λ (m : Moment). IsImage m c) now_settled image))) (present_image (state first calls plan))

    pub synced_durable : (b : List ℕ) → (disk_state (state first calls plan)).content ≡ Some b → Only b (IsImage (present (state first more next)))
    synced_durable b told c image =
        let e : (present (state first calls plan)).held ≡ b = cc in
        settled_only (present (state first calls plan)).held c (subst (λ (m : Moment). IsImage m c) now_settled image) ∙ e

    pub synced_time : Elapses (disk_state (state first calls plan)) (disk_state (state first more next))
    synced_time = time_is first calls more Sync is (state first calls plan) (state first more next) refl refl refl refl

-- nothing was pending
pub clean_durable : (m : MemState) (held : List ℕ) → present m ≡ settled held → (b : List ℕ) → (disk_state m).content ≡ Some b → Only b (IsImage (present m))
clean_durable m held clean b told c image =
    let whole : held ≡ (present m).held = sym (ap (λ (n : Moment). n.held) clean) in
    let e : (present m).held ≡ b = cc in
    settled_only held c (subst (λ (n : Moment). IsImage n c) clean image) ∙ whole ∙ e
