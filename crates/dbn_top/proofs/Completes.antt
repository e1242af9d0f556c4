-- A call of which all is in order ends with Done, or for want of memory.
use Rattle.std.proofs.Common.{◌≡◌, ◌⊎◌, ℕ, Bool, false, cond, length, Option, None, Some, IsTrue, inl, inr, refl, ap, ◌∙◌, ⊎_elim}
use Rattle.std.specs.Prelude.{codes}
use Rattle.std.proofs.lemmas.Bool.{le-ltb}
use Rattle.dbn_model.specs.Causes.{Rose}
use Rattle.dbn_io.specs.declared.limits.Limits.{Limits}
use Rattle.dbn_keeper.specs.Creating.{is_made, is_allowed}
use Rattle.dbn_keeper.specs.Files.{folder}
use Rattle.dbn_store.specs.States.{Situation, RunState}
use Rattle.dbn_engine.specs.Steps.{text_at}
use Rattle.dbn_top.specs.declared.verb.Verb.{Verb}
use Rattle.dbn_top.specs.declared.verb.Verb.TheVariants.{Check, Try, New, Run, Dump, Demo}
use Rattle.dbn_top.specs.declared.status.Status.{Status}
use Rattle.dbn_top.specs.declared.status.Status.TheVariants as status
use Rattle.dbn_top.specs.Calls.{Call, Given}
use Rattle.dbn_top.specs.Complete.{IsInOrder, NoneRose, HasShort}
use Rattle.dbn_top.specs.Due.{declared, replies, making, with_store, uses_of}
use Rattle.dbn_top.specs.Endings.{Ends, Touches, IsReadWhole}
use Rattle.dbn_top.specs.Starts.{Found, run_in_memory}
use Rattle.dbn_top.specs.Writing.{Declared, due}
use Rattle.dbn_top.proofs.Tops.{complete}
use Rattle.dbn_top.proofs.Verbs.{accepted_due}

short_done : (limits : Limits) (every : Option ℕ) (given : Given) (r : RunState) → HasShort limits given → (replies limits every given.commands r).status ≡ status.Done
short_done limits every given r short = ap (λ (over : Bool). cond over status.InputLimit status.Done) (le-ltb limits.input_bytes (length given.commands) short)

room_done : (limits : Limits) (given : Given) (s : Situation) → is_made (folder given.a given.b) ≡ false → IsTrue (is_allowed limits.net_bytes limits.file_bytes (length (text_at s))) → making limits given.a given.b s ≡ due status.Done (codes "made\n")
room_done limits given s none room =
    let full = due status.Store (codes "store full\n") in
    let made = due status.Done (codes "made\n") in
    ap (λ (there : Bool). cond there (due status.Store (codes "store exists\n")) (cond (is_allowed limits.net_bytes limits.file_bytes (length (text_at s))) made full)) none
    ∙ ap (λ (allowed : Bool). cond allowed made full) room

pub in_order_done : (limits : Limits) (verb : Option Verb) (given : Given) → IsInOrder limits verb given → (declared limits verb given).status ≡ status.Done
in_order_done limits None given order = absurd order
in_order_done limits (Some Check) given order = ap (λ (d : Declared). d.status) (accepted_due limits given.net order.0 (λ s. due status.Done (codes "accepted\n")) order.1)
in_order_done limits (Some Try) given order =
    ap (λ (d : Declared). d.status) (accepted_due limits given.net order.0.0 (λ s. replies limits None given.commands (run_in_memory given.net s)) order.0.1)
    ∙ short_done limits None given (run_in_memory given.net order.0.0) order.1
in_order_done limits (Some New) given order =
    ap (λ (d : Declared). d.status) (accepted_due limits given.net order.0 (making limits given.a given.b) order.1 ∙ room_done limits given order.0 order.2 order.3)
in_order_done limits (Some (Run every)) given order =
    ap (λ (f : Found). (with_store f (replies limits every given.commands)).status) order.0.1 ∙ short_done limits every given order.0.0 order.1
in_order_done limits (Some Dump) given order = ap (λ (f : Found). (with_store f (λ r. due status.Done (text_at r.now))).status) order.1
in_order_done limits (Some (Demo size)) given order = refl

pub ends_done : (ended : Status) (call : Call) (given : Given) (a a_after b b_after : ℕ) → Ends ended call given → Touches (uses_of call.verb) ended call → (ended ≡ status.DiskFault → Rose a a_after ⊎ Rose b b_after)
    → NoneRose call a a_after b b_after → IsInOrder call.limits call.verb given → ((ended ≡ status.Done) × IsReadWhole (uses_of call.verb) call) ⊎ (ended ≡ status.Memory)
ends_done ended call given a a_after b b_after ends touches disk none order =
    ⊎_elim (λ e. let done = e ∙ in_order_done call.limits call.verb given order in inl (done, ends.read done)) (λ e. inr e)
    (complete ended call given ends touches none.net none.commands none.out (λ e. ⊎_elim none.first none.second (disk e)))
