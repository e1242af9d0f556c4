-- A net that was read whole, or given up.
use Rattle.std.proofs.Common.{◌≡◌, ℕ, ◌+◌, ◌≤◌, ◌<◌, Bool, cond, List, [], ◌++◌, length, Option, None, Some, Ok, refl, sym, ap, subst, ◌∙◌, arith, append-nil, length-append}
use Rattle.std.proofs.lemmas.Bool.{lt-ltb, le-ltb}
use Rattle.std.specs.Io.KnownBytes.{Appends, Consumes, IsAtEnd}
use Rattle.dbn_io.specs.declared.limits.Limits.{Limits}
use Rattle.dbn_io.specs.Stops.{Stopped}
use Rattle.dbn_io.specs.declared.take.ReadStop.TheVariants as stop
use Rattle.dbn_net.specs.declared.decl.Decl.{Decl}
use Rattle.dbn_net.specs.declared.snapshot.Snapshot.{Snapshot}
use Rattle.dbn_net.specs.declared.fault.NetKind.{NetKind}
use Rattle.dbn_net.specs.Texts.{fault, reads}
use Rattle.dbn_store.specs.States.{Situation, situation}
use Rattle.dbn_top.specs.declared.status.Status.TheVariants as status
use Rattle.dbn_top.specs.Calls.{Stream}
use Rattle.dbn_top.specs.Due.{with_net, net_line}
use Rattle.dbn_top.specs.Starts.{by_reading, by_net, accepted_in}
use Rattle.dbn_top.specs.Writing.{Declared, Writes, due}
use Rattle.dbn_top.proofs.Saying.{said}

-- all bytes of a source that tells them
pub read_whole : (after : Option (List ℕ)) (text bytes : List ℕ) → Consumes (Some text) after bytes → IsAtEnd after → bytes ≡ text
read_whole None text bytes consumed end = absurd consumed
read_whole (Some rest) text bytes consumed end = sym (consumed ∙ ap (λ l. bytes ++ l) end ∙ append-nil bytes)

pub read_told : (before after : Option (List ℕ)) (text bytes : List ℕ) → before ≡ Some text → Consumes before after bytes → IsAtEnd after → bytes ≡ text
read_told before after text bytes told consumed end = read_whole after text bytes (subst (λ (o : Option (List ℕ)). Consumes o after bytes) told consumed) end

-- more bytes than are taken
over_long : (after : Option (List ℕ)) (text front : List ℕ) (most : ℕ) → Consumes (Some text) after front → length front ≡ most + 1 → most < length text
over_long None text front most consumed long = absurd consumed
over_long (Some rest) text front most consumed long = omega (arith, ap length consumed, length-append front rest)

pub told_over : (before after : Option (List ℕ)) (text : List ℕ) (most : ℕ) → before ≡ Some text → Stopped stop.Over most before after → most < length text
told_over before after text most told stopped = over_long after text stopped.0 most (subst (λ (o : Option (List ℕ)). Consumes o after stopped.0) told stopped.1) stopped.2

by_over : {T : Type 0} (limits : Limits) (net : List ℕ) (over : T) (faulty : ℕ → NetKind → T) (accepted : Situation → T) → limits.net_bytes < length net → by_net limits net over faulty accepted ≡ over
by_over limits net over faulty accepted long = ap (λ (b : Bool). cond b over (by_reading faulty accepted (reads net))) (lt-ltb limits.net_bytes (length net) long)

by_within : {T : Type 0} (limits : Limits) (net : List ℕ) (over : T) (faulty : ℕ → NetKind → T) (accepted : Situation → T) → length net ≤ limits.net_bytes → by_net limits net over faulty accepted ≡ by_reading faulty accepted (reads net)
by_within limits net over faulty accepted short = ap (λ (b : Bool). cond b over (by_reading faulty accepted (reads net))) (le-ltb limits.net_bytes (length net) short)

-- a net that is accepted
pub accepted_of : (limits : Limits) (text bytes : List ℕ) (net : List Decl) (at : Snapshot) → bytes ≡ text → length bytes ≤ limits.net_bytes
    → reads bytes ≡ Ok (record { decls = net; facts = at.instance; tokens = at.marking; next = at.next }) → at.fired ≡ 0 → accepted_in limits text ≡ Some (situation net at)
accepted_of limits text bytes net at same short read zero =
    by_within limits text None (λ line kind. None) (λ s. Some s) (subst (λ (l : List ℕ). length l ≤ limits.net_bytes) same short)
    ∙ ap (by_reading (λ line kind. None) (λ s. Some s)) (ap reads (sym same) ∙ read)
    ∙ ap (λ (n : ℕ). Some (situation net (record { instance = at.instance; marking = at.marking; next = at.next; fired = n }))) (sym zero)

-- one that is not
pub faulty_due : (limits : Limits) (text bytes : List ℕ) (line : ℕ) (kind : NetKind) (then : Situation → Declared) → bytes ≡ text → length bytes ≤ limits.net_bytes → reads bytes ≡ fault line kind → with_net limits text then ≡ due status.Net (net_line line kind)
faulty_due limits text bytes line kind then same short read =
    by_within limits text (due status.InputLimit []) (λ line kind. due status.Net (net_line line kind)) then (subst (λ (l : List ℕ). length l ≤ limits.net_bytes) same short)
    ∙ ap (by_reading (λ line kind. due status.Net (net_line line kind)) then) (ap reads (sym same) ∙ read)

pub faulty_none : (limits : Limits) (text bytes : List ℕ) (line : ℕ) (kind : NetKind) → bytes ≡ text → length bytes ≤ limits.net_bytes → reads bytes ≡ fault line kind → accepted_in limits text ≡ None
faulty_none limits text bytes line kind same short read =
    by_within limits text None (λ line kind. None) (λ s. Some s) (subst (λ (l : List ℕ). length l ≤ limits.net_bytes) same short)
    ∙ ap (by_reading (λ line kind. None) (λ s. Some s)) (ap reads (sym same) ∙ read)

pub over_none : (limits : Limits) (text : List ℕ) → limits.net_bytes < length text → accepted_in limits text ≡ None
over_none limits text long = by_over limits text None (λ line kind. None) (λ s. Some s) long

nothing : (old new : Option (List ℕ)) → new ≡ old → Appends old new []
nothing None new e = tt
nothing (Some bytes) new e = subst (λ (o : Option (List ℕ)). Appends (Some bytes) o []) (sym e) (sym (append-nil bytes))

-- nothing is said of one that is too long
pub over_writes : (limits : Limits) (text : List ℕ) (then : Situation → Declared) (out : Stream) → limits.net_bytes < length text → out.bytes_after ≡ out.bytes → Writes status.InputLimit (with_net limits text then) out
over_writes limits text then out long same =
    subst (λ (d : Declared). Writes status.InputLimit d out) (sym (by_over limits text (due status.InputLimit []) (λ line kind. due status.Net (net_line line kind)) then long))
    (said status.InputLimit (due status.InputLimit []) out (nothing out.bytes out.bytes_after same) refl)
