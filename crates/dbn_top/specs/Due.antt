-- The declared run: how a call is due to end and what is due to be written, by the verb and by all that it reads.
use Rattle.std.specs.Prelude.{ℕ, true, false, cond, nat_lt, List, ◌++◌, length, Option, None, Some, codes, decimal}
use Rattle.dbn_model.specs.Lines.{Line, due_lines}
use Rattle.dbn_model.specs.Runs.{text_of}
use Rattle.dbn_io.specs.declared.limits.Limits.{Limits}
use Rattle.dbn_net.specs.declared.fault.NetKind.{NetKind}
use Rattle.dbn_net.specs.declared.fault.NetKind.TheVariants as kind
use Rattle.dbn_keeper.specs.Creating.{is_made, is_allowed}
use Rattle.dbn_keeper.specs.Files.{folder}
use Rattle.dbn_store.specs.States.{Situation, RunState}
use Rattle.dbn_engine.specs.Steps.{text_at, step}
use Rattle.dbn_top.specs.declared.verb.Verb.{Verb}
use Rattle.dbn_top.specs.declared.verb.Verb.TheVariants.{Check, Try, New, Run, Dump, Demo}
use Rattle.dbn_top.specs.declared.status.Status.TheVariants as status
use Rattle.dbn_top.specs.Calls.{Given, Uses, uses}
use Rattle.dbn_top.specs.Demos.{demo_line}
use Rattle.dbn_top.specs.Starts.{by_net, accepted_in, run_in_memory, terms_of, Found, found, run_in, is_there}
use Rattle.dbn_top.specs.Writing.{Declared, due}
use Rattle.dbn_top.specs.Starts.Found.{NoFile, NoStore, Damage, Runs}

-- ---- the lines of the verbs

abbrev pub usage_line : List ℕ
usage_line = codes "usage: dbnet check | try | new | run [--every N] | dump | demo [--size N]\n"

abbrev pub kind_word : NetKind → List ℕ
kind_word kind.Syntax = codes "syntax"
kind_word kind.Declaration = codes "declaration"
kind_word kind.Limit = codes "limit"
kind_word kind.Duplicate = codes "duplicate"
kind_word kind.Unknown = codes "unknown"
kind_word kind.Arity = codes "arity"
kind_word kind.TypeClash = codes "type-clash"
kind_word kind.Unbound = codes "unbound"
kind_word kind.Unsafe = codes "unsafe"
kind_word kind.Count = codes "count"
kind_word kind.Inconsistent = codes "inconsistent"

-- net LINE KIND
abbrev pub net_line : ℕ → NetKind → List ℕ
net_line line kind = codes "net " ++ decimal line ++ codes " " ++ kind_word kind ++ codes "\n"

-- store damaged PLACE
abbrev pub damaged_line : ℕ → List ℕ
damaged_line place = codes "store damaged " ++ decimal place ++ codes "\n"

-- ---- how a call is due to end

-- what is due for the net of a text, where it is accepted, and for any other text
abbrev pub with_net : Limits → List ℕ → (Situation → Declared) → Declared
with_net limits net then = by_net limits net (due status.InputLimit (codes "")) (λ line kind. due status.Net (net_line line kind)) then

-- what is due for the run of two files, where they have one, and for any others
abbrev pub with_store : Found → (RunState → Declared) → Declared
with_store NoFile then = due status.Store (codes "store not-made\n")
with_store NoStore then = due status.Store (codes "store not-a-store\n")
with_store (Damage place) then = due status.Store (damaged_line place)
with_store (Runs r) then = then r

-- the replies to all commands, or to those that end within the limit
abbrev pub replies : Limits → Option ℕ → List ℕ → RunState → Declared
replies limits every commands r =
    due (cond (nat_lt limits.input_bytes (length commands)) status.InputLimit status.Done) (text_of (step (terms_of limits every)) r (due_lines limits.input_bytes commands))

abbrev pub making : Limits → List ℕ → List ℕ → Situation → Declared
making limits a b s =
    cond (is_made (folder a b)) (due status.Store (codes "store exists\n"))
    (cond (is_allowed limits.net_bytes limits.file_bytes (length (text_at s))) (due status.Done (codes "made\n")) (due status.Store (codes "store full\n")))

abbrev pub declared : Limits → Option Verb → Given → Declared
declared limits None given = due status.Usage usage_line
declared limits (Some Check) given = with_net limits given.net (λ s. due status.Done (codes "accepted\n"))
declared limits (Some Try) given = with_net limits given.net (λ s. replies limits None given.commands (run_in_memory given.net s))
declared limits (Some New) given = with_net limits given.net (making limits given.a given.b)
declared limits (Some (Run every)) given = with_store (found limits given.a given.b) (replies limits every given.commands)
declared limits (Some Dump) given = with_store (found limits given.a given.b) (λ r. due status.Done (text_at r.now))
declared limits (Some (Demo size)) given = due status.Done (demo_line limits size)

-- ---- what is used

-- by the verb alone
abbrev pub uses_of : Option Verb → Uses
uses_of None = uses false false false
uses_of (Some Check) = uses true false false
uses_of (Some Try) = uses true true false
uses_of (Some New) = uses true false true
uses_of (Some (Run every)) = uses false true true
uses_of (Some Dump) = uses false false true
uses_of (Some (Demo size)) = uses false false false

-- by what was read before: commands only where there is a run, and the disks of a new store only for an accepted net
abbrev pub reached : Limits → Option Verb → Given → Uses
reached limits None given = uses_of None
reached limits (Some Check) given = uses_of (Some Check)
reached limits (Some Try) given = uses true (is_there (accepted_in limits given.net)) false
reached limits (Some New) given = uses true false (is_there (accepted_in limits given.net))
reached limits (Some (Run every)) given = uses false (is_there (run_in (found limits given.a given.b))) true
reached limits (Some Dump) given = uses_of (Some Dump)
reached limits (Some (Demo size)) given = uses_of (Some (Demo size))

-- ---- the run that is served

abbrev pub answers_from : Limits → Option ℕ → Option RunState → Option (List Line → List ℕ)
answers_from limits every None = None
answers_from limits every (Some r) = Some (text_of (step (terms_of limits every)) r)

abbrev pub memory_run : List ℕ → Option Situation → Option RunState
memory_run text None = None
memory_run text (Some s) = Some (run_in_memory text s)

-- the replies to the first lines of the commands, one after the other, where the verb serves them
abbrev pub answers_of : Limits → Option Verb → Given → Option (List Line → List ℕ)
answers_of limits None given = None
answers_of limits (Some Check) given = None
answers_of limits (Some Try) given = answers_from limits None (memory_run given.net (accepted_in limits given.net))
answers_of limits (Some New) given = None
answers_of limits (Some (Run every)) given = answers_from limits every (run_in (found limits given.a given.b))
answers_of limits (Some Dump) given = None
answers_of limits (Some (Demo size)) given = None
