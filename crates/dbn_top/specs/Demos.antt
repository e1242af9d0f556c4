-- The demo: a net and commands that are made from a number, and the line that counts the replies.
use Rattle.std.specs.Prelude.{ℕ, zero, suc, ◌+◌, ◌-◌, ◌*◌, ◌/◌, ◌%◌, ◌^◌, ◌==◌, cond, List, [], ◌∷◌, ◌++◌, length, sum_by, nat_eq, count_by, None, codes, decimal}
use Rattle.std.specs.List.{concat, starts_with}
use Rattle.dbn_model.specs.Lines.{Line, parts, lines}
use Rattle.dbn_model.specs.Runs.{text_of, state_after}
use Rattle.dbn_io.specs.declared.limits.Limits.{Limits}
use Rattle.dbn_net.specs.Texts.{reads}
use Rattle.dbn_store.specs.States.{Situation, RunState}
use Rattle.dbn_engine.specs.Steps.{Terms, step}
use Rattle.dbn_top.specs.declared.generating.Generator.{Generator}
use Rattle.dbn_top.specs.Starts.{by_reading, run_in_memory, terms_of}

-- ---- the net

-- the net of tickets: employees, jobs to be opened, and desks
unfoldable pub tickets : List (List ℕ)
tickets =
    codes "(relation Emp (e text))\n"
    ∷ codes "(relation Ticket (t id) (d text))\n"
    ∷ codes "(relation Resp (t id) (e text))\n"
    ∷ codes "(key Ticket t)\n"
    ∷ codes "(key Resp t)\n"
    ∷ codes "(foreign Resp (t) Ticket (t))\n"
    ∷ codes "(foreign Resp (e) Emp (e))\n"
    ∷ codes "(always busy (forall ((t id) (u id) (e text)) (implies (and (Resp t e) (Resp u e)) (= t u))))\n"
    ∷ codes "(query idle ((e text)) (and (Emp e) (not (exists ((t id)) (Resp t e)))))\n"
    ∷ codes "(action register ((t id) (d text)) (delete) (add (Ticket t d)))\n"
    ∷ codes "(action give ((t id) (e text)) (delete) (add (Resp t e)))\n"
    ∷ codes "(action finish ((t id) (e text)) (delete (Resp t e)) (add))\n"
    ∷ codes "(place New text)\n"
    ∷ codes "(place Wait id)\n"
    ∷ codes "(place Desk text)\n"
    ∷ codes "(place Work id text)\n"
    ∷ codes "(place Bad id text)\n"
    ∷ codes "(view Idle idle)\n"
    ∷ codes "(transition open (in New (1 d)) (fresh n) (do register n d) (out Wait (1 n)))\n"
    ∷ codes "(transition assign (in Wait (1 t)) (read Idle e) (do give t e) (out Work (1 t e)) (back Wait (1 t)))\n"
    ∷ codes "(transition take (in Wait (1 t)) (in Desk (1 e)) (do give t e) (out Work (1 t e)) (back Bad (1 t e)))\n"
    ∷ codes "(transition close (in Work (1 t e)) (do finish t e))\n"
    ∷ []

-- a line with this front that ends with the name of employee n, from e0 on
abbrev pub employee_line : List ℕ → ℕ → List ℕ
employee_line front n = front ++ codes "\"e" ++ decimal n ++ codes "\")\n"

-- a line with the same front for each of the first n employees
unfoldable pub for_each : List ℕ → ℕ → List ℕ
for_each front zero = []
for_each front (suc n) = for_each front n ++ employee_line front n

-- so many jobs
abbrev pub jobs : ℕ → List ℕ
jobs size = codes "(token New " ++ decimal size ++ codes " \"job\")\n"

-- the front of the line for so many tokens of one employee
abbrev pub desk_front : ℕ → List ℕ
desk_front size = codes "(token Desk " ++ decimal size ++ codes " "

unfoldable pub demo_net : ℕ → List ℕ
demo_net size =
    concat tickets ++ for_each (codes "(fact Emp ") 10 ++ jobs size ++ for_each (desk_front size) 10

-- ---- the commands

-- the next number of 64 bits
unfoldable pub drawn : ℕ → ℕ
drawn number = (6364136223846793005 * number + 1442695040888963407) % 2 ^ 64

-- its upper bits, without the lower 33
abbrev pub choice_of : ℕ → ℕ
choice_of number = number / 2 ^ 33

-- a ticket among the last ones that were asked for
abbrev pub ticket_of : ℕ → ℕ → ℕ
ticket_of choice asked = asked - (choice / 4) % 16

abbrev pub verb_for : ℕ → List ℕ
verb_for kind = cond (kind == 1) (codes "assign") (cond (kind == 2) (codes "take") (codes "close"))

abbrev pub of_ticket : List ℕ → ℕ → List ℕ
of_ticket verb ticket = codes "fire " ++ verb ++ codes " #" ++ decimal ticket ++ codes " \"e" ++ decimal (ticket % 10) ++ codes "\"\n"

-- by the choice modulo 4, and the ticket
abbrev pub command_for : ℕ → ℕ → List ℕ
command_for kind ticket = cond (kind == 0) (codes "fire open \"job\"\n") (of_ticket (verb_for kind) ticket)

-- by the number that was drawn, and how many tickets were asked for before
unfoldable pub line_at : ℕ → ℕ → List ℕ
line_at number asked = command_for (choice_of number % 4) (ticket_of (choice_of number) asked)

-- the next command, with its line feed
abbrev pub next_line : Generator → List ℕ
next_line g = line_at (drawn g.number) g.asked

unfoldable pub asked_after : ℕ → ℕ → ℕ
asked_after number asked = cond (choice_of number % 4 == 0) (asked + 1) asked

abbrev pub on : Generator → Generator
on g = record { number = drawn g.number; asked = asked_after (drawn g.number) g.asked }

-- the next n commands
unfoldable pub commands_from : ℕ → Generator → List ℕ
commands_from zero g = []
commands_from (suc n) g = next_line g ++ commands_from n (on g)

unfoldable pub demo_commands : ℕ → List ℕ
demo_commands size = commands_from size (record { number = size; asked = 0 })

-- ---- the line

-- how many lines of the text begin with this
unfoldable pub many : List ℕ → List ℕ → ℕ
many front text = count_by (λ line. starts_with nat_eq line front) (parts text)

-- how many facts there are, of all relations
abbrev pub facts_in : {A : Type 0} → List (List A) → ℕ
facts_in instance = sum_by length instance

-- a word and a count, with a space before each
abbrev pub counted : List ℕ → ℕ → List ℕ
counted word count = codes " " ++ word ++ codes " " ++ decimal count

-- the line with these numbers
abbrev pub numbers_line : ℕ → ℕ → ℕ → ℕ → ℕ → List ℕ
numbers_line size committed rolled_back disabled facts =
    codes "demo " ++ decimal size ++ counted (codes "committed") committed ++ counted (codes "rolled-back") rolled_back
    ++ counted (codes "disabled") disabled ++ counted (codes "facts") facts ++ codes "\n"

-- the line for these replies, each of which has one line, and so many facts behind them
abbrev pub counts_line : ℕ → List ℕ → ℕ → List ℕ
counts_line size text facts =
    numbers_line size (many (codes "committed ") text) (many (codes "rolled-back ") text)
    (many (codes "refused disabled") text) facts

-- how many facts there are behind these lines
abbrev pub facts_behind : Terms → RunState → List Line → ℕ
facts_behind terms r lines = facts_in (state_after (step terms) r lines).now.snapshot.instance

-- the line of a run from this state over these lines
abbrev pub run_line : Terms → ℕ → RunState → List Line → List ℕ
run_line terms size r lines = counts_line size (text_of (step terms) r lines) (facts_behind terms r lines)

-- the run over all commands, in memory
abbrev pub line_from : Limits → ℕ → Situation → List ℕ
line_from limits size s =
    run_line (terms_of limits None) size (run_in_memory (demo_net size) s) (lines (demo_commands size))

-- of the net as it is read; nothing is due for a net that is not accepted
unfoldable pub demo_line : Limits → ℕ → List ℕ
demo_line limits size = by_reading (λ line kind. []) (line_from limits size) (reads (demo_net size))
