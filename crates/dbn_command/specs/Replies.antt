-- The text of each reply. Each line ends with a line feed, and one space stands between two items.
use Rattle.std.specs.Prelude.{ℕ, ◌+◌, ◌<◌, ◌≤◌, ◌^◌, Bool, true, false, if◌then◌else◌, List, [], ◌∷◌, ◌++◌, length, codes, decimal, slice_get}
use Rattle.std.specs.List.{flat_map, AllByRecursion}
use Rattle.std.specs.Option.{option_map_or}
use Rattle.dbn_value.specs.Spelling.{spelling}
use Rattle.dbn_value.specs.declared.value.Value.{Value}
use Rattle.dbn_value.specs.declared.value.ColType.{ColType}
use Rattle.dbn_value.specs.declared.term.Var.{Var}
use Rattle.dbn_net.specs.declared.decl.Decl.{Decl}
use Rattle.dbn_net.specs.Tables.{places, place_names, transitions}
use Rattle.dbn_net.specs.Naming.{name_at}
use Rattle.dbn_command.specs.declared.reply.Reply.{Reply}
use Rattle.dbn_command.specs.declared.reply.Reply.TheVariants as reply
use Rattle.dbn_command.specs.declared.reply.MemberWhy.{MemberWhy}
use Rattle.dbn_command.specs.declared.reply.MemberWhy.TheVariants as why
use Rattle.dbn_command.specs.declared.reply.GroupLine.{GroupLine}

-- the variables of a transition that the tokens bind, and those that get new ids
abbrev pub bound_of : List Decl → ℕ → List (Var × ColType)
bound_of net t = option_map_or (λ x. x.bound) (slice_get (transitions net) t) []

abbrev pub fresh_of : List Decl → ℕ → List Var
fresh_of net t = option_map_or (λ x. x.fresh) (slice_get (transitions net) t) []

-- ` v` for each value
abbrev pub values_text : List Value → List ℕ
values_text row = flat_map (λ v. 32 ∷ spelling v) row

-- ` x=v` for each variable and its value
abbrev pub bound_text : List (Var × ColType) → List Value → List ℕ
bound_text [] row = []
bound_text (x ∷ vars) [] = []
bound_text (x ∷ vars) (v ∷ row) = 32 ∷ x.0.name ++ codes "=" ++ spelling v ++ bound_text vars row

-- ` x=#n` for each variable, with ids from n on
abbrev pub fresh_text : List Var → ℕ → List ℕ
fresh_text [] n = []
fresh_text (x ∷ vars) n = 32 ∷ x.name ++ codes "=#" ++ decimal n ++ fresh_text vars (n + 1)

-- how a firing ended, the number of firings afterwards, and its new ids
unfoldable pub fired_text : List Decl → Bool → ℕ → ℕ → ℕ → List ℕ
fired_text net committed t fired first =
    (if committed then codes "committed " else codes "rolled-back ") ++ decimal fired ++ fresh_text (fresh_of net t) first ++ codes "\n"

-- the line of a row
unfoldable pub row_line : {A : Type 0} → (A → List ℕ) → A → List ℕ
row_line items row = codes "row" ++ items row ++ codes "\n"

-- a line for each row, then the word and how many rows there are
unfoldable pub rows_text : {A : Type 0} → (A → List ℕ) → List ℕ → List A → List ℕ
rows_text items word rows = flat_map (row_line items) rows ++ word ++ decimal (length rows) ++ codes "\n"

-- ` COUNT v ..`
abbrev pub counted_text : List Value × ℕ → List ℕ
counted_text counted = 32 ∷ decimal counted.1 ++ values_text counted.0

abbrev pub place_at : List Decl → ℕ → List ℕ
place_at net p = name_at (place_names net) p

unfoldable pub why_text : List Decl → MemberWhy → List ℕ
why_text net why.Disabled = codes "disabled"
why_text net why.UnknownId = codes "id"
why_text net why.FreshEnd = codes "fresh-end"
why_text net why.FiringEnd = codes "firing-end"
why_text net (why.Count p) = codes "count " ++ place_at net p

unfoldable pub group_line_text : List Decl → GroupLine → List ℕ
group_line_text net l = fired_text net l.committed l.t l.fired l.first

unfoldable pub reply_text : List Decl → Reply → List ℕ
reply_text net reply.Long = codes "error long\n"
reply_text net reply.Line = codes "error line\n"
reply_text net (reply.Unknown name) = codes "error unknown " ++ name ++ codes "\n"
reply_text net reply.Shape = codes "error shape\n"
reply_text net reply.Disabled = codes "refused disabled\n"
reply_text net reply.UnknownId = codes "refused id\n"
reply_text net reply.FreshEnd = codes "refused fresh-end\n"
reply_text net reply.FiringEnd = codes "refused firing-end\n"
reply_text net reply.OldStore = codes "refused old-store\n"
reply_text net reply.StoreFull = codes "refused store-full\n"
reply_text net (reply.Count p) = codes "refused count " ++ place_at net p ++ codes "\n"
reply_text net (reply.Member number why) = codes "member " ++ decimal number ++ codes " refused " ++ why_text net why ++ codes "\n"
reply_text net (reply.Committed t fired first) = fired_text net true t fired first
reply_text net (reply.RolledBack t fired first) = fired_text net false t fired first
reply_text net (reply.Group lines) = flat_map (group_line_text net) lines ++ codes "group " ++ decimal (length lines) ++ codes "\n"
reply_text net (reply.Bindings t rows) = rows_text (bound_text (bound_of net t)) (codes "bindings ") rows
reply_text net (reply.Marking rows) = rows_text counted_text (codes "marking ") rows
reply_text net (reply.Facts rows) = rows_text values_text (codes "facts ") rows
reply_text net (reply.Checkpoint generation) = codes "checkpoint " ++ decimal generation ++ codes "\n"

-- ---- replies that have a text: numbers of the net, and ids up to the last one

abbrev pub IsTransition : List Decl → ℕ → Type 0
IsTransition net t = t < length (transitions net)

abbrev pub HasIds : List Decl → ℕ → ℕ → Type 0
HasIds net t first = IsTransition net t × (first + length (fresh_of net t) ≤ 2 ^ 62)

abbrev pub IsWhy : List Decl → MemberWhy → Type 0
IsWhy net (why.Count p) = p < length (places net)
IsWhy net why.Disabled = Unit {0}
IsWhy net why.UnknownId = Unit {0}
IsWhy net why.FreshEnd = Unit {0}
IsWhy net why.FiringEnd = Unit {0}

abbrev pub IsReply : List Decl → Reply → Type 0
IsReply net (reply.Count p) = p < length (places net)
IsReply net (reply.Member number why) = IsWhy net why
IsReply net (reply.Committed t fired first) = HasIds net t first
IsReply net (reply.RolledBack t fired first) = HasIds net t first
IsReply net (reply.Group lines) = AllByRecursion (λ l. HasIds net l.t l.first) lines
IsReply net (reply.Bindings t rows) = IsTransition net t
IsReply net reply.Long = Unit {0}
IsReply net reply.Line = Unit {0}
IsReply net (reply.Unknown name) = Unit {0}
IsReply net reply.Shape = Unit {0}
IsReply net reply.Disabled = Unit {0}
IsReply net reply.UnknownId = Unit {0}
IsReply net reply.FreshEnd = Unit {0}
IsReply net reply.FiringEnd = Unit {0}
IsReply net reply.OldStore = Unit {0}
IsReply net reply.StoreFull = Unit {0}
IsReply net (reply.Marking rows) = Unit {0}
IsReply net (reply.Facts rows) = Unit {0}
IsReply net (reply.Checkpoint generation) = Unit {0}
