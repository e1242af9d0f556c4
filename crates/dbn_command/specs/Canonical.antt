-- The one sure line for each command of a net.
use Rattle.std.specs.Prelude.{◌≡◌, ℕ, ◌<◌, ◌≤◌, Bool, true, List, [], ◌∷◌, ◌++◌, length, map, codes}
use Rattle.std.specs.List.{flat_map, AllByRecursion}
use Rattle.dbn_value.specs.Spelling.{spelling, IsValue}
use Rattle.dbn_value.specs.declared.member.Member.{Member}
use Rattle.dbn_net.specs.declared.decl.Decl.{Decl}
use Rattle.dbn_net.specs.Tables.{relations, places, transitions, relation_names, place_names, transition_names, shapes}
use Rattle.dbn_net.specs.Naming.{name_at}
use Rattle.dbn_command.specs.declared.command.Command.{Command}
use Rattle.dbn_command.specs.declared.command.Command.TheVariants.{Blank, Bindings, Fire, Group, Marking, Facts, Checkpoint}
use Rattle.dbn_command.specs.Lines.{member_of, fits, most_members}

-- the words with one space between two of them
unfoldable pub joined : List (List ℕ) → List ℕ
joined [] = []
joined (word ∷ words) = word ++ flat_map (λ w. 32 ∷ w) words

-- the name of the transition and the values
abbrev pub member_words : List Decl → Member → List (List ℕ)
member_words net m = name_at (transition_names net) m.t ∷ map spelling m.row

-- the members with a semicolon between two of them
unfoldable pub group_words : List Decl → List Member → List (List ℕ)
group_words net [] = []
group_words net (m ∷ []) = member_words net m
group_words net (m ∷ next ∷ members) = member_words net m ++ codes ";" ∷ group_words net (next ∷ members)

abbrev pub words_of : List Decl → Command → List (List ℕ)
words_of net Blank = []
words_of net (Bindings t) = codes "bindings" ∷ name_at (transition_names net) t ∷ []
words_of net (Fire t row) = codes "fire" ∷ member_words net (member_of t row)
words_of net (Group members) = codes "group" ∷ group_words net members
words_of net (Marking place) = codes "marking" ∷ name_at (place_names net) place ∷ []
words_of net (Facts rel) = codes "facts" ∷ name_at (relation_names net) rel ∷ []
words_of net Checkpoint = codes "checkpoint" ∷ []

-- the canonical line of a command
abbrev pub line_of : List Decl → Command → List ℕ
line_of net command = joined (words_of net command)

-- a transition of the net, with values in range and of the types of its variables
pub record IsMember (net : List Decl) (m : Member) : Type 0 where
  pub number : m.t < length (transitions net)
  pub fits : fits (shapes net) m ≡ true
  pub values : AllByRecursion IsValue m.row

-- a command of the net; a checkpoint is one where there is a folder
abbrev pub IsCommand : List Decl → Bool → Command → Type 0
IsCommand net folder Blank = Unit {0}
IsCommand net folder (Bindings t) = t < length (transitions net)
IsCommand net folder (Fire t row) = IsMember net (member_of t row)
IsCommand net folder (Group members) = (1 ≤ length members) × (length members ≤ most_members) × AllByRecursion (IsMember net) members
IsCommand net folder (Marking place) = place < length (places net)
IsCommand net folder (Facts rel) = rel < length (relations net)
IsCommand net folder Checkpoint = folder ≡ true
