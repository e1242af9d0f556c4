-- What a line asks for, by its bytes and the net.
use Rattle.std.specs.Prelude.{ℕ, Bool, ◌&&◌, ◌==◌, nat_le, if◌then◌else◌, List, [], ◌∷◌, length, Result, Ok, Err, codes, bytes_eq, slice_index_or}
use Rattle.std.specs.List.{list_all, slice_split}
use Rattle.dbn_value.specs.Text.{is_identifier}
use Rattle.dbn_value.specs.Spelling.{value_of_bytes}
use Rattle.dbn_value.specs.declared.value.Value.{Value}
use Rattle.dbn_value.specs.declared.value.ColType.{ColType}
use Rattle.dbn_value.specs.declared.member.Member.{Member}
use Rattle.dbn_net.specs.declared.decl.Decl.{Decl}
use Rattle.dbn_net.specs.Tables.{columns, relation_names, place_names, transition_names, shapes}
use Rattle.dbn_net.specs.Naming.{number_of}
use Rattle.dbn_net.specs.Judging.{as_many, row_fits}
use Rattle.dbn_command.specs.declared.call.Call.{Call}
use Rattle.dbn_command.specs.declared.command.Command.{Command}
use Rattle.dbn_command.specs.declared.command.Command.TheVariants.{Blank, Bindings, Fire, Group, Marking, Facts, Checkpoint}
use Rattle.dbn_command.specs.declared.fault.LineFault.{LineFault}
use Rattle.dbn_command.specs.declared.fault.LineFault.TheVariants.{Line, Unknown, Shape}
use Rattle.dbn_command.specs.Gives.{◌>>=◌, each, found_or}
use Rattle.dbn_command.specs.Tokens.{tokens}

-- ---- names, values, calls: where the line is in no form

-- a name of at most 64 bytes
abbrev pub is_short_name : List ℕ → Bool
is_short_name bytes = is_identifier bytes && nat_le (length bytes) 64

unfoldable pub name_in : List ℕ → Result (List ℕ) LineFault
name_in token = if is_short_name token then Ok token else Err Line

unfoldable pub value_in : List ℕ → Result Value LineFault
value_in token = found_or Line (value_of_bytes token)

abbrev pub row_in : List (List ℕ) → Result (List Value) LineFault
row_in tokens = each value_in tokens

abbrev pub call_of : List ℕ → List Value → Call
call_of name row = record { name = name; row = row }

-- the name of a transition, and values
unfoldable pub call_in : List (List ℕ) → Result Call LineFault
call_in [] = Err Line
call_in (token ∷ tokens) = do
  name ← name_in token
  row ← row_in tokens
  Ok (call_of name row)

abbrev pub is_semicolon : List ℕ → Bool
is_semicolon token = bytes_eq token (codes ";")

-- the greatest number of members of a group
abbrev pub most_members : ℕ
most_members = 4096

abbrev pub few_calls : List (List (List ℕ)) → Result (List Call) LineFault
few_calls parts = if nat_le (length parts) most_members then each call_in parts else Err Line

-- calls between semicolons, 1 to 4,096 of them
unfoldable pub group_in : List (List ℕ) → Result (List Call) LineFault
group_in tokens = few_calls (slice_split is_semicolon tokens)

-- ---- numbers for names: where a name is unknown

unfoldable pub number_in : List (List ℕ) → List ℕ → Result ℕ LineFault
number_in names name = found_or (Unknown name) (number_of names name)

abbrev pub member_of : ℕ → List Value → Member
member_of t row = record { t = t; row = row }

unfoldable pub member_in : List (List ℕ) → Call → Result Member LineFault
member_in names call = do
  t ← number_in names call.name
  Ok (member_of t call.row)

-- ---- shapes

abbrev pub has_shape : List Value → List ColType → Bool
has_shape row shape = as_many row shape && row_fits row shape

-- as many values as the transition has bound and asked variables, each of the type of its variable
abbrev pub fits : List (List ColType) → Member → Bool
fits shapes member = has_shape member.row (columns shapes member.t)

-- ---- commands

-- the one name that is asked for
unfoldable pub one_name : List (List ℕ) → Result (List ℕ) LineFault
one_name [] = Err Line
one_name (token ∷ []) = name_in token
one_name (token ∷ other ∷ tokens) = Err Line

unfoldable pub bindings_in : List Decl → List (List ℕ) → Result Command LineFault
bindings_in net tokens = do
  name ← one_name tokens
  t ← number_in (transition_names net) name
  Ok (Bindings t)

unfoldable pub marking_in : List Decl → List (List ℕ) → Result Command LineFault
marking_in net tokens = do
  name ← one_name tokens
  place ← number_in (place_names net) name
  Ok (Marking place)

unfoldable pub facts_in : List Decl → List (List ℕ) → Result Command LineFault
facts_in net tokens = do
  name ← one_name tokens
  rel ← number_in (relation_names net) name
  Ok (Facts rel)

unfoldable pub fire_in : List Decl → List (List ℕ) → Result Command LineFault
fire_in net tokens = do
  call ← call_in tokens
  member ← member_in (transition_names net) call
  if fits (shapes net) member then Ok (Fire member.t member.row) else Err Shape

-- over all members, a fault of form comes before an unknown name, and that before another shape
unfoldable pub members_of_group_in : List Decl → List (List ℕ) → Result Command LineFault
members_of_group_in net tokens = do
  calls ← group_in tokens
  members ← each (member_in (transition_names net)) calls
  if list_all (fits (shapes net)) members then Ok (Group members) else Err Shape

-- the last command, which only a folder has
unfoldable pub checkpoint_in : Bool → List (List ℕ) → Result Command LineFault
checkpoint_in folder tokens = if folder && length tokens == 0 then Ok Checkpoint else Err Line

-- by the first token
unfoldable pub verb_in : List Decl → Bool → List ℕ → List (List ℕ) → Result Command LineFault
verb_in net folder verb tokens =
    if bytes_eq verb (codes "bindings") then bindings_in net tokens
    else (if bytes_eq verb (codes "fire") then fire_in net tokens
    else (if bytes_eq verb (codes "group") then members_of_group_in net tokens
    else (if bytes_eq verb (codes "marking") then marking_in net tokens
    else (if bytes_eq verb (codes "facts") then facts_in net tokens
    else (if bytes_eq verb (codes "checkpoint") then checkpoint_in folder tokens
    else Err Line)))))

-- the first byte is a semicolon
abbrev pub is_comment : List ℕ → Bool
is_comment token = slice_index_or token 0 0 == 59

-- a line without tokens, or with a comment, asks for nothing
unfoldable pub command_in : List Decl → Bool → List (List ℕ) → Result Command LineFault
command_in net folder [] = Ok Blank
command_in net folder (verb ∷ tokens) = if is_comment verb then Ok Blank else verb_in net folder verb tokens

-- what a line asks for, or the first of its faults
unfoldable pub asked : List Decl → Bool → List ℕ → Result Command LineFault
asked net folder line = command_in net folder (tokens line)
