-- Worked lines and replies of one net, computed.
use Rattle.std.proofs.Common.{◌≡◌, ℕ, pos, negsuc, true, false, List, [], ◌∷◌, refl, None, Ok, Err, Result, codes}
use Rattle.dbn_value.specs.Spelling.{value_of_bytes}
use Rattle.dbn_value.specs.declared.value.Value.TheVariants.{Int}
use Rattle.dbn_value.specs.declared.value.ColType.{ColType}
use Rattle.dbn_value.specs.declared.value.ColType.TheVariants as col
use Rattle.dbn_value.specs.declared.term.Var.{Var}
use Rattle.dbn_net.specs.declared.rules.Transition.{Transition}
use Rattle.dbn_net.specs.declared.decl.Place.TheVariants.{Control}
use Rattle.dbn_net.specs.declared.decl.Decl.{Decl}
use Rattle.dbn_net.specs.declared.decl.Decl.TheVariants.{Relation, Site, Trans}
use Rattle.dbn_command.specs.declared.command.Command.{Command}
use Rattle.dbn_command.specs.declared.command.Command.TheVariants as command
use Rattle.dbn_command.specs.declared.fault.LineFault.{LineFault}
use Rattle.dbn_command.specs.declared.fault.LineFault.TheVariants.{Line, Unknown, Shape}
use Rattle.dbn_command.specs.declared.reply.Reply.TheVariants as reply
use Rattle.dbn_command.specs.Gives.{each}
use Rattle.dbn_command.specs.Tokens.{tokens}
use Rattle.dbn_command.specs.Lines.{member_of, name_in, value_in, call_in, group_in, number_in, member_in, one_name, bindings_in, marking_in, facts_in, fire_in, members_of_group_in, checkpoint_in, verb_in, command_in, asked}
use Rattle.dbn_command.specs.Replies.{reply_text}

abbrev named : ℕ → Var
named letter = record { name = letter ∷ []; mark = 0 }

abbrev taking : List ℕ → List (Var × ColType) → List (Var × ColType) → List Var → Transition
taking name bound asked fresh = record {
  name = name;
  ins = [];
  reads = [];
  mixture = [];
  guard = None;
  asked = asked;
  fresh = fresh;
  call = None;
  outs = [];
  backs = [];
  bound = bound;
}

-- a relation Emp of texts, a place New of texts; `open` takes a text e and makes an id n, `note` takes an int n and asks for a
-- text a, `count` takes an int n
abbrev net : List Decl
net =
    Relation (codes "Emp") ((codes "name", col.Text) ∷ [])
    ∷ Site (Control (codes "New") (col.Text ∷ []))
    ∷ Trans (taking (codes "open") ((named 101, col.Text) ∷ []) [] (named 110 ∷ []))
    ∷ Trans (taking (codes "note") ((named 110, col.Int) ∷ []) ((named 97, col.Text) ∷ []) [])
    ∷ Trans (taking (codes "count") ((named 110, col.Int) ∷ []) [] [])
    ∷ []

-- ---- tokens

a_text : tokens (codes "fire open \"a b\"") ≡ codes "fire" ∷ codes "open" ∷ codes "\"a b\"" ∷ []
unfolding tokens
a_text = refl

a_quote_in_a_text : tokens (codes "fire open \"\\\" ;\" ;") ≡ codes "fire" ∷ codes "open" ∷ codes "\"\\\" ;\"" ∷ codes ";" ∷ []
unfolding tokens
a_quote_in_a_text = refl

more_behind_a_text : tokens (codes "open \"a b\"x y") ≡ codes "open" ∷ codes "\"a b\"x" ∷ codes "y" ∷ []
unfolding tokens
more_behind_a_text = refl

an_open_text : tokens (codes "open \"a b ") ≡ codes "open" ∷ codes "\"a b " ∷ []
unfolding tokens
an_open_text = refl

-- ---- lines

abbrev in_folder : List ℕ → Result Command LineFault
in_folder line = asked net true line

blanks : in_folder (codes " \t ") ≡ Ok command.Blank
unfolding asked command_in tokens
blanks = refl

a_comment : in_folder (codes "\t ;fire open") ≡ Ok command.Blank
unfolding asked command_in tokens
a_comment = refl

enabled_rows : in_folder (codes "bindings note") ≡ Ok (command.Bindings 1)
unfolding asked command_in tokens verb_in bindings_in one_name name_in number_in
enabled_rows = refl

tokens_of_a_place : in_folder (codes "\tmarking \t New ") ≡ Ok (command.Marking 0)
unfolding asked command_in tokens verb_in marking_in one_name name_in number_in
tokens_of_a_place = refl

rows_of_a_relation : in_folder (codes "facts Emp") ≡ Ok (command.Facts 0)
unfolding asked command_in tokens verb_in facts_in one_name name_in number_in
rows_of_a_relation = refl

no_such_place : in_folder (codes "marking Emp") ≡ Err (Unknown (codes "Emp"))
unfolding asked command_in tokens verb_in marking_in one_name name_in number_in
no_such_place = refl

an_operator_is_no_name : in_folder (codes "facts =") ≡ Err Line
unfolding asked command_in tokens verb_in facts_in one_name name_in
an_operator_is_no_name = refl

an_int : in_folder (codes "fire note -1 2") ≡ Err Shape
unfolding asked command_in tokens verb_in fire_in call_in name_in each value_in value_of_bytes member_in number_in
an_int = refl

too_few_values : in_folder (codes "fire note 1") ≡ Err Shape
unfolding asked command_in tokens verb_in fire_in call_in name_in each value_in value_of_bytes member_in number_in
too_few_values = refl

form_before_name : in_folder (codes "fire close 01") ≡ Err Line
unfolding asked command_in tokens verb_in fire_in call_in name_in each value_in value_of_bytes
form_before_name = refl

name_before_shape : in_folder (codes "fire close 1") ≡ Err (Unknown (codes "close"))
unfolding asked command_in tokens verb_in fire_in call_in name_in each value_in value_of_bytes member_in number_in
name_before_shape = refl

a_group : in_folder (codes "group count 1 ; count -2") ≡ Ok (command.Group (member_of 2 (Int (pos 1) ∷ []) ∷ member_of 2 (Int (negsuc 1) ∷ []) ∷ []))
unfolding asked command_in tokens verb_in members_of_group_in group_in call_in name_in each value_in value_of_bytes member_in number_in
a_group = refl

a_firing : in_folder (codes "fire count 007") ≡ Err Line
unfolding asked command_in tokens verb_in fire_in call_in name_in each value_in value_of_bytes
a_firing = refl

no_member : in_folder (codes "group") ≡ Err Line
unfolding asked command_in tokens verb_in members_of_group_in group_in call_in each
no_member = refl

no_last_member : in_folder (codes "group count 1 ;") ≡ Err Line
unfolding asked command_in tokens verb_in members_of_group_in group_in call_in name_in each value_in value_of_bytes
no_last_member = refl

no_first_member : in_folder (codes "group ; note") ≡ Err Line
unfolding asked command_in tokens verb_in members_of_group_in group_in call_in each
no_first_member = refl

a_semicolon_without_blanks : in_folder (codes "group note;note") ≡ Err Line
unfolding asked command_in tokens verb_in members_of_group_in group_in call_in name_in each
a_semicolon_without_blanks = refl

names_before_shapes : in_folder (codes "group note ; shut ; lock") ≡ Err (Unknown (codes "shut"))
unfolding asked command_in tokens verb_in members_of_group_in group_in call_in name_in each member_in number_in
names_before_shapes = refl

a_checkpoint : in_folder (codes "checkpoint") ≡ Ok command.Checkpoint
unfolding asked command_in tokens verb_in checkpoint_in
a_checkpoint = refl

no_folder : asked net false (codes "checkpoint") ≡ Err Line
unfolding asked command_in tokens verb_in checkpoint_in
no_folder = refl

another_verb : in_folder (codes "Fire open \"a\"") ≡ Err Line
unfolding asked command_in tokens verb_in
another_verb = refl

-- ---- replies

an_unknown_name : reply_text net (reply.Unknown (codes "close")) ≡ codes "error unknown close\n"
unfolding reply_text
an_unknown_name = refl

too_many_tokens : reply_text net (reply.Count 0) ≡ codes "refused count New\n"
unfolding reply_text
too_many_tokens = refl
