-- What a line asks for is of the net.
use Rattle.std.proofs.Common.{◌≡◌, ◌⊎◌, ℕ, zero, suc, ◌==◌, ◌<◌, ◌≤◌, Bool, true, false, cond, ◌&&◌, List, [], ◌∷◌, length, map, Option, None, Some, Result, Ok, Err, inl, inr, refl, sym, ap, subst, ◌∙◌, ⊎_elim, arith, eqb-true}
use Rattle.std.specs.Prelude.{if◌then◌else◌, nat_le, slice_get, bytes_eq, codes}
use Rattle.std.specs.List.{list_all, slice_split, onto_first}
use Rattle.std.specs.Option.{option_map_or}
use Rattle.std.proofs.lemmas.List.{length-map}
use Rattle.std.proofs.lemmas.Bool.{and_parts, leb-true}
use Rattle.dbn_value.specs.Order.{value_type, type_eq}
use Rattle.dbn_value.specs.declared.value.Value.{Value}
use Rattle.dbn_value.specs.declared.value.ColType.{ColType}
use Rattle.dbn_value.specs.declared.value.ColType.TheVariants as col
use Rattle.dbn_value.specs.declared.member.Member.{Member}
use Rattle.dbn_formula.specs.Solutions.{HasShape}
use Rattle.dbn_net.specs.declared.decl.Decl.{Decl}
use Rattle.dbn_net.specs.declared.rules.Transition.{Transition}
use Rattle.dbn_net.specs.Tables.{relations, places, transitions, relation_names, place_names, transition_names, shapes, shape_of, columns, place_name}
use Rattle.dbn_net.specs.Enabled.{shape_at}
use Rattle.dbn_net.specs.Judging.{as_many, row_fits}
use Rattle.dbn_net.specs.Naming.{number_of}
use Rattle.dbn_net.proofs.NamedLaws.{number_within}
use Rattle.dbn_core.specs.Group.{AreMembers}
use Rattle.dbn_command.specs.declared.command.Command.{Command}
use Rattle.dbn_command.specs.declared.command.Command.TheVariants.{Blank, Bindings, Fire, Group, Marking, Facts, Checkpoint}
use Rattle.dbn_command.specs.declared.fault.LineFault.{LineFault}
use Rattle.dbn_command.specs.declared.fault.LineFault.TheVariants.{Line, Shape}
use Rattle.dbn_command.specs.Gives.{◌>>=◌, each, found_or}
use Rattle.dbn_command.specs.Tokens.{tokens}
use Rattle.dbn_command.specs.Lines.{number_in, member_of, member_in, call_in, group_in, is_semicolon, most_members, fits, one_name, bindings_in, marking_in, facts_in, fire_in, members_of_group_in, checkpoint_in, is_comment, verb_in, command_in, asked}
use Rattle.dbn_engine.specs.Asked.{IsOf}

-- ---- parts of readings

then_found : {A B : Type 0} (x : Result A LineFault) (f : A → Result B LineFault) (y : B) → (x >>= f) ≡ Ok y → ((a : A) × (x ≡ Ok a) × (f a ≡ Ok y))
then_found (Ok a) f y e = (a, refl, e)
then_found (Err fault) f y e = cc

found_is : {A : Type 0} (fault : LineFault) (o : Option A) (x : A) → found_or fault o ≡ Ok x → o ≡ Some x
found_is fault None x e = cc
found_is fault (Some y) x e = cc

passed : {A : Type 0} (b : Bool) (x y : A) (fault : LineFault) → ◌≡◌ {A = Result A LineFault} (if b then Ok x else Err fault) (Ok y) → (b ≡ true) × (x ≡ y)
passed true x y fault e = (refl, cc)
passed false x y fault e = cc

either : {A : Type 0} (b : Bool) (x y : Result A LineFault) (z : A) → (if b then x else y) ≡ Ok z → (x ≡ Ok z) ⊎ (y ≡ Ok z)
either true x y z e = inl e
either false x y z e = inr e

number_found : (names : List (List ℕ)) (name : List ℕ) (n : ℕ) → number_in names name ≡ Ok n → n < length names
unfolding number_in
number_found names name n e = number_within names name n (found_is _ (number_of names name) n e)

is_command : (net : List Decl) (c d : Command) → ◌≡◌ {A = Result Command LineFault} (Ok c) (Ok d) → IsOf net c → IsOf net d
is_command net c d e of = let same : c ≡ d = cc in subst (IsOf net) same of

-- ---- shapes

same_type : (a b : ColType) → type_eq a b ≡ true → a ≡ b
same_type col.Int col.Int e = refl
same_type col.Int col.Text e = cc
same_type col.Int col.Id e = cc
same_type col.Text col.Int e = cc
same_type col.Text col.Text e = refl
same_type col.Text col.Id e = cc
same_type col.Id col.Int e = cc
same_type col.Id col.Text e = cc
same_type col.Id col.Id e = refl

types_from : (row : List Value) (shape : List ColType) → length row ≡ length shape → row_fits row shape ≡ true → map value_type row ≡ shape
types_from [] [] long fit = refl
types_from [] (type ∷ shape) long fit = absurd (omega (arith, long))
types_from (v ∷ row) [] long fit = absurd (omega (arith, long))
types_from (v ∷ row) (type ∷ shape) long fit =
    let (here, later) = and_parts (type_eq (value_type v) type) (row_fits row shape) fit in
    ap (λ t. t ∷ map value_type row) (same_type (value_type v) type here) ∙ ap (λ l. type ∷ l) (types_from row shape (omega (arith, long)) later)

columns_at : (all : List Transition) (t : ℕ) → columns (map shape_of all) t ≡ option_map_or shape_of (slice_get all t) []
columns_at [] t = refl
columns_at (x ∷ all) zero = refl
columns_at (x ∷ all) (suc t) = columns_at all t

shape_from : (net : List Decl) (m : Member) → fits (shapes net) m ≡ true → HasShape m.row (shape_at net m.t)
shape_from net m e =
    let shape = columns (shapes net) m.t in
    let (long, fit) = and_parts (as_many m.row shape) (row_fits m.row shape) e in
    types_from m.row shape (eqb-true (length m.row) (length shape) long) fit ∙ columns_at (transitions net) m.t

-- ---- members

transition_within : (net : List Decl) (name : List ℕ) (t : ℕ) → number_in (transition_names net) name ≡ Ok t → t < length (transitions net)
transition_within net name t e =
    let within : t < length (transition_names net) = number_found (transition_names net) name t e in
    omega (arith, length-map (transitions net) (λ x. x.name))

member_made : (net : List Decl) (name : List ℕ) (row : List Value) (m : Member) → (number_in (transition_names net) name >>= λ t. Ok (member_of t row)) ≡ Ok m → m.t < length (transitions net)
member_made net name row m e =
    let (t, number, rest) = then_found (number_in (transition_names net) name) _ m e in
    let same : member_of t row ≡ m = cc in
    let number_same : t ≡ m.t = ap (λ (x : Member). x.t) same in
    let within : t < length (transitions net) = transition_within net name t number in
    omega arith

each_length : {A B : Type 0} (f : A → Result B LineFault) (xs : List A) (ys : List B) → each f xs ≡ Ok ys → length ys ≡ length xs
unfolding each
each_length f [] ys e = let same : [] ≡ ys = cc in ap length (sym same)
each_length f (x ∷ xs) ys e =
    let (first, a, rest) = then_found (f x) _ ys e in
    let (others, b, last) = then_found (each f xs) _ ys rest in
    let same : first ∷ others ≡ ys = cc in
    ap length (sym same) ∙ ap suc (each_length f xs others b)

-- each is read as a member of the net
abbrev Within : {A : Type 0} → List Decl → (A → Result Member LineFault) → Type 0
Within {A} net read = (x : A) (m : Member) → read x ≡ Ok m → m.t < length (transitions net)

members_fit : {A : Type 0} (net : List Decl) (read : A → Result Member LineFault) (xs : List A) (members : List Member) → Within net read → each read xs ≡ Ok members → list_all (fits (shapes net)) members ≡ true → AreMembers net members
unfolding each
members_fit net read [] members within e fit = let same : [] ≡ members = cc in subst (AreMembers net) same tt
members_fit net read (x ∷ xs) members within e fit =
    let (m, a, rest) = then_found (read x) _ members e in
    let (others, b, last) = then_found (each read xs) _ members rest in
    let same : m ∷ others ≡ members = cc in
    let all : list_all (fits (shapes net)) (m ∷ others) ≡ true = subst (λ (l : List Member). list_all (fits (shapes net)) l ≡ true) (sym same) fit in
    let (here, later) = and_parts (fits (shapes net) m) (list_all (fits (shapes net)) others) all in
    subst (AreMembers net) same (record { within = within x m a; shape = shape_from net m here }, members_fit net read xs others within b later)

-- ---- commands

bindings_of : (net : List Decl) (words : List (List ℕ)) (c : Command) → bindings_in net words ≡ Ok c → IsOf net c
unfolding bindings_in
bindings_of net words c e =
    let (name, a, rest) = then_found (one_name words) _ c e in
    let (t, b, last) = then_found (number_in (transition_names net) name) _ c rest in
    is_command net (Bindings t) c last (transition_within net name t b)

marking_of : (net : List Decl) (words : List (List ℕ)) (c : Command) → marking_in net words ≡ Ok c → IsOf net c
unfolding marking_in
marking_of net words c e =
    let (name, a, rest) = then_found (one_name words) _ c e in
    let (n, b, last) = then_found (number_in (place_names net) name) _ c rest in
    let within : n < length (place_names net) = number_found (place_names net) name n b in
    is_command net (Marking n) c last (omega (arith, length-map (places net) place_name))

facts_of : (net : List Decl) (words : List (List ℕ)) (c : Command) → facts_in net words ≡ Ok c → IsOf net c
unfolding facts_in
facts_of net words c e =
    let (name, a, rest) = then_found (one_name words) _ c e in
    let (n, b, last) = then_found (number_in (relation_names net) name) _ c rest in
    let within : n < length (relation_names net) = number_found (relation_names net) name n b in
    is_command net (Facts n) c last (omega (arith, length-map (relations net) (λ r. r.name)))

fire_of : (net : List Decl) (words : List (List ℕ)) (c : Command) → fire_in net words ≡ Ok c → IsOf net c
unfolding fire_in member_in
fire_of net words c e =
    let (call, a, rest) = then_found (call_in words) _ c e in
    let (m, b, last) = then_found (member_in (transition_names net) call) _ c rest in
    let (fit, same) = passed (fits (shapes net) m) (Fire m.t m.row) c Shape last in
    subst (IsOf net) same (member_made net call.name call.row m b, shape_from net m fit)

onto_some : {A : Type 0} (x : A) (parts : List (List A)) → 1 ≤ length (onto_first x parts)
onto_some x [] = omega arith
onto_some x (part ∷ parts) = omega arith

split_some : {A : Type 0} (p : A → Bool) (xs : List A) → 1 ≤ length (slice_split p xs)
split_some p [] = omega arith
split_some p (x ∷ xs) = by (p x)
  where
    by : (b : Bool) → 1 ≤ length (cond b ([] ∷ slice_split p xs) (onto_first x (slice_split p xs)))
    by true = omega arith
    by false = onto_some x (slice_split p xs)

few_read : {A : Type 0} (read : List (List ℕ) → Result A LineFault) (parts : List (List (List ℕ))) (calls : List A) → 1 ≤ length parts → (if nat_le (length parts) most_members then each read parts else Err Line) ≡ Ok calls → (1 ≤ length calls) × (length calls ≤ most_members)
few_read {A} read parts calls some e = by (nat_le (length parts) most_members) refl e
  where
    by : (b : Bool) → nat_le (length parts) most_members ≡ b → (if b then each read parts else Err Line) ≡ Ok calls → (1 ≤ length calls) × (length calls ≤ most_members)
    by true few e =
        let long : length calls ≡ length parts = each_length read parts calls e in
        let most : length parts ≤ most_members = leb-true (length parts) most_members few in
        (omega arith, omega arith)
    by false few e = cc

group_of : (net : List Decl) (words : List (List ℕ)) (c : Command) → members_of_group_in net words ≡ Ok c → IsOf net c
unfolding members_of_group_in group_in member_in
group_of net words c e =
    let (calls, a, rest) = then_found (group_in words) _ c e in
    let (members, b, last) = then_found (each (member_in (transition_names net)) calls) _ c rest in
    let (fit, same) = passed (list_all (fits (shapes net)) members) (Group members) c Shape last in
    let (some, few) = few_read call_in (slice_split is_semicolon words) calls (split_some is_semicolon words) a in
    let long : length members ≡ length calls = each_length (member_in (transition_names net)) calls members b in
    subst (IsOf net) same (omega arith, omega arith, members_fit net (member_in (transition_names net)) calls members (λ call m e. member_made net call.name call.row m e) b fit)

checkpoint_of : (net : List Decl) (folder : Bool) (words : List (List ℕ)) (c : Command) → checkpoint_in folder words ≡ Ok c → IsOf net c
unfolding checkpoint_in
checkpoint_of net folder words c e = let (on, same) = passed (folder && (length words == 0)) Checkpoint c Line e in subst (IsOf net) same tt

verb_of : (net : List Decl) (folder : Bool) (verb : List ℕ) (words : List (List ℕ)) (c : Command) → verb_in net folder verb words ≡ Ok c → IsOf net c
unfolding verb_in
verb_of net folder verb words c e =
    ⊎_elim (bindings_of net words c) (λ e. ⊎_elim (fire_of net words c) (λ e. ⊎_elim (group_of net words c) (λ e. ⊎_elim (marking_of net words c) (λ e. ⊎_elim (facts_of net words c) (λ e.
    ⊎_elim (checkpoint_of net folder words c) (λ e. cc) (either (bytes_eq verb (codes "checkpoint")) _ _ c e))
    (either (bytes_eq verb (codes "facts")) _ _ c e)) (either (bytes_eq verb (codes "marking")) _ _ c e)) (either (bytes_eq verb (codes "group")) _ _ c e))
    (either (bytes_eq verb (codes "fire")) _ _ c e)) (either (bytes_eq verb (codes "bindings")) _ _ c e)

words_of : (net : List Decl) (folder : Bool) (words : List (List ℕ)) (c : Command) → command_in net folder words ≡ Ok c → IsOf net c
unfolding command_in
words_of net folder [] c e = is_command net Blank c e tt
words_of net folder (verb ∷ words) c e = ⊎_elim (λ e. is_command net Blank c e tt) (verb_of net folder verb words c) (either (is_comment verb) _ _ c e)

-- what a line asks for is of the net
pub asked_of : (net : List Decl) (folder : Bool) (line : List ℕ) (c : Command) → asked net folder line ≡ Ok c → IsOf net c
unfolding asked
asked_of net folder line c e = words_of net folder (tokens line) c e
