-- The canonical line of a command is read again as this command.
use Rattle.std.proofs.Common.{◌≡◌, ℕ, ◌≤◌, Bool, true, false, ◌&&◌, ◌||◌, if◌then◌else◌, List, [], ◌∷◌, ◌++◌, map, length, codes, Result, Ok, Err, refl, sym, ap, ◌∙◌, subst, arith}
use Rattle.std.specs.Prelude.{nat_le}
use Rattle.std.specs.List.{list_all, list_any, slice_split, AllByRecursion}
use Rattle.std.proofs.lemmas.Bool.{and_from, le-leb}
use Rattle.std.proofs.lemmas.List.{length-map}
use Rattle.dbn_value.specs.Text.{is_identifier}
use Rattle.dbn_value.specs.Spelling.{spelling, IsValue}
use Rattle.dbn_value.specs.declared.value.Value.{Value}
use Rattle.dbn_value.specs.declared.member.Member.{Member}
use Rattle.dbn_value.proofs.Spellings.{reads_back}
use Rattle.dbn_net.specs.declared.decl.Decl.{Decl}
use Rattle.dbn_net.specs.Tables.{relation_names, place_names, transition_names, shapes}
use Rattle.dbn_net.specs.Naming.{name_at}
use Rattle.dbn_net.specs.WellFormed.{WellFormed}
use Rattle.dbn_net.proofs.RoundFacts.{Known}
use Rattle.dbn_command.specs.declared.call.Call.{Call}
use Rattle.dbn_command.specs.declared.command.Command.{Command}
use Rattle.dbn_command.specs.declared.command.Command.TheVariants.{Blank, Bindings, Fire, Group, Marking, Facts, Checkpoint}
use Rattle.dbn_command.specs.declared.fault.LineFault.{LineFault}
use Rattle.dbn_command.specs.declared.fault.LineFault.TheVariants.{Line, Unknown, Shape}
use Rattle.dbn_command.specs.Gives.{◌>>=◌, each, found_or}
use Rattle.dbn_command.specs.Lines.{name_in, value_in, call_of, call_in, is_semicolon, few_calls, group_in, number_in, member_of, member_in, fits, one_name, bindings_in, marking_in, facts_in, fire_in, members_of_group_in, checkpoint_in, verb_in, command_in, asked}
use Rattle.dbn_command.specs.Canonical.{member_words, group_words, words_of, line_of, IsMember, IsCommand}
use Rattle.dbn_command.proofs.Names.{transition_known, place_known, relation_known}
use Rattle.dbn_command.proofs.Splits.{one_part, first_part}
use Rattle.dbn_command.proofs.TokenLaws.{IsToken, joined_tokens}
use Rattle.dbn_command.proofs.WordLaws.{name_is_token, value_is_token, name_is_no_semicolon, value_is_no_semicolon}

all_append : {A : Type 0} (P : A → Type 0) (xs ys : List A) → AllByRecursion P xs → AllByRecursion P ys → AllByRecursion P (xs ++ ys)
all_append P [] ys all more = more
all_append P (x ∷ xs) ys all more = (all.0, all_append P xs ys all.1 more)

-- ---- words are tokens

values_are_tokens : (row : List Value) → AllByRecursion IsValue row → AllByRecursion IsToken (map spelling row)
values_are_tokens [] all = tt
values_are_tokens (v ∷ row) all = (value_is_token v all.0, values_are_tokens row all.1)

no_value_is_semicolon : (row : List Value) → AllByRecursion IsValue row → list_any is_semicolon (map spelling row) ≡ false
no_value_is_semicolon [] all = refl
no_value_is_semicolon (v ∷ row) all = ap (λ b. b || list_any is_semicolon (map spelling row)) (value_is_no_semicolon v all.0) ∙ no_value_is_semicolon row all.1

module _ (net : List Decl) (formed : WellFormed net) where
  member_tokens : (m : Member) → IsMember net m → AllByRecursion IsToken (member_words net m)
  member_tokens m is = (name_is_token (name_at (transition_names net) m.t) (transition_known net formed m.t is.number).plain, values_are_tokens m.row is.values)

  group_tokens : (ms : List Member) → AllByRecursion (IsMember net) ms → AllByRecursion IsToken (group_words net ms)
  unfolding group_words
  group_tokens [] all = tt
  group_tokens (m ∷ []) all = member_tokens m all.0
  group_tokens (m ∷ next ∷ ms) all =
      all_append IsToken (member_words net m) (codes ";" ∷ group_words net (next ∷ ms)) (member_tokens m all.0) (refl, group_tokens (next ∷ ms) all.1)

  word_tokens : (folder : Bool) (c : Command) → IsCommand net folder c → AllByRecursion IsToken (words_of net c)
  word_tokens folder Blank is = tt
  word_tokens folder (Bindings t) is = (refl, (name_is_token (name_at (transition_names net) t) (transition_known net formed t is).plain, tt))
  word_tokens folder (Fire t row) is = (refl, member_tokens (member_of t row) is)
  word_tokens folder (Group ms) is = (refl, group_tokens ms is.2)
  word_tokens folder (Marking p) is = (refl, (name_is_token (name_at (place_names net) p) (place_known net formed p is).plain, tt))
  word_tokens folder (Facts r) is = (refl, (name_is_token (name_at (relation_names net) r) (relation_known net formed r is).plain, tt))
  word_tokens folder Checkpoint is = (refl, tt)

-- ---- words are read again

name_again : (names : List (List ℕ)) (n : ℕ) → Known names n → name_in (name_at names n) ≡ Ok (name_at names n)
unfolding name_in
name_again names n known =
    ap (λ b. if b then Ok (name_at names n) else Err Line) (and_from (is_identifier (name_at names n)) (nat_le (length (name_at names n)) 64) known.plain known.short)

number_again : (names : List (List ℕ)) (n : ℕ) → Known names n → number_in names (name_at names n) ≡ Ok n
unfolding number_in
number_again names n known = ap (found_or (Unknown (name_at names n))) known.number

one_again : {A : Type 0} (names : List (List ℕ)) (n : ℕ) (f : ℕ → Result A LineFault) → Known names n → (one_name (name_at names n ∷ []) >>= λ name. number_in names name >>= f) ≡ f n
unfolding one_name
one_again names n f known = ap (λ r. r >>= λ name. number_in names name >>= f) (name_again names n known) ∙ ap (λ r. r >>= f) (number_again names n known)

row_again : (row : List Value) → AllByRecursion IsValue row → each value_in (map spelling row) ≡ Ok row
unfolding each value_in
row_again [] all = refl
row_again (v ∷ row) all =
    ap (λ o. found_or Line o >>= λ value. each value_in (map spelling row) >>= λ others. Ok (value ∷ others)) (reads_back v all.0)
    ∙ ap (λ r. r >>= λ others. Ok (v ∷ others)) (row_again row all.1)

module _ (net : List Decl) (formed : WellFormed net) where
  abbrev names : List (List ℕ)
  names = transition_names net

  abbrev called : Member → Call
  called m = call_of (name_at names m.t) m.row

  call_again : (m : Member) → IsMember net m → call_in (member_words net m) ≡ Ok (called m)
  unfolding call_in
  call_again m is =
      ap (λ r. r >>= λ name. each value_in (map spelling m.row) >>= λ row. Ok (call_of name row)) (name_again names m.t (transition_known net formed m.t is.number))
      ∙ ap (λ r. r >>= λ row. Ok (call_of (name_at names m.t) row)) (row_again m.row is.values)

  member_again : (m : Member) → IsMember net m → member_in names (called m) ≡ Ok m
  unfolding member_in
  member_again m is = ap (λ r. r >>= λ t. Ok (member_of t m.row)) (number_again names m.t (transition_known net formed m.t is.number))

  no_semicolon : (m : Member) → IsMember net m → list_any is_semicolon (member_words net m) ≡ false
  no_semicolon m is =
      ap (λ b. b || list_any is_semicolon (map spelling m.row)) (name_is_no_semicolon (name_at names m.t) (transition_known net formed m.t is.number).plain)
      ∙ no_value_is_semicolon m.row is.values

  parts_again : (m : Member) (ms : List Member) → AllByRecursion (IsMember net) (m ∷ ms) → slice_split is_semicolon (group_words net (m ∷ ms)) ≡ map (member_words net) (m ∷ ms)
  unfolding group_words
  parts_again m [] all = one_part is_semicolon (member_words net m) (no_semicolon m all.0)
  parts_again m (next ∷ ms) all =
      first_part is_semicolon (member_words net m) (codes ";") (group_words net (next ∷ ms)) (no_semicolon m all.0) refl ∙ ap (λ ps. member_words net m ∷ ps) (parts_again next ms all.1)

  calls_again : (ms : List Member) → AllByRecursion (IsMember net) ms → each call_in (map (member_words net) ms) ≡ Ok (map called ms)
  unfolding each
  calls_again [] all = refl
  calls_again (m ∷ ms) all =
      ap (λ r. r >>= λ call. each call_in (map (member_words net) ms) >>= λ calls. Ok (call ∷ calls)) (call_again m all.0)
      ∙ ap (λ r. r >>= λ calls. Ok (called m ∷ calls)) (calls_again ms all.1)

  members_again : (ms : List Member) → AllByRecursion (IsMember net) ms → each (member_in names) (map called ms) ≡ Ok ms
  unfolding each
  members_again [] all = refl
  members_again (m ∷ ms) all =
      ap (λ r. r >>= λ member. each (member_in names) (map called ms) >>= λ members. Ok (member ∷ members)) (member_again m all.0)
      ∙ ap (λ r. r >>= λ members. Ok (m ∷ members)) (members_again ms all.1)

  all_fit : (ms : List Member) → AllByRecursion (IsMember net) ms → list_all (fits (shapes net)) ms ≡ true
  all_fit [] all = refl
  all_fit (m ∷ ms) all = and_from (fits (shapes net) m) (list_all (fits (shapes net)) ms) all.0.fits (all_fit ms all.1)

  group_again : (m : Member) (ms : List Member) → length (m ∷ ms) ≤ 4096 → AllByRecursion (IsMember net) (m ∷ ms) → group_in (group_words net (m ∷ ms)) ≡ Ok (map called (m ∷ ms))
  unfolding group_in
  group_again m ms few all =
      let parts : List (List (List ℕ)) = map (member_words net) (m ∷ ms) in
      let short : nat_le (length parts) 4096 ≡ true = le-leb (length parts) 4096 (subst (λ n. n ≤ 4096) (sym (length-map (m ∷ ms) (member_words net))) few) in
      ap few_calls (parts_again m ms all) ∙ ap (λ b. if b then each call_in parts else Err Line) short ∙ calls_again (m ∷ ms) all

  -- ---- commands

  fire_again : (m : Member) → IsMember net m → fire_in net (member_words net m) ≡ Ok (Fire m.t m.row)
  unfolding fire_in
  fire_again m is =
      ap (λ r. r >>= λ call. member_in names call >>= λ member. if fits (shapes net) member then Ok (Fire member.t member.row) else Err Shape) (call_again m is)
      ∙ ap (λ r. r >>= λ member. if fits (shapes net) member then Ok (Fire member.t member.row) else Err Shape) (member_again m is)
      ∙ ap (λ b. if b then Ok (Fire m.t m.row) else Err Shape) is.fits

  members_group_again : (ms : List Member) → (1 ≤ length ms) × (length ms ≤ 4096) × AllByRecursion (IsMember net) ms → members_of_group_in net (group_words net ms) ≡ Ok (Group ms)
  unfolding members_of_group_in
  members_group_again [] is = absurd (omega (arith, is.0))
  members_group_again (m ∷ ms) is =
      ap (λ r. r >>= λ calls. each (member_in names) calls >>= λ members. if list_all (fits (shapes net)) members then Ok (Group members) else Err Shape) (group_again m ms is.1 is.2)
      ∙ ap (λ r. r >>= λ members. if list_all (fits (shapes net)) members then Ok (Group members) else Err Shape) (members_again (m ∷ ms) is.2)
      ∙ ap (λ b. if b then Ok (Group (m ∷ ms)) else Err Shape) (all_fit (m ∷ ms) is.2)

  words_again : (folder : Bool) (c : Command) → IsCommand net folder c → command_in net folder (words_of net c) ≡ Ok c
  unfolding command_in verb_in bindings_in marking_in facts_in checkpoint_in
  words_again folder Blank is = refl
  words_again folder (Bindings t) is = one_again names t (λ n. Ok (Bindings n)) (transition_known net formed t is)
  words_again folder (Fire t row) is = fire_again (member_of t row) is
  words_again folder (Group ms) is = members_group_again ms is
  words_again folder (Marking p) is = one_again (place_names net) p (λ n. Ok (Marking n)) (place_known net formed p is)
  words_again folder (Facts r) is = one_again (relation_names net) r (λ n. Ok (Facts n)) (relation_known net formed r is)
  words_again folder Checkpoint is = ap (λ b. if b && true then Ok Checkpoint else Err Line) is

  pub line_again : (folder : Bool) (c : Command) → IsCommand net folder c → asked net folder (line_of net c) ≡ Ok c
  unfolding asked
  line_again folder c is = ap (command_in net folder) (joined_tokens (words_of net c) (word_tokens net formed folder c is)) ∙ words_again folder c is
