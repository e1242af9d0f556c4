-- One turn of the loops over tokens, members, changes and fresh variables.
use Rattle.std.proofs.Common.{◌≡◌, ℕ, ◌+◌, ◌<◌, ◌≤◌, ◌^◌, zero, suc, Bool, true, false, not, ◌||◌, cond, inl, inr, List, [], ◌∷◌, ◌++◌, refl, sym, ap, ◌∙◌, subst, Option, Some, None, Ok, Err, arith, length, drop, get_or}
use Rattle.std.specs.Prelude.{nat_le}
use Rattle.std.specs.List.{list_any}
use Rattle.std.proofs.lemmas.Bool.{le-leb, lt-leb}
use Rattle.std.proofs.lemmas.List.{drop_all}
use Rattle.dbn_value.specs.Members.{In}
use Rattle.dbn_formula.specs.Holds.{Instance}
use Rattle.dbn_formula.specs.Answers.{holds}
use Rattle.dbn_net.specs.declared.violation.Named.{Named}
use Rattle.dbn_net.specs.Sentences.{violations, consistent}
use Rattle.dbn_net.proofs.ViolationLaws.{none_is_consistent}
use Rattle.dbn_value.specs.Order.{value_cmp, row_cmp, rows_total, exact_rows}
use Rattle.dbn_value.specs.declared.value.Value.{Value}
use Rattle.dbn_value.specs.declared.value.Value.TheVariants.{Id}
use Rattle.dbn_value.specs.declared.term.Var.{Var}
use Rattle.dbn_value.specs.declared.member.Member.{Member}
use Rattle.dbn_net.specs.Wants.{AreWants}
use Rattle.dbn_core.specs.Moves.{first_over}
use Rattle.dbn_core.proofs.MoveLaws.{full_is_over}
use Rattle.dbn_marking.specs.Counts.{IsMarking, count_at, with_tokens, without_tokens}
use Rattle.dbn_net.specs.declared.decl.Decl.{Decl}
use Rattle.dbn_net.specs.declared.snapshot.Snapshot.{Snapshot}
use Rattle.dbn_net.specs.declared.want.Want.{Want}
use Rattle.dbn_net.specs.Values.{Marking}
use Rattle.dbn_core.specs.declared.outcome.Fired.{Fired}
use Rattle.dbn_core.specs.declared.outcome.Refusal.{Refusal}
use Rattle.dbn_core.specs.Moves.{AreGifts, CanTake, CanGive, taken_all, given_all, first_full}
use Rattle.dbn_core.specs.Fire.{fresh_values, fire_at}
use Rattle.dbn_core.specs.Group.{Grouping, told_first, and_then, group_from}

-- the list from number i on begins with its element there
pub front : {A : Type 0} (xs : List A) (i : ℕ) (x : A) → i < length xs → x ≡ get_or xs i x → drop i xs ≡ x ∷ drop (i + 1) xs
front [] i x less is = absurd (omega (arith, less))
front (y ∷ xs) zero x less is = ap (λ z. z ∷ xs) (sym is)
front (y ∷ xs) (suc i) x less is = let e : suc (i + 1) ≡ suc i + 1 = omega arith in front xs i x (omega (arith, less)) is ∙ ap (λ n. x ∷ drop n (y ∷ xs)) e

-- ---- tokens

pub record TakenTurn (ws : List (Want Value)) (i : ℕ) (w : Want Value) (m : Marking) : Type 0 where
  pub within : w.place < length m
  pub some : 0 < w.many
  pub there : w.many ≤ count_at row_cmp m w.place w.row
  pub can : CanTake value_cmp (drop (i + 1) ws) (without_tokens row_cmp m w.place w.row w.many)
  pub same : taken_all value_cmp (drop i ws) m ≡ taken_all value_cmp (drop (i + 1) ws) (without_tokens row_cmp m w.place w.row w.many)

pub taken_turn : (ws : List (Want Value)) (i : ℕ) (w : Want Value) (m : Marking) → i < length ws → w ≡ get_or ws i w → CanTake value_cmp (drop i ws) m → TakenTurn ws i w m
taken_turn ws i w m less is can =
    let first = front ws i w less is in
    let all = subst (λ l. CanTake value_cmp l m) first can in
    record { within = all.0; some = all.1; there = all.2; can = all.3; same = ap (λ l. taken_all value_cmp l m) first }

pub record GivenTurn (ws : List (Want Value)) (i : ℕ) (w : Want Value) (m : Marking) : Type 0 where
  pub within : w.place < length m
  pub some : 0 < w.many
  pub room : count_at row_cmp m w.place w.row + w.many < 2 ^ 32
  pub can : CanGive value_cmp (drop (i + 1) ws) (with_tokens row_cmp m w.place w.row w.many)
  pub same : given_all value_cmp (drop i ws) m ≡ given_all value_cmp (drop (i + 1) ws) (with_tokens row_cmp m w.place w.row w.many)

pub given_turn : (ws : List (Want Value)) (i : ℕ) (w : Want Value) (m : Marking) → i < length ws → w ≡ get_or ws i w → CanGive value_cmp (drop i ws) m → GivenTurn ws i w m
given_turn ws i w m less is can =
    let first = front ws i w less is in
    let all = subst (λ l. CanGive value_cmp l m) first can in
    record { within = all.0; some = all.1; room = all.2; can = all.3; same = ap (λ l. given_all value_cmp l m) first }

pub full_turn : (ws : List (Want Value)) (i : ℕ) (w : Want Value) (m : Marking) → i < length ws → w ≡ get_or ws i w
    → first_full value_cmp (drop i ws) m ≡ cond (nat_le (2 ^ 32) (count_at row_cmp m w.place w.row + w.many)) (Some w.place) (first_full value_cmp (drop (i + 1) ws) m)
full_turn ws i w m less is = ap (λ l. first_full value_cmp l m) (front ws i w less is)

pub full_here : (ws : List (Want Value)) (i : ℕ) (w : Want Value) (m : Marking) (all : Option ℕ) → i < length ws → w ≡ get_or ws i w
    → 2 ^ 32 ≤ count_at row_cmp m w.place w.row + w.many → first_full value_cmp (drop i ws) m ≡ all → Some w.place ≡ all
full_here ws i w m all less is full e =
    sym (ap (λ b. cond b (Some w.place) (first_full value_cmp (drop (i + 1) ws) m)) (le-leb (2 ^ 32) (count_at row_cmp m w.place w.row + w.many) full)) ∙ sym (full_turn ws i w m less is) ∙ e

pub full_behind : (ws : List (Want Value)) (i : ℕ) (w : Want Value) (m : Marking) (all : Option ℕ) → i < length ws → w ≡ get_or ws i w
    → count_at row_cmp m w.place w.row + w.many < 2 ^ 32 → first_full value_cmp (drop i ws) m ≡ all → first_full value_cmp (drop (i + 1) ws) m ≡ all
full_behind ws i w m all less is room e =
    sym (ap (λ b. cond b (Some w.place) (first_full value_cmp (drop (i + 1) ws) m)) (lt-leb (2 ^ 32) (count_at row_cmp m w.place w.row + w.many) room)) ∙ sym (full_turn ws i w m less is) ∙ e

-- which place is over is known before any token is given
pub over_is : (gives ws : List (Want Value)) (left : Marking) (found : Option ℕ) → ws ≡ gives → AreWants value_cmp ws → AreGifts (length left) gives → IsMarking row_cmp left
    → found ≡ first_full value_cmp ws left → first_over (given_all value_cmp gives left) ≡ found
over_is gives ws left found same sorted each counted told =
    full_is_over value_cmp rows_total exact_rows gives left (subst (AreWants value_cmp) same sorted) each counted ∙ ap (λ l. first_full value_cmp l left) (sym same) ∙ sym told

pub none_of : (found : Option ℕ) → ((x : ℕ) → found ≡ Some x → ⊥) → found ≡ None
none_of None none = refl
none_of (Some x) none = absurd (none x refl)

-- ---- fresh variables

pub fresh_turn : (fresh : List Var) (i : ℕ) (x : Var) (number : ℕ) → i < length fresh → x ≡ get_or fresh i x → fresh_values number (drop i fresh) ≡ Id number ∷ fresh_values (number + 1) (drop (i + 1) fresh)
fresh_turn fresh i x number less is = ap (fresh_values number) (front fresh i x less is)

-- ---- groups

abbrev pub told_all : List Fired → Grouping → Grouping
told_all [] g = g
told_all (f ∷ fs) g = told_first f (told_all fs g)

pub told_more : (fs : List Fired) (f : Fired) (g : Grouping) → told_all (fs ++ f ∷ []) g ≡ told_all fs (told_first f g)
told_more [] f g = refl
told_more (h ∷ fs) f g = ap (told_first h) (told_more fs f g)

pub told_done : (fs : List Fired) (s : Snapshot) → told_all fs (Ok ([], s)) ≡ Ok (fs, s)
told_done [] s = refl
told_done (f ∷ fs) s = ap (told_first f) (told_done fs s)

pub told_refused : (fs : List Fired) (i : ℕ) (why : Refusal) → told_all fs (Err (i, why)) ≡ Err (i, why)
told_refused [] i why = refl
told_refused (f ∷ fs) i why = ap (told_first f) (told_refused fs i why)

pub fired_turn : (net : List Decl) (members : List Member) (i : ℕ) (m : Member) (s next : Snapshot) (fs : List Fired) (f : Fired) → i < length members → m ≡ get_or members i m
    → fire_at net s m.t m.row ≡ Ok (f, next) → told_all (fs ++ f ∷ []) (group_from (i + 1) net (drop (i + 1) members) next) ≡ told_all fs (group_from i net (drop i members) s)
fired_turn net members i m s next fs f less is fires =
    told_more fs f (group_from (i + 1) net (drop (i + 1) members) next)
    ∙ ap (told_all fs)
    (sym (ap (λ l. group_from i net l s) (front members i m less is) ∙ ap (λ made. and_then i (λ after. group_from (i + 1) net (drop (i + 1) members) after) made) fires))

pub refused_turn : (net : List Decl) (members : List Member) (i : ℕ) (m : Member) (s : Snapshot) (fs : List Fired) (why : Refusal) → i < length members → m ≡ get_or members i m
    → fire_at net s m.t m.row ≡ Err why → told_all fs (group_from i net (drop i members) s) ≡ Err (i, why)
refused_turn net members i m s fs why less is refused =
    ap (told_all fs) (ap (λ l. group_from i net l s) (front members i m less is) ∙ ap (λ made. and_then i (λ after. group_from (i + 1) net (drop (i + 1) members) after) made) refused)
    ∙ told_refused fs i why

-- ---- sentences

pub in_index : {A : Type 0} (xs : List A) (i : ℕ) (x : A) → i < length xs → x ≡ get_or xs i x → In x xs
in_index [] i x less is = absurd (omega (arith, less))
in_index (y ∷ xs) zero x less is = inl is
in_index (y ∷ xs) (suc i) x less is = inr (in_index xs i x (omega (arith, less)) is)

denied_true : (b : Bool) → not b ≡ true → false ≡ b
denied_true true e = e
denied_true false e = refl

denied_false : (b : Bool) → not b ≡ false → true ≡ b
denied_false true e = refl
denied_false false e = e

abbrev is_violated : Instance → Named → Bool
is_violated db v = holds v.item db []

pub violated : (net : List Decl) (db : Instance) (i : ℕ) (v : Named) (b : Bool) → i < length (violations net) → v ≡ get_or (violations net) i v → b ≡ holds v.item db [] → b ≡ true
    → list_any (λ v. holds v.item db []) (drop i (violations net)) ≡ list_any (λ v. holds v.item db []) (violations net) → false ≡ consistent net db
violated net db i v b less is told on so_far =
    denied_true (consistent net db)
    (sym (none_is_consistent net db) ∙ sym so_far ∙ ap (list_any (is_violated db)) (front (violations net) i v less is)
    ∙ ap (λ c. c || list_any (is_violated db) (drop (i + 1) (violations net))) (sym told ∙ on))

pub not_violated : (net : List Decl) (db : Instance) (i : ℕ) → length (violations net) ≤ i
    → list_any (λ v. holds v.item db []) (drop i (violations net)) ≡ list_any (λ v. holds v.item db []) (violations net) → true ≡ consistent net db
not_violated net db i past so_far =
    denied_false (consistent net db) (sym (none_is_consistent net db) ∙ sym so_far ∙ ap (list_any (is_violated db)) (drop_all i (violations net) past))
