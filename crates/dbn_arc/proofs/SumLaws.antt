-- Sums that grow token by token are the totals of all tokens.
use Rattle.std.proofs.Common.{arith, ◌≡◌, ℕ, suc, ◌+◌, ◌<◌, ◌≤◌, Bool, true, false, cond, ◌||◌, List, [], ◌∷◌, ◌++◌, map, drop, length, get_or, drop-cons, add-one, Option, Some, None, refl, ap, sym, ◌∙◌, subst, append-nil}
use Rattle.std.specs.Option.{unwrap_or}
use Rattle.std.specs.declared.cmp.Ordering.{Ordering}
use Rattle.std.specs.declared.cmp.Ordering.TheVariants.{Less, Equal, Greater}
use Rattle.std.specs.Ordering.{nat_cmp, ordering_then, is_eq, eq_by_cmp}
use Rattle.std.specs.Cmp.{IsTotalOrder, Equal-is, both_ways, tied_itself, nat_cmp_total, then_total, on_total}
use Rattle.std.specs.FinMap.{IsAntisymmetric, nat_cmp-IsAntisymmetric}
use Rattle.std.specs.List.{list_any}
use Rattle.std.specs.List.Sorted.{IsStrictlySortedBy}
use Rattle.std.specs.Map.{lookup, keys_of}
use Rattle.std.specs.BTreeMap.{is_at}
use Rattle.std.proofs.lemmas.List.{drop_all}
use Rattle.std.proofs.lemmas.List.Sums.{sum_by-cons}
use Rattle.dbn_value.specs.Ascending.{ascending}
use Rattle.dbn_value.specs.Order.{value_cmp, row_cmp, rows_total, exact_rows}
use Rattle.dbn_value.specs.declared.value.Value.{Value}
use Rattle.dbn_value.proofs.EntryLaws.{lookup_insert_entry, sorted_insert_entry, same_lookups}
use Rattle.dbn_value.proofs.AscendingLaws.{sorted_nil, sorted_ascending, any_ascending}
use Rattle.dbn_value.specs.Scope.{Env, bind}
use Rattle.dbn_formula.specs.Variables.{TypedVars}
use Rattle.dbn_marking.specs.Counts.{count_of, added}
use Rattle.dbn_net.specs.declared.want.Want.{Want}
use Rattle.dbn_net.specs.declared.rules.Arc.{Arc}
use Rattle.dbn_net.specs.declared.rules.Pattern.{Pattern}
use Rattle.dbn_net.specs.Wants.{Spot, spot_of, spot_cmp, AreWants, total_of, bound_token, bound_tokens, wants}
use Rattle.dbn_arc.specs.Sums.{with_all, want_of}

-- the token is of this place and row
abbrev is_of : Spot Value → Want Value → Bool
is_of q w = is_eq (spot_cmp q (spot_of w))

-- the sum at a place and row, where it was `found` before
abbrev sum_from : Option ℕ → List (Want Value) → Spot Value → Option ℕ
sum_from found [] q = found
sum_from found (w ∷ tokens) q = sum_from (cond (is_of q w) (Some (unwrap_or found 0 + w.many)) found) tokens q

-- ---- the order of places and rows

spots_total : IsTotalOrder spot_cmp
spots_total = then_total (on_total (λ s. s.0) nat_cmp_total) (on_total (λ s. s.1) rows_total)

exact_spots : IsAntisymmetric spot_cmp
exact_spots x y p = by (nat_cmp x.0 y.0) refl p
  where
    by : (r : Ordering) → nat_cmp x.0 y.0 ≡ r → ordering_then r (row_cmp x.1 y.1) ≡ Equal → x ≡ y
    by Less e q = cc
    by Equal e q = λ i. (nat_cmp-IsAntisymmetric x.0 y.0 e i, exact_rows x.1 y.1 q i)
    by Greater e q = cc

same_spot : (p q : Spot Value) → is_eq (spot_cmp p q) ≡ true → p ≡ q
same_spot p q e = exact_spots p q ((Equal-is (spot_cmp p q)).0 e)

turned : (p q : Spot Value) → is_eq (spot_cmp p q) ≡ is_eq (spot_cmp q p)
turned p q = both_ways _ _
    (λ e. subst (λ s. is_eq (spot_cmp s p) ≡ true) (same_spot p q e) (ap is_eq (tied_itself spots_total p)))
    (λ e. subst (λ s. is_eq (spot_cmp s q) ≡ true) (same_spot q p e) (ap is_eq (tied_itself spots_total q)))

-- ---- look-ups in growing sums

added_at : (sums : List (Spot Value × ℕ)) (q k : Spot Value) (many : ℕ)
    → lookup (is_at (spot_cmp q)) (added spot_cmp sums k many) ≡ cond (is_eq (spot_cmp q k)) (Some (unwrap_or (lookup (is_at (spot_cmp q)) sums) 0 + many)) (lookup (is_at (spot_cmp q)) sums)
added_at sums q k many =
    lookup_insert_entry spots_total q k (count_of spot_cmp sums k + many) sums
    ∙ ap (λ b. cond b (Some (count_of spot_cmp sums k + many)) (lookup (is_at (spot_cmp q)) sums)) (turned k q)
    ∙ elim (is_eq (spot_cmp q k)) as (λ b. is_eq (spot_cmp q k) ≡ b
    → cond b (Some (count_of spot_cmp sums k + many)) (lookup (is_at (spot_cmp q)) sums) ≡ cond b (Some (count_of spot_cmp sums q + many)) (lookup (is_at (spot_cmp q)) sums)) [
      | true ↦ λ e. ap (λ s. Some (count_of spot_cmp sums s + many)) (sym (same_spot q k e))
      | false ↦ λ e. refl
    ] refl

all_at : (tokens : List (Want Value)) (sums : List (Spot Value × ℕ)) (q : Spot Value) → lookup (is_at (spot_cmp q)) (with_all sums tokens) ≡ sum_from (lookup (is_at (spot_cmp q)) sums) tokens q
all_at [] sums q = refl
all_at (w ∷ tokens) sums q = all_at tokens (added spot_cmp sums (spot_of w) w.many) q ∙ ap (λ found. sum_from found tokens q) (added_at sums q (spot_of w) w.many)

pub all_sorted : (tokens : List (Want Value)) (sums : List (Spot Value × ℕ)) → IsStrictlySortedBy spot_cmp (keys_of sums) → IsStrictlySortedBy spot_cmp (keys_of (with_all sums tokens))
all_sorted [] sums s = s
all_sorted (w ∷ tokens) sums s = all_sorted tokens (added spot_cmp sums (spot_of w) w.many) (sorted_insert_entry spots_total (spot_of w) (count_of spot_cmp sums (spot_of w) + w.many) sums s)

-- ---- totals

total_cons : (w : Want Value) (tokens : List (Want Value)) (q : Spot Value) → total_of (w ∷ tokens) q ≡ cond (is_of q w) w.many 0 + total_of tokens q
total_cons w tokens q = sum_by-cons (λ u. cond (is_of q u) u.many 0) w tokens

-- a sum that was there grows by the total
sum_some : (tokens : List (Want Value)) (n : ℕ) (q : Spot Value) → sum_from (Some n) tokens q ≡ Some (n + total_of tokens q)
sum_some [] n q = ap Some (plus_none n)
  where
    plus_none : (m : ℕ) → m ≡ m + 0
    plus_none m = omega arith
sum_some (w ∷ tokens) n q =
    let more : n + w.many + total_of tokens q ≡ n + (w.many + total_of tokens q) = omega arith in
    let same : n + total_of tokens q ≡ n + (0 + total_of tokens q) = omega arith in
    (elim (is_of q w) as (λ b. sum_from (cond b (Some (n + w.many)) (Some n)) tokens q ≡ Some (n + (cond b w.many 0 + total_of tokens q))) [
      | true ↦ sum_some tokens (n + w.many) q ∙ ap Some more
      | false ↦ sum_some tokens n q ∙ ap Some same
    ])
    ∙ ap (λ k. Some (n + k)) (sym (total_cons w tokens q))

-- one that wasn't is the total, where there is a token of it
sum_none : (tokens : List (Want Value)) (q : Spot Value) → sum_from None tokens q ≡ cond (list_any (is_of q) tokens) (Some (total_of tokens q)) None
sum_none [] q = refl
sum_none (w ∷ tokens) q =
    let more : 0 + w.many + total_of tokens q ≡ w.many + total_of tokens q = omega arith in
    let same : total_of tokens q ≡ 0 + total_of tokens q = omega arith in
    (elim (is_of q w) as (λ b. sum_from (cond b (Some (0 + w.many)) None) tokens q ≡ cond (b || list_any (is_of q) tokens) (Some (cond b w.many 0 + total_of tokens q)) None) [
      | true ↦ sum_some tokens (0 + w.many) q ∙ ap Some more
      | false ↦ sum_none tokens q ∙ ap (λ k. cond (list_any (is_of q) tokens) (Some k) None) same
    ])
    ∙ ap (λ k. cond (is_of q w || list_any (is_of q) tokens) (Some k) None) (sym (total_cons w tokens q))

-- ---- the sums of all tokens

abbrev pub totals : List (Want Value) → List (Spot Value × ℕ)
totals tokens = map (λ s. (s, total_of tokens s)) (ascending spot_cmp (map spot_of tokens))

keys_of_totals : (t : Spot Value → ℕ) (spots : List (Spot Value)) → keys_of (map (λ s. (s, t s)) spots) ≡ spots
keys_of_totals t [] = refl
keys_of_totals t (s ∷ spots) = ap (λ l. s ∷ l) (keys_of_totals t spots)

at_totals : (t : Spot Value → ℕ) (spots : List (Spot Value)) (q : Spot Value) → lookup (is_at (spot_cmp q)) (map (λ s. (s, t s)) spots) ≡ cond (list_any (eq_by_cmp spot_cmp q) spots) (Some (t q)) None
at_totals t [] q = refl
at_totals t (s ∷ spots) q =
    elim (is_eq (spot_cmp q s)) as (λ b. is_eq (spot_cmp q s) ≡ b → cond b (Some (t s)) (lookup (is_at (spot_cmp q)) (map (λ p. (p, t p)) spots)) ≡ cond (b || list_any (eq_by_cmp spot_cmp q) spots) (Some (t q)) None) [
      | true ↦ λ e. ap (λ p. Some (t p)) (sym (same_spot q s e))
      | false ↦ λ e. at_totals t spots q
    ] refl

any_spot : (tokens : List (Want Value)) (q : Spot Value) → list_any (eq_by_cmp spot_cmp q) (map spot_of tokens) ≡ list_any (is_of q) tokens
any_spot [] q = refl
any_spot (w ∷ tokens) q = ap (λ b. is_of q w || b) (any_spot tokens q)

pub sums_are_totals : (tokens : List (Want Value)) → with_all [] tokens ≡ totals tokens
sums_are_totals tokens =
    same_lookups spots_total exact_spots (with_all [] tokens) (totals tokens)
    (all_sorted tokens [] (sorted_nil spot_cmp))
    (subst (IsStrictlySortedBy spot_cmp) (sym (keys_of_totals (total_of tokens) (ascending spot_cmp (map spot_of tokens)))) (sorted_ascending spots_total (map spot_of tokens)))
    (λ q. all_at tokens [] q ∙ sum_none tokens q
    ∙ ap (λ b. cond b (Some (total_of tokens q)) None) (sym (any_spot tokens q) ∙ sym (any_ascending spots_total exact_spots q (map spot_of tokens)))
    ∙ sym (at_totals (total_of tokens) (ascending spot_cmp (map spot_of tokens)) q))

wants_of_totals : (t : Spot Value → ℕ) (spots : List (Spot Value)) → map want_of (map (λ s. (s, t s)) spots) ≡ map (λ s. record { place = s.0; row = s.1; many = t s }) spots
wants_of_totals t [] = refl
wants_of_totals t (s ∷ spots) = ap (λ l. want_of (s, t s) ∷ l) (wants_of_totals t spots)

-- the sums as wants
pub sums_are_wants : (env : Env) (arcs : List Arc) → map want_of (with_all [] (bound_tokens env arcs)) ≡ wants env arcs
sums_are_wants env arcs = ap (map want_of) (sums_are_totals (bound_tokens env arcs)) ∙ wants_of_totals (total_of (bound_tokens env arcs)) (ascending spot_cmp (map spot_of (bound_tokens env arcs)))

-- ---- arc by arc

pub all_appended : (first second : List (Want Value)) (sums : List (Spot Value × ℕ)) → with_all sums (first ++ second) ≡ with_all (with_all sums first) second
all_appended [] second sums = refl
all_appended (w ∷ first) second sums = all_appended first second (added spot_cmp sums (spot_of w) w.many)

-- keys of sums are the places and rows of wants
pub spots_of_wants : (sums : List (Spot Value × ℕ)) → map spot_of (map want_of sums) ≡ keys_of sums
spots_of_wants [] = refl
spots_of_wants (s ∷ sums) = ap (λ l. s.0 ∷ l) (spots_of_wants sums)

-- the wants that were made of sums stand as these
pub wants_sorted : (sums left : List (Spot Value × ℕ)) (made : List (Want Value)) → IsStrictlySortedBy spot_cmp (keys_of sums) → left ≡ [] → made ++ map want_of left ≡ map want_of sums → AreWants value_cmp made
wants_sorted sums left made sorted none all =
    let whole : made ≡ map want_of sums = sym (append-nil made) ∙ ap (λ l. made ++ map want_of l) (sym none) ∙ all in
    subst (λ ws. IsStrictlySortedBy spot_cmp (map spot_of ws)) (sym whole) (subst (IsStrictlySortedBy spot_cmp) (sym (spots_of_wants sums)) sorted)

-- one more arc
pub arc_more : (env : Env) (arcs : List Arc) (i : ℕ) (arc : Arc) (before after all : List (Spot Value × ℕ)) → i < length arcs → arc ≡ get_or arcs i arc
    → after ≡ with_all before (map (bound_token env arc.place) arc.patterns) → with_all before (bound_tokens env (drop i arcs)) ≡ all → with_all after (bound_tokens env (drop (i + 1) arcs)) ≡ all
arc_more env arcs i arc before after all below is grown e =
    ap (λ sums. with_all sums (bound_tokens env (drop (i + 1) arcs))) grown
    ∙ sym (all_appended (map (bound_token env arc.place) arc.patterns) (bound_tokens env (drop (i + 1) arcs)) before)
    ∙ ap (λ rest. with_all before (bound_tokens env rest)) (ap (λ n. arc ∷ drop n arcs) (add-one i) ∙ ap (λ a. a ∷ drop (suc i) arcs) is ∙ sym (drop-cons arcs i arc below))
    ∙ e

-- what was added, in words of the arc
pub arc_grown : (place : ℕ) (scope s : TypedVars) (row : List Value) (patterns p : List Pattern) (before after : List (Spot Value × ℕ)) → p ≡ patterns → s ≡ scope
    → after ≡ with_all before (map (bound_token (bind s row []) place) p) → after ≡ with_all before (map (bound_token (bind scope row []) place) patterns)
arc_grown place scope s row patterns p before after same same_scope grown =
    grown ∙ ap (λ v. with_all before (map (bound_token (bind v row []) place) p)) same_scope ∙ ap (λ q. with_all before (map (bound_token (bind scope row []) place) q)) same

-- all arcs
pub wants_made : (env : Env) (arcs : List Arc) (i : ℕ) (sums : List (Spot Value × ℕ)) → length arcs ≤ i → with_all sums (bound_tokens env (drop i arcs)) ≡ with_all [] (bound_tokens env arcs) → map want_of sums ≡ wants env arcs
wants_made env arcs i sums past e = ap (map want_of) (ap (λ rest. with_all sums (bound_tokens env rest)) (sym (drop_all i arcs past)) ∙ e) ∙ sums_are_wants env arcs

pub sums_sorted : (env : Env) (arcs : List Arc) (i : ℕ) (sums : List (Spot Value × ℕ)) → length arcs ≤ i → with_all sums (bound_tokens env (drop i arcs)) ≡ with_all [] (bound_tokens env arcs) → IsStrictlySortedBy spot_cmp (keys_of sums)
sums_sorted env arcs i sums past e =
    subst (λ es. IsStrictlySortedBy spot_cmp (keys_of es)) (sym (ap (λ rest. with_all sums (bound_tokens env rest)) (sym (drop_all i arcs past)) ∙ e)) (all_sorted (bound_tokens env arcs) [] (sorted_nil spot_cmp))
