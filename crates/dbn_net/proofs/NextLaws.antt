-- The first id that no value of a list has, good snapshots with a later next id, and rows that are looked at in part.
use Rattle.std.proofs.Common.{◌≡◌, ℕ, ◌+◌, ◌<◌, ◌≤◌, ◌^◌, zero, suc, true, List, [], ◌∷◌, ◌++◌, refl, sym, ap, subst, ◌∙◌, arith, length, take, append-nil}
use Rattle.std.specs.Prelude.{max, slice_index_or, get_or}
use Rattle.std.specs.List.{flat_map}
use Rattle.std.proofs.lemmas.Bool.{and_parts, and_from, ltb-true, lt-ltb}
use Rattle.std.proofs.lemmas.Grind.{flat_map-append}
use Rattle.dbn_value.proofs.ListLaws.{take_more}
use Rattle.dbn_value.specs.declared.value.Value.{Value}
use Rattle.dbn_value.specs.declared.value.Value.TheVariants.{Int, Text, Id}
use Rattle.dbn_formula.specs.Holds.{Instance}
use Rattle.dbn_formula.specs.Answers.{bind, values_in}
use Rattle.dbn_net.specs.declared.snapshot.Snapshot.{Snapshot}
use Rattle.dbn_net.specs.declared.rules.Transition.{Transition}
use Rattle.dbn_net.specs.declared.decl.Decl.{Decl}
use Rattle.dbn_net.specs.Values.{Marking, id_below, ids_below, past_id, past_ids, token_values, rule_values, all_values, next_after}
use Rattle.dbn_net.specs.Enabled.{bound_part, enabled, enabled_in}
use Rattle.dbn_net.specs.Good.{Good}

one_later : (n m : ℕ) (v : Value) → n ≤ m → id_below n v ≡ true → id_below m v ≡ true
one_later n m (Int i) le e = refl
one_later n m (Text bytes) le e = refl
one_later n m (Id i) le e = let less : i < n = ltb-true i n e in lt-ltb i m (omega (arith, le, less))

pub below_later : (n m : ℕ) (vs : List Value) → n ≤ m → ids_below n vs ≡ true → ids_below m vs ≡ true
below_later n m [] le e = refl
below_later n m (v ∷ vs) le e =
    let p = and_parts (id_below n v) (ids_below n vs) e in
    and_from (id_below m v) (ids_below m vs) (one_later n m v le p.0) (below_later n m vs le p.1)

past_own : (v : Value) (m : ℕ) → past_id v ≤ m → id_below m v ≡ true
past_own (Int i) m le = refl
past_own (Text bytes) m le = refl
past_own (Id i) m le = lt-ltb i m (omega (arith, le))

pub past_all : (vs : List Value) → ids_below (past_ids vs) vs ≡ true
past_all [] = refl
past_all (v ∷ vs) =
    and_from (id_below (max (past_id v) (past_ids vs)) v) (ids_below (max (past_id v) (past_ids vs)) vs)
    (past_own v (max (past_id v) (past_ids vs)) (omega arith))
    (below_later (past_ids vs) (max (past_id v) (past_ids vs)) vs (omega arith) (past_all vs))

max_moved : (a b c : ℕ) → max a (max b c) ≡ max (max a b) c
max_moved a b c = omega arith

pub past_append : (xs ys : List Value) → past_ids (xs ++ ys) ≡ max (past_ids xs) (past_ids ys)
past_append [] ys = omega arith
past_append (x ∷ xs) ys = ap (max (past_id x)) (past_append xs ys) ∙ max_moved (past_id x) (past_ids xs) (past_ids ys)

-- one more of the lists
past_suc : {A : Type 0} (f : A → List Value) (xs : List A) (n : ℕ) (d : A) → n < length xs
    → past_ids (flat_map f (take (suc n) xs)) ≡ max (past_ids (flat_map f (take n xs))) (past_ids (f (slice_index_or xs n d)))
past_suc f [] n d less = absurd (omega (arith, less))
past_suc f (x ∷ xs) zero d less = past_append (f x) [] ∙ omega arith
past_suc f (x ∷ xs) (suc n) d less =
    past_append (f x) (flat_map f (take (suc n) xs))
    ∙ ap (max (past_ids (f x))) (past_suc f xs n d (omega (arith, less)))
    ∙ max_moved (past_ids (f x)) (past_ids (flat_map f (take n xs))) (past_ids (f (slice_index_or xs n d)))
    ∙ ap (λ k. max k (past_ids (f (slice_index_or xs n d)))) (sym (past_append (f x) (flat_map f (take n xs))))

pub past_more : {A : Type 0} (f : A → List Value) (xs : List A) (n : ℕ) (d : A) → n < length xs
    → past_ids (flat_map f (take (n + 1) xs)) ≡ max (past_ids (flat_map f (take n xs))) (past_ids (f (slice_index_or xs n d)))
past_more f xs n d less =
    let one : suc n ≡ n + 1 = omega arith in
    subst (λ k. past_ids (flat_map f (take k xs)) ≡ max (past_ids (flat_map f (take n xs))) (past_ids (f (slice_index_or xs n d)))) one (past_suc f xs n d less)

pub next_made : (net : List Decl) (db : Instance) (marking : Marking) (facts tokens rules : ℕ) → facts ≡ past_ids (values_in db) → tokens ≡ past_ids (token_values marking) → rules ≡ past_ids (rule_values net)
    → max (max facts tokens) rules ≡ next_after net db marking
next_made net db marking facts tokens rules f t r =
    (λ i. max (max (f i) (t i)) (r i))
    ∙ ap (λ n. max n (past_ids (rule_values net))) (sym (past_append (values_in db) (token_values marking)))
    ∙ sym (past_append (values_in db ++ token_values marking) (rule_values net))

-- one more turn of a loop over a list
pub past_step : {A : Type 0} (f : A → List Value) (xs : List A) (n : ℕ) (x : A) (old one new : ℕ) → n < length xs → x ≡ get_or xs n x
    → old ≡ past_ids (flat_map f (take n xs)) → one ≡ past_ids (f x) → new ≡ max old one → new ≡ past_ids (flat_map f (take (n + 1) xs))
past_step f xs n x old one new less is before this made =
    made ∙ (λ i. max (before i) (this i))
    ∙ sym (ap past_ids (ap (flat_map f) (take_more xs n x less is) ∙ flat_map-append f (take n xs) (x ∷ []) ∙ ap (λ l. flat_map f (take n xs) ++ l) (append-nil (f x)))
    ∙ past_append (flat_map f (take n xs)) (f x))

-- one more turn of a loop over places of a list
pub past_more_step : {A : Type 0} (f : A → List Value) (xs : List A) (n : ℕ) (d : A) (old one new : ℕ) → n < length xs
    → old ≡ past_ids (flat_map f (take n xs)) → one ≡ past_ids (f (slice_index_or xs n d)) → new ≡ max old one → new ≡ past_ids (flat_map f (take (n + 1) xs))
past_more_step f xs n d old one new less before this made = made ∙ (λ i. max (before i) (this i)) ∙ sym (past_more f xs n d less)

pub past_value_step : (vs : List Value) (n : ℕ) (v : Value) (old one new : ℕ) → n < length vs → v ≡ get_or vs n v
    → old ≡ past_ids (take n vs) → one ≡ past_id v → new ≡ max old one → new ≡ past_ids (take (n + 1) vs)
past_value_step vs n v old one new less is before this made =
    let alone : max (past_id v) 0 ≡ past_id v = omega arith in
    made ∙ (λ i. max (before i) (this i))
    ∙ sym (ap past_ids (take_more vs n v less is) ∙ past_append (take n vs) (v ∷ []) ∙ ap (max (past_ids (take n vs))) alone)

-- the ids of a state and of the net are below the next one after them
pub next_is_past : (net : List Decl) (db : Instance) (marking : Marking) → ids_below (next_after net db marking) (all_values net db marking) ≡ true
next_is_past net db marking = past_all (all_values net db marking)

-- a good snapshot stays good where the next id is a later one
pub good_later : (net : List Decl) (s : Snapshot) (m : ℕ) → s.next ≤ m → m ≤ 2 ^ 62 → Good net s
    → Good net (record { instance = s.instance; marking = s.marking; next = m; fired = s.fired })
good_later net s m le limit good = record {
  facts_ascend = good.facts_ascend;
  facts_fit = good.facts_fit;
  tokens_counted = good.tokens_counted;
  tokens_fit = good.tokens_fit;
  holds = good.holds;
  ids = below_later s.next m (all_values net s.instance s.marking) le good.ids;
  next_within = limit;
  fired_within = good.fired_within;
}

take_again : {A : Type 0} (n : ℕ) (xs : List A) → take n (take n xs) ≡ take n xs
take_again zero xs = refl
take_again (suc n) [] = refl
take_again (suc n) (x ∷ xs) = ap (λ l. x ∷ l) (take_again n xs)

-- only the bound part is looked at
pub enabled_part : (net : List Decl) (t : Transition) (db : Instance) (marking : Marking) (row : List Value) → enabled net t db marking (bound_part t row) ≡ enabled net t db marking row
enabled_part net t db marking row = ap (λ part. enabled_in net t db marking (bind t.bound part [])) (take_again (length t.bound) row)
