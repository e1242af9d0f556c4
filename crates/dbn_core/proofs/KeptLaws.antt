-- What holds of each row of an instance or of a marking stays so through a firing, where it holds of the rows that come.
use Rattle.std.proofs.Common.{ℕ, ◌+◌, ◌-◌, zero, suc, Bool, true, false, cond, List, [], ◌∷◌, map, refl, sym, subst, inl, inr, ⊎_elim, ◌==◌}
use Rattle.std.specs.Prelude.{slice_index_or, slice_set}
use Rattle.std.specs.Set.{remove_key}
use Rattle.std.specs.Map.{remove_entry, set_value, keys_of}
use Rattle.std.specs.BTreeMap.{is_at}
use Rattle.std.specs.BTreeSet.{insert_key}
use Rattle.dbn_value.specs.Members.{In}
use Rattle.dbn_value.specs.Order.{value_cmp, row_cmp}
use Rattle.dbn_value.specs.Scope.{Env}
use Rattle.dbn_value.specs.Ascending.{ascending}
use Rattle.dbn_value.specs.declared.value.Value.{Value}
use Rattle.dbn_value.proofs.AscendingLaws.{in_insert_key, in_ascending}
use Rattle.dbn_value.proofs.EntryLaws.{keys_insert_entry}
use Rattle.dbn_value.proofs.MemberLaws.{in_map, map_in}
use Rattle.dbn_instance.specs.declared.fact.Fact.{Fact}
use Rattle.dbn_instance.specs.Facts.{rows_of, with_fact, without_fact, with_facts, without_facts, after_action}
use Rattle.dbn_formula.specs.Holds.{Instance}
use Rattle.dbn_marking.specs.Counts.{place_of, count_of, added, taken, with_tokens, without_tokens}
use Rattle.dbn_net.specs.declared.want.Want.{Want}
use Rattle.dbn_net.specs.declared.rules.Arc.{Arc}
use Rattle.dbn_net.specs.Values.{Marking}
use Rattle.dbn_net.specs.Wants.{Spot, spot_cmp, spot_of, want_at, bound_tokens, wants}
use Rattle.dbn_core.specs.Moves.{taken_all, given_all}

-- each element of each of the lists, by the number of its list
abbrev pub AllIn : {E : Type 0} → (ℕ → E → Type 0) → List (List E) → Type 0
AllIn {E} Q lists = (n : ℕ) (e : E) → In e (slice_index_or lists n []) → Q n e

all_set : {E : Type 0} (Q : ℕ → E → Type 0) (lists : List (List E)) (n : ℕ) (new : List E) → AllIn Q lists → ((e : E) → In e new → Q n e) → AllIn Q (slice_set lists n new)
all_set Q [] n new all fits k e at = all k e at
all_set Q (x ∷ lists) zero new all fits zero e at = fits e at
all_set Q (x ∷ lists) zero new all fits (suc k) e at = all (suc k) e at
all_set Q (x ∷ lists) (suc n) new all fits zero e at = all zero e at
all_set Q (x ∷ lists) (suc n) new all fits (suc k) e at = all_set (λ m. Q (suc m)) lists n new (λ m. all (suc m)) fits k e at

in_removed : {E : Type 0} (t : E → Bool) (q : E) (xs : List E) → In q (remove_key t xs) → In q xs
in_removed t q [] at = absurd at
in_removed t q (x ∷ xs) at = by (t x) at (λ later. in_removed t q xs later)
  where
    by : (b : Bool) → In q (cond b xs (x ∷ remove_key t xs)) → (In q (remove_key t xs) → In q xs) → In q (x ∷ xs)
    by true there rest = inr there
    by false there rest = ⊎_elim (λ here. inl here) (λ later. inr (rest later)) there

-- ---- facts

module _ (Q : ℕ → List Value → Type 0) where
  all_with : (db : Instance) (f : Fact Value) → AllIn Q db → Q f.rel f.row → AllIn Q (with_fact value_cmp db f)
  all_with db f all new =
      all_set Q db f.rel (insert_key row_cmp (rows_of db f.rel) f.row) all
      (λ row at. ⊎_elim (λ here. subst (λ r. Q f.rel r) (sym here) new) (λ there. all f.rel row there) (in_insert_key row_cmp f.row row (rows_of db f.rel) at))

  all_without : (db : Instance) (f : Fact Value) → AllIn Q db → AllIn Q (without_fact value_cmp db f)
  all_without db f all =
      all_set Q db f.rel (remove_key (is_at (row_cmp f.row)) (rows_of db f.rel)) all (λ row at. all f.rel row (in_removed (is_at (row_cmp f.row)) row (rows_of db f.rel) at))

  all_with_facts : (db : Instance) (facts : List (Fact Value)) → AllIn Q db → ((f : Fact Value) → In f facts → Q f.rel f.row) → AllIn Q (with_facts value_cmp db facts)
  all_with_facts db [] all new = all
  all_with_facts db (f ∷ facts) all new = all_with_facts (with_fact value_cmp db f) facts (all_with db f all (new f (inl refl))) (λ g at. new g (inr at))

  all_without_facts : (db : Instance) (facts : List (Fact Value)) → AllIn Q db → AllIn Q (without_facts value_cmp db facts)
  all_without_facts db [] all = all
  all_without_facts db (f ∷ facts) all = all_without_facts (without_fact value_cmp db f) facts (all_without db f all)

  pub all_after : (deletes adds : List (Fact Value)) (db : Instance) → AllIn Q db → ((f : Fact Value) → In f adds → Q f.rel f.row) → AllIn Q (after_action value_cmp deletes adds db)
  all_after deletes adds db all new = all_with_facts (without_facts value_cmp db deletes) adds (all_without_facts db deletes all) new

-- ---- tokens

in_left : {K X : Type 0} (t : K → Bool) (c : K × X) (es : List (K × X)) → In c (remove_entry t es) → In c es
in_left t c [] at = absurd at
in_left t c (e ∷ es) at = by (t e.0) at (λ later. in_left t c es later)
  where
    by : (b : Bool) → In c (cond b es (e ∷ remove_entry t es)) → (In c (remove_entry t es) → In c es) → In c (e ∷ es)
    by true there rest = inr there
    by false there rest = ⊎_elim (λ here. inl here) (λ later. inr (rest later)) there

key_left : {K X : Type 0} (t : K → Bool) (w : X) (k : K) (es : List (K × X)) → In k (keys_of (set_value t es w)) → In k (keys_of es)
key_left t w k [] at = absurd at
key_left t w k (e ∷ es) at = by (t e.0) at (λ later. key_left t w k es later)
  where
    by : (b : Bool) → In k (keys_of (cond b ((e.0, w) ∷ es) (e ∷ set_value t es w))) → (In k (keys_of (set_value t es w)) → In k (keys_of es)) → In k (keys_of (e ∷ es))
    by true there rest = there
    by false there rest = ⊎_elim (λ here. inl here) (λ later. inr (rest later)) there

-- the rows of each place
abbrev pub AllTokens : (ℕ → List Value → Type 0) → Marking → Type 0
AllTokens Q marking = AllIn (λ place counted. Q place counted.0) marking

module _ (Q : ℕ → List Value → Type 0) where
  -- a row of a place, by its key
  of_key : (marking : Marking) (place : ℕ) → AllTokens Q marking → (row : List Value) → In row (keys_of (place_of marking place)) → Q place row
  of_key marking place all row at =
      let found = in_map (λ (c : List Value × ℕ). c.0) row (place_of marking place) at in
      subst (λ r. Q place r) (sym found.2) (all place found.0 found.1)

  key_added : (held : List (List Value × ℕ)) (row : List Value) (many : ℕ) (c : List Value × ℕ) → In c (added row_cmp held row many) → In c.0 (insert_key row_cmp (keys_of held) row)
  key_added held row many c at =
      subst (λ keys. In c.0 keys) (keys_insert_entry row_cmp row (count_of row_cmp held row + many) held) (map_in (λ (e : List Value × ℕ). e.0) c (added row_cmp held row many) at)

  all_given_one : (marking : Marking) (place : ℕ) (row : List Value) (many : ℕ) → AllTokens Q marking → Q place row → AllTokens Q (with_tokens row_cmp marking place row many)
  all_given_one marking place row many all new =
      all_set (λ p (c : List Value × ℕ). Q p c.0) marking place (added row_cmp (place_of marking place) row many) all
      (λ c at. ⊎_elim (λ here. subst (λ r. Q place r) (sym here) new) (λ there. of_key marking place all c.0 there)
      (in_insert_key row_cmp row c.0 (keys_of (place_of marking place)) (key_added (place_of marking place) row many c at)))

  all_taken_one : (marking : Marking) (place : ℕ) (row : List Value) (many : ℕ) → AllTokens Q marking → AllTokens Q (without_tokens row_cmp marking place row many)
  all_taken_one marking place row many all =
      all_set (λ p (c : List Value × ℕ). Q p c.0) marking place (taken row_cmp (place_of marking place) row many) all (λ c at. by c (count_of row_cmp (place_of marking place) row == many) at)
    where
      by : (c : List Value × ℕ) (b : Bool)
          → In c (cond b (remove_entry (is_at (row_cmp row)) (place_of marking place)) (set_value (is_at (row_cmp row)) (place_of marking place) (count_of row_cmp (place_of marking place) row - many))) → Q place c.0
      by c true at = all place c (in_left (is_at (row_cmp row)) c (place_of marking place) at)
      by c false at =
          of_key marking place all c.0 (key_left (is_at (row_cmp row)) (count_of row_cmp (place_of marking place) row - many) c.0 (place_of marking place)
          (map_in (λ (e : List Value × ℕ). e.0) c (set_value (is_at (row_cmp row)) (place_of marking place) (count_of row_cmp (place_of marking place) row - many)) at))

  pub all_given : (ws : List (Want Value)) (marking : Marking) → AllTokens Q marking → ((w : Want Value) → In w ws → Q w.place w.row) → AllTokens Q (given_all value_cmp ws marking)
  all_given [] marking all new = all
  all_given (w ∷ ws) marking all new = all_given ws (with_tokens row_cmp marking w.place w.row w.many) (all_given_one marking w.place w.row w.many all (new w (inl refl))) (λ v at. new v (inr at))

  pub all_taken : (ws : List (Want Value)) (marking : Marking) → AllTokens Q marking → AllTokens Q (taken_all value_cmp ws marking)
  all_taken [] marking all = all
  all_taken (w ∷ ws) marking all = all_taken ws (without_tokens row_cmp marking w.place w.row w.many) (all_taken_one marking w.place w.row w.many all)

  -- each want is of the place and row of some pattern's token
  pub all_wants : (env : Env) (arcs : List Arc) → ((v : Want Value) → In v (bound_tokens env arcs) → Q v.place v.row) → (w : Want Value) → In w (wants env arcs) → Q w.place w.row
  all_wants env arcs each w at =
      let found = in_map (want_at (bound_tokens env arcs)) w (ascending spot_cmp (map spot_of (bound_tokens env arcs))) at in
      let token = in_map spot_of found.0 (bound_tokens env arcs) (in_ascending spot_cmp found.0 (map spot_of (bound_tokens env arcs)) found.1) in
      subst (λ (x : Want Value). Q x.place x.row) (sym found.2) (subst (λ (s : Spot Value). Q s.0 s.1) (sym token.2) (each token.0 token.1))
