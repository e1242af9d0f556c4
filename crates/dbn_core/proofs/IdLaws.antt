-- After a firing each id is below the new next one.
use Rattle.std.proofs.Common.{◌≡◌, ℕ, ◌+◌, ◌<◌, ◌≤◌, zero, suc, Bool, true, false, cond, if◌then◌else◌, List, [], ◌∷◌, ◌++◌, map, refl, sym, subst, inl, inr, ⊎_elim, Option, Some, arith, length}
use Rattle.std.specs.Prelude.{slice_index_or, pos}
use Rattle.std.specs.List.{flat_map}
use Rattle.std.specs.Option.{option_map_or}
use Rattle.std.proofs.lemmas.Bool.{ltb-true, lt-ltb}
use Rattle.std.proofs.lemmas.List.{take-append-drop}
use Rattle.dbn_value.specs.Members.{In}
use Rattle.dbn_value.specs.Scope.{Env, lookup, value_of, bind}
use Rattle.dbn_value.specs.Variables.{var_eq}
use Rattle.dbn_value.specs.declared.value.Value.{Value}
use Rattle.dbn_value.specs.declared.value.Value.TheVariants.{Int, Text, Id}
use Rattle.dbn_value.specs.declared.term.Var.{Var}
use Rattle.dbn_value.specs.declared.term.Term.{Term}
use Rattle.dbn_value.specs.declared.term.Term.TheVariants as term
use Rattle.dbn_value.proofs.MemberLaws.{in_map, in_flat, flat_in, all_at, all_from, in_append, append_left, append_right}
use Rattle.dbn_formula.specs.Variables.{TypedVars}
use Rattle.dbn_formula.specs.Holds.{Instance}
use Rattle.dbn_formula.specs.Answers.{constant_of, constants, values_in}
use Rattle.dbn_formula.specs.Solutions.{HasShape}
use Rattle.dbn_instance.specs.Grounding.{grounded, grounded_fact}
use Rattle.dbn_instance.specs.declared.fact.Fact.{Fact}
use Rattle.dbn_instance.specs.declared.fact.FactPattern.{FactPattern}
use Rattle.dbn_net.specs.declared.decl.Decl.{Decl}
use Rattle.dbn_net.specs.declared.rules.Arc.{Arc}
use Rattle.dbn_net.specs.declared.rules.Pattern.{Pattern}
use Rattle.dbn_net.specs.declared.rules.Read.{Read}
use Rattle.dbn_net.specs.declared.rules.Call.{Call}
use Rattle.dbn_net.specs.declared.rules.Transition.{Transition}
use Rattle.dbn_net.specs.declared.want.Want.{Want}
use Rattle.dbn_net.specs.Tables.{shape_of, scope_of}
use Rattle.dbn_net.specs.Values.{Marking, constants_of, arc_constants, fact_constants, token_values, rule_values, all_values, id_below, ids_below}
use Rattle.dbn_net.specs.Wants.{bound_token, bound_tokens, wants}
use Rattle.dbn_net.specs.Enabled.{bound_part, asked_part, bound_env, enabled}
use Rattle.dbn_net.specs.WellFormed.{Fits}
use Rattle.dbn_net.proofs.InsideLaws.{action_values, transition_values, in_index, row_values_in}
use Rattle.dbn_core.specs.Moves.{taken_all}
use Rattle.dbn_core.specs.Fire.{fresh_values, scope_values, fire_env, called, produced, moved}
use Rattle.dbn_value.specs.Order.{value_cmp}
use Rattle.dbn_core.proofs.KeptLaws.{AllIn, AllTokens, all_given, all_taken, all_wants}
use Rattle.dbn_core.proofs.FitLaws.{called_all}

-- ---- rows of values that meet P

index_of : {E : Type 0} (lists : List (List E)) (xs : List E) → In xs lists → (n : ℕ) × (slice_index_or lists n [] ≡ xs)
index_of [] xs at = absurd at
index_of (ys ∷ lists) xs at = ⊎_elim (λ here. (zero, sym here)) (λ later. let found = index_of lists xs later in (suc found.0, found.1)) at

module _ (P : Value → Type 0) where
  -- each value of the row
  abbrev Each : ℕ → List Value → Type 0
  Each n row = (v : Value) → In v row → P v

  facts_to : (db : Instance) → ((v : Value) → In v (values_in db) → P v) → AllIn Each db
  facts_to db all rel row at v among =
      let rows = in_index db rel row at in
      all v (flat_in (λ (rs : List (List Value)). flat_map (λ (r : List Value). r) rs) v rows.0 db rows.1 (flat_in (λ (r : List Value). r) v row rows.0 rows.2 among))

  facts_from : (db : Instance) → AllIn Each db → (v : Value) → In v (values_in db) → P v
  facts_from db all v at =
      let rows = in_flat (λ (rs : List (List Value)). flat_map (λ (r : List Value). r) rs) v db at in
      let row = in_flat (λ (r : List Value). r) v rows.0 rows.2 in
      let number = index_of db rows.0 rows.1 in
      all number.0 row.0 (subst (λ rs. In row.0 rs) (sym number.1) row.1) v row.2

  tokens_to : (marking : Marking) → ((v : Value) → In v (token_values marking) → P v) → AllTokens Each marking
  tokens_to marking all place c at v among =
      let held = in_index marking place c at in
      all v (flat_in (λ (h : List (List Value × ℕ)). flat_map (λ (d : List Value × ℕ). d.0) h) v held.0 marking held.1 (flat_in (λ (d : List Value × ℕ). d.0) v c held.0 held.2 among))

  tokens_from : (marking : Marking) → AllTokens Each marking → (v : Value) → In v (token_values marking) → P v
  tokens_from marking all v at =
      let held = in_flat (λ (h : List (List Value × ℕ)). flat_map (λ (d : List Value × ℕ). d.0) h) v marking at in
      let c = in_flat (λ (d : List Value × ℕ). d.0) v held.0 held.2 in
      let number = index_of marking held.0 held.1 in
      all number.0 c.0 (subst (λ h. In c.0 h) (sym number.1) c.1) v c.2

  module _ (zero_is : P (Int (pos 0))) where
    bound_each : (vars : TypedVars) (row : List Value) (env : Env) → ((v : Value) → In v row → P v) → ((x : Var) → P (lookup env x)) → (x : Var) → P (lookup (bind vars row env) x)
    bound_each [] row env all outside x = outside x
    bound_each (y ∷ vars) [] env all outside x = outside x
    bound_each (y ∷ vars) (v ∷ row) env all outside x = bound_each vars row ((y.0, v) ∷ env) (λ w at. all w (inr at)) (λ z. by z (var_eq z y.0)) x
      where
        by : (z : Var) (b : Bool) → P (cond b v (lookup env z))
        by z true = all v (inl refl)
        by z false = outside z

    scope_each : (vars : TypedVars) (row : List Value) → ((v : Value) → In v row → P v) → (x : Var) → P (lookup (bind vars row []) x)
    scope_each vars row all x = bound_each vars row [] all (λ z. zero_is) x

    terms_each : (env : Env) → ((x : Var) → P (lookup env x)) → (terms : List Term) → ((v : Value) → In v (constants_of terms) → P v) → (v : Value) → In v (map (value_of env) terms) → P v
    terms_each env vars terms consts v at =
        let found = in_map (value_of env) v terms at in
        subst P (sym found.2) (by found.0 found.1)
      where
        by : (a : Term) → In a terms → P (value_of env a)
        by (term.Var x) among = vars x
        by (term.Const w) among = consts w (flat_in constant_of w (term.Const w) terms among (inl refl))

    arcs_each : (env : Env) (arcs : List Arc) → ((x : Var) → P (lookup env x)) → ((v : Value) → In v (arc_constants arcs) → P v) → (w : Want Value) → In w (bound_tokens env arcs) → (v : Value) → In v w.row → P v
    arcs_each env arcs vars consts w at =
        let in_arc = in_flat (λ (arc : Arc). map (bound_token env arc.place) arc.patterns) w arcs at in
        let found = in_map (bound_token env in_arc.0.place) w in_arc.0.patterns in_arc.2 in
        subst (λ (u : Want Value). (v : Value) → In v u.row → P v) (sym found.2)
        (terms_each env vars found.0.terms
        (λ v among. consts v (flat_in (λ (arc : Arc). flat_map (λ (p : Pattern). constants_of p.terms) arc.patterns) v in_arc.0 arcs in_arc.1
        (flat_in (λ (p : Pattern). constants_of p.terms) v found.0 in_arc.0.patterns found.1 among))))

    grounded_each : (params : TypedVars) (args : List Value) (patterns : List FactPattern) → ((v : Value) → In v args → P v) → ((v : Value) → In v (fact_constants patterns) → P v)
        → (f : Fact Value) → In f (grounded params args patterns) → (v : Value) → In v f.row → P v
    grounded_each params args patterns all consts f at =
        let found = in_map (grounded_fact params args) f patterns at in
        subst (λ (g : Fact Value). (v : Value) → In v g.row → P v) (sym found.2)
        (terms_each (bind params args []) (scope_each params args all) found.0.terms
        (λ v among. consts v (flat_in (λ (p : FactPattern). constants_of p.terms) v found.0 patterns found.1 among)))

    -- ---- a firing

    module _ (net : List Decl) (t : Transition) (fits : Fits net t) (rules : (v : Value) → In v (rule_values net) → P v) (env : Env) (vars : (x : Var) → P (lookup env x)) where
      called_each : (db : Instance) → AllIn Each db → AllIn Each (called net env t.call db)
      called_each db all =
          called_all Each net env t.call db all
          (λ c a call is. grounded_each a.params (map (value_of env) c.args) a.adds
          (terms_each env vars c.args (λ v at. rules v (transition_values net t v fits.declared (call_constant c call v at))))
          (λ v at. rules v (action_values net c.action a v is (append_right v (fact_constants a.deletes) (fact_constants a.adds) at))))
        where
          front : List Value
          front = arc_constants t.ins ++ flat_map (λ (r : Read). constants_of r.terms) t.reads ++ option_map_or constants t.guard []

          call_constant : (c : Call) → t.call ≡ Some c → (v : Value) → In v (constants_of c.args) → In v (front ++ option_map_or (λ (d : Call). constants_of d.args) t.call [] ++ arc_constants t.outs ++ arc_constants t.backs)
          call_constant c call v at =
              append_left v (front ++ option_map_or (λ (d : Call). constants_of d.args) t.call [] ++ arc_constants t.outs) (arc_constants t.backs)
              (append_left v (front ++ option_map_or (λ (d : Call). constants_of d.args) t.call []) (arc_constants t.outs)
              (append_right v front (option_map_or (λ (d : Call). constants_of d.args) t.call [])
              (subst (λ (o : Option Call). In v (option_map_or (λ (d : Call). constants_of d.args) o [])) (sym call) at)))

      instance_each : (b : Bool) (db : Instance) → ((v : Value) → In v (values_in db) → P v) → (v : Value) → In v (values_in (if b then called net env t.call db else db)) → P v
      instance_each true db all = facts_from (called net env t.call db) (called_each db (facts_to db all))
      instance_each false db all = all

      produced_constant : (committed : Bool) (v : Value) → In v (arc_constants (produced t committed)) → In v (rule_values net)
      produced_constant true v at = transition_values net t v fits.declared (append_left v _ (arc_constants t.backs) (append_right v _ (arc_constants t.outs) at))
      produced_constant false v at = transition_values net t v fits.declared (append_right v _ (arc_constants t.backs) at)

      marking_each : (bound : Env) (committed : Bool) (marking : Marking) → ((v : Value) → In v (token_values marking) → P v) → (v : Value) → In v (token_values (moved t bound env committed marking)) → P v
      marking_each bound committed marking all =
          tokens_from (moved t bound env committed marking)
          (all_given Each (wants env (produced t committed)) (taken_all value_cmp (wants bound t.ins) marking) (all_taken Each (wants bound t.ins) marking (tokens_to marking all))
          (all_wants Each env (produced t committed) (arcs_each env (produced t committed) vars (λ v at. rules v (produced_constant committed v at)))))

-- ---- ids

abbrev Below : ℕ → Value → Type 0
Below n v = id_below n v ≡ true

below_more : (n k : ℕ) (v : Value) → Below n v → Below (n + k) v
below_more n k (Int i) below = refl
below_more n k (Text bytes) below = refl
below_more n k (Id i) below = let less : i < n = ltb-true i n below in lt-ltb i (n + k) (omega arith)

fresh_below : (fresh : List Var) (next last : ℕ) → next + length fresh ≤ last → (v : Value) → In v (fresh_values next fresh) → Below last v
fresh_below [] next last small v at = absurd at
fresh_below (x ∷ fresh) next last small v at =
    let rest : next + 1 + length fresh ≤ last = omega arith in
    ⊎_elim (λ here. subst (λ w. Below last w) (sym here) (lt-ltb next last (omega arith))) (λ later. fresh_below fresh (next + 1) last rest v later) at

-- after a firing each id is below the new next one
pub ids_after : (net : List Decl) (t : Transition) (db : Instance) (marking : Marking) (row : List Value) (next : ℕ) (b committed : Bool) → Fits net t → HasShape row (shape_of t)
    → enabled net t db marking row ≡ true → ids_below next (asked_part t row) ≡ true → ids_below next (all_values net db marking) ≡ true
    → ids_below (next + length t.fresh) (all_values net (if b then called net (fire_env t row next) t.call db else db) (moved t (bound_env t row) (fire_env t row next) committed marking)) ≡ true
ids_after net t db marking row next b committed fits shape on known before =
    all_from (id_below last) (values_in after ++ token_values left ++ rule_values net)
    (λ v at. ⊎_elim
    (λ state. ⊎_elim
    (λ fact. instance_each (Below last) refl net t fits rules env vars b db facts v fact)
    (λ token. marking_each (Below last) refl net t fits rules env vars (bound_env t row) committed marking tokens v token)
    (in_append v (values_in after) (token_values left) state))
    (λ rule. rules v rule)
    (in_append v (values_in after ++ token_values left) (rule_values net) at))
  where
    last : ℕ
    last = next + length t.fresh

    env : Env
    env = fire_env t row next

    after : Instance
    after = if b then called net env t.call db else db

    left : Marking
    left = moved t (bound_env t row) env committed marking

    old : (v : Value) → In v (all_values net db marking) → Below last v
    old v at = below_more next (length t.fresh) v (all_at (id_below next) v (all_values net db marking) before at)

    rules : (v : Value) → In v (rule_values net) → Below last v
    rules v at = old v (append_right v (values_in db ++ token_values marking) (rule_values net) at)

    facts : (v : Value) → In v (values_in db) → Below last v
    facts v at = old v (append_left v (values_in db ++ token_values marking) (rule_values net) (append_left v (values_in db) (token_values marking) at))

    tokens : (v : Value) → In v (token_values marking) → Below last v
    tokens v at = old v (append_left v (values_in db ++ token_values marking) (rule_values net) (append_right v (values_in db) (token_values marking) at))

    given_below : (v : Value) → In v (bound_part t row ++ asked_part t row) → Below last v
    given_below v at =
        ⊎_elim
        (λ bound. old v (row_values_in net t db marking row fits shape on v bound))
        (λ asked. below_more next (length t.fresh) v (all_at (id_below next) v (asked_part t row) known asked))
        (in_append v (bound_part t row) (asked_part t row) at)

    vars : (x : Var) → Below last (lookup env x)
    vars x =
        scope_each (Below last) refl (scope_of t) (scope_values t row next)
        (λ v at. ⊎_elim (λ part. given_below v (subst (λ r. In v r) (sym (take-append-drop (length t.bound) row)) part)) (λ new. fresh_below t.fresh next last (omega arith) v new)
        (in_append v row (fresh_values next t.fresh) at))
        x
