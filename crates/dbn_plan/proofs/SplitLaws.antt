-- A conjunction whose last part is denied: the parts before it, and what it denies.
use Rattle.std.proofs.Common.{◌≡◌, ◌+◌, inl, ⊎_elim, true, not, ◌&&◌, List, [], ◌∷◌, ◌++◌, map, refl, ap, sym, ◌∙◌, subst, Option, arith}
use Rattle.std.specs.List.{list_all, flat_map}
use Rattle.std.proofs.Math.Bool.{and-true}
use Rattle.std.proofs.lemmas.Bool.{and_parts, and_from}
use Rattle.std.proofs.lemmas.List.{append_assoc}
use Rattle.std.proofs.lemmas.List.Folds.{list_all-append}
use Rattle.std.proofs.lemmas.Grind.{flat_map-append}
use Rattle.dbn_value.specs.Members.{In}
use Rattle.dbn_value.proofs.MemberLaws.{all_at, in_append, append_left, append_right}
use Rattle.dbn_value.specs.declared.value.Value.{Value}
use Rattle.dbn_value.specs.declared.term.Var.{Var}
use Rattle.dbn_formula.specs.Variables.{TypedVars, is_in}
use Rattle.dbn_formula.specs.Holds.{Domain, Instance, Env, holds_over}
use Rattle.dbn_formula.specs.Free.{occurrences}
use Rattle.dbn_formula.specs.Answers.{constants}
use Rattle.dbn_formula.specs.Safe.{safe_in_order, in_turn, as_level, all_in}
use Rattle.dbn_formula.specs.Size.{total, size}
use Rattle.dbn_formula.specs.Distinct.{distinct}
use Rattle.dbn_formula.specs.Typing.{Shapes, types_fit, arity_fits}
use Rattle.dbn_formula.specs.declared.formula.Formula.{Formula}
use Rattle.dbn_formula.specs.declared.formula.Formula.TheVariants.{And, Not}
use Rattle.dbn_formula.proofs.HoldsLaws.{holds_and, holds_not}
use Rattle.dbn_formula.proofs.FreeLaws.{occurrences_and, occurrences_not}
use Rattle.dbn_formula.proofs.ConstantsLaws.{constants_and}
use Rattle.dbn_formula.proofs.TypingLaws.{types_and, arity_and}
use Rattle.dbn_formula.proofs.DistinctLaws.{distinct_and}
use Rattle.dbn_formula.proofs.SizeLaws.{size_and, size_not}
use Rattle.dbn_formula.proofs.SafeLaws.{in_order_and, in_order_not}
use Rattle.dbn_formula.proofs.VariableLaws.{in_of_is}
use Rattle.dbn_formula.proofs.OrderOfParts.{Alike}
use Rattle.dbn_formula.proofs.Arranged.{alike_self, alike_then, alike_same, in_order_alike}
use Rattle.dbn_plan.specs.Compiled.{Fit}
use Rattle.dbn_plan.specs.Making.{IsReady}
use Rattle.dbn_plan.specs.Referring.{lacking}
use Rattle.dbn_plan.proofs.FormulaLaws.{FitAll, all_fit, first_fit, rest_fit}
use Rattle.dbn_plan.proofs.FormsReady.{and_ready, not_ready}
use Rattle.dbn_plan.proofs.StepsMade.{append_nil}

-- ---- the last of several parts

total_last : (fs : List Formula) (f : Formula) → total (map size (fs ++ f ∷ [])) ≡ total (map size fs) + size f
total_last [] f = omega arith
total_last (g ∷ fs) f = let rest = total_last fs f in omega (arith, rest)

turn_last : (fs : List Formula) (f : Formula) (bound : List Var) → in_turn (map as_level (fs ++ f ∷ [])) bound ≡ true
    → (in_turn (map as_level fs) bound ≡ true) × (safe_in_order f (bound ++ flat_map occurrences fs) ≡ true)
turn_last [] f bound turn = (refl, subst (λ xs. safe_in_order f xs ≡ true) (sym (append_nil bound)) (and_parts (safe_in_order f bound) true turn).0)
turn_last (g ∷ fs) f bound turn =
    let parts = and_parts (safe_in_order g bound) (in_turn (map as_level (fs ++ f ∷ [])) (bound ++ occurrences g)) turn in
    let rest = turn_last fs f (bound ++ occurrences g) parts.1 in (
      and_from (safe_in_order g bound) (in_turn (map as_level fs) (bound ++ occurrences g)) parts.0 rest.0,
      subst (λ xs. safe_in_order f xs ≡ true) (append_assoc bound (occurrences g) (flat_map occurrences fs)) rest.1,
    )

fit_last : (consts : List Value) (rels : Shapes) (fs : List Formula) (f : Formula) (scope : TypedVars) (bound more : List Var) → Alike more (bound ++ flat_map occurrences fs)
    → FitAll consts rels (fs ++ f ∷ []) scope bound → FitAll consts rels fs scope bound × Fit consts rels f scope more
fit_last consts rels [] f scope bound more alike fit =
    let own = first_fit consts rels f [] scope bound fit in
    let same : Alike more bound = alike_then more (bound ++ []) bound alike (alike_same (bound ++ []) bound (append_nil bound)) in (
      record { safe_here = refl; typed = refl; once = refl; scoped = λ x at. absurd at; written = λ v at. absurd at },
      record { safe_here = in_order_alike f more bound same ∙ own.safe_here; typed = own.typed; once = own.once; scoped = own.scoped; written = own.written },
    )
fit_last consts rels (g ∷ fs) f scope bound more alike fit =
    let here = first_fit consts rels g (fs ++ f ∷ []) scope bound fit in
    let behind = rest_fit consts rels g (fs ++ f ∷ []) scope bound (bound ++ occurrences g) (alike_self (bound ++ occurrences g)) fit in
    let split = fit_last consts rels fs f scope (bound ++ occurrences g) more
    (alike_then more (bound ++ flat_map occurrences (g ∷ fs)) ((bound ++ occurrences g) ++ flat_map occurrences fs) alike
    (alike_same (bound ++ flat_map occurrences (g ∷ fs)) ((bound ++ occurrences g) ++ flat_map occurrences fs) (sym (append_assoc bound (occurrences g) (flat_map occurrences fs)))))
    behind in
    let rest = split.0 in (
      record {
        safe_here = and_from (safe_in_order g bound) (in_turn (map as_level fs) (bound ++ occurrences g)) here.safe_here rest.safe_here;
        typed = and_from (types_fit rels g scope) (list_all (λ h. types_fit rels h scope) fs) here.typed rest.typed;
        once = and_from (distinct g) (list_all distinct fs) here.once rest.once;
        scoped = λ x at. ⊎_elim (here.scoped x) (rest.scoped x) (in_append x (occurrences g) (flat_map occurrences fs) at);
        written = λ v at. ⊎_elim (here.written v) (rest.written v) (in_append v (constants g) (flat_map constants fs) at);
      },
      split.1,
    )

-- ---- the two sides

module _ (front : List Formula) (right : Formula) where
  pub lacking_size : size (lacking front right) ≡ 1 + size (And front) + size right
  lacking_size =
      let outer = size_and (front ++ Not right ∷ []) in
      let sum = total_last front (Not right) in
      let inner = size_and front in
      let denied = size_not right in
      omega (arith, outer, sum, inner, denied)

  both : (dom : Domain) (db : Instance) (t : Env) → holds_over dom db (lacking front right) t ≡ (holds_over dom db (And front) t && not (holds_over dom db right t))
  both dom db t =
      holds_and dom db (front ++ Not right ∷ []) t
      ∙ list_all-append (λ f. holds_over dom db f t) front (Not right ∷ [])
      ∙ ap (λ b. list_all (λ f. holds_over dom db f t) front && b) (and-true (holds_over dom db (Not right) t) ∙ holds_not dom db right t)
      ∙ ap (λ b. b && not (holds_over dom db right t)) (sym (holds_and dom db front t))

  pub lacking_from : (dom : Domain) (db : Instance) (t : Env) → holds_over dom db (And front) t ≡ true → not (holds_over dom db right t) ≡ true → holds_over dom db (lacking front right) t ≡ true
  lacking_from dom db t first none = both dom db t ∙ and_from (holds_over dom db (And front) t) (not (holds_over dom db right t)) first none

  pub lacking_sides : (dom : Domain) (db : Instance) (t : Env) → holds_over dom db (lacking front right) t ≡ true → (holds_over dom db (And front) t ≡ true) × (not (holds_over dom db right t) ≡ true)
  lacking_sides dom db t holds = and_parts (holds_over dom db (And front) t) (not (holds_over dom db right t)) (sym (both dom db t) ∙ holds)

  occurs : occurrences (lacking front right) ≡ occurrences (And front) ++ occurrences right
  occurs =
      occurrences_and (front ++ Not right ∷ [])
      ∙ flat_map-append occurrences front (Not right ∷ [])
      ∙ ap (λ xs. flat_map occurrences front ++ xs) (append_nil (occurrences (Not right)) ∙ occurrences_not right)
      ∙ ap (λ xs. xs ++ occurrences right) (sym (occurrences_and front))

  pub left_occurs : (x : Var) → In x (occurrences (And front)) → In x (occurrences (lacking front right))
  left_occurs x at = subst (In x) (sym occurs) (append_left x (occurrences (And front)) (occurrences right) at)

  pub right_occurs : (x : Var) → In x (occurrences right) → In x (occurrences (lacking front right))
  right_occurs x at = subst (In x) (sym occurs) (append_right x (occurrences (And front)) (occurrences right) at)

  -- the variables of both sides are those of the first
  pub within_left : ((x : Var) → In x (occurrences right) → In x (occurrences (And front))) → (x : Var) → In x (occurrences (lacking front right)) → In x (occurrences (And front))
  within_left within x at = ⊎_elim (λ here. here) (within x) (in_append x (occurrences (And front)) (occurrences right) (subst (In x) occurs at))

  pub lacking_fit : (consts : List Value) (rels : Shapes) (scope : TypedVars) (bound more : List Var) → Alike more (bound ++ occurrences (And front)) → Fit consts rels (lacking front right) scope bound
      → Fit consts rels (And front) scope bound × Fit consts rels (Not right) scope more
  lacking_fit consts rels scope bound more alike fit =
      let split = fit_last consts rels front (Not right) scope bound more (subst (λ xs. Alike more (bound ++ xs)) (occurrences_and front) alike) (all_fit consts rels (front ++ Not right ∷ []) scope bound fit) in
      let all = split.0 in (
        record {
          safe_here = in_order_and front bound ∙ all.safe_here;
          typed = types_and rels front scope ∙ all.typed;
          once = distinct_and front ∙ all.once;
          scoped = λ x at. all.scoped x (subst (In x) (occurrences_and front) at);
          written = λ v at. all.written v (subst (In v) (constants_and front) at);
        },
        split.1,
      )

  -- ---- both are ready

  module _ {C : Type 0} (cell_of : Value → Option C) (rels : Shapes) (ready : IsReady cell_of rels [] (lacking front right)) where
    turns : (in_turn (map as_level front) [] ≡ true) × (safe_in_order (Not right) (flat_map occurrences front) ≡ true)
    turns = turn_last front (Not right) [] (sym (in_order_and (front ++ Not right ∷ []) []) ∙ ready.safe)

    pub first_ready : IsReady cell_of rels [] (And front)
    first_ready = record {
      safe = in_order_and front [] ∙ turns.0;
      arity = arity_and rels front ∙ (and_parts (list_all (arity_fits rels) front) (list_all (arity_fits rels) (Not right ∷ [])) (sym (list_all-append (arity_fits rels) front (Not right ∷ [])) ∙ sym (arity_and rels (front ++ Not right ∷ [])) ∙ ready.arity)).0;
      cells = λ v at.
          ready.cells v (subst (In v) (sym (constants_and (front ++ Not right ∷ []) ∙ flat_map-append constants front (Not right ∷ []))) (append_left v (flat_map constants front) (flat_map constants (Not right ∷ [])) (subst (In v) (constants_and front) at)));
    }

    denied_safe : safe_in_order (Not right) (occurrences (And front)) ≡ true
    denied_safe = subst (λ xs. safe_in_order (Not right) xs ≡ true) (sym (occurrences_and front)) turns.1

    pub second_within : (x : Var) → In x (occurrences right) → In x (occurrences (And front))
    second_within x at =
        in_of_is x (occurrences (And front))
        (all_at (λ y. is_in y (occurrences (And front))) x (occurrences right)
        (and_parts (all_in (occurrences right) (occurrences (And front))) (safe_in_order right (occurrences (And front))) (sym (in_order_not right (occurrences (And front))) ∙ denied_safe)).0 at)

    pub second_ready : IsReady cell_of rels (occurrences (And front)) right
    second_ready =
        not_ready cell_of rels (occurrences (And front)) right
        (and_ready cell_of rels rels [] (occurrences (And front)) (front ++ Not right ∷ []) (Not right) (append_right (Not right) front (Not right ∷ []) (inl refl)) refl ready denied_safe)
