-- What is ready to be compiled, in its parts.
use Rattle.std.proofs.Common.{◌≡◌, ℕ, zero, suc, true, not, List, [], ◌∷◌, drop, sym, ◌∙◌, subst, Option}
use Rattle.std.specs.List.{list_any, list_all, flat_map}
use Rattle.std.proofs.lemmas.Bool.{true≢false, and_parts}
use Rattle.dbn_value.specs.Members.{In}
use Rattle.dbn_value.proofs.MemberLaws.{all_at, flat_in, append_right}
use Rattle.dbn_value.specs.declared.value.Value.{Value}
use Rattle.dbn_value.specs.declared.term.Var.{Var}
use Rattle.dbn_formula.specs.Variables.{TypedVars, binds}
use Rattle.dbn_formula.specs.Free.{occurrences}
use Rattle.dbn_formula.specs.Answers.{constants}
use Rattle.dbn_formula.specs.Typing.{Shapes, arity_fits}
use Rattle.dbn_formula.specs.Safe.{safe_in_order, all_in}
use Rattle.dbn_formula.specs.declared.formula.Formula.{Formula}
use Rattle.dbn_formula.specs.declared.formula.Formula.TheVariants.{And, Or, Not, Implies, Exists, Forall}
use Rattle.dbn_formula.proofs.ConstantsLaws.{constants_and, constants_or, constants_not, constants_exists}
use Rattle.dbn_formula.proofs.TypingLaws.{arity_and, arity_or, arity_not, arity_exists}
use Rattle.dbn_formula.proofs.SafeLaws.{in_order_not, in_order_implies, in_order_exists, in_order_forall}
use Rattle.dbn_plan.specs.Columns.{HaveCells}
use Rattle.dbn_plan.specs.Making.{IsReady}
use Rattle.dbn_plan.proofs.MadeLaws.{part_safe}

module _ {C : Type 0} (cell_of : Value → Option C) (rels : Shapes) where
  pub and_ready : (now : Shapes) (bound more : List Var) (fs : List Formula) (f : Formula) → In f fs → now ≡ rels → IsReady cell_of rels bound (And fs) → safe_in_order f more ≡ true → IsReady cell_of now more f
  and_ready now bound more fs f at e ready safe =
      subst (λ rs. IsReady cell_of rs more f) (sym e)
      (record {
        safe = safe;
        arity = all_at (arity_fits rels) f fs (sym (arity_and rels fs) ∙ ready.arity) at;
        cells = λ v here. ready.cells v (subst (In v) (sym (constants_and fs)) (flat_in constants v f fs at here));
      })

  -- what stands from some place on
  pub and_arity : (now : Shapes) (bound : List Var) (i : ℕ) (fs : List Formula) → now ≡ rels → IsReady cell_of rels bound (And fs) → list_all (arity_fits now) (drop i fs) ≡ true
  and_arity now bound i fs e ready = subst (λ rs. list_all (arity_fits rs) (drop i fs) ≡ true) (sym e) (behind i fs (sym (arity_and rels fs) ∙ ready.arity))
    where
      behind : (i : ℕ) (fs : List Formula) → list_all (arity_fits rels) fs ≡ true → list_all (arity_fits rels) (drop i fs) ≡ true
      behind zero fs all = all
      behind (suc i) [] all = all
      behind (suc i) (f ∷ fs) all = behind i fs (and_parts (arity_fits rels f) (list_all (arity_fits rels) fs) all).1

  pub and_cells : (bound : List Var) (i : ℕ) (fs : List Formula) → IsReady cell_of rels bound (And fs) → HaveCells cell_of (flat_map constants (drop i fs))
  and_cells bound i fs ready v at = ready.cells v (subst (In v) (sym (constants_and fs)) (behind i fs v at))
    where
      behind : (i : ℕ) (fs : List Formula) (v : Value) → In v (flat_map constants (drop i fs)) → In v (flat_map constants fs)
      behind zero fs v at = at
      behind (suc i) [] v at = at
      behind (suc i) (f ∷ fs) v at = append_right v (constants f) (flat_map constants fs) (behind i fs v at)

  pub or_ready : (bound : List Var) (fs : List Formula) (f : Formula) → In f fs → IsReady cell_of rels bound (Or fs) → IsReady cell_of rels bound f
  or_ready bound fs f at ready = record {
    safe = part_safe fs f bound at ready.safe;
    arity = all_at (arity_fits rels) f fs (sym (arity_or rels fs) ∙ ready.arity) at;
    cells = λ v here. ready.cells v (subst (In v) (sym (constants_or fs)) (flat_in constants v f fs at here));
  }

  pub not_ready : (bound : List Var) (f : Formula) → IsReady cell_of rels bound (Not f) → IsReady cell_of rels bound f
  not_ready bound f ready = record {
    safe = (and_parts (all_in (occurrences f) bound) (safe_in_order f bound) (sym (in_order_not f bound) ∙ ready.safe)).1;
    arity = sym (arity_not rels f) ∙ ready.arity;
    cells = λ v here. ready.cells v (subst (In v) (sym (constants_not f)) here);
  }

  pub exists_ready : (bound : List Var) (vars : TypedVars) (f : Formula) → IsReady cell_of rels bound (Exists vars f) → IsReady cell_of rels bound f
  exists_ready bound vars f ready = record {
    safe = (and_parts (not (list_any (binds vars) bound)) (safe_in_order f bound) (sym (in_order_exists vars f bound) ∙ ready.safe)).1;
    arity = sym (arity_exists rels vars f) ∙ ready.arity;
    cells = λ v here. ready.cells v (subst (In v) (sym (constants_exists vars f)) here);
  }

  pub never_implies : (bound : List Var) (f g : Formula) → IsReady cell_of rels bound (Implies f g) → ⊥
  never_implies bound f g ready = true≢false (sym ready.safe ∙ in_order_implies f g bound)

  pub never_forall : (bound : List Var) (vars : TypedVars) (f : Formula) → IsReady cell_of rels bound (Forall vars f) → ⊥
  never_forall bound vars f ready = true≢false (sym ready.safe ∙ in_order_forall vars f bound)
