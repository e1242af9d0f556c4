-- What is planned with fewer alternatives is a plan of the formula itself.
use Rattle.std.proofs.Common.{◌≡◌, ◌≤◌, ◌+◌, ◌*◌, ℕ, ℤ, true, List, [], refl, ap, sym, ◌∙◌, subst, Option, length, arith}
use Rattle.std.specs.declared.cmp.Ordering.{Ordering}
use Rattle.std.proofs.Math.Nat.{mul-le-mul_left}
use Rattle.dbn_value.specs.Members.{In}
use Rattle.dbn_value.specs.declared.value.Value.{Value}
use Rattle.dbn_value.specs.declared.term.Var.{Var}
use Rattle.dbn_formula.specs.Variables.{TypedVars, binds}
use Rattle.dbn_formula.specs.Holds.{holds_over}
use Rattle.dbn_formula.specs.Free.{occurrences}
use Rattle.dbn_formula.specs.Answers.{constants}
use Rattle.dbn_formula.specs.Typing.{Shapes}
use Rattle.dbn_formula.specs.Size.{size}
use Rattle.dbn_formula.specs.declared.formula.Formula.{Formula}
use Rattle.dbn_network.specs.Values.{val}
use Rattle.dbn_network.specs.States.{State}
use Rattle.dbn_plan.specs.Columns.{HaveCells}
use Rattle.dbn_plan.specs.Meaning.{Means}
use Rattle.dbn_plan.specs.Compiled.{World, Fit}
use Rattle.dbn_plan.specs.Making.{IsReady, rate}
use Rattle.dbn_plan.specs.Answering.{var_labels, Planned}
use Rattle.dbn_plan.specs.Easing.{eased}
use Rattle.dbn_plan.proofs.NodeLaws.{means_alike}
use Rattle.dbn_plan.proofs.EasingKept.{Lighter, eased_lighter}

pub lighter : (g f : Formula) → g ≡ eased f → Lighter g f
lighter g f e = subst (λ h. Lighter h f) (sym e) (eased_lighter f)

module _ {C : Type 0} (cell_of : Value → Option C) (g f : Formula) (e : g ≡ eased f) where
  pub eased_cells : HaveCells cell_of (constants g) → HaveCells cell_of (constants f)
  eased_cells cells = subst (HaveCells cell_of) (lighter g f e).consts cells

  pub eased_ready : (rels : Shapes) (bound : List Var) → IsReady cell_of rels bound f → IsReady cell_of rels bound g
  eased_ready rels bound ready = record {
    safe = (lighter g f e).safe bound ready.safe;
    arity = (lighter g f e).arity rels ready.arity;
    cells = subst (HaveCells cell_of) (sym (lighter g f e).consts) ready.cells;
  }

pub eased_occurs : (g f : Formula) (vars : TypedVars) → g ≡ eased f → ((x : Var) → binds vars x ≡ true → In x (occurrences f)) → (x : Var) → binds vars x ≡ true → In x (occurrences g)
eased_occurs g f vars e occurring x b = (lighter g f e).vars.back x (occurring x b)

pub eased_bound : (g f : Formula) (vars : TypedVars) → g ≡ eased f → ((x : Var) → In x (occurrences f) → binds vars x ≡ true) → (x : Var) → In x (occurrences g) → binds vars x ≡ true
eased_bound g f vars e bound x at = bound x ((lighter g f e).vars.there x at)

eased_fit : (g f : Formula) → Lighter g f → (consts : List Value) (rels : Shapes) (scope : TypedVars) (bound : List Var) → Fit consts rels f scope bound → Fit consts rels g scope bound
eased_fit g f l consts rels scope bound fit = record {
  safe_here = l.safe bound fit.safe_here;
  typed = l.types rels scope fit.typed;
  once = l.once fit.once;
  scoped = λ x at. fit.scoped x (l.vars.there x at);
  written = λ v at. fit.written v (subst (In v) l.consts at);
}

module _ {C : Type 0} {R : C → C → Ordering} {int_of : C → Option ℤ} (cell_of : Value → Option C) where
  pub eased_planned : (g f : Formula) (vars : TypedVars) (old new : State C) (node : ℕ) → g ≡ eased f → Planned R int_of cell_of g vars old new node → Planned R int_of cell_of f vars old new node
  eased_planned g f vars old new node e planned =
      let l : Lighter g f = lighter g f e in
      record {
        grown = planned.grown;
        few =
            let a : length new.nodes ≤ length old.nodes + rate old.rels * size g + size g = planned.few in
            let small : size g ≤ size f = l.small in
            let more : rate old.rels * size g ≤ rate old.rels * size f = mul-le-mul_left (rate old.rels) small in
            omega (arith, a, small, more);
        ends = planned.ends;
        means = λ w fit.
            means_alike w.coding.total w.coding.exact w.K w.coding.one (val R node new.nodes w.feeds) (var_labels vars) (λ t. holds_over w.dom w.db g t) (λ t. holds_over w.dom w.db f t) (l.holds w.dom w.db)
            ((subst (λ cs. (v : World R int_of cell_of cs old.rels) → Fit cs old.rels g vars [] → Means v.K (val R node new.nodes v.feeds) (var_labels vars) (λ t. holds_over v.dom v.db g t)) l.consts planned.means)
            w (eased_fit g f l (constants f) old.rels vars [] fit));
      }
