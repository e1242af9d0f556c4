-- A sentence as the query of its denial.
use Rattle.std.proofs.Common.{◌≡◌, ◌↔◌, Bool, true, false, not, cond, List, [], ◌∷◌, ◌++◌, refl, ap, sym, ◌∙◌, Option, Some, None, length, arith}
use Rattle.std.specs.Prelude.{if◌then◌else◌}
use Rattle.std.specs.List.{list_all, filter}
use Rattle.std.proofs.lemmas.Bool.{true≢false}
use Rattle.dbn_value.specs.Ascending.{ascending}
use Rattle.dbn_value.specs.Order.{value_cmp, value_type}
use Rattle.dbn_value.specs.declared.value.Value.{Value}
use Rattle.dbn_formula.specs.Variables.{type_eq, binds}
use Rattle.dbn_formula.specs.Holds.{Instance, holds_over}
use Rattle.dbn_formula.specs.Answers.{domain, values_in, holds, answers}
use Rattle.dbn_formula.specs.Typing.{Shapes, arity_fits, types_fit, all_bound, type_fault}
use Rattle.dbn_formula.specs.Solutions.{AcceptsQuery, AcceptsSentence}
use Rattle.dbn_formula.specs.declared.formula.Formula.{Formula}
use Rattle.dbn_formula.specs.declared.formula.Formula.TheVariants.{Not}
use Rattle.dbn_formula.specs.declared.typing.TypeFault.{TypeFault}
use Rattle.dbn_formula.specs.declared.typing.TypeFault.TheVariants.{Arity, TypeClash, Unbound}
use Rattle.dbn_formula.proofs.HoldsLaws.{holds_not}
use Rattle.dbn_formula.proofs.ConstantsLaws.{constants_not}
use Rattle.dbn_formula.proofs.FreeLaws.{occurrences_not}
use Rattle.dbn_formula.proofs.TypingLaws.{arity_not, types_not}

faults : Bool → Bool → Bool → Option TypeFault
faults a b c = if not a then Some Arity else if not b then Some TypeClash else if not c then Some Unbound else None

same_faults : (a b c x y z : Bool) → x ≡ a → y ≡ b → z ≡ c → faults x y z ≡ faults a b c
same_faults a b c x y z e f g = ap (λ u. faults u y z) e ∙ ap (λ u. faults a u z) f ∙ ap (faults a b) g

same_fault : (rels : Shapes) (f : Formula) → type_fault rels (Not f) [] ≡ type_fault rels f []
unfolding faults
same_fault rels f =
    same_faults (arity_fits rels f) (types_fit rels f []) (all_bound f []) (arity_fits rels (Not f)) (types_fit rels (Not f) []) (all_bound (Not f) []) (arity_not rels f) (types_not rels f [])
    (ap (λ xs. list_all (binds []) xs) (occurrences_not f))

pub denial_accepted : (rels : Shapes) (f : Formula) → AcceptsSentence rels f → AcceptsQuery rels [] (Not f)
denial_accepted rels f s = record {
  typed = same_fault rels f ∙ s.typed;
  once = refl;
  all_free = λ x b. absurd (true≢false (sym b));
  is_safe = s.is_safe;
}

none_of : (b : Bool) → ◌≡◌ {A = List (List Value)} (cond b ([] ∷ []) []) [] → b ≡ false
none_of true e = let n = ap length e in absurd (omega (arith, n))
none_of false e = refl

none_from : (b : Bool) → b ≡ false → ◌≡◌ {A = List (List Value)} (cond b ([] ∷ []) []) []
none_from b e = ap (λ c. cond c ([] ∷ []) []) e

denied_is : (f : Formula) (db : Instance) → holds (Not f) db [] ≡ not (holds f db [])
denied_is f db =
    holds_not (domain (Not f) db) db f []
    ∙ ap (λ vs. not (holds_over (λ type. ascending value_cmp (filter (λ v. type_eq (value_type v) type) (values_in db ++ vs))) db f [])) (constants_not f)

not_false : (b : Bool) → not b ≡ false → b ≡ true
not_false true e = refl
not_false false e = absurd (true≢false e)

pub denial_answers : (f : Formula) (db : Instance) → (answers (Not f) [] db ≡ []) ↔ (holds f db [] ≡ true)
denial_answers f db = (
  λ e. not_false (holds f db []) (sym (denied_is f db) ∙ none_of (holds (Not f) db []) e),
  λ e. none_from (holds (Not f) db []) (denied_is f db ∙ ap not e),
)
