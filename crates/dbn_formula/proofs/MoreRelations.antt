-- A formula over the first relations has the same arity and types over more of them.
use Rattle.std.proofs.Common.{◌≡◌, ℕ, ◌<◌, zero, suc, Bool, ◌&&◌, ◌==◌, List, [], ◌∷◌, ◌++◌, refl, sym, ap, ◌∙◌, subst, inl, inr, length, arith}
use Rattle.std.specs.Prelude.{slice_index_or, not, if◌then◌else◌, Some, None}
use Rattle.std.specs.List.{AllByRecursion, list_all}
use Rattle.dbn_value.specs.Members.{In}
use Rattle.dbn_value.proofs.MemberLaws.{flat_in, append_left, append_right, recursion_at}
use Rattle.dbn_formula.specs.Variables.{TypedVars}
use Rattle.dbn_formula.specs.Typing.{Shapes, entered, arity_fits, types_fit, terms_fit, all_bound, type_fault}
use Rattle.dbn_formula.specs.Written.{relations, OfFirst}
use Rattle.dbn_formula.specs.declared.formula.Formula.{Formula}
use Rattle.dbn_formula.specs.declared.typing.TypeFault.TheVariants.{Arity, TypeClash, Unbound}
use Rattle.dbn_formula.specs.declared.formula.Formula.TheVariants.{And, Or}
use Rattle.dbn_formula.proofs.Induction.{induction}
use Rattle.dbn_formula.proofs.TypingLaws.{arity_atom, arity_test, arity_and, arity_or, arity_not, arity_implies, arity_exists, arity_forall, types_atom, types_test, types_and, types_or, types_not, types_implies, types_exists, types_forall}
use Rattle.dbn_formula.proofs.WrittenLaws.{relations_atom, relations_and, relations_or, relations_not, relations_implies, relations_exists, relations_forall}

index_kept : {A : Type 0} (xs ys : List A) (n : ℕ) (d : A) → n < length xs → slice_index_or (xs ++ ys) n d ≡ slice_index_or xs n d
index_kept [] ys n d less = absurd (omega arith)
index_kept (x ∷ xs) ys zero d less = refl
index_kept (x ∷ xs) ys (suc n) d less = index_kept xs ys n d (omega arith)

all_same : (p q : Formula → Bool) (fs : List Formula) → ((f : Formula) → In f fs → p f ≡ q f) → list_all p fs ≡ list_all q fs
all_same p q [] same = refl
all_same p q (f ∷ fs) same = ap (λ b. b && list_all p fs) (same f (inl refl)) ∙ ap (λ b. q f && b) (all_same p q fs (λ g at. same g (inr at)))

module _ (rels more : Shapes) where
  of_and : (fs : List Formula) → OfFirst (length rels) (And fs) → (f : Formula) → In f fs → OfFirst (length rels) f
  of_and fs first f at n among = first n (subst (In n) (sym (relations_and fs)) (flat_in relations n f fs at among))

  of_or : (fs : List Formula) → OfFirst (length rels) (Or fs) → (f : Formula) → In f fs → OfFirst (length rels) f
  of_or fs first f at n among = first n (subst (In n) (sym (relations_or fs)) (flat_in relations n f fs at among))

  abbrev Kept : Formula → Type 0
  Kept f = OfFirst (length rels) f → (arity_fits (rels ++ more) f ≡ arity_fits rels f) × ((scope : TypedVars) → types_fit (rels ++ more) f scope ≡ types_fit rels f scope)

  kept : (f : Formula) → Kept f
  kept = induction Kept (record {
    atom = λ rel terms first.
        let same = index_kept rels more rel [] (first rel (subst (In rel) (sym (relations_atom rel terms)) (inl refl))) in (
          arity_atom (rels ++ more) rel terms ∙ ap (λ shape. length terms == length shape) same ∙ sym (arity_atom rels rel terms),
          λ scope. types_atom (rels ++ more) rel terms scope ∙ ap (λ shape. terms_fit scope terms shape) same ∙ sym (types_atom rels rel terms scope),
        );
    test = λ c left right first.
        (arity_test (rels ++ more) c left right ∙ sym (arity_test rels c left right), λ scope. types_test (rels ++ more) c left right scope ∙ sym (types_test rels c left right scope));
    both = λ fs each first. (
      arity_and (rels ++ more) fs ∙ all_same (arity_fits (rels ++ more)) (arity_fits rels) fs (λ f at. (recursion_at Kept f fs each at (of_and fs first f at)).0) ∙ sym (arity_and rels fs),
      λ scope. types_and (rels ++ more) fs scope
          ∙ all_same (λ f. types_fit (rels ++ more) f scope) (λ f. types_fit rels f scope) fs (λ f at. (recursion_at Kept f fs each at (of_and fs first f at)).1 scope)
          ∙ sym (types_and rels fs scope),
    );
    either = λ fs each first. (
      arity_or (rels ++ more) fs ∙ all_same (arity_fits (rels ++ more)) (arity_fits rels) fs (λ f at. (recursion_at Kept f fs each at (of_or fs first f at)).0) ∙ sym (arity_or rels fs),
      λ scope. types_or (rels ++ more) fs scope
          ∙ all_same (λ f. types_fit (rels ++ more) f scope) (λ f. types_fit rels f scope) fs (λ f at. (recursion_at Kept f fs each at (of_or fs first f at)).1 scope)
          ∙ sym (types_or rels fs scope),
    );
    denial = λ f part first.
        let here = part (λ n at. first n (subst (In n) (sym (relations_not f)) at)) in
        (arity_not (rels ++ more) f ∙ here.0 ∙ sym (arity_not rels f), λ scope. types_not (rels ++ more) f scope ∙ here.1 scope ∙ sym (types_not rels f scope));
    implication = λ f g one two first.
        let l = one (λ n at. first n (subst (In n) (sym (relations_implies f g)) (append_left n (relations f) (relations g) at))) in
        let r = two (λ n at. first n (subst (In n) (sym (relations_implies f g)) (append_right n (relations f) (relations g) at))) in (
          arity_implies (rels ++ more) f g ∙ ap (λ b. b && arity_fits (rels ++ more) g) l.0 ∙ ap (λ b. arity_fits rels f && b) r.0 ∙ sym (arity_implies rels f g),
          λ scope. types_implies (rels ++ more) f g scope ∙ ap (λ b. b && types_fit (rels ++ more) g scope) (l.1 scope) ∙ ap (λ b. types_fit rels f scope && b) (r.1 scope) ∙ sym (types_implies rels f g scope),
        );
    some = λ vars f part first.
        let here = part (λ n at. first n (subst (In n) (sym (relations_exists vars f)) at)) in
        (arity_exists (rels ++ more) vars f ∙ here.0 ∙ sym (arity_exists rels vars f), λ scope. types_exists (rels ++ more) vars f scope ∙ here.1 (entered vars scope) ∙ sym (types_exists rels vars f scope));
    every = λ vars f part first.
        let here = part (λ n at. first n (subst (In n) (sym (relations_forall vars f)) at)) in
        (arity_forall (rels ++ more) vars f ∙ here.0 ∙ sym (arity_forall rels vars f), λ scope. types_forall (rels ++ more) vars f scope ∙ here.1 (entered vars scope) ∙ sym (types_forall rels vars f scope));
  })

pub arity_more : (rels more : Shapes) (f : Formula) → OfFirst (length rels) f → arity_fits (rels ++ more) f ≡ arity_fits rels f
arity_more rels more f first = (kept rels more f first).0

pub types_more : (rels more : Shapes) (f : Formula) (scope : TypedVars) → OfFirst (length rels) f → types_fit (rels ++ more) f scope ≡ types_fit rels f scope
types_more rels more f scope first = (kept rels more f first).1 scope

pub fault_more : (rels more : Shapes) (f : Formula) (scope : TypedVars) → OfFirst (length rels) f → type_fault (rels ++ more) f scope ≡ type_fault rels f scope
fault_more rels more f scope first =
    ap (λ b. if not b then Some Arity else if not (types_fit (rels ++ more) f scope) then Some TypeClash else if not (all_bound f scope) then Some Unbound else None) (arity_more rels more f first)
    ∙ ap (λ b. if not (arity_fits rels f) then Some Arity else if not b then Some TypeClash else if not (all_bound f scope) then Some Unbound else None) (types_more rels more f scope first)
