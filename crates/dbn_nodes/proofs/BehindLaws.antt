-- A row behind the last one is not there.
use Rattle.std.proofs.Common.{◌≡◌, ◌<◌, true, false, List, [], ◌∷◌, refl, sym, ap, ◌∙◌, subst, Some, None, Option, length, arith}
use Rattle.std.specs.Prelude.{IsSome}
use Rattle.std.specs.declared.cmp.Ordering.{Ordering}
use Rattle.std.specs.declared.cmp.Ordering.TheVariants.{Less, Equal, Greater}
use Rattle.std.specs.Ordering.{is_gt, is_lt, ordering_reverse}
use Rattle.std.specs.Cmp.{IsTotalOrder}
use Rattle.std.specs.Map.{lookup}
use Rattle.std.specs.BTreeMap.{is_at}
use Rattle.std.proofs.lemmas.Bool.{true≢false}

turned : (x y : Ordering) → y ≡ ordering_reverse x → is_gt x ≡ true → is_lt y ≡ true
turned Less y e gt = absurd cc
turned Equal y e gt = absurd cc
turned Greater y e gt = ap is_lt e

module _ {K V : Type 0} {R : K → K → Ordering} (o : IsTotalOrder R) where
  pub behind_all : (es : List (K × V)) (key last : K) → ((q : K) → IsSome (lookup (is_at (R q)) es) → is_lt (R last q) ≡ false) → is_gt (R key last) ≡ true → lookup (is_at (R key)) es ≡ None
  behind_all es key last greatest gt = here (lookup (is_at (R key)) es) refl
    where
      here : (found : Option V) → lookup (is_at (R key)) es ≡ found → lookup (is_at (R key)) es ≡ None
      here None e = e
      here (Some v) e = absurd (true≢false (sym (turned (R key last) (R last key) (o.antisymm last key) gt) ∙ greatest key (subst IsSome (sym e) refl)))

  pub none_in_none : (es : List (K × V)) (key : K) → (0 < length es → false ≡ true) → lookup (is_at (R key)) es ≡ None
  none_in_none [] key e = refl
  none_in_none (x ∷ es) key e = absurd (true≢false (sym (e (omega arith))))
