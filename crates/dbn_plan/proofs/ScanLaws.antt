-- A formula has no more atoms than its size.
use Rattle.std.proofs.Common.{◌≡◌, ◌<◌, ◌+◌, ◌≤◌, ℕ, List, [], ◌∷◌, ◌++◌, map, take, ap, sym, ◌∙◌, length, get_or, arith}
use Rattle.std.proofs.lemmas.List.{take_more, length-append}
use Rattle.dbn_value.specs.declared.term.Term.{Term}
use Rattle.dbn_formula.specs.Size.{total, size}
use Rattle.dbn_formula.specs.declared.formula.Formula.{Formula}
use Rattle.dbn_formula.specs.declared.formula.Formula.TheVariants.{Atom}
use Rattle.dbn_formula.proofs.SizeLaws.{size_atom}

total_push : (fs : List Formula) (f : Formula) → total (map size (fs ++ f ∷ [])) ≡ total (map size fs) + size f
total_push [] f = omega arith
total_push (g ∷ fs) f = let rest = total_push fs f in omega (arith, rest)

pub total_more : (fs : List Formula) (i : ℕ) (f : Formula) → i < length fs → f ≡ get_or fs i f → total (map size (take (i + 1) fs)) ≡ total (map size (take i fs)) + size f
total_more fs i f h is = ap (λ gs. total (map size gs)) (take_more fs i f h ∙ ap (λ g. take i fs ++ g ∷ []) (sym is)) ∙ total_push (take i fs) f

-- an atom's relation is one number more
pub one_relation : (out new : List ℕ) (rel : ℕ) (terms : List Term) (f : Formula) → f ≡ Atom rel terms → new ≡ out ++ rel ∷ [] → length new ≤ length out + size f
one_relation out new rel terms f is e =
    let longer = ap length e in
    let more = length-append out (rel ∷ []) in
    let whole = ap size is ∙ size_atom rel terms in
    omega (arith, longer, more, whole)
