-- One turn of the loops that put the query together, and of the one that lists bindings.
use Rattle.std.proofs.Common.{◌≡◌, ℕ, ◌+◌, ◌<◌, ◌≤◌, Bool, true, false, cond, List, [], ◌∷◌, ◌++◌, map, sym, ap, ◌∙◌, subst, length, take, get_or, append_assoc, append-nil, Result, Ok, Err, OnOk, zero, suc}
use Rattle.std.specs.List.{flat_map, filter}
use Rattle.std.proofs.lemmas.Grind.{flat_map-append}
use Rattle.std.proofs.lemmas.List.{map-append, take_all}
use Rattle.std.proofs.lemmas.List.Elements.{filter-append}
use Rattle.std.specs.List.Sorted.{IsStrictlySortedBy}
use Rattle.std.specs.Map.{keys_of}
use Rattle.dbn_value.specs.Order.{row_cmp}
use Rattle.dbn_value.proofs.AscendingLaws.{sorted_nil}
use Rattle.dbn_value.proofs.ListLaws.{take_more}
use Rattle.dbn_marking.specs.Counts.{IsMarking, place_of}
use Rattle.dbn_net.specs.Values.{Marking}
use Rattle.dbn_formula.specs.Holds.{Instance}
use Rattle.dbn_formula.specs.declared.formula.Formula.{Formula}
use Rattle.dbn_slow.specs.Clauses.{Clause, IsJoined}

pub joined_mapped : {A : Type 0} (f : A → Clause) (xs : List A) (i : ℕ) (x : A) (cs : List Clause) (new : List Formula) (after : Instance) → i < length xs → x ≡ get_or xs i x
    → IsJoined ((cs ++ map f (take i xs)) ++ f x ∷ []) new after → IsJoined (cs ++ map f (take (i + 1) xs)) new after
joined_mapped f xs i x cs new after less is joined =
    subst (λ l. IsJoined l new after)
    (append_assoc cs (map f (take i xs)) (f x ∷ []) ∙ ap (λ l. cs ++ l) (sym (map-append f (take i xs) (x ∷ [])) ∙ ap (map f) (sym (take_more xs i x less is)))) joined

pub joined_flat : {A : Type 0} (f : A → List Clause) (xs : List A) (i : ℕ) (x : A) (cs : List Clause) (new : List Formula) (after : Instance) → i < length xs → x ≡ get_or xs i x
    → IsJoined ((cs ++ flat_map f (take i xs)) ++ f x) new after → IsJoined (cs ++ flat_map f (take (i + 1) xs)) new after
joined_flat f xs i x cs new after less is joined =
    subst (λ l. IsJoined l new after)
    (append_assoc cs (flat_map f (take i xs)) (f x)
    ∙ ap (λ l. cs ++ l) (ap (λ l. flat_map f (take i xs) ++ l) (sym (append-nil (f x))) ∙ sym (flat_map-append f (take i xs) (x ∷ [])) ∙ ap (flat_map f) (sym (take_more xs i x less is)))) joined

pub joined_start : (cs : List Clause) (atoms : List Formula) (shown : Instance) → IsJoined cs atoms shown → IsJoined (cs ++ []) atoms shown
joined_start cs atoms shown joined = subst (λ l. IsJoined l atoms shown) (sym (append-nil cs)) joined

pub all_mapped : {A : Type 0} (f : A → Clause) (xs : List A) (i : ℕ) (cs : List Clause) (new : List Formula) (after : Instance) → length xs ≤ i → IsJoined (cs ++ map f (take i xs)) new after → IsJoined (cs ++ map f xs) new after
all_mapped f xs i cs new after past joined = subst (λ l. IsJoined (cs ++ map f l) new after) (take_all i xs past) joined

pub all_flat : {A : Type 0} (f : A → List Clause) (xs : List A) (i : ℕ) (cs : List Clause) (new : List Formula) (after : Instance) → length xs ≤ i → IsJoined (cs ++ flat_map f (take i xs)) new after → IsJoined (cs ++ flat_map f xs) new after
all_flat f xs i cs new after past joined = subst (λ l. IsJoined (cs ++ flat_map f l) new after) (take_all i xs past) joined

-- ---- rows that pass

one_more : {A : Type 0} (p : A → Bool) (xs : List A) (i : ℕ) (x : A) (b : Bool) → i < length xs → x ≡ get_or xs i x → p x ≡ b → filter p (take (i + 1) xs) ≡ filter p (take i xs) ++ cond b (x ∷ []) []
one_more p xs i x b less is told = ap (filter p) (take_more xs i x less is) ∙ filter-append p (take i xs) (x ∷ []) ∙ ap (λ c. filter p (take i xs) ++ cond c (x ∷ []) []) told

pub passed_on : {A : Type 0} (p : A → Bool) (xs : List A) (i : ℕ) (x : A) (made new : List A) → i < length xs → x ≡ get_or xs i x → p x ≡ true → made ≡ filter p (take i xs) → new ≡ made ++ x ∷ [] → new ≡ filter p (take (i + 1) xs)
passed_on p xs i x made new less is told so_far more = more ∙ ap (λ l. l ++ x ∷ []) so_far ∙ sym (one_more p xs i x true less is told)

pub left_out : {A : Type 0} (p : A → Bool) (xs : List A) (i : ℕ) (x : A) (made : List A) → i < length xs → x ≡ get_or xs i x → p x ≡ false → made ≡ filter p (take i xs) → made ≡ filter p (take (i + 1) xs)
left_out p xs i x made less is told so_far = so_far ∙ sym (append-nil (filter p (take i xs))) ∙ sym (one_more p xs i x false less is told)

pub one_kept : {A : Type 0} (p : A → Bool) (xs : List A) (i : ℕ) (x : A) (b : Bool) (made new : List A) → i < length xs → x ≡ get_or xs i x → b ≡ p x → made ≡ filter p (take i xs)
    → new ≡ (cond b (made ++ x ∷ []) made) → new ≡ filter p (take (i + 1) xs)
one_kept p xs i x true made new less is told so_far more = passed_on p xs i x made new less is (sym told) so_far more
one_kept p xs i x false made new less is told so_far more = more ∙ left_out p xs i x made less is (sym told) so_far

-- ---- what holds after success

pub on_more : {A E P Q : Type 0} (r : Result A E) → (P → Q) → OnOk r P → OnOk r Q
on_more (Ok x) more p = more p
on_more (Err e) more p = tt

-- the rows that have tokens in a place ascend
pub keys_sorted : (marking : Marking) (place : ℕ) → IsMarking row_cmp marking → IsStrictlySortedBy row_cmp (keys_of (place_of marking place))
keys_sorted [] place counted = sorted_nil row_cmp
keys_sorted (held ∷ marking) zero counted = counted.0.ascends
keys_sorted (held ∷ marking) (suc place) counted = keys_sorted marking place counted.1
