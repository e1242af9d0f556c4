-- Variables with the types of their first occurrences: one more, and all in turn; the terms of a row one by one.
use Rattle.std.proofs.Common.{◌≡◌, ℕ, zero, suc, ◌+◌, ◌<◌, Bool, true, false, cond, not, ◌||◌, List, [], ◌∷◌, ◌++◌, map, refl, ap, sym, ◌∙◌, arith, length, get_or, drop, append_assoc}
use Rattle.std.specs.List.{filter, flat_map}
use Rattle.std.specs.BTreeSet.{insert_key}
use Rattle.std.proofs.lemmas.List.{append-nil, map-append, drop_more, drop-drop, get_or-drop}
use Rattle.std.proofs.lemmas.List.Elements.{filter-append}
use Rattle.std.proofs.lemmas.Bool.{or_left, or_right, or_from, false_from_ne_true}
use Rattle.dbn_value.specs.Variables.{var_eq, var_cmp}
use Rattle.dbn_value.specs.declared.value.ColType.{ColType}
use Rattle.dbn_value.specs.declared.value.ColType.TheVariants as col
use Rattle.dbn_value.specs.declared.term.Var.{Var}
use Rattle.dbn_value.specs.declared.term.Term.{Term}
use Rattle.dbn_value.specs.declared.term.Term.TheVariants as term
use Rattle.dbn_formula.specs.Variables.{TypedVars, is_in, binds}
use Rattle.dbn_formula.proofs.VariableLaws.{var_same, var_alike}
use Rattle.dbn_formula.specs.Known.{Knows}
use Rattle.dbn_formula.proofs.Firsts.{turned}
use Rattle.dbn_formula.proofs.KnownLaws.{knows_more}
use Rattle.dbn_net.specs.Naming.{typed_variable, typed_occurrences, first_typed}
use Rattle.dbn_reader.specs.Bound.{with_typed, with_all}

-- ---- first occurrences

-- the first occurrences of the rest that aren't y
abbrev others : Var → TypedVars → TypedVars
others y xs = filter (λ z. not (var_eq y z.0)) xs

-- x among the others than y is x among all, unless it is y
kept : (x y : Var) (xs : TypedVars) → var_eq y x ≡ false → binds (others y xs) x ≡ binds xs x
kept x y [] e = refl
kept x y (z ∷ zs) e =
    elim (var_eq y z.0) as (λ b. var_eq y z.0 ≡ b → binds (cond (not b) (z ∷ others y zs) (others y zs)) x ≡ binds (z ∷ zs) x) [
      | true ↦ λ same. kept x y zs e ∙ ap (λ b. b || binds zs x) (sym (other same))
      | false ↦ λ differs. ap (λ b. var_eq x z.0 || b) (kept x y zs e)
    ] refl
  where
    other : var_eq y z.0 ≡ true → var_eq x z.0 ≡ false
    other same = false_from_ne_true (var_eq x z.0) (λ f. clash (sym (var_alike y x (var_same y z.0 same ∙ sym (var_same x z.0 f))) ∙ e))
      where
        clash : true ≡ false → ⊥
        clash g = cc

-- one more variable behind y and others, by whether it is among the rest and whether it is y
behind : (x y : Var × ColType) (xs : TypedVars) (b c : Bool) → binds xs x.0 ≡ b → var_eq y.0 x.0 ≡ c
    → (y ∷ others y.0 (cond b xs (xs ++ x ∷ []))) ≡ cond (binds (y ∷ others y.0 xs) x.0) (y ∷ others y.0 xs) ((y ∷ others y.0 xs) ++ x ∷ [])
behind x y xs true true p q =
    sym (ap (λ u. cond u (y ∷ others y.0 xs) ((y ∷ others y.0 xs) ++ x ∷ [])) (or_left (var_eq x.0 y.0) (binds (others y.0 xs) x.0) (sym (turned x.0 y.0) ∙ q)))
behind x y xs true false p q =
    sym (ap (λ u. cond u (y ∷ others y.0 xs) ((y ∷ others y.0 xs) ++ x ∷ [])) (or_right (var_eq x.0 y.0) (binds (others y.0 xs) x.0) (kept x.0 y.0 xs q ∙ p)))
behind x y xs false true p q =
    ap (λ zs. y ∷ zs)
    (filter-append (λ z. not (var_eq y.0 z.0)) xs (x ∷ [])
    ∙ ap (λ u. others y.0 xs ++ cond (not u) (x ∷ []) []) q
    ∙ append-nil (others y.0 xs))
    ∙ sym (ap (λ u. cond u (y ∷ others y.0 xs) ((y ∷ others y.0 xs) ++ x ∷ [])) (or_left (var_eq x.0 y.0) (binds (others y.0 xs) x.0) (sym (turned x.0 y.0) ∙ q)))
behind x y xs false false p q =
    ap (λ zs. y ∷ zs) (filter-append (λ z. not (var_eq y.0 z.0)) xs (x ∷ []) ∙ ap (λ u. others y.0 xs ++ cond (not u) (x ∷ []) []) q)
    ∙ sym (ap (λ u. cond u (y ∷ others y.0 xs) ((y ∷ others y.0 xs) ++ x ∷ []))
    (or_from (var_eq x.0 y.0) (binds (others y.0 xs) x.0) (sym (turned x.0 y.0) ∙ q) (kept x.0 y.0 xs q ∙ p)))

firsts_more : (x : Var × ColType) (xs : TypedVars) → first_typed (xs ++ x ∷ []) ≡ with_typed (first_typed xs) x
unfolding with_typed
firsts_more x [] = refl
firsts_more x (y ∷ ys) = ap (λ zs. y ∷ others y.0 zs) (firsts_more x ys) ∙ behind x y (first_typed ys) (binds (first_typed ys) x.0) (var_eq y.0 x.0) refl refl

firsts_all : (xs ys : TypedVars) → with_all (first_typed xs) ys ≡ first_typed (xs ++ ys)
firsts_all xs [] = ap first_typed (sym (append-nil xs))
firsts_all xs (y ∷ ys) =
    ap (λ zs. with_all zs ys) (sym (firsts_more y xs)) ∙ firsts_all (xs ++ y ∷ []) ys ∙ ap first_typed (append_assoc xs (y ∷ []) ys)

pub all_firsts : (ys : TypedVars) → with_all [] ys ≡ first_typed ys
all_firsts ys = firsts_all [] ys

pub with_both : (vars xs ys : TypedVars) → with_all vars (xs ++ ys) ≡ with_all (with_all vars xs) ys
with_both vars [] ys = refl
with_both vars (x ∷ xs) ys = with_both (with_typed vars x) xs ys

pub ruleset bound_laws = (all_firsts, with_both)

-- ---- the set beside the list

abbrev var_in : Var × ColType → Var
var_in x = x.0

pub bound_in : (vars : TypedVars) (x : Var) → is_in x (map (λ y. y.0) vars) ≡ binds vars x
bound_in [] x = refl
bound_in (y ∷ vars) x = ap (λ b. var_eq x y.0 || b) (bound_in vars x)

pub ruleset known_laws = (bound_in)

-- the set and the list get the same variable
pub knows_typed : (keys more : List Var) (xs ys : TypedVars) (k : Var) (kind : ColType) → Knows keys (map (λ y. y.0) xs) → more ≡ insert_key var_cmp keys k
    → ys ≡ xs ++ (k, kind) ∷ [] → Knows more (map (λ y. y.0) ys)
knows_typed keys more xs ys k kind known grown f =
    knows_more keys more (map var_in xs) (map var_in ys) k known grown (ap (map var_in) f ∙ map-append var_in xs ((k, kind) ∷ []))

-- ---- the terms of a row

first_term : (t : Term) (terms : List Term) (shape : List ColType) → typed_occurrences (t ∷ terms) shape ≡ typed_variable t (get_or shape 0 col.Int) ++ typed_occurrences terms (drop 1 shape)
first_term t terms [] = refl
first_term t terms (kind ∷ shape) = refl

-- the next term stands at the next column
pub next_term : (terms : List Term) (shape : List ColType) (i : ℕ) (t : Term) → i < length terms → t ≡ get_or terms i t
    → typed_occurrences (drop i terms) (drop i shape) ≡ typed_variable t (get_or shape i col.Int) ++ typed_occurrences (drop (i + 1) terms) (drop (i + 1) shape)
next_term terms shape i t less is =
    ap (λ ts. typed_occurrences ts (drop i shape)) (drop_more terms i t less ∙ ap (λ (y : Term). y ∷ drop (i + 1) terms) (sym is))
    ∙ first_term t (drop (i + 1) terms) (drop i shape)
    ∙ ap (λ (kind : ColType). typed_variable t kind ++ typed_occurrences (drop (i + 1) terms) (drop 1 (drop i shape))) (get_or-drop i shape 0 col.Int ∙ ap (λ (n : ℕ). get_or shape n col.Int) zeros)
    ∙ ap (λ (s : List ColType). typed_variable t (get_or shape i col.Int) ++ typed_occurrences (drop (i + 1) terms) s) (drop-drop 1 i shape)
  where
    zeros : i + 0 ≡ i
    zeros = omega arith

-- one more term of a row
pub term_step : (terms : List Term) (shape : List ColType) (i : ℕ) (t : Term) (before old new : TypedVars) → i < length terms → t ≡ get_or terms i t
    → before ≡ with_all old (typed_occurrences (drop i terms) (drop i shape)) → new ≡ with_all old (typed_variable t (get_or shape i col.Int))
    → before ≡ with_all new (typed_occurrences (drop (i + 1) terms) (drop (i + 1) shape))
term_step terms shape i t before old new less is e f =
    e ∙ ap (with_all old) (next_term terms shape i t less is)
    ∙ with_both old (typed_variable t (get_or shape i col.Int)) (typed_occurrences (drop (i + 1) terms) (drop (i + 1) shape))
    ∙ ap (λ (vars : TypedVars). with_all vars (typed_occurrences (drop (i + 1) terms) (drop (i + 1) shape))) (sym f)

-- one more part of several
pub part_step : {A : Type 0} (f : A → TypedVars) (xs : List A) (i : ℕ) (x : A) (before old new : TypedVars) → i < length xs → x ≡ get_or xs i x
    → before ≡ with_all old (flat_map f (drop i xs)) → new ≡ with_all old (f x) → before ≡ with_all new (flat_map f (drop (i + 1) xs))
part_step f xs i x before old new less is e g =
    e ∙ ap (λ ys. with_all old (flat_map f ys)) (drop_more xs i x less ∙ ap (λ y. y ∷ drop (i + 1) xs) (sym is))
    ∙ with_both old (f x) (flat_map f (drop (i + 1) xs))
    ∙ ap (λ (vars : TypedVars). with_all vars (flat_map f (drop (i + 1) xs))) (sym g)
