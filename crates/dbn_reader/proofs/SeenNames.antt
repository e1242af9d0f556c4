-- Names that stand once: a list is walked, and those before are kept in a set.
use Rattle.std.proofs.Common.{◌≡◌, ℕ, suc, ◌+◌, ◌<◌, Bool, true, false, not, ◌&&◌, ◌||◌, List, [], ◌∷◌, ◌++◌, map, refl, ap, sym, ◌∙◌, length, get_or, drop}
use Rattle.std.specs.Ordering.{is_eq}
use Rattle.std.specs.List.{list_any}
use Rattle.std.specs.declared.cmp.Ordering.{Ordering}
use Rattle.std.specs.declared.cmp.Ordering.TheVariants.{Less, Equal, Greater}
use Rattle.std.specs.BTreeSet.{insert_key}
use Rattle.std.proofs.lemmas.List.{drop_more}
use Rattle.dbn_value.specs.Names.{name_eq, name_cmp, names_tie, exact_names}
use Rattle.dbn_net.specs.Forms.{Name}
use Rattle.dbn_net.specs.Judging.{is_new, once_behind, once}

or_swap : (a b c : Bool) → (a || (b || c)) ≡ (b || (a || c))
or_swap true true c = refl
or_swap true false c = refl
or_swap false b c = refl

or_same : (a c : Bool) → (a || c) ≡ (a || (a || c))
or_same true c = refl
or_same false c = refl

module _ {X : Type 0} (v : X → Name) where
  abbrev pub seen : List X → Name → Bool
  seen keys x = list_any (λ k. is_eq (name_cmp x (v k))) keys

  abbrev by_name : X → X → Ordering
  by_name a b = name_cmp (v a) (v b)

  inserted : (keys : List X) (k : X) (x : Name) → seen (insert_key by_name keys k) x ≡ (is_eq (name_cmp x (v k)) || seen keys x)
  inserted [] k x = refl
  inserted (y ∷ ys) k x =
      elim (name_cmp (v k) (v y)) as (λ r. name_cmp (v k) (v y) ≡ r → seen (insert_key by_name (y ∷ ys) k) x ≡ (is_eq (name_cmp x (v k)) || seen (y ∷ ys) x)) [
        | Less ↦ λ e. rw e refl
        | Equal ↦ λ e. rw e (rw (exact_names (v k) (v y) e) (or_same (is_eq (name_cmp x (v y))) (seen ys x)))
        | Greater ↦ λ e. rw e (ap (λ b. is_eq (name_cmp x (v y)) || b) (inserted ys k x) ∙ or_swap (is_eq (name_cmp x (v y))) (is_eq (name_cmp x (v k))) (seen ys x))
      ] refl

  any_push : (x : Name) (done : List Name) (y : Name) → list_any (name_eq x) (done ++ y ∷ []) ≡ (name_eq x y || list_any (name_eq x) done)
  any_push x [] y = refl
  any_push x (z ∷ zs) y = ap (λ b. name_eq x z || b) (any_push x zs y) ∙ or_swap (name_eq x z) (name_eq x y) (list_any (name_eq x) zs)

  -- the keys are those that were met, and what is left decides
  pub record Walked (keys : List X) (all left : List Name) : Type 0 where
    pub done : List Name
    pub known : (x : Name) → seen keys x ≡ list_any (name_eq x) done
    pub is : once all ≡ once_behind done left

  pub walked_start : (keys : List X) (all : List Name) → keys ≡ [] → Walked keys all all
  walked_start keys all e = record {
    done = [];
    known = λ x. ap (λ ks. seen ks x) e;
    is = refl;
  }

  -- a name that is new
  pub walked_step : (keys more : List X) (k : X) (name : Name) (all rest : List Name) → v k ≡ name → seen keys (v k) ≡ false → more ≡ insert_key by_name keys k
      → Walked keys all (name ∷ rest) → Walked more all rest
  walked_step keys more k name all rest same new grown w = record {
    done = w.done ++ name ∷ [];
    known = λ x. ap (λ ks. seen ks x) grown ∙ inserted keys k x ∙ ap (λ b. b || seen keys x) (sym (names_tie x (v k)))
        ∙ ap (λ y. name_eq x y || seen keys x) same ∙ ap (λ b. name_eq x name || b) (w.known x) ∙ sym (any_push x w.done name);
    is = w.is ∙ ap (λ b. not b && once_behind (w.done ++ name ∷ []) rest) (sym (w.known name) ∙ ap (seen keys) (sym same) ∙ new);
  }

  -- one that was met
  pub walked_twice : (keys : List X) (k : X) (name : Name) (all rest : List Name) → v k ≡ name → seen keys (v k) ≡ true → Walked keys all (name ∷ rest) → once all ≡ false
  walked_twice keys k name all rest same met w =
      w.is ∙ ap (λ b. not b && once_behind (w.done ++ name ∷ []) rest) (sym (w.known name) ∙ ap (seen keys) (sym same) ∙ met)

  pub walked_end : (keys : List X) (all : List Name) → Walked keys all [] → once all ≡ true
  walked_end keys all w = w.is

-- the names of what is left
pub named_left : {T : Type 0} (name_of : T → Name) (items : List T) (i : ℕ) (item : T) → i < length items → item ≡ get_or items i item
    → map name_of (drop i items) ≡ name_of item ∷ map name_of (drop (i + 1) items)
named_left name_of items i item less is = ap (map name_of) (drop_more items i item less ∙ ap (λ y. y ∷ drop (i + 1) items) (sym is))
