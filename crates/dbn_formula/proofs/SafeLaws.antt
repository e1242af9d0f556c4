-- The safety test and what it makes, variant by variant.
use Rattle.std.proofs.Common.{◌≡◌, ℕ, true, false, not, ◌&&◌, List, [], ◌∷◌, ◌++◌, map, refl, ap, sym, ◌∙◌, length}
use Rattle.std.specs.List.{list_any, list_all, flat_map, AllByRecursion}
use Rattle.std.proofs.lemmas.List.{length-map}
use Rattle.std.proofs.lemmas.List.Folds.{list_all-map, flat_map-map}
use Rattle.dbn_value.specs.declared.term.Var.{Var}
use Rattle.dbn_formula.specs.Variables.{binds}
use Rattle.dbn_formula.specs.Free.{unhidden, occurrences}
use Rattle.dbn_formula.specs.Safe.{Level, all_in, test_safe, outside, all_taken, in_order, in_turn, level_step, level_of, safe, safe_in_order, is_apart, arranged, as_level}
use Rattle.dbn_value.specs.declared.term.Term.{Term}
use Rattle.dbn_value.specs.declared.term.Cmp.{Cmp}
use Rattle.dbn_formula.specs.Variables.{TypedVars}
use Rattle.dbn_formula.specs.declared.formula.Formula.{Formula}
use Rattle.dbn_formula.specs.declared.formula.Formula.TheVariants.{Atom, Test, And, Or, Not, Implies, Exists, Forall}
use Rattle.dbn_formula.specs.declared.formula.Formula.TheOpen as layer
use Rattle.dbn_formula.proofs.Folds.{fold_atom, fold_test, fold_and, fold_or, fold_not, fold_implies, fold_exists, fold_forall}
use Rattle.dbn_formula.proofs.FreeLaws.{occurrences_atom, occurrences_test, occurrences_and, occurrences_or, occurrences_not, occurrences_implies, occurrences_exists, occurrences_forall}
use Rattle.dbn_formula.proofs.Induction.{induction}
use Rattle.dbn_formula.proofs.Maps.{map-map}

-- the level's variables are the free variables
all_named : (fs : List Formula) → AllByRecursion (λ f. (level_of f).vars ≡ occurrences f) fs → flat_map (λ part. part) (map (λ part. part.vars) (map level_of fs)) ≡ flat_map occurrences fs
all_named [] each = refl
all_named (f ∷ fs) each = ap (λ xs. xs ++ flat_map (λ part. part) (map (λ part. part.vars) (map level_of fs))) each.0 ∙ ap (λ ys. occurrences f ++ ys) (all_named fs each.1)

named : (f : Formula) → (level_of f).vars ≡ occurrences f
unfolding level_of
named = induction (λ f. (level_of f).vars ≡ occurrences f) (record {
  atom = λ rel terms. ap (λ l. l.vars) (fold_atom Level level_step rel terms) ∙ sym (occurrences_atom rel terms);
  test = λ cmp left right. ap (λ l. l.vars) (fold_test Level level_step cmp left right) ∙ sym (occurrences_test cmp left right);
  both = λ fs each. ap (λ l. l.vars) (fold_and Level level_step fs) ∙ all_named fs each ∙ sym (occurrences_and fs);
  either = λ fs each. ap (λ l. l.vars) (fold_or Level level_step fs) ∙ all_named fs each ∙ sym (occurrences_or fs);
  denial = λ f at. ap (λ l. l.vars) (fold_not Level level_step f) ∙ at ∙ sym (occurrences_not f);
  implication = λ f g at there. ap (λ l. l.vars) (fold_implies Level level_step f g) ∙ ap (λ xs. xs ++ (level_of g).vars) at ∙ ap (λ ys. occurrences f ++ ys) there ∙ sym (occurrences_implies f g);
  some = λ vars f at. ap (λ l. l.vars) (fold_exists Level level_step vars f) ∙ ap (unhidden vars) at ∙ sym (occurrences_exists vars f);
  every = λ vars f at. ap (λ l. l.vars) (fold_forall Level level_step vars f) ∙ ap (unhidden vars) at ∙ sym (occurrences_forall vars f);
})

pub level_is : (f : Formula) → level_of f ≡ as_level f
unfolding safe safe_in_order is_apart arranged
level_is f = ap (λ xs. record (level_of f) { vars = xs }) (named f)

all_levels : (fs : List Formula) → map level_of fs ≡ map as_level fs
all_levels [] = refl
all_levels (f ∷ fs) = ap (λ l. l ∷ map level_of fs) (level_is f) ∙ ap (λ ls. as_level f ∷ ls) (all_levels fs)

-- one level, with those of the parts
level_atom : (rel : ℕ) (terms : List Term) → level_of (Atom rel terms) ≡ level_step (layer.Atom rel terms)
unfolding level_of
level_atom rel terms = fold_atom Level level_step rel terms

level_test : (cmp : Cmp) (left right : Term) → level_of (Test cmp left right) ≡ level_step (layer.Test cmp left right)
unfolding level_of
level_test cmp left right = fold_test Level level_step cmp left right

level_and : (fs : List Formula) → level_of (And fs) ≡ level_step (layer.And (map as_level fs))
unfolding level_of
level_and fs = fold_and Level level_step fs ∙ ap (λ ls. level_step (layer.And ls)) (all_levels fs)

level_or : (fs : List Formula) → level_of (Or fs) ≡ level_step (layer.Or (map as_level fs))
unfolding level_of
level_or fs = fold_or Level level_step fs ∙ ap (λ ls. level_step (layer.Or ls)) (all_levels fs)

level_not : (f : Formula) → level_of (Not f) ≡ level_step (layer.Not (as_level f))
unfolding level_of
level_not f = fold_not Level level_step f ∙ ap (λ l. level_step (layer.Not l)) (level_is f)

level_implies : (f g : Formula) → level_of (Implies f g) ≡ level_step (layer.Implies (as_level f) (as_level g))
unfolding level_of
level_implies f g = fold_implies Level level_step f g ∙ ap (λ l. level_step (layer.Implies l (level_of g))) (level_is f) ∙ ap (λ l. level_step (layer.Implies (as_level f) l)) (level_is g)

level_exists : (vars : TypedVars) (f : Formula) → level_of (Exists vars f) ≡ level_step (layer.Exists vars (as_level f))
unfolding level_of
level_exists vars f = fold_exists Level level_step vars f ∙ ap (λ l. level_step (layer.Exists vars l)) (level_is f)

level_forall : (vars : TypedVars) (f : Formula) → level_of (Forall vars f) ≡ level_step (layer.Forall vars (as_level f))
unfolding level_of
level_forall vars f = fold_forall Level level_step vars f ∙ ap (λ l. level_step (layer.Forall vars l)) (level_is f)

pub safe_atom : (rel : ℕ) (terms : List Term) (bound : List Var) → safe (Atom rel terms) bound ≡ true
unfolding safe
safe_atom rel terms bound = ap (λ l. l.fit bound) (level_atom rel terms)

pub safe_test : (cmp : Cmp) (left right : Term) (bound : List Var) → safe (Test cmp left right) bound ≡ test_safe cmp left right bound
unfolding safe
safe_test cmp left right bound = ap (λ l. l.fit bound) (level_test cmp left right)

pub safe_and : (fs : List Formula) (bound : List Var) → safe (And fs) bound ≡ all_taken (length fs) (map as_level fs) bound
unfolding safe
safe_and fs bound = ap (λ l. l.fit bound) (level_and fs)
    ∙ ap (λ n. all_taken n (map as_level fs) bound) (length-map fs as_level)

pub safe_or : (fs : List Formula) (bound : List Var) → safe (Or fs) bound ≡ list_all (λ f. safe f bound && all_in (flat_map occurrences fs) (bound ++ occurrences f)) fs
unfolding safe
safe_or fs bound = ap (λ l. l.fit bound) (level_or fs)
    ∙ ap (λ xs. list_all (λ part. part.fit bound && all_in xs (bound ++ part.vars)) (map as_level fs)) (flat_map-map (λ part. part.vars) as_level fs)
    ∙ list_all-map (λ part. part.fit bound && all_in (flat_map occurrences fs) (bound ++ part.vars)) as_level fs

pub safe_not : (f : Formula) (bound : List Var) → safe (Not f) bound ≡ (all_in (occurrences f) bound && safe f bound)
unfolding safe
safe_not f bound = ap (λ l. l.fit bound) (level_not f)

pub safe_implies : (f g : Formula) (bound : List Var) → safe (Implies f g) bound ≡ false
unfolding safe
safe_implies f g bound = ap (λ l. l.fit bound) (level_implies f g)

pub safe_exists : (vars : TypedVars) (f : Formula) (bound : List Var) → safe (Exists vars f) bound ≡ safe f (outside vars bound)
unfolding safe
safe_exists vars f bound = ap (λ l. l.fit bound) (level_exists vars f)

pub safe_forall : (vars : TypedVars) (f : Formula) (bound : List Var) → safe (Forall vars f) bound ≡ false
unfolding safe
safe_forall vars f bound = ap (λ l. l.fit bound) (level_forall vars f)

pub in_order_atom : (rel : ℕ) (terms : List Term) (bound : List Var) → safe_in_order (Atom rel terms) bound ≡ true
unfolding safe_in_order
in_order_atom rel terms bound = ap (λ l. l.safe_in_order bound) (level_atom rel terms)

pub in_order_test : (cmp : Cmp) (left right : Term) (bound : List Var) → safe_in_order (Test cmp left right) bound ≡ test_safe cmp left right bound
unfolding safe_in_order
in_order_test cmp left right bound = ap (λ l. l.safe_in_order bound) (level_test cmp left right)

pub in_order_and : (fs : List Formula) (bound : List Var) → safe_in_order (And fs) bound ≡ in_turn (map as_level fs) bound
unfolding safe_in_order
in_order_and fs bound = ap (λ l. l.safe_in_order bound) (level_and fs)

pub in_order_or : (fs : List Formula) (bound : List Var) → safe_in_order (Or fs) bound ≡ list_all (λ f. safe_in_order f bound && all_in (flat_map occurrences fs) (bound ++ occurrences f)) fs
unfolding safe_in_order
in_order_or fs bound = ap (λ l. l.safe_in_order bound) (level_or fs)
    ∙ ap (λ xs. list_all (λ part. part.safe_in_order bound && all_in xs (bound ++ part.vars)) (map as_level fs)) (flat_map-map (λ part. part.vars) as_level fs)
    ∙ list_all-map (λ part. part.safe_in_order bound && all_in (flat_map occurrences fs) (bound ++ part.vars)) as_level fs

pub in_order_not : (f : Formula) (bound : List Var) → safe_in_order (Not f) bound ≡ (all_in (occurrences f) bound && safe_in_order f bound)
unfolding safe_in_order
in_order_not f bound = ap (λ l. l.safe_in_order bound) (level_not f)

pub in_order_implies : (f g : Formula) (bound : List Var) → safe_in_order (Implies f g) bound ≡ false
unfolding safe_in_order
in_order_implies f g bound = ap (λ l. l.safe_in_order bound) (level_implies f g)

pub in_order_exists : (vars : TypedVars) (f : Formula) (bound : List Var) → safe_in_order (Exists vars f) bound ≡ (not (list_any (binds vars) bound) && safe_in_order f bound)
unfolding safe_in_order
in_order_exists vars f bound = ap (λ l. l.safe_in_order bound) (level_exists vars f)

pub in_order_forall : (vars : TypedVars) (f : Formula) (bound : List Var) → safe_in_order (Forall vars f) bound ≡ false
unfolding safe_in_order
in_order_forall vars f bound = ap (λ l. l.safe_in_order bound) (level_forall vars f)

pub apart_atom : (rel : ℕ) (terms : List Term) (bound : List Var) → is_apart (Atom rel terms) bound ≡ true
unfolding is_apart
apart_atom rel terms bound = ap (λ l. l.is_apart bound) (level_atom rel terms)

pub apart_test : (cmp : Cmp) (left right : Term) (bound : List Var) → is_apart (Test cmp left right) bound ≡ true
unfolding is_apart
apart_test cmp left right bound = ap (λ l. l.is_apart bound) (level_test cmp left right)

pub apart_and : (fs : List Formula) (bound : List Var) → is_apart (And fs) bound ≡ list_all (λ f. is_apart f (bound ++ flat_map occurrences fs)) fs
unfolding is_apart
apart_and fs bound = ap (λ l. l.is_apart bound) (level_and fs)
    ∙ ap (λ xs. list_all (λ part. part.is_apart (bound ++ xs)) (map as_level fs)) (flat_map-map (λ part. part.vars) as_level fs)
    ∙ list_all-map (λ part. part.is_apart (bound ++ flat_map occurrences fs)) as_level fs

pub apart_or : (fs : List Formula) (bound : List Var) → is_apart (Or fs) bound ≡ list_all (λ f. is_apart f (bound ++ flat_map occurrences fs)) fs
unfolding is_apart
apart_or fs bound = ap (λ l. l.is_apart bound) (level_or fs)
    ∙ ap (λ xs. list_all (λ part. part.is_apart (bound ++ xs)) (map as_level fs)) (flat_map-map (λ part. part.vars) as_level fs)
    ∙ list_all-map (λ part. part.is_apart (bound ++ flat_map occurrences fs)) as_level fs

pub apart_not : (f : Formula) (bound : List Var) → is_apart (Not f) bound ≡ is_apart f bound
unfolding is_apart
apart_not f bound = ap (λ l. l.is_apart bound) (level_not f)

pub apart_implies : (f g : Formula) (bound : List Var) → is_apart (Implies f g) bound ≡ (is_apart f (bound ++ occurrences g) && is_apart g (bound ++ occurrences f))
unfolding is_apart
apart_implies f g bound = ap (λ l. l.is_apart bound) (level_implies f g)

pub apart_exists : (vars : TypedVars) (f : Formula) (bound : List Var) → is_apart (Exists vars f) bound ≡ (not (list_any (binds vars) bound) && is_apart f (bound ++ map (λ x. x.0) vars))
unfolding is_apart
apart_exists vars f bound = ap (λ l. l.is_apart bound) (level_exists vars f)

pub apart_forall : (vars : TypedVars) (f : Formula) (bound : List Var) → is_apart (Forall vars f) bound ≡ (not (list_any (binds vars) bound) && is_apart f (bound ++ map (λ x. x.0) vars))
unfolding is_apart
apart_forall vars f bound = ap (λ l. l.is_apart bound) (level_forall vars f)

pub arranged_atom : (rel : ℕ) (terms : List Term) (bound : List Var) → arranged (Atom rel terms) bound ≡ Atom rel terms
unfolding arranged
arranged_atom rel terms bound = ap (λ l. l.make bound) (level_atom rel terms)

pub arranged_test : (cmp : Cmp) (left right : Term) (bound : List Var) → arranged (Test cmp left right) bound ≡ Test cmp left right
unfolding arranged
arranged_test cmp left right bound = ap (λ l. l.make bound) (level_test cmp left right)

pub arranged_and : (fs : List Formula) (bound : List Var) → arranged (And fs) bound ≡ And (in_order (length fs) (map as_level fs) bound)
unfolding arranged
arranged_and fs bound = ap (λ l. l.make bound) (level_and fs)
    ∙ ap (λ n. And (in_order n (map as_level fs) bound)) (length-map fs as_level)

pub arranged_or : (fs : List Formula) (bound : List Var) → arranged (Or fs) bound ≡ Or (map (λ f. arranged f bound) fs)
unfolding arranged
arranged_or fs bound = ap (λ l. l.make bound) (level_or fs)
    ∙ ap Or (map-map (λ part. part.make bound) as_level fs)

pub arranged_not : (f : Formula) (bound : List Var) → arranged (Not f) bound ≡ Not (arranged f bound)
unfolding arranged
arranged_not f bound = ap (λ l. l.make bound) (level_not f)

pub arranged_implies : (f g : Formula) (bound : List Var) → arranged (Implies f g) bound ≡ Implies (arranged f bound) (arranged g bound)
unfolding arranged
arranged_implies f g bound = ap (λ l. l.make bound) (level_implies f g)

pub arranged_exists : (vars : TypedVars) (f : Formula) (bound : List Var) → arranged (Exists vars f) bound ≡ Exists vars (arranged f (outside vars bound))
unfolding arranged
arranged_exists vars f bound = ap (λ l. l.make bound) (level_exists vars f)

pub arranged_forall : (vars : TypedVars) (f : Formula) (bound : List Var) → arranged (Forall vars f) bound ≡ Forall vars (arranged f (outside vars bound))
unfolding arranged
arranged_forall vars f bound = ap (λ l. l.make bound) (level_forall vars f)

pub ruleset safe_laws = (safe_atom, safe_test, safe_and, safe_or, safe_not, safe_implies, safe_exists, safe_forall, in_order_atom, in_order_test, in_order_and, in_order_or, in_order_not, in_order_implies, in_order_exists, in_order_forall, apart_atom, apart_test, apart_and, apart_or, apart_not, apart_implies, apart_exists, apart_forall, arranged_atom, arranged_test, arranged_and, arranged_or, arranged_not, arranged_implies, arranged_exists, arranged_forall)
