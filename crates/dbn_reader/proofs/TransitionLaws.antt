-- A transition is resolved in two parts.
use Rattle.std.proofs.Common.{◌≡◌, List, [], map, refl, sym, ap, subst, ◌∙◌, Option, Some, None}
use Rattle.dbn_formula.specs.declared.formula.Formula.{Formula}
use Rattle.dbn_net.specs.declared.written.WrittenTransition.{WrittenTransition}
use Rattle.dbn_net.specs.declared.rules.Arc.{Arc}
use Rattle.dbn_net.specs.declared.rules.Read.{Read}
use Rattle.dbn_net.specs.declared.rules.Call.{Call}
use Rattle.dbn_net.specs.declared.rules.Transition.{Transition}
use Rattle.dbn_net.specs.declared.decl.Decl.{Decl}
use Rattle.dbn_net.specs.Maybe.{◌>>=◌, each, if_given}
use Rattle.dbn_net.specs.Naming.{arc, read, call, resolved_formula, ins_of, reads_of, is_in_clause, bound_of, transition}
use Rattle.dbn_reader.specs.Resolving.{moved, called}
use Rattle.dbn_reader.specs.declared.misfit.Misfit.{Misfit}
use Rattle.dbn_reader.specs.declared.misfit.Misfit.TheVariants.{Shape, Memory}
use Rattle.dbn_reader.specs.Parses.{Misses}

-- where a step gives nothing, the whole gives nothing
pub missed : {A B : Type 0} (m : Misfit) (o : Option A) (f : A → Option B) → Misses m o → Misses m (o >>= f)
missed Shape o f e = ap (λ p. p >>= f) e
missed Memory o f e = tt

abbrev paired : {A B : Type 0} → Option A → Option B → Option (A × B)
paired a b = a >>= λ x. b >>= λ y. Some (x, y)

abbrev four : {A B C D : Type 0} → Option A → Option B → Option C → Option D → Option (A × B × C × D)
four a b c d = a >>= λ x. b >>= λ y. c >>= λ z. d >>= λ u. Some (x, y, z, u)

-- two of six steps may come last
joined : {A B C D E F G : Type 0} (a : Option A) (b : Option B) (c : Option C) (d : Option D) (e : Option E) (f : Option F) (k : A → B → C → D → E → F → G)
    → (a >>= λ x. b >>= λ y. c >>= λ z. d >>= λ u. e >>= λ v. f >>= λ w. Some (k x y z u v w))
    ≡ (four a b e f >>= λ m. paired c d >>= λ g. Some (k m.0 m.1 g.0 g.1 m.2 m.3))
joined None b c d e f k = refl
joined (Some x) None c d e f k = refl
joined (Some x) (Some y) None d None f k = refl
joined (Some x) (Some y) None d (Some v) None k = refl
joined (Some x) (Some y) None d (Some v) (Some w) k = refl
joined (Some x) (Some y) (Some z) None None f k = refl
joined (Some x) (Some y) (Some z) None (Some v) None k = refl
joined (Some x) (Some y) (Some z) None (Some v) (Some w) k = refl
joined (Some x) (Some y) (Some z) (Some u) None f k = refl
joined (Some x) (Some y) (Some z) (Some u) (Some v) None k = refl
joined (Some x) (Some y) (Some z) (Some u) (Some v) (Some w) k = refl

module _ (net : List Decl) (r : WrittenTransition) where
  abbrev pub finished : List Arc → List Read → Option Formula → Option Call → List Arc → List Arc → Transition
  finished ins reads guard called outs backs = record {
    name = r.name;
    ins = ins;
    reads = reads;
    mixture = map is_in_clause r.inputs;
    guard = guard;
    asked = r.asked;
    fresh = r.fresh;
    call = called;
    outs = outs;
    backs = backs;
    bound = bound_of net r.inputs;
  }

  abbrev pub with_moved : List Arc × List Read × List Arc × List Arc → Option Transition
  with_moved m = called net r.guard r.call >>= λ g. Some (finished m.0 m.1 g.0 g.1 m.2 m.3)

  in_two : transition net r ≡ (moved net r.inputs r.outs r.backs >>= with_moved)
  in_two =
      joined (each (arc net) (ins_of r.inputs)) (each (read net) (reads_of r.inputs)) (if_given (resolved_formula []) r.guard) (if_given (call net) r.call)
      (each (arc net) r.outs) (each (arc net) r.backs) finished

  after_moved : (m : List Arc × List Read × List Arc × List Arc) → moved net r.inputs r.outs r.backs ≡ Some m → transition net r ≡ with_moved m
  after_moved m e = in_two ∙ ap (λ o. o >>= with_moved) e

  pub after_called : (m : List Arc × List Read × List Arc × List Arc) (g : Option Formula × Option Call) → moved net r.inputs r.outs r.backs ≡ Some m → called net r.guard r.call ≡ Some g
      → transition net r ≡ Some (finished m.0 m.1 g.0 g.1 m.2 m.3)
  after_called m g e f = after_moved m e ∙ ap (λ o. o >>= λ q. Some (finished m.0 m.1 q.0 q.1 m.2 m.3)) f

  pub no_moved : (miss : Misfit) → Misses miss (moved net r.inputs r.outs r.backs) → Misses miss (transition net r)
  no_moved miss e = subst (Misses miss) (sym in_two) (missed miss (moved net r.inputs r.outs r.backs) with_moved e)

  pub no_called : (miss : Misfit) (m : List Arc × List Read × List Arc × List Arc) → moved net r.inputs r.outs r.backs ≡ Some m → Misses miss (called net r.guard r.call)
      → Misses miss (transition net r)
  no_called miss m e f =
      subst (Misses miss) (sym (after_moved m e)) (missed miss (called net r.guard r.call) (λ q. Some (finished m.0 m.1 q.0 q.1 m.2 m.3)) f)

pub ruleset transition_laws = (no_moved, no_called, after_called)
