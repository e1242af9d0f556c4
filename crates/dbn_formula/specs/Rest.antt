-- What is left of a formula when its safety was tried: wherever at least as much is bound, it is as safe as the formula.
use Rattle.std.specs.Prelude.{◌≡◌, ◌≤◌, List, [], ◌∷◌, map}
use Rattle.std.specs.List.{flat_map}
use Rattle.dbn_value.specs.Members.{In}
use Rattle.dbn_value.specs.declared.term.Var.{Var}
use Rattle.dbn_value.specs.declared.term.Term.TheVariants as term
use Rattle.dbn_formula.specs.Free.{occurrences}
use Rattle.dbn_formula.specs.Safe.{safe}
use Rattle.dbn_formula.specs.Weight.{weight}
use Rattle.dbn_formula.specs.declared.formula.Formula.{Formula}
use Rattle.dbn_formula.specs.declared.formula.Formula.TheVariants.{Atom, And}

-- g is left of f where these variables are bound
pub record Rest (bound : List Var) (f g : Formula) : Type 0 where
  pub as_safe : (more : List Var) → ((x : Var) → In x bound → In x more) → safe g more ≡ safe f more
  pub from : (x : Var) → In x (occurrences g) → In x (occurrences f)
  pub to : (x : Var) → In x (occurrences f) → In x (occurrences g)
  pub lighter : weight g ≤ weight f

-- of each what is left
abbrev pub Rests : List Var → List Formula → List Formula → Type 0
Rests bound [] [] = Unit {0}
Rests bound [] (g ∷ gs) = ⊥
Rests bound (f ∷ fs) [] = ⊥
Rests bound (f ∷ fs) (g ∷ gs) = Rest bound f g × Rests bound fs gs

-- an atom that has the variables
abbrev pub stand_in : List Var → Formula
stand_in xs = Atom 0 (map term.Var xs)

-- what is left of a conjunction: those that wait, and an atom that binds what the taken ones bind
abbrev pub conjunction_left : List Formula → List Formula → Formula
conjunction_left [] lefts = And lefts
conjunction_left (f ∷ fs) lefts = And (stand_in (flat_map occurrences (f ∷ fs)) ∷ lefts)
