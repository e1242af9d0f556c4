-- The renaming inside one quantifier, from its variables and the same with new marks.
use Rattle.std.specs.Prelude.{◌≡◌, if◌then◌else◌, List, Option, Some, None, [], ◌∷◌}
use Rattle.std.specs.Borrow.{Bor}
use Rattle.std.specs.Map.{lookup}
use Rattle.std.specs.Option.{unwrap_or}
use Rattle.std.specs.Ordering.{is_eq}
use Rattle.dbn_value.specs.Variables.{var_cmp}
use Rattle.dbn_value.specs.declared.term.Var.{Var}
use Rattle.dbn_formula.specs.Variables.{TypedVars, var_eq}
use Rattle.dbn_formula.specs.Apart.{Renaming}

-- the variables of a quantifier are entered one after the other with the new ones, the newest first
abbrev pub paired : TypedVars → TypedVars → Renaming → Renaming
paired [] made names = names
paired (x ∷ vars) [] names = names
paired (x ∷ vars) (y ∷ made) names = paired vars made ((x.0, y.0) ∷ names)

-- what x is renamed to inside a quantifier, where it is renamed to `outside` around it: the last of the variables counts
abbrev pub renamed_under : TypedVars → TypedVars → Var → Var → Var
renamed_under [] made x outside = outside
renamed_under (y ∷ vars) [] x outside = outside
renamed_under (y ∷ vars) (new ∷ made) x outside = renamed_under vars made x (if var_eq x y.0 then new.0 else outside)

-- the variable that was found, or else the one outside
abbrev pub found_or : Option (Bor Var) → Var → Var
found_or None outside = outside
found_or (Some found) outside = found.now

-- in a map from the old variables to the new ones each finds what it is renamed to
abbrev pub FindsNew : List (Var × Var) → TypedVars → TypedVars → Type 0
FindsNew latest vars made = (x outside : Var) → renamed_under vars made x outside ≡ unwrap_or (lookup (λ y. is_eq (var_cmp x y)) latest) outside
