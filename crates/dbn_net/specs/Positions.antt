-- Where the declarations of a kind stand in a net.
use Rattle.std.specs.Prelude.{ℕ, suc, List, [], ◌∷◌, map, Option}
use Rattle.std.specs.List.{cons_option}
use Rattle.std.specs.Option.{option_map}
use Rattle.dbn_net.specs.declared.decl.Decl.{Decl}

abbrev pub next : ℕ → ℕ
next n = suc n

-- the places of the declarations of which f gives something
abbrev pub positions : {A : Type 0} → (Decl → Option A) → List Decl → List ℕ
positions f [] = []
positions f (d ∷ net) = cons_option (option_map (λ a. 0) (f d)) (map next (positions f net))
