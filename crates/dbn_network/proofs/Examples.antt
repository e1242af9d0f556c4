-- Worked networks over rows of numbers.
use Rattle.std.proofs.Common.{◌≡◌, ℕ, List, [], ◌∷◌, ◌++◌, map, refl}
use Rattle.std.specs.Ordering.{nat_cmp}
use Rattle.dbn_nodes.specs.declared.node.Node.{Node}
use Rattle.dbn_nodes.specs.declared.node.Node.TheVariants as node
use Rattle.dbn_network.specs.Values.{values, val}
use Rattle.dbn_network.specs.Loads.{loads_of, bound}

-- ---- an eleventh row of a relation that is joined to itself on its first column

abbrev ten : List (List ℕ)
ten = map (λ y. 1 ∷ y ∷ []) (0 ∷ 1 ∷ 2 ∷ 3 ∷ 4 ∷ 5 ∷ 6 ∷ 7 ∷ 8 ∷ 9 ∷ [])

abbrev to_itself : List (Node ℕ)
to_itself = node.Scan 0 ∷ node.Scan 0 ∷ node.Join 0 1 ((0, 0) ∷ []) ∷ []

eleventh : bound nat_cmp to_itself 0 (ten ∷ []) ((ten ++ (1 ∷ 10 ∷ []) ∷ []) ∷ []) ≡ 224
unfolding loads_of values
eleventh = refl

-- ---- a relation without itself: no rows, whatever there is

abbrev nothing : List (Node ℕ)
nothing = node.Scan 0 ∷ node.Diff 0 0 ∷ []

still_nothing : val nat_cmp 1 nothing (((5 ∷ []) ∷ []) ∷ []) ≡ []
unfolding values
still_nothing = refl

-- ---- who has every skill: of the people those who lack none

abbrev skilled : List (Node ℕ)
skilled = node.Scan 0 ∷ node.Scan 1 ∷ node.Scan 2 ∷ node.Join 0 1 [] ∷ node.Diff 3 2 ∷ node.Project 4 (0 ∷ []) ∷ node.Diff 0 5 ∷ []

one_skill : val nat_cmp 6 skilled (((7 ∷ []) ∷ []) ∷ ((1 ∷ []) ∷ []) ∷ ((7 ∷ 1 ∷ []) ∷ []) ∷ []) ≡ (7 ∷ []) ∷ []
unfolding values
one_skill = refl

another_skill : val nat_cmp 6 skilled (((7 ∷ []) ∷ []) ∷ ((1 ∷ []) ∷ (2 ∷ []) ∷ []) ∷ ((7 ∷ 1 ∷ []) ∷ []) ∷ []) ≡ []
unfolding values
another_skill = refl

-- ---- the first columns of a relation: a row stays while another one has it

abbrev firsts : List (Node ℕ)
firsts = node.Scan 0 ∷ node.Project 0 (0 ∷ []) ∷ []

both_rows : val nat_cmp 1 firsts (((1 ∷ 2 ∷ []) ∷ (1 ∷ 3 ∷ []) ∷ []) ∷ []) ≡ (1 ∷ []) ∷ []
unfolding values
both_rows = refl

the_other_row : val nat_cmp 1 firsts (((1 ∷ 3 ∷ []) ∷ []) ∷ []) ≡ (1 ∷ []) ∷ []
unfolding values
the_other_row = refl

no_row : val nat_cmp 1 firsts ([] ∷ []) ≡ []
unfolding values
no_row = refl
