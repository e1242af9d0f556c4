-- Tokens that are wanted of places, and whether a marking has them. cmp is the order of cells.
use Rattle.std.specs.Prelude.{ℕ, Bool, nat_le, if◌then◌else◌, List, map}
use Rattle.std.specs.declared.cmp.Ordering.{Ordering}
use Rattle.std.specs.Ordering.{is_eq, nat_cmp, ordering_then}
use Rattle.std.specs.Cmp.Lexicographic.{slice_cmp}
use Rattle.std.specs.List.{list_all, flat_map, sum_by}
use Rattle.std.specs.List.Sorted.{IsStrictlySortedBy}
use Rattle.dbn_value.specs.Ascending.{ascending}
use Rattle.dbn_value.specs.Order.{value_cmp}
use Rattle.dbn_value.specs.Scope.{Env, value_of}
use Rattle.dbn_value.specs.declared.value.Value.{Value}
use Rattle.dbn_marking.specs.Counts.{count_at}
use Rattle.dbn_net.specs.declared.want.Want.{Want}
use Rattle.dbn_net.specs.declared.rules.Pattern.{Pattern}
use Rattle.dbn_net.specs.declared.rules.Arc.{Arc}

-- a row in a place
abbrev pub Spot : Type 0 → Type 0
Spot C = ℕ × List C

abbrev pub spot_of : {C : Type 0} → Want C → Spot C
spot_of w = (w.place, w.row)

module _ {C : Type 0} (cmp : C → C → Ordering) where
  -- by place and then by row
  abbrev pub spot_order : Spot C → Spot C → Ordering
  spot_order a b = ordering_then (nat_cmp a.0 b.0) (slice_cmp cmp a.1 b.1)

  -- they stand by place and row, each row of a place once
  abbrev pub AreWants : List (Want C) → Type 0
  AreWants wants = IsStrictlySortedBy spot_order (map spot_of wants)

  -- the marking has what is wanted
  abbrev pub contained : List (Want C) → List (List (List C × ℕ)) → Bool
  contained wanted marking = list_all (λ w. nat_le w.many (count_at (slice_cmp cmp) marking w.place w.row)) wanted

abbrev pub spot_cmp : Spot Value → Spot Value → Ordering
spot_cmp = spot_order value_cmp

-- ---- what patterns want

-- the tokens of one pattern
abbrev pub bound_token : Env → ℕ → Pattern → Want Value
bound_token env place p = record { place = place; row = map (value_of env) p.terms; many = p.many }

-- the tokens of the patterns, as they stand in the clauses
abbrev pub bound_tokens : Env → List Arc → List (Want Value)
bound_tokens env arcs = flat_map (λ arc. map (bound_token env arc.place) arc.patterns) arcs

-- how many of them are of this place and row
abbrev pub total_of : List (Want Value) → Spot Value → ℕ
total_of tokens spot = sum_by (λ w. if is_eq (spot_cmp spot (spot_of w)) then w.many else 0) tokens

abbrev pub want_at : List (Want Value) → Spot Value → Want Value
want_at tokens spot = record { place = spot.0; row = spot.1; many = total_of tokens spot }

-- each place and row once, ascending, with the sum
abbrev pub summed : List (Want Value) → List (Want Value)
summed tokens = map (want_at tokens) (ascending spot_cmp (map spot_of tokens))

abbrev pub wants : Env → List Arc → List (Want Value)
wants env arcs = summed (bound_tokens env arcs)
