-- Tokens that are summed by place and row.
use Rattle.std.specs.Prelude.{ℕ, List, [], ◌∷◌}
use Rattle.dbn_value.specs.declared.value.Value.{Value}
use Rattle.dbn_marking.specs.Counts.{added}
use Rattle.dbn_net.specs.declared.want.Want.{Want}
use Rattle.dbn_net.specs.Wants.{Spot, spot_of, spot_cmp}

-- with more tokens, one pattern after the other
abbrev pub with_all : List (Spot Value × ℕ) → List (Want Value) → List (Spot Value × ℕ)
with_all sums [] = sums
with_all sums (w ∷ tokens) = with_all (added spot_cmp sums (spot_of w) w.many) tokens

-- a sum as a want
abbrev pub want_of : Spot Value × ℕ → Want Value
want_of sum = record { place = sum.0.0; row = sum.0.1; many = sum.1 }
