-- The image with a chosen length and chosen bytes at its free places.
use Rattle.std.specs.Prelude.{ℕ, zero, suc, ◌+◌, max, min, Bool, cond, not, ◌&&◌, nat_lt, List, [], ◌∷◌, ◌++◌, map, get_or}
use Rattle.std.specs.List.{range_with_len}
use Rattle.dbn_disk.specs.Images.{Moment, is_covered}

-- the byte at this place is the stable one, in each image that has this place
abbrev pub is_fixed : Moment → ℕ → Bool
is_fixed m place = nat_lt place m.least && not (is_covered m.covered place)

-- how many of the first n places are free
abbrev pub free_before : Moment → ℕ → ℕ
free_before m zero = 0
free_before m (suc n) = free_before m n + cond (is_fixed m n) 0 1

-- the stable byte where it is fixed, and otherwise the next of the loose bytes, zeros behind them
abbrev pub image_byte : Moment → List ℕ → ℕ → ℕ
image_byte m loose place = cond (is_fixed m place) (get_or m.stable place 0) (get_or loose (free_before m place) 0)

-- of the permitted length that is nearest to this one
abbrev pub image_of : Moment → ℕ → List ℕ → List ℕ
image_of m len loose = map (image_byte m loose) (range_with_len 0 (max m.least (min len m.most)))

-- the bytes that stand at the free ones of the first n places
abbrev pub free_bytes : Moment → List ℕ → ℕ → List ℕ
free_bytes m bytes zero = []
free_bytes m bytes (suc n) = free_bytes m bytes n ++ cond (is_fixed m n) [] (get_or bytes n 0 ∷ [])
