-- The order of cells, the type of a cell and the number of an int.
use Rattle.std.specs.Prelude.{◌≡◌, ℤ, ℕ, pos, refl, Option, Some, None, IsSome, ◌↔◌}
use Rattle.std.proofs.Common.{ap}
use Rattle.std.specs.Ordering.{nat_cmp, int_cmp, ordering_reverse}
use Rattle.std.specs.declared.cmp.Ordering.{Ordering}
use Rattle.std.specs.declared.cmp.Ordering.TheVariants.{Less, Equal, Greater}
use Rattle.std.specs.Cmp.{IsTotalOrder, nat_cmp_total, int_cmp_total}
use Rattle.std.specs.FinMap.{IsAntisymmetric, nat_cmp-IsAntisymmetric, int_cmp-IsAntisymmetric}
use Rattle.dbn_value.specs.declared.value.ColType.{ColType}
use Rattle.dbn_value.specs.declared.value.ColType.TheVariants as col
use Rattle.dbn_pool.specs.declared.cell.SymCell.{SymCell}
use Rattle.dbn_pool.specs.declared.cell.SymCell.TheVariants.{Int, Id, Sym}

-- ints before ids before symbols, each by number
abbrev pub cell_cmp : SymCell → SymCell → Ordering
cell_cmp (Int a) (Int b) = int_cmp a b
cell_cmp (Int a) (Id b) = Less
cell_cmp (Int a) (Sym b) = Less
cell_cmp (Id a) (Int b) = Greater
cell_cmp (Id a) (Id b) = nat_cmp a b
cell_cmp (Id a) (Sym b) = Less
cell_cmp (Sym a) (Int b) = Greater
cell_cmp (Sym a) (Id b) = Greater
cell_cmp (Sym a) (Sym b) = nat_cmp a b

-- the place of the kind of a cell
abbrev pub cell_rank : SymCell → ℕ
cell_rank (Int n) = 0
cell_rank (Id n) = 1
cell_rank (Sym k) = 2

-- the number of an int
abbrev pub cell_whole : SymCell → ℤ
cell_whole (Int n) = n
cell_whole (Id n) = pos 0
cell_whole (Sym k) = pos 0

-- the number of an id or of a symbol
abbrev pub cell_number : SymCell → ℕ
cell_number (Int n) = 0
cell_number (Id n) = n
cell_number (Sym k) = k

abbrev pub cell_type : SymCell → ColType
cell_type (Int n) = col.Int
cell_type (Id n) = col.Id
cell_type (Sym k) = col.Text

-- the number of an int, by which ints are ordered
abbrev pub cell_int : SymCell → Option ℤ
cell_int (Int n) = Some n
cell_int (Id n) = None
cell_int (Sym k) = None

turned : (x y : SymCell) → cell_cmp x y ≡ ordering_reverse (cell_cmp y x)
turned (Int a) (Int b) = int_cmp_total.antisymm a b
turned (Int a) (Id b) = refl
turned (Int a) (Sym b) = refl
turned (Id a) (Int b) = refl
turned (Id a) (Id b) = nat_cmp_total.antisymm a b
turned (Id a) (Sym b) = refl
turned (Sym a) (Int b) = refl
turned (Sym a) (Id b) = refl
turned (Sym a) (Sym b) = nat_cmp_total.antisymm a b

chained : (x y z : SymCell) → cell_cmp x y ≡ Less → cell_cmp y z ≡ Less → cell_cmp x z ≡ Less
chained (Int a) (Int b) (Int c) p q = int_cmp_total.trans a b c p q
chained (Int a) y (Id c) p q = refl
chained (Int a) y (Sym c) p q = refl
chained (Id a) (Id b) (Id c) p q = nat_cmp_total.trans a b c p q
chained (Id a) y (Sym c) p q = refl
chained (Sym a) (Sym b) (Sym c) p q = nat_cmp_total.trans a b c p q
chained x y z p q = cc

level : (x y z : SymCell) → cell_cmp x y ≡ Equal → cell_cmp x z ≡ cell_cmp y z
level (Int a) (Int b) (Int c) p = int_cmp_total.congr a b c p
level (Int a) (Int b) (Id c) p = refl
level (Int a) (Int b) (Sym c) p = refl
level (Id a) (Id b) (Int c) p = refl
level (Id a) (Id b) (Id c) p = nat_cmp_total.congr a b c p
level (Id a) (Id b) (Sym c) p = refl
level (Sym a) (Sym b) (Int c) p = refl
level (Sym a) (Sym b) (Id c) p = refl
level (Sym a) (Sym b) (Sym c) p = nat_cmp_total.congr a b c p
level x y z p = cc

pub cell_total : IsTotalOrder cell_cmp
cell_total = record { antisymm = turned; trans = chained; congr = level }

pub exact_cells : IsAntisymmetric cell_cmp
exact_cells (Int a) (Int b) p = ap Int (int_cmp-IsAntisymmetric a b p)
exact_cells (Id a) (Id b) p = ap Id (nat_cmp-IsAntisymmetric a b p)
exact_cells (Sym a) (Sym b) p = ap Sym (nat_cmp-IsAntisymmetric a b p)
exact_cells x y p = cc

pub ints_have_numbers : (c : SymCell) → (cell_type c ≡ col.Int) ↔ IsSome (cell_int c)
ints_have_numbers (Int n) = ((λ p. refl), (λ p. refl))
ints_have_numbers (Id n) = ((λ p. cc), (λ p. cc))
ints_have_numbers (Sym k) = ((λ p. cc), (λ p. cc))

pub ints_by_number : (a b : SymCell) (m n : ℤ) → cell_int a ≡ Some m → cell_int b ≡ Some n → cell_cmp a b ≡ int_cmp m n
ints_by_number (Int a) (Int b) m n p q = cc
ints_by_number (Int a) (Id b) m n p q = cc
ints_by_number (Int a) (Sym b) m n p q = cc
ints_by_number (Id a) b m n p q = cc
ints_by_number (Sym a) b m n p q = cc
