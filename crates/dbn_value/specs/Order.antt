-- The order of values and of rows, the type of a value and the number of an int.
use Rattle.std.specs.Prelude.{◌≡◌, Bool, true, false, not, ℤ, List, refl}
use Rattle.std.proofs.Common.{ap}
use Rattle.std.specs.Prelude.{Option, Some, None, IsSome, ◌↔◌}
use Rattle.std.specs.Ordering.{nat_cmp, int_cmp, ordering_reverse, is_eq, is_lt, is_le, is_gt, is_ge}
use Rattle.std.specs.declared.cmp.Ordering.{Ordering}
use Rattle.std.specs.declared.cmp.Ordering.TheVariants.{Less, Equal, Greater}
use Rattle.std.specs.Cmp.{IsTotalOrder, nat_cmp_total, int_cmp_total}
use Rattle.std.specs.Cmp.Lexicographic.{slice_cmp, lists_total, nat_list_cmp_total}
use Rattle.std.specs.FinMap.{IsAntisymmetric, nat_cmp-IsAntisymmetric, int_cmp-IsAntisymmetric, slice_cmp-IsAntisymmetric}
use Rattle.dbn_value.specs.declared.value.Value.{Value}
use Rattle.dbn_value.specs.declared.value.Value.TheVariants.{Int, Text, Id}
use Rattle.dbn_value.specs.declared.value.ColType.{ColType}
use Rattle.dbn_value.specs.declared.value.ColType.TheVariants as col
use Rattle.dbn_value.specs.declared.term.Cmp.{Cmp}
use Rattle.dbn_value.specs.declared.term.Cmp.TheVariants as cmp

-- ints before texts before ids; ints and ids by number, texts by their bytes
abbrev pub value_cmp : Value → Value → Ordering
value_cmp (Int a) (Int b) = int_cmp a b
value_cmp (Int a) (Text b) = Less
value_cmp (Int a) (Id b) = Less
value_cmp (Text a) (Int b) = Greater
value_cmp (Text a) (Text b) = slice_cmp nat_cmp a b
value_cmp (Text a) (Id b) = Less
value_cmp (Id a) (Int b) = Greater
value_cmp (Id a) (Text b) = Greater
value_cmp (Id a) (Id b) = nat_cmp a b

-- lexicographically, with a proper prefix first
abbrev pub row_cmp : List Value → List Value → Ordering
row_cmp a b = slice_cmp value_cmp a b

abbrev pub value_type : Value → ColType
value_type (Int n) = col.Int
value_type (Text bytes) = col.Text
value_type (Id n) = col.Id

abbrev pub type_eq : ColType → ColType → Bool
type_eq col.Int col.Int = true
type_eq col.Int col.Text = false
type_eq col.Int col.Id = false
type_eq col.Text col.Int = false
type_eq col.Text col.Text = true
type_eq col.Text col.Id = false
type_eq col.Id col.Int = false
type_eq col.Id col.Text = false
type_eq col.Id col.Id = true

-- what a comparison says of two things that stand in this order
abbrev pub meets : Cmp → Ordering → Bool
meets cmp.Eq order = is_eq order
meets cmp.Ne order = not (is_eq order)
meets cmp.Lt order = is_lt order
meets cmp.Le order = is_le order
meets cmp.Gt order = is_gt order
meets cmp.Ge order = is_ge order

-- the number of an int, by which ints are ordered
abbrev pub value_int : Value → Option ℤ
value_int (Int n) = Some n
value_int (Text bytes) = None
value_int (Id n) = None

turned : (x y : Value) → value_cmp x y ≡ ordering_reverse (value_cmp y x)
turned (Int a) (Int b) = int_cmp_total.antisymm a b
turned (Int a) (Text b) = refl
turned (Int a) (Id b) = refl
turned (Text a) (Int b) = refl
turned (Text a) (Text b) = nat_list_cmp_total.antisymm a b
turned (Text a) (Id b) = refl
turned (Id a) (Int b) = refl
turned (Id a) (Text b) = refl
turned (Id a) (Id b) = nat_cmp_total.antisymm a b

chained : (x y z : Value) → value_cmp x y ≡ Less → value_cmp y z ≡ Less → value_cmp x z ≡ Less
chained (Int a) (Int b) (Int c) p q = int_cmp_total.trans a b c p q
chained (Int a) y (Text c) p q = refl
chained (Int a) y (Id c) p q = refl
chained (Text a) (Text b) (Text c) p q = nat_list_cmp_total.trans a b c p q
chained (Text a) y (Id c) p q = refl
chained (Id a) (Id b) (Id c) p q = nat_cmp_total.trans a b c p q
chained x y z p q = cc

level : (x y z : Value) → value_cmp x y ≡ Equal → value_cmp x z ≡ value_cmp y z
level (Int a) (Int b) (Int c) p = int_cmp_total.congr a b c p
level (Int a) (Int b) (Text c) p = refl
level (Int a) (Int b) (Id c) p = refl
level (Text a) (Text b) (Int c) p = refl
level (Text a) (Text b) (Text c) p = nat_list_cmp_total.congr a b c p
level (Text a) (Text b) (Id c) p = refl
level (Id a) (Id b) (Int c) p = refl
level (Id a) (Id b) (Text c) p = refl
level (Id a) (Id b) (Id c) p = nat_cmp_total.congr a b c p
level x y z p = cc

pub value_total : IsTotalOrder value_cmp
value_total = record { antisymm = turned; trans = chained; congr = level }

pub exact_values : IsAntisymmetric value_cmp
exact_values (Int a) (Int b) p = ap Int (int_cmp-IsAntisymmetric a b p)
exact_values (Text a) (Text b) p = ap Text (slice_cmp-IsAntisymmetric nat_cmp-IsAntisymmetric a b p)
exact_values (Id a) (Id b) p = ap Id (nat_cmp-IsAntisymmetric a b p)
exact_values x y p = cc

pub rows_total : IsTotalOrder row_cmp
rows_total = lists_total value_total

pub exact_rows : IsAntisymmetric row_cmp
exact_rows = slice_cmp-IsAntisymmetric exact_values

pub ints_have_numbers : (v : Value) → (value_type v ≡ col.Int) ↔ IsSome (value_int v)
ints_have_numbers (Int n) = ((λ p. refl), (λ p. refl))
ints_have_numbers (Text bytes) = ((λ p. cc), (λ p. cc))
ints_have_numbers (Id n) = ((λ p. cc), (λ p. cc))

pub ints_by_number : (a b : Value) (m n : ℤ) → value_int a ≡ Some m → value_int b ≡ Some n → value_cmp a b ≡ int_cmp m n
ints_by_number (Int a) (Int b) m n p q = cc
ints_by_number (Int a) (Text b) m n p q = cc
ints_by_number (Int a) (Id b) m n p q = cc
ints_by_number (Text a) b m n p q = cc
ints_by_number (Id a) b m n p q = cc
