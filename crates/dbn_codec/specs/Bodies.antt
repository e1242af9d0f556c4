-- The bytes of a member and of a record's body, in both forms. Numbers stand with the highest byte first.
use Rattle.std.specs.Prelude.{◌≡◌, ℕ, ◌<◌, ◌≤◌, ◌^◌, List, ◌∷◌, ◌++◌, length, map, slice_get, Some}
use Rattle.std.specs.List.{flat_map, AllByRecursion}
use Rattle.std.specs.Int.{w16, w64, to_be_bytes, cast_unsigned}
use Rattle.dbn_value.specs.Order.{value_type}
use Rattle.dbn_value.specs.Spelling.{IsValue}
use Rattle.dbn_value.specs.declared.value.ColType.{ColType}
use Rattle.dbn_value.specs.declared.value.Value.{Value}
use Rattle.dbn_value.specs.declared.value.Value.TheVariants.{Int, Text, Id}
use Rattle.dbn_value.specs.declared.member.Member.{Member}

-- the types of the row of each transition
abbrev pub Shapes : Type 0
Shapes = List (List ColType)

-- a tag and, by the type, an int of eight bytes in two's complement, a text behind its length in two bytes, or an id of eight
unfoldable pub value_bytes : Value → List ℕ
value_bytes (Int n) = 1 ∷ to_be_bytes w64 (cast_unsigned w64 n)
value_bytes (Text bytes) = 2 ∷ to_be_bytes w16 (length bytes) ++ bytes
value_bytes (Id n) = 3 ∷ to_be_bytes w64 n

-- the member of a transition and a row
abbrev pub member_of : ℕ → List Value → Member
member_of t row = record { t = t; row = row }

abbrev pub as_member : ℕ × List Value → Member
as_member pair = member_of pair.0 pair.1

-- the number of the transition in two bytes, and the values of the row
unfoldable pub member_bytes : Member → List ℕ
member_bytes member = to_be_bytes w16 member.t ++ flat_map value_bytes member.row

-- the body of form one: one member
abbrev pub body : Member → List ℕ
body member = member_bytes member

-- the body of form two: how many members, in two bytes, and the members
unfoldable pub group_body : List Member → List ℕ
group_body members = to_be_bytes w16 (length members) ++ flat_map member_bytes members

-- the greatest number of members of a group
abbrev pub most_members : ℕ
most_members = 4096

-- the row has the types of its transition
abbrev pub Fits : Shapes → Member → Type 0
Fits shapes member = slice_get shapes member.t ≡ Some (map value_type member.row)

-- a member that has a body for these shapes
pub record IsMember (shapes : Shapes) (member : Member) : Type 0 where
  pub number : member.t < 2 ^ 16
  pub fits : Fits shapes member
  pub values : AllByRecursion IsValue member.row

-- members that have a body together
pub record IsGroup (shapes : Shapes) (members : List Member) : Type 0 where
  pub some : 1 ≤ length members
  pub few : length members ≤ most_members
  pub each : AllByRecursion (IsMember shapes) members
