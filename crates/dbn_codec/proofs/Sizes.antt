-- How long bodies are.
use Rattle.std.proofs.Common.{◌*◌, ◌^◌, ◌<◌, ◌≤◌, List, [], ◌∷◌, length, All, ap, arith}
use Rattle.std.specs.Int.{w16, to_be_bytes}
use Rattle.std.specs.List.{flat_map, AllByRecursion}
use Rattle.std.proofs.lemmas.List.{length-append}
use Rattle.std.proofs.lemmas.List.Concat.{flat_map-cons}
use Rattle.std.proofs.lemmas.List.Elements.{All-head, All-tail}
use Rattle.dbn_value.specs.Spelling.{IsValue}
use Rattle.dbn_value.specs.declared.value.Value.{Value}
use Rattle.dbn_value.specs.declared.value.Value.TheVariants.{Int, Text, Id}
use Rattle.dbn_value.specs.declared.member.Member.{Member}
use Rattle.dbn_codec.specs.Bodies.{value_bytes, member_bytes, body, group_body, most_members}
use Rattle.dbn_codec.proofs.Texts.{text_is_short}

value_size : (v : Value) → IsValue v → length (value_bytes v) ≤ 4099
unfolding value_bytes
value_size (Int n) h = omega arith
value_size (Text bytes) h = let short = text_is_short bytes h in omega (arith, length-append (to_be_bytes w16 (length bytes)) bytes)
value_size (Id n) h = omega arith

row_size : (row : List Value) → AllByRecursion IsValue row → length (flat_map value_bytes row) ≤ 4099 * length row
row_size [] h = omega arith
row_size (v ∷ row) h =
    let first = value_size v h.0 in
    let others = row_size row h.1 in
    omega (arith, ap length (flat_map-cons value_bytes v row), length-append (value_bytes v) (flat_map value_bytes row))

member_size : (m : Member) → AllByRecursion IsValue m.row → length m.row ≤ 80 → length (member_bytes m) ≤ 327922
unfolding member_bytes
member_size m h few =
    let row = row_size m.row h in
    omega (arith, length-append (to_be_bytes w16 m.t) (flat_map value_bytes m.row))

members_size : (members : List Member) → AllByRecursion (λ m. AllByRecursion IsValue m.row) members → All (λ m. length m.row ≤ 80) members → length (flat_map member_bytes members) ≤ 327922 * length members
members_size [] h few = omega arith
members_size (m ∷ members) h few =
    let first = member_size m h.0 (All-head (λ (m : Member). length m.row ≤ 80) m members few) in
    let others = members_size members h.1 (All-tail (λ (m : Member). length m.row ≤ 80) m members few) in
    omega (arith, ap length (flat_map-cons member_bytes m members), length-append (member_bytes m) (flat_map member_bytes members))

pub body_size : (m : Member) → AllByRecursion IsValue m.row → length m.row ≤ 80 → length (body m) < 2 ^ 32
body_size m h few = let size = member_size m h few in omega arith

pub group_size : (members : List Member) → length members ≤ most_members → AllByRecursion (λ m. AllByRecursion IsValue m.row) members → All (λ m. length m.row ≤ 80) members → length (group_body members) < 2 ^ 32
unfolding group_body
group_size members most h few =
    let size = members_size members h few in
    omega (arith, length-append (to_be_bytes w16 (length members)) (flat_map member_bytes members))
