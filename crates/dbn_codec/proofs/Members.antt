-- Members and bodies: what is read is written so, and what is written is read again.
use Rattle.std.proofs.Common.{◌≡◌, ℕ, zero, suc, ◌^◌, ◌<◌, ◌≤◌, Bool, true, false, cond, ◌&&◌, leb, eqb, List, [], ◌∷◌, ◌++◌, length, slice_get, All, Option, Some, None, refl, sym, ap, subst, ◌∙◌, append_assoc, arith}
use Rattle.std.specs.Int.{w16, to_be_bytes}
use Rattle.std.specs.List.{flat_map, AllByRecursion}
use Rattle.std.proofs.lemmas.Bool.{and_parts, leb-true, le-leb, eqb-true}
use Rattle.std.proofs.lemmas.List.{append-nil, nil_from_length}
use Rattle.std.proofs.lemmas.List.Concat.{flat_map-cons}
use Rattle.std.proofs.lemmas.List.Elements.{All-head, All-tail}
use Rattle.dbn_value.specs.Spelling.{IsValue}
use Rattle.dbn_value.specs.declared.value.ColType.{ColType}
use Rattle.dbn_value.specs.declared.value.Value.{Value}
use Rattle.dbn_value.specs.declared.member.Member.{Member}
use Rattle.dbn_codec.specs.Bodies.{Shapes, value_bytes, member_bytes, member_of, body, group_body, most_members, Fits, IsMember, IsGroup}
use Rattle.dbn_codec.specs.Reading.{◌>>=◌, number_at, row_at, member_at, members_at, whole, read_body, read_group}
use Rattle.dbn_codec.proofs.Parts.{IsBytes, IsBytes-all, read_on, passed, done, some_is, Takes, Takes-then, wide16, number_takes, number_again}
use Rattle.dbn_codec.proofs.Values.{ReadsRow, row_takes, row_again}

-- what was read is a member for these shapes
pub record ReadsMember (shapes : Shapes) (bytes : List ℕ) (read : Member × List ℕ) : Type 0 where
  pub takes : Takes bytes (member_bytes read.0) read.1
  pub is_member : IsMember shapes read.0

same_member : (shapes : Shapes) (bytes : List ℕ) (x y : Member × List ℕ) → done x ≡ done y → ReadsMember shapes bytes x → ReadsMember shapes bytes y
same_member shapes bytes x y e h = subst (λ (r : Member × List ℕ). ReadsMember shapes bytes r) (some_is x y e) h

-- a number and a row of the shape of that transition
member_taken : (shapes : Shapes) (bytes after rest : List ℕ) (t : ℕ) (shape : List ColType) (row : List Value) → Takes bytes (to_be_bytes w16 t) after → t < 2 ^ 16 → slice_get shapes t ≡ Some shape → ReadsRow after shape (row, rest) → ReadsMember shapes bytes (member_of t row, rest)
unfolding member_bytes
member_taken shapes bytes after rest t shape row number small found others = record {
  takes = Takes-then bytes (to_be_bytes w16 t) after (flat_map value_bytes row) rest number others.takes;
  is_member = record { number = small; fits = found ∙ ap (λ (s : List ColType). Some s) (sym others.typed); values = others.values };
}

member_takes : (shapes : Shapes) (bytes : List ℕ) (read : Member × List ℕ) → IsBytes bytes → member_at shapes bytes ≡ Some read → ReadsMember shapes bytes read
unfolding member_at
member_takes shapes bytes read fits e =
    let a = read_on (number_at w16 bytes) (λ t. slice_get shapes t.0 >>= λ shape. row_at shape t.1 >>= λ row. Some (member_of t.0 row.0, row.1)) read e in
    let b = read_on (slice_get shapes a.0.0) (λ shape. row_at shape a.0.1 >>= λ row. Some (member_of a.0.0 row.0, row.1)) read a.2 in
    let c = read_on (row_at b.0 a.0.1) (λ row. Some (member_of a.0.0 row.0, row.1)) read b.2 in
    let n = number_takes w16 (2 ^ 16) wide16 bytes a.0.0 a.0.1 fits a.1 in
    let others = row_takes b.0 a.0.1 c.0 n.0.rest_fits c.1 in
    same_member shapes bytes (member_of a.0.0 c.0.0, c.0.1) read c.2 (member_taken shapes bytes a.0.1 c.0.1 a.0.0 b.0 c.0.0 n.0 n.1 b.1 others)

member_again : (shapes : Shapes) (member : Member) (rest : List ℕ) → IsMember shapes member → member_at shapes (member_bytes member ++ rest) ≡ Some (member, rest)
unfolding member_at member_bytes
member_again shapes member rest h =
    let grouped : member_bytes member ++ rest ≡ to_be_bytes w16 member.t ++ (flat_map value_bytes member.row ++ rest) = append_assoc (to_be_bytes w16 member.t) (flat_map value_bytes member.row) rest in
    ap (member_at shapes) grouped ∙ rw (number_again w16 (2 ^ 16) wide16 member.t (flat_map value_bytes member.row ++ rest) h.number, h.fits, row_again member.row rest h.values) refl

-- what was read are so many members for these shapes
pub record ReadsMembers (shapes : Shapes) (count : ℕ) (bytes : List ℕ) (read : List Member × List ℕ) : Type 0 where
  pub takes : Takes bytes (flat_map member_bytes read.0) read.1
  pub counted : length read.0 ≡ count
  pub each : AllByRecursion (IsMember shapes) read.0

same_members : (shapes : Shapes) (count : ℕ) (bytes : List ℕ) (x y : List Member × List ℕ) → done x ≡ done y → ReadsMembers shapes count bytes x → ReadsMembers shapes count bytes y
same_members shapes count bytes x y e h = subst (λ (r : List Member × List ℕ). ReadsMembers shapes count bytes r) (some_is x y e) h

members_take : (count : ℕ) (shapes : Shapes) (bytes : List ℕ) (read : List Member × List ℕ) → IsBytes bytes → members_at count shapes bytes ≡ Some read → ReadsMembers shapes count bytes read
unfolding members_at
members_take zero shapes bytes read fits e =
    same_members shapes 0 bytes ([], bytes) read e (record { takes = record { parts = refl; rest_fits = fits }; counted = refl; each = tt })
members_take (suc count) shapes bytes read fits e =
    let a = read_on (member_at shapes bytes) (λ first. members_at count shapes first.1 >>= λ others. Some (first.0 ∷ others.0, others.1)) read e in
    let b = read_on (members_at count shapes a.0.1) (λ others. Some (a.0.0 ∷ others.0, others.1)) read a.2 in
    let first = member_takes shapes bytes a.0 fits a.1 in
    let others = members_take count shapes a.0.1 b.0 first.takes.rest_fits b.1 in
    let both = Takes-then bytes (member_bytes a.0.0) a.0.1 (flat_map member_bytes b.0.0) b.0.1 first.takes others.takes in
    same_members shapes (suc count) bytes (a.0.0 ∷ b.0.0, b.0.1) read b.2 (record { takes = rw flat_map-cons both; counted = ap suc others.counted; each = (first.is_member, others.each) })

members_again : (shapes : Shapes) (members : List Member) (rest : List ℕ) → AllByRecursion (IsMember shapes) members → members_at (length members) shapes (flat_map member_bytes members ++ rest) ≡ Some (members, rest)
unfolding members_at
members_again shapes [] rest h = refl
members_again shapes (m ∷ members) rest h =
    let grouped : flat_map member_bytes (m ∷ members) ++ rest ≡ member_bytes m ++ (flat_map member_bytes members ++ rest) = ap (λ (x : List ℕ). x ++ rest) (flat_map-cons member_bytes m members) ∙ append_assoc (member_bytes m) (flat_map member_bytes members) rest in
    ap (members_at (suc (length members)) shapes) grouped ∙ rw (member_again shapes m (flat_map member_bytes members ++ rest) h.0, members_again shapes members rest h.1) refl

-- nothing stands behind
ended : {A : Type 0} (x : A) (rest : List ℕ) (y : A) → whole (x, rest) ≡ Some y → (rest ≡ []) × (x ≡ y)
ended x rest y e =
    let g = passed (eqb (length rest) 0) x y e in
    (nil_from_length rest (eqb-true _ _ g.0), g.1)

-- ---- bodies

pub body_takes : (shapes : Shapes) (bytes : List ℕ) (member : Member) → IsBytes bytes → read_body shapes bytes ≡ Some member → IsMember shapes member × (bytes ≡ body member)
unfolding read_body
body_takes shapes bytes member fits e =
    let a = read_on (member_at shapes bytes) (λ read. whole read) member e in
    let g = ended a.0.0 a.0.1 member a.2 in
    let m = member_takes shapes bytes a.0 fits a.1 in
    let parts : bytes ≡ body a.0.0 = m.takes.parts ∙ ap (λ (r : List ℕ). member_bytes a.0.0 ++ r) g.0 ∙ append-nil (member_bytes a.0.0) in
    subst (λ (x : Member). IsMember shapes x × (bytes ≡ body x)) g.1 (m.is_member, parts)

pub body_again : (shapes : Shapes) (member : Member) → IsMember shapes member → read_body shapes (body member) ≡ Some member
unfolding read_body
body_again shapes member h =
    let read : member_at shapes (body member) ≡ Some (member, []) = ap (member_at shapes) (sym (append-nil (member_bytes member))) ∙ member_again shapes member [] h in
    rw read refl

-- so many members behind their number, and nothing behind them
group_taken : (shapes : Shapes) (bytes after rest : List ℕ) (count : ℕ) (members : List Member) → Takes bytes (to_be_bytes w16 count) after → ReadsMembers shapes count after (members, rest) → rest ≡ [] → bytes ≡ group_body members
unfolding group_body
group_taken shapes bytes after rest count members number m none =
    let both = (Takes-then bytes (to_be_bytes w16 count) after (flat_map member_bytes members) rest number m.takes).parts in
    let front : bytes ≡ to_be_bytes w16 count ++ flat_map member_bytes members = both ∙ ap (λ (r : List ℕ). (to_be_bytes w16 count ++ flat_map member_bytes members) ++ r) none ∙ append-nil (to_be_bytes w16 count ++ flat_map member_bytes members) in
    front ∙ ap (λ (k : ℕ). to_be_bytes w16 k ++ flat_map member_bytes members) (sym m.counted)

tested : {A : Type 0} (b : Bool) (x : Option A) (y : A) → cond b x None ≡ Some y → (b ≡ true) × (x ≡ Some y)
tested true x y h = (refl, h)
tested false x y h = absurd cc

same_group : (shapes : Shapes) (bytes : List ℕ) (a b : List Member) → a ≡ b → IsGroup shapes a × (bytes ≡ group_body a) → IsGroup shapes b × (bytes ≡ group_body b)
same_group shapes bytes a b e h = subst (λ (x : List Member). IsGroup shapes x × (bytes ≡ group_body x)) e h

group_sized : (shapes : Shapes) (count : ℕ) (members : List Member) → 1 ≤ count → count ≤ most_members → length members ≡ count → AllByRecursion (IsMember shapes) members → IsGroup shapes members
group_sized shapes count members low high counted each = record { some = omega arith; few = omega arith; each = each }

pub group_takes : (shapes : Shapes) (bytes : List ℕ) (members : List Member) → IsBytes bytes → read_group shapes bytes ≡ Some members → IsGroup shapes members × (bytes ≡ group_body members)
unfolding read_group
group_takes shapes bytes members fits e =
    let a = read_on (number_at w16 bytes) (λ count. cond (leb 1 count.0 && leb count.0 4096) (members_at count.0 shapes count.1 >>= λ read. whole read) None) members e in
    let t = tested (leb 1 a.0.0 && leb a.0.0 4096) (members_at a.0.0 shapes a.0.1 >>= λ read. whole read) members a.2 in
    let within = and_parts (leb 1 a.0.0) (leb a.0.0 4096) t.0 in
    let b = read_on (members_at a.0.0 shapes a.0.1) (λ read. whole read) members t.1 in
    let g = ended b.0.0 b.0.1 members b.2 in
    let n = number_takes w16 (2 ^ 16) wide16 bytes a.0.0 a.0.1 fits a.1 in
    let m = members_take a.0.0 shapes a.0.1 b.0 n.0.rest_fits b.1 in
    let parts = group_taken shapes bytes a.0.1 b.0.1 a.0.0 b.0.0 n.0 m g.0 in
    same_group shapes bytes b.0.0 members g.1 (group_sized shapes a.0.0 b.0.0 (leb-true _ _ within.0) (leb-true _ _ within.1) m.counted m.each, parts)

pub group_again : (shapes : Shapes) (members : List Member) → IsGroup shapes members → read_group shapes (group_body members) ≡ Some members
unfolding read_group group_body
group_again shapes members h =
    let few = h.few in
    let read : members_at (length members) shapes (flat_map member_bytes members) ≡ Some (members, []) = ap (members_at (length members) shapes) (sym (append-nil (flat_map member_bytes members))) ∙ members_again shapes members [] h.each in
    rw (number_again w16 (2 ^ 16) wide16 (length members) (flat_map member_bytes members) (omega arith), le-leb 1 (length members) h.some, le-leb (length members) 4096 h.few, read) refl

-- ---- what a function that encodes knows

pub member_is : (shapes : Shapes) (t : ℕ) (row : List Value) → t < 2 ^ 16 → AllByRecursion IsValue row → Fits shapes (member_of t row) → IsMember shapes (member_of t row)
member_is shapes t row small values fits = record { number = small; fits = fits; values = values }

members_are : (shapes : Shapes) (members : List Member) → All (λ m. m.t < 2 ^ 16) members → AllByRecursion (λ m. AllByRecursion IsValue m.row) members → AllByRecursion (Fits shapes) members → AllByRecursion (IsMember shapes) members
members_are shapes [] small values fits = tt
members_are shapes (m ∷ members) small values fits =
    (record { number = All-head (λ (m : Member). m.t < 2 ^ 16) m members small; fits = fits.0; values = values.0 }, members_are shapes members (All-tail (λ (m : Member). m.t < 2 ^ 16) m members small) values.1 fits.1)

pub group_is : (shapes : Shapes) (members : List Member) → 1 ≤ length members → length members ≤ most_members → All (λ m. m.t < 2 ^ 16) members → AllByRecursion (λ m. AllByRecursion IsValue m.row) members → AllByRecursion (Fits shapes) members → IsGroup shapes members
group_is shapes members some few small values fits = record { some = some; few = few; each = members_are shapes members small values fits }

-- ---- what a function that decodes knows

pub body_takes_all : (shapes : Shapes) (bytes : List ℕ) (member : Member) → All (λ b. b < 256) bytes → read_body shapes bytes ≡ Some member → IsMember shapes member × (bytes ≡ body member)
body_takes_all shapes bytes member fits e = body_takes shapes bytes member (IsBytes-all bytes fits) e

pub group_takes_all : (shapes : Shapes) (bytes : List ℕ) (members : List Member) → All (λ b. b < 256) bytes → read_group shapes bytes ≡ Some members → IsGroup shapes members × (bytes ≡ group_body members)
group_takes_all shapes bytes members fits e = group_takes shapes bytes members (IsBytes-all bytes fits) e

pub no_body : (shapes : Shapes) (bytes : List ℕ) → read_body shapes bytes ≡ None → (m : Member) → IsMember shapes m → bytes ≡ body m → ⊥
no_body shapes bytes none m h e =
    let again : read_body shapes bytes ≡ Some m = ap (read_body shapes) e ∙ body_again shapes m h in
    absurd cc

pub no_group : (shapes : Shapes) (bytes : List ℕ) → read_group shapes bytes ≡ None → (ms : List Member) → IsGroup shapes ms → bytes ≡ group_body ms → ⊥
no_group shapes bytes none ms h e =
    let again : read_group shapes bytes ≡ Some ms = ap (read_group shapes) e ∙ group_again shapes ms h in
    absurd cc

same_found : {A : Type 0} (x y : A) (o : Option A) → o ≡ Some x → o ≡ Some y → x ≡ y
same_found x y o p q = some_is x y (sym p ∙ q)

pub one_body : (shapes : Shapes) (a b : Member) → IsMember shapes a → IsMember shapes b → body a ≡ body b → a ≡ b
one_body shapes a b p q e = same_found a b (read_body shapes (body a)) (body_again shapes a p) (ap (read_body shapes) e ∙ body_again shapes b q)

pub one_group : (shapes : Shapes) (a b : List Member) → IsGroup shapes a → IsGroup shapes b → group_body a ≡ group_body b → a ≡ b
one_group shapes a b p q e = same_found a b (read_group shapes (group_body a)) (group_again shapes a p) (ap (read_group shapes) e ∙ group_again shapes b q)
