-- Reading a body from the left: a part is read as what it stands for and the bytes behind it, or it is no such part.
use Rattle.std.specs.Prelude.{◌≡◌, ℕ, zero, suc, ◌^◌, ◌&&◌, List, [], ◌∷◌, length, take, drop, Option, Some, None, Result, Ok, Err, nat_lt, nat_le, ◌==◌, if◌then◌else◌, slice_get}
use Rattle.std.specs.Int.{Width, w16, w64, byte_len, from_be_bytes, cast_signed}
use Rattle.dbn_value.specs.Text.{is_text}
use Rattle.dbn_value.specs.declared.value.ColType.{ColType}
use Rattle.dbn_value.specs.declared.value.ColType.TheVariants as col
use Rattle.dbn_value.specs.declared.value.Value.{Value}
use Rattle.dbn_value.specs.declared.value.Value.TheVariants.{Int, Text, Id}
use Rattle.dbn_value.specs.declared.member.Member.{Member}
use Rattle.dbn_codec.specs.declared.unread.Unread.{Unread}
use Rattle.dbn_codec.specs.declared.unread.Unread.TheVariants.{NoBody, Memory}
use Rattle.dbn_codec.specs.Bodies.{Shapes, most_members}

infixl 10 ◌>>=◌
abbrev pub ◌>>=◌ : {A B : Type 0} → Option A → (A → Option B) → Option B
None >>= f = None
(Some x) >>= f = f x

-- the bytes behind a tag
abbrev pub behind : ℕ → List ℕ → Option (List ℕ)
behind tag [] = None
behind tag (b ∷ bytes) = if b == tag then Some bytes else None

abbrev pub number_at : Width → List ℕ → Option (ℕ × List ℕ)
number_at w bytes = if nat_lt (length bytes) (byte_len w) then None else Some (from_be_bytes w (take (byte_len w) bytes), drop (byte_len w) bytes)

-- the text of the bytes, where they are one
abbrev pub text_of : List ℕ → Option (List ℕ)
text_of bytes = if is_text bytes then Some bytes else None

unfoldable pub int_at : List ℕ → Option (Value × List ℕ)
int_at bytes = do
  number ← number_at w64 bytes
  Some (Int (cast_signed w64 number.0), number.1)

unfoldable pub text_at : List ℕ → Option (Value × List ℕ)
text_at bytes = do
  size ← number_at w16 bytes
  if nat_lt (length size.1) size.0 then None else (do
    text ← text_of (take size.0 size.1)
    Some (Text text, drop size.0 size.1))

unfoldable pub id_at : List ℕ → Option (Value × List ℕ)
id_at bytes = do
  number ← number_at w64 bytes
  if nat_lt number.0 (2 ^ 62) then Some (Id number.0, number.1) else None

unfoldable pub value_at : ColType → List ℕ → Option (Value × List ℕ)
value_at col.Int bytes = do
  rest ← behind 1 bytes
  int_at rest
value_at col.Text bytes = do
  rest ← behind 2 bytes
  text_at rest
value_at col.Id bytes = do
  rest ← behind 3 bytes
  id_at rest

unfoldable pub row_at : List ColType → List ℕ → Option (List Value × List ℕ)
row_at [] bytes = Some ([], bytes)
row_at (column ∷ shape) bytes = do
  first ← value_at column bytes
  others ← row_at shape first.1
  Some (first.0 ∷ others.0, others.1)

unfoldable pub member_at : Shapes → List ℕ → Option (Member × List ℕ)
member_at shapes bytes = do
  t ← number_at w16 bytes
  shape ← slice_get shapes t.0
  row ← row_at shape t.1
  Some (record { t = t.0; row = row.0 }, row.1)

unfoldable pub members_at : ℕ → Shapes → List ℕ → Option (List Member × List ℕ)
members_at zero shapes bytes = Some ([], bytes)
members_at (suc count) shapes bytes = do
  first ← member_at shapes bytes
  others ← members_at count shapes first.1
  Some (first.0 ∷ others.0, others.1)

-- what was read, where nothing stands behind it
abbrev pub whole : {A : Type 0} → A × List ℕ → Option A
whole read = if length read.1 == 0 then Some read.0 else None

-- the member whose body of form one the bytes are
unfoldable pub read_body : Shapes → List ℕ → Option Member
read_body shapes bytes = do
  member ← member_at shapes bytes
  whole member

-- the members whose body of form two the bytes are
unfoldable pub read_group : Shapes → List ℕ → Option (List Member)
read_group shapes bytes = do
  count ← number_at w16 bytes
  if nat_le 1 count.0 && nat_le count.0 most_members then (do
    members ← members_at count.0 shapes count.1
    whole members) else None

-- an error is that the bytes are no such part, or want of memory
abbrev pub Fails : {Y : Type 0} → Unread → Option Y → Type 0
Fails NoBody read = read ≡ None
Fails Memory read = Unit {0}

-- what a function returned, seen by view, is what reading gives, unless memory was wanting
abbrev pub Gives : {X Y : Type 0} → (X → Y) → Result X Unread → Option Y → Type 0
Gives view (Ok x) read = read ≡ Some (view x)
Gives view (Err error) read = Fails error read
