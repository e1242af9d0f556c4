-- Values and rows: what is read is written so, and what is written is read again.
use Rattle.std.proofs.Common.{◌≡◌, ℕ, ◌^◌, ◌<◌, ◌≤◌, Bool, true, false, cond, ltb, eqb, List, [], ◌∷◌, ◌++◌, length, take, drop, map, Some, None, ℤ, pos, negsuc, FitsSigned, refl, sym, ap, subst, ◌∙◌, append_assoc, arith}
use Rattle.std.specs.Int.{w16, w64, to_be_bytes, cast_signed, cast_unsigned}
use Rattle.std.specs.List.{flat_map, AllByRecursion}
use Rattle.std.proofs.lemmas.Bool.{ltb-false, ltb-true, lt-ltb, le-ltb, eqb-true}
use Rattle.std.proofs.lemmas.Int.{to_z-of_z, of_z-to_z}
use Rattle.std.proofs.lemmas.List.{take_at, drop_at, take-append-drop, length-append, length-take}
use Rattle.std.proofs.lemmas.List.Concat.{flat_map-cons}
use Rattle.dbn_value.specs.Order.{value_type}
use Rattle.dbn_value.specs.Spelling.{IsValue}
use Rattle.dbn_value.specs.Text.{is_text, IsText}
use Rattle.dbn_value.specs.declared.value.ColType.{ColType}
use Rattle.dbn_value.specs.declared.value.ColType.TheVariants as col
use Rattle.dbn_value.specs.declared.value.Value.{Value}
use Rattle.dbn_value.specs.declared.value.Value.TheVariants.{Int, Text, Id}
use Rattle.dbn_codec.specs.Bodies.{value_bytes}
use Rattle.dbn_codec.specs.Reading.{◌>>=◌, behind, number_at, text_of, int_at, text_at, id_at, value_at, row_at}
use Rattle.dbn_codec.proofs.Texts.{text_is_short}
use Rattle.dbn_codec.proofs.Parts.{IsBytes, IsBytes-drop, IsBytes-rest, read_on, passed, not_failed, done, some_is, Takes, Takes-then, wide16, wide64, number_takes, number_again}

behind_takes : (tag : ℕ) (bytes rest : List ℕ) → IsBytes bytes → behind tag bytes ≡ Some rest → Takes bytes (tag ∷ []) rest
behind_takes tag [] rest fits e = absurd cc
behind_takes tag (b ∷ bytes) rest fits e =
    let g = passed (eqb b tag) bytes rest e in
    let tag-is : b ≡ tag = eqb-true _ _ g.0 in
    record { parts = cc (tag-is, g.1); rest_fits = subst IsBytes g.1 (IsBytes-rest b bytes fits) }

-- what was read is a value of this type
pub record ReadsValue (bytes : List ℕ) (column : ColType) (read : Value × List ℕ) : Type 0 where
  pub takes : Takes bytes (value_bytes read.0) read.1
  pub typed : value_type read.0 ≡ column
  pub value : IsValue read.0

same_value : (bytes : List ℕ) (column : ColType) (x y : Value × List ℕ) → done x ≡ done y → ReadsValue bytes column x → ReadsValue bytes column y
same_value bytes column x y e h = subst (λ (r : Value × List ℕ). ReadsValue bytes column r) (some_is x y e) h

int_in_range : (n : ℕ) → n < 2 ^ 64 → IsValue (Int (cast_signed w64 n))
int_in_range n lt = by (ltb n (2 ^ 63)) refl
  where
    by : (b : Bool) → ltb n (2 ^ 63) ≡ b → IsValue (Int (cast_signed w64 n))
    by true e = rw e (ltb-true _ _ e)
    by false e = let le : 2 ^ 63 ≤ n = ltb-false _ _ e in rw e (omega arith)

fits_signed : (z : ℤ) → IsValue (Int z) → FitsSigned w64 z
fits_signed (pos n) h = record { sfits = h }
fits_signed (negsuc n) h = record { sfits = h }

bits_below : (z : ℤ) → IsValue (Int z) → cast_unsigned w64 z < 2 ^ 64
bits_below (pos n) h = omega arith
bits_below (negsuc n) h = omega arith

int_takes : (bytes rest : List ℕ) (read : Value × List ℕ) → Takes bytes (1 ∷ []) rest → int_at rest ≡ Some read → ReadsValue bytes col.Int read
unfolding int_at value_bytes
int_takes bytes rest read tag e =
    let b = read_on (number_at w64 rest) (λ number. Some (Int (cast_signed w64 number.0), number.1)) read e in
    let n = number_takes w64 (2 ^ 64) wide64 rest b.0.0 b.0.1 tag.rest_fits b.1 in
    let both = Takes-then bytes (1 ∷ []) rest (to_be_bytes w64 b.0.0) b.0.1 tag n.0 in
    let bits : cast_unsigned w64 (cast_signed w64 b.0.0) ≡ b.0.0 = of_z-to_z w64 b.0.0 n.1 in
    let whole : Takes bytes (value_bytes (Int (cast_signed w64 b.0.0))) b.0.1 = subst (λ (k : ℕ). Takes bytes (1 ∷ to_be_bytes w64 k) b.0.1) (sym bits) both in
    same_value bytes col.Int (Int (cast_signed w64 b.0.0), b.0.1) read b.2 (record { takes = whole; typed = refl; value = int_in_range b.0.0 n.1 })

id_takes : (bytes rest : List ℕ) (read : Value × List ℕ) → Takes bytes (3 ∷ []) rest → id_at rest ≡ Some read → ReadsValue bytes col.Id read
unfolding id_at value_bytes
id_takes bytes rest read tag e =
    let b = read_on (number_at w64 rest) (λ number. cond (ltb number.0 (2 ^ 62)) (Some (Id number.0, number.1)) None) read e in
    let n = number_takes w64 (2 ^ 64) wide64 rest b.0.0 b.0.1 tag.rest_fits b.1 in
    let both = Takes-then bytes (3 ∷ []) rest (to_be_bytes w64 b.0.0) b.0.1 tag n.0 in
    let g = passed (ltb b.0.0 (2 ^ 62)) (Id b.0.0, b.0.1) read b.2 in
    subst (λ (r : Value × List ℕ). ReadsValue bytes col.Id r) g.1 (record { takes = both; typed = refl; value = ltb-true _ _ g.0 })

-- a text of this length behind the tag
text_taken : (bytes rest after text : List ℕ) (size : ℕ) → Takes bytes (2 ∷ []) rest → Takes rest (to_be_bytes w16 size) after → size ≤ length after → take size after ≡ text → is_text (take size after) ≡ true → ReadsValue bytes col.Text (Text text, drop size after)
unfolding value_bytes
text_taken bytes rest after text size tag number long is-text h =
    let len : length text ≡ size = ap length (sym is-text) ∙ omega (arith, length-take size after) in
    let front = Takes-then bytes (2 ∷ []) rest (to_be_bytes w16 size) after tag number in
    let split : after ≡ text ++ drop size after = sym (take-append-drop size after) ∙ ap (λ (w : List ℕ). w ++ drop size after) is-text in
    let back : Takes after text (drop size after) = record { parts = split; rest_fits = IsBytes-drop size after number.rest_fits } in
    let both = Takes-then bytes (2 ∷ to_be_bytes w16 size) after text (drop size after) front back in
    record { takes = subst (λ (k : ℕ). Takes bytes (2 ∷ to_be_bytes w16 k ++ text) (drop size after)) (sym len) both; typed = refl; value = subst IsText is-text h }

text_takes : (bytes rest : List ℕ) (read : Value × List ℕ) → Takes bytes (2 ∷ []) rest → text_at rest ≡ Some read → ReadsValue bytes col.Text read
unfolding text_at
text_takes bytes rest read tag e =
    let b = read_on (number_at w16 rest) (λ size. cond (ltb (length size.1) size.0) None (text_of (take size.0 size.1) >>= λ text. Some (Text text, drop size.0 size.1))) read e in
    let n = number_takes w16 (2 ^ 16) wide16 rest b.0.0 b.0.1 tag.rest_fits b.1 in
    let g = not_failed (ltb (length b.0.1) b.0.0) (text_of (take b.0.0 b.0.1) >>= λ text. Some (Text text, drop b.0.0 b.0.1)) read b.2 in
    let t = read_on (text_of (take b.0.0 b.0.1)) (λ text. Some (Text text, drop b.0.0 b.0.1)) read g.1 in
    let s = passed (is_text (take b.0.0 b.0.1)) (take b.0.0 b.0.1) t.0 t.1 in
    same_value bytes col.Text (Text t.0, drop b.0.0 b.0.1) read t.2 (text_taken bytes rest b.0.1 t.0 b.0.0 tag n.0 (ltb-false _ _ g.0) s.1 s.0)

value_takes : (column : ColType) (bytes : List ℕ) (read : Value × List ℕ) → IsBytes bytes → value_at column bytes ≡ Some read → ReadsValue bytes column read
unfolding value_at
value_takes col.Int bytes read fits e =
    let a = read_on (behind 1 bytes) int_at read e in
    int_takes bytes a.0 read (behind_takes 1 bytes a.0 fits a.1) a.2
value_takes col.Text bytes read fits e =
    let a = read_on (behind 2 bytes) text_at read e in
    text_takes bytes a.0 read (behind_takes 2 bytes a.0 fits a.1) a.2
value_takes col.Id bytes read fits e =
    let a = read_on (behind 3 bytes) id_at read e in
    id_takes bytes a.0 read (behind_takes 3 bytes a.0 fits a.1) a.2

value_again : (v : Value) (rest : List ℕ) → IsValue v → value_at (value_type v) (value_bytes v ++ rest) ≡ Some (v, rest)
unfolding value_at value_bytes int_at text_at id_at
value_again (Int z) rest h = rw (number_again w64 (2 ^ 64) wide64 (cast_unsigned w64 z) rest (bits_below z h), to_z-of_z w64 z (fits_signed z h)) refl
value_again (Text text) rest h =
    let short = text_is_short text h in
    let grouped : value_bytes (Text text) ++ rest ≡ 2 ∷ (to_be_bytes w16 (length text) ++ (text ++ rest)) = refl in
    let long : ltb (length (text ++ rest)) (length text) ≡ false = le-ltb _ _ (omega (arith, length-append text rest)) in
    ap (value_at col.Text) grouped ∙ rw (number_again w16 (2 ^ 16) wide16 (length text) (text ++ rest) (omega arith), long, take_at text rest (length text) refl, drop_at text rest (length text) refl, h) refl
value_again (Id n) rest h = rw (number_again w64 (2 ^ 64) wide64 n rest (omega arith), lt-ltb n (2 ^ 62) h) refl

-- what was read is a row of this shape
pub record ReadsRow (bytes : List ℕ) (shape : List ColType) (read : List Value × List ℕ) : Type 0 where
  pub takes : Takes bytes (flat_map value_bytes read.0) read.1
  pub typed : map value_type read.0 ≡ shape
  pub values : AllByRecursion IsValue read.0

pub row_takes : (shape : List ColType) (bytes : List ℕ) (read : List Value × List ℕ) → IsBytes bytes → row_at shape bytes ≡ Some read → ReadsRow bytes shape read
unfolding row_at
row_takes [] bytes read fits e =
    subst (λ (r : List Value × List ℕ). ReadsRow bytes [] r) (some_is ([], bytes) read e) (record { takes = record { parts = refl; rest_fits = fits }; typed = refl; values = tt })
row_takes (column ∷ shape) bytes read fits e =
    let a = read_on (value_at column bytes) (λ first. row_at shape first.1 >>= λ others. Some (first.0 ∷ others.0, others.1)) read e in
    let b = read_on (row_at shape a.0.1) (λ others. Some (a.0.0 ∷ others.0, others.1)) read a.2 in
    let first = value_takes column bytes a.0 fits a.1 in
    let others = row_takes shape a.0.1 b.0 first.takes.rest_fits b.1 in
    let both = Takes-then bytes (value_bytes a.0.0) a.0.1 (flat_map value_bytes b.0.0) b.0.1 first.takes others.takes in
    let made : ReadsRow bytes (column ∷ shape) (a.0.0 ∷ b.0.0, b.0.1) = record { takes = rw flat_map-cons both; typed = cc (first.typed, others.typed); values = (first.value, others.values) } in
    subst (λ (r : List Value × List ℕ). ReadsRow bytes (column ∷ shape) r) (some_is (a.0.0 ∷ b.0.0, b.0.1) read b.2) made

pub row_again : (row : List Value) (rest : List ℕ) → AllByRecursion IsValue row → row_at (map value_type row) (flat_map value_bytes row ++ rest) ≡ Some (row, rest)
unfolding row_at
row_again [] rest h = refl
row_again (v ∷ row) rest h =
    let grouped : flat_map value_bytes (v ∷ row) ++ rest ≡ value_bytes v ++ (flat_map value_bytes row ++ rest) = ap (λ (x : List ℕ). x ++ rest) (flat_map-cons value_bytes v row) ∙ append_assoc (value_bytes v) (flat_map value_bytes row) rest in
    ap (row_at (map value_type (v ∷ row))) grouped ∙ rw (value_again v (flat_map value_bytes row ++ rest) h.0, row_again row rest h.1) refl
