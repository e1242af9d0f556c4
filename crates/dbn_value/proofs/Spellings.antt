-- The spelling of a value is read as that value, and only it.
use Rattle.std.proofs.Common.{arith, ◌≡◌, ◌+◌, ◌<◌, ◌^◌, ◌==◌, ◌&&◌, ◌++◌, ℕ, zero, suc, ℤ, pos, negsuc, Bool, true, false, List, [], ◌∷◌, length, get_or, Option, Some, None, if◌then◌else◌, refl, sym, ap, ◌∙◌, subst, eqb-true, ◌||◌, append_assoc, FitsSigned, w64, drop, take, ◌-◌, ◌≢◌}
use borrow.Author.Tests.{ne_eqb}
use Rattle.std.proofs.lemmas.Int.{ints}
use Rattle.std.specs.Option.{option_map, option_and_then}
use Rattle.std.specs.List.{list_all}
use Rattle.std.specs.Char.{is_ascii_digit}
use Rattle.std.specs.Fmt.{decimal}
use Rattle.std.proofs.lemmas.Fmt.{decimal_nonempty, digits_decimal}
use Rattle.std.proofs.lemmas.Bool.Decides.{nat_tests}
use Rattle.std.proofs.lemmas.Grind.{common_steps}
use Rattle.dbn_value.specs.Spelling.{is_special, escape, escaped, spelling, unescaped, number_below, text_value, id_value, natural_value, negative_value, value_from, value_of_bytes, IsValue}
use Rattle.dbn_value.specs.Text.{is_text, IsText}
use Rattle.dbn_value.specs.declared.value.Value.{Value}
use Rattle.dbn_value.specs.declared.value.Value.TheVariants.{Int, Text, Id}
use Rattle.dbn_value.proofs.Numbers.{AreDigits, own, below_decimal, decimal_below}

-- ---- texts

abbrev pub End : List ℕ
End = 34 ∷ []

-- what `unescaped` gives of a special byte, of an ordinary one, and of a special one behind a backslash
plain_step : (b : ℕ) (rest : List ℕ) → is_special b ≡ false → unescaped false (b ∷ rest) ≡ option_map (λ text. b ∷ text) (unescaped false rest)
plain_step b rest e = by (b == 34) (b == 92) refl refl e
  where
    by : (q s : Bool) → (b == 34) ≡ q → (b == 92) ≡ s → (q || s) ≡ false → (if q then (if length rest == 0 then Some [] else None) else (if s then unescaped true rest else option_map (λ text. b ∷ text) (unescaped false rest))) ≡ option_map (λ text. b ∷ text) (unescaped false rest)
    by true s p r f = cc
    by false true p r f = cc
    by false false p r f = refl

behind_step : (b : ℕ) (rest : List ℕ) → is_special b ≡ true → unescaped true (b ∷ rest) ≡ option_map (λ text. b ∷ text) (unescaped false rest)
behind_step b rest e = rw e refl

ends : (b : ℕ) (bs : List ℕ) (s : Bool) → is_special b ≡ s → unescaped false (escaped bs ++ End) ≡ Some bs → unescaped false ((if s then 92 ∷ b ∷ [] else b ∷ []) ++ (escaped bs ++ End)) ≡ Some (b ∷ bs)
ends b bs true e h = behind_step b (escaped bs ++ End) e ∙ ap (option_map (λ text. b ∷ text)) h
ends b bs false e h = plain_step b (escaped bs ++ End) e ∙ ap (option_map (λ text. b ∷ text)) h

pub unescaped_escaped : (bs : List ℕ) → unescaped false (escaped bs ++ End) ≡ Some bs
unescaped_escaped [] = refl
unescaped_escaped (b ∷ bs) = ap (unescaped false) (append_assoc (escape b) (escaped bs) End) ∙ ends b bs (is_special b) refl (unescaped_escaped bs)

-- what follows where a byte was put before a text
cons_some : (b : ℕ) (o : Option (List ℕ)) (text : List ℕ) → option_map (λ t. b ∷ t) o ≡ Some text → (rest : List ℕ) × (o ≡ Some rest) × (text ≡ b ∷ rest)
cons_some b None text e = cc
cons_some b (Some rest) text e = (rest, refl, cc)

escaped_one : (b : ℕ) (rest bs : List ℕ) (s : Bool) → is_special b ≡ s → escaped rest ++ End ≡ bs → escaped (b ∷ rest) ++ End ≡ (if s then 92 ∷ b ∷ bs else b ∷ bs)
escaped_one b rest bs true e h = rw e (ap (λ t. 92 ∷ b ∷ t) h)
escaped_one b rest bs false e h = rw e (ap (λ t. b ∷ t) h)

nothing_left : (b : ℕ) (bs text : List ℕ) → b ≡ 34 → length bs ≡ 0 → text ≡ [] → escaped text ++ End ≡ b ∷ bs
nothing_left b [] text p l t = ap (λ t. escaped t ++ End) t ∙ ap (λ x. x ∷ []) (sym p)
nothing_left b (x ∷ bs) text p l t = absurd (omega arith)

closes : (b : ℕ) (bs text : List ℕ) (z : Bool) → (length bs == 0) ≡ z → b ≡ 34 → (if z then Some [] else None) ≡ Some text → escaped text ++ End ≡ b ∷ bs
closes b bs text true z p e = nothing_left b bs text p (eqb-true (length bs) 0 z) cc
closes b bs text false z p e = cc

abbrev pub Reads : Bool → List ℕ → List ℕ → Type 0
Reads behind bs text = escaped text ++ End ≡ (if behind then 92 ∷ bs else bs)

behind_back : (b : ℕ) (bs text : List ℕ) (s : Bool) → ((t : List ℕ) → unescaped false bs ≡ Some t → Reads false bs t) → is_special b ≡ s → (if s then option_map (λ t. b ∷ t) (unescaped false bs) else None) ≡ Some text → Reads true (b ∷ bs) text
behind_back b bs text true h p q =
    let k = cons_some b (unescaped false bs) text q in
    ap (λ t. escaped t ++ End) k.2 ∙ escaped_one b k.0 bs true p (h k.0 k.1)
behind_back b bs text false h p q = cc

ordinary : (b : ℕ) → (b == 34) ≡ false → (b == 92) ≡ false → is_special b ≡ false
ordinary b p q = rw p q

plain_back : (b : ℕ) (bs text : List ℕ) (q s : Bool) → ((behind : Bool) (t : List ℕ) → unescaped behind bs ≡ Some t → Reads behind bs t) → (b == 34) ≡ q → (b == 92) ≡ s → (if q then (if length bs == 0 then Some [] else None) else (if s then unescaped true bs else option_map (λ t. b ∷ t) (unescaped false bs))) ≡ Some text → Reads false (b ∷ bs) text
plain_back b bs text true s h p r e = closes b bs text (length bs == 0) refl (eqb-true b 34 p) e
plain_back b bs text false true h p r e = h true text e ∙ ap (λ x. x ∷ bs) (sym (eqb-true b 92 r))
plain_back b bs text false false h p r e =
    let k = cons_some b (unescaped false bs) text e in
    ap (λ t. escaped t ++ End) k.2 ∙ escaped_one b k.0 bs false (ordinary b p r) (h false k.0 k.1)

pub escaped_unescaped : (behind : Bool) (bs text : List ℕ) → unescaped behind bs ≡ Some text → Reads behind bs text
escaped_unescaped behind [] text e = cc
escaped_unescaped true (b ∷ bs) text e = behind_back b bs text (is_special b) (escaped_unescaped false bs) refl e
escaped_unescaped false (b ∷ bs) text e = plain_back b bs text (b == 34) (b == 92) (λ behind. escaped_unescaped behind bs) refl refl e

-- ---- values

negative_by : (n : ℕ) (z : Bool) → (suc n == 0) ≡ z → (if z then None else Some (Int (negsuc n))) ≡ Some (Int (negsuc n))
negative_by n true e = let k : suc n ≡ 0 = eqb-true (suc n) 0 e in absurd (omega arith)
negative_by n false e = refl

negative : (n : ℕ) → negative_value (suc n) ≡ Some (Int (negsuc n))
negative n = negative_by n (suc n == 0) refl

apart : (d c : ℕ) → is_ascii_digit d ≡ true → c < 48 → (d == c) ≡ false
apart d c p l = grind (arith, nat_tests)

first_digit : (d : ℕ) (ds : List ℕ) → AreDigits (d ∷ ds) → is_ascii_digit d ≡ true
first_digit d ds p = by (is_ascii_digit d) p
  where
    by : (b : Bool) → (b && list_all is_ascii_digit ds) ≡ true → b ≡ true
    by true e = refl
    by false e = e

natural : (bs : List ℕ) (n : ℕ) → AreDigits bs → 0 < length bs → number_below (2 ^ 63) bs ≡ Some n → value_of_bytes bs ≡ Some (Int (pos n))
unfolding value_of_bytes
natural [] n a l e = absurd (omega arith)
natural (d ∷ ds) n a l e =
    let k = first_digit d ds a in
    rw (apart d 34 k (omega arith), apart d 35 k (omega arith), apart d 45 k (omega arith)) (ap (option_map natural_value) e)

pub reads_back : (v : Value) → IsValue v → value_of_bytes (spelling v) ≡ Some v
unfolding value_of_bytes
reads_back (Int (pos n)) h =
    let small : n < 2 ^ 64 = omega arith in
    natural (decimal n) n (digits_decimal own n small) (decimal_nonempty n small) (below_decimal (2 ^ 63) n (omega arith) h)
reads_back (Int (negsuc n)) h = ap (option_and_then negative_value) (below_decimal (2 ^ 63 + 1) (suc n) (omega arith) (omega arith)) ∙ negative n
reads_back (Text bytes) h = ap (option_and_then text_value) (unescaped_escaped bytes) ∙ ap (λ b. if b then Some (Text bytes) else None) h
reads_back (Id n) h = ap (option_map id_value) (below_decimal (2 ^ 62) n (omega arith) h)

abbrev Spells : List ℕ → Value → Type 0
Spells bs v = (spelling v ≡ bs) × IsValue v

then_some : {A B : Type 0} (f : A → Option B) (o : Option A) (y : B) → option_and_then f o ≡ Some y → (x : A) × (o ≡ Some x) × (f x ≡ Some y)
then_some f None y e = cc
then_some f (Some x) y e = (x, refl, e)

map_some : {A B : Type 0} (f : A → B) (o : Option A) (y : B) → option_map f o ≡ Some y → (x : A) × (o ≡ Some x) × (f x ≡ y)
map_some f None y e = cc
map_some f (Some x) y e = (x, refl, cc)

text_of : (text : List ℕ) (v : Value) (b : Bool) → is_text text ≡ b → (if b then Some (Text text) else None) ≡ Some v → IsText text × (Text text ≡ v)
text_of text v true p e = (p, cc)
text_of text v false p e = cc

spells_text : (bs : List ℕ) (v : Value) → option_and_then text_value (unescaped false bs) ≡ Some v → Spells (34 ∷ bs) v
spells_text bs v e =
    let k = then_some text_value (unescaped false bs) v e in
    let t = text_of k.0 v (is_text k.0) refl k.2 in
    subst (Spells (34 ∷ bs)) t.1 (ap (λ rest. 34 ∷ rest) (escaped_unescaped false bs k.0 k.1), t.0)

spells_id : (bs : List ℕ) (v : Value) → option_map id_value (number_below (2 ^ 62) bs) ≡ Some v → Spells (35 ∷ bs) v
spells_id bs v e =
    let k = map_some id_value (number_below (2 ^ 62) bs) v e in
    let d = decimal_below (2 ^ 62) k.0 bs (omega arith) k.1 in
    subst (Spells (35 ∷ bs)) k.2 (ap (λ rest. 35 ∷ rest) d.0, d.1)

negative_back : (n : ℕ) (bs : List ℕ) (v : Value) → decimal n ≡ bs → n < 2 ^ 63 + 1 → negative_value n ≡ Some v → Spells (45 ∷ bs) v
negative_back zero bs v d l e = cc
negative_back (suc n) bs v d l e = subst (Spells (45 ∷ bs)) (some_same (sym (negative n) ∙ e)) (ap (λ rest. 45 ∷ rest) d, omega arith)
  where
    some_same : {A : Type 0} {x y : A} → Some x ≡ Some y → x ≡ y
    some_same e = cc

spells_negative : (bs : List ℕ) (v : Value) → option_and_then negative_value (number_below (2 ^ 63 + 1) bs) ≡ Some v → Spells (45 ∷ bs) v
spells_negative bs v e =
    let k = then_some negative_value (number_below (2 ^ 63 + 1) bs) v e in
    let d = decimal_below (2 ^ 63 + 1) k.0 bs (omega arith) k.1 in
    negative_back k.0 bs v d.0 d.1 k.2

spells_natural : (bs : List ℕ) (v : Value) → option_map natural_value (number_below (2 ^ 63) bs) ≡ Some v → Spells bs v
spells_natural bs v e =
    let k = map_some natural_value (number_below (2 ^ 63) bs) v e in
    let d = decimal_below (2 ^ 63) k.0 bs (omega arith) k.1 in
    subst (Spells bs) k.2 (d.0, d.1)

by_first : (b : ℕ) (bs : List ℕ) (v : Value) (q h m : Bool) → (b == 34) ≡ q → (b == 35) ≡ h → (b == 45) ≡ m → (if q then option_and_then text_value (unescaped false bs) else (if h then option_map id_value (number_below (2 ^ 62) bs) else (if m then option_and_then negative_value (number_below (2 ^ 63 + 1) bs) else option_map natural_value (number_below (2 ^ 63) (b ∷ bs))))) ≡ Some v → Spells (b ∷ bs) v
by_first b bs v true h m p r s e = subst (λ x. Spells (x ∷ bs) v) (sym (eqb-true b 34 p)) (spells_text bs v e)
by_first b bs v false true m p r s e = subst (λ x. Spells (x ∷ bs) v) (sym (eqb-true b 35 r)) (spells_id bs v e)
by_first b bs v false false true p r s e = subst (λ x. Spells (x ∷ bs) v) (sym (eqb-true b 45 s)) (spells_negative bs v e)
by_first b bs v false false false p r s e = spells_natural (b ∷ bs) v e

pub spells : (bs : List ℕ) (v : Value) → value_of_bytes bs ≡ Some v → (spelling v ≡ bs) × IsValue v
unfolding value_of_bytes
spells [] v e = cc
spells (b ∷ bs) v e = by_first b bs v (b == 34) (b == 35) (b == 45) refl refl refl e

pub spells_bytes : (bs : List ℕ) (v : Value) → value_of_bytes bs ≡ Some v → spelling v ≡ bs
spells_bytes bs v e = (spells bs v e).0

-- ---- by the first byte

pub no_bytes : value_of_bytes [] ≡ None
unfolding value_of_bytes
no_bytes = refl

pub by_byte : (b : ℕ) (bs : List ℕ) → value_of_bytes (b ∷ bs) ≡ value_from b bs
unfolding value_of_bytes
by_byte b bs = refl

pub at_none : (bs : List ℕ) → length bs < 1 → None ≡ value_of_bytes bs
at_none [] l = sym no_bytes
at_none (b ∷ bs) l = absurd (omega arith)

-- the bytes behind the first one, as a pattern of slices names them
abbrev pub behind_first : List ℕ → List ℕ
behind_first bs = take (length bs - 1) (drop 1 bs)

pub behind_is : (b : ℕ) (bs : List ℕ) → behind_first (b ∷ bs) ≡ bs
behind_is b bs = grind (arith, common_steps)

pub at_quote : (bs : List ℕ) → 0 < length bs → get_or bs 0 0 ≡ 34 → option_and_then text_value (unescaped false (behind_first bs)) ≡ value_of_bytes bs
at_quote [] l e = absurd (omega arith)
at_quote (b ∷ bs) l e = ap (λ r. option_and_then text_value (unescaped false r)) (behind_is b bs) ∙ sym (by_byte b bs ∙ ap (λ c. value_from c bs) e)

pub at_hash : (bs : List ℕ) → 0 < length bs → get_or bs 0 0 ≡ 35 → option_map id_value (number_below (2 ^ 62) (behind_first bs)) ≡ value_of_bytes bs
at_hash [] l e = absurd (omega arith)
at_hash (b ∷ bs) l e = ap (λ r. option_map id_value (number_below (2 ^ 62) r)) (behind_is b bs) ∙ sym (by_byte b bs ∙ ap (λ c. value_from c bs) e)

pub at_minus : (bs : List ℕ) → 0 < length bs → get_or bs 0 0 ≡ 45 → option_and_then negative_value (number_below (2 ^ 63 + 1) (behind_first bs)) ≡ value_of_bytes bs
at_minus [] l e = absurd (omega arith)
at_minus (b ∷ bs) l e = ap (λ r. option_and_then negative_value (number_below (2 ^ 63 + 1) r)) (behind_is b bs) ∙ sym (by_byte b bs ∙ ap (λ c. value_from c bs) e)

pub at_digit : (bs : List ℕ) → 0 < length bs → get_or bs 0 0 ≢ 34 → get_or bs 0 0 ≢ 35 → get_or bs 0 0 ≢ 45 → option_map natural_value (number_below (2 ^ 63) bs) ≡ value_of_bytes bs
at_digit [] l p q r = absurd (omega arith)
at_digit (b ∷ bs) l p q r = sym (by_byte b bs ∙ rw (ne_eqb b 34 p, ne_eqb b 35 q, ne_eqb b 45 r) refl)

-- ---- values of the program

pub int_value : (n : ℤ) → FitsSigned w64 n → IsValue (Int n)
int_value (pos n) h = omega (arith, ints)
int_value (negsuc n) h = omega (arith, ints)

pub read_again : (v : Value) (bs : List ℕ) → bs ≡ spelling v → IsValue v → value_of_bytes bs ≡ Some v
read_again v bs e h = ap value_of_bytes e ∙ reads_back v h
