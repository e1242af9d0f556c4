-- The text of a name or a value is one token, in front of whatever ends a word, and holds no line feed.
use Rattle.std.proofs.Common.{◌≡◌, ℕ, suc, ◌+◌, ◌<◌, ◌≤◌, ◌^◌, ◌/◌, ◌%◌, Bool, true, false, cond, not, ◌==◌, ◌&&◌, ◌||◌, List, [], ◌∷◌, ◌++◌, take, drop, length, pos, negsuc, refl, sym, ap, ◌∙◌, arith, add-zero, one-add, append_assoc, length-append, nat_le, ◌⊎◌, inl, inr}
use Rattle.std.proofs.Math.Dec.{ltb}
use Rattle.std.proofs.Math.Seq.{take-append_seam, drop-append_seam}
use Rattle.std.proofs.Math.Utf8.{encode, encodes}
use Rattle.std.proofs.lemmas.Bool.Decides.{nat_tests}
use Rattle.std.proofs.lemmas.Bool.{ne_eqb, and_parts, or_cases, or_parts}
use Rattle.std.proofs.lemmas.List.Sums.{sum_by-cons, sum_by-append}
use Rattle.std.proofs.lemmas.Str.{IsUtf8-from_is_utf8, encodes-chars}
use Rattle.std.proofs.lemmas.Fmt.{decimal_nonempty, digits_decimal}
use Rattle.std.specs.List.{count_by, list_all, list_any, position_or_len}
use Rattle.std.specs.Char.{is_control, is_ascii_digit, is_ascii_alphabetic}
use Rattle.std.specs.Str.{is_utf8, chars}
use Rattle.std.specs.Fmt.{decimal}
use Rattle.dbn_value.specs.Text.{is_text, is_name_byte, is_identifier, is_operator, is_name}
use Rattle.dbn_value.specs.Spelling.{is_special, escape, escaped, spelling, IsValue}
use Rattle.dbn_value.specs.declared.value.Value.{Value}
use Rattle.dbn_value.specs.declared.value.Value.TheVariants.{Int, Text, Id}
use Rattle.dbn_value.proofs.Numbers.{own}
use Rattle.dbn_sexp.specs.Tokens.{Atom, is_line_feed, is_blank, ends_word, text_rest, more, token_of, tokens}
use Rattle.dbn_sexp.proofs.ReadLaws.{tokens_piece}

abbrev pub feeds : List ℕ → ℕ
feeds bytes = count_by is_line_feed bytes

feeds_cons : (b : ℕ) (bytes : List ℕ) → is_line_feed b ≡ false → feeds (b ∷ bytes) ≡ feeds bytes
feeds_cons b bytes e =
    sum_by-cons (λ c. cond (is_line_feed c) 1 0) b bytes ∙ ap (λ t. cond t 1 0 + feeds bytes) e ∙ omega arith

feeds-append : (xs ys : List ℕ) → feeds (xs ++ ys) ≡ feeds xs + feeds ys
feeds-append xs ys = sum_by-append (λ c. cond (is_line_feed c) 1 0) xs ys

-- the bytes are one token, of that first byte, in front of whatever ends a word
pub record OneToken (first : ℕ) (tail : List ℕ) : Type 0 where
  pub token : (line : ℕ) → token_of line first (first ∷ tail) ≡ record { line = line; kind = Atom (first ∷ tail) } ∷ []
  pub ends : (c : ℕ) (rest : List ℕ) → ends_word c ≡ true → more first (tail ++ c ∷ rest) ≡ length tail
  pub one_line : feeds (first ∷ tail) ≡ 0

-- ---- words

abbrev in_word : ℕ → Bool
in_word b = not (ends_word b)

of_not : (t : Bool) → not t ≡ true → t ≡ false
of_not true e = cc
of_not false e = refl

third : {A : Type 0} (p q r : Bool) (w x y z : A) → p ≡ false → q ≡ false → r ≡ false → cond p w (cond q x (cond r y z)) ≡ z
third p q r w x y z e f g = rw (e, f, g) refl

stop : (t : Bool) (n : ℕ) → t ≡ true → cond (not t) (1 + n) 0 ≡ 0
stop t n e = rw e refl

go_on : (t : Bool) (n : ℕ) → t ≡ false → cond (not t) (1 + n) 0 ≡ suc n
go_on t n e = rw e (one-add n)

word_ends : (tail : List ℕ) (c : ℕ) (rest : List ℕ) → list_all in_word tail ≡ true → ends_word c ≡ true → position_or_len ends_word (tail ++ c ∷ rest) ≡ length tail
word_ends [] c rest all e = stop (ends_word c) (position_or_len ends_word rest) e
word_ends (b ∷ tail) c rest all e =
    let parts = and_parts (in_word b) (list_all in_word tail) all in
    go_on (ends_word b) (position_or_len ends_word (tail ++ c ∷ rest)) (of_not (ends_word b) parts.0) ∙ ap suc (word_ends tail c rest parts.1 e)

no_feed : (b : ℕ) → ends_word b ≡ false → is_line_feed b ≡ false
no_feed b e =
    let quote = or_parts (is_blank b || b == 40 || b == 41 || b == 59) (b == 34) e in
    let comment = or_parts (is_blank b || b == 40 || b == 41) (b == 59) quote.0 in
    let close = or_parts (is_blank b || b == 40) (b == 41) comment.0 in
    let open_ = or_parts (is_blank b) (b == 40) close.0 in
    let return = or_parts (b == 32 || b == 9 || b == 10) (b == 13) open_.0 in
    (or_parts (b == 32 || b == 9) (b == 10) return.0).1

word_feeds : (tail : List ℕ) → list_all in_word tail ≡ true → feeds tail ≡ 0
word_feeds [] all = refl
word_feeds (b ∷ tail) all =
    let parts = and_parts (in_word b) (list_all in_word tail) all in
    feeds_cons b tail (no_feed b (of_not (ends_word b) parts.0)) ∙ word_feeds tail parts.1

pub word_token : (b : ℕ) (tail : List ℕ) → list_all in_word (b ∷ tail) ≡ true → OneToken b tail
unfolding token_of more
word_token b tail all =
    let parts = and_parts (in_word b) (list_all in_word tail) all in
    let e : ends_word b ≡ false = of_not (ends_word b) parts.0 in
    let quote = or_parts (is_blank b || b == 40 || b == 41 || b == 59) (b == 34) e in
    let comment = or_parts (is_blank b || b == 40 || b == 41) (b == 59) quote.0 in
    let close = or_parts (is_blank b || b == 40) (b == 41) comment.0 in
    let open_ = or_parts (is_blank b) (b == 40) close.0 in
    record {
      token = λ line. third (is_blank b || b == 59) (b == 40) (b == 41) _ _ _ _ (rw (open_.0, comment.1) refl) open_.1 close.1;
      ends = λ c rest h. third (b == 59) (b == 34) (ends_word b) _ _ _ _ comment.1 quote.1 e ∙ word_ends tail c rest parts.1 h;
      one_line = word_feeds (b ∷ tail) all;
    }

-- a test that fails on each byte that ends a word
record Avoids (p : ℕ → Bool) : Type 0 where
  space : p 32 ≡ false
  tab : p 9 ≡ false
  line_feed : p 10 ≡ false
  return : p 13 ≡ false
  open_ : p 40 ≡ false
  close : p 41 ≡ false
  comment : p 59 ≡ false
  quote : p 34 ≡ false

differ : (s t : Bool) → s ≡ t → s ≡ true → t ≡ false → ⊥
differ s t e y n = cc

apart : (p : ℕ → Bool) (b k : ℕ) → p b ≡ true → p k ≡ false → (b == k) ≡ false
apart p b k pass fails = ne_eqb b k (λ e. differ (p b) (p k) (ap p e) pass fails)

inside : (p : ℕ → Bool) → Avoids p → (b : ℕ) → p b ≡ true → in_word b ≡ true
inside p a b pass =
    rw (
      apart p b 32 pass a.space,
      apart p b 9 pass a.tab,
      apart p b 10 pass a.line_feed,
      apart p b 13 pass a.return,
      apart p b 40 pass a.open_,
      apart p b 41 pass a.close,
      apart p b 59 pass a.comment,
      apart p b 34 pass a.quote,
    ) refl

all_inside : (p : ℕ → Bool) → Avoids p → (bytes : List ℕ) → list_all p bytes ≡ true → list_all in_word bytes ≡ true
all_inside p a [] all = refl
all_inside p a (b ∷ bytes) all =
    let parts = and_parts (p b) (list_all p bytes) all in
    rw (inside p a b parts.0) (all_inside p a bytes parts.1)

of_digits : Avoids is_ascii_digit
of_digits = record { space = refl; tab = refl; line_feed = refl; return = refl; open_ = refl; close = refl; comment = refl; quote = refl }

of_letters : Avoids is_ascii_alphabetic
of_letters = record { space = refl; tab = refl; line_feed = refl; return = refl; open_ = refl; close = refl; comment = refl; quote = refl }

of_names : Avoids is_name_byte
of_names = record { space = refl; tab = refl; line_feed = refl; return = refl; open_ = refl; close = refl; comment = refl; quote = refl }

abbrev is_operator_byte : ℕ → Bool
is_operator_byte b = b == 61 || b == 60 || b == 62 || b == 33

of_operators : Avoids is_operator_byte
of_operators = record { space = refl; tab = refl; line_feed = refl; return = refl; open_ = refl; close = refl; comment = refl; quote = refl }

-- ---- names

single : (a : ℕ) → is_operator_byte a ≡ true → list_all in_word (a ∷ []) ≡ true
single a e = all_inside is_operator_byte of_operators (a ∷ []) (rw e refl)

operator_one : (a : ℕ) → (a == 61 || a == 60 || a == 62) ≡ true → list_all in_word (a ∷ []) ≡ true
operator_one a e = single a (rw e refl)

operator_first : (a : ℕ) → (a == 33 || a == 60 || a == 62) ≡ true → is_operator_byte a ≡ true
operator_first a e = widen (a == 61) (a == 60) (a == 62) (a == 33) e where
  widen : (p q r s : Bool) → (s || q || r) ≡ true → (p || q || r || s) ≡ true
  widen true q r s h = refl
  widen false true r s h = refl
  widen false false true s h = refl
  widen false false false true h = refl
  widen false false false false h = h

operator_two : (a b : ℕ) → (b == 61 && (a == 33 || a == 60 || a == 62)) ≡ true → list_all in_word (a ∷ b ∷ []) ≡ true
operator_two a b e =
    let parts = and_parts (b == 61) (a == 33 || a == 60 || a == 62) e in
    all_inside is_operator_byte of_operators (a ∷ b ∷ []) (rw (operator_first a parts.1, parts.0) refl)

identifier : (b : ℕ) (bytes : List ℕ) → (is_ascii_alphabetic b && list_all is_name_byte bytes) ≡ true → list_all in_word (b ∷ bytes) ≡ true
identifier b bytes e =
    let parts = and_parts (is_ascii_alphabetic b) (list_all is_name_byte bytes) e in
    rw (inside is_ascii_alphabetic of_letters b parts.0) (all_inside is_name_byte of_names bytes parts.1)

operator : (bytes : List ℕ) → is_operator bytes ≡ true → list_all in_word bytes ≡ true
operator [] e = refl
operator (a ∷ []) e = operator_one a e
operator (a ∷ b ∷ []) e = operator_two a b e
operator (a ∷ b ∷ c ∷ bytes) e = cc

-- the text of an item is one token
pub record AreOneToken (bytes : List ℕ) : Type 0 where
  pub first : ℕ
  pub tail : List ℕ
  pub are : bytes ≡ first ∷ tail
  pub one : OneToken first tail

word : (bytes : List ℕ) → 0 < length bytes → list_all in_word bytes ≡ true → AreOneToken bytes
word [] some all = absurd (omega (arith, some))
word (b ∷ tail) some all = record { first = b; tail = tail; are = refl; one = word_token b tail all }

named : (bytes : List ℕ) → is_name bytes ≡ true → 0 < length bytes
unfolding is_name
named [] e = cc
named (b ∷ bytes) e = omega arith

pub name_token : (bytes : List ℕ) → is_name bytes ≡ true → AreOneToken bytes
unfolding is_name
name_token bytes e = word bytes (named bytes e) (either bytes (or_cases (is_identifier bytes) (is_operator bytes) e)) where
  either : (bytes : List ℕ) → (is_identifier bytes ≡ true) ⊎ (is_operator bytes ≡ true) → list_all in_word bytes ≡ true
  either [] h = refl
  either (b ∷ bytes) (inl h) = identifier b bytes h
  either (b ∷ bytes) (inr h) = operator (b ∷ bytes) h

-- ---- texts

high : (n : ℕ) (bytes : List ℕ) → 128 ≤ n → feeds (n ∷ bytes) ≡ feeds bytes
high n bytes h = feeds_cons n bytes (ne_eqb n 10 (λ same. omega (arith, same)))

plain : (c : ℕ) → is_control c ≡ false → is_line_feed c ≡ false
plain c e = ne_eqb c 10 (λ same. no_control (is_control c) (ap is_control same) e) where
  no_control : (t : Bool) → t ≡ true → t ≡ false → ⊥
  no_control t y n = cc

encoded_feeds : (c : ℕ) → is_control c ≡ false → feeds (encode c) ≡ 0
unfolding encode
encoded_feeds c e = by (ltb c 128) (ltb c 2048) (ltb c 65536) where
  by : (p q r : Bool)
      → feeds
      (cond p (c ∷ [])
      (cond q ((192 + c / 64) ∷ (128 + c % 64) ∷ [])
      (cond r ((224 + c / 4096) ∷ (128 + c / 64 % 64) ∷ (128 + c % 64) ∷ [])
      ((240 + c / 262144) ∷ (128 + c / 4096 % 64) ∷ (128 + c / 64 % 64) ∷ (128 + c % 64) ∷ []))))
      ≡ 0
  by true q r = feeds_cons c [] (plain c e)
  by false true r = high (192 + c / 64) ((128 + c % 64) ∷ []) (omega arith) ∙ high (128 + c % 64) [] (omega arith)
  by false false true =
      high (224 + c / 4096) ((128 + c / 64 % 64) ∷ (128 + c % 64) ∷ []) (omega arith)
      ∙ high (128 + c / 64 % 64) ((128 + c % 64) ∷ []) (omega arith) ∙ high (128 + c % 64) [] (omega arith)
  by false false false =
      high (240 + c / 262144) ((128 + c / 4096 % 64) ∷ (128 + c / 64 % 64) ∷ (128 + c % 64) ∷ []) (omega arith)
      ∙ high (128 + c / 4096 % 64) ((128 + c / 64 % 64) ∷ (128 + c % 64) ∷ []) (omega arith)
      ∙ high (128 + c / 64 % 64) ((128 + c % 64) ∷ []) (omega arith) ∙ high (128 + c % 64) [] (omega arith)

encodes_feeds : (cs : List ℕ) → list_any is_control cs ≡ false → feeds (encodes cs) ≡ 0
encodes_feeds [] e = refl
encodes_feeds (c ∷ cs) e =
    let parts = or_parts (is_control c) (list_any is_control cs) e in
    feeds-append (encode c) (encodes cs) ∙ ap (λ n. n + feeds (encodes cs)) (encoded_feeds c parts.0) ∙ ap (λ n. 0 + n) (encodes_feeds cs parts.1)

text_feeds : (bytes : List ℕ) → is_text bytes ≡ true → feeds bytes ≡ 0
unfolding is_text
text_feeds bytes e =
    let parts = and_parts (is_utf8 bytes && nat_le (length bytes) 4096) (not (list_any is_control (chars bytes))) e in
    let utf8 = and_parts (is_utf8 bytes) (nat_le (length bytes) 4096) parts.0 in
    ap feeds (sym (encodes-chars bytes (IsUtf8-from_is_utf8 bytes utf8.0)))
    ∙ encodes_feeds (chars bytes) (of_not (list_any is_control (chars bytes)) parts.1)

escape_feeds : (b : ℕ) → feeds (escape b) ≡ feeds (b ∷ [])
escape_feeds b = by (is_special b) where
  by : (s : Bool) → feeds (cond s (92 ∷ b ∷ []) (b ∷ [])) ≡ feeds (b ∷ [])
  by true = feeds_cons 92 (b ∷ []) refl
  by false = refl

escaped_feeds : (bytes : List ℕ) → feeds (escaped bytes) ≡ feeds bytes
escaped_feeds [] = refl
escaped_feeds (b ∷ bytes) =
    feeds-append (escape b) (escaped bytes) ∙ ap (λ n. n + feeds (escaped bytes)) (escape_feeds b) ∙ ap (λ n. feeds (b ∷ []) + n) (escaped_feeds bytes)
    ∙ sym (feeds-append (b ∷ []) bytes)

-- a text ends at its closing quote
after_escape : (b : ℕ) (bytes : List ℕ) → text_rest false (escape b ++ bytes) ≡ length (escape b) + text_rest false bytes
after_escape b bytes = by (b == 34) (b == 92) refl refl where
  by : (q s : Bool) → (b == 34) ≡ q → (b == 92) ≡ s → text_rest false (cond (q || s) (92 ∷ b ∷ []) (b ∷ []) ++ bytes) ≡ length (cond (q || s) (92 ∷ b ∷ []) (b ∷ [])) + text_rest false bytes
  by true s p r = omega arith
  by false true p r = omega arith
  by false false p r = rw (p, r) refl

text_ends : (bytes rest : List ℕ) → text_rest false (escaped bytes ++ 34 ∷ rest) ≡ length (escaped bytes ++ 34 ∷ [])
text_ends [] rest = refl
text_ends (b ∷ bytes) rest =
    ap (text_rest false) (append_assoc (escape b) (escaped bytes) (34 ∷ rest)) ∙ after_escape b (escaped bytes ++ 34 ∷ rest)
    ∙ ap (λ n. length (escape b) + n) (text_ends bytes rest)
    ∙ sym (ap length (append_assoc (escape b) (escaped bytes) (34 ∷ [])) ∙ length-append (escape b) (escaped bytes ++ 34 ∷ []))

text_token : (bytes : List ℕ) → is_text bytes ≡ true → OneToken 34 (escaped bytes ++ 34 ∷ [])
unfolding token_of more
text_token bytes e =
    record {
      token = λ line. refl;
      ends = λ c rest h. ap (text_rest false) (append_assoc (escaped bytes) (34 ∷ []) (c ∷ rest)) ∙ text_ends bytes (c ∷ rest);
      one_line =
          feeds_cons 34 (escaped bytes ++ 34 ∷ []) refl ∙ feeds-append (escaped bytes) (34 ∷ [])
          ∙ ap (λ n. n + feeds (34 ∷ [])) (escaped_feeds bytes ∙ text_feeds bytes e);
    }

-- ---- values

signed : (n : ℕ) (c : ℕ) → n < 2 ^ 64 → in_word c ≡ true → AreOneToken (c ∷ decimal n)
signed n c small e = word (c ∷ decimal n) (omega arith) (rw e (all_inside is_ascii_digit of_digits (decimal n) (digits_decimal own n small)))

pub value_token : (value : Value) → IsValue value → AreOneToken (spelling value)
value_token (Int (pos n)) h =
    let small : n < 2 ^ 64 = omega arith in
    word (decimal n) (decimal_nonempty n small) (all_inside is_ascii_digit of_digits (decimal n) (digits_decimal own n small))
value_token (Int (negsuc n)) h = signed (suc n) 45 (omega arith) refl
value_token (Text bytes) h = record { first = 34; tail = escaped bytes ++ 34 ∷ []; are = refl; one = text_token bytes h }
value_token (Id n) h = signed n 35 (omega arith) refl

-- what no name begins with
other_first : (b : ℕ) (bytes : List ℕ) → is_ascii_alphabetic b ≡ false → is_operator_byte b ≡ false → is_name (b ∷ bytes) ≡ false
unfolding is_name
other_first b [] p q =
    let less = or_parts (b == 61 || b == 60 || b == 62) (b == 33) q in
    rw (p, less.0) refl
other_first b (c ∷ []) p q =
    let less = or_parts (b == 61 || b == 60 || b == 62) (b == 33) q in
    let more_ = or_parts (b == 61 || b == 60) (b == 62) less.0 in
    let equal = or_parts (b == 61) (b == 60) more_.0 in
    rw (p, less.1, equal.1, more_.1) (never (c == 61))
  where
    never : (t : Bool) → (t && false) ≡ false
    never true = refl
    never false = refl
other_first b (c ∷ d ∷ bytes) p q = rw p refl

digit_first : (d : ℕ) → is_ascii_digit d ≡ true → (is_ascii_alphabetic d ≡ false) × (is_operator_byte d ≡ false)
digit_first d h = (grind (arith, nat_tests), grind (arith, nat_tests))

digits_other : (bytes : List ℕ) → 0 < length bytes → list_all is_ascii_digit bytes ≡ true → is_name bytes ≡ false
digits_other [] some all = absurd (omega (arith, some))
digits_other (d ∷ bytes) some all =
    let first = digit_first d (and_parts (is_ascii_digit d) (list_all is_ascii_digit bytes) all).0 in
    other_first d bytes first.0 first.1

-- the spelling of a value is no name
pub no_name : (value : Value) → IsValue value → is_name (spelling value) ≡ false
no_name (Int (pos n)) h =
    let small : n < 2 ^ 64 = omega arith in
    digits_other (decimal n) (decimal_nonempty n small) (digits_decimal own n small)
no_name (Int (negsuc n)) h = other_first 45 (decimal (suc n)) refl refl
no_name (Text bytes) h = other_first 34 (escaped bytes ++ 34 ∷ []) refl refl
no_name (Id n) h = other_first 35 (decimal n) refl refl

-- ---- the tokens of a text that begins with one

pub tokens_one : (line : ℕ) (bytes : List ℕ) (c : ℕ) (rest : List ℕ) → AreOneToken bytes → ends_word c ≡ true
    → tokens line 0 (bytes ++ c ∷ rest) ≡ record { line = line; kind = Atom bytes } ∷ tokens line 0 (c ∷ rest)
tokens_one line bytes c rest h e =
    let b = h.first in
    let tail = h.tail in
    let len = h.one.ends c rest e in
    let front : take (more b (tail ++ c ∷ rest)) (tail ++ c ∷ rest) ≡ tail = ap (λ n. take n (tail ++ c ∷ rest)) len ∙ take-append_seam tail (c ∷ rest) in
    let back : drop (more b (tail ++ c ∷ rest)) (tail ++ c ∷ rest) ≡ c ∷ rest = ap (λ n. drop n (tail ++ c ∷ rest)) len ∙ drop-append_seam tail (c ∷ rest) in
    ap (λ all. tokens line 0 (all ++ c ∷ rest)) h.are ∙ tokens_piece line b (tail ++ c ∷ rest)
    ∙ ap (λ t. token_of line b (b ∷ t) ++ tokens (line + feeds (b ∷ t)) 0 (drop (more b (tail ++ c ∷ rest)) (tail ++ c ∷ rest))) front
    ∙ ap (λ r. token_of line b (b ∷ tail) ++ tokens (line + feeds (b ∷ tail)) 0 r) back
    ∙ ap (λ n. token_of line b (b ∷ tail) ++ tokens (line + n) 0 (c ∷ rest)) h.one.one_line
    ∙ ap (λ n. token_of line b (b ∷ tail) ++ tokens n 0 (c ∷ rest)) (add-zero line)
    ∙ ap (λ ts. ts ++ tokens line 0 (c ∷ rest)) (h.one.token line)
    ∙ ap (λ all. record { line = line; kind = Atom all } ∷ tokens line 0 (c ∷ rest)) (sym h.are)
