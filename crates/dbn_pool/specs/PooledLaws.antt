-- A pool is a coder: a cell stands for its value, and what is put changes no other cell.
use Rattle.std.proofs.Common.{◌≡◌, ℕ, ◌+◌, ◌<◌, ◌≤◌, Bool, true, false, cond, not, eqb, ltb, List, [], ◌∷◌, ◌++◌, length, get_or, Option, Some, None, refl, sym, ap, ◌∙◌, arith, eq-eqb}
use Rattle.std.specs.List.{position, position_or_len, list_any}
use Rattle.std.specs.Option.{option_map}
use Rattle.std.specs.Str.{bytes_eq}
use Rattle.std.proofs.lemmas.Bool.{ltb-true, ltb-false, lt-ltb, le-ltb, eqb-true}
use Rattle.std.proofs.lemmas.List.{length-append}
use Rattle.std.proofs.lemmas.List.Folds.{position_or_len_push}
use Rattle.std.proofs.lemmas.List.Quantifiers.{position-Some}
use Rattle.std.proofs.lemmas.List.Sums.{prefix_len-le-length}
use Rattle.std.proofs.lemmas.Slice.Eq.{bytes_eq-Decides}
use Rattle.dbn_value.specs.Coding.{Extends, Decodes}
use Rattle.dbn_value.specs.Order.{value_type, value_int}
use Rattle.dbn_value.specs.declared.value.Value.{Value}
use Rattle.dbn_value.specs.declared.value.Value.TheVariants as value
use Rattle.dbn_pool.specs.Cells.{cell_type, cell_int}
use Rattle.dbn_pool.specs.Pooled.{symbol_of, with_text, cell_of, own_cell, value_of}
use Rattle.dbn_pool.specs.declared.cell.SymCell.{SymCell}
use Rattle.dbn_pool.specs.declared.cell.SymCell.TheVariants.{Int, Id, Sym}

-- ---- the first place

place : (p : List ℕ → Bool) (texts : List (List ℕ)) (k : ℕ) → position p texts ≡ Some k → (position_or_len p texts ≡ k) × (k < length texts)
place p texts k e = by (ltb (position_or_len p texts) (length texts)) refl e
  where
    by : (b : Bool) → ltb (position_or_len p texts) (length texts) ≡ b → cond b (Some (position_or_len p texts)) None ≡ Some k → (position_or_len p texts ≡ k) × (k < length texts)
    by true h q = let lt = ltb-true _ _ h in let same : position_or_len p texts ≡ k = cc in (same, omega arith)
    by false h q = absurd cc

no_place : (p : List ℕ → Bool) (texts : List (List ℕ)) → position p texts ≡ None → position_or_len p texts ≡ length texts
no_place p texts e = by (ltb (position_or_len p texts) (length texts)) refl e
  where
    by : (b : Bool) → ltb (position_or_len p texts) (length texts) ≡ b → cond b (Some (position_or_len p texts)) None ≡ None → position_or_len p texts ≡ length texts
    by true h q = absurd cc
    by false h q = let ge = ltb-false _ _ h in let le : position_or_len p texts ≤ length texts = prefix_len-le-length (λ (t : List ℕ). not (p t)) texts in omega arith

at_place : (p : List ℕ → Bool) (texts : List (List ℕ)) (k : ℕ) → position_or_len p texts ≡ k → k < length texts → position p texts ≡ Some k
at_place p texts k e lt = rw (e, lt-ltb k (length texts) lt) refl

past_end : (p : List ℕ → Bool) (texts : List (List ℕ)) → position_or_len p texts ≡ length texts → position p texts ≡ None
past_end p texts e = rw (e, le-ltb (length texts) (length texts) (omega arith)) refl

-- what was found stays where it is
stays : (p : List ℕ → Bool) (texts : List (List ℕ)) (text : List ℕ) (k : ℕ) → position p texts ≡ Some k → position p (texts ++ text ∷ []) ≡ Some k
stays p texts text k e =
    let found = place p texts k e in
    let same : position_or_len p (texts ++ text ∷ []) ≡ k = position_or_len_push p texts text ∙ by (eqb (position_or_len p texts) (length texts)) refl found.0 found.1 in
    at_place p (texts ++ text ∷ []) k same (omega (arith, length-append texts (text ∷ []), found.1))
  where
    by : (b : Bool) → eqb (position_or_len p texts) (length texts) ≡ b → position_or_len p texts ≡ k → k < length texts → cond b (length texts + cond (p text) 0 1) (position_or_len p texts) ≡ k
    by true h q lt = let same : position_or_len p texts ≡ length texts = eqb-true _ _ h in absurd (omega arith)
    by false h q lt = q

-- a new text that passes is found at the end, and one that doesn't isn't found
pub found_last : (p : List ℕ → Bool) (texts : List (List ℕ)) (text : List ℕ) → position p texts ≡ None → p text ≡ true → position p (texts ++ text ∷ []) ≡ Some (length texts)
found_last p texts text none passes =
    let same : position_or_len p (texts ++ text ∷ []) ≡ length texts = position_or_len_push p texts text ∙ by (eqb (position_or_len p texts) (length texts)) refl (no_place p texts none) in
    at_place p (texts ++ text ∷ []) (length texts) same (omega (arith, length-append texts (text ∷ [])))
  where
    by : (b : Bool) → eqb (position_or_len p texts) (length texts) ≡ b → position_or_len p texts ≡ length texts → cond b (length texts + cond (p text) 0 1) (position_or_len p texts) ≡ length texts
    by true h q = rw passes (omega arith)
    by false h q = q

not_last : (p : List ℕ → Bool) (texts : List (List ℕ)) (text : List ℕ) → position p texts ≡ None → p text ≡ false → position p (texts ++ text ∷ []) ≡ None
not_last p texts text none fails =
    let len : length (texts ++ text ∷ []) ≡ length texts + 1 = length-append texts (text ∷ []) in
    let same : position_or_len p (texts ++ text ∷ []) ≡ length (texts ++ text ∷ []) = position_or_len_push p texts text ∙ rw (no_place p texts none, eqb_same (length texts), fails) (sym len) in
    past_end p (texts ++ text ∷ []) same
  where
    eqb_same : (n : ℕ) → eqb n n ≡ true
    eqb_same n = eq-eqb n n refl

-- ---- symbols

pub symbol_within : (texts : List (List ℕ)) (text : List ℕ) (k : ℕ) → symbol_of texts text ≡ Some k → k < length texts
symbol_within texts text k e = (position-Some (bytes_eq text) texts k [] e).0

text_at : (texts : List (List ℕ)) (text : List ℕ) (k : ℕ) → symbol_of texts text ≡ Some k → get_or texts k [] ≡ text
text_at texts text k e = sym ((bytes_eq-Decides text (get_or texts k [])).0 (position-Some (bytes_eq text) texts k [] e).1)

symbol_stays : (texts : List (List ℕ)) (new text : List ℕ) (k : ℕ) → symbol_of texts text ≡ Some k → symbol_of (with_text texts new) text ≡ Some k
symbol_stays texts new text k e = by (list_any (bytes_eq new) texts)
  where
    by : (b : Bool) → symbol_of (cond b texts (texts ++ new ∷ [])) text ≡ Some k
    by true = e
    by false = stays (bytes_eq text) texts new k e

other_text : (a b : List ℕ) → (a ≡ b → ⊥) → bytes_eq a b ≡ false
other_text a b differ = by (bytes_eq a b) refl
  where
    by : (r : Bool) → bytes_eq a b ≡ r → bytes_eq a b ≡ false
    by true e = absurd (differ ((bytes_eq-Decides a b).0 e))
    by false e = e

-- another text keeps its symbol, or stays without one
other_symbol : (texts : List (List ℕ)) (new text : List ℕ) → (text ≡ new → ⊥) → symbol_of (with_text texts new) text ≡ symbol_of texts text
other_symbol texts new text differ = by (list_any (bytes_eq new) texts)
  where
    at_end : (o : Option ℕ) → symbol_of texts text ≡ o → symbol_of (texts ++ new ∷ []) text ≡ o
    at_end (Some k) e = stays (bytes_eq text) texts new k e
    at_end None e = not_last (bytes_eq text) texts new e (other_text text new differ)

    by : (b : Bool) → symbol_of (cond b texts (texts ++ new ∷ [])) text ≡ symbol_of texts text
    by true = refl
    by false = at_end (symbol_of texts text) refl

-- ---- cells

-- the symbol of a text's cell
symbol : (o : Option ℕ) (c : SymCell) → option_map (λ k. Sym k) o ≡ Some c → (k : ℕ) × (o ≡ Some k) × (c ≡ Sym k)
symbol (Some k) c e = (k, refl, cc)
symbol None c e = absurd cc

pub decodes : (texts : List (List ℕ)) → Decodes (cell_of texts) (value_of texts)
decodes texts (value.Int n) (Int m) e = cc
decodes texts (value.Int n) (Id m) e = cc
decodes texts (value.Int n) (Sym m) e = cc
decodes texts (value.Id n) (Int m) e = cc
decodes texts (value.Id n) (Id m) e = cc
decodes texts (value.Id n) (Sym m) e = cc
decodes texts (value.Text text) c e =
    let s = symbol (symbol_of texts text) c e in
    ap (value_of texts) s.2 ∙ ap (λ (bytes : List ℕ). value.Text bytes) (text_at texts text s.0 s.1)

pub keeps_type : (texts : List (List ℕ)) (v : Value) (c : SymCell) → cell_of texts v ≡ Some c → cell_type c ≡ value_type v
keeps_type texts (value.Int n) (Int m) e = refl
keeps_type texts (value.Int n) (Id m) e = cc
keeps_type texts (value.Int n) (Sym m) e = cc
keeps_type texts (value.Id n) (Int m) e = cc
keeps_type texts (value.Id n) (Id m) e = refl
keeps_type texts (value.Id n) (Sym m) e = cc
keeps_type texts (value.Text text) c e = ap cell_type (symbol (symbol_of texts text) c e).2

pub keeps_int : (texts : List (List ℕ)) (v : Value) (c : SymCell) → cell_of texts v ≡ Some c → cell_int c ≡ value_int v
keeps_int texts (value.Int n) (Int m) e = cc
keeps_int texts (value.Int n) (Id m) e = cc
keeps_int texts (value.Int n) (Sym m) e = cc
keeps_int texts (value.Id n) (Int m) e = cc
keeps_int texts (value.Id n) (Id m) e = refl
keeps_int texts (value.Id n) (Sym m) e = cc
keeps_int texts (value.Text text) c e = ap cell_int (symbol (symbol_of texts text) c e).2

pub keeps_own : (texts : List (List ℕ)) → Extends own_cell (cell_of texts)
keeps_own texts (value.Int n) c e = e
keeps_own texts (value.Id n) c e = e
keeps_own texts (value.Text text) c e = absurd cc

-- ---- what putting a text leaves

pub cells_stay : (texts : List (List ℕ)) (new : List ℕ) → Extends (cell_of texts) (cell_of (with_text texts new))
cells_stay texts new (value.Int n) c e = e
cells_stay texts new (value.Id n) c e = e
cells_stay texts new (value.Text text) c e =
    let s = symbol (symbol_of texts text) c e in
    ap (option_map (λ k. Sym k)) (symbol_stays texts new text s.0 s.1) ∙ ap (λ (x : SymCell). Some x) (sym s.2)

pub others_stay : (texts : List (List ℕ)) (new : List ℕ) (v : Value) → (v ≡ value.Text new → ⊥) → cell_of (with_text texts new) v ≡ cell_of texts v
others_stay texts new (value.Int n) differ = refl
others_stay texts new (value.Id n) differ = refl
others_stay texts new (value.Text text) differ = ap (option_map (λ k. Sym k)) (other_symbol texts new text (λ same. differ (ap (λ (bytes : List ℕ). value.Text bytes) same)))

-- the text that was put stands at the place that it was given
pub put_there : (texts : List (List ℕ)) (text : List ℕ) → symbol_of texts text ≡ None → list_any (bytes_eq text) texts ≡ false → symbol_of (with_text texts text) text ≡ Some (position_or_len (bytes_eq text) texts)
put_there texts text none new =
    let last : symbol_of (texts ++ text ∷ []) text ≡ Some (length texts) = found_last (bytes_eq text) texts text none ((bytes_eq-Decides text text).1 refl) in
    rw (new, no_place (bytes_eq text) texts none) last

-- putting a text again changes nothing
pub put_again : (texts : List (List ℕ)) (text : List ℕ) → list_any (bytes_eq text) texts ≡ true → texts ≡ with_text texts text
put_again texts text there = rw there refl
