-- Steps of scanning.
use Rattle.std.proofs.Common.{◌≡◌, ℕ, ◌+◌, ◌<◌, ◌≤◌, Bool, true, false, cond, ◌==◌, List, [], ◌∷◌, get_or, drop, length, refl, sym, ap, ◌∙◌, arith, add-one, drop-cons}
use Rattle.std.specs.Prelude.{not, Some, None, unwrap_or}
use Rattle.std.proofs.Math.Dec.{ltb}
use Rattle.std.proofs.lemmas.Bool.{ne_eqb, ltb-false}
use Rattle.std.proofs.lemmas.List.Sums.{prefix_len-le-length}
use Rattle.std.specs.List.{position, position_or_len}
use Rattle.dbn_sexp.specs.Tokens.{text_rest}

at : (bytes : List ℕ) (i : ℕ) → i < length bytes → drop i bytes ≡ get_or bytes i 0 ∷ drop (i + 1) bytes
at bytes i h = drop-cons bytes i 0 h ∙ ap (λ n. get_or bytes i 0 ∷ drop n bytes) (sym (add-one i))

-- a step of a scan, of which `all` is the result
pub scan_escaped : (bytes : List ℕ) (i all : ℕ) (now next : Bool) → i < length bytes → now ≡ true → next ≡ false
    → all ≡ i + text_rest now (drop i bytes) → all ≡ i + 1 + text_rest next (drop (i + 1) bytes)
scan_escaped bytes i all now next h p q e =
    let step : text_rest now (drop i bytes) ≡ 1 + text_rest next (drop (i + 1) bytes) =
    ap (λ t. text_rest t (drop i bytes)) p ∙ ap (text_rest true) (at bytes i h) ∙ ap (λ t. 1 + text_rest t (drop (i + 1) bytes)) (sym q) in
    omega (arith, e, step)

pub scan_plain : (bytes : List ℕ) (i all : ℕ) (now next : Bool) → i < length bytes → now ≡ false → (get_or bytes i 0 ≡ 34 → ⊥) → next ≡ (get_or bytes i 0 == 92)
    → all ≡ i + text_rest now (drop i bytes) → all ≡ i + 1 + text_rest next (drop (i + 1) bytes)
scan_plain bytes i all now next h p other q e =
    let byte : ℕ = get_or bytes i 0 in
    let step : text_rest now (drop i bytes) ≡ 1 + text_rest next (drop (i + 1) bytes) =
    ap (λ t. text_rest t (drop i bytes)) p ∙ ap (text_rest false) (at bytes i h)
    ∙ ap (λ t. cond t 1 (1 + text_rest (byte == 92) (drop (i + 1) bytes))) (ne_eqb byte 34 other)
    ∙ ap (λ t. 1 + text_rest t (drop (i + 1) bytes)) (sym q) in
    omega (arith, e, step)

pub text_rest_within : (escaped : Bool) (bytes : List ℕ) → text_rest escaped bytes ≤ length bytes
text_rest_within escaped [] = omega arith
text_rest_within true (b ∷ bytes) = omega (arith, text_rest_within false bytes)
text_rest_within false (b ∷ bytes) =
    elim (b == 34) as (λ t. cond t 1 (1 + text_rest (b == 92) bytes) ≤ length (b ∷ bytes))
    [ true ↦ omega arith | false ↦ omega (arith, text_rest_within (b == 92) bytes) ]

-- the place of the first one that passes, or the end
pub position_or_len_within : {X : Type 0} (p : X → Bool) (xs : List X) → position_or_len p xs ≤ length xs
position_or_len_within p xs = prefix_len-le-length (λ x. not (p x)) xs

found_or_end : (n end : ℕ) → n ≤ end → unwrap_or (cond (ltb n end) (Some n) None) end ≡ n
found_or_end n end h = go (ltb n end) refl where
  go : (t : Bool) → ltb n end ≡ t → unwrap_or (cond t (Some n) None) end ≡ n
  go true e = refl
  go false e = omega (arith, h, ltb-false n end e)

pub position_or_end : {X : Type 0} (p : X → Bool) (xs : List X) → unwrap_or (position p xs) (length xs) ≡ position_or_len p xs
position_or_end p xs = found_or_end (position_or_len p xs) (length xs) (position_or_len_within p xs)

pub ruleset scan_laws = (text_rest_within, position_or_end, position_or_len_within)
