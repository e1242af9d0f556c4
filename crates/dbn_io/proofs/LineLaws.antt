-- Laws of the lines of a text.
use Rattle.std.proofs.Common.{◌≡◌, ℕ, suc, ◌-◌, ◌<◌, ◌≢◌, false, cond, ◌==◌, List, [], ◌∷◌, ◌++◌, length, get_or, take, sym, ap, ◌∙◌, arith, take-suc}
use Rattle.std.proofs.lemmas.Bool.Decides.{nat_tests}
use Rattle.std.proofs.Math.Seq.{take-length}
use Rattle.dbn_model.proofs.LineLaws.{without_return-last}
use Rattle.dbn_model.specs.Lines.{without_return}

-- the end of a text is its last byte
last-part : (bytes : List ℕ) (n : ℕ) → n ≡ length bytes → 0 < n → bytes ≡ take (n - 1) bytes ++ (get_or bytes (n - 1) 0 ∷ [])
last-part bytes n e some =
    let below : n - 1 < length bytes = omega arith in
    let same : suc (n - 1) ≡ length bytes = omega arith in
    sym (take-length bytes) ∙ ap (λ k. take k bytes) (sym same) ∙ take-suc bytes (n - 1) 0 below

-- nothing is dropped of nothing
pub return-none : (bytes : List ℕ) (n : ℕ) → n ≡ length bytes → n ≡ 0 → take n bytes ≡ without_return bytes
return-none [] n e none = ap (λ k. take k []) none
return-none (byte ∷ bytes) n e none = absurd (omega arith)

-- a carriage return at the end is dropped
pub return-dropped : (bytes : List ℕ) (n : ℕ) → n ≡ length bytes → 0 < n → get_or bytes (n - 1) 0 ≡ 13 → take (n - 1) bytes ≡ without_return bytes
return-dropped bytes n e some is_return = sym (
    ap without_return (last-part bytes n e some)
    ∙ ap (λ byte. without_return (take (n - 1) bytes ++ byte ∷ [])) is_return
    ∙ without_return-last (take (n - 1) bytes) 13)

-- another byte at the end is kept
pub return-kept : (bytes : List ℕ) (n : ℕ) → n ≡ length bytes → 0 < n → get_or bytes (n - 1) 0 ≢ 13 → take n bytes ≡ without_return bytes
return-kept bytes n e some other =
    let test : (get_or bytes (n - 1) 0 == 13) ≡ false = grind (arith, nat_tests) in
    sym (ap without_return (last-part bytes n e some)
    ∙ without_return-last (take (n - 1) bytes) (get_or bytes (n - 1) 0)
    ∙ ap (λ t. cond t (take (n - 1) bytes) (take (n - 1) bytes ++ (get_or bytes (n - 1) 0 ∷ []))) test
    ∙ sym (last-part bytes n e some)
    ∙ sym (ap (λ k. take k bytes) e ∙ take-length bytes))
