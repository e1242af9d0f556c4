-- Formulas by the levels that are left.
use Rattle.std.proofs.Common.{◌≡◌, ℕ, zero, suc, ◌-◌, ◌<◌, List, ap, subst, ◌∙◌, Some, None, arith}
use Rattle.dbn_sexp.specs.declared.sexp.Sexp.{Sexp}
use Rattle.dbn_sexp.specs.Parts.{list_in}
use Rattle.dbn_net.specs.Maybe.{◌>>=◌}
use Rattle.dbn_net.specs.Forms.{with_word, formula_of, formula_in}
use Rattle.dbn_net.proofs.WrittenFormulaLaws.{formula_too_deep, formula_deeper}

pub no_level : (depth : ℕ) (one : Sexp) → depth ≡ 0 → formula_in depth one ≡ None
no_level depth one e = ap (λ d. formula_in d one) e ∙ formula_too_deep one

pub no_formula : (depth : ℕ) (one : Sexp) → list_in one ≡ None → formula_in depth one ≡ None
no_formula zero one e = formula_too_deep one
no_formula (suc depth) one e = formula_deeper depth one ∙ ap (λ o. o >>= with_word (formula_of (formula_in depth))) e

pub a_formula : (depth : ℕ) (one : Sexp) (parts : List Sexp) → 0 < depth → list_in one ≡ Some parts
    → formula_in depth one ≡ with_word (formula_of (formula_in (depth - 1))) parts
a_formula zero one parts h e = absurd (omega arith)
a_formula (suc depth) one parts h e =
    let same : depth ≡ suc depth - 1 = omega arith in
    subst (λ (d : ℕ). formula_in (suc depth) one ≡ with_word (formula_of (formula_in d)) parts) same
    (formula_deeper depth one ∙ ap (λ o. o >>= with_word (formula_of (formula_in depth))) e)

pub ruleset depth_laws = (no_level, no_formula, a_formula)
