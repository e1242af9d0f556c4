-- Counting the facts of all relations, and the line with all counts.
use Rattle.std.proofs.Common.{◌≡◌, ℕ, ◌+◌, ◌<◌, List, [], ◌++◌, length, take, slice_index_or, codes, decimal, ap, ◌∙◌}
use Rattle.std.proofs.lemmas.List.Sums.{sum_by_more}
use Rattle.dbn_top.specs.Demos.{many, facts_in, counted, numbers_line, counts_line}

pub facts_more : {A : Type 0} → (xs : List (List A)) (i : ℕ) → i < length xs → facts_in (take (i + 1) xs) ≡ facts_in (take i xs) + length (slice_index_or xs i [])
facts_more xs i less = sum_by_more length xs i [] less

-- the line, count by count
pub counts_of : (size committed rolled_back disabled facts : ℕ) (text front first second third fourth all : List ℕ)
    → front ≡ codes "demo " ++ decimal size → first ≡ front ++ counted (codes "committed") committed → second ≡ first ++ counted (codes "rolled-back") rolled_back
    → third ≡ second ++ counted (codes "disabled") disabled → fourth ≡ third ++ counted (codes "facts") facts → all ≡ fourth ++ codes "\n"
    → committed ≡ many (codes "committed ") text → rolled_back ≡ many (codes "rolled-back ") text → disabled ≡ many (codes "refused disabled") text → all ≡ counts_line size text facts
counts_of size committed rolled_back disabled facts text front first second third fourth all e0 e1 e2 e3 e4 e5 m1 m2 m3 =
    e5
    ∙ ap (λ (l : List ℕ). l ++ codes "\n")
    (e4 ∙ ap (λ (l : List ℕ). l ++ counted (codes "facts") facts)
    (e3 ∙ ap (λ (l : List ℕ). l ++ counted (codes "disabled") disabled)
    (e2 ∙ ap (λ (l : List ℕ). l ++ counted (codes "rolled-back") rolled_back)
    (e1 ∙ ap (λ (l : List ℕ). l ++ counted (codes "committed") committed) e0))))
    ∙ ap (λ (n : ℕ). numbers_line size n rolled_back disabled facts) m1
    ∙ ap (λ (n : ℕ). numbers_line size (many (codes "committed ") text) n disabled facts) m2
    ∙ ap (λ (n : ℕ). numbers_line size (many (codes "committed ") text) (many (codes "rolled-back ") text) n facts) m3
