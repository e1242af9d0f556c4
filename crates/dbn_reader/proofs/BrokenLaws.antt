-- The first sentence that doesn't hold is the first whose violation holds.
use Rattle.std.proofs.Common.{◌≡◌, ℕ, Bool, true, false, not, if◌then◌else◌, List, [], ◌∷◌, map, refl, sym, ap, subst, ◌∙◌, inl, inr, ◌⊎◌, Option, Some, None, length}
use Rattle.std.specs.List.{zip}
use Rattle.dbn_value.specs.Members.{In}
use Rattle.dbn_formula.specs.Holds.{Instance}
use Rattle.dbn_formula.specs.Answers.{holds}
use Rattle.dbn_net.specs.declared.violation.Named.{Named}
use Rattle.dbn_net.specs.declared.decl.Decl.{Decl}
use Rattle.dbn_net.specs.Sentences.{denied, labelled_sentences, sentences, violations}
use Rattle.dbn_net.specs.Texts.{first_broken}
use Rattle.dbn_net.proofs.ViolationLaws.{denied_holds}

-- the line of the first violation that holds
abbrev pub first_denied : Instance → List (ℕ × Named) → Option ℕ
first_denied db [] = None
first_denied db (one ∷ list) = if holds one.1.item db [] then Some one.0 else first_denied db list

turned : (b : Bool) (o p : Option ℕ) → (if not b then o else p) ≡ (if b then p else o)
turned true o p = refl
turned false o p = refl

denied_first : (db : Instance) (lines : List ℕ) (ss : List Named) → first_denied db (zip lines (map denied ss)) ≡ first_broken db (zip lines (map (λ s. s.item) ss))
denied_first db [] ss = refl
denied_first db (line ∷ lines) [] = refl
denied_first db (line ∷ lines) (s ∷ ss) =
    ap (λ b. if b then Some line else first_denied db (zip lines (map denied ss))) (denied_holds s.item db)
    ∙ ap (λ o. if not (holds s.item db []) then Some line else o) (denied_first db lines ss)
    ∙ turned (holds s.item db []) (Some line) (first_broken db (zip lines (map (λ s. s.item) ss)))

-- what is left of the lines and of the violations
pub record IsLeft (net : List Decl) (db : Instance) (whole lines : List ℕ) (vs : List Named) : Type 0 where
  pub same : first_denied db (zip lines vs) ≡ first_broken db (zip whole (sentences net))
  pub members : (v : Named) → In v vs → In v (violations net)

pub all_left : (net : List Decl) (db : Instance) (whole lines : List ℕ) (vs : List Named) → lines ≡ whole → vs ≡ violations net → IsLeft net db whole lines vs
all_left net db whole lines vs first is = record {
  same = (λ i. first_denied db (zip (first i) (is i))) ∙ denied_first db whole (labelled_sentences net);
  members = λ v at. subst (λ l. In v l) is at;
}

pub left_member : (net : List Decl) (db : Instance) (whole lines : List ℕ) (vs rest : List Named) (v : Named) → vs ≡ v ∷ rest → IsLeft net db whole lines vs → In v (violations net)
left_member net db whole lines vs rest v is left = left.members v (subst (λ l. In v l) (sym is) (inl refl))

-- one that doesn't hold is passed
pub left_passed : (net : List Decl) (db : Instance) (whole lines behind : List ℕ) (vs rest : List Named) (line : ℕ) (v : Named) → lines ≡ line ∷ behind → vs ≡ v ∷ rest
    → holds v.item db [] ≡ false → IsLeft net db whole lines vs → IsLeft net db whole behind rest
left_passed net db whole lines behind vs rest line v first is not_so left = record {
  same = sym (ap (λ b. if b then Some line else first_denied db (zip behind rest)) not_so) ∙ sym (λ i. first_denied db (zip (first i) (is i))) ∙ left.same;
  members = λ u at. left.members u (subst (λ l. In u l) (sym is) (inr at));
}

-- one that holds is the first
pub left_found : (net : List Decl) (db : Instance) (whole lines behind : List ℕ) (vs rest : List Named) (line : ℕ) (v : Named) → lines ≡ line ∷ behind → vs ≡ v ∷ rest
    → holds v.item db [] ≡ true → IsLeft net db whole lines vs → Some line ≡ first_broken db (zip whole (sentences net))
left_found net db whole lines behind vs rest line v first is there left =
    sym (ap (λ b. if b then Some line else first_denied db (zip behind rest)) there) ∙ sym (λ i. first_denied db (zip (first i) (is i))) ∙ left.same

-- at the end there is none
pub left_none : (net : List Decl) (db : Instance) (whole lines : List ℕ) (vs : List Named) → (length lines ≡ 0) ⊎ (length vs ≡ 0) → IsLeft net db whole lines vs
    → None ≡ first_broken db (zip whole (sentences net))
left_none net db whole [] vs ended left = left.same
left_none net db whole (line ∷ lines) [] ended left = left.same
left_none net db whole (line ∷ lines) (v ∷ vs) (inl none) left = absurd cc
left_none net db whole (line ∷ lines) (v ∷ vs) (inr none) left = absurd cc
