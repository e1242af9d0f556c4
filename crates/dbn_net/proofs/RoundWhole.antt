-- The canonical list of a net and a good snapshot is read as the net and its facts and tokens.
use Rattle.std.proofs.Common.{◌≡◌, ℕ, List, [], ◌∷◌, ◌++◌, map, refl, sym, ap, ◌∙◌, arith, length, append-nil, append_assoc}
use Rattle.std.specs.Prelude.{Ok}
use Rattle.dbn_formula.specs.Holds.{Instance}
use Rattle.dbn_net.specs.declared.decl.Decl.{Decl}
use Rattle.dbn_net.specs.declared.decl.Decl.TheVariants as decl
use Rattle.dbn_net.specs.Printing.{sexp_of}
use Rattle.dbn_net.specs.Tables.{relations, places}
use Rattle.dbn_net.specs.WellFormed.{WellFormed, written_from}
use Rattle.dbn_net.specs.Values.{Marking}
use Rattle.dbn_net.specs.Texts.{nothing, sentence_lines, read_each, facts_from, tokens_from, printed, canonical_list}
use Rattle.dbn_net.proofs.BackLaws.{behind, declarations_again}
use Rattle.dbn_net.proofs.RoundFacts.{at, AllFit, read_on, read_behind, blank, facts_again}
use Rattle.dbn_net.proofs.RoundTokens.{AllCounted, tokens_again}

-- ---- what stands behind the declarations

abbrev pub declared_lines : List Decl → List ℕ
declared_lines [] = []
declared_lines (d ∷ decls) = sentence_lines 0 d ++ declared_lines decls

blank_more : {A B : Type 0} (fs : List (List A)) (x : B) (xs : List B) → (fs ++ [] ∷ []) ++ blank xs ≡ fs ++ blank (x ∷ xs)
blank_more fs x xs = append_assoc fs ([] ∷ []) (blank xs)

pub behind_is : (before decls : List Decl) (lines : List ℕ) (facts : Instance) (tokens : Marking)
    → behind (at before lines facts tokens) decls ≡ at (before ++ decls) (lines ++ declared_lines decls) (facts ++ blank (relations decls)) (tokens ++ blank (places decls))
behind_is before [] lines facts tokens =
    (λ i. at (sym (append-nil before) i) (sym (append-nil lines) i) (sym (append-nil facts) i) (sym (append-nil tokens) i))
behind_is before (decl.Relation name fields ∷ decls) lines facts tokens =
    behind_is (before ++ decl.Relation name fields ∷ []) decls (lines ++ []) (facts ++ [] ∷ []) tokens
    ∙ (λ i. at (append_assoc before (decl.Relation name fields ∷ []) decls i) (append_assoc lines [] (declared_lines decls) i) (blank_more facts (record { name = name; fields = fields }) (relations decls) i) (tokens ++ blank (places decls)))
behind_is before (decl.Site p ∷ decls) lines facts tokens =
    behind_is (before ++ decl.Site p ∷ []) decls (lines ++ []) facts (tokens ++ [] ∷ [])
    ∙ (λ i. at (append_assoc before (decl.Site p ∷ []) decls i) (append_assoc lines [] (declared_lines decls) i) (facts ++ blank (relations decls)) (blank_more tokens p (places decls) i))
behind_is before (decl.Key rel fields ∷ decls) lines facts tokens =
    behind_is (before ++ decl.Key rel fields ∷ []) decls (lines ++ 0 ∷ []) facts tokens
    ∙ (λ i. at (append_assoc before (decl.Key rel fields ∷ []) decls i) (append_assoc lines (0 ∷ []) (declared_lines decls) i) (facts ++ blank (relations decls)) (tokens ++ blank (places decls)))
behind_is before (decl.Foreign rel fields to to_fields ∷ decls) lines facts tokens =
    behind_is (before ++ decl.Foreign rel fields to to_fields ∷ []) decls (lines ++ 0 ∷ []) facts tokens
    ∙ (λ i. at (append_assoc before (decl.Foreign rel fields to to_fields ∷ []) decls i) (append_assoc lines (0 ∷ []) (declared_lines decls) i) (facts ++ blank (relations decls)) (tokens ++ blank (places decls)))
behind_is before (decl.Always name body ∷ decls) lines facts tokens =
    behind_is (before ++ decl.Always name body ∷ []) decls (lines ++ 0 ∷ []) facts tokens
    ∙ (λ i. at (append_assoc before (decl.Always name body ∷ []) decls i) (append_assoc lines (0 ∷ []) (declared_lines decls) i) (facts ++ blank (relations decls)) (tokens ++ blank (places decls)))
behind_is before (decl.Query name vars body ∷ decls) lines facts tokens =
    behind_is (before ++ decl.Query name vars body ∷ []) decls (lines ++ []) facts tokens
    ∙ (λ i. at (append_assoc before (decl.Query name vars body ∷ []) decls i) (append_assoc lines [] (declared_lines decls) i) (facts ++ blank (relations decls)) (tokens ++ blank (places decls)))
behind_is before (decl.Act a ∷ decls) lines facts tokens =
    behind_is (before ++ decl.Act a ∷ []) decls (lines ++ []) facts tokens
    ∙ (λ i. at (append_assoc before (decl.Act a ∷ []) decls i) (append_assoc lines [] (declared_lines decls) i) (facts ++ blank (relations decls)) (tokens ++ blank (places decls)))
behind_is before (decl.Trans t ∷ decls) lines facts tokens =
    behind_is (before ++ decl.Trans t ∷ []) decls (lines ++ []) facts tokens
    ∙ (λ i. at (append_assoc before (decl.Trans t ∷ []) decls i) (append_assoc lines [] (declared_lines decls) i) (facts ++ blank (relations decls)) (tokens ++ blank (places decls)))

-- ---- as many

blank_same : {A B C : Type 0} (xs : List B) (ys : List C) → length xs ≡ length ys → blank {A = A} xs ≡ blank ys
blank_same [] [] e = refl
blank_same [] (y ∷ ys) e = absurd (omega (arith, e))
blank_same (x ∷ xs) [] e = absurd (omega (arith, e))
blank_same (x ∷ xs) (y ∷ ys) e = ap (λ l. [] ∷ l) (blank_same xs ys (omega (arith, e)))

pub record Rebuilds (decls : List Decl) (facts : Instance) (tokens : Marking) : Type 0 where
  pub net : WellFormed decls
  pub relations_are : length (relations decls) ≡ length facts
  pub places_are : length (places decls) ≡ length tokens
  pub facts_fit : AllFit decls 0 facts
  pub tokens_fit : AllCounted decls 0 tokens

pub whole_again : (decls : List Decl) (facts : Instance) (tokens : Marking) → Rebuilds decls facts tokens
    → read_each nothing (canonical_list decls facts tokens) ≡ Ok (at decls (declared_lines decls) facts tokens)
whole_again decls facts tokens r =
    read_behind nothing (map sexp_of (written_from [] decls)) (printed decls (facts_from 0 facts) ++ printed decls (tokens_from 0 tokens))
    ∙ ap (read_on (printed decls (facts_from 0 facts) ++ printed decls (tokens_from 0 tokens))) (declarations_again nothing decls r.net)
    ∙ ap (λ s. read_each s (printed decls (facts_from 0 facts) ++ printed decls (tokens_from 0 tokens))) (behind_is [] decls [] [] [])
    ∙ ap (λ fs. read_each (at decls (declared_lines decls) fs (blank (places decls))) (printed decls (facts_from 0 facts) ++ printed decls (tokens_from 0 tokens))) (blank_same (relations decls) facts r.relations_are)
    ∙ read_behind (at decls (declared_lines decls) (blank facts) (blank (places decls))) (printed decls (facts_from 0 facts)) (printed decls (tokens_from 0 tokens))
    ∙ ap (read_on (printed decls (tokens_from 0 tokens))) (facts_again decls (declared_lines decls) (blank (places decls)) [] facts r.facts_fit)
    ∙ ap (λ ts. read_each (at decls (declared_lines decls) facts ts) (printed decls (tokens_from 0 tokens))) (blank_same (places decls) tokens r.places_are)
    ∙ tokens_again decls (declared_lines decls) facts [] tokens r.tokens_fit
