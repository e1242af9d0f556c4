-- The canonical list nests no deeper than 64.
use Rattle.std.proofs.Common.{◌≡◌, ℕ, ◌+◌, ◌≤◌, pos, List, [], ◌∷◌, ◌++◌, map, refl, sym, ap, subst, ◌∙◌, arith}
use Rattle.std.specs.Prelude.{max}
use Rattle.std.proofs.lemmas.List.{map-append}
use Rattle.dbn_value.specs.declared.value.Value.{Value}
use Rattle.dbn_value.specs.declared.value.Value.TheVariants as value
use Rattle.dbn_sexp.specs.declared.sexp.Sexp.{Sexp}
use Rattle.dbn_sexp.specs.declared.sexp.Item.TheVariants as item
use Rattle.dbn_sexp.specs.Printing.{nesting, largest, IsWithinDepth}
use Rattle.dbn_sexp.proofs.TreeLaws.{nesting_name, nesting_const, nesting_list}
use Rattle.dbn_formula.specs.Holds.{Instance}
use Rattle.dbn_net.specs.declared.decl.Decl.{Decl}
use Rattle.dbn_net.specs.declared.decl.Entry.TheVariants.{Fact, Tokens}
use Rattle.dbn_net.specs.Printing.{word, constant, sexp_of}
use Rattle.dbn_net.specs.Naming.{named_entry}
use Rattle.dbn_net.specs.WellFormed.{AllPass, WellFormed, written_from}
use Rattle.dbn_net.specs.Values.{Marking}
use Rattle.dbn_net.specs.Texts.{facts_from, tokens_from, printed, canonical_list}

abbrev flat : List Sexp → Type 0
flat parts = largest (map (λ one. nesting one.item) parts) ≡ 0

more : (one : Sexp) (parts : List Sexp) → nesting one.item ≡ 0 → flat parts → flat (one ∷ parts)
more one parts e f = ap (λ k. max k (largest (map (λ x. nesting x.item) parts))) e ∙ ap (max 0) f

row_flat : (row : List Value) → flat (map constant row)
row_flat [] = refl
row_flat (v ∷ row) = more (constant v) (map constant row) (nesting_const v) (row_flat row)

flat_within : (parts : List Sexp) → flat parts → nesting (item.List parts) ≤ 64
flat_within parts f = let here : nesting (item.List parts) ≡ largest (map (λ one. nesting one.item) parts) + 1 = nesting_list parts in omega (arith, here, f)

both : (d : ℕ) (xs ys : List Sexp) → IsWithinDepth d xs → IsWithinDepth d ys → IsWithinDepth d (xs ++ ys)
both d [] ys a b = b
both d (x ∷ xs) ys a b = (a.0, both d xs ys a.1 b)

declared_within : (before decls : List Decl) → AllPass before decls → IsWithinDepth 64 (map sexp_of (written_from before decls))
declared_within before [] all = tt
declared_within before (d ∷ decls) all = (all.0.nests, declared_within (before ++ d ∷ []) decls all.1)

rows_within : (decls : List Decl) (rel : ℕ) (rows : List (List Value)) → IsWithinDepth 64 (printed decls (map (Fact rel) rows))
rows_within decls rel [] = tt
rows_within decls rel (row ∷ rows) =
    (flat_within (word _ ∷ word _ ∷ map constant row) (more (word _) (word _ ∷ map constant row) (nesting_name _) (more (word _) (map constant row) (nesting_name _) (row_flat row))), rows_within decls rel rows)

facts_within : (decls : List Decl) (rel : ℕ) (facts : Instance) → IsWithinDepth 64 (printed decls (facts_from rel facts))
facts_within decls rel [] = tt
facts_within decls rel (rows ∷ facts) =
    subst (IsWithinDepth 64) (sym (map-append (λ e. sexp_of (named_entry decls e)) (map (Fact rel) rows) (facts_from (rel + 1) facts)))
    (both 64 (printed decls (map (Fact rel) rows)) (printed decls (facts_from (rel + 1) facts)) (rows_within decls rel rows) (facts_within decls (rel + 1) facts))

held_within : (decls : List Decl) (place : ℕ) (rows : List (List Value × ℕ)) → IsWithinDepth 64 (printed decls (map (λ r. Tokens place r.1 r.0) rows))
held_within decls place [] = tt
held_within decls place (c ∷ rows) = (
  flat_within (word _ ∷ word _ ∷ constant (value.Int (pos c.1)) ∷ map constant c.0)
      (more (word _) (word _ ∷ constant (value.Int (pos c.1)) ∷ map constant c.0) (nesting_name _)
      (more (word _) (constant (value.Int (pos c.1)) ∷ map constant c.0) (nesting_name _)
      (more (constant (value.Int (pos c.1))) (map constant c.0) (nesting_const _) (row_flat c.0)))),
  held_within decls place rows,
)

tokens_within : (decls : List Decl) (place : ℕ) (tokens : Marking) → IsWithinDepth 64 (printed decls (tokens_from place tokens))
tokens_within decls place [] = tt
tokens_within decls place (rows ∷ tokens) =
    subst (IsWithinDepth 64) (sym (map-append (λ e. sexp_of (named_entry decls e)) (map (λ r. Tokens place r.1 r.0) rows) (tokens_from (place + 1) tokens)))
    (both 64 (printed decls (map (λ r. Tokens place r.1 r.0) rows)) (printed decls (tokens_from (place + 1) tokens)) (held_within decls place rows) (tokens_within decls (place + 1) tokens))

pub canonical_within : (decls : List Decl) (facts : Instance) (tokens : Marking) → WellFormed decls → IsWithinDepth 64 (canonical_list decls facts tokens)
canonical_within decls facts tokens net =
    both 64 (map sexp_of (written_from [] decls)) (printed decls (facts_from 0 facts) ++ printed decls (tokens_from 0 tokens)) (declared_within [] decls net)
    (both 64 (printed decls (facts_from 0 facts)) (printed decls (tokens_from 0 tokens)) (facts_within decls 0 facts) (tokens_within decls 0 tokens))
