-- A small net, whose declarations may follow one another.
use Rattle.std.proofs.Common.{◌≡◌, ◌≤◌, List, [], ◌∷◌, refl, sym, subst, arith, codes}
use Rattle.dbn_value.specs.declared.value.ColType.TheVariants as col
use Rattle.dbn_sexp.specs.Printing.{nesting}
use Rattle.dbn_sexp.proofs.TreeLaws.{atoms_laws, nesting_name, nesting_list}
use Rattle.dbn_sexp.proofs.PartLaws.{part_laws}
use Rattle.dbn_net.specs.declared.decl.Place.TheVariants.{Control}
use Rattle.dbn_net.specs.declared.decl.Decl.{Decl}
use Rattle.dbn_net.specs.declared.decl.Decl.TheVariants.{Relation, Site}
use Rattle.dbn_net.specs.Printing.{sexp_of}
use Rattle.dbn_net.specs.Naming.{named}
use Rattle.dbn_net.specs.WellFormed.{Passes}
use Rattle.dbn_net.proofs.AtomLaws.{short_laws}
use Rattle.dbn_net.proofs.WrittenFormulaLaws.{declaration_is}

abbrev pub relation_r : Decl
relation_r = Relation (codes "R") ((codes "x", col.Int) ∷ [])

abbrev pub place_p : Decl
place_p = Site (Control (codes "P") (col.Int ∷ []))

relation_nests : nesting (sexp_of (named [] relation_r)).item ≡ 2
relation_nests = simp (nesting_list, nesting_name) refl

place_nests : nesting (sexp_of (named (relation_r ∷ []) place_p)).item ≡ 1
place_nests = simp (nesting_list, nesting_name) refl

pub relation_passes : Passes [] relation_r
relation_passes = record {
  shape = simp (declaration_is, part_laws) refl;
  tests = λ begun. simp (atoms_laws, short_laws) refl;
  nests = subst (λ n. n ≤ 64) (sym relation_nests) (omega arith);
}

pub place_passes : Passes (relation_r ∷ []) place_p
place_passes = record {
  shape = simp (declaration_is, part_laws) refl;
  tests = λ begun. simp (atoms_laws, short_laws) refl;
  nests = subst (λ n. n ≤ 64) (sym place_nests) (omega arith);
}
