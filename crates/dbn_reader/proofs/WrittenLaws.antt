-- The first fault of a declaration as it is written, and what is left to test.
use Rattle.std.proofs.Common.{◌≡◌, Bool, true, false, List, refl, sym, ap, subst, ◌∙◌, Option, Some, None}
use Rattle.std.specs.Prelude.{Result, Ok, Err}
use Rattle.dbn_net.specs.declared.fault.NetKind.{NetKind}
use Rattle.dbn_net.specs.declared.fault.NetKind.TheVariants as kind
use Rattle.dbn_net.specs.declared.written.Written.{Written}
use Rattle.dbn_net.specs.declared.decl.Decl.{Decl}
use Rattle.dbn_net.specs.declared.decl.Entry.{Entry}
use Rattle.dbn_net.specs.Naming.{resolved}
use Rattle.dbn_net.specs.Judging.{Begun, unless, within_limits, no_duplicate, judged_entry, judged_resolved, judged}
use Rattle.dbn_reader.specs.declared.judging.Refused.{Refused}
use Rattle.dbn_reader.specs.Judged.{Judges}

stops : {A E : Type 0} (b t : Bool) (kind : E) (rest : Result A E) → b ≡ t → b ≡ false → unless t kind rest ≡ Err kind
stops b t kind rest same e = ap (λ c. unless c kind rest) (sym same ∙ e)

goes : {A E : Type 0} (b t : Bool) (kind : E) (rest : Result A E) → b ≡ t → b ≡ true → unless t kind rest ≡ rest
goes b t kind rest same e = ap (λ c. unless c kind rest) (sym same ∙ e)

module _ (net : List Decl) (begun : Begun) (w : Written) where
  new : Result Entry NetKind
  new = unless (no_duplicate net begun w) kind.Duplicate (judged_resolved net (resolved net w))

  all_tests : judged net begun w ≡ unless (within_limits net w) kind.Limit new
  unfolding new
  all_tests = refl

  pub limit_stops : (l : Bool) → l ≡ within_limits net w → l ≡ false → judged net begun w ≡ Err kind.Limit
  limit_stops l p x = all_tests ∙ stops l (within_limits net w) kind.Limit new p x

  pub duplicate_stops : (l d : Bool) → l ≡ within_limits net w → l ≡ true → d ≡ no_duplicate net begun w → d ≡ false → judged net begun w ≡ Err kind.Duplicate
  unfolding new
  duplicate_stops l d p x q y =
      all_tests ∙ goes l (within_limits net w) kind.Limit new p x
      ∙ stops d (no_duplicate net begun w) kind.Duplicate (judged_resolved net (resolved net w)) q y

  pub written_passes : (l d : Bool) → l ≡ within_limits net w → l ≡ true → d ≡ no_duplicate net begun w → d ≡ true → judged net begun w ≡ judged_resolved net (resolved net w)
  unfolding new
  written_passes l d p x q y =
      all_tests ∙ goes l (within_limits net w) kind.Limit new p x
      ∙ goes d (no_duplicate net begun w) kind.Duplicate (judged_resolved net (resolved net w)) q y

-- what is left is judged as the whole
pub left_judged : (result : Result Entry Refused) (left judged : Result Entry NetKind) → judged ≡ left → Judges result left → Judges result judged
left_judged result left judged e told = subst (Judges result) (sym e) told

-- what was found for the names
pub found_none : (net : List Decl) (o : Option Entry) → None ≡ o → judged_resolved net o ≡ Err kind.Unknown
found_none net o e = sym (ap (judged_resolved net) e)

pub found_some : (net : List Decl) (o : Option Entry) (entry : Entry) (result : Result Entry Refused) → Some entry ≡ o → Judges result (judged_entry net entry)
    → Judges result (judged_resolved net o)
found_some net o entry result e told = subst (λ (p : Option Entry). Judges result (judged_resolved net p)) e told
