-- The first fault of a declaration, test by test. Each test comes with what was returned for it.
use Rattle.std.proofs.Common.{◌≡◌, Bool, true, false, List, refl, sym, ap, subst, ◌∙◌, Option, Some, None}
use Rattle.std.specs.Prelude.{Result, Ok, Err}
use Rattle.dbn_net.specs.declared.fault.NetKind.{NetKind}
use Rattle.dbn_net.specs.declared.fault.NetKind.TheVariants as kind
use Rattle.dbn_net.specs.declared.decl.Decl.{Decl}
use Rattle.dbn_net.specs.declared.decl.Entry.{Entry}
use Rattle.dbn_net.specs.Judging.{Begun, unless, within_limits, no_duplicate, has_arity, is_typed, is_bound, is_safe, is_counted, judged_entry, judged_resolved, judged}
use Rattle.dbn_reader.specs.Judged.{or_fault}

stops : {A E : Type 0} (b t : Bool) (kind : E) (rest : Result A E) → b ≡ t → b ≡ false → unless t kind rest ≡ Err kind
stops b t kind rest same e = ap (λ c. unless c kind rest) (sym same ∙ e)

goes : {A E : Type 0} (b t : Bool) (kind : E) (rest : Result A E) → b ≡ t → b ≡ true → unless t kind rest ≡ rest
goes b t kind rest same e = ap (λ c. unless c kind rest) (sym same ∙ e)

module _ (net : List Decl) (e : Entry) where
  counted : Result Entry NetKind
  counted = unless (is_counted e) kind.Count (Ok e)

  safe : Result Entry NetKind
  safe = unless (is_safe e) kind.Unsafe counted

  bound : Result Entry NetKind
  bound = unless (is_bound net e) kind.Unbound safe

  typed : Result Entry NetKind
  typed = unless (is_typed net e) kind.TypeClash bound

  whole : judged_entry net e ≡ unless (has_arity net e) kind.Arity typed
  unfolding typed bound safe counted
  whole = refl

  pub arity_stops : (a : Bool) → a ≡ has_arity net e → a ≡ false → judged_entry net e ≡ or_fault e (Some kind.Arity)
  arity_stops a p x = whole ∙ stops a (has_arity net e) kind.Arity typed p x

  arity_goes : (a : Bool) → a ≡ has_arity net e → a ≡ true → judged_entry net e ≡ typed
  arity_goes a p x = whole ∙ goes a (has_arity net e) kind.Arity typed p x

  pub type_stops : (a t : Bool) → a ≡ has_arity net e → a ≡ true → t ≡ is_typed net e → t ≡ false → judged_entry net e ≡ or_fault e (Some kind.TypeClash)
  unfolding typed
  type_stops a t p x q y = arity_goes a p x ∙ stops t (is_typed net e) kind.TypeClash bound q y

  type_goes : (a t : Bool) → a ≡ has_arity net e → a ≡ true → t ≡ is_typed net e → t ≡ true → judged_entry net e ≡ bound
  unfolding typed
  type_goes a t p x q y = arity_goes a p x ∙ goes t (is_typed net e) kind.TypeClash bound q y

  pub bound_stops : (a t b : Bool) → a ≡ has_arity net e → a ≡ true → t ≡ is_typed net e → t ≡ true → b ≡ is_bound net e → b ≡ false
      → judged_entry net e ≡ or_fault e (Some kind.Unbound)
  unfolding bound
  bound_stops a t b p x q y r z = type_goes a t p x q y ∙ stops b (is_bound net e) kind.Unbound safe r z

  bound_goes : (a t b : Bool) → a ≡ has_arity net e → a ≡ true → t ≡ is_typed net e → t ≡ true → b ≡ is_bound net e → b ≡ true → judged_entry net e ≡ safe
  unfolding bound
  bound_goes a t b p x q y r z = type_goes a t p x q y ∙ goes b (is_bound net e) kind.Unbound safe r z

  pub safe_stops : (a t b s : Bool) → a ≡ has_arity net e → a ≡ true → t ≡ is_typed net e → t ≡ true → b ≡ is_bound net e → b ≡ true → s ≡ is_safe e → s ≡ false
      → judged_entry net e ≡ or_fault e (Some kind.Unsafe)
  unfolding safe
  safe_stops a t b s p x q y r z o w = bound_goes a t b p x q y r z ∙ stops s (is_safe e) kind.Unsafe counted o w

  safe_goes : (a t b s : Bool) → a ≡ has_arity net e → a ≡ true → t ≡ is_typed net e → t ≡ true → b ≡ is_bound net e → b ≡ true → s ≡ is_safe e → s ≡ true
      → judged_entry net e ≡ counted
  unfolding safe
  safe_goes a t b s p x q y r z o w = bound_goes a t b p x q y r z ∙ goes s (is_safe e) kind.Unsafe counted o w

  pub count_stops : (a t b s c : Bool) → a ≡ has_arity net e → a ≡ true → t ≡ is_typed net e → t ≡ true → b ≡ is_bound net e → b ≡ true → s ≡ is_safe e → s ≡ true
      → c ≡ is_counted e → c ≡ false → judged_entry net e ≡ or_fault e (Some kind.Count)
  unfolding counted
  count_stops a t b s c p x q y r z o w m n = safe_goes a t b s p x q y r z o w ∙ stops c (is_counted e) kind.Count (Ok e) m n

  pub all_passed : (a t b s c : Bool) → a ≡ has_arity net e → a ≡ true → t ≡ is_typed net e → t ≡ true → b ≡ is_bound net e → b ≡ true → s ≡ is_safe e → s ≡ true
      → c ≡ is_counted e → c ≡ true → judged_entry net e ≡ or_fault e None
  unfolding counted
  all_passed a t b s c p x q y r z o w m n = safe_goes a t b s p x q y r z o w ∙ goes c (is_counted e) kind.Count (Ok e) m n
