-- What a declaration that was judged has passed.
use Rattle.std.proofs.Common.{◌≡◌, ℕ, Bool, true, false, List, refl, ap, subst, Option, Some, None}
use Rattle.std.specs.Prelude.{Result, Ok}
use Rattle.std.specs.Option.{option_map}
use Rattle.dbn_net.specs.declared.fault.NetKind.{NetKind}
use Rattle.dbn_net.specs.declared.fault.NetKind.TheVariants as kind
use Rattle.dbn_net.specs.declared.written.Written.{Written}
use Rattle.dbn_net.specs.declared.written.Written.TheVariants as written
use Rattle.dbn_net.specs.declared.decl.Decl.{Decl}
use Rattle.dbn_net.specs.declared.decl.Entry.{Entry}
use Rattle.dbn_net.specs.declared.decl.Entry.TheVariants.{Part, Fact, Tokens}
use Rattle.dbn_net.specs.Tables.{relation_names}
use Rattle.dbn_net.specs.Naming.{number_of, control_number, count, resolved}
use Rattle.dbn_net.specs.Judging.{Begun, unless, within_limits, no_duplicate, has_arity, is_typed, is_bound, is_safe, is_counted, judged_entry, judged_resolved, judged}
use Rattle.dbn_net.proofs.Maybes.{some_is}

pub unless_passed : {A E : Type 0} (b : Bool) (k : E) (r : Result A E) (a : A) → unless b k r ≡ Ok a → (b ≡ true) × (r ≡ Ok a)
unless_passed true k r a e = (refl, e)
unless_passed false k r a e = absurd cc

-- the five tests of a declaration with numbers
pub record Passed (net : List Decl) (e : Entry) : Type 0 where
  pub arity : has_arity net e ≡ true
  pub typed : is_typed net e ≡ true
  pub bound : is_bound net e ≡ true
  pub safe : is_safe e ≡ true
  pub counted : is_counted e ≡ true

okay : Entry → Result Entry NetKind
okay x = Ok x

entry_passed : (net : List Decl) (x e : Entry) → judged_entry net x ≡ Ok e → Passed net x × (okay x ≡ okay e)
unfolding okay
entry_passed net x e is =
    let a = unless_passed (has_arity net x) kind.Arity _ e is in
    let b = unless_passed (is_typed net x) kind.TypeClash _ e a.1 in
    let c = unless_passed (is_bound net x) kind.Unbound _ e b.1 in
    let d = unless_passed (is_safe x) kind.Unsafe _ e c.1 in
    let f = unless_passed (is_counted x) kind.Count (okay x) e d.1 in
    (record { arity = a.0; typed = b.0; bound = c.0; safe = d.0; counted = f.0 }, f.1)

okay_is : (x y : Entry) → okay x ≡ okay y → x ≡ y
unfolding okay
okay_is x y e = cc

resolved_is : (net : List Decl) (o : Option Entry) (e : Entry) → judged_resolved net o ≡ Ok e → (o ≡ Some e) × Passed net e
resolved_is net None e is = absurd cc
resolved_is net (Some x) e is =
    let passed = entry_passed net x e is in
    let same : x ≡ e = okay_is x e passed.1 in
    (ap (λ y. Some y) same, subst (Passed net) same passed.0)

-- all that a judged declaration has passed
pub record Judged (net : List Decl) (begun : Begun) (w : Written) (e : Entry) : Type 0 where
  pub limits : within_limits net w ≡ true
  pub once : no_duplicate net begun w ≡ true
  pub is : resolved net w ≡ Some e
  pub passed : Passed net e

pub judged_is : (net : List Decl) (begun : Begun) (w : Written) (e : Entry) → judged net begun w ≡ Ok e → Judged net begun w e
judged_is net begun w e is =
    let a = unless_passed (within_limits net w) kind.Limit _ e is in
    let b = unless_passed (no_duplicate net begun w) kind.Duplicate _ e a.1 in
    let r = resolved_is net (resolved net w) e b.1 in
    record { limits = a.0; once = b.0; is = r.0; passed = r.1 }

no_fact : (d : Decl) (f : ℕ → Entry) (o : Option ℕ) → ((n : ℕ) → f n ≡ Part d → ⊥) → option_map f o ≡ Some (Part d) → ⊥
no_fact d f None never e = absurd cc
no_fact d f (Some n) never e = never n (some_is (f n) (Part d) e)

-- the tests of a part of the net do not look at facts and tokens
pub same_tests : (net : List Decl) (begun other : Begun) (w : Written) (d : Decl) → judged net begun w ≡ Ok (Part d) → judged net other w ≡ Ok (Part d)
same_tests net begun other (written.Relation a b) d e = e
same_tests net begun other (written.Key a b) d e = e
same_tests net begun other (written.Foreign a b c x) d e = e
same_tests net begun other (written.Always a b) d e = e
same_tests net begun other (written.Query a b c) d e = e
same_tests net begun other (written.Action a b c x) d e = e
same_tests net begun other (written.Control a b) d e = e
same_tests net begun other (written.View a b) d e = e
same_tests net begun other (written.Transition r) d e = e
same_tests net begun other (written.Fact rel row) d e =
    absurd (no_fact d (λ n. Fact n row) (number_of (relation_names net) rel) (λ n s. absurd cc) (judged_is net begun (written.Fact rel row) (Part d) e).is)
same_tests net begun other (written.Token place many row) d e =
    absurd (no_fact d (λ n. Tokens n (count many) row) (control_number net place) (λ n s. absurd cc) (judged_is net begun (written.Token place many row) (Part d) e).is)
