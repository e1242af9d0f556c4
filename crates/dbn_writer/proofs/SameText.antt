-- The same text is that of the same state.
use Rattle.std.proofs.Common.{◌≡◌, ◌↔◌, List, sym, ap, ◌∙◌}
use Rattle.std.specs.Prelude.{Result, Ok}
use Rattle.dbn_sexp.specs.Printing.{HasAtoms}
use Rattle.dbn_net.specs.declared.decl.Decl.{Decl}
use Rattle.dbn_net.specs.declared.snapshot.Snapshot.{Snapshot}
use Rattle.dbn_net.specs.WellFormed.{WellFormed}
use Rattle.dbn_net.specs.Good.{Good}
use Rattle.dbn_net.specs.Texts.{Start, Fault, reads, canonical_list, canonical}
use Rattle.dbn_net.proofs.RoundGood.{canonical_again}

abbrev okay : Start → Result Start Fault
okay x = Ok x

start_is : (x y : Start) → okay x ≡ okay y → x ≡ y
start_is x y e = cc

same_start : (net : List Decl) (s t : Snapshot) → WellFormed net → Good net s → Good net t
    → HasAtoms (canonical_list net s.instance s.marking) → HasAtoms (canonical_list net t.instance t.marking)
    → canonical net s.instance s.marking ≡ canonical net t.instance t.marking → (s.instance ≡ t.instance) × (s.marking ≡ t.marking)
unfolding canonical
same_start net s t ok good_s good_t form_s form_t same =
    let a = canonical_again net s form_s ok good_s in
    let b = canonical_again net t form_t ok good_t in
    let x : Start = record { decls = net; facts = s.instance; tokens = s.marking; next = a.start } in
    let y : Start = record { decls = net; facts = t.instance; tokens = t.marking; next = b.start } in
    let e : x ≡ y = start_is x y (sym a.is ∙ ap reads same ∙ b.is) in
    (ap (λ (r : Start). r.facts) e, ap (λ (r : Start). r.tokens) e)

pub same_text : (net : List Decl) (s t : Snapshot) → WellFormed net → Good net s → Good net t
    → HasAtoms (canonical_list net s.instance s.marking) → HasAtoms (canonical_list net t.instance t.marking)
    → (canonical net s.instance s.marking ≡ canonical net t.instance t.marking) ↔ ((s.instance ≡ t.instance) × (s.marking ≡ t.marking))
same_text net s t ok good_s good_t form_s form_t = (
  (λ same. same_start net s t ok good_s good_t form_s form_t same),
  (λ both. (λ i. canonical net (both.0 i) (both.1 i))),
)
