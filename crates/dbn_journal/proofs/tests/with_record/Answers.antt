use Rattle.std.proofs.Common.{List, ℕ, [], ◌∷◌, ◌++◌, sym, ap, subst, ◌∙◌}
use Rattle.dbn_disk.specs.MemState.{fresh}
use Rattle.dbn_journal.specs.Records.{IsShutAt}
use Rattle.dbn_journal.specs.declared.tests.TheConstants.{FRONT}
use Rattle.dbn_journal.proofs.Settled.{fresh_only, shut_behind}
use Rattle.dbn_journal.proofs.tests.with_record.Goals as goal

pub append-end-requires-clause-shut : goal.append-end-requires-clause-shut
append-end-requires-clause-shut c b told honest x image =
    let bytes : List ℕ = FRONT.now ++ 0 ∷ [] in
    let is = c.in_ok-disk.ensures ∙ ap (λ (l : List ℕ). fresh l []) (c.as_slice.ensures.value ∙ c.in_ok-bytes.ensures.bytes) in
    subst (IsShutAt 82) (sym (fresh_only c.in_ok-disk.disk bytes is x image)) (shut_behind FRONT.now)
