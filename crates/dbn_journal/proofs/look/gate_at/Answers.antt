use Rattle.std.proofs.Common.{◌≡◌, ◌+◌, ℕ, length, take, drop, IfOk, ap, subst, sym, ◌∙◌, arith}
use Rattle.std.proofs.lemmas.List.{drop-drop}
use Rattle.std.proofs.lemmas.Result.{IfOk-weaker}
use Rattle.dbn_journal.specs.Records.{Found, gate_in, body_in}
use Rattle.dbn_journal.specs.Heads.{head_in, found_by, gate_of}
use Rattle.dbn_journal.specs.declared.head.Head.{Head}
use Rattle.dbn_journal.specs.declared.head.Head.TheVariants.{Held}
use Rattle.dbn_journal.proofs.Finds.{found_is}
use Rattle.dbn_journal.proofs.Walks.{by_gate}
use Rattle.dbn_journal.proofs.look.gate_at.Goals as goal

pub returns-in-Held-clause-gate : goal.returns-in-Held-clause-gate
returns-in-Held-clause-gate g c b told =
    let bytes = c.in_ok-count.ensures.bytes b told in
    let five : length c.read.new.into ≡ 5 = omega arith in
    let head : head_in (take 5 (drop c.args.place b)) ≡ Held c.in-Held.size =
    ap (λ (n : ℕ). head_in (take n (drop c.args.place b))) (sym five) ∙ ap head_in (sym bytes) ∙ sym c.head_of.ensures ∙ c.in-Held.is in
    let e : gate_in (drop c.args.place b) ≡ body_in c.in-Held.size (drop (c.args.place + 5) b) =
    found_is (drop c.args.place b) ∙ ap (λ (h : Head). found_by h (drop 5 (drop c.args.place b))) head ∙ ap (body_in c.in-Held.size) (drop-drop 5 c.args.place b) in
    subst (λ (f : Found). IfOk c.read_body.result (λ gate. gate ≡ gate_of c.args.place f)) (sym e) (c.read_body.ensures.gate b (c.read.ensures.same ∙ told))

pub returns-in-Held-clause-walk : goal.returns-in-Held-clause-walk
returns-in-Held-clause-walk g c b told = IfOk-weaker c.read_body.result _ _ (λ gate is. by_gate c.args.place b gate is) (returns-in-Held-clause-gate g c b told)
