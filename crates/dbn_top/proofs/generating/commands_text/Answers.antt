use Rattle.std.proofs.Common.{◌≡◌, ℕ, ◌+◌, List, string_bytes, sym, subst, ◌∙◌, arith}
use Rattle.dbn_top.proofs.Generators.{SoFar, so_far_more, so_far_all}
use Rattle.dbn_top.proofs.generating.commands_text.Goals as goal

pub loop-n-preserved : goal.loop-n-preserved
loop-n-preserved c =
    subst (λ (l : List ℕ). SoFar c.args.size (c.loop-n._n + 1) l c.next_line.new.self) (sym c.in_ok-push_str.ensures.bytes)
    (so_far_more c.args.size c.loop-n._n (string_bytes c.loop-n.text) c.as_str.result.now c.loop-n.generator c.next_line.new.self c.loop-n-test.true c.loop-n.invariant (c.as_str.ensures.value ∙ c.in_ok-line.ensures.line) c.next_line.ensures.on)

pub returns : goal.returns
returns c =
    let e : c.loop-n._n ≡ c.args.size = omega arith in
    so_far_all c.args.size (string_bytes c.loop-n.text) c.loop-n.generator (subst (λ (n : ℕ). SoFar c.args.size n (string_bytes c.loop-n.text) c.loop-n.generator) e c.loop-n.invariant)
