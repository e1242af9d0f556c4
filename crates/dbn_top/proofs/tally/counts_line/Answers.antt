use Rattle.std.proofs.Common.{List, ℕ, string_bytes, ap, ◌∙◌}
use Rattle.dbn_top.specs.Demos.{many}
use Rattle.dbn_top.proofs.Tallies.{counts_of}
use Rattle.dbn_top.proofs.tally.counts_line.Goals as goal

pub returns : goal.returns
returns c =
    counts_of c.args.size c.many-committed.result c.many-rolled_back.result c.many-disabled.result c.args.facts c.args.replies.now
    (string_bytes c.in_ok-line.line) (string_bytes c.add_count.new.line) (string_bytes c.add_count-2.new.line) (string_bytes c.add_count-3.new.line) (string_bytes c.add_count-4.new.line) (string_bytes c.push_str.new.self)
    c.in_ok-line.ensures c.in_ok-add_count.ensures c.in_ok-add_count-2.ensures c.in_ok-add_count-3.ensures c.in_ok-add_count-4.ensures c.in_ok-push_str.ensures.bytes
    (c.many-committed.ensures ∙ ap (λ (front : List ℕ). many front c.args.replies.now) c.as_slice.ensures)
    (c.many-rolled_back.ensures ∙ ap (λ (front : List ℕ). many front c.args.replies.now) c.as_slice-2.ensures)
    (c.many-disabled.ensures ∙ ap (λ (front : List ℕ). many front c.args.replies.now) c.as_slice-3.ensures)
