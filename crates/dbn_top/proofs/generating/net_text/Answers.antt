use Rattle.std.proofs.Common.{List, ℕ, ◌++◌, string_bytes, ap, ◌∙◌}
use Rattle.dbn_top.specs.Demos.{for_each}
use Rattle.dbn_top.proofs.Generators.{net_of}
use Rattle.dbn_top.proofs.generating.net_text.Goals as goal

pub returns : goal.returns
returns c =
    net_of c.args.size (string_bytes c.new-text.result) (string_bytes c.push_str.new.self) (string_bytes c.add_for_each.new.text) (string_bytes c.push_str-2.new.self) (string_bytes c.add_for_each-2.new.text) c.new-text.ensures.bytes
    (c.in_ok-push_str.ensures.bytes ∙ ap (λ (l : List ℕ). string_bytes c.new-text.result ++ l) c.tickets.ensures)
    c.in_ok-add_for_each.ensures
    (c.in_ok-push_str-2.ensures.bytes ∙ ap (λ (l : List ℕ). string_bytes c.add_for_each.new.text ++ l) (c.as_str.ensures.value ∙ c.in_ok-jobs.ensures))
    (c.in_ok-add_for_each-2.ensures ∙ ap (λ (l : List ℕ). string_bytes c.push_str-2.new.self ++ for_each l 10) (c.as_str-2.ensures.value ∙ c.in_ok-front.ensures))
