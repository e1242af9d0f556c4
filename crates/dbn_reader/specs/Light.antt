-- Nets and markings with few tokens.
use Rattle.std.specs.Prelude.{ℕ, ◌+◌, ◌≤◌, ◌^◌, List}
use Rattle.std.specs.List.{sum_by}
use Rattle.dbn_value.specs.Members.{In}
use Rattle.dbn_value.specs.declared.value.Value.{Value}
use Rattle.dbn_net.specs.declared.rules.Arc.{Arc}
use Rattle.dbn_net.specs.declared.rules.Transition.{Transition}
use Rattle.dbn_net.specs.declared.decl.Decl.{Decl}
use Rattle.dbn_net.specs.declared.decl.Decl.TheVariants.{Trans}
use Rattle.dbn_net.specs.Values.{Marking}

-- how many tokens all patterns of the clauses name together
abbrev pub tokens_named : List Arc → ℕ
tokens_named arcs = sum_by (λ arc. sum_by (λ p. p.many) arc.patterns) arcs

-- the same of all clauses of a transition
abbrev pub tokens_moved : Transition → ℕ
tokens_moved t = tokens_named t.ins + tokens_named t.outs + tokens_named t.backs

-- how many tokens lie in the place, and in all places
abbrev pub tokens_in : List (List Value × ℕ) → ℕ
tokens_in held = sum_by (λ counted. counted.1) held

abbrev pub tokens_held : Marking → ℕ
tokens_held marking = sum_by tokens_in marking

-- each transition names 2^62 tokens at most, and so many lie at most in all places together
pub record IsLight (net : List Decl) (marking : Marking) : Type 0 where
  pub moved : (t : Transition) → In (Trans t) net → tokens_moved t ≤ 2 ^ 62
  pub held : tokens_held marking ≤ 2 ^ 62
