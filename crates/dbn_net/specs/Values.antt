-- The values that are written in a net, and the values of a state.
use Rattle.std.specs.Prelude.{ℕ, ◌+◌, max, Bool, true, nat_lt, List, [], ◌∷◌, ◌++◌}
use Rattle.std.specs.List.{flat_map, list_all}
use Rattle.std.specs.Option.{option_map_or}
use Rattle.dbn_value.specs.declared.value.Value.{Value}
use Rattle.dbn_value.specs.declared.value.Value.TheVariants.{Int, Text, Id}
use Rattle.dbn_value.specs.declared.term.Term.{Term}
use Rattle.dbn_formula.specs.Holds.{Instance}
use Rattle.dbn_formula.specs.Answers.{constant_of, constants, values_in}
use Rattle.dbn_instance.specs.declared.fact.FactPattern.{FactPattern}
use Rattle.dbn_net.specs.declared.rules.Arc.{Arc}
use Rattle.dbn_net.specs.declared.rules.Transition.{Transition}
use Rattle.dbn_net.specs.declared.decl.Decl.{Decl}
use Rattle.dbn_net.specs.declared.decl.Decl.TheVariants.{Always, Query, Act, Trans}

-- the counted rows of each place
abbrev pub Marking : Type 0
Marking = List (List (List Value × ℕ))

-- ---- values that are written

abbrev pub constants_of : List Term → List Value
constants_of terms = flat_map constant_of terms

abbrev pub arc_constants : List Arc → List Value
arc_constants arcs = flat_map (λ arc. flat_map (λ p. constants_of p.terms) arc.patterns) arcs

abbrev pub fact_constants : List FactPattern → List Value
fact_constants patterns = flat_map (λ p. constants_of p.terms) patterns

abbrev pub transition_constants : Transition → List Value
transition_constants t =
    arc_constants t.ins
    ++ flat_map (λ r. constants_of r.terms) t.reads
    ++ option_map_or constants t.guard []
    ++ option_map_or (λ c. constants_of c.args) t.call []
    ++ arc_constants t.outs
    ++ arc_constants t.backs

abbrev pub decl_constants : Decl → List Value
decl_constants (Always name body) = constants body
decl_constants (Query name vars body) = constants body
decl_constants (Act a) = fact_constants a.deletes ++ fact_constants a.adds
decl_constants (Trans t) = transition_constants t
decl_constants d = []

-- the values that are written in the declarations
abbrev pub rule_values : List Decl → List Value
rule_values net = flat_map decl_constants net

-- ---- values of a state

abbrev pub token_values : Marking → List Value
token_values marking = flat_map (λ held. flat_map (λ counted. counted.0) held) marking

-- the values of a state and of the declarations
abbrev pub all_values : List Decl → Instance → Marking → List Value
all_values net db marking = values_in db ++ token_values marking ++ rule_values net

-- ---- ids

-- an id is below the number; other values always are
abbrev pub id_below : ℕ → Value → Bool
id_below n (Int i) = true
id_below n (Text bytes) = true
id_below n (Id i) = nat_lt i n

abbrev pub ids_below : ℕ → List Value → Bool
ids_below n values = list_all (id_below n) values

-- one more than an id
abbrev pub past_id : Value → ℕ
past_id (Int i) = 0
past_id (Text bytes) = 0
past_id (Id i) = i + 1

-- one more than the greatest id, or 0 where there is none
abbrev pub past_ids : List Value → ℕ
past_ids [] = 0
past_ids (v ∷ values) = max (past_id v) (past_ids values)

-- the first id that a fresh variable may get
abbrev pub next_after : List Decl → Instance → Marking → ℕ
next_after net db marking = past_ids (all_values net db marking)
