-- Values of variables as they are kept: references to the variables and to the values, the newest first.
use Rattle.std.specs.Global.{Vec}
use Rattle.std.specs.Borrow.{Bor}
use Rattle.std.specs.Prelude.{List, [], ◌∷◌, map, Option, Some, None}
use Rattle.dbn_value.specs.Scope.{Env}
use Rattle.dbn_value.specs.declared.value.Value.{Value}
use Rattle.dbn_value.specs.declared.term.Var.{Var}

abbrev pub entry_now : Bor Var × Bor Value → Var × Value
entry_now entry = (entry.0.now, entry.1.now)

-- what the references show
abbrev pub env_of : List (Bor Var × Bor Value) → Env
env_of entries = map entry_now entries

-- none or one
abbrev pub as_list : {A : Type 0} → Option A → List A
as_list None = []
as_list (Some x) = x ∷ []

abbrev pub envs_of : List (Vec (Bor Var × Bor Value)) → List Env
envs_of envs = map (λ e. env_of e.items) envs
