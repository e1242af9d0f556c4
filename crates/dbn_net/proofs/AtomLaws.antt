-- Names and constants of a text: which are short, and which values there are.
use Rattle.std.proofs.Common.{◌≡◌, ℕ, true, List, [], ◌∷◌, ap, length}
use Rattle.std.specs.Prelude.{nat_le}
use Rattle.dbn_value.specs.declared.value.Value.{Value}
use Rattle.dbn_sexp.specs.declared.sexp.Item.TheVariants as item
use Rattle.dbn_net.specs.Judging.{atom_short, is_short}
use Rattle.dbn_net.specs.Texts.{atom_values, value_in}

pub short_name : (name : List ℕ) → is_short (item.Name name) ≡ nat_le (length name) 64
unfolding is_short
short_name name = ap atom_short (item.outs-Name name)

pub short_const : (v : Value) → is_short (item.Const v) ≡ true
unfolding is_short
short_const v = ap atom_short (item.outs-Const v)

pub value_name : (name : List ℕ) → value_in (item.Name name) ≡ []
unfolding value_in
value_name name = ap atom_values (item.outs-Name name)

pub value_const : (v : Value) → value_in (item.Const v) ≡ v ∷ []
unfolding value_in
value_const v = ap atom_values (item.outs-Const v)

pub ruleset short_laws = (short_name, short_const)

pub ruleset value_laws = (value_name, value_const)
