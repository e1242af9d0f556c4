-- An S-expression taken apart: the name, the constant or the list that it is.
use Rattle.std.specs.Prelude.{ℕ, List, Option, Some, None}
use Rattle.dbn_value.specs.declared.value.Value.{Value}
use Rattle.dbn_sexp.specs.declared.sexp.Sexp.{Sexp}
use Rattle.dbn_sexp.specs.declared.sexp.Item.{Item, out-Item}
use Rattle.dbn_sexp.specs.declared.sexp.Item.TheOpen as layer

abbrev pub word_of : layer.Item-F Item Sexp → Option (List ℕ)
word_of (layer.Name name) = Some name
word_of (layer.Const value) = None
word_of (layer.List parts) = None

abbrev pub constant_of : layer.Item-F Item Sexp → Option Value
constant_of (layer.Name name) = None
constant_of (layer.Const value) = Some value
constant_of (layer.List parts) = None

abbrev pub list_of : layer.Item-F Item Sexp → Option (List Sexp)
list_of (layer.Name name) = None
list_of (layer.Const value) = None
list_of (layer.List parts) = Some parts

-- the name or operator that it is, if it is one; the same of a constant, and of the parts of a list
unfoldable pub word_in : Sexp → Option (List ℕ)
word_in one = word_of (out-Item one.item)

unfoldable pub constant_in : Sexp → Option Value
constant_in one = constant_of (out-Item one.item)

unfoldable pub list_in : Sexp → Option (List Sexp)
list_in one = list_of (out-Item one.item)
