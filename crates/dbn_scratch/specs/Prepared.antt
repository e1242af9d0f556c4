-- What a formula is solved over.
use Rattle.std.specs.Prelude.{◌≡◌, pos, Bool, not}
use Rattle.dbn_value.specs.declared.value.Value.TheVariants.{Int}
use Rattle.dbn_value.specs.declared.value.ColType.{ColType}
use Rattle.dbn_value.specs.declared.value.ColType.TheVariants as col
use Rattle.dbn_formula.specs.Holds.{Domain}
use Rattle.dbn_formula.specs.Answers.{domain}
use Rattle.dbn_formula.specs.Solve.{is_empty}
use Rattle.dbn_scratch.specs.declared.tables.Tables.{Tables}

-- the domain of the whole formula
abbrev pub domain_of : Tables → Domain
domain_of t = domain t.whole.now t.instance.now

-- whether there is a value of the type, as it is kept
abbrev pub has_some : Tables → ColType → Bool
has_some t col.Int = t.ints
has_some t col.Text = t.texts
has_some t col.Id = t.ids

-- what is kept is so
pub record IsPrepared (t : Tables) : Type 0 where
  pub zero_is : t.zero.now ≡ Int (pos 0)
  pub some_is : (type : ColType) → has_some t type ≡ not (is_empty (domain_of t type))
