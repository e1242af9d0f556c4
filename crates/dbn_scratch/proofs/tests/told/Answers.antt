use Rattle.std.proofs.Common.{◌≡◌, None, subst}
use Rattle.dbn_formula.specs.Typing.{type_fault}
use Rattle.dbn_scratch.proofs.tests.told.Goals as goal

pub holds-requires : goal.holds-requires
holds-requires c = (c.args.rels.now, subst (λ vars. type_fault c.args.rels.now c.args.f.now vars ≡ None) c.requires.none c.requires.typed, c.requires.shapes)
