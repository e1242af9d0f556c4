use Rattle.std.proofs.Common.{Bool, not, subst}
use Rattle.dbn_twofile.specs.Finding.{IsSide}
use Rattle.dbn_twofile.proofs.find.open.Goals as goal

pub over-requires-clause-holds : goal.over-requires-clause-holds
over-requires-clause-holds g c x told = subst (λ (s : Bool). IsSide s s c.args.found.form c.args.found.base c.args.found.generation x) c.if-found.true (c.requires.found_b x told)

pub over-requires-clause-way : goal.over-requires-clause-way
over-requires-clause-way g c x told = subst (λ (s : Bool). IsSide (not s) c.args.found.swapped c.args.found.form c.args.found.base c.args.found.generation x) c.if-found.true (c.requires.found_a x told)

pub over-requires-else-found-clause-holds : goal.over-requires-else-found-clause-holds
over-requires-else-found-clause-holds g c x told = subst (λ (s : Bool). IsSide (not s) s c.args.found.form c.args.found.base c.args.found.generation x) c.if-found.false (c.requires.found_a x told)

pub over-requires-else-found-clause-way : goal.over-requires-else-found-clause-way
over-requires-else-found-clause-way g c x told = subst (λ (s : Bool). IsSide s c.args.found.swapped c.args.found.form c.args.found.base c.args.found.generation x) c.if-found.false (c.requires.found_b x told)
