use Rattle.std.proofs.Common.{◌++◌, ◌∙◌, map, sym, ap, arith, [], List, ℕ}
use Rattle.dbn_command.specs.declared.tokens.Place.TheVariants.{Between}
use Rattle.dbn_command.proofs.TokenLaws.{tokens_from, walk_starts}
use Rattle.dbn_command.proofs.Loops.{part_ends, part_goes_on}
use Rattle.dbn_command.proofs.tokens.tokens.Goals as goal
use Rattle.dbn_command.proofs.tokens.tokens.Goals.{then-separates+in_ok-add_part, else-separates}

pub loop-i-init : goal.loop-i-init
loop-i-init c = (ap (λ found. map (λ t. t.now) found ++ tokens_from Between [] c.args.line.now) c.new-found.ensures ∙ walk_starts c.args.line.now, omega arith)

pub loop-i-preserved : goal.loop-i-preserved
loop-i-preserved c =
    let at = c.loop-i in
    let found : List (List ℕ) = map (λ t. t.now) at.found in
    elim c.if-separates.branch [
      | then-separates+in_ok-add_part w ↦
          rw (w.found-is, w.start-is, c.after-place.ensures)
          (part_ends c.args.line.now found at.place at.start at.i _ c.loop-i-test.true at.invariant _ (sym c.separates.ensures ∙ w.if-separates.true) w.in_ok-add_part.ensures)
      | else-separates w ↦
          rw (w.found-is, w.start-is, c.after-place.ensures)
          (part_goes_on c.args.line.now found at.place at.start at.i _ c.loop-i-test.true at.invariant (sym c.separates.ensures ∙ w.if-separates.false))
    ]
