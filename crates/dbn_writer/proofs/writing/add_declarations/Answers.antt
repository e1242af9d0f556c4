use Rattle.dbn_net.specs.Naming.{named}
use Rattle.dbn_net.specs.Printing.{sexp_of}
use Rattle.dbn_writer.proofs.WritingLaws.{adds_none, adds_more}
use Rattle.dbn_writer.proofs.writing.add_declarations.Goals as goal

pub loop-decl-init : goal.loop-decl-init
loop-decl-init c = adds_none _

pub loop-decl-preserved : goal.loop-decl-preserved
loop-decl-preserved c =
    adds_more (λ d. sexp_of (named c.args.net.now d)) c.args.decls.now c.loop-decl.decl-index c.decl-item.result c.in_ok-one.one _ _ _ c.loop-decl-test.true c.decl-item.is c.in_ok-one.ensures
    c.loop-decl.invariant c.in_ok-add_line.ensures
