use Rattle.std.proofs.Common.{◌≡◌, ◌∙◌, refl, ap, sym, subst}
use Rattle.std.proofs.lemmas.Result.{err_from_is_err_and}
use Rattle.std.specs.Cmp.Lexicographic.{slice_cmp}
use Rattle.dbn_nodes.specs.Tables.{has}
use Rattle.dbn_network.specs.Holding.{IsDirect}
use Rattle.dbn_network.proofs.PassLaws.{same_inside}
use Rattle.dbn_network.proofs.TableLaws.{direct_looked, node_answers, scan_has}
use Rattle.dbn_network.proofs.tables.has_in.Goals as goal

pub returns-in-Scan-clause-value : goal.returns-in-Scan-clause-value
returns-in-Scan-clause-value g c =
    λ shapes net. c.holds-found.ensures.value
    ∙ scan_has g.met.C.Ord.total g.met.C.Cell.exact shapes c.args.states.now c.args.tables.now net c.args.node c.index-states-node.result c.requires.range c.index-states-node.is c.in-Scan.feed c.in-Scan.is c.requires.earlier c.index-tables-feed.result c.args.row.now c.index-tables-feed.is

pub returns-in-Some : goal.returns-in-Some
returns-in-Some g c = record {
  value = λ shapes net. node_answers g.met.C.Ord.total g.met.C.Cell.exact shapes c.args.states.now c.args.tables.now net c.args.node c.index-states-node.result c.requires.range c.index-states-node.is
      (λ rows. c.in-Some.found ≡ has (slice_cmp g.C.Ord.cmp) rows c.args.row.now) c.in-Some.ensures.value;
  sure = λ d direct. refl;
}

pub returns-in_err-rows-in-None : goal.returns-in_err-rows-in-None
returns-in_err-rows-in-None g c = record {
  value = let p = err_from_is_err_and c.from_residual.result c.from_residual.ensures.1 in rw p.1 tt;
  sure = λ d direct.
      let none = c.in-None.ensures.tells (direct_looked c.index-states-node.result.state.node
      (subst (λ s. IsDirect s.state.node) (sym (c.index-states-node.is ∙ same_inside c.args.states.now c.args.node c.index-states-node.result d c.requires.range)) direct) c.in_default.not-Scan) in
      absurd cc;
}

pub returns-in-None : goal.returns-in-None
returns-in-None g c = record {
  value = λ shapes net. c.contains-found.ensures ∙ ap (λ rows. has (slice_cmp g.C.Ord.cmp) rows c.args.row.now) (c.as_slice.ensures ∙ c.in_ok-rows-in-None.ensures shapes net);
  sure = λ d direct. refl;
}
