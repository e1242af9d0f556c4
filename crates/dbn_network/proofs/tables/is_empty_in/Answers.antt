use Rattle.std.proofs.Common.{◌≡◌, ◌↔◌, ◌∙◌, [], IsTrue, refl, sym, subst}
use Rattle.std.proofs.lemmas.Result.{err_from_is_err_and}
use Rattle.dbn_network.specs.Holding.{IsDirect}
use Rattle.dbn_network.proofs.PassLaws.{same_inside}
use Rattle.dbn_network.proofs.TableLaws.{direct_looked, node_answers, scan_empty}
use Rattle.dbn_network.proofs.tables.is_empty_in.Goals as goal

pub returns-in-Scan-clause-value : goal.returns-in-Scan-clause-value
returns-in-Scan-clause-value g c =
    λ shapes net. scan_empty g.met.C.Ord.total g.met.C.Cell.exact shapes c.args.states.now c.args.tables.now net c.args.node c.index-states-node.result c.requires.range c.index-states-node.is c.in-Scan.feed c.in-Scan.is c.requires.earlier c.index-tables-feed.result c.is_empty-empty.result c.index-tables-feed.is c.is_empty-empty.ensures

pub returns-in-Some : goal.returns-in-Some
returns-in-Some g c = record {
  value = λ shapes net. node_answers g.met.C.Ord.total g.met.C.Cell.exact shapes c.args.states.now c.args.tables.now net c.args.node c.index-states-node.result c.requires.range c.index-states-node.is
      (λ rows. IsTrue c.in-Some.empty ↔ (rows ≡ [])) c.in-Some.ensures.value;
  sure = λ d direct. refl;
}

pub returns-in_err-rows-in-None : goal.returns-in_err-rows-in-None
returns-in_err-rows-in-None g c = record {
  value = let p = err_from_is_err_and c.from_residual.result c.from_residual.ensures.1 in rw p.1 tt;
  sure = λ d direct.
      let none = c.in-None.ensures.tells (direct_looked c.index-states-node.result.state.node
      (subst (λ s. IsDirect s.state.node) (sym (c.index-states-node.is ∙ same_inside c.args.states.now c.args.node c.index-states-node.result d c.requires.range)) direct) c.in_default.not-Scan) in
      absurd cc;
}

pub returns-in-None : goal.returns-in-None
returns-in-None g c = record {
  value = λ shapes net.
      let are = c.in_ok-rows-in-None.ensures shapes net in
      let both = c.is_empty-in-None.ensures in
      (λ t. sym are ∙ both.0 t, λ none. both.1 (are ∙ none));
  sure = λ d direct. refl;
}
