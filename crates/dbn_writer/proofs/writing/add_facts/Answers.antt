use Rattle.std.proofs.Common.{◌<◌, ◌+◌, map, drop, ap, subst, arith, length}
use Rattle.std.proofs.lemmas.List.{drop_all}
use Rattle.dbn_instance.specs.Facts.{rows_of}
use Rattle.dbn_net.specs.declared.written.Written.TheVariants.{Fact}
use Rattle.dbn_net.specs.Tables.{relation_names}
use Rattle.dbn_net.specs.Naming.{name_at}
use Rattle.dbn_net.specs.Printing.{sexp_of}
use Rattle.dbn_net.specs.Texts.{facts_from, printed}
use Rattle.dbn_writer.specs.Writing.{Adds}
use Rattle.dbn_writer.proofs.WritingLaws.{Leads, leads_on, leads_end, facts_step}
use Rattle.dbn_writer.proofs.writing.add_facts.Goals as goal

pub loop-rel-init : goal.loop-rel-init
loop-rel-init c = λ all adds. adds

pub loop-rel-preserved : goal.loop-rel-preserved
loop-rel-preserved c =
    let net = c.args.net.now in
    let facts = c.args.instance.now in
    let n = c.loop-rel.rel in
    let before = c.args.out.now.items in
    let now = c.loop-rel.out.items in
    let after = c.add_rows.new.out.items in
    let whole = printed net (facts_from 0 facts) in
    let less : n < length facts = subst (λ k. n < k) c.relations-rel-end.ensures.count c.loop-rel-test.true in
    leads_on before now after (map (λ row. sexp_of (Fact (name_at (relation_names net) n) row)) (rows_of facts n)) (printed net (facts_from (n + 1) (drop (n + 1) facts))) whole
    (subst (λ l. Leads before now l whole) (facts_step net facts n less) c.loop-rel.invariant)
    (subst (λ rows. Adds now after (map (λ row. sexp_of (Fact (name_at (relation_names net) n) row)) rows)) c.row_set.ensures
    (subst (λ rel. Adds now after (map (λ row. sexp_of (Fact rel row)) c.row_set.result.now.keys)) c.relation_name.ensures c.in_ok-add_rows.ensures))

pub returns : goal.returns
returns c =
    let net = c.args.net.now in
    let facts = c.args.instance.now in
    let n = c.loop-rel.rel in
    leads_end c.args.out.now.items c.loop-rel.out.items (printed net (facts_from n (drop n facts))) (printed net (facts_from 0 facts))
    (ap (λ l. printed net (facts_from n l)) (drop_all n facts (let e = c.relations-rel-end.ensures.count in let h = c.loop-rel-test.false in omega (arith, e, h)))) c.loop-rel.invariant
