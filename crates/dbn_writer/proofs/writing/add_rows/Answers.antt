use Rattle.std.proofs.Common.{rules, ◌≡◌, [], ◌∷◌, map, ap, subst}
use Rattle.dbn_net.specs.declared.written.Written.TheVariants.{Fact}
use Rattle.dbn_net.specs.Printing.{sexp_of}
use Rattle.dbn_writer.specs.Writing.{Adds}
use Rattle.dbn_writer.proofs.WritingLaws.{Leads, leads_on, leads_end}
use Rattle.dbn_writer.proofs.writing.add_rows.Goals as goal

pub loop-row-init : goal.loop-row-init
loop-row-init c =
    let rel = c.args.rel.now in
    let same : c.into_iter-row-iterator.result ≡ c.args.rows.now.keys = search rules in
    λ all adds. subst (λ rows. Adds c.args.out.now.items all (map (λ r. sexp_of (Fact rel r)) rows)) same adds

pub loop-row-preserved : goal.loop-row-preserved
loop-row-preserved c =
    let before = c.args.out.now.items in
    let now = c.loop-row.out.items in
    let after = c.add_line.new.out.items in
    let rel = c.args.rel.now in
    let row = c.in-Some.row.now in
    let whole = map (λ r. sexp_of (Fact rel r)) c.args.rows.now.keys in
    let from : c.loop-row.row-iterator ≡ c.in-Some.row.now ∷ c.next.new.self = search rules in
    leads_on before now after (sexp_of (Fact rel row) ∷ []) (map (λ r. sexp_of (Fact rel r)) c.next.new.self) whole
    (subst (λ l. Leads before now (map (λ r. sexp_of (Fact rel r)) l) whole) from c.loop-row.invariant)
    (subst (λ one. Adds now after (one ∷ [])) c.in_ok-one.ensures c.in_ok-add_line.ensures)

pub returns : goal.returns
returns c =
    let rel = c.args.rel.now in
    let none : c.loop-row.row-iterator ≡ [] = search rules in
    leads_end c.args.out.now.items c.loop-row.out.items (map (λ r. sexp_of (Fact rel r)) c.loop-row.row-iterator) (map (λ r. sexp_of (Fact rel r)) c.args.rows.now.keys)
    (ap (map (λ r. sexp_of (Fact rel r))) none) c.loop-row.invariant
