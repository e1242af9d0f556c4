use Rattle.std.proofs.Common.{rules, ◌≡◌, ◌<◌, ◌^◌, pos, [], ◌∷◌, map, ap, sym, subst}
use Rattle.std.specs.List.{All}
use Rattle.dbn_net.specs.declared.written.Written.TheVariants.{Token}
use Rattle.dbn_net.specs.Printing.{sexp_of}
use Rattle.dbn_writer.specs.Writing.{Adds}
use Rattle.dbn_writer.proofs.Lists.{all_tail, all_head}
use Rattle.dbn_writer.proofs.WritingLaws.{Leads, leads_on, leads_end}
use Rattle.dbn_writer.proofs.writing.add_counts.Goals as goal

pub loop-row-init : goal.loop-row-init
loop-row-init c =
    let place = c.args.place.now in
    let same : c.into_iter-row-iterator.result ≡ c.args.counts.now.entries = search rules in (
      (λ all adds. subst (λ rows. Adds c.args.out.now.items all (map (λ e. sexp_of (Token place (pos e.1) e.0)) rows)) same adds),
      subst (All (λ e. e.1 < 2 ^ 32)) (sym same) c.requires,
    )

pub tokens-requires : goal.tokens-requires
tokens-requires c =
    let from : c.loop-row.row-iterator ≡ (c.in-Some.row.now, c.in-Some.many.now) ∷ c.next.new.self = search rules in
    all_head (λ e. e.1 < 2 ^ 32) (c.in-Some.row.now, c.in-Some.many.now) c.next.new.self (subst (All (λ e. e.1 < 2 ^ 32)) from c.loop-row.invariant.1)

pub loop-row-preserved : goal.loop-row-preserved
loop-row-preserved c =
    let before = c.args.out.now.items in
    let now = c.loop-row.out.items in
    let after = c.add_line.new.out.items in
    let place = c.args.place.now in
    let whole = map (λ e. sexp_of (Token place (pos e.1) e.0)) c.args.counts.now.entries in
    let from : c.loop-row.row-iterator ≡ (c.in-Some.row.now, c.in-Some.many.now) ∷ c.next.new.self = search rules in (
      leads_on before now after (sexp_of (Token place (pos c.in-Some.many.now) c.in-Some.row.now) ∷ []) (map (λ e. sexp_of (Token place (pos e.1) e.0)) c.next.new.self) whole
          (subst (λ l. Leads before now (map (λ e. sexp_of (Token place (pos e.1) e.0)) l) whole) from c.loop-row.invariant.0)
          (subst (λ one. Adds now after (one ∷ [])) c.in_ok-one.ensures c.in_ok-add_line.ensures),
      all_tail (λ e. e.1 < 2 ^ 32) (c.in-Some.row.now, c.in-Some.many.now) c.next.new.self (subst (All (λ e. e.1 < 2 ^ 32)) from c.loop-row.invariant.1),
    )

pub returns : goal.returns
returns c =
    let place = c.args.place.now in
    let none : c.loop-row.row-iterator ≡ [] = search rules in
    leads_end c.args.out.now.items c.loop-row.out.items (map (λ e. sexp_of (Token place (pos e.1) e.0)) c.loop-row.row-iterator) (map (λ e. sexp_of (Token place (pos e.1) e.0)) c.args.counts.now.entries)
    (ap (map (λ e. sexp_of (Token place (pos e.1) e.0))) none) c.loop-row.invariant.0
