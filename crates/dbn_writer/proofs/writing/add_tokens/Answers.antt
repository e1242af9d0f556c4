use Rattle.std.proofs.Common.{◌<◌, ◌+◌, ◌^◌, pos, map, drop, ap, sym, subst, arith, length}
use Rattle.std.proofs.lemmas.List.{drop_all}
use Rattle.std.specs.List.{All}
use Rattle.dbn_marking.specs.Counts.{place_of}
use Rattle.dbn_net.specs.declared.written.Written.TheVariants.{Token}
use Rattle.dbn_net.specs.Tables.{place_names}
use Rattle.dbn_net.specs.Naming.{name_at}
use Rattle.dbn_net.specs.Printing.{sexp_of}
use Rattle.dbn_net.specs.Texts.{tokens_from, printed}
use Rattle.dbn_writer.specs.Writing.{Adds}
use Rattle.dbn_writer.proofs.WritingLaws.{Leads, leads_on, leads_end, tokens_step, small_counts}
use Rattle.dbn_writer.proofs.writing.add_tokens.Goals as goal

pub loop-place-init : goal.loop-place-init
loop-place-init c = λ all adds. adds

pub loop-place-preserved : goal.loop-place-preserved
loop-place-preserved c =
    let net = c.args.net.now in
    let facts = c.args.marking.now in
    let n = c.loop-place.place in
    let before = c.args.out.now.items in
    let now = c.loop-place.out.items in
    let after = c.add_counts.new.out.items in
    let whole = printed net (tokens_from 0 facts) in
    let less : n < length facts = subst (λ k. n < k) c.places-place-end.ensures.count c.loop-place-test.true in
    leads_on before now after (map (λ e. sexp_of (Token (name_at (place_names net) n) (pos e.1) e.0)) (place_of facts n)) (printed net (tokens_from (n + 1) (drop (n + 1) facts))) whole
    (subst (λ l. Leads before now l whole) (tokens_step net facts n less) c.loop-place.invariant)
    (subst (λ rows. Adds now after (map (λ e. sexp_of (Token (name_at (place_names net) n) (pos e.1) e.0)) rows)) c.counts.ensures.rows
    (subst (λ rel. Adds now after (map (λ e. sexp_of (Token rel (pos e.1) e.0)) c.counts.result.now.entries)) c.place_name.ensures c.in_ok-add_counts.ensures))

pub add_counts-requires : goal.add_counts-requires
add_counts-requires c = subst (All (λ e. e.1 < 2 ^ 32)) (sym c.counts.ensures.rows) (small_counts _ c.counts.ensures.counted)

pub returns : goal.returns
returns c =
    let net = c.args.net.now in
    let facts = c.args.marking.now in
    let n = c.loop-place.place in
    leads_end c.args.out.now.items c.loop-place.out.items (printed net (tokens_from n (drop n facts))) (printed net (tokens_from 0 facts))
    (ap (λ l. printed net (tokens_from n l)) (drop_all n facts (let e = c.places-place-end.ensures.count in let h = c.loop-place-test.false in omega (arith, e, h)))) c.loop-place.invariant
