use Rattle.std.proofs.Common.{ℕ, Option, Some, refl, sym, ap, subst, ◌∙◌, arith}
use Rattle.std.proofs.lemmas.Bool.{true≢false}
use Rattle.dbn_model.specs.Causes.{Rose}
use Rattle.dbn_store.specs.States.{Situation, situation}
use Rattle.dbn_top.specs.Calls.{stream, device}
use Rattle.dbn_top.specs.Crashes.{IsNew}
use Rattle.dbn_top.specs.Starts.{is_there}
use Rattle.dbn_top.specs.declared.verb.Verb.TheVariants as verbs
use Rattle.dbn_top.proofs.Tops.{nothing_new, same_files, kept_stays, made_of_spared, made_of_kept}
use Rattle.dbn_top.proofs.Verbs.{new_ends, refused_new, new_kind, net_keeps, moved_writes, same_situation}
use Rattle.dbn_top.proofs.new.run_new.Goals as goal

pub returns-in-Ok-clause-ends : goal.returns-in-Ok-clause-ends
returns-in-Ok-clause-ends g c commands same given told =
    let accepted = c.in-Ok.ensures.accepted given.net (told.net refl) in
    let there = ap (λ (o : Option Situation). is_there o) accepted.1 in
    new_ends c.make_store-status.result c.args.limits.now _ commands (stream (g.K.Sink.taken c.args.out.now) (g.K.Sink.taken c.make_store-status.new.out) (g.K.Sink.faults c.args.out.now) (g.K.Sink.faults c.make_store-status.new.out)) given
    (situation c.in-Ok.accepted.net c.in-Ok.accepted.at) accepted.1 c.in-Ok.ensures.end (λ e. subst (λ (n : ℕ). Rose n (g.K.Sink.faults c.make_store-status.new.out)) c.in-Ok.ensures.quiet.0 (c.make_store-status.ensures.write e))
    (moved_writes c.make_store-status.result _ _ _ _ _ _ accepted.2 (c.make_store-status.ensures.writes given.a given.b (told.a_told there) (told.b_told there)) (g.K.Sink.faults c.args.out.now)) c.make_store-status.ensures.never.2 same

pub returns-in-Ok-clause-crash : goal.returns-in-Ok-clause-crash
returns-in-Ok-clause-crash g c commands same given told a_settled b_settled s is none =
    let accepted = c.in-Ok.ensures.accepted given.net (told.net refl) in
    let there = ap (λ (o : Option Situation). is_there o) accepted.1 in
    subst (λ (s : Situation). IsNew c.make_store-status.result s (device (g.D.Disk.state c.args.a) (g.D.Disk.state c.make_store-status.new.a)) (device (g.D.Disk.state c.args.b) (g.D.Disk.state c.make_store-status.new.b)))
    (same_situation _ s (sym accepted.1 ∙ is)) (c.make_store-status.ensures.crash given.a given.b (told.a_told there) (told.b_told there) a_settled b_settled none)

pub returns-in-Ok-clause-spares : goal.returns-in-Ok-clause-spares
returns-in-Ok-clause-spares g c commands same given told =
    let accepted = c.in-Ok.ensures.accepted given.net (told.net refl) in
    let there = ap (λ (o : Option Situation). is_there o) accepted.1 in
    let kept = c.make_store-status.ensures.kept given.a given.b (told.a_told there) (told.b_told there) in
    record {
      order = record { a_idle = λ none. absurd (true≢false (sym there ∙ none)); b_idle = λ none. absurd (true≢false (sym there ∙ none)); fault = λ e. (there, c.make_store-status.ensures.fault e) };
      stays = λ none. let both = kept (made_of_spared _ _ there none) in kept_stays _ _ _ _ both.0 both.1;
      bytes = λ all. kept (made_of_kept _ _ there all);
    }

pub returns-in-Ok-clause-kind : goal.returns-in-Ok-clause-kind
returns-in-Ok-clause-kind g c = new_kind c.make_store-status.result c.make_store-status.ensures.never.0

pub returns-in-Ok-clause-keeps : goal.returns-in-Ok-clause-keeps
returns-in-Ok-clause-keeps g c commands same =
    net_keeps c.make_store-status.result (Some verbs.New) c.args.limits.now _ commands _ c.in-Ok.ensures.calm (λ never. c.make_store-status.ensures.calm never ∙ c.in-Ok.ensures.quiet.0) c.read_accepted.ensures.told.0
    (c.make_store-status.ensures.told ∙ c.read_accepted.ensures.told.1) (omega (arith, c.read_accepted.ensures.later.1, c.make_store-status.ensures.later)) c.read_accepted.ensures.few same

pub returns-in-Err-clause-ends : goal.returns-in-Err-clause-ends
returns-in-Err-clause-ends g c commands same given told =
    refused_new c.in-Err.status c.args.limits.now _ commands _ given (λ then. c.in-Err.ensures.refused given.net then (told.net refl)) c.in-Err.ensures.never.0 c.in-Err.ensures.never.1 c.in-Err.ensures.read.0 c.in-Err.ensures.write.0 same

pub returns-in-Err-clause-crash : goal.returns-in-Err-clause-crash
returns-in-Err-clause-crash g c commands same given told a_settled b_settled s is none =
    let there = ap (λ (o : Option Situation). is_there o) is in
    nothing_new c.in-Err.status s (g.D.Disk.state c.args.a) (g.D.Disk.state c.args.b) (g.D.Disk.state c.args.a) (g.D.Disk.state c.args.b) given.a given.b (told.a_told there) (told.b_told there) a_settled b_settled (same_files _ _) none c.in-Err.ensures.never.0
