use Rattle.std.proofs.Common.{◌≡◌, rules, refl, map, string_bytes, Some, None}
use Rattle.dbn_top.specs.Words.{verb_of as verb_in}
use Rattle.dbn_top.specs.declared.verb.Verb.TheVariants as verbs
use Rattle.dbn_top.proofs.Tops.{ends_wanting, crash_wanting}
use Rattle.dbn_top.proofs.top.dbnet.Goals as goal

pub returns-in_default-clause-keeps : goal.returns-in_default-clause-keeps
returns-in_default-clause-keeps g c =
    let e : verb_in (map string_bytes c.args.words.now) ≡ None = search rules in
    rw e (c.run_usage-status.ensures.keeps _ (refl, refl) _ (refl, refl))

pub returns-then-not-is_taken-clause-ends : goal.returns-then-not-is_taken-clause-ends
returns-then-not-is_taken-clause-ends g c = λ given told. ends_wanting _ given (refl, refl) (refl, refl) refl

pub returns-then-not-is_taken-clause-crash : goal.returns-then-not-is_taken-clause-crash
returns-then-not-is_taken-clause-crash g c = λ given told a_settled b_settled.
    crash_wanting _ _ _ _ given refl c.lines_without_a_reply_change_nothing.ensures told.a_told told.b_told a_settled b_settled

pub returns-in-Check-clause-keeps : goal.returns-in-Check-clause-keeps
returns-in-Check-clause-keeps g c =
    let e : verb_in (map string_bytes c.args.words.now) ≡ Some verbs.Check = search rules in
    rw e (c.run_check.ensures.keeps _ (refl, refl))

pub returns-in-New-clause-keeps : goal.returns-in-New-clause-keeps
returns-in-New-clause-keeps g c =
    let e : verb_in (map string_bytes c.args.words.now) ≡ Some verbs.New = search rules in
    rw e (c.run_new.ensures.keeps _ (refl, refl))

pub returns-in-Run-clause-ends : goal.returns-in-Run-clause-ends
returns-in-Run-clause-ends g c =
    let e : verb_in (map string_bytes c.args.words.now) ≡ Some (verbs.Run c.in-Run.every) = search rules in
    λ given. rw e (λ told. c.run_run.ensures.ends _ (refl, refl) given told)

pub returns-in-Run-clause-crash : goal.returns-in-Run-clause-crash
returns-in-Run-clause-crash g c =
    let e : verb_in (map string_bytes c.args.words.now) ≡ Some (verbs.Run c.in-Run.every) = search rules in
    λ given. rw e (λ told a b. c.run_run.ensures.crash _ (refl, refl) given told a b)

pub returns-in-Run-clause-spares : goal.returns-in-Run-clause-spares
returns-in-Run-clause-spares g c =
    let e : verb_in (map string_bytes c.args.words.now) ≡ Some (verbs.Run c.in-Run.every) = search rules in
    λ given. rw e (λ told. c.run_run.ensures.spares _ (refl, refl) given told)

pub returns-in-Run-clause-keeps : goal.returns-in-Run-clause-keeps
returns-in-Run-clause-keeps g c =
    let e : verb_in (map string_bytes c.args.words.now) ≡ Some (verbs.Run c.in-Run.every) = search rules in
    rw e (c.run_run.ensures.keeps _ (refl, refl))

pub returns-in-Dump-clause-keeps : goal.returns-in-Dump-clause-keeps
returns-in-Dump-clause-keeps g c =
    let e : verb_in (map string_bytes c.args.words.now) ≡ Some verbs.Dump = search rules in
    rw e (c.run_dump.ensures.keeps _ (refl, refl) _ (refl, refl))

pub returns-in-Demo-clause-keeps : goal.returns-in-Demo-clause-keeps
returns-in-Demo-clause-keeps g c =
    let e : verb_in (map string_bytes c.args.words.now) ≡ Some (verbs.Demo c.in-Demo.size) = search rules in
    rw e (c.run_demo.ensures.keeps _ (refl, refl) _ (refl, refl))
