use Rattle.std.proofs.Common.{rules, refl, sym, subst, ◌∙◌, IsTrue}
use Rattle.std.proofs.lemmas.Bool.{true≢false}
use Rattle.dbn_store.specs.States.{situation}
use Rattle.dbn_top.specs.Calls.{stream}
use Rattle.dbn_top.proofs.Making.{none_made, not_new, is_new, kept_from, told_after, writes_made, writes_full, writes_exists, not_done}
use Rattle.dbn_top.proofs.Saying.{said_nothing}
use Rattle.dbn_top.proofs.Tops.{nothing_new, same_files}
use Rattle.dbn_top.proofs.new.make_store.Goals as goal

pub returns-in_default-clause-writes : goal.returns-in_default-clause-writes
returns-in_default-clause-writes g c x y told_x told_y = said_nothing _ _ _ refl refl

pub returns-in_default-clause-crash : goal.returns-in_default-clause-crash
returns-in_default-clause-crash g c x y told_x told_y a_settled b_settled none =
    nothing_new _ (situation c.args.accepted.now.net c.args.accepted.now.at) (g.D.Disk.state c.args.a.now) (g.D.Disk.state c.args.b.now) (g.D.Disk.state c.args.a.now) (g.D.Disk.state c.args.b.now) x y told_x told_y a_settled b_settled (same_files _ _) none (λ e. cc)

pub returns-in-Ok-create-clause-writes : goal.returns-in-Ok-create-clause-writes
returns-in-Ok-create-clause-writes g c x y told_x told_y =
    writes_made c.say.result (stream (g.K.Sink.taken c.args.out.now) (g.K.Sink.taken c.say.new.out) (g.K.Sink.faults c.args.out.now) (g.K.Sink.faults c.say.new.out)) c.args.limits.now x y (situation c.args.accepted.now.net c.args.accepted.now.at) c.in-Ok.base c.in-Ok.ensures.base (c.in-Ok-create.ensures.answer x y told_x told_y) (search rules)

pub returns-in-Ok-create-clause-crash : goal.returns-in-Ok-create-clause-crash
returns-in-Ok-create-clause-crash g c x y told_x told_y a_settled b_settled none =
    let first = told_after _ _ x told_x c.create.ensures.keeps_a.told in
    let second = told_after _ _ y told_y c.create.ensures.keeps_b.told in
    is_new (situation c.args.accepted.now.net c.args.accepted.now.at) c.in-Ok.base (g.D.Disk.state c.args.a.now) (g.D.Disk.state c.args.b.now) (g.D.Disk.state c.create.new.a) (g.D.Disk.state c.create.new.b) x y c.in-Ok.ensures.base c.in-Ok.ensures.stands a_settled b_settled told_x told_y (c.create.ensures.later x y told_x told_y a_settled.honest b_settled.honest)
    (g.met.D.Disk.sound c.create.new.a (subst IsTrue (sym c.create.ensures.keeps_a.honest) a_settled.honest)) (g.met.D.Disk.sound c.create.new.b (subst IsTrue (sym c.create.ensures.keeps_b.honest) b_settled.honest))
    (λ u v. c.create.ensures.any_moment x y u v told_x told_y a_settled.honest b_settled.honest (a_settled.only x told_x) (b_settled.only y told_y) (none_made _ none)) _ first.0 second.0 first.1 second.1
    (c.in-Ok-create.ensures.settled_a x first.0 told_x a_settled.honest first.1) (c.in-Ok-create.ensures.settled_b y second.0 told_y b_settled.honest second.1) (c.in-Ok-create.ensures.value x y first.0 second.0 told_x told_y first.1 second.1)

pub returns-in-Ok-create-clause-kept : goal.returns-in-Ok-create-clause-kept
returns-in-Ok-create-clause-kept g c x y told_x told_y made = absurd (true≢false (sym made ∙ (c.in-Ok-create.ensures.answer x y told_x told_y).0))

pub returns-in-Err-Exists-clause-writes : goal.returns-in-Err-Exists-clause-writes
returns-in-Err-Exists-clause-writes g c x y told_x told_y =
    writes_exists c.say-in-Err-Exists.result (stream (g.K.Sink.taken c.args.out.now) (g.K.Sink.taken c.say-in-Err-Exists.new.out) (g.K.Sink.faults c.args.out.now) (g.K.Sink.faults c.say-in-Err-Exists.new.out)) c.args.limits.now x y (situation c.args.accepted.now.net c.args.accepted.now.at) (rw c.in-Err-Exists.field-0-is at (c.in-Err-Exists.ensures.answer x y told_x told_y)) (search rules)

pub returns-in-Err-Exists-clause-crash : goal.returns-in-Err-Exists-clause-crash
returns-in-Err-Exists-clause-crash g c x y told_x told_y a_settled b_settled none = absurd (true≢false (sym (rw c.in-Err-Exists.field-0-is at (c.in-Err-Exists.ensures.answer x y told_x told_y)) ∙ none))

pub returns-in-Err-Exists-clause-kept : goal.returns-in-Err-Exists-clause-kept
returns-in-Err-Exists-clause-kept g c x y told_x told_y made = (
  kept_from (g.D.Disk.state c.args.a.now) (g.D.Disk.state c.create.new.a) (c.create.ensures.kept x y told_x told_y made).0 (c.create.ensures.kept_a x y told_x told_y made) (λ honest. g.met.D.Disk.sound c.create.new.a (subst IsTrue (sym c.create.ensures.keeps_a.honest) honest)),
  kept_from (g.D.Disk.state c.args.b.now) (g.D.Disk.state c.create.new.b) (c.create.ensures.kept x y told_x told_y made).1 c.create.ensures.kept_b (λ honest. g.met.D.Disk.sound c.create.new.b (subst IsTrue (sym c.create.ensures.keeps_b.honest) honest)),
)

pub returns-in-Err-Full-clause-writes : goal.returns-in-Err-Full-clause-writes
returns-in-Err-Full-clause-writes g c x y told_x told_y =
    writes_full c.say-in-Err-Full.result (stream (g.K.Sink.taken c.args.out.now) (g.K.Sink.taken c.say-in-Err-Full.new.out) (g.K.Sink.faults c.args.out.now) (g.K.Sink.faults c.say-in-Err-Full.new.out)) c.args.limits.now x y (situation c.args.accepted.now.net c.args.accepted.now.at) c.in-Ok.base c.in-Ok.ensures.base (rw c.in-Err-Full.field-0-is at (c.in-Err-Full.ensures.answer x y told_x told_y)) (search rules)

pub returns-in-Err-Full-clause-crash : goal.returns-in-Err-Full-clause-crash
returns-in-Err-Full-clause-crash g c x y told_x told_y a_settled b_settled none =
    not_new (situation c.args.accepted.now.net c.args.accepted.now.at) c.in-Ok.base (g.D.Disk.state c.args.a.now) (g.D.Disk.state c.args.b.now) (g.D.Disk.state c.create.new.a) (g.D.Disk.state c.create.new.b) x y c.in-Ok.ensures.base c.in-Ok.ensures.stands a_settled b_settled told_x told_y (c.create.ensures.later x y told_x told_y a_settled.honest b_settled.honest)
    (g.met.D.Disk.sound c.create.new.a (subst IsTrue (sym c.create.ensures.keeps_a.honest) a_settled.honest)) (g.met.D.Disk.sound c.create.new.b (subst IsTrue (sym c.create.ensures.keeps_b.honest) b_settled.honest))
    (λ u v. c.create.ensures.any_moment x y u v told_x told_y a_settled.honest b_settled.honest (a_settled.only x told_x) (b_settled.only y told_y) (none_made _ none)) _ (not_done _ _ c.say-in-Err-Full.ensures.which (λ e. cc))

pub returns-in-Err-Full-clause-kept : goal.returns-in-Err-Full-clause-kept
returns-in-Err-Full-clause-kept g c x y told_x told_y made = (
  kept_from (g.D.Disk.state c.args.a.now) (g.D.Disk.state c.create.new.a) (c.create.ensures.kept x y told_x told_y made).0 (c.create.ensures.kept_a x y told_x told_y made) (λ honest. g.met.D.Disk.sound c.create.new.a (subst IsTrue (sym c.create.ensures.keeps_a.honest) honest)),
  kept_from (g.D.Disk.state c.args.b.now) (g.D.Disk.state c.create.new.b) (c.create.ensures.kept x y told_x told_y made).1 c.create.ensures.kept_b (λ honest. g.met.D.Disk.sound c.create.new.b (subst IsTrue (sym c.create.ensures.keeps_b.honest) honest)),
)

pub returns-in-Err-Failed-clause-writes : goal.returns-in-Err-Failed-clause-writes
returns-in-Err-Failed-clause-writes g c x y told_x told_y = said_nothing _ _ _ refl refl

pub returns-in-Err-Failed-clause-crash : goal.returns-in-Err-Failed-clause-crash
returns-in-Err-Failed-clause-crash g c x y told_x told_y a_settled b_settled none =
    not_new (situation c.args.accepted.now.net c.args.accepted.now.at) c.in-Ok.base (g.D.Disk.state c.args.a.now) (g.D.Disk.state c.args.b.now) (g.D.Disk.state c.create.new.a) (g.D.Disk.state c.create.new.b) x y c.in-Ok.ensures.base c.in-Ok.ensures.stands a_settled b_settled told_x told_y (c.create.ensures.later x y told_x told_y a_settled.honest b_settled.honest)
    (g.met.D.Disk.sound c.create.new.a (subst IsTrue (sym c.create.ensures.keeps_a.honest) a_settled.honest)) (g.met.D.Disk.sound c.create.new.b (subst IsTrue (sym c.create.ensures.keeps_b.honest) b_settled.honest))
    (λ u v. c.create.ensures.any_moment x y u v told_x told_y a_settled.honest b_settled.honest (a_settled.only x told_x) (b_settled.only y told_y) (none_made _ none)) _ (λ e. cc)

pub returns-in-Err-Failed-clause-kept : goal.returns-in-Err-Failed-clause-kept
returns-in-Err-Failed-clause-kept g c x y told_x told_y made = (
  kept_from (g.D.Disk.state c.args.a.now) (g.D.Disk.state c.create.new.a) (c.create.ensures.kept x y told_x told_y made).0 (c.create.ensures.kept_a x y told_x told_y made) (λ honest. g.met.D.Disk.sound c.create.new.a (subst IsTrue (sym c.create.ensures.keeps_a.honest) honest)),
  kept_from (g.D.Disk.state c.args.b.now) (g.D.Disk.state c.create.new.b) (c.create.ensures.kept x y told_x told_y made).1 c.create.ensures.kept_b (λ honest. g.met.D.Disk.sound c.create.new.b (subst IsTrue (sym c.create.ensures.keeps_b.honest) honest)),
)

pub returns-clause-writes : goal.returns-clause-writes
returns-clause-writes g c x y told_x told_y = said_nothing _ _ _ refl refl

pub returns-clause-crash : goal.returns-clause-crash
returns-clause-crash g c x y told_x told_y a_settled b_settled none =
    not_new (situation c.args.accepted.now.net c.args.accepted.now.at) c.in-Ok.base (g.D.Disk.state c.args.a.now) (g.D.Disk.state c.args.b.now) (g.D.Disk.state c.create.new.a) (g.D.Disk.state c.create.new.b) x y c.in-Ok.ensures.base c.in-Ok.ensures.stands a_settled b_settled told_x told_y (c.create.ensures.later x y told_x told_y a_settled.honest b_settled.honest)
    (g.met.D.Disk.sound c.create.new.a (subst IsTrue (sym c.create.ensures.keeps_a.honest) a_settled.honest)) (g.met.D.Disk.sound c.create.new.b (subst IsTrue (sym c.create.ensures.keeps_b.honest) b_settled.honest))
    (λ u v. c.create.ensures.any_moment x y u v told_x told_y a_settled.honest b_settled.honest (a_settled.only x told_x) (b_settled.only y told_y) (none_made _ none)) _ (λ e. cc)

pub returns-clause-kept : goal.returns-clause-kept
returns-clause-kept g c x y told_x told_y made = (
  kept_from (g.D.Disk.state c.args.a.now) (g.D.Disk.state c.create.new.a) (c.create.ensures.kept x y told_x told_y made).0 (c.create.ensures.kept_a x y told_x told_y made) (λ honest. g.met.D.Disk.sound c.create.new.a (subst IsTrue (sym c.create.ensures.keeps_a.honest) honest)),
  kept_from (g.D.Disk.state c.args.b.now) (g.D.Disk.state c.create.new.b) (c.create.ensures.kept x y told_x told_y made).1 c.create.ensures.kept_b (λ honest. g.met.D.Disk.sound c.create.new.b (subst IsTrue (sym c.create.ensures.keeps_b.honest) honest)),
)
