use Rattle.std.proofs.Common.{◌≡◌, Some, IsTrue, subst, sym, ◌∙◌}
use Rattle.dbn_journal.specs.Records.{appended}
use Rattle.dbn_journal.proofs.Appends.{staged, at_start, with_staged, with_gate, staged_content, opened_content}
use Rattle.dbn_journal.proofs.Walks.{leaves_records}
use Rattle.dbn_journal.proofs.add.append.Goals as goal

pub returns-in_err-rest-clause-any_moment : goal.returns-in_err-rest-clause-any_moment
returns-in_err-rest-clause-any_moment g c b told honest =
    let old = g.D.Disk.state c.args.disk.now in
    at_start old old old c.args.end c.args.body.now b (g.met.D.Disk.sound c.args.disk.now honest) told (c.requires.shut b told honest)

pub returns-in_err-write_through-clause-any_moment : goal.returns-in_err-write_through-clause-any_moment
returns-in_err-write_through-clause-any_moment g c b told honest =
    let old = g.D.Disk.state c.args.disk.now in
    let mid = g.D.Disk.state c.write_through.new.disk in
    with_staged old mid mid c.args.end c.args.body.now b (g.met.D.Disk.sound c.args.disk.now honest) told (c.requires.shut b told honest) _ (c.write_through.ensures.any_moment honest)

pub returns-in_err-write_through-2-clause-any_moment : goal.returns-in_err-write_through-2-clause-any_moment
returns-in_err-write_through-2-clause-any_moment g c b told honest =
    let old = g.D.Disk.state c.args.disk.now in
    let mid = g.D.Disk.state c.write_through.new.disk in
    let new = g.D.Disk.state c.write_through-2.new.disk in
    let sound = g.met.D.Disk.sound c.args.disk.now honest in
    let shut = c.requires.shut b told honest in
    let held : mid.content ≡ Some (staged c.args.end c.args.body.now b) = staged_content old.content mid.content c.args.end c.as_slice.result.now c.args.body.now b c.in_ok-write_through.ensures.value told (c.as_slice.ensures.value ∙ c.in_ok-rest.ensures.bytes) in
    with_gate old mid new c.args.end c.args.body.now b sound told shut (with_staged old mid mid c.args.end c.args.body.now b sound told shut _ (c.write_through.ensures.any_moment honest))
    (c.in_ok-write_through.ensures.durable (staged c.args.end c.args.body.now b) honest held) (c.write_through-2.ensures.any_moment (subst IsTrue (sym c.write_through.ensures.keeps.honest) honest))

pub returns-clause-any_moment : goal.returns-clause-any_moment
returns-clause-any_moment g c b told honest =
    let old = g.D.Disk.state c.args.disk.now in
    let mid = g.D.Disk.state c.write_through.new.disk in
    let new = g.D.Disk.state c.write_through-2.new.disk in
    let sound = g.met.D.Disk.sound c.args.disk.now honest in
    let shut = c.requires.shut b told honest in
    let held : mid.content ≡ Some (staged c.args.end c.args.body.now b) = staged_content old.content mid.content c.args.end c.as_slice.result.now c.args.body.now b c.in_ok-write_through.ensures.value told (c.as_slice.ensures.value ∙ c.in_ok-rest.ensures.bytes) in
    with_gate old mid new c.args.end c.args.body.now b sound told shut (with_staged old mid mid c.args.end c.args.body.now b sound told shut _ (c.write_through.ensures.any_moment honest))
    (c.in_ok-write_through.ensures.durable (staged c.args.end c.args.body.now b) honest held) (c.write_through-2.ensures.any_moment (subst IsTrue (sym c.write_through.ensures.keeps.honest) honest))

pub returns-clause-durable : goal.returns-clause-durable
returns-clause-durable g c b told honest =
    let old = g.D.Disk.state c.args.disk.now in
    let mid = g.D.Disk.state c.write_through.new.disk in
    let new = g.D.Disk.state c.write_through-2.new.disk in
    let held : mid.content ≡ Some (staged c.args.end c.args.body.now b) = staged_content old.content mid.content c.args.end c.as_slice.result.now c.args.body.now b c.in_ok-write_through.ensures.value told (c.as_slice.ensures.value ∙ c.in_ok-rest.ensures.bytes) in
    let last : new.content ≡ Some (appended c.args.end c.args.body.now b) = opened_content mid.content new.content c.args.end c.args.body.now b c.in_ok-write_through-2.ensures.value held in
    c.in_ok-write_through-2.ensures.durable (appended c.args.end c.args.body.now b) (subst IsTrue (sym c.write_through.ensures.keeps.honest) honest) last

pub returns-in_err-rest-clause-stands : goal.returns-in_err-rest-clause-stands
returns-in_err-rest-clause-stands g c b told honest =
    leaves_records (g.D.Disk.state c.args.disk.now) (g.D.Disk.state c.args.disk.now) c.args.end c.args.body.now b (returns-in_err-rest-clause-any_moment g c b told honest) c.requires.size
    (c.requires.shut b told honest b ((g.met.D.Disk.sound c.args.disk.now honest).held b told))

pub returns-in_err-write_through-clause-stands : goal.returns-in_err-write_through-clause-stands
returns-in_err-write_through-clause-stands g c b told honest =
    leaves_records (g.D.Disk.state c.args.disk.now) (g.D.Disk.state c.write_through.new.disk) c.args.end c.args.body.now b (returns-in_err-write_through-clause-any_moment g c b told honest) c.requires.size
    (c.requires.shut b told honest b ((g.met.D.Disk.sound c.args.disk.now honest).held b told))

pub returns-in_err-write_through-2-clause-stands : goal.returns-in_err-write_through-2-clause-stands
returns-in_err-write_through-2-clause-stands g c b told honest =
    leaves_records (g.D.Disk.state c.args.disk.now) (g.D.Disk.state c.write_through-2.new.disk) c.args.end c.args.body.now b (returns-in_err-write_through-2-clause-any_moment g c b told honest) c.requires.size
    (c.requires.shut b told honest b ((g.met.D.Disk.sound c.args.disk.now honest).held b told))

pub returns-clause-stands : goal.returns-clause-stands
returns-clause-stands g c b told honest =
    leaves_records (g.D.Disk.state c.args.disk.now) (g.D.Disk.state c.write_through-2.new.disk) c.args.end c.args.body.now b (returns-clause-any_moment g c b told honest) c.requires.size
    (c.requires.shut b told honest b ((g.met.D.Disk.sound c.args.disk.now honest).held b told))
