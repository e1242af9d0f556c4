use Rattle.std.proofs.Common.{◌≡◌, refl, sym, subst, ◌∙◌}
use Rattle.dbn_disk.specs.Images.{IsImage}
use Rattle.dbn_disk.specs.MemState.{present}
use Rattle.dbn_disk.specs.SoundLaws.{is_sound, present_image}
use Rattle.dbn_journal.specs.Records.{IsShutAt}
use Rattle.dbn_journal.proofs.Settled.{fresh_only, fresh_held, same_bytes}
use Rattle.dbn_journal.proofs.tests.make.Goals as goal

pub close_first-requires : goal.close_first-requires
close_first-requires c b told honest shut x image =
    let bytes = c.args.disk.now.first in
    subst (IsShutAt 0) (sym (fresh_only c.args.disk.now bytes c.requires.unused x image ∙ fresh_held c.args.disk.now bytes b c.requires.unused (same_bytes _ b told))) shut

pub fill-requires-clause-shut : goal.fill-requires-clause-shut
fill-requires-clause-shut c b told honest x image = c.in_ok-close_first.ensures.shut (present c.args.disk.now).held refl honest x image

pub open_first-requires : goal.open_first-requires
open_first-requires c b told honest =
    let old = (present c.close_first.new.disk).held in
    let held : (present c.fill.new.disk).held ≡ b = same_bytes _ b told in
    let here : IsImage (present c.fill.new.disk) b = subst (IsImage (present c.fill.new.disk)) held (present_image c.fill.new.disk) in
    let work = c.fill.ensures.any_moment old refl honest in (
      work.each b ((is_sound c.fill.new.disk).now _ b work.later here),
      λ x image. c.in_ok-fill.ensures.durable old refl honest x image ∙ sym (c.in_ok-fill.ensures.durable old refl honest b here),
    )
