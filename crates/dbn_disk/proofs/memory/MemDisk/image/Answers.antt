use Rattle.std.proofs.Common.{take, ◌∙◌, ap, subst, sym, arith}
use Rattle.std.proofs.lemmas.Result.{IfOk-weaker}
use Rattle.dbn_disk.specs.Images.{IsImage, moment_at, settled}
use Rattle.dbn_disk.specs.MemState.{MemState}
use Rattle.dbn_disk.specs.SoundLaws.{held_is_image, settled_image}
use Rattle.dbn_disk.proofs.PickedLaws.{image_of-IsImage, image_of-each}
use Rattle.dbn_disk.proofs.memory.MemDisk.image.Goals as goal

pub returns-clause-is_image : goal.returns-clause-is_image
returns-clause-is_image c =
    let m = moment_at c.args.self.now.first c.args.self.now.calls c.args.pick.now.moment in
    let held = held_is_image (settled c.args.self.now.first) (take c.args.pick.now.moment c.args.self.now.calls) (settled_image c.args.self.now.first) in
    IfOk-weaker c.picked.result _ _ (λ disk made. subst (IsImage m) (sym (ap (λ (d : MemState). d.first) made)) (image_of-IsImage m c.args.pick.now.len c.args.pick.now.loose (omega (arith, held.least, held.most)))) c.picked.ensures

pub returns-clause-each : goal.returns-clause-each
returns-clause-each c =
    let m = moment_at c.args.self.now.first c.args.self.now.calls c.args.pick.now.moment in
    IfOk-weaker c.picked.result _ _ (λ disk made bytes image len_is loose_is. ap (λ (d : MemState). d.first) made ∙ image_of-each m bytes c.args.pick.now.len c.args.pick.now.loose image len_is loose_is) c.picked.ensures
