use Rattle.std.proofs.Common.{◌≡◌, List, ◌∷◌, [], ◌++◌, not, take, OnOk, ap, subst, ◌∙◌, arith}
use Rattle.std.specs.Option.{option_map}
use Rattle.dbn_disk.specs.Disk.{Elapses, Follows, Cut as CutStep}
use Rattle.dbn_disk.specs.Images.{IsImage}
use Rattle.dbn_disk.specs.MemState.{MemState, present, disk_state}
use Rattle.dbn_disk.specs.declared.log.Call.{Call}
use Rattle.dbn_disk.specs.declared.log.Call.TheVariants.{Cut}
use Rattle.dbn_disk.proofs.Present.{state, cut_fields, cut_value, cut_crash, cut_time}
use Rattle.dbn_disk.proofs.memory.MemDiskDisk.cut.Goals as goal

noted : (c : goal.After-outcome) → c.note.new.calls.items ≡ c.self.inside.calls.items ++ Cut c.args.to (not c.fails_next-done.result) ∷ []
noted c = c.note.ensures.items ∙ ap (λ (l : List Call). l ++ Cut c.args.to (not c.fails_next-done.result) ∷ []) c.reserve.ensures.items

pub invariant_of-self-2 : goal.invariant_of-self-2
invariant_of-self-2 c =
    cut_fields c.self.inside.first c.self.inside.calls.items c.note.new.calls.items c.self.inside.plan c.fails_next-done.new.self c.args.to (not c.fails_next-done.result) (noted c)
    c.self.inside.held.items _ _ _ c.self.invariant.held_is c.cut_if.ensures c.self.invariant.sized (omega (arith, c.in-Ok.ensures.ok))

pub returns-clause-value : goal.returns-clause-value
returns-clause-value c =
    subst (λ (old : MemState). OnOk c.outcome.result ((disk_state (state c.self.inside.first c.note.new.calls.items c.fails_next-done.new.self)).content ≡ option_map (take c.args.to) (disk_state old).content)) c.self.view_is
    (cut_value c.self.inside.first c.self.inside.calls.items c.note.new.calls.items c.self.inside.plan c.fails_next-done.new.self c.args.to (not c.fails_next-done.result) (noted c) c.outcome.result c.outcome.ensures)

pub returns-clause-crash : goal.returns-clause-crash
returns-clause-crash c honest =
    subst (λ (old : MemState). Follows (CutStep c.args.to) (IsImage (present old)) (IsImage (present (state c.self.inside.first c.note.new.calls.items c.fails_next-done.new.self)))) c.self.view_is
    (cut_crash c.self.inside.first c.self.inside.calls.items c.note.new.calls.items c.self.inside.plan c.fails_next-done.new.self c.args.to (not c.fails_next-done.result) (noted c))

pub returns-clause-time : goal.returns-clause-time
returns-clause-time c honest =
    subst (λ (old : MemState). Elapses (disk_state old) (disk_state (state c.self.inside.first c.note.new.calls.items c.fails_next-done.new.self))) c.self.view_is
    (cut_time c.self.inside.first c.self.inside.calls.items c.note.new.calls.items c.self.inside.plan c.fails_next-done.new.self c.args.to (not c.fails_next-done.result) (noted c))
