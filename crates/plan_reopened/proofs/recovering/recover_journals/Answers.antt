use Rattle.std.proofs.Common.{ap, length, ◌∙◌}
use Rattle.plan_journals.proofs.Growing.{leaves_then}
use Rattle.plan_journals.specs.Open.{journals_are_out}
use Rattle.plan_reopened.proofs.Keeping.{stay_on}
use Rattle.plan_reopened.proofs.Recoveries.{all_recovered, all_stop, held_disks, held_few, held_out, told_still}
use Rattle.plan_reopened.proofs.recovering.recover_journals.Goals as goal

pub returns-in-Ok-clause-recovers : goal.returns-in-Ok-clause-recovers
returns-in-Ok-clause-recovers g c = all_recovered g.Y.Disk.Disk.seen _ _ _ _ _ _ _ _ _ c.new-disks.ensures.items c.new-found.ensures.items c.in-Ok.ensures.recovers

pub give_back-requires-clause-few : goal.give_back-requires-clause-few
give_back-requires-clause-few g c κs within = held_few g.Y.Disk.Disk.seen _ _ _ _ (held_disks g.Y.Disk.Disk.seen _ _ _ _ _ _ _ _ c.new-disks.ensures.items c.requires.apart c.in-Err.ensures.stops)

pub give_back-requires-clause-out : goal.give_back-requires-clause-out
give_back-requires-clause-out g c κs within = journals_are_out _ (held_out g.Y.Disk.Disk.seen _ _ _ _ (held_disks g.Y.Disk.Disk.seen _ _ _ _ _ _ _ _ c.new-disks.ensures.items c.requires.apart c.in-Err.ensures.stops))

pub returns-in-Err-clause-leaves : goal.returns-in-Err-clause-leaves
returns-in-Err-clause-leaves g c = leaves_then _ _ _ c.recover_all.ensures.leaves c.give_back.ensures.leaves

pub returns-in-Err-clause-not_taken : goal.returns-in-Err-clause-not_taken
returns-in-Err-clause-not_taken g c =
    c.give_back.ensures.back _ (held_out g.Y.Disk.Disk.seen _ _ _ _ (held_disks g.Y.Disk.Disk.seen _ _ _ _ _ _ _ _ c.new-disks.ensures.items c.requires.apart c.in-Err.ensures.stops))

pub returns-in-Err-clause-journals : goal.returns-in-Err-clause-journals
returns-in-Err-clause-journals g c =
    let h = held_disks g.Y.Disk.Disk.seen _ _ _ _ _ _ _ _ c.new-disks.ensures.items c.requires.apart c.in-Err.ensures.stops in
    stay_on _ _ _ c.recover_all.ensures.journals (c.give_back.ensures.same (λ t. h.kept (told_still _ _ c.recover_all.ensures.leaves t)))

pub returns-in-Err-clause-stops : goal.returns-in-Err-clause-stops
returns-in-Err-clause-stops g c =
    let h = held_disks g.Y.Disk.Disk.seen _ _ _ _ _ _ _ _ c.new-disks.ensures.items c.requires.apart c.in-Err.ensures.stops in
    all_stop _ _ _ _ _ _ _ _ _ c.give_back.ensures.faults (c.give_back.ensures.same (λ t. h.kept (told_still _ _ c.recover_all.ensures.leaves t))) c.in-Err.ensures.stops

pub returns-in-Err-clause-disk_quiet : goal.returns-in-Err-clause-disk_quiet
returns-in-Err-clause-disk_quiet g c j m path =
    let h = held_disks g.Y.Disk.Disk.seen _ _ _ _ _ _ _ _ c.new-disks.ensures.items c.requires.apart c.in-Err.ensures.stops in
    c.give_back.ensures.same (λ t. h.kept (told_still _ _ c.recover_all.ensures.leaves t)) path ∙ c.in-Err.ensures.disk_quiet (λ e. j (cc e)) (λ e. m (cc e)) path

pub returns-in-Err-clause-silent : goal.returns-in-Err-clause-silent
returns-in-Err-clause-silent g c failed =
    c.give_back.ensures.none ((c.recover_all.ensures.silent failed).1 ∙ ap length c.new-disks.ensures.items) ∙ (c.recover_all.ensures.silent failed).0
