use Rattle.std.proofs.Common.{ap, ◌∙◌}
use Rattle.vd_disk.specs.Disk.{DiskSeen}
use Rattle.still_store.proofs.Frames.{journals_stay, disks_same, kept_others, told_absent}
use Rattle.still_store.proofs.Refusals.{never_recovered}
use Rattle.still_store.proofs.recovery.recover_store.Goals as goal

pub returns-in-Ok-answer-clause-journals : goal.returns-in-Ok-answer-clause-journals
returns-in-Ok-answer-clause-journals g c =
    journals_stay _ _ _ _ _ _ _ c.disk.ensures.opens.disks c.keep_disk.ensures.disks c.in-Ok.ensures.told (told_absent _ _ _ c.disk.ensures.opens.tells c.in-Ok.ensures.absent) c.recovered-answer.ensures.same c.recovered-answer.ensures.later

pub returns-in-Err-clause-journals : goal.returns-in-Err-clause-journals
returns-in-Err-clause-journals g c =
    journals_stay _ _ _ _ _ _ _ c.disk.ensures.opens.disks c.keep_disk.ensures.disks c.in-Ok.ensures.told (told_absent _ _ _ c.disk.ensures.opens.tells c.in-Ok.ensures.absent) c.recovered-answer.ensures.same c.recovered-answer.ensures.later

pub returns-in-Ok-answer-clause-disk_quiet : goal.returns-in-Ok-answer-clause-disk_quiet
returns-in-Ok-answer-clause-disk_quiet g c not_failed =
    disks_same _ _ _ _ _ _ _ c.disk.ensures.opens.disks c.keep_disk.ensures.disks c.in-Ok.ensures.told (told_absent _ _ _ c.disk.ensures.opens.tells c.in-Ok.ensures.absent) c.recovered-answer.ensures.same (c.in-Ok-answer.ensures.kept (λ e. cc))

pub returns-in-Err-clause-disk_quiet : goal.returns-in-Err-clause-disk_quiet
returns-in-Err-clause-disk_quiet g c not_failed =
    disks_same _ _ _ _ _ _ _ c.disk.ensures.opens.disks c.keep_disk.ensures.disks c.in-Ok.ensures.told (told_absent _ _ _ c.disk.ensures.opens.tells c.in-Ok.ensures.absent) c.recovered-answer.ensures.same (c.in-Err.ensures.kept (λ e. not_failed (cc e)))

pub returns-in-Ok-answer-clause-refused : goal.returns-in-Ok-answer-clause-refused
returns-in-Ok-answer-clause-refused g c refused =
    never_recovered _ c.args.store.now c.in-Ok-answer.found c.gives_once.ensures c.in-Ok.ensures.absent
    (λ disk kept sectors told. c.in-Ok-answer.ensures.gives sectors (ap (λ (d : DiskSeen). d.told) (c.in-Ok.ensures.told disk kept) ∙ told)) refused

pub returns-in-Ok-answer-clause-others : goal.returns-in-Ok-answer-clause-others
returns-in-Ok-answer-clause-others g c = kept_others _ _ _ _ _ _ c.disk.ensures.opens.disks c.keep_disk.ensures.disks

pub returns-in-Err-clause-others : goal.returns-in-Err-clause-others
returns-in-Err-clause-others g c = kept_others _ _ _ _ _ _ c.disk.ensures.opens.disks c.keep_disk.ensures.disks

pub returns-in-Ok-answer-clause-usable : goal.returns-in-Ok-answer-clause-usable
returns-in-Ok-answer-clause-usable g c = (_, c.in-Ok-answer.ensures.usable)
