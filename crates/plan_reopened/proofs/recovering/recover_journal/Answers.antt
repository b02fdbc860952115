use Rattle.std.proofs.Common.{ap, ◌∙◌}
use Rattle.vd_disk.specs.Disk.{DiskSeen}
use Rattle.still_store.proofs.Frames.{disks_same, journals_same, journals_stay, kept_others, told_absent}
use Rattle.still_store.proofs.Refusals.{never_recovered}
use Rattle.plan_reopened.proofs.Recoveries.{found_so, read_rose}
use Rattle.plan_reopened.proofs.recovering.recover_journal.Goals as goal

pub returns-in-Ok-recovered-clause-gives : goal.returns-in-Ok-recovered-clause-gives
returns-in-Ok-recovered-clause-gives g c =
    found_so _ _ _ _ _ c.in-Ok.ensures.told c.in-Ok.ensures.absent c.recovered.ensures.same (c.in-Ok-recovered.ensures.kept (λ e. cc)) c.in-Ok-recovered.ensures.gives c.in-Ok-recovered.ensures.usable
    (record { tale = g.met.Y.Disk.Disk.is_tale c.recovered.new.disk; untold = g.met.Y.Disk.Disk.untold c.recovered.new.disk })

pub returns-in-Ok-recovered-clause-refused : goal.returns-in-Ok-recovered-clause-refused
returns-in-Ok-recovered-clause-refused g c refused =
    never_recovered _ c.args.store.now c.in-Ok-recovered.found c.gives_once.ensures c.in-Ok.ensures.absent
    (λ disk kept sectors told. c.in-Ok-recovered.ensures.gives sectors (ap (λ (d : DiskSeen). d.told) (c.in-Ok.ensures.told disk kept) ∙ told)) refused

pub returns-in-Err-clause-journals : goal.returns-in-Err-clause-journals
returns-in-Err-clause-journals g c =
    journals_stay _ _ _ _ _ _ _ c.disk.ensures.opens.disks c.keep_disk.ensures.disks c.in-Ok.ensures.told (told_absent _ _ _ c.disk.ensures.opens.tells c.in-Ok.ensures.absent) c.recovered.ensures.same c.recovered.ensures.later

pub returns-in-Err-clause-disk_quiet : goal.returns-in-Err-clause-disk_quiet
returns-in-Err-clause-disk_quiet g c not_failed =
    disks_same _ _ _ _ _ _ _ c.disk.ensures.opens.disks c.keep_disk.ensures.disks c.in-Ok.ensures.told (told_absent _ _ _ c.disk.ensures.opens.tells c.in-Ok.ensures.absent) c.recovered.ensures.same (c.in-Err.ensures.kept (λ e. not_failed (cc e)))

pub returns-in-Err-clause-others : goal.returns-in-Err-clause-others
returns-in-Err-clause-others g c = kept_others _ _ _ _ _ _ c.disk.ensures.opens.disks c.keep_disk.ensures.disks

pub returns-in-Err-Failed-clause-journals : goal.returns-in-Err-Failed-clause-journals
returns-in-Err-Failed-clause-journals g c = journals_same _ _ c.disk.ensures.opens.disks

pub returns-in-Err-NoMemory-clause-journals : goal.returns-in-Err-NoMemory-clause-journals
returns-in-Err-NoMemory-clause-journals g c = journals_same _ _ c.disk.ensures.opens.disks

pub returns-in-Ok-recovered-clause-journals : goal.returns-in-Ok-recovered-clause-journals
returns-in-Ok-recovered-clause-journals g c = journals_same _ _ c.disk.ensures.opens.disks

pub returns-in-Err-clause-disk_fault : goal.returns-in-Err-clause-disk_fault
returns-in-Err-clause-disk_fault g c e keeps disk now kept is =
    read_rose _ _ _ _ _ _ _ _ c.disk.ensures.opens.tells c.keep_disk.ensures.disks keeps c.in-Ok.ensures.told (c.in-Err.ensures.failed (cc e)) disk now kept is
