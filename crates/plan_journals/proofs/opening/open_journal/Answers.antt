use Rattle.plan_journals.proofs.Growing.{back_others, back_rose, back_unwritten, kept_back, one_grows}
use Rattle.plan_journals.specs.Open.{held_of, new_start}
use Rattle.plan_journals.proofs.Openings.{opened_now, refused_disk, refused_rose, refused_same}
use Rattle.plan_journals.proofs.opening.open_journal.Goals as goal

pub returns-in-Ok-create-clause-made : goal.returns-in-Ok-create-clause-made
returns-in-Ok-create-clause-made g c =
    opened_now _ (new_start c.args.log_sectors c.args.store.now) _ (held_of c.in-Ok-create.book) c.in-Ok-create.ensures.opened c.in-Ok-create.ensures.ready (λ t. record { hands = c.in-Ok.ensures.hands t; fits = record { tale = g.met.Y.Disk.Disk.is_tale c.in-Ok.disk; untold = g.met.Y.Disk.Disk.untold c.in-Ok.disk } }) c.one_history.ensures.over

pub returns-in-NoMemory-clause-grows : goal.returns-in-NoMemory-clause-grows
returns-in-NoMemory-clause-grows g c =
    one_grows _ _ _ (new_start c.args.log_sectors c.args.store.now) _ (kept_back _ _ _ _ _ _ _ c.in-Ok.ensures.opens.tells c.in-Ok.ensures.opens.disks c.keep_disk.ensures.disks) (λ t. refused_disk c.args.store.now c.args.log_sectors _ _ _ _ (record { hands = c.in-Ok.ensures.hands t; fits = record { tale = g.met.Y.Disk.Disk.is_tale c.in-Ok.disk; untold = g.met.Y.Disk.Disk.untold c.in-Ok.disk } }) c.in-Err.ensures.refused)

pub returns-in-NoMemory-clause-others : goal.returns-in-NoMemory-clause-others
returns-in-NoMemory-clause-others g c = back_others _ _ _ _ _ (kept_back _ _ _ _ _ _ _ c.in-Ok.ensures.opens.tells c.in-Ok.ensures.opens.disks c.keep_disk.ensures.disks)

pub returns-in-NoMemory-clause-memory : goal.returns-in-NoMemory-clause-memory
returns-in-NoMemory-clause-memory g c is =
    back_unwritten _ _ _ _ _ _ (kept_back _ _ _ _ _ _ _ c.in-Ok.ensures.opens.tells c.in-Ok.ensures.opens.disks c.keep_disk.ensures.disks) (λ t. record { hands = c.in-Ok.ensures.hands t; fits = record { tale = g.met.Y.Disk.Disk.is_tale c.in-Ok.disk; untold = g.met.Y.Disk.Disk.untold c.in-Ok.disk } })
    (refused_same c.args.store.now c.args.log_sectors _ _ _ c.in-NoMemory.is c.in-Err.ensures.refused)

pub returns-in_default-clause-grows : goal.returns-in_default-clause-grows
returns-in_default-clause-grows g c =
    one_grows _ _ _ (new_start c.args.log_sectors c.args.store.now) _ (kept_back _ _ _ _ _ _ _ c.in-Ok.ensures.opens.tells c.in-Ok.ensures.opens.disks c.keep_disk.ensures.disks) (λ t. refused_disk c.args.store.now c.args.log_sectors _ _ _ _ (record { hands = c.in-Ok.ensures.hands t; fits = record { tale = g.met.Y.Disk.Disk.is_tale c.in-Ok.disk; untold = g.met.Y.Disk.Disk.untold c.in-Ok.disk } }) c.in-Err.ensures.refused)

pub returns-in_default-clause-others : goal.returns-in_default-clause-others
returns-in_default-clause-others g c = back_others _ _ _ _ _ (kept_back _ _ _ _ _ _ _ c.in-Ok.ensures.opens.tells c.in-Ok.ensures.opens.disks c.keep_disk.ensures.disks)

pub returns-in_default-clause-disk_fault : goal.returns-in_default-clause-disk_fault
returns-in_default-clause-disk_fault g c is t =
    back_rose _ _ _ _ _ _ (kept_back _ _ _ _ _ _ _ c.in-Ok.ensures.opens.tells c.in-Ok.ensures.opens.disks c.keep_disk.ensures.disks) t (record { hands = c.in-Ok.ensures.hands t; fits = record { tale = g.met.Y.Disk.Disk.is_tale c.in-Ok.disk; untold = g.met.Y.Disk.Disk.untold c.in-Ok.disk } })
    (refused_rose c.args.store.now _ _ _ _ c.in_default.not-NoMemory c.in-Err.ensures.refused)
