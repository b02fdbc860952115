use Rattle.plan_journals.specs.Open.{held_of}
use Rattle.plan_journals.proofs.Growing.{back_others, back_rose, one_grows}
use Rattle.plan_reopened.specs.Reopening.{next_start}
use Rattle.plan_reopened.proofs.Keeping.{back_same, handed_as_kept, leaves_given}
use Rattle.plan_reopened.proofs.Reopenings.{kept_same, opened_on, refused_disk, refused_epoch, refused_low, refused_rose, refused_same, reopened_now}
use Rattle.plan_reopened.proofs.reopening.reopen_journal.Goals as goal

pub returns-in-Ok-clause-opened : goal.returns-in-Ok-clause-opened
returns-in-Ok-clause-opened g c =
    reopened_now _ c.args.store.now c.args.live.now c.args.entries.items _ (held_of c.in-Ok.book) c.requires.ready.its_id c.in-Ok.ensures.opened c.in-Ok.ensures.ready (λ t. handed_as_kept _ _ (c.requires.kept t) (record { tale = g.met.Y.Disk.Disk.is_tale c.args.disk; untold = g.met.Y.Disk.Disk.untold c.args.disk })) c.one_history.ensures.over

pub returns-in-Ok-clause-its_disk : goal.returns-in-Ok-clause-its_disk
returns-in-Ok-clause-its_disk g c = opened_on _ _ _ (held_of c.in-Ok.book) c.in-Ok.ensures.opened

pub returns-in-EpochEnd-clause-grows : goal.returns-in-EpochEnd-clause-grows
returns-in-EpochEnd-clause-grows g c =
    one_grows _ _ _ (next_start c.args.store.now c.args.live.now c.args.entries.items) _ c.keep_disk.ensures.disks (λ t. refused_disk c.args.store.now c.args.live.now c.args.entries.items _ _ _ _ c.requires.ready.its_id (handed_as_kept _ _ (c.requires.kept t) (record { tale = g.met.Y.Disk.Disk.is_tale c.args.disk; untold = g.met.Y.Disk.Disk.untold c.args.disk })) c.in-Err.ensures.refused)

pub returns-in-EpochEnd-clause-others : goal.returns-in-EpochEnd-clause-others
returns-in-EpochEnd-clause-others g c = back_others _ _ _ _ _ c.keep_disk.ensures.disks

pub returns-in-EpochEnd-clause-leaves : goal.returns-in-EpochEnd-clause-leaves
returns-in-EpochEnd-clause-leaves g c = leaves_given _ _ _ _ c.keep_disk.ensures.back c.keep_disk.ensures.counts c.keep_disk.ensures.contents

pub returns-in-EpochEnd-clause-disk_quiet : goal.returns-in-EpochEnd-clause-disk_quiet
returns-in-EpochEnd-clause-disk_quiet g c quiet =
    back_same _ _ _ _ _ c.keep_disk.ensures.disks (λ t. kept_same _ _ _ (refused_same c.args.live.now c.args.entries.items _ _ _ (λ e. cc (e, c.in-EpochEnd.is)) c.in-Err.ensures.refused) (c.requires.kept t))

pub returns-in-EpochEnd-clause-epoch_end : goal.returns-in-EpochEnd-clause-epoch_end
returns-in-EpochEnd-clause-epoch_end g c is = refused_epoch c.args.live.now c.args.entries.items _ _ _ _ c.in-EpochEnd.is c.in-Err.ensures.refused

pub returns-in-Failed-clause-grows : goal.returns-in-Failed-clause-grows
returns-in-Failed-clause-grows g c =
    one_grows _ _ _ (next_start c.args.store.now c.args.live.now c.args.entries.items) _ c.keep_disk.ensures.disks (λ t. refused_disk c.args.store.now c.args.live.now c.args.entries.items _ _ _ _ c.requires.ready.its_id (handed_as_kept _ _ (c.requires.kept t) (record { tale = g.met.Y.Disk.Disk.is_tale c.args.disk; untold = g.met.Y.Disk.Disk.untold c.args.disk })) c.in-Err.ensures.refused)

pub returns-in-Failed-clause-others : goal.returns-in-Failed-clause-others
returns-in-Failed-clause-others g c = back_others _ _ _ _ _ c.keep_disk.ensures.disks

pub returns-in-Failed-clause-leaves : goal.returns-in-Failed-clause-leaves
returns-in-Failed-clause-leaves g c = leaves_given _ _ _ _ c.keep_disk.ensures.back c.keep_disk.ensures.counts c.keep_disk.ensures.contents

pub returns-in-Failed-clause-disk_fault : goal.returns-in-Failed-clause-disk_fault
returns-in-Failed-clause-disk_fault g c is t =
    back_rose _ _ _ _ _ _ c.keep_disk.ensures.disks t (handed_as_kept _ _ (c.requires.kept t) (record { tale = g.met.Y.Disk.Disk.is_tale c.args.disk; untold = g.met.Y.Disk.Disk.untold c.args.disk })) (refused_rose c.args.live.now c.args.entries.items _ _ _ c.in-Failed.is c.in-Err.ensures.refused)

pub returns-in-Failed-clause-low : goal.returns-in-Failed-clause-low
returns-in-Failed-clause-low g c isnt = refused_low c.args.live.now c.args.entries.items _ _ _ (λ epoch e. cc (e, c.in-Failed.is)) c.in-Err.ensures.refused

pub returns-in-NoMemory-clause-grows : goal.returns-in-NoMemory-clause-grows
returns-in-NoMemory-clause-grows g c =
    one_grows _ _ _ (next_start c.args.store.now c.args.live.now c.args.entries.items) _ c.keep_disk.ensures.disks (λ t. refused_disk c.args.store.now c.args.live.now c.args.entries.items _ _ _ _ c.requires.ready.its_id (handed_as_kept _ _ (c.requires.kept t) (record { tale = g.met.Y.Disk.Disk.is_tale c.args.disk; untold = g.met.Y.Disk.Disk.untold c.args.disk })) c.in-Err.ensures.refused)

pub returns-in-NoMemory-clause-others : goal.returns-in-NoMemory-clause-others
returns-in-NoMemory-clause-others g c = back_others _ _ _ _ _ c.keep_disk.ensures.disks

pub returns-in-NoMemory-clause-leaves : goal.returns-in-NoMemory-clause-leaves
returns-in-NoMemory-clause-leaves g c = leaves_given _ _ _ _ c.keep_disk.ensures.back c.keep_disk.ensures.counts c.keep_disk.ensures.contents

pub returns-in-NoMemory-clause-disk_quiet : goal.returns-in-NoMemory-clause-disk_quiet
returns-in-NoMemory-clause-disk_quiet g c quiet =
    back_same _ _ _ _ _ c.keep_disk.ensures.disks (λ t. kept_same _ _ _ (refused_same c.args.live.now c.args.entries.items _ _ _ (λ e. cc (e, c.in-NoMemory.is)) c.in-Err.ensures.refused) (c.requires.kept t))

pub returns-in-NoMemory-clause-low : goal.returns-in-NoMemory-clause-low
returns-in-NoMemory-clause-low g c isnt = refused_low c.args.live.now c.args.entries.items _ _ _ (λ epoch e. cc (e, c.in-NoMemory.is)) c.in-Err.ensures.refused
