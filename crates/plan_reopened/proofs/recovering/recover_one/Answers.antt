use Rattle.still_plan.proofs.Sayings.{stop_said, stop_unrecovered}
use Rattle.plan_journals.proofs.Growing.{leaves_then}
use Rattle.plan_reopened.proofs.Keeping.{leaves_given, stay_at}
use Rattle.plan_reopened.proofs.Recoveries.{recovered_back}
use Rattle.plan_reopened.proofs.recovering.recover_one.Goals as goal

pub returns-in-Err-clause-leaves : goal.returns-in-Err-clause-leaves
returns-in-Err-clause-leaves g c = leaves_then _ _ _ c.recover_journal.ensures.leaves (leaves_given _ _ _ _ c.keep_disk.ensures.back c.keep_disk.ensures.counts c.keep_disk.ensures.contents)

pub returns-in-Err-clause-journals : goal.returns-in-Err-clause-journals
returns-in-Err-clause-journals g c = stay_at _ _ (recovered_back _ _ _ _ _ _ c.recover_journal.ensures.leaves c.in-Ok.ensures.same c.in-Ok.ensures.gives c.keep_disk.ensures.disks)

pub returns-in-Err-clause-others : goal.returns-in-Err-clause-others
returns-in-Err-clause-others g c path other = recovered_back _ _ _ _ _ _ c.recover_journal.ensures.leaves c.in-Ok.ensures.same c.in-Ok.ensures.gives c.keep_disk.ensures.disks path

pub returns-in-Err-clause-disk_quiet : goal.returns-in-Err-clause-disk_quiet
returns-in-Err-clause-disk_quiet g c j m path = recovered_back _ _ _ _ _ _ c.recover_journal.ensures.leaves c.in-Ok.ensures.same c.in-Ok.ensures.gives c.keep_disk.ensures.disks path

pub returns-in-Err-clause-stops : goal.returns-in-Err-clause-stops
returns-in-Err-clause-stops g c =
    stop_said _ _ c.args.store.now c.in-Ok.one.found c.in-Err.status _ _ c.in-Ok.ensures.gives.recovers c.in-Err.ensures.why (λ e. c.in-Err.ensures.unsaid (cc e)) (λ e. (c.in-Err.ensures.failed (cc e)).1)

pub returns-in-Err-Refused-clause-stops : goal.returns-in-Err-Refused-clause-stops
returns-in-Err-Refused-clause-stops g c =
    stop_unrecovered _ _ c.args.store.now c.in-Err-Refused.fault _ _ _ c.refuse.ensures
    (record {
      gives = λ disk k sectors t. rw c.in-Err-Refused.field-0-is at (c.in-Err-Refused.ensures.recovers disk k sectors t);
      there = λ k n. c.in-Err-Refused.ensures.absent_refused k n _ (cc c.in-Err-Refused.field-0-is);
      rose = λ e k disk now p q. c.in-Err-Refused.ensures.disk_fault (cc (e, c.in-Err-Refused.field-0-is)) k disk now p q;
      unsure = λ e disk k s l. c.in-Err-Refused.ensures.sure disk k s l (cc (e, c.in-Err-Refused.field-0-is));
    })
