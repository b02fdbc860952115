use Rattle.std.proofs.Common.{ap, inl, inr, map, refl}
use Rattle.std.specs.Prelude.{OnOk}
use Rattle.run_report.specs.declared.status.Status.TheVariants as status
use Rattle.still_plan.proofs.Recoveries.{err_as}
use Rattle.plan_journals.proofs.Growing.{leaves_then}
use Rattle.plan_journals.proofs.Places.{empty_list, first_and_rest}
use Rattle.plan_reopened.proofs.Recoveries.{ends_before, ends_first, ends_more, one_more_disk, one_more_item, recovered_more, recovered_none, refused_more, stays_on}
use Rattle.plan_reopened.proofs.recovering.+recover_all.Goals as goal

pub returns-in_default-clause-recovers : goal.returns-in_default-clause-recovers
returns-in_default-clause-recovers g t c = recovered_none _ _ _ _ _ (empty_list _ c.in_default.len_below)

pub returns-then-printer-clause-stops : goal.returns-then-printer-clause-stops
returns-then-printer-clause-stops g t c = ends_before _ _ _ _ _ _ _ _ (first_and_rest _ _ c.store-item.is c.in-len1-up.len_at_least) refl (inl refl)

pub returns-in-Err-clause-stops : goal.returns-in-Err-clause-stops
returns-in-Err-clause-stops g t c =
    ends_first _ _ _ _ _ _ _ _ _ _ (first_and_rest _ _ c.store-item.is c.in-len1-up.len_at_least) (ap (map g.Y.Disk.Disk.seen) c.in-Ok.ensures.items) c.in-Err.ensures.not_taken c.recover_one.ensures.others c.in-Err.ensures.stops

pub returns-in-Err-clause-disk_quiet : goal.returns-in-Err-clause-disk_quiet
returns-in-Err-clause-disk_quiet g t c j m path =
    c.in-Err.ensures.disk_quiet (λ e. j (err_as c.in-Err.status status.Journal e)) (λ e. m (err_as c.in-Err.status status.NoMemory e)) path

pub returns-clause-leaves : goal.returns-clause-leaves
returns-clause-leaves g t c = leaves_then _ _ _ c.recover_one.ensures.leaves c.recover_all.ensures.leaves

pub returns-clause-recovers : goal.returns-clause-recovers
returns-clause-recovers g t c =
    recovered_more _ _ _ _ _ _ _ _ _ _ _ _ _ _ _ _ _ _ (first_and_rest _ _ c.store-item.is c.in-len1-up.len_at_least)
    (record {
      after = record { disks = c.in-Ok-recover_one.ensures.same; faults = c.in-Ok-recover_one.ensures.yard_quiet (λ e. cc) (λ e. cc); rest = c.recover_one.ensures.leaves };
      its = c.in-Ok-recover_one.ensures.recovers.0;
      out = c.in-Ok-recover_one.ensures.taken;
      said = c.in-Ok-recover_one.ensures.recovers.1;
    })
    (one_more_disk _ _ _ _ _ c.in-Ok.ensures.items c.push_reserved.ensures.items) (one_more_item _ _ _ _ c.in-Ok-reserve.ensures.items c.push_reserved-2.ensures.items) c.recover_all.ensures.recovers

pub returns-clause-stops : goal.returns-clause-stops
returns-clause-stops g t c =
    ends_more _ _ _ _ _ _ _ _ _ _ _ _ _ _ _ (first_and_rest _ _ c.store-item.is c.in-len1-up.len_at_least)
    (record {
      after = record { disks = c.in-Ok-recover_one.ensures.same; faults = c.in-Ok-recover_one.ensures.yard_quiet (λ e. cc) (λ e. cc); rest = c.recover_one.ensures.leaves };
      its = c.in-Ok-recover_one.ensures.recovers.0;
      out = c.in-Ok-recover_one.ensures.taken;
      said = c.in-Ok-recover_one.ensures.recovers.1;
    })
    (one_more_disk _ _ _ _ _ c.in-Ok.ensures.items c.push_reserved.ensures.items) c.recover_all.ensures.stops

pub returns-clause-journals : goal.returns-clause-journals
returns-clause-journals g t c = stays_on _ _ _ c.in-Ok-recover_one.ensures.same c.recover_all.ensures.journals

pub returns-clause-refused : goal.returns-clause-refused
returns-clause-refused g t c n store is p =
    refused_more (OnOk c.recover_all.result ⊥) _ _ _ _ _ n store (record { disks = c.in-Ok-recover_one.ensures.same; faults = c.in-Ok-recover_one.ensures.yard_quiet (λ e. cc) (λ e. cc); rest = c.recover_one.ensures.leaves }) (first_and_rest _ _ c.store-item.is c.in-len1-up.len_at_least) is p c.in-Ok-recover_one.ensures.refused c.recover_all.ensures.refused

pub returns-in_default-reserve-clause-stops : goal.returns-in_default-reserve-clause-stops
returns-in_default-reserve-clause-stops g t c = ends_before _ _ _ _ _ _ _ _ (first_and_rest _ _ c.store-item.is c.in-len1-up.len_at_least) (ap (map g.Y.Disk.Disk.seen) c.in_default-reserve.ensures.items) (inr refl)

pub returns-in_default-reserve-2-clause-stops : goal.returns-in_default-reserve-2-clause-stops
returns-in_default-reserve-2-clause-stops g t c = ends_before _ _ _ _ _ _ _ _ (first_and_rest _ _ c.store-item.is c.in-len1-up.len_at_least) (ap (map g.Y.Disk.Disk.seen) c.in-Ok.ensures.items) (inr refl)
