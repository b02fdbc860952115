use Rattle.std.specs.Prelude.{OnOk}
use Rattle.run_report.specs.declared.status.Status.TheVariants as status
use Rattle.still_plan.proofs.Places.{empty_list, first_and_rest}
use Rattle.still_plan.proofs.Recoveries.{err_as, recovers_none, recovers_more, stops_silent, stops_first, stops_unkept, stops_more, refused_more}
use Rattle.still_plan.proofs.journals.+recover_stores.Goals as goal

pub returns-in_default-clause-recovers : goal.returns-in_default-clause-recovers
returns-in_default-clause-recovers g t c = recovers_none _ _ _ _ (empty_list _ c.in_default.len_below)

pub returns-in-Err-clause-stops : goal.returns-in-Err-clause-stops
returns-in-Err-clause-stops g t c = stops_first _ _ _ _ _ _ _ _ (first_and_rest _ _ c.store-item.is c.in-len1-up.len_at_least) c.recover_one.ensures.others c.in-Err.ensures.stops

pub returns-in_default-push-clause-stops : goal.returns-in_default-push-clause-stops
returns-in_default-push-clause-stops g t c =
    stops_unkept _ _ _ _ _ c.in-Ok.one _ _ (first_and_rest _ _ c.store-item.is c.in-len1-up.len_at_least) c.recover_one.ensures.others c.in-Ok.ensures.recovers.0 c.in-Ok.ensures.recovers.1

pub returns-clause-recovers : goal.returns-clause-recovers
returns-clause-recovers g t c =
    recovers_more _ _ _ _ _ _ c.in-Ok.one _ _ _ _ _ _
    (record { disks = c.in-Ok.ensures.disk_quiet (λ e. cc) (λ e. cc); faults = c.in-Ok.ensures.yard_quiet (λ e. cc) (λ e. cc); keeps = c.recover_one.ensures.keeps })
    (first_and_rest _ _ c.store-item.is c.in-len1-up.len_at_least) c.in-Ok-push.ensures.items c.in-Ok.ensures.recovers.0 c.in-Ok.ensures.recovers.1 c.recover_stores.ensures.recovers

pub returns-clause-stops : goal.returns-clause-stops
returns-clause-stops g t c =
    stops_more _ _ _ _ _ _ _ c.in-Ok.one _ _ _
    (record { disks = c.in-Ok.ensures.disk_quiet (λ e. cc) (λ e. cc); faults = c.in-Ok.ensures.yard_quiet (λ e. cc) (λ e. cc); keeps = c.recover_one.ensures.keeps })
    (first_and_rest _ _ c.store-item.is c.in-len1-up.len_at_least) c.in-Ok.ensures.recovers.0 c.in-Ok.ensures.recovers.1 c.recover_stores.ensures.stops

pub returns-clause-refused : goal.returns-clause-refused
returns-clause-refused g t c n store is p =
    refused_more (OnOk c.recover_stores.result ⊥) _ _ _ _ _ n store
    (record { disks = c.in-Ok.ensures.disk_quiet (λ e. cc) (λ e. cc); faults = c.in-Ok.ensures.yard_quiet (λ e. cc) (λ e. cc); keeps = c.recover_one.ensures.keeps })
    (first_and_rest _ _ c.store-item.is c.in-len1-up.len_at_least) is p c.in-Ok.ensures.refused c.recover_stores.ensures.refused

pub returns-then-printer-clause-stops : goal.returns-then-printer-clause-stops
returns-then-printer-clause-stops g t c = stops_silent _ _ _ _ _ (first_and_rest _ _ c.store-item.is c.in-len1-up.len_at_least)

pub returns-in-Err-clause-disk_quiet : goal.returns-in-Err-clause-disk_quiet
returns-in-Err-clause-disk_quiet g t c j m path =
    c.in-Err.ensures.disk_quiet (λ e. j (err_as c.in-Err.status status.Journal e)) (λ e. m (err_as c.in-Err.status status.NoMemory e)) path
