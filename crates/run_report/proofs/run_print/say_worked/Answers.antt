use Rattle.std.proofs.Common.{ap, length}
use Rattle.std.specs.List.{flat_map, range_with_len, zip}
use Rattle.run_report.specs.Runs.{findings_text, intervals_text, slave_text, store_total_text}
use Rattle.run_report.specs.Says.{says_along, then_front}
use Rattle.run_report.proofs.Printed.{err_along, front_along, longer, ok_along, on_err, on_err_then, on_ok_then}
use Rattle.run_report.proofs.run_print.say_worked.Goals as goal

pub returns-in_err-say_workers-clause-err : goal.returns-in_err-say_workers-clause-err
returns-in_err-say_workers-clause-err g c = on_err _ _ (longer _ _ (flat_map (findings_text c.args.stores.now) (zip c.args.run.now.workers c.args.tallies.now)) _ (front_along _ _ _ _ (ap (λ workers. flat_map (findings_text c.args.stores.now) (zip workers c.args.tallies.now)) c.as_slice-workers.ensures) c.in_err-say_workers.ensures.err))

pub returns-in_err-say_intervals-clause-err : goal.returns-in_err-say_intervals-clause-err
returns-in_err-say_intervals-clause-err g c =
    on_err _ _ (then_front _ _ _ (flat_map (findings_text c.args.stores.now) (zip c.args.run.now.workers c.args.tallies.now)) _
    (says_along _ _ _ _ (ap (λ workers. flat_map (findings_text c.args.stores.now) (zip workers c.args.tallies.now)) c.as_slice-workers.ensures) c.in_ok-say_workers.ensures.ok)
    (longer _ _ (intervals_text c.args.tallies.now) _ c.in_err-say_intervals.ensures.err))

pub returns-in_err-say_slaves-clause-err : goal.returns-in_err-say_slaves-clause-err
returns-in_err-say_slaves-clause-err g c =
    on_err _ _ (then_front _ _ _ (flat_map (findings_text c.args.stores.now) (zip c.args.run.now.workers c.args.tallies.now)) _
    (says_along _ _ _ _ (ap (λ workers. flat_map (findings_text c.args.stores.now) (zip workers c.args.tallies.now)) c.as_slice-workers.ensures) c.in_ok-say_workers.ensures.ok)
    (then_front _ _ _ (intervals_text c.args.tallies.now) _ c.in_ok-say_intervals.ensures.ok
    (longer _ _ (flat_map (slave_text (zip c.args.run.now.workers c.args.tallies.now)) (range_with_len 1 c.args.run.now.slaves)) _ (front_along _ _ _ _ (ap (λ workers. flat_map (slave_text (zip workers c.args.tallies.now)) (range_with_len 1 c.args.run.now.slaves)) c.as_slice-workers.ensures) c.in_err-say_slaves.ensures.err))))

pub returns-clause-ok : goal.returns-clause-ok
returns-clause-ok g c =
    on_ok_then c.say_totals.result _ _ _ (flat_map (findings_text c.args.stores.now) (zip c.args.run.now.workers c.args.tallies.now)) _
    (says_along _ _ _ _ (ap (λ workers. flat_map (findings_text c.args.stores.now) (zip workers c.args.tallies.now)) c.as_slice-workers.ensures) c.in_ok-say_workers.ensures.ok)
    (on_ok_then c.say_totals.result _ _ _ (intervals_text c.args.tallies.now) _ c.in_ok-say_intervals.ensures.ok
    (on_ok_then c.say_totals.result _ _ _ (flat_map (slave_text (zip c.args.run.now.workers c.args.tallies.now)) (range_with_len 1 c.args.run.now.slaves)) _
    (says_along _ _ _ _ (ap (λ workers. flat_map (slave_text (zip workers c.args.tallies.now)) (range_with_len 1 c.args.run.now.slaves)) c.as_slice-workers.ensures) c.in_ok-say_slaves.ensures.ok)
    (ok_along c.say_totals.result _ _ _ _ (ap (λ workers. flat_map (store_total_text c.args.stores.now (zip workers c.args.tallies.now)) (range_with_len 0 (length c.args.stores.now))) c.as_slice-workers.ensures) c.say_totals.ensures.ok)))

pub returns-clause-err : goal.returns-clause-err
returns-clause-err g c =
    on_err_then c.say_totals.result _ _ _ (flat_map (findings_text c.args.stores.now) (zip c.args.run.now.workers c.args.tallies.now)) _
    (says_along _ _ _ _ (ap (λ workers. flat_map (findings_text c.args.stores.now) (zip workers c.args.tallies.now)) c.as_slice-workers.ensures) c.in_ok-say_workers.ensures.ok)
    (on_err_then c.say_totals.result _ _ _ (intervals_text c.args.tallies.now) _ c.in_ok-say_intervals.ensures.ok
    (on_err_then c.say_totals.result _ _ _ (flat_map (slave_text (zip c.args.run.now.workers c.args.tallies.now)) (range_with_len 1 c.args.run.now.slaves)) _
    (says_along _ _ _ _ (ap (λ workers. flat_map (slave_text (zip workers c.args.tallies.now)) (range_with_len 1 c.args.run.now.slaves)) c.as_slice-workers.ensures) c.in_ok-say_slaves.ensures.ok)
    (err_along c.say_totals.result _ _ _ _ (ap (λ workers. flat_map (store_total_text c.args.stores.now (zip workers c.args.tallies.now)) (range_with_len 0 (length c.args.stores.now))) c.as_slice-workers.ensures) c.say_totals.ensures.err)))
