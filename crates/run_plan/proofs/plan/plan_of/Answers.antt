use Rattle.std.proofs.Common.{◌≡◌, [], Ok, ap, sym, subst, ◌∙◌, map, All, arith}
use Rattle.run_plan.specs.Outcomes.{in_turn}
use Rattle.run_plan.specs.Sizes.{store_at}
use Rattle.plan_types.specs.Valid.{AreDifferent, IsPlan, IsRun}
use Rattle.run_plan.specs.Workers.{run_of}
use Rattle.run_plan.proofs.RunLaws.{drafts_are_runs, runs_numbered, some_rds}
use Rattle.run_plan.proofs.RunValid.{choice_is, runs_valid, work_threads}
use Rattle.run_plan.proofs.ReadyLaws.{all_ready}
use Rattle.run_plan.proofs.StoreLaws.{names_are, names_differ, paths_are, paths_differ, runs_none, stores_none, threads_are}
use Rattle.run_plan.proofs.TransferLaws.{shares_fit}
use Rattle.run_plan.proofs.plan.plan_of.Goals as goal

pub returns-clause-valid : goal.returns-clause-valid
returns-clause-valid c =
    let stores = c.in_ok-stores.stores in
    let drafts = c.in_ok-drafts.drafts in
    let work = c.in_ok-work.work in
    let made = c.in_ok-stores.ensures in
    let asked = c.requires in
    let sds = c.args.sds.now in
    let worked = c.in_ok-work.ensures in
    let slices = c.as_slice-3.ensures in
    let gives = subst (λ ds. in_turn (store_at ds) [] sds ≡ Ok stores) slices made.gives in
    let drafted = drafts_are_runs work c.args.rds.now drafts asked.rds c.in_ok-drafts.ensures.gives in
    let choice = choice_is c.as_slice-2.result.now c.args.hds.now sds c.args.wds.now work asked.wds worked.valid.names asked.few_sds worked.gives
    (record { at_least = omega (arith, worked.valid.slaves); at_most = worked.valid.few_slaves }) in
    let ready = all_ready work choice c.args.rds.now drafts asked.rds c.in_ok-drafts.ensures.gives in
    let threads = threads_are drafts sds stores gives ∙ sym (work_threads c.as_slice-2.result.now c.args.hds.now sds c.args.wds.now work worked.gives) in
    let runs = runs_valid stores work.threads drafts made.valid threads ready (shares_fit drafts sds stores c.in_ok-drafts.ensures.all gives) in
    let dealt = c.in_ok-runs.ensures.value ∙ ap (λ ss. map (run_of ss) drafts) c.as_slice-4.ensures in
    subst IsPlan (sym c.plan.ensures) (record {
      few_stores = omega (arith, made.many, asked.few_sds);
      few_blocks = made.few_blocks;
      names = subst AreDifferent (sym (names_are drafts sds stores gives)) (names_differ sds asked.sds asked.sd_names);
      paths = subst AreDifferent (sym (paths_are drafts sds stores gives)) (paths_differ sds (stores_none _ _ _ _ c.in_ok-check_early.ensures));
      stores = made.valid;
      some_runs = omega (arith, some_rds c.args.rds.now (runs_none _ _ _ c.in_ok-check_early.ensures), drafted.many, c.in_ok-runs.ensures.many);
      few_runs = omega (arith, c.in_ok-runs.ensures.many, c.in_ok-drafts.ensures.few);
      run_numbers = runs_numbered stores drafts c.in_ok-runs.runs _ drafted dealt c.in_ok-runs.ensures.many;
      runs = subst (All (IsRun stores)) (sym dealt) runs;
      data_errors = record { at_least = asked.general.data_errors.at_least; at_most = asked.general.data_errors.at_most };
      journal_sectors = record { at_least = asked.general.journal_sectors.at_least; at_most = asked.general.journal_sectors.at_most };
    })
