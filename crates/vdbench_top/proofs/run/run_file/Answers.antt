use Rattle.vdbench_top.specs.Runs.{over_plan}
use Rattle.vdbench_top.proofs.Runs.{file_as, file_journaled, file_ran, file_resumed, file_unplanned, keeps_journals, reopens_journals, there_along}
use Rattle.vdbench_top.proofs.Statuses.{quietly_no_source}
use Rattle.vdbench_top.proofs.run.run_file.Goals as goal

pub returns-in-Err-clause-runs : goal.returns-in-Err-clause-runs
returns-in-Err-clause-runs g c = file_unplanned _ _ _ _ _ _ _ _ _ c.in-Err.ensures.reads c.in-Err.ensures.unplanned

pub returns-in-Err-clause-yard_quiet : goal.returns-in-Err-clause-yard_quiet
returns-in-Err-clause-yard_quiet g c yard memory = c.in-Err.ensures.other_yard_quiet yard memory

pub returns-in-Err-clause-source_quiet : goal.returns-in-Err-clause-source_quiet
returns-in-Err-clause-source_quiet g c source memory path = c.in-Err.ensures.other_source_quiet source memory path

pub returns-in-Nothing-clause-source_fault : goal.returns-in-Nothing-clause-source_fault
returns-in-Nothing-clause-source_fault g c e =
    let v = c.run_quietly.ensures.ran in
    absurd (quietly_no_source _ _ _ _ _ v.0 _ v.1 e)

pub returns-in-Nothing-clause-runs : goal.returns-in-Nothing-clause-runs
returns-in-Nothing-clause-runs g c =
    file_as _ _ _ _ _ _ _ _ _ c.in-Nothing.is
    (file_ran _ _ _ _ _ _ _ _ _ c.in-Ok.plan _ _ _ _ _ c.in-Ok.ensures.reads c.in-Ok.ensures.planned.0 c.in-Ok.ensures.planned.1 c.with_rereads-plan.ensures c.run_quietly.ensures.ran
    (cc (c.in-Ok.ensures.nothing_said.0, c.in-Ok.ensures.nothing_said.1)))

pub returns-in-NewJournals-clause-source_fault : goal.returns-in-NewJournals-clause-source_fault
returns-in-NewJournals-clause-source_fault g c e = absurd (c.run_journaled.ensures.can.no_source e)

pub returns-in-NewJournals-clause-runs : goal.returns-in-NewJournals-clause-runs
returns-in-NewJournals-clause-runs g c =
    let keeps = keeps_journals _ _ _ _ c.in-Ok.plan _ _ c.in-Ok.ensures.reads c.with_rereads-plan.ensures c.run_journaled.ensures.grows c.run_journaled.ensures.whole c.run_journaled.ensures.journal_fault in
    let v = c.run_journaled.ensures.ran in
    file_as _ _ _ _ _ _ _ _ _ c.in-NewJournals.is
    (file_journaled _ _ _ _ _ _ _ _ _ c.in-Ok.plan _ _ _ _ _ c.in-Ok.ensures.reads c.in-Ok.ensures.planned.0 c.in-Ok.ensures.planned.1 c.with_rereads-plan.ensures v keeps
    (cc (c.in-Ok.ensures.nothing_said.0, c.in-Ok.ensures.nothing_said.1)))

pub returns-in-NewJournals-clause-journals : goal.returns-in-NewJournals-clause-journals
returns-in-NewJournals-clause-journals g c kept =
    over_plan c.in-Ok.plan c.in-Ok.ensures.planned.0
    (keeps_journals _ _ _ _ c.in-Ok.plan _ _ c.in-Ok.ensures.reads c.with_rereads-plan.ensures c.run_journaled.ensures.grows c.run_journaled.ensures.whole c.run_journaled.ensures.journal_fault)

pub returns-clause-source_fault : goal.returns-clause-source_fault
returns-clause-source_fault g c e = absurd (c.run_resumed.ensures.can.no_source e)

pub returns-clause-runs : goal.returns-clause-runs
returns-clause-runs g c =
    let uses = reopens_journals _ _ _ _ _ _ _ _ c.in-Ok.plan _ _ _ _ c.in-Ok.ensures.reads c.with_rereads-plan.ensures c.run_resumed.ensures.ran c.run_resumed.ensures.journal_fault in
    file_as _ _ _ _ _ _ _ _ _ c.in-OldJournals.is
    (file_resumed _ _ _ _ _ _ _ _ _ c.in-Ok.plan _ _ _ _ _ c.in-Ok.ensures.reads c.in-Ok.ensures.planned.0 c.in-Ok.ensures.planned.1 c.with_rereads-plan.ensures c.run_resumed.ensures.ran uses
    (cc (c.in-Ok.ensures.nothing_said.0, c.in-Ok.ensures.nothing_said.1)))

pub returns-clause-resumes : goal.returns-clause-resumes
returns-clause-resumes g c kept =
    over_plan c.in-Ok.plan c.in-Ok.ensures.planned.0
    (reopens_journals _ _ _ _ _ _ _ _ c.in-Ok.plan _ _ _ _ c.in-Ok.ensures.reads c.with_rereads-plan.ensures c.run_resumed.ensures.ran c.run_resumed.ensures.journal_fault)

pub returns-clause-opens : goal.returns-clause-opens
returns-clause-opens g c willing there journals =
    (c.run_resumed.ensures.willing (c.in-Ok.ensures.reads.keeps.willing willing)).1
    (there_along _ _ _ c.in-Ok.plan _ c.in-Ok.ensures.reads c.with_rereads-plan.ensures (journals c.in-OldJournals.is c.in-Ok.plan c.in-Ok.ensures.planned.0))
