use Rattle.run_report.specs.declared.status.Status.TheVariants as status
use Rattle.vdbench_top.proofs.Runs.{anew_unheard, call_by, call_without_memory, ends_as, file_says, old_unheard, opens_ends, over_ends, said_not}
use Rattle.vdbench_top.proofs.Tellings.{its_status, sink_rose}
use Rattle.vdbench_top.proofs.run.run_named.Goals as goal

pub returns-in_default-clause-call : goal.returns-in_default-clause-call
returns-in_default-clause-call g c = call_without_memory _ _ _ _ _ _ _ _ _ _ _ _ c.new-printer.ensures c.end.ensures.says c.end.ensures.failed c.end.ensures.good

pub returns-clause-call : goal.returns-clause-call
returns-clause-call g c =
    let v = c.run_file-status.ensures.runs in
    call_by _ _ _ _ _ _ _ _ _ _ v.0 _ _ _ _ _ _ _ c.new-printer.ensures c.in-Ok.ensures v.1 c.run_file-status.ensures.output c.end-2.ensures.says c.end-2.ensures.failed c.end-2.ensures.good

pub returns-clause-device_fault : goal.returns-clause-device_fault
returns-clause-device_fault g c e = c.run_file-status.ensures.device_fault (its_status _ _ _ status.Device c.end-2.ensures.failed c.end-2.ensures.good (λ x. cc) e)

pub returns-clause-sink_fault : goal.returns-clause-sink_fault
returns-clause-sink_fault g c e =
    let v = c.run_file-status.ensures.runs in
    (sink_rose _ _ _ v.0 _ _ c.new-printer.ensures (file_says _ _ _ _ _ v.0 _ v.1) c.end-2.ensures.says c.end-2.ensures.failed c.end-2.ensures.good c.run_file-status.ensures.output).0 e

pub returns-clause-sink_quiet : goal.returns-clause-sink_quiet
returns-clause-sink_quiet g c n =
    let v = c.run_file-status.ensures.runs in
    (sink_rose _ _ _ v.0 _ _ c.new-printer.ensures (file_says _ _ _ _ _ v.0 _ v.1) c.end-2.ensures.says c.end-2.ensures.failed c.end-2.ensures.good c.run_file-status.ensures.output).1 n

pub returns-clause-journals : goal.returns-clause-journals
returns-clause-journals g c kept = over_ends _ anew_unheard _ _ _ _ _ _ _ c.in-Ok.ensures c.end-2.ensures.failed c.end-2.ensures.good (c.run_file-status.ensures.journals kept)

pub returns-clause-resumes : goal.returns-clause-resumes
returns-clause-resumes g c kept = over_ends _ old_unheard _ _ _ _ _ _ _ c.in-Ok.ensures c.end-2.ensures.failed c.end-2.ensures.good (c.run_file-status.ensures.resumes kept)

pub returns-clause-opens : goal.returns-clause-opens
returns-clause-opens g c = opens_ends _ _ _ _ _ _ _ c.in-Ok.ensures c.end-2.ensures.failed c.end-2.ensures.good c.run_file-status.ensures.opens

pub returns-clause-yard_quiet : goal.returns-clause-yard_quiet
returns-clause-yard_quiet g c yard heard memory =
    c.run_file-status.ensures.yard_quiet (said_not _ _ _ _ c.end-2.ensures.failed c.end-2.ensures.good heard yard) (said_not _ _ _ _ c.end-2.ensures.failed c.end-2.ensures.good heard memory)

pub returns-clause-source_quiet : goal.returns-clause-source_quiet
returns-clause-source_quiet g c source heard memory path =
    c.run_file-status.ensures.source_quiet (said_not _ _ _ _ c.end-2.ensures.failed c.end-2.ensures.good heard source) (said_not _ _ _ _ c.end-2.ensures.failed c.end-2.ensures.good heard memory) path

pub returns-clause-device_quiet : goal.returns-clause-device_quiet
returns-clause-device_quiet g c device yard heard memory ends path =
    c.run_file-status.ensures.device_quiet (said_not _ _ _ _ c.end-2.ensures.failed c.end-2.ensures.good heard device) (said_not _ _ _ _ c.end-2.ensures.failed c.end-2.ensures.good heard yard)
    (said_not _ _ _ _ c.end-2.ensures.failed c.end-2.ensures.good heard heard) (said_not _ _ _ _ c.end-2.ensures.failed c.end-2.ensures.good heard memory)
    (λ kept. (said_not _ _ _ _ c.end-2.ensures.failed c.end-2.ensures.good heard (ends kept).0, said_not _ _ _ _ c.end-2.ensures.failed c.end-2.ensures.good heard (ends kept).1)) path

pub returns-clause-can : goal.returns-clause-can
returns-clause-can g c = ends_as _ _ _ _ c.end-2.ensures.failed c.end-2.ensures.good c.run_file-status.ensures.can
