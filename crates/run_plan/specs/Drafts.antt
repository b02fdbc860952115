-- What holds of runs before their workers are dealt, and of what they are made of.
use Rattle.std.specs.Prelude.{◌<◌, ◌≤◌, ◌^◌, All, IfSome, length}
use Rattle.parm_records.specs.Ranges.{IsBlockSize}
use Rattle.run_plan.specs.declared.loops.Settings.{Settings}
use Rattle.run_plan.specs.declared.runs.Draft.{Draft}
use Rattle.run_plan.specs.declared.runs.Work.{Work}

pub record IsSettings (s : Settings) : Type 0 where
  pub threads : IfSome s.threads (λ n. n < 2 ^ 24)
  pub some_threads : IfSome s.threads (λ n. 0 < n)
  pub xfersize : IfSome s.xfersize IsBlockSize
  pub rdpct : IfSome s.rdpct (λ n. n ≤ 100)

pub record IsWork (work : Work) : Type 0 where
  pub names : length work.names ≤ 64
  pub workloads : All (λ w. IsBlockSize w.xfersize) work.workloads
  pub threads : length work.threads ≤ 64
  pub slaves : 0 < work.slaves
  pub few_slaves : work.slaves ≤ 256

pub record IsDraft (draft : Draft) : Type 0 where
  pub slaves : 0 < draft.run.slaves
  pub threads : IfSome draft.threads (λ n. n < 2 ^ 24)
  pub transfers : All (λ share. IsBlockSize share.xfersize) draft.run.shares
