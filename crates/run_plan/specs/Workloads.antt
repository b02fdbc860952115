-- Workloads with the stores that they select.
use Rattle.std.specs.Prelude.{ℕ, List, [], ◌∷◌, Result, Ok}
use Rattle.parm_records.specs.declared.stores.WdDef.{WdDef}
use Rattle.run_plan.specs.declared.fault.PlanFault.{PlanFault}
use Rattle.run_plan.specs.declared.workloads.Workload.{Workload}
use Rattle.run_plan.specs.Hosts.{selected}
use Rattle.run_plan.specs.Outcomes.{◌>>=◌}

abbrev pub workload_of : WdDef → List ℕ → Workload
workload_of d stores = record { name = d.name; skew = d.skew; xfersize = d.xfersize; rdpct = d.rdpct; seekpct = d.seekpct; stores = stores }

-- its stores and its hosts
abbrev pub workload_at : List (List ℕ) → List (List ℕ) → List Workload → WdDef → Result (List Workload) PlanFault
workload_at stores hosts done d =
    selected d.line d.sd stores >>= λ places. selected d.line d.host hosts >>= λ fit. Ok (workload_of d places ∷ [])
