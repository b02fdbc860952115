-- From definitions to a plan.
use Rattle.std.specs.Prelude.{ℕ, List, [], ◌∷◌, Bool, not, Option, Some, None, Result, Ok, codes, map, min}
use Rattle.std.specs.List.{list_any}
use Rattle.std.specs.Str.{bytes_eq}
use Rattle.parm_records.specs.Ranges.{Defs}
use Rattle.parm_records.specs.declared.files.FsdDef.{FsdDef}
use Rattle.parm_records.specs.declared.files.FwdDef.{FwdDef}
use Rattle.parm_records.specs.declared.general.General.{General}
use Rattle.parm_records.specs.declared.general.HdDef.{HdDef}
use Rattle.parm_records.specs.declared.runs.RdDef.{RdDef}
use Rattle.parm_records.specs.declared.stores.SdDef.{SdDef}
use Rattle.parm_records.specs.declared.stores.WdDef.{WdDef}
use Rattle.plan_types.specs.declared.plan.Plan.{Plan}
use Rattle.plan_types.specs.declared.run.RunPlan.{RunPlan}
use Rattle.plan_types.specs.declared.store.StorePlan.{StorePlan}
use Rattle.run_plan.specs.declared.fault.PlanFault.{PlanFault}
use Rattle.run_plan.specs.declared.fault.PlanKind.TheVariants.{NoRuns, TreeNotBuilt}
use Rattle.run_plan.specs.declared.runs.Work.{Work}
use Rattle.run_plan.specs.declared.workloads.Workload.{Workload}
use Rattle.wildcards.specs.Selection.{nothing_at}
use Rattle.run_plan.specs.Hosts.{host_names, selection_kind, slaves_of}
use Rattle.run_plan.specs.Outcomes.{◌>>=◌, at_line, first_fault, in_turn, or_next, stop_at}
use Rattle.run_plan.specs.Runs.{runs_at}
use Rattle.run_plan.specs.Sizes.{store_at}
use Rattle.run_plan.specs.Stores.{store_kind}
use Rattle.run_plan.specs.Workers.{run_of}
use Rattle.run_plan.specs.Workloads.{workload_at}

-- the line of the first definition of a tree or of a workload over one, where there is one
abbrev pub tree_line : List FsdDef → List FwdDef → Option ℕ
tree_line [] [] = None
tree_line (fsd ∷ fsds) [] = Some fsd.line
tree_line [] (fwd ∷ fwds) = Some fwd.line
tree_line (fsd ∷ fsds) (fwd ∷ fwds) = Some (min fsd.line fwd.line)

abbrev pub tree_fault : Option ℕ → Option PlanFault
tree_fault (Some line) = Some (record { line = line; kind = TreeNotBuilt })
tree_fault None = None

-- there is a run
abbrev pub runs_fault : List RdDef → Option PlanFault
runs_fault [] = Some (record { line = 0; kind = NoRuns })
runs_fault (d ∷ ds) = None

-- each store's path, size and journal
abbrev pub stores_fault : List SdDef → Option PlanFault
stores_fault sds = first_fault (λ earlier d. at_line d.line (store_kind earlier d)) [] sds

-- each store's hosts
abbrev pub hosts_fault : List (List ℕ) → List SdDef → Option PlanFault
hosts_fault hosts sds = first_fault (λ earlier d. at_line d.line (selection_kind (nothing_at d.host hosts))) [] sds

-- what is looked at before the workloads
abbrev pub early_fault : Defs → Option PlanFault
early_fault d =
    or_next (tree_fault (tree_line d.fsds d.fwds)) (or_next (runs_fault d.rds) (or_next (stores_fault d.sds) (hosts_fault (host_names d.hds) d.sds)))

-- the workloads with their stores
abbrev pub workloads_over : List (List ℕ) → List SdDef → List WdDef → Result (List Workload) PlanFault
workloads_over hosts sds wds = in_turn (workload_at (map (λ sd. sd.name) sds) hosts) [] wds

abbrev pub work_of : List HdDef → List SdDef → List Workload → Work
work_of hds sds workloads = record {
  names = map (λ w. w.name) workloads;
  workloads = workloads;
  threads = map (λ sd. sd.threads) sds;
  slaves = slaves_of hds;
}

-- what run definitions choose from
abbrev pub work_over : List (List ℕ) → List HdDef → List SdDef → List WdDef → Result Work PlanFault
work_over hosts hds sds wds = workloads_over hosts sds wds >>= λ workloads. Ok (work_of hds sds workloads)

abbrev pub has_word : List (List ℕ) → List ℕ → Bool
has_word words word = list_any (λ w. bytes_eq w word) words

abbrev pub plan_of : General → List StorePlan → List RunPlan → Plan
plan_of g stores runs = record {
  stores = stores;
  runs = runs;
  preread = not (has_word g.validate (codes "no_preread"));
  reread = has_word g.validate (codes "read_after_write");
  data_errors = g.data_errors;
  journal_sectors = g.journal_sectors;
  create_anchors = bytes_eq g.create_anchors (codes "yes");
}

-- the plan of definitions, or their first refusal: step by step, each step over its definitions in order
abbrev pub plan_at : Defs → Result Plan PlanFault
plan_at d = stop_at (early_fault d) (
    work_over (host_names d.hds) d.hds d.sds d.wds >>= λ work.
    in_turn (runs_at work) [] d.rds >>= λ drafts.
    in_turn (store_at drafts) [] d.sds >>= λ stores.
    Ok (plan_of d.general stores (map (run_of stores) drafts)))
