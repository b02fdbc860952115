-- From run definitions to runs, without workers.
use Rattle.std.specs.Prelude.{ℕ, List, [], ◌∷◌, ◌+◌, ◌==◌, nat_lt, Bool, if◌then◌else◌, Option, Some, None, Result, Ok, codes, filter, length, map, slice_get, slice_index, sum}
use Rattle.std.specs.List.{flat_map, list_any, range_with_len}
use Rattle.std.specs.Str.{bytes_eq}
use Rattle.plan_types.specs.Valid.{intervals_of}
use Rattle.plan_types.specs.declared.run.Format.TheVariants.{No}
use Rattle.plan_types.specs.declared.run.Share.{Share}
use Rattle.parm_records.specs.declared.runs.RdDef.{RdDef}
use Rattle.run_plan.specs.declared.fault.PlanFault.{PlanFault}
use Rattle.run_plan.specs.declared.fault.PlanKind.{PlanKind}
use Rattle.run_plan.specs.declared.fault.PlanKind.TheVariants.{IntervalsMany, NothingSelected, RunsMany, WorkersMany, WrongKind}
use Rattle.run_plan.specs.declared.loops.Settings.{Settings}
use Rattle.run_plan.specs.declared.runs.Draft.{Draft}
use Rattle.run_plan.specs.declared.runs.Pick.{Pick}
use Rattle.run_plan.specs.declared.runs.Work.{Work}
use Rattle.run_plan.specs.declared.workloads.Workload.{Workload}
use Rattle.run_plan.specs.Hosts.{selected}
use Rattle.run_plan.specs.Loops.{as_defined, count_of, settings_of}
use Rattle.run_plan.specs.Outcomes.{◌>>=◌, unless}
use Rattle.run_plan.specs.Weights.{weights_at}

abbrev pub or_else : Option ℕ → ℕ → ℕ
or_else (Some value) own = value
or_else None own = own

abbrev pub share_of : Workload → Settings → ℕ → ℕ → Share
share_of w s weight store = record {
  workload = w.name;
  store = store;
  xfersize = or_else s.xfersize w.xfersize;
  rdpct = or_else s.rdpct w.rdpct;
  seekpct = w.seekpct;
  weight = weight;
}

-- the shares of a workload, store by store
abbrev pub shares_at : Option Workload → Settings → ℕ → List Share
shares_at (Some w) s weight = map (share_of w s weight) w.stores
shares_at None s weight = []

-- the shares of a run, workload by workload
abbrev pub shares_of : List Workload → Settings → List Pick → List Share
shares_of workloads s picks = flat_map (λ pick. shares_at (slice_get workloads pick.place) s pick.weight) picks

-- the stores of shares, in order of definition
abbrev pub stores_of : ℕ → List Share → List ℕ
stores_of many shares = filter (λ store. list_any (λ share. share.store == store) shares) (range_with_len 0 many)

-- a store's workers: those that a loop says, or its own
abbrev pub threads_at : List ℕ → Option ℕ → ℕ → ℕ
threads_at threads choice store = or_else choice (slice_index threads store)

abbrev pub workers_many : List ℕ → List ℕ → Option ℕ → ℕ
workers_many threads stores choice = sum (map (threads_at threads choice) stores)

-- some run of the loops has more than 512 workers
abbrev pub is_crowded : List ℕ → List ℕ → RdDef → Bool
is_crowded threads stores d = list_any (λ s. nat_lt 512 (workers_many threads stores s.threads)) (settings_of d d.loops as_defined)

-- a run definition's workloads
abbrev pub wanted_kind : RdDef → Option PlanKind
wanted_kind d = if length d.fwd == 0 then None else Some NothingSelected

abbrev pub format_kind : RdDef → Option PlanKind
format_kind d = if bytes_eq d.format (codes "no") then None else Some WrongKind

abbrev pub skew_of : Option Workload → Option ℕ
skew_of (Some w) = w.skew
skew_of None = None

abbrev pub skews_of : List Workload → List ℕ → List (Option ℕ)
skews_of workloads places = map (λ place. skew_of (slice_get workloads place)) places

abbrev pub pick_of : List ℕ → List ℕ → ℕ → Pick
pick_of places weights i = record { place = slice_index places i; weight = slice_index weights i }

-- the workloads and their weights
abbrev pub picks_of : List ℕ → List ℕ → List Pick
picks_of places weights = map (pick_of places weights) (range_with_len 0 (length places))

abbrev pub picks_at : Work → RdDef → Result (List Pick) PlanFault
picks_at work d =
    unless d.line (wanted_kind d) (selected d.line d.wd work.names) >>= λ places.
    unless d.line (format_kind d) (weights_at d.line (skews_of work.workloads places)) >>= λ weights.
    Ok (picks_of places weights)

-- the stores of each of its runs: those of its shares
abbrev pub stores_at : Work → List Pick → List ℕ
stores_at work picks = stores_of (length work.threads) (shares_of work.workloads as_defined picks)

-- intervals, the workers of a run's stores, and the runs so far
abbrev pub numbers_kind : Work → RdDef → List ℕ → ℕ → Option PlanKind
numbers_kind work d stores before =
    if nat_lt 100000 (intervals_of d.elapsed d.interval) then Some IntervalsMany
    else if is_crowded work.threads stores d then Some WorkersMany
    else if nat_lt 1000 (before + count_of d d.loops) then Some RunsMany
    else None

abbrev pub draft_of : Work → RdDef → List Pick → ℕ → Settings → Draft
draft_of work d picks number s = record {
  run = record {
    number = number;
    line = d.line;
    name = d.name;
    iorate = d.iorate;
    elapsed = d.elapsed;
    interval = d.interval;
    turns = d.turns;
    format = No;
    slaves = work.slaves;
    shares = shares_of work.workloads s picks;
    workers = [];
  };
  threads = s.threads;
}

-- the runs of a definition, numbered from a number on
abbrev pub drafts_of : Work → RdDef → List Pick → ℕ → List Settings → List Draft
drafts_of work d picks number [] = []
drafts_of work d picks number (s ∷ ss) = draft_of work d picks number s ∷ drafts_of work d picks (number + 1) ss

-- its workloads, where its numbers are within the limits too
abbrev pub admitted_at : Work → ℕ → RdDef → Result (List Pick) PlanFault
admitted_at work before d =
    picks_at work d >>= λ picks. unless d.line (numbers_kind work d (stores_at work picks) before) (Ok picks)

-- a run definition behind the runs of those before it
abbrev pub runs_at : Work → List Draft → RdDef → Result (List Draft) PlanFault
runs_at work before d =
    admitted_at work (length before) d >>= λ picks.
    Ok (drafts_of work d picks (length before + 1) (settings_of d d.loops as_defined))
