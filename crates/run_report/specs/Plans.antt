-- The lines of a plan, and of a parameter file that is refused.
use Rattle.std.specs.Prelude.{ℕ, List, [], ◌∷◌, ◌++◌, ◌<◌, All, nat_eq, if◌then◌else◌, Option, Some, None, codes, decimal, length, slice_get}
use Rattle.std.specs.List.{flat_map}
use Rattle.vd_base.specs.Name.{name_text}
use Rattle.plan_types.specs.declared.plan.Plan.{Plan}
use Rattle.plan_types.specs.declared.run.Format.{Format}
use Rattle.plan_types.specs.declared.run.Format.TheVariants as format
use Rattle.plan_types.specs.declared.run.RunPlan.{RunPlan}
use Rattle.plan_types.specs.declared.run.Share.{Share}
use Rattle.plan_types.specs.declared.store.StorePlan.{StorePlan}
use Rattle.run_report.specs.Texts.{◌⧺◌}

-- behind a store's line, where it has flags
abbrev pub flags_text : List ℕ → List ℕ
flags_text [] = []
flags_text (byte ∷ flags) = codes " openflags " ⧺ (byte ∷ flags)

abbrev pub size_text : StorePlan → List ℕ
size_text store = codes " blocks " ⧺ decimal store.id.geometry.blocks ⧺ codes " of " ⧺ decimal store.id.geometry.block_size

abbrev pub store_text : StorePlan → List ℕ
store_text store =
    codes "store " ⧺ name_text store.id.name ⧺ codes " lun " ⧺ store.path ⧺ size_text store ⧺ codes " threads " ⧺ decimal store.threads
    ⧺ codes " journal " ⧺ store.journal ⧺ flags_text store.openflags ⧺ codes "\n"

-- turns a second, where 0 is as soon as can be
abbrev pub rate_text : ℕ → List ℕ
rate_text rate = if nat_eq rate 0 then codes "max" else decimal rate

abbrev pub format_word : Format → List ℕ
format_word format.No = codes "no"
format_word format.Yes = codes "yes"
format_word format.Only = codes "only"

abbrev pub times_text : RunPlan → List ℕ
times_text run =
    codes "iorate " ⧺ rate_text run.iorate ⧺ codes " elapsed " ⧺ decimal run.elapsed ⧺ codes " interval " ⧺ decimal run.interval
    ⧺ codes " turns " ⧺ decimal run.turns

abbrev pub workers_text : RunPlan → List ℕ
workers_text run =
    codes "format " ⧺ format_word run.format ⧺ codes " slaves " ⧺ decimal run.slaves ⧺ codes " workers " ⧺ decimal (length run.workers)

unfoldable pub run_head_text : RunPlan → List ℕ
run_head_text run =
    codes "run " ⧺ decimal run.number ⧺ codes " " ⧺ run.name ⧺ codes " " ⧺ times_text run ⧺ codes " " ⧺ workers_text run ⧺ codes "\n"

abbrev pub name_of : Option StorePlan → List ℕ
name_of None = []
name_of (Some store) = name_text store.id.name

abbrev pub percents_text : Share → List ℕ
percents_text share = codes "rdpct " ⧺ decimal share.rdpct ⧺ codes " seekpct " ⧺ decimal share.seekpct ⧺ codes " weight " ⧺ decimal share.weight

-- a share of a store with this name
abbrev pub named_share_text : List ℕ → Share → List ℕ
named_share_text name share =
    codes "share " ⧺ share.workload ⧺ codes " " ⧺ name ⧺ codes " xfersize " ⧺ decimal share.xfersize ⧺ codes " " ⧺ percents_text share
    ⧺ codes "\n"

unfoldable pub share_text : List StorePlan → Share → List ℕ
share_text stores share = named_share_text (name_of (slice_get stores share.store)) share

-- a run, and then its shares
abbrev pub run_lines_text : List StorePlan → RunPlan → List ℕ
run_lines_text stores run = run_head_text run ++ flat_map (share_text stores) run.shares

-- each store, and then each run with its shares
abbrev pub plan_text : Plan → List ℕ
plan_text plan = flat_map store_text plan.stores ++ flat_map (run_lines_text plan.stores) plan.runs

-- the stores of a run's shares are there
abbrev pub PrintsShares : List StorePlan → RunPlan → Type 0
PrintsShares stores run = All (λ share. share.store < length stores) run.shares

-- a parameter file that is refused: the line, and why
abbrev pub parameter_text : ℕ → List ℕ → List ℕ
parameter_text line why = codes "parameter line " ⧺ decimal line ⧺ codes ": " ⧺ why ⧺ codes "\n"

-- one whose line has a fault: also the column
abbrev pub parameter_column_text : ℕ → ℕ → List ℕ → List ℕ
parameter_column_text line column why =
    codes "parameter line " ⧺ decimal line ⧺ codes " column " ⧺ decimal column ⧺ codes ": " ⧺ why ⧺ codes "\n"
