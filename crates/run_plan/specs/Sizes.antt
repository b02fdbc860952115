-- Block sizes, and how many blocks a store has.
use Rattle.std.specs.Prelude.{ℕ, List, [], ◌∷◌, ◌++◌, ◌+◌, ◌/◌, ◌%◌, ◌==◌, nat_le, nat_lt, Bool, ◌&&◌, ◌||◌, not, if◌then◌else◌, Option, Some, None, Result, Ok, filter, length, map, min}
use Rattle.std.specs.List.{flat_map, list_all, list_any}
use Rattle.vd_base.specs.Name.{padded}
use Rattle.plan_types.specs.Valid.{blocks_of}
use Rattle.plan_types.specs.declared.run.Share.{Share}
use Rattle.plan_types.specs.declared.store.StorePlan.{StorePlan}
use Rattle.parm_records.specs.declared.stores.SdDef.{SdDef}
use Rattle.run_plan.specs.declared.fault.PlanFault.{PlanFault}
use Rattle.run_plan.specs.declared.fault.PlanKind.{PlanKind}
use Rattle.run_plan.specs.declared.fault.PlanKind.TheVariants.{BlocksMany, SizeSmall, TransferNotMultiple}
use Rattle.run_plan.specs.declared.runs.Draft.{Draft}
use Rattle.run_plan.specs.Outcomes.{unless}
use Rattle.run_plan.specs.Runs.{or_else}
use Rattle.run_plan.specs.Stores.{text_or_empty}

-- the transfer sizes of a store in a run
abbrev pub sizes_in : ℕ → List Share → List ℕ
sizes_in store shares = map (λ share. share.xfersize) (filter (λ share. share.store == store) shares)

-- the transfer sizes of a store over all runs
abbrev pub transfers_of : ℕ → List Draft → List ℕ
transfers_of store drafts = flat_map (λ draft. sizes_in store draft.run.shares) drafts

abbrev pub least_from : ℕ → List ℕ → ℕ
least_from least [] = least
least_from least (size ∷ sizes) = least_from (min least size) sizes

-- the smallest, or 4,096 where there is none
abbrev pub smallest : List ℕ → ℕ
smallest [] = 4096
smallest (size ∷ sizes) = least_from size sizes

-- its keyblock where that is given, else the smallest transfer
abbrev pub block_size_of : SdDef → List ℕ → ℕ
block_size_of d transfers = or_else d.keyblock (smallest transfers)

-- 1 to 64 whole blocks, or none
abbrev pub is_whole : ℕ → ℕ → Bool
is_whole block_size transfer = transfer % block_size == 0 && nat_le (transfer / block_size) 64

-- how many whole blocks a definition's size has
abbrev pub blocks_in : SdDef → ℕ → ℕ
blocks_in d block_size = or_else d.size 0 / block_size

abbrev pub size_kind : ℕ → ℕ → ℕ → List ℕ → Option PlanKind
size_kind before blocks block_size transfers =
    if not (list_all (is_whole block_size) transfers) then Some TransferNotMultiple
    else if blocks == 0 || list_any (λ transfer. nat_lt blocks (transfer / block_size)) transfers then Some SizeSmall
    else if nat_lt 16777216 (before + blocks) then Some BlocksMany
    else None

-- joined by commas
abbrev pub joined : List (List ℕ) → List ℕ
joined [] = []
joined (text ∷ texts) = text ++ flat_map (λ more. 44 ∷ more) texts

abbrev pub store_of : SdDef → ℕ → ℕ → StorePlan
store_of d blocks block_size = record {
  id = record { name = padded d.name; geometry = record { blocks = blocks; block_size = block_size } };
  path = text_or_empty d.lun;
  journal = d.journal;
  threads = d.threads;
  openflags = joined d.openflags;
}

-- a store behind those before it
abbrev pub store_at : List Draft → List StorePlan → SdDef → Result (List StorePlan) PlanFault
store_at drafts before d =
    let transfers = transfers_of (length before) drafts in
    let block_size = block_size_of d transfers in
    let blocks = blocks_in d block_size in
    unless d.line (size_kind (blocks_of before) blocks block_size transfers) (Ok (store_of d blocks block_size ∷ []))
