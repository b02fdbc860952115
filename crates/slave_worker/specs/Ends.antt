-- Why a turn ends the work, and why the work ended.
use Rattle.std.specs.Prelude.{◌≡◌, ℕ, ◌*◌, ◌+◌, ◌-◌, ◌^◌, ◌<◌, ◌≤◌, min, cond, nat_lt, nat_le, ◌&&◌, Bool, true, false, All, List, [], ◌∷◌, drop, length, take, Option, Some, None, slice_get}
use Rattle.vd_base.specs.declared.geometry.StoreId.{StoreId}
use Rattle.vd_outside.specs.Clocks.{ClockSeen}
use Rattle.plan_types.specs.Valid.{IsPlan, intervals_of}
use Rattle.plan_types.specs.declared.store.StorePlan.{StorePlan}
use Rattle.plan_types.specs.declared.plan.Plan.{Plan}
use Rattle.plan_types.specs.declared.run.RunPlan.{RunPlan}
use Rattle.plan_types.specs.declared.run.WorkerPlan.{WorkerPlan}
use Rattle.key_state.specs.declared.fault.BookFault.{BookFault}
use Rattle.claim_table.specs.Sums.{Each, total}
use Rattle.claim_table.specs.declared.view.View.{View}
use Rattle.slave_worker.specs.Standings.{WasAnswered, found_many}
use Rattle.worker_tally.specs.declared.row.Intervals.{Intervals}
use Rattle.slave_worker.specs.Dids.{found_of}
use Rattle.slave_worker.specs.declared.did.Did.{Did}
use Rattle.slave_worker.specs.declared.did.Rules.{Rules}
use Rattle.slave_worker.specs.declared.did.WorkEnd.{WorkEnd}
use Rattle.slave_worker.specs.declared.did.WorkEnd.TheVariants as work_end

-- how a run's time is divided that began at this microsecond
abbrev pub intervals_from : ℕ → RunPlan → Intervals
intervals_from start run = record { start = start; length = run.interval * 1000000; many = intervals_of run.elapsed run.interval }

-- what a worker of a run goes by
abbrev pub rules_of : Plan → RunPlan → WorkerPlan → ℕ → Rules
rules_of plan run worker start = record {
  worker = worker.number;
  preread = plan.preread;
  reread = plan.reread;
  limit = plan.data_errors;
  intervals = intervals_from start run;
  end = min (start + run.elapsed * 1000000) (2 ^ 64 - 1);
}

abbrev pub NoFault : List Did → Type 0
NoFault dids = Each (λ did. did.fault ≡ None) dids

-- The newest turn met this fault of the book, and none before it met any.
abbrev pub MetFault : List Did → BookFault → Type 0
MetFault [] fault = ⊥
MetFault (did ∷ dids) fault = (did.fault ≡ Some fault) × NoFault dids

-- Why a turn ends the work, by the answer of the newest note: it found something and that has reached the limit, or the book answered a
-- fault; else it doesn't.
abbrev pub EndsTurn : Rules → Did → View → ℕ → Option WorkEnd → Type 0
EndsTurn rules did view last None = (did.fault ≡ None) × (0 < length (found_of did) → last < rules.limit)
EndsTurn rules did view last (Some (work_end.ErrorLimit seen)) = (did.fault ≡ None) × (0 < length (found_of did)) × (seen ≡ last) × (rules.limit ≤ seen)
EndsTurn rules did view last (Some (work_end.Book fault)) = (did.fault ≡ Some fault) × WasAnswered view fault
EndsTurn rules did view last (Some work_end.TurnsMade) = ⊥
EndsTurn rules did view last (Some (work_end.TimeUp time)) = ⊥

-- how many errors the newest turn found
abbrev pub found_first : List Did → ℕ
found_first [] = 0
found_first (did ∷ dids) = found_many did

-- The newest turn found something.
abbrev pub FoundSome : List Did → Type 0
FoundSome [] = ⊥
FoundSome (did ∷ dids) = 0 < length (found_of did)

-- Why the work ended after these turns of so many.
abbrev pub Finished : Rules → ℕ → List Did → View → ℕ → ClockSeen → WorkEnd → Type 0
Finished rules turns dids view last clock work_end.TurnsMade = (length dids ≡ turns) × NoFault dids
Finished rules turns dids view last clock (work_end.TimeUp time) = (length dids < turns) × NoFault dids × (clock.last ≡ time) × (rules.end ≤ time)
Finished rules turns dids view last clock (work_end.ErrorLimit seen) = (length dids < turns) × NoFault dids × FoundSome dids × (seen ≡ last) × (rules.limit ≤ seen)
Finished rules turns dids view last clock (work_end.Book fault) = (length dids ≤ turns) × MetFault dids fault × WasAnswered view fault

-- how many errors the turn found behind which the work didn't go on: none where the time was up, and else what the newest turn found
abbrev pub found_last : WorkEnd → List Did → ℕ
found_last (work_end.TimeUp time) dids = 0
found_last work_end.TurnsMade dids = found_first dids
found_last (work_end.ErrorLimit seen) dids = found_first dids
found_last (work_end.Book fault) dids = found_first dids

-- Of the answers of the error seat, the newest first, those to the notes of turns behind which the work went on are below the limit.
abbrev pub WentOnBelow : ℕ → List Did → List ℕ → WorkEnd → Type 0
WentOnBelow limit dids answers end = Each (λ answer. answer < limit) (drop (found_last end dids) (take (total found_many dids) answers))

-- one look more where the time was up
abbrev pub last_look : WorkEnd → ℕ
last_look (work_end.TimeUp time) = 1
last_look _ = 0

-- why a turn ends the work, by the book's fault, how many errors were found, and what the last note answered
abbrev pub end_of : ℕ → Option BookFault → ℕ → ℕ → Option WorkEnd
end_of limit (Some fault) found seen = Some (work_end.Book fault)
end_of limit None found seen = cond (nat_lt 0 found && nat_le limit seen) (Some (work_end.ErrorLimit seen)) None

-- the end of the work after a turn: a limit that the last turn reached doesn't end it, since then all turns were made
abbrev pub ends_work : Option WorkEnd → Bool → Option WorkEnd
ends_work (Some (work_end.ErrorLimit seen)) true = None
ends_work (Some (work_end.ErrorLimit seen)) false = Some (work_end.ErrorLimit seen)
ends_work (Some work_end.TurnsMade) last = Some work_end.TurnsMade
ends_work (Some (work_end.TimeUp time)) last = Some (work_end.TimeUp time)
ends_work (Some (work_end.Book fault)) last = Some (work_end.Book fault)
ends_work None last = None

-- A worker of a run of a valid plan, and its store.
pub record IsWorkOf (plan : Plan) (run : RunPlan) (worker : WorkerPlan) (store : StoreId) : Type 0 where
  pub valid : IsPlan plan
  pub run_number : (i : ℕ) × (slice_get plan.runs i ≡ Some run)
  pub worker_number : (i : ℕ) × (slice_get run.workers i ≡ Some worker)
  pub its_store : (found : StorePlan) × (slice_get plan.stores worker.store ≡ Some found) × (found.id ≡ store)

-- So many bytes are enough for each transfer of the worker's store in the run.
abbrev pub HasBytes : RunPlan → WorkerPlan → ℕ → Type 0
HasBytes run worker many = All (λ share. share.store ≡ worker.store → share.xfersize ≤ many) run.shares
