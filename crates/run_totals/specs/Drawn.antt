-- What the totals of a store in a run have to do with the turns of its workers' draws.
use Rattle.std.specs.Prelude.{◌≡◌, ◌≢◌, ℕ, ◌*◌, ◌+◌, ◌^◌, ◌<◌, ◌≤◌, Bool, cond, IsTrue, All, AllPairs, List, [], ◌∷◌, filter, length}
use Rattle.std.specs.List.{flat_map, sum_by, zip}
use Rattle.vd_base.specs.Geometry.{Shape}
use Rattle.vd_arm.specs.Arm.{PassSeen}
use Rattle.plan_types.specs.declared.run.RunPlan.{RunPlan}
use Rattle.plan_types.specs.declared.run.WorkerPlan.{WorkerPlan}
use Rattle.key_state.specs.declared.seen.BookSeen.{BookSeen}
use Rattle.claim_table.specs.Sums.{total}
use Rattle.claim_table.specs.Views.{bad}
use Rattle.worker_tally.specs.Tallies.{Tallied}
use Rattle.workload_gen.specs.Task.{shares_of, task_of}
use Rattle.workload_gen.specs.Turns.{turns_of}
use Rattle.workload_gen.specs.declared.task.StoreShare.{StoreShare}
use Rattle.workload_gen.specs.declared.turn.Turn.{Turn}
use Rattle.slave_worker.specs.Drawn.{AreOneBlock, begins_at, blocks_read, blocks_written}
use Rattle.slave_worker.specs.Hands.{workers_in}
use Rattle.run_report.specs.Runs.{is_of}
use Rattle.run_report.specs.declared.run_sums.Group.TheVariants as group
use Rattle.run_report.specs.declared.run_sums.Totals.{Totals}
use Rattle.run_totals.specs.Sentences.{OfRuns, OfStores}
use Rattle.run_totals.specs.Whole.{NoneByBook, StoreOf, WholeRun, totals_of_store}

-- the first so many turns of a worker's draw over a store of this shape, the newest first
abbrev pub first_turns : RunPlan → Shape → WorkerPlan → ℕ → List Turn
first_turns run shape worker many = turns_of (task_of run worker shape) many

-- the turns that the workers of the store at a place made, each as many as its tally says
abbrev pub turns_made : RunPlan → Shape → ℕ → List Tallied → List Turn
turns_made run shape place tallies =
    flat_map (λ (one : WorkerPlan × Tallied). first_turns run shape one.0 one.1.numbers.turns) (filter (λ (one : WorkerPlan × Tallied). is_of (group.Store place) one.0) (zip run.workers tallies))

-- the shares of the store at a place
abbrev pub its_shares : RunPlan → Shape → ℕ → List StoreShare
its_shares run shape place = shares_of shape.block_size place run.shares

-- Some of the turns begins at the block.
abbrev pub IsIn : List Turn → ℕ → Type 0
IsIn turns block = 0 < total (begins_at block) turns

-- These totals are those of these turns, in a run in which nothing went wrong and no block was bad.
pub record IsDrawn (reread : Bool) (shares : List StoreShare) (turns : List Turn) (totals : Totals) : Type 0 where
  pub many : totals.turns ≡ length turns
  pub badskip : totals.badskip ≡ 0
  pub rereads : totals.rereads ≡ cond reread totals.writes 0
  -- no more is read than the blocks of the read turns, and no more written than those of the write turns
  pub reads : totals.reads ≤ total blocks_read turns
  pub writes : totals.writes ≤ total blocks_written turns
  -- where each transfer is of one block, each turn is a read, a write or busy
  pub add_up : AreOneBlock shares → totals.reads + totals.writes + totals.busy ≡ totals.turns
  -- then the turns that weren't busy are at least as many as different blocks are in the turns
  pub used : AreOneBlock shares → (blocks : List ℕ) → AllPairs (λ one other. one ≢ other) blocks → All (IsIn turns) blocks → length blocks + totals.busy ≤ totals.turns

-- They are those of one worker's turns, which does them all.
pub record IsWholeDraw (turns : List Turn) (totals : Totals) : Type 0 where
  pub busy : totals.busy ≡ 0
  pub reads : totals.reads ≡ total blocks_read turns
  pub writes : totals.writes ≡ total blocks_written turns

module _ {P B : Type 0} (pass_seen : P → PassSeen) (book_seen : B → BookSeen) where
  -- No call of the store's device failed, no corrupt block of it was found, and no worker of it ended by its book.
  pub record WentWell (whole : WholeRun pass_seen book_seen) (its : StoreOf pass_seen book_seen whole) : Type 0 where
    pub faults : (totals_of_store pass_seen book_seen whole its).faults ≡ 0
    pub corrupt : (totals_of_store pass_seen book_seen whole its).corrupt ≡ 0
    pub book : NoneByBook pass_seen book_seen whole its

  -- Nor was a block of it bad as the run began.
  pub record WasWell (whole : WholeRun pass_seen book_seen) (its : StoreOf pass_seen book_seen whole) : Type 0 where
    pub went : WentWell whole its
    pub none_bad : total bad (book_seen its.hand.book).now ≡ 0

  -- Then its totals are those of the turns that its workers made.
  abbrev pub TotalsAreDrawn : Type 0
  TotalsAreDrawn = OfStores pass_seen book_seen (λ whole its. WasWell whole its
      → IsDrawn whole.plan.reread (its_shares whole.run its.store.id.geometry its.hand.store)
      (turns_made whole.run its.store.id.geometry its.hand.store whole.answer.tallies.items) (totals_of_store pass_seen book_seen whole its))

  -- Where it has one worker it is never busy, and reads and writes all blocks of its first turns.
  abbrev pub OneWorkerDoesItsDraw : Type 0
  OneWorkerDoesItsDraw = OfStores pass_seen book_seen (λ whole its. WasWell whole its → (worker : WorkerPlan) → workers_in whole.run its.hand.store ≡ worker ∷ []
      → IsWholeDraw (first_turns whole.run its.store.id.geometry worker (totals_of_store pass_seen book_seen whole its).turns) (totals_of_store pass_seen book_seen whole its))

  -- No worker makes more turns than the run has. Where all together made as many as it has for all, each made them all.
  abbrev pub TurnsAreFew : Type 0
  TurnsAreFew = OfRuns pass_seen book_seen (λ whole. All (λ tally. tally.numbers.turns ≤ whole.run.turns) whole.answer.tallies.items)

  abbrev pub AllTurnsAddUp : Type 0
  AllTurnsAddUp = OfRuns pass_seen book_seen (λ whole. sum_by (λ tally. tally.numbers.turns) whole.answer.tallies.items ≡ length whole.run.workers * whole.run.turns
      → All (λ tally. tally.numbers.turns ≡ whole.run.turns) whole.answer.tallies.items)

  -- Over a clock that stands still, and early, the workers of a store in which nothing went wrong make all turns.
  abbrev pub StillRunsMakeAllTurns : Type 0
  StillRunsMakeAllTurns = OfStores pass_seen book_seen (λ whole its. WentWell whole its → IsTrue whole.clock_before.still → whole.clock_before.last < 2 ^ 63
      → (totals_of_store pass_seen book_seen whole its).turns ≡ (totals_of_store pass_seen book_seen whole its).workers * whole.run.turns)
