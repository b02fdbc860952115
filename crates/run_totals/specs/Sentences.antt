-- What the totals of a run have to do with its stores' books, with the counts of their paths, and with its errors.
use Rattle.std.specs.Prelude.{◌≡◌, ℕ, ◌+◌, ◌-◌, ◌%◌, ◌^◌, ◌<◌, ◌≤◌, min, true, IsTrue, List, All, length, map, Some, slice_get}
use Rattle.std.specs.List.{sum_by}
use Rattle.vd_arm.specs.Arm.{PassSeen}
use Rattle.vd_yard.specs.Out.{AtArm}
use Rattle.vd_yard.specs.Yard.{YardSeen}
use Rattle.vd_yard.specs.Counts.{arm_faults, good_reads, good_writes, source_faults}
use Rattle.plan_types.specs.declared.plan.Plan.{Plan}
use Rattle.plan_types.specs.declared.run.RunPlan.{RunPlan}
use Rattle.plan_types.specs.declared.run.WorkerPlan.{WorkerPlan}
use Rattle.plan_types.specs.declared.store.StorePlan.{StorePlan}
use Rattle.key_state.specs.Entries.{entry_at}
use Rattle.key_state.specs.Books.{Follows}
use Rattle.key_state.specs.declared.seen.BookSeen.{BookSeen}
use Rattle.claim_table.specs.Passes.{ArePasses, ToldFits}
use Rattle.claim_table.specs.Sums.{total}
use Rattle.claim_table.specs.Views.{bad}
use Rattle.worker_tally.specs.Tallies.{Tallied}
use Rattle.slave_worker.specs.Sentences.{corrupt_block_in, fault_in}
use Rattle.slave_worker.specs.declared.did.WorkEnd.{WorkEnd}
use Rattle.slave_worker.specs.declared.did.WorkEnd.TheVariants as work_end
use Rattle.slave_worker.specs.declared.hand.StoreHand.{StoreHand}
use Rattle.run_totals.specs.Whole.{NoneByBook, StoreOf, WholeRun, totals_of_store}

-- a worker's findings are as many failed calls and corrupt blocks as its numbers say
pub record FindingsAreCounted (tally : Tallied) : Type 0 where
  pub faults : tally.numbers.faults ≡ total fault_in tally.findings
  pub corrupt : tally.numbers.corrupt ≡ total corrupt_block_in tally.findings

-- A yard hands out sure arms alone at the paths of these stores.
abbrev pub ArmsAreSure : YardSeen → List StorePlan → Type 0
ArmsAreSure yard stores = (place : ℕ) (store : StorePlan) → slice_get stores place ≡ Some store → IsTrue (yard.tells.sure AtArm store.path)

module _ {P B : Type 0} (pass_seen : P → PassSeen) (book_seen : B → BookSeen) where
  -- what holds of every run and each of its stores
  abbrev pub OfStores : ((whole : WholeRun pass_seen book_seen) → StoreOf pass_seen book_seen whole → Type 0) → Type 0
  OfStores Holds = (whole : WholeRun pass_seen book_seen) (its : StoreOf pass_seen book_seen whole) → Holds whole its

  -- The book that came back follows the one that went in, and has ended as many writes more as the store's workers wrote.
  abbrev pub WritesAreEnds : Type 0
  WritesAreEnds = OfStores (λ whole its.
      Follows (book_seen its.hand.book) (book_seen its.back.book)
      × ((book_seen its.back.book).ends ≡ ((book_seen its.hand.book).ends + (totals_of_store pass_seen book_seen whole its).writes) % 2 ^ 64))

  -- The good reads of the store's path rose by its reads, prereads and rereads.
  abbrev pub ReadsAreGoodReads : Type 0
  ReadsAreGoodReads = OfStores (λ whole its.
      good_reads whole.yard_after.counts its.store.path
      ≡ (good_reads whole.yard_before.counts its.store.path + (totals_of_store pass_seen book_seen whole its).reads
      + (totals_of_store pass_seen book_seen whole its).prereads + (totals_of_store pass_seen book_seen whole its).rereads) % 2 ^ 64)

  -- Its arm faults rose by its faults at least, and not at all where it has none.
  abbrev pub FaultsAreArmFaults : Type 0
  FaultsAreArmFaults = OfStores (λ whole its.
      (min (arm_faults whole.yard_before.counts its.store.path + (totals_of_store pass_seen book_seen whole its).faults) (2 ^ 64 - 1)
      ≤ arm_faults whole.yard_after.counts its.store.path)
      × ((totals_of_store pass_seen book_seen whole its).faults ≡ 0
      → arm_faults whole.yard_after.counts its.store.path ≡ arm_faults whole.yard_before.counts its.store.path))

  -- Where none of its workers ended by its book, its good writes rose by its writes, and its bad blocks by its corrupt ones.
  abbrev pub WritesAreGoodWrites : Type 0
  WritesAreGoodWrites = OfStores (λ whole its. NoneByBook pass_seen book_seen whole its →
      good_writes whole.yard_after.counts its.store.path
      ≡ (good_writes whole.yard_before.counts its.store.path + (totals_of_store pass_seen book_seen whole its).writes) % 2 ^ 64)

  abbrev pub CorruptAreBad : Type 0
  CorruptAreBad = OfStores (λ whole its. NoneByBook pass_seen book_seen whole its →
      total bad (book_seen its.back.book).now ≡ total bad (book_seen its.hand.book).now + (totals_of_store pass_seen book_seen whole its).corrupt)

  -- Bytes that told and fitted their blocks' entries still do, and then no corrupt block was found.
  abbrev pub Fits : StorePlan → StoreHand P B → Type 0
  Fits store hand = (block : ℕ) (pass : PassSeen) → slice_get (map pass_seen hand.passes.items) block ≡ Some pass
      → ToldFits store.id block (entry_at (book_seen hand.book).now block) pass.told

  abbrev pub FittingStaysSo : Type 0
  FittingStaysSo = OfStores (λ whole its. Fits its.store its.hand →
      Fits its.store its.back × ((totals_of_store pass_seen book_seen whole its).corrupt ≡ 0))

  -- The passes that came back are again those of the store, one for each block.
  abbrev pub PassesComeBack : Type 0
  PassesComeBack = OfStores (λ whole its. (its.back.store ≡ its.hand.store) × ArePasses its.store.id (map pass_seen its.back.passes.items))

  -- what holds of every run
  abbrev pub OfRuns : (WholeRun pass_seen book_seen → Type 0) → Type 0
  OfRuns Holds = (whole : WholeRun pass_seen book_seen) → Holds whole

  -- The counts of a path that no store of the run has stay as they were; so do all faults of sources.
  abbrev pub OtherPathsStay : Type 0
  OtherPathsStay = OfRuns (λ whole. (path : List ℕ) →
      ((worker : WorkerPlan) (store : StorePlan) (i : ℕ) → slice_get whole.run.workers i ≡ Some worker → slice_get whole.plan.stores worker.store ≡ Some store → store.path ≡ path → ⊥)
      → (arm_faults whole.yard_after.counts path ≡ arm_faults whole.yard_before.counts path)
      × (good_reads whole.yard_after.counts path ≡ good_reads whole.yard_before.counts path)
      × (good_writes whole.yard_after.counts path ≡ good_writes whole.yard_before.counts path))

  abbrev pub SourcesStay : Type 0
  SourcesStay = OfRuns (λ whole. (path : List ℕ) → source_faults whole.yard_after.counts path ≡ source_faults whole.yard_before.counts path)

  -- The errors are those from before and all findings, and each worker's findings are as its numbers say.
  abbrev pub ErrorsAreFindings : Type 0
  ErrorsAreFindings = OfRuns (λ whole.
      (whole.answer.errors ≡ whole.errors_before + sum_by (λ tally. length tally.findings) whole.answer.tallies.items)
      × All FindingsAreCounted whole.answer.tallies.items)

  -- Over sure arms no worker meets a failed call.
  abbrev pub SureArmsDontFail : Type 0
  SureArmsDontFail = OfRuns (λ whole. ArmsAreSure whole.yard_before whole.plan.stores → All (λ tally. tally.numbers.faults ≡ 0) whole.answer.tallies.items)

  -- There are a tally and an end for each worker, and each hand came back.
  abbrev pub OneForEach : Type 0
  OneForEach = OfRuns (λ whole.
      (length whole.answer.tallies.items ≡ length whole.run.workers) × (length whole.answer.ends.items ≡ length whole.run.workers)
      × (length whole.answer.hands.items ≡ length whole.hands))

  -- why a worker's work ended, by its tally, the errors, and its store's book as it came back
  abbrev pub EndsBy : Plan → RunPlan → ℕ → Tallied → BookSeen → WorkEnd → Type 0
  EndsBy plan run errors tally book work_end.TurnsMade = tally.numbers.turns ≡ run.turns
  EndsBy plan run errors tally book (work_end.TimeUp last) = tally.numbers.turns < run.turns
  EndsBy plan run errors tally book (work_end.ErrorLimit seen) = (plan.data_errors ≤ seen) × (seen ≤ errors)
  EndsBy plan run errors tally book (work_end.Book fault) = book.shut ≡ true

  -- Each end has its cause.
  abbrev pub EndsHaveCauses : Type 0
  EndsHaveCauses = OfStores (λ whole its. (i : ℕ) (worker : WorkerPlan) (tally : Tallied) (end : WorkEnd)
      → slice_get whole.run.workers i ≡ Some worker → worker.store ≡ its.hand.store
      → slice_get whole.answer.tallies.items i ≡ Some tally → slice_get whole.answer.ends.items i ≡ Some end
      → EndsBy whole.plan whole.run whole.answer.errors tally (book_seen its.back.book) end)

  -- Over a clock that stands still, and early, no worker runs out of time.
  abbrev pub StillClocksDontEnd : Type 0
  StillClocksDontEnd = OfRuns (λ whole. IsTrue whole.clock_before.still → whole.clock_before.last < 2 ^ 63
      → (last : ℕ) → All (λ end. end ≡ work_end.TimeUp last → ⊥) whole.answer.ends.items)
