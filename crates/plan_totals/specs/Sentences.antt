-- What all runs of a plan have to do with its text and errors, with its stores' books, and with the counts of their paths.
use Rattle.std.specs.Prelude.{◌≡◌, ◌≢◌, ℕ, ◌+◌, ◌-◌, ◌%◌, ◌^◌, ◌<◌, ◌≤◌, min, false, IsTrue, List, [], All, ◌++◌, length, map, take, Option, Some, None, slice_get}
use Rattle.vd_base.specs.declared.geometry.StoreId.{StoreId}
use Rattle.vd_arm.specs.Arm.{PassSeen}
use Rattle.vd_yard.specs.Contents.{file_block}
use Rattle.vd_yard.specs.Counts.{arm_faults, good_reads, good_writes, source_faults}
use Rattle.vd_yard.specs.Kept.{Kept, bytes_at}
use Rattle.plan_types.specs.declared.store.StorePlan.{StorePlan}
use Rattle.key_state.specs.Books.{Follows}
use Rattle.key_state.specs.Entries.{entry_at}
use Rattle.key_state.specs.declared.entry.Entry.{Entry}
use Rattle.key_state.specs.declared.entry.Entry.TheVariants.{Settled}
use Rattle.key_state.specs.declared.seen.BookSeen.{BookSeen}
use Rattle.block_verdict.specs.Fits.{BytesFit}
use Rattle.claim_table.specs.Sums.{total}
use Rattle.claim_table.specs.Views.{bad}
use Rattle.slave_worker.specs.Hands.{HandSeen}
use Rattle.run_totals.specs.Sentences.{ArmsAreSure, FindingsAreCounted}
use Rattle.run_report.specs.Lines.{cannot_open_text}
use Rattle.run_report.specs.declared.run_sums.Totals.{Totals}
use Rattle.run_report.specs.declared.status.Status.TheVariants as status
use Rattle.plan_hands.specs.Stores.{AreStores, book_of, passes_of, with_books}
use Rattle.plan_runs.specs.Quiet.{unwritten}
use Rattle.plan_runs.specs.Stages.{is_last}
use Rattle.plan_runs.specs.Statuses.{tallies_status}
use Rattle.plan_totals.specs.Made.{MadeRun, PlanRuns, StoreOf, findings_of, made_of, sum_of, tallies_of, texts_of}

-- a count that wraps at 2^64 rose by so many, and is within its range where it was
pub record RoseBy (many old new : ℕ) : Type 0 where
  pub rise : new % 2 ^ 64 ≡ (old + many) % 2 ^ 64
  pub range : old < 2 ^ 64 → new < 2 ^ 64

-- one tally and one end for each worker of a run
pub record IsCounted (one : MadeRun) : Type 0 where
  pub tally_each : length one.tallies ≡ length one.run.workers
  pub end_each : length one.ends ≡ length one.run.workers

-- These bytes are told, those of a whole block, and they fit the block's entry.
abbrev pub TellsFit : StoreId → ℕ → Entry → Option (List ℕ) → Type 0
TellsFit store block entry None = ⊥
TellsFit store block entry (Some bytes) = (length bytes ≡ store.geometry.block_size) × BytesFit store block entry bytes

-- A hand's open passes tell bytes that fit the entries of its book.
abbrev pub OpenFit : StorePlan → HandSeen → Type 0
OpenFit store hand = (block : ℕ) (pass : PassSeen) → slice_get (passes_of hand) block ≡ Some pass
    → TellsFit store.id block (entry_at (book_of hand).now block) pass.told

-- The bytes that are kept of a store fit these entries of its blocks.
abbrev pub DataFits : Kept (List ℕ) → StorePlan → List Entry → Type 0
DataFits contents store entries = (block : ℕ) → block < store.id.geometry.blocks
    → BytesFit store.id block (entry_at entries block) (file_block store.id.geometry.block_size block (bytes_at contents store.path))

-- They fit the entries of its book.
abbrev pub FileFits : Kept (List ℕ) → StorePlan → HandSeen → Type 0
FileFits contents store hand = DataFits contents store (book_of hand).now

-- What a hand's open passes tell fits the entries of its book, and while they aren't open what is kept of its store does.
abbrev pub HandFits : Kept (List ℕ) → StorePlan → HandSeen → Type 0
HandFits contents store hand = OpenFit store hand × (passes_of hand ≡ [] → FileFits contents store hand)

-- Whatever a store's bytes are, they fit where each block counts as never written.
abbrev pub UnwrittenFit : Type 0
UnwrittenFit = (contents : Kept (List ℕ)) (store : StorePlan) (hand : HandSeen)
    → ((block : ℕ) → block < store.id.geometry.blocks → entry_at (book_of hand).now block ≡ Settled 0) → FileFits contents store hand

module _ {P B : Type 0} (pass_seen : P → PassSeen) (book_seen : B → BookSeen) where
  -- what holds of all runs of every plan
  abbrev pub OfPlans : (PlanRuns pass_seen book_seen → Type 0) → Type 0
  OfPlans Holds = (all : PlanRuns pass_seen book_seen) → Holds all

  abbrev pub made_in_all : PlanRuns pass_seen book_seen → List MadeRun
  made_in_all all = made_of pass_seen book_seen all

  -- The runs that were made are the first ones of the plan.
  abbrev pub FirstAreMade : Type 0
  FirstAreMade = OfPlans (λ all. map (λ (one : MadeRun). one.run) (made_in_all all) ≡ take (length (made_in_all all)) all.plan.runs)

  -- There are a tally and an end for each worker of each of them.
  abbrev pub OneForEach : Type 0
  OneForEach = OfPlans (λ all. All IsCounted (made_in_all all))

  -- The text is theirs, unless memory ran out or a file couldn't be opened.
  abbrev pub TextIsTheirs : Type 0
  TextIsTheirs = OfPlans (λ all. all.result ≢ status.NoMemory → all.result ≢ status.Yard → all.text ≡ texts_of all.plan.stores (made_in_all all))

  -- Where a file couldn't be opened a line behind theirs names it, and it is a store's.
  abbrev pub RefusedIsTold : Type 0
  RefusedIsTold = OfPlans (λ all. all.result ≡ status.Yard
      → (place : ℕ) × (store : StorePlan) × (slice_get all.plan.stores place ≡ Some store)
      × (all.text ≡ texts_of all.plan.stores (made_in_all all) ++ cannot_open_text store.path))

  -- Each worker's findings are as many failed calls and corrupt blocks as its numbers say.
  abbrev pub FindingsAreTold : Type 0
  FindingsAreTold = OfPlans (λ all. All (λ (one : MadeRun). All FindingsAreCounted one.tallies) (made_in_all all))

  -- Where more runs may follow the status is what all tallies say together.
  abbrev pub StatusIsFound : Type 0
  StatusIsFound = OfPlans (λ all. is_last all.result ≡ false → all.result ≡ tallies_status (tallies_of (made_in_all all)))

  -- A run is left out only where the errors have reached the limit, or by a status behind which no run follows.
  abbrev pub NoneIsLeftOut : Type 0
  NoneIsLeftOut = OfPlans (λ all. is_last all.result ≡ false → length (made_in_all all) < length all.plan.runs → all.plan.data_errors ≤ all.last.errors)

  -- Each run that was made started below the limit.
  abbrev pub StartBelowLimit : Type 0
  StartBelowLimit = OfPlans (λ all. (i : ℕ) → i < length (made_in_all all)
      → all.before.errors + findings_of (take i (made_in_all all)) < all.plan.data_errors)

  -- The errors are those from before and all findings.
  abbrev pub ErrorsAreFindings : Type 0
  ErrorsAreFindings = OfPlans (λ all. all.last.errors ≡ all.before.errors + findings_of (made_in_all all))

  -- Each store of the plan still has its hand.
  abbrev pub StoresStay : Type 0
  StoresStay = OfPlans (λ all. AreStores all.plan all.last.hands)

  -- what holds of each store of every plan
  abbrev pub OfStores : ((all : PlanRuns pass_seen book_seen) → StoreOf pass_seen book_seen all → Type 0) → Type 0
  OfStores Holds = (all : PlanRuns pass_seen book_seen) (its : StoreOf pass_seen book_seen all) → Holds all its

  -- one number of a store's totals, in all runs that were made
  abbrev pub sum_in_all : (Totals → ℕ) → (all : PlanRuns pass_seen book_seen) → StoreOf pass_seen book_seen all → ℕ
  sum_in_all number all its = sum_of number its.place (made_in_all all)

  -- Its last book follows the first, and has ended as many writes more as its workers wrote.
  abbrev pub WritesAreEnds : Type 0
  WritesAreEnds = OfStores (λ all its.
      Follows (book_of its.hand) (book_of its.back)
      × RoseBy (sum_in_all (λ totals. totals.writes) all its) (book_of its.hand).ends (book_of its.back).ends)

  -- The good reads of its path rose by its reads, prereads and rereads.
  abbrev pub ReadsAreGoodReads : Type 0
  ReadsAreGoodReads = OfStores (λ all its.
      RoseBy (sum_in_all (λ totals. totals.reads + totals.prereads + totals.rereads) all its)
      (good_reads all.before.yard.counts its.store.path) (good_reads all.last.yard.counts its.store.path))

  -- The arm faults rose by its faults at least, and not at all where it has none.
  abbrev pub FaultsAreArmFaults : Type 0
  FaultsAreArmFaults = OfStores (λ all its.
      (min (arm_faults all.before.yard.counts its.store.path + sum_in_all (λ totals. totals.faults) all its) (2 ^ 64 - 1)
      ≤ arm_faults all.last.yard.counts its.store.path)
      × (sum_in_all (λ totals. totals.faults) all its ≡ 0
      → arm_faults all.last.yard.counts its.store.path ≡ arm_faults all.before.yard.counts its.store.path))

  -- Where no book failed or came to its end, and neither memory nor the yard stopped the runs, the good writes rose by its writes, and its
  -- bad blocks by its corrupt ones.
  abbrev pub WritesAreGoodWrites : Type 0
  WritesAreGoodWrites = OfStores (λ all its. is_last all.result ≡ false
      → RoseBy (sum_in_all (λ totals. totals.writes) all its) (good_writes all.before.yard.counts its.store.path) (good_writes all.last.yard.counts its.store.path))

  abbrev pub CorruptAreBad : Type 0
  CorruptAreBad = OfStores (λ all its. is_last all.result ≡ false
      → total bad (book_of its.back).now ≡ total bad (book_of its.hand).now + sum_in_all (λ totals. totals.corrupt) all its)

  -- The counts of a path that no store has stay as they were; so do all faults of sources.
  abbrev pub OtherPathsStay : Type 0
  OtherPathsStay = OfPlans (λ all. (path : List ℕ)
      → ((place : ℕ) (store : StorePlan) → slice_get all.plan.stores place ≡ Some store → store.path ≡ path → ⊥)
      → (arm_faults all.last.yard.counts path ≡ arm_faults all.before.yard.counts path)
      × RoseBy 0 (good_reads all.before.yard.counts path) (good_reads all.last.yard.counts path)
      × RoseBy 0 (good_writes all.before.yard.counts path) (good_writes all.last.yard.counts path))

  abbrev pub SourcesStay : Type 0
  SourcesStay = OfPlans (λ all. (path : List ℕ) → source_faults all.last.yard.counts path ≡ source_faults all.before.yard.counts path)

  -- what fits at first: what each store's open passes tell, or what the yard keeps of it
  abbrev pub AllFit : PlanRuns pass_seen book_seen → Type 0
  AllFit all = (its : StoreOf pass_seen book_seen all) → HandFits all.before.yard.contents its.store its.hand

  -- It does where no store has a journal and none of its blocks was ever written.
  abbrev pub UnwrittenPlansFit : Type 0
  UnwrittenPlansFit = (all : PlanRuns pass_seen book_seen) → all.before.hands ≡ with_books (map unwritten all.plan.stores) → AllFit all

  -- Runs change nothing of what the yard keeps of the data, since their passes are out, nor what it tells.
  abbrev pub ContentsStay : Type 0
  ContentsStay = OfPlans (λ all. (all.last.yard.contents ≡ all.before.yard.contents) × (all.last.yard.tells ≡ all.before.yard.tells))

  -- Over a yard that tells what it keeps, what fitted of a store still does, and no corrupt block of it is found.
  abbrev pub FittingStaysSo : Type 0
  FittingStaysSo = OfStores (λ all its. IsTrue all.before.yard.tells.keeps_contents → HandFits all.before.yard.contents its.store its.hand
      → HandFits all.last.yard.contents its.store its.back × (sum_in_all (λ totals. totals.corrupt) all its ≡ 0))

  -- Over sure arms no worker meets a failed call, and no status says so.
  abbrev pub SureArmsDontFail : Type 0
  SureArmsDontFail = OfPlans (λ all. ArmsAreSure all.before.yard all.plan.stores
      → All (λ (one : MadeRun). All (λ tally. tally.numbers.faults ≡ 0) one.tallies) (made_in_all all) × (all.result ≢ status.Device))

  -- Then no worker found one, and no status says so.
  abbrev pub NoneIsCorrupt : Type 0
  NoneIsCorrupt = OfPlans (λ all. IsTrue all.before.yard.tells.keeps_contents → AllFit all
      → All (λ (one : MadeRun). All (λ tally. tally.numbers.corrupt ≡ 0) one.tallies) (made_in_all all) × (all.result ≢ status.Corrupt))
