-- What a worker's turns change, all together.
use Rattle.std.specs.Prelude.{◌≡◌, ◌≢◌, ℕ, zero, suc, ◌+◌, ◌-◌, ◌^◌, ◌<◌, ◌≤◌, max, min, cond, Bool, IsTrue, true, false, List, [], ◌∷◌, ◌++◌, length, Option, Some, None, IsSome}
use Rattle.vd_base.specs.declared.geometry.StoreId.{StoreId}
use Rattle.vd_outside.specs.Causes.{Rose}
use Rattle.vd_outside.specs.Clocks.{ClockSeen}
use Rattle.vd_arm.specs.Arm.{ArmSeen, Counted, PassSeen}
use Rattle.key_state.specs.Books.{Follows}
use Rattle.key_state.specs.declared.fault.BookFault.{BookFault}
use Rattle.key_state.specs.declared.fault.BookFault.TheVariants.{Failed, Stopped, EpochEnd}
use Rattle.claim_table.specs.Runs.{ArePassesFor}
use Rattle.claim_table.specs.Sums.{Among, Each, total}
use Rattle.claim_table.specs.Views.{parts_in}
use Rattle.claim_table.specs.declared.view.Made.{Made}
use Rattle.claim_table.specs.declared.view.View.{View}
use Rattle.block_ops.specs.Runs.{HeldRun}
use Rattle.key_state.specs.declared.seen.BookSeen.{BookSeen}
use Rattle.seat_ops.specs.Holds.{GaveShut, HoldsRun}
use Rattle.worker_tally.specs.Dones.{faults_of, good_reads_of, good_writes_of}
use Rattle.worker_tally.specs.Tallies.{Tallied, turned_away, with_done}
use Rattle.worker_tally.specs.declared.done.Refusal.{Refusal}
use Rattle.worker_tally.specs.declared.done.Refusal.TheVariants.{Busy}
use Rattle.worker_tally.specs.declared.row.Intervals.{Intervals}
use Rattle.slave_worker.specs.Dids.{found_of, looks_of, where_had, wrote_of}
use Rattle.slave_worker.specs.declared.did.Did.{Did}

-- The seat holds just this run of the store, of one block at least, with the pass of each block, and doesn't have the book.
pub record HoldsPasses {P : Type 0} (pass_seen : P → PassSeen) (id : StoreId) (view : View) (run : HeldRun P) : Type 0 where
  pub holds : HoldsRun view run.first run.entries
  pub passes : ArePassesFor pass_seen view.made run.first run.entries run.passes
  pub store : view.made.store ≡ id
  pub some : 0 < length run.entries

-- It holds no block and doesn't have the book.
abbrev pub IsFree : View → Type 0
IsFree view = (view.held ≡ []) × (view.loan ≡ None)

-- By so many uses of the book the seat ended the writes of these blocks and made those others bad; it claimed nothing.
pub record Changed (uses : ℕ) (before after : View) (ended bad : List ℕ) : Type 0 where
  pub mine : after.mine ≡ before.mine
  pub wrote : after.wrote ≡ ended ++ before.wrote
  pub cleared : after.cleared ≡ before.cleared
  pub spoilt : after.spoilt ≡ bad ++ before.spoilt
  pub gave : (books : List BookSeen) × (after.gave ≡ books ++ before.gave) × (length books ≡ uses)
  pub shut : before.shut ≡ true → after.shut ≡ true
  pub parts : after.parts ≡ before.parts
  pub made : after.made ≡ before.made

-- calls of an arm by which so many blocks were read well and written well, and of which so many failed
pub record ArmCalls (reads writes faults : ℕ) (old new : ArmSeen) : Type 0 where
  pub read : Counted reads old.good_reads new.good_reads
  pub written : Counted writes old.good_writes new.good_writes
  pub failed : min (old.faults + faults) (2 ^ 64 - 1) ≤ new.faults
  pub kept : faults ≡ 0 → new.faults ≡ old.faults
  pub sure : IsTrue old.sure → IsTrue new.sure
  pub still : IsTrue old.sure → new.faults ≡ old.faults

-- a count of looks after so many more, held at the greatest u64
abbrev pub looks_after : ℕ → ℕ → ℕ
looks_after zero looks = looks
looks_after (suc more) looks = min (looks_after more looks + 1) (2 ^ 64 - 1)

-- The clock was looked at so often, and its rests were to last until this time at the latest.
pub record Ticked (more time : ℕ) (old new : ClockSeen) : Type 0 where
  pub looks : new.looks ≡ looks_after more old.looks
  pub until : new.until ≡ time
  pub still : new.still ≡ old.still
  pub last : IsTrue old.still → new.last ≡ old.last
  pub same : more ≡ 0 → new.last ≡ old.last

-- Why a call of a book was refused with this fault: its count of faults rose in it, and it is stopped; or it was stopped before; or it
-- was at the end of its last epoch. In these two nothing of it changed.
abbrev pub Refuses : BookSeen → BookSeen → BookFault → Type 0
Refuses lent given Failed = Rose lent.faults given.faults × IsSome given.stopped
Refuses lent given (Stopped records) = (lent.stopped ≡ Some records) × (given ≡ lent)
Refuses lent given (EpochEnd epoch) = (lent.stopped ≡ None) × (lent.shut ≡ true) × (epoch ≡ lent.epoch) × (given ≡ lent)

-- What a seat with so many parts, which gave these books back, knows of the next one that it gets.
pub record LentBehind (made : Made) (parts : ℕ) (gave : List BookSeen) (lent : BookSeen) : Type 0 where
  pub follows : Follows made.book lent
  pub after : Each (λ old. Follows old lent) gave
  pub alone : parts ≡ parts_in made → Among lent (made.book ∷ gave)

-- The seat's last use of the book was refused with this fault.
abbrev pub WasLastRefused : View → BookFault → Type 0
WasLastRefused view fault = (lent : BookSeen) × (given : BookSeen) × (others : List BookSeen) × (view.gave ≡ given ∷ others) × LentBehind view.made view.parts others lent × Refuses lent given fault

-- The fault was answered: the book that the seat gave back last is shut and agrees with it, as the view tells; and it was refused to the
-- seat's last use.
abbrev pub WasAnswered : View → BookFault → Type 0
WasAnswered view fault = GaveShut view fault × (view.shut ≡ true) × WasLastRefused view fault

-- The book that the seat gave back last isn't stopped.
abbrev pub GaveOpen : View → Type 0
GaveOpen view = (book : BookSeen) × (others : List BookSeen) × (view.gave ≡ book ∷ others) × (book.stopped ≡ None)

-- what a worker's turns change: the view of its seat, its tally, its arm, how often it noted an error, and its clock
pub record Standing : Type 0 where
  pub view : View
  pub tally : Tallied
  pub arm : ArmSeen
  pub notes : ℕ
  pub clock : ClockSeen

abbrev pub standing : View → Tallied → ArmSeen → ℕ → ClockSeen → Standing
standing view tally arm notes clock = record { view = view; tally = tally; arm = arm; notes = notes; clock = clock }

abbrev pub listed : {A : Type 0} → (Did → List A) → List Did → List A
listed lists [] = []
listed lists (did ∷ dids) = lists did ++ listed lists dids

abbrev pub has_fault : Option BookFault → Bool
has_fault None = false
has_fault (Some fault) = true

abbrev pub any_fault : List Did → Bool
any_fault [] = false
any_fault (did ∷ dids) = cond (has_fault did.fault) true (any_fault dids)

-- The view after these turns, the newest first.
pub record ViewAfter (dids : List Did) (before after : View) : Type 0 where
  pub mine : after.mine ≡ listed (λ did. did.mine) dids ++ before.mine
  pub wrote : after.wrote ≡ listed wrote_of dids ++ before.wrote
  pub spoilt : after.spoilt ≡ listed (λ did. did.spoilt) dids ++ before.spoilt
  pub cleared : after.cleared ≡ before.cleared
  pub parts : after.parts ≡ before.parts
  pub made : after.made ≡ before.made
  pub gave : after.gave ≡ listed (λ did. did.gave) dids ++ before.gave
  pub stays : before.shut ≡ true → after.shut ≡ true
  pub shut : any_fault dids ≡ true → after.shut ≡ true
  -- a seat that has all parts of the table meets no busy block
  pub alone : before.parts ≡ parts_in before.made → Each (λ did. did.refusal ≢ Some Busy) dids

-- the tally after one turn, and after these
abbrev pub turn_tallied : Option Refusal → Intervals → ℕ → Did → Tallied → Tallied
turn_tallied None intervals size did old = with_done intervals size did.done (record old { findings = old.findings ++ found_of did })
turn_tallied (Some refused) intervals size did old = turned_away refused old

abbrev pub tallied : Intervals → ℕ → List Did → Tallied → Tallied
tallied intervals size [] old = old
tallied intervals size (did ∷ dids) old = turn_tallied did.refusal intervals size did (tallied intervals size dids old)

-- the latest time until which the rests of these turns were to last: a turn rests until it is due, held at the greatest u64
abbrev pub latest : ℕ → List Did → ℕ → ℕ
latest start [] until = until
latest start (did ∷ dids) until = max (latest start dids until) (min (start + did.turn.due) (2 ^ 64 - 1))

-- how often these turns found something
abbrev pub found_many : Did → ℕ
found_many did = length (found_of did)

-- After these turns, the newest first, over blocks of this size, and so many looks at the clock besides theirs.
pub record Worked (intervals : Intervals) (size : ℕ) (dids : List Did) (looks : ℕ) (before after : Standing) : Type 0 where
  pub view : ViewAfter dids before.view after.view
  pub tally : after.tally ≡ tallied intervals size dids before.tally
  pub arm : ArmCalls (total (where_had good_reads_of) dids) (total (where_had good_writes_of) dids) (total (where_had faults_of) dids) before.arm after.arm
  pub notes : after.notes ≡ before.notes + total found_many dids
  pub clock : Ticked (looks + total looks_of dids) (latest intervals.start dids before.clock.until) before.clock after.clock

-- what one turn did with its arm
abbrev pub DidCall : Did → ArmSeen → ArmSeen → Type 0
DidCall did old new = ArmCalls (where_had good_reads_of did) (where_had good_writes_of did) (where_had faults_of did) old new

-- The rows of a tally have room for each interval.
pub record AreIntervals (intervals : Intervals) (tally : Tallied) : Type 0 where
  pub length_above : 1 ≤ intervals.length
  pub some : 1 ≤ intervals.many
  pub rows : length tally.rows ≤ intervals.many
  pub room : intervals.many ≤ tally.row_room
