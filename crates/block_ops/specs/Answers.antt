-- What the answers of the operations hold, and their causes.
use Rattle.std.specs.Prelude.{◌≡◌, ◌⊎◌, true, false, List, Some, None, IsSome, Result, Ok, Err, OnErr}
use Rattle.vd_outside.specs.Causes.{Rose}
use Rattle.key_state.specs.Books.{HasBookCause}
use Rattle.key_state.specs.declared.entry.Entry.{Entry}
use Rattle.key_state.specs.declared.fault.BookFault.{BookFault}
use Rattle.key_state.specs.declared.fault.BookFault.TheVariants.{Failed, Stopped, EpochEnd}
use Rattle.key_state.specs.declared.seen.BookSeen.{BookSeen}
use Rattle.claim_table.specs.declared.run.Run.{Run}
use Rattle.block_ops.specs.Runs.{HeldRun, held_run, some_settled}

-- the run that an answer holds: that of the next state, or what is given back beside a fault
abbrev pub held_in : {P : Type 0} → Result (HeldRun P) (Run P × BookFault) → HeldRun P
held_in (Ok state) = state
held_in (Err refused) = held_run refused.0

abbrev pub state_in : {P : Type 0} → Result (HeldRun P) (HeldRun P × BookFault) → HeldRun P
state_in (Ok state) = state
state_in (Err refused) = refused.0

abbrev pub run_in : {P : Type 0} → Result (Run P) (Run P × BookFault) → HeldRun P
run_in (Ok run) = held_run run
run_in (Err refused) = held_run refused.0

abbrev pub left_in : {P : Type 0} → Result (HeldRun P) (HeldRun P) → HeldRun P
left_in (Ok state) = state
left_in (Err state) = state

-- the book's own answer
abbrev pub fault_in : {S R : Type 0} → Result S (R × BookFault) → Result S BookFault
fault_in (Ok state) = Ok state
fault_in (Err refused) = Err refused.1

-- One of two.
abbrev pub IsEither : {A : Type 0} → A → A → A → Type 0
IsEither one other x = (x ≡ one) ⊎ (x ≡ other)

-- Where some block is settled the answer is that of the one call which appends a record; else nothing fails, and the book is as it was.
pub record HasQueueCause {S : Type 0} (entries : List Entry) (before after : BookSeen) (result : Result S BookFault) : Type 0 where
  pub asked : some_settled entries ≡ true → HasBookCause before after result
  pub unasked : some_settled entries ≡ false → OnErr result ⊥ × (after ≡ before)

-- Why beginning a write and syncing it failed: the count of faults rose in this call; or the book was stopped before; or some block is
-- settled, and the book was full in its last epoch.
abbrev pub HasBeginCause : {S : Type 0} → List Entry → BookSeen → BookSeen → Result S BookFault → Type 0
HasBeginCause entries before after (Ok state) = (some_settled entries ≡ true → before.shut ≡ false) × (after.faults ≡ before.faults) × (after.stopped ≡ None)
HasBeginCause entries before after (Err Failed) =
    (some_settled entries ≡ true → before.shut ≡ false)
    × (before.stopped ≡ None)
    × Rose before.faults after.faults
    × IsSome after.stopped
HasBeginCause entries before after (Err (Stopped records)) = (before.stopped ≡ Some records) × (after ≡ before)
HasBeginCause entries before after (Err (EpochEnd epoch)) =
    (some_settled entries ≡ true)
    × (before.stopped ≡ None)
    × (before.shut ≡ true)
    × (epoch ≡ before.epoch)
    × (after ≡ before)
