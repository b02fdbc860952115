-- What one turn did, and what a worker's work came to.
use Rattle.std.specs.Prelude.{◌≡◌, ℕ, ◌+◌, ◌<◌, ◌≤◌, IsTrue, true, List, [], ◌∷◌, ◌++◌, length, map, Option}
use Rattle.vd_base.specs.declared.geometry.StoreId.{StoreId}
use Rattle.vd_outside.specs.Clocks.{ClockSeen}
use Rattle.vd_arm.specs.Arm.{ArmSeen}
use Rattle.claim_table.specs.Passes.{Fitted}
use Rattle.claim_table.specs.Sums.{Each}
use Rattle.claim_table.specs.declared.view.View.{View}
use Rattle.error_limit.specs.Rule.{newest}
use Rattle.worker_tally.specs.Dones.{has_called}
use Rattle.worker_tally.specs.Tallies.{Tallied}
use Rattle.workload_gen.specs.declared.turn.Turn.{Turn}
use Rattle.slave_worker.specs.Dids.{IsTurn, TimedAt}
use Rattle.slave_worker.specs.Ends.{EndsTurn, Finished, WentOnBelow, last_look}
use Rattle.slave_worker.specs.Standings.{Standing, Worked, found_many, standing}
use Rattle.slave_worker.specs.declared.did.Did.{Did}
use Rattle.slave_worker.specs.declared.did.Rules.{Rules}
use Rattle.slave_worker.specs.declared.did.WorkEnd.{WorkEnd}

-- The error seat noted so often, and the last of these notes answered the most; the newest answers stand first.
abbrev pub Noted : ℕ → List ℕ → List ℕ → Type 0
Noted many before after = (answers : List ℕ) × (after ≡ answers ++ before) × (length answers ≡ many) × Each (λ answer. answer ≤ newest after) answers

-- There is a turn by the rules that made what is after of what was before, and why it ends the work, if it does. Where it called its
-- device its time is the clock's last reading, and over a still clock both readings are that. Where it found something its notes aren't
-- above what the last of them answered. Over a table whose passes all fitted it finds no corrupt block.
abbrev pub TakenAs : Rules → StoreId → Turn → View → View → Tallied → Tallied → ArmSeen → ArmSeen → List ℕ → List ℕ → ClockSeen → ClockSeen → Option WorkEnd → Type 0
TakenAs rules store turn before after tally_before tally_after arm_before arm_after answers_before answers_after clock_before clock_after how =
    (did : Did)
    × (did.turn ≡ turn)
    × IsTurn rules store did
    × Worked rules.intervals store.geometry.block_size (did ∷ []) 0 (standing before tally_before arm_before (length answers_before) clock_before) (standing after tally_after arm_after (length answers_after) clock_after)
    × EndsTurn rules did after (newest answers_after) how
    × (has_called did.done ≡ true → did.done.timed.after ≡ clock_after.last)
    × (0 < found_many did → length answers_after ≤ newest answers_after)
    × (Fitted before.made → did.corrupt ≡ [])
    × (IsTrue clock_before.still → TimedAt clock_before.last did.done)
    × Noted (found_many did) answers_before answers_after

-- There are these turns by the rules, just the drawn ones, the newest first, which made what is after of what was before, with one look at
-- the clock before each; and why the work ended. Over a table whose passes all fitted none of them finds a corrupt block. Over a still
-- clock each has the clock's time. The work went on only behind turns whose notes were answered below the limit, by what the error seat
-- was answered, the newest first.
abbrev pub HasWorked : Rules → StoreId → ℕ → List Turn → Standing → Standing → List ℕ → WorkEnd → Type 0
HasWorked rules store turns drawn before after answers end =
    (dids : List Did)
    × Each (IsTurn rules store) dids
    × (map (λ did. did.turn) dids ≡ drawn)
    × Worked rules.intervals store.geometry.block_size dids (length dids + last_look end) before after
    × Finished rules turns dids after.view (newest answers) after.clock end
    × (Fitted before.view.made → Each (λ did. did.corrupt ≡ []) dids)
    × (IsTrue before.clock.still → Each (λ did. TimedAt before.clock.last did.done) dids)
    × WentOnBelow rules.limit dids answers end
