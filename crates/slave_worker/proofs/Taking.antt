-- What a turn did, from what its parts tell.
use Rattle.std.proofs.Common.{◌≡◌, ℕ, ◌+◌, ◌-◌, ◌^◌, ◌<◌, ◌≤◌, ◌&&◌, min, max, cond, Bool, IsTrue, true, false, List, refl, sym, ap, subst, ◌∙◌, arith, nat_lt, nat_le, ltb-true, leb-true, leb-false, lt-ltb, [], ◌∷◌, length, Option, Some, None, IfSome}
use Rattle.vd_base.specs.declared.geometry.StoreId.{StoreId}
use Rattle.vd_outside.specs.Clocks.{ClockSeen, rested}
use Rattle.vd_arm.specs.Arm.{ArmSeen}
use Rattle.key_state.specs.declared.fault.BookFault.{BookFault}
use Rattle.claim_table.specs.Passes.{Fitted}
use Rattle.claim_table.specs.declared.view.View.{View}
use Rattle.worker_tally.specs.Dones.{faults_of, good_reads_of, good_writes_of, has_called}
use Rattle.worker_tally.specs.Tallies.{Tallied}
use Rattle.workload_gen.specs.declared.turn.Turn.{Turn}
use Rattle.error_limit.specs.Rule.{newest}
use Rattle.slave_worker.specs.Dids.{IsTurn, TimedAt, found_of, looks_of, where_had}
use Rattle.slave_worker.specs.Ends.{EndsTurn, end_of}
use Rattle.slave_worker.specs.Standings.{ArmCalls, DidCall, Ticked, ViewAfter, WasAnswered, Worked, found_many, standing, tallied}
use Rattle.slave_worker.specs.Works.{Noted}
use Rattle.slave_worker.proofs.Stills.{timed_rested}
use Rattle.slave_worker.specs.declared.did.Did.{Did}
use Rattle.slave_worker.specs.declared.did.Rules.{Rules}
use Rattle.slave_worker.specs.declared.did.WorkEnd.{WorkEnd}
use Rattle.slave_worker.specs.declared.did.WorkEnd.TheVariants as work_end

both_true : (one two : Bool) → (one && two) ≡ true → (one ≡ true) × (two ≡ true)
both_true true two is = (refl, is)
both_true false two is = cc

second_false : (one two : Bool) → (one && two) ≡ false → one ≡ true → two ≡ false
second_false true two is so_is = is
second_false false two is so_is = cc

ends_by : (rules : Rules) (did : Did) (view : View) (found seen last : ℕ) (is_at : Bool) → (nat_lt 0 found && nat_le rules.limit seen) ≡ is_at → did.fault ≡ None → found ≡ length (found_of did) → (0 < found → seen ≡ last) → EndsTurn rules did view last (cond is_at (Some (work_end.ErrorLimit seen)) None)
ends_by rules did view found seen last true is none many noted =
    let both = both_true (nat_lt 0 found) (nat_le rules.limit seen) is in
    let some : 0 < found = ltb-true 0 found both.0 in
    (none, omega (arith, some, many), noted some, leb-true rules.limit seen both.1)
ends_by rules did view found seen last false is none many noted = (
  none,
  λ some.
      let found_some : 0 < found = omega (arith, some, many) in
      let below : seen < rules.limit = leb-false rules.limit seen (second_false (nat_lt 0 found) (nat_le rules.limit seen) is (lt-ltb 0 found found_some)) in
      omega (arith, below, noted found_some),
)

ends_turn : (rules : Rules) (did : Did) (view : View) (answered : Option BookFault) (found seen last : ℕ) → did.fault ≡ answered → found ≡ length (found_of did) → (0 < found → seen ≡ last) → IfSome answered (λ fault. WasAnswered view fault) → EndsTurn rules did view last (end_of rules.limit answered found seen)
ends_turn rules did view (Some fault) found seen last fault_is many noted was = (fault_is, was)
ends_turn rules did view None found seen last fault_is many noted was = ends_by rules did view found seen last (nat_lt 0 found && nat_le rules.limit seen) refl fault_is many noted

arm_one : (reads writes faults : ℕ) (a b : ArmSeen) → ArmCalls reads writes faults a b → ArmCalls (reads + 0) (writes + 0) (faults + 0) a b
arm_one reads writes faults a b calls = record {
  read = omega (arith, calls.read);
  written = omega (arith, calls.written);
  failed = omega (arith, calls.failed);
  kept = λ none. let same : faults ≡ 0 = omega arith in calls.kept same;
  sure = calls.sure;
  still = calls.still;
}

ticked_rested : (looks due : ℕ) (before after : ClockSeen) → Ticked looks (max before.until due) (rested due before) after → Ticked (0 + (looks + 0)) (max before.until due) before after
ticked_rested looks due before after ticked =
    let same : looks ≡ 0 + (looks + 0) = omega arith in
    subst (λ (n : ℕ). Ticked n (max before.until due) before after) same
    (record {
      looks = ticked.looks;
      until = ticked.until;
      still = ticked.still;
      last = ticked.last;
      same = ticked.same;
    })

clock_one : (start looks due : ℕ) (did : Did) (turn : Turn) (before rested_at after : ClockSeen) → did.turn ≡ turn → due ≡ min (start + turn.due) (2 ^ 64 - 1) → rested_at ≡ rested due before → Ticked looks rested_at.until rested_at after → Ticked (0 + (looks + 0)) (max before.until (min (start + did.turn.due) (2 ^ 64 - 1))) before after
clock_one start looks due did turn before rested_at after turn_is due_is rested_is ticked =
    let same : due ≡ min (start + did.turn.due) (2 ^ 64 - 1) = due_is ∙ ap (λ (t : Turn). min (start + t.due) (2 ^ 64 - 1)) (sym turn_is) in
    subst (λ (n : ℕ). Ticked (0 + (looks + 0)) (max before.until n) before after) same
    (ticked_rested looks due before after (subst (λ (c : ClockSeen). Ticked looks c.until c after) rested_is ticked))

-- What `act` tells of a turn.
abbrev pub Acted : Rules → StoreId → Turn → Option BookFault → ℕ → View → View → Tallied → Tallied → ArmSeen → ArmSeen → ClockSeen → ClockSeen → Did → Type 0
Acted rules store turn answered found before after tally_before tally_after arm_before arm_after clock_before clock_after did =
    (did.turn ≡ turn)
    × (did.fault ≡ answered)
    × (found ≡ length (found_of did))
    × IsTurn rules store did
    × ViewAfter (did ∷ []) before after
    × (tally_after ≡ tallied rules.intervals store.geometry.block_size (did ∷ []) tally_before)
    × DidCall did arm_before arm_after
    × Ticked (looks_of did) clock_before.until clock_before clock_after
    × (has_called did.done ≡ true → did.done.timed.after ≡ clock_after.last)
    × (Fitted before.made → did.corrupt ≡ [])
    × (IsTrue clock_before.still → TimedAt clock_before.last did.done)

-- What `take_turn` tells.
abbrev pub Took : Rules → StoreId → Turn → View → View → Tallied → Tallied → ArmSeen → ArmSeen → List ℕ → List ℕ → ClockSeen → ClockSeen → Option WorkEnd → Did → Type 0
Took rules store turn before after tally_before tally_after arm_before arm_after answers_before answers_after clock_before clock_after how did =
    (did.turn ≡ turn)
    × IsTurn rules store did
    × Worked rules.intervals store.geometry.block_size (did ∷ []) 0 (standing before tally_before arm_before (length answers_before) clock_before) (standing after tally_after arm_after (length answers_after) clock_after)
    × EndsTurn rules did after (newest answers_after) how
    × (has_called did.done ≡ true → did.done.timed.after ≡ clock_after.last)
    × (0 < length (found_of did) → length answers_after ≤ newest answers_after)
    × (Fitted before.made → did.corrupt ≡ [])
    × (IsTrue clock_before.still → TimedAt clock_before.last did.done)
    × Noted (found_many did) answers_before answers_after

pub took : (rules : Rules) (store : StoreId) (turn : Turn) (before after : View) (tally_before tally_after : Tallied) (arm_before arm_after : ArmSeen) (answers_before answers_after : List ℕ) (clock_before clock_rested clock_after : ClockSeen) (due found seen : ℕ) (answered : Option BookFault) (how : Option WorkEnd) (did : Did) → due ≡ min (rules.intervals.start + turn.due) (2 ^ 64 - 1) → clock_rested ≡ rested due clock_before → Acted rules store turn answered found before after tally_before tally_after arm_before arm_after clock_rested clock_after did → length answers_after ≡ length answers_before + found → (0 < found → seen ≡ newest answers_after) → (0 < found → length answers_after ≤ newest answers_after) → Noted found answers_before answers_after → IfSome answered (λ fault. WasAnswered after fault) → how ≡ end_of rules.limit answered found seen → Took rules store turn before after tally_before tally_after arm_before arm_after answers_before answers_after clock_before clock_after how did
took rules store turn before after tally_before tally_after arm_before arm_after answers_before answers_after clock_before clock_rested clock_after due found seen answered how did due_is rested_is acted notes noted bound answers was how_is = (
  acted.0,
  acted.3,
  record {
    view = acted.4;
    tally = acted.5;
    arm = arm_one (where_had good_reads_of did) (where_had good_writes_of did) (where_had faults_of did) arm_before arm_after acted.6;
    notes = omega (arith, notes, acted.2);
    clock = clock_one rules.intervals.start (looks_of did) due did turn clock_before clock_rested clock_after acted.0 due_is rested_is acted.7;
  },
  subst (λ (h : Option WorkEnd). EndsTurn rules did after (newest answers_after) h) (sym how_is) (ends_turn rules did after answered found seen (newest answers_after) acted.1 acted.2 noted was),
  acted.8,
  (λ some. bound (omega (arith, some, acted.2))),
  acted.9,
  timed_rested did.done due clock_before clock_rested rested_is acted.10,
  subst (λ (n : ℕ). Noted n answers_before answers_after) acted.2 answers,
)
