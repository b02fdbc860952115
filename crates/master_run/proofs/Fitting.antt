-- What a worker has before its work, and what its work then tells.
use Rattle.std.proofs.Common.{◌≡◌, ◌∙◌, ap, subst, arith, ℕ, ◌+◌, ◌-◌, ◌/◌, ◌<◌, ◌≤◌, All, Contains, IsSomeAnd, List, [], get_or, length, slice_get, take, Option, Some}
use Rattle.std.proofs.lemmas.List.Elements.{All-more, All-weaker}
use Rattle.std.proofs.lemmas.Nat.{le-div}
use Rattle.std.proofs.lemmas.Option.{get_or_from_slice_get, slice_get_within}
use Rattle.vd_base.specs.declared.geometry.StoreId.{StoreId}
use Rattle.vd_outside.specs.Clocks.{ClockSeen}
use Rattle.vd_arm.specs.Arm.{ArmSeen}
use Rattle.plan_types.specs.Valid.{IsRun}
use Rattle.plan_types.specs.declared.plan.Plan.{Plan}
use Rattle.plan_types.specs.declared.run.RunPlan.{RunPlan}
use Rattle.plan_types.specs.declared.run.Share.{Share}
use Rattle.plan_types.specs.declared.run.WorkerPlan.{WorkerPlan}
use Rattle.plan_types.specs.declared.store.StorePlan.{StorePlan}
use Rattle.claim_table.specs.declared.view.View.{View}
use Rattle.worker_tally.specs.Tallies.{Tallied}
use Rattle.workload_gen.specs.Laws.{SharesAreFew, WorkersCanDraw}
use Rattle.workload_gen.specs.Task.{CanDraw, task_of}
use Rattle.workload_gen.specs.Turns.{Drawing, drawn, turns_of}
use Rattle.workload_gen.specs.declared.task.Task.{Task}
use Rattle.workload_gen.specs.declared.turn.Turn.{Turn}
use Rattle.slave_worker.specs.Ends.{IsWorkOf, rules_of}
use Rattle.slave_worker.specs.Standings.{AreIntervals, Standing, standing}
use Rattle.slave_worker.specs.declared.did.Rules.{Rules}
use Rattle.slave_worker.specs.declared.did.WorkEnd.{WorkEnd}
use Rattle.slave_worker.specs.Works.{HasWorked}

at_place : {A : Type 0} (P : A → Type 0) (list : List A) (place : ℕ) (one : A) → All P list → slice_get list place ≡ Some one → P one
at_place P list place one all is = subst P (get_or_from_slice_get list place one one is) (all place one (slice_get_within list place one is))

contains_at : {A : Type 0} (list : List A) (place : ℕ) (one : A) → slice_get list place ≡ Some one → Contains list one
contains_at list place one is = (place, slice_get_within list place one is, get_or_from_slice_get list place one one is)

pub run_is : (plan : Plan) (run : RunPlan) (worker : WorkerPlan) (store : StoreId) → IsWorkOf plan run worker store → IsRun plan.stores run
run_is plan run worker store is = at_place (IsRun plan.stores) plan.runs is.run_number.0 run is.valid.runs is.run_number.1

pub can_draw : (plan : Plan) (run : RunPlan) (worker : WorkerPlan) (store : StoreId) → WorkersCanDraw → IsWorkOf plan run worker store → CanDraw (task_of run worker store.geometry)
can_draw plan run worker store law is =
    let can = subst (λ (o : Option StorePlan). IsSomeAnd o (λ one. CanDraw (task_of run worker one.id.geometry))) is.its_store.1
    (law plan run worker is.valid (contains_at plan.runs is.run_number.0 run is.run_number.1) (contains_at run.workers is.worker_number.0 worker is.worker_number.1)) in
    subst (λ (id : StoreId). CanDraw (task_of run worker id.geometry)) is.its_store.2 can

pub few_shares : (plan : Plan) (run : RunPlan) (worker : WorkerPlan) (store : StoreId) → SharesAreFew → IsWorkOf plan run worker store → length run.shares ≤ 4096
few_shares plan run worker store law is = law plan run is.valid (contains_at plan.runs is.run_number.0 run is.run_number.1)

-- A tally of no rows has room for each interval of a run.
pub intervals_fit : (plan : Plan) (run : RunPlan) (worker : WorkerPlan) (store : StoreId) (start : ℕ) (tally : Tallied) → IsWorkOf plan run worker store → tally.rows ≡ [] → (run.elapsed + run.interval - 1) / run.interval ≤ tally.row_room → AreIntervals (rules_of plan run worker start).intervals tally
intervals_fit plan run worker store start tally is none room =
    let of = run_is plan run worker store is in
    let some : 1 ≤ (run.elapsed + run.interval - 1) / run.interval = le-div 1 (run.elapsed + run.interval - 1) run.interval (omega (arith, of.interval.at_least)) (omega (arith, of.elapsed.at_least)) in
    record {
      length_above = omega (arith, of.interval.at_least);
      some = some;
      rows = omega (arith, ap length none);
      room = room;
    }

-- It has it whenever the run begins.
pub intervals_at : (plan : Plan) (run : RunPlan) (worker : WorkerPlan) (start other : ℕ) (tally : Tallied) → AreIntervals (rules_of plan run worker start).intervals tally → AreIntervals (rules_of plan run worker other).intervals tally
intervals_at plan run worker start other tally are = record {
  length_above = are.length_above;
  some = are.some;
  rows = are.rows;
  room = are.room;
}

-- the turns that were drawn, by the task
pub drawn_of : (before after : Drawing) (task : Task) → before ≡ record { task = task; turns = 0 } → after.task ≡ before.task → drawn after ≡ turns_of task after.turns
drawn_of before after task is same = ap (λ (t : Task). turns_of t after.turns) (same ∙ ap (λ (d : Drawing). d.task) is)

pub standing_as : (view other : View) (tally : Tallied) (arm fresh : ArmSeen) (notes : ℕ) (clock : ClockSeen) → view ≡ other → arm ≡ fresh → notes ≡ 0 → standing view tally arm notes clock ≡ standing other tally fresh 0 clock
standing_as view other tally arm fresh notes clock v a n =
    ap (λ (w : View). standing w tally arm notes clock) v
    ∙ ap (λ (b : ArmSeen). standing other tally b notes clock) a
    ∙ ap (λ (m : ℕ). standing other tally fresh m clock) n

pub worked_as : (rules : Rules) (store : StoreId) (turns : ℕ) (drawn other : List Turn) (before fresh after : Standing) (answers : List ℕ) (end : WorkEnd) → drawn ≡ other → before ≡ fresh → HasWorked rules store turns drawn before after answers end → HasWorked rules store turns other fresh after answers end
worked_as rules store turns drawn other before fresh after answers end d b worked =
    subst (λ (s : Standing). HasWorked rules store turns other s after answers end) b
    (subst (λ (l : List Turn). HasWorked rules store turns l before after answers end) d worked)

-- The greatest transfer of a store, with one share more.
pub greatest_more : (shares : List Share) (i : ℕ) (share : Share) (store old new : ℕ) → i < length shares → share ≡ get_or shares i share → All (λ (s : Share). s.store ≡ store → s.xfersize ≤ old) (take i shares) → old ≤ new → (share.store ≡ store → share.xfersize ≤ new) → All (λ (s : Share). s.store ≡ store → s.xfersize ≤ new) (take (i + 1) shares)
greatest_more shares i share store old new within is all grows here =
    All-more (λ (s : Share). s.store ≡ store → s.xfersize ≤ new) shares i share within
    (All-weaker (λ (s : Share). s.store ≡ store → s.xfersize ≤ old) (λ (s : Share). s.store ≡ store → s.xfersize ≤ new) (λ s most own. let least : s.xfersize ≤ old = most own in omega (arith, least, grows)) (take i shares) all)
    (subst (λ (s : Share). s.store ≡ store → s.xfersize ≤ new) is here)
