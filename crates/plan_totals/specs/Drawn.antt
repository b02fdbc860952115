-- What the total lines of a plan's runs have to do with the turns that their workers drew.
use Rattle.std.specs.Prelude.{◌≡◌, ℕ, ◌*◌, ◌^◌, ◌<◌, ◌≤◌, Bool, IsTrue, List, [], ◌∷◌, All, length}
use Rattle.std.specs.List.{flat_map, range_with_len, sum_by, zip}
use Rattle.vd_base.specs.Geometry.{Shape}
use Rattle.vd_arm.specs.Arm.{PassSeen}
use Rattle.plan_types.specs.declared.run.RunPlan.{RunPlan}
use Rattle.plan_types.specs.declared.run.WorkerPlan.{WorkerPlan}
use Rattle.key_state.specs.declared.seen.BookSeen.{BookSeen}
use Rattle.claim_table.specs.Sums.{total}
use Rattle.claim_table.specs.Views.{bad}
use Rattle.workload_gen.specs.declared.turn.Turn.{Turn}
use Rattle.slave_worker.specs.Hands.{workers_in}
use Rattle.run_report.specs.Runs.{group_totals}
use Rattle.run_report.specs.declared.run_sums.Group.TheVariants as group
use Rattle.run_report.specs.declared.status.Status.TheVariants as status
use Rattle.run_totals.specs.Drawn.{IsDrawn, IsWholeDraw, first_turns, its_shares, turns_made}
use Rattle.plan_hands.specs.Stores.{book_of}
use Rattle.plan_totals.specs.Made.{MadeRun, made_of, totals_in}
use Rattle.plan_totals.specs.Sentences.{OfPlans, OfStores}

-- what the slave lines of a run add up to
abbrev pub slaves_turns : MadeRun → ℕ
slaves_turns one = sum_by (λ number. (group_totals (group.Slave number) (zip one.run.workers one.tallies)).turns) (range_with_len 1 one.run.slaves)

-- They add up to all turns of all workers.
abbrev pub AllTurnsMade : MadeRun → Type 0
AllTurnsMade one = slaves_turns one ≡ length one.run.workers * one.run.turns

-- all turns of the run that the workers of the store at a place draw
abbrev pub all_turns : RunPlan → Shape → ℕ → List Turn
all_turns run shape place = flat_map (λ worker. first_turns run shape worker run.turns) (workers_in run place)

-- No worker of a run makes more turns than it has. Where its slave lines add up to all turns, each made all of them.
pub record TurnsAreTold (one : MadeRun) : Type 0 where
  pub few : All (λ tally. tally.numbers.turns ≤ one.run.turns) one.tallies
  pub all : AllTurnsMade one → All (λ tally. tally.numbers.turns ≡ one.run.turns) one.tallies

-- The total line of the store at a place is that of the turns that its workers made, which are all turns of their draws where the slave lines
-- add up to all; that of a store with one worker is just that of its first turns.
pub record LineIsDrawn (reread : Bool) (shape : Shape) (place : ℕ) (one : MadeRun) : Type 0 where
  pub drawn : IsDrawn reread (its_shares one.run shape place) (turns_made one.run shape place one.tallies) (totals_in place one)
  pub all_made : AllTurnsMade one → turns_made one.run shape place one.tallies ≡ all_turns one.run shape place
  pub alone : (worker : WorkerPlan) → workers_in one.run place ≡ worker ∷ [] → IsWholeDraw (first_turns one.run shape worker (totals_in place one).turns) (totals_in place one)

module _ {P B : Type 0} (pass_seen : P → PassSeen) (book_seen : B → BookSeen) where
  -- In whatever runs, the turns of workers are as their slave lines say.
  abbrev pub SlavesTellTurns : Type 0
  SlavesTellTurns = OfPlans pass_seen book_seen (λ all. All TurnsAreTold (made_of pass_seen book_seen all))

  -- Where nothing was found, and no block of a store was bad as the runs began, each of its total lines is drawn, and none is bad behind them.
  abbrev pub LinesAreDrawn : Type 0
  LinesAreDrawn = OfStores pass_seen book_seen (λ all its. all.result ≡ status.Good → total bad (book_of its.hand).now ≡ 0
      → All (LineIsDrawn all.plan.reread its.store.id.geometry its.place) (made_of pass_seen book_seen all) × (total bad (book_of its.back).now ≡ 0))

  -- Then too, over a clock that stands still, and early, all turns of each run were made.
  abbrev pub StillRunsMakeAllTurns : Type 0
  StillRunsMakeAllTurns = OfPlans pass_seen book_seen (λ all. all.result ≡ status.Good → IsTrue all.before.clock.still → all.before.clock.last < 2 ^ 63
      → All AllTurnsMade (made_of pass_seen book_seen all))
