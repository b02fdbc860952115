-- A worker of a store whose table is shared, before its work and after it.
use Rattle.std.specs.Prelude.{◌≡◌, ℕ}
use Rattle.vd_base.specs.declared.geometry.StoreId.{StoreId}
use Rattle.vd_outside.specs.Clocks.{ClockSeen}
use Rattle.vd_arm.specs.Arm.{ArmSeen, PassSeen}
use Rattle.plan_types.specs.declared.plan.Plan.{Plan}
use Rattle.plan_types.specs.declared.run.RunPlan.{RunPlan}
use Rattle.key_state.specs.declared.seen.BookSeen.{BookSeen}
use Rattle.claim_table.specs.Seats.{made_in}
use Rattle.claim_table.specs.declared.table.ClaimTable.{ClaimTable}
use Rattle.error_limit.specs.declared.word.ErrorWord.{ErrorWord}
use Rattle.slave_worker.specs.Ends.{IsWorkOf}
use Rattle.master_run.specs.Labors.{DidWork}
use Rattle.master_run.specs.Posts.{IsDone, IsReady, labor_of}
use Rattle.master_run.specs.declared.post.Post.{Post}

module _ {P B A C : Type 0} (pass_seen : P → PassSeen) (book_seen : B → BookSeen) (arm_seen : A → ArmSeen) (plan : Plan) (run : RunPlan) (store : StoreId) (word : ErrorWord) (table : ClaimTable P B) where
  -- The worker is one of the run's for the store of the table, and has all that it needs, unused.
  pub record CanStart (post : Post P A C) : Type 0 where
    pub of : IsWorkOf plan run post.worker store
    pub its_table : (made_in pass_seen book_seen table).store ≡ store
    pub ready : IsReady pass_seen book_seen arm_seen plan run post.worker.store store (arm_seen post.arm).sure word table post

  -- Its work is done, in a run that began so.
  pub record HasDone (clock_seen : C → ClockSeen) (start : ℕ) (before after : Post P A C) : Type 0 where
    pub worker : after.worker ≡ before.worker
    pub done : IsDone before.worker.store word table after
    pub did : DidWork plan run store start (clock_seen before.clock) (made_in pass_seen book_seen table) (arm_seen before.arm).sure (labor_of arm_seen clock_seen after)
