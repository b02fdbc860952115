-- What making the crews of a run came to.
use Rattle.std.specs.Prelude.{◌≡◌, ◌+◌, All, List, ◌++◌, length, OnOk, Result, reverse}
use Rattle.vd_arm.specs.Arm.{ArmSeen, PassSeen}
use Rattle.plan_types.specs.declared.plan.Plan.{Plan}
use Rattle.plan_types.specs.declared.run.RunPlan.{RunPlan}
use Rattle.vd_yard.specs.Yard.{YardSeen}
use Rattle.key_state.specs.declared.seen.BookSeen.{BookSeen}
use Rattle.error_limit.specs.Seats.{IsNew as IsNewErrorSeat}
use Rattle.error_limit.specs.declared.word.ErrorSeat.{ErrorSeat}
use Rattle.error_limit.specs.declared.word.ErrorWord.{ErrorWord}
use Rattle.slave_worker.specs.declared.hand.RunFault.{RunFault}
use Rattle.slave_worker.specs.declared.hand.StoreHand.{StoreHand}
use Rattle.master_run.specs.Crews.{AreSameHands}
use Rattle.master_run.specs.Posts.{Crewed, IsManned, all_paths, posts_of}
use Rattle.master_run.specs.Yards.{TookArms}
use Rattle.master_run.specs.declared.crew.Crew.{Crew}

-- Crews of the last of the hands were made, the last one first, and the hands before them stay as they were. Where all seats were new
-- ones of a word, the crews are manned with such seats, and those that are left are new; just the crews' arms were opened.
pub record Mustered {P B A C : Type 0} (pass_seen : P → PassSeen) (book_seen : B → BookSeen) (arm_seen : A → ArmSeen) (plan : Plan) (run : RunPlan) (yard_before yard_after : YardSeen) (hands_before hands_after : List (StoreHand P B)) (crews_before crews_after : List (Crew P B A C)) (seats_before seats_after : List ErrorSeat) (result : Result (Unit {0}) RunFault) : Type 0 where
  pub rest : List (StoreHand P B)
  pub taken : List (StoreHand P B)
  pub more : List (Crew P B A C)
  pub hands : hands_before ≡ rest ++ taken
  pub same : AreSameHands pass_seen book_seen rest hands_after
  pub crews : crews_after ≡ crews_before ++ more
  pub manned : (word : ErrorWord) → All (IsNewErrorSeat word) seats_before
      → Crewed plan (IsManned pass_seen book_seen arm_seen plan run word yard_before.tells) taken (reverse more) × All (IsNewErrorSeat word) seats_after × TookArms (all_paths plan (reverse more)) yard_before yard_after
  pub seats : OnOk result (length seats_before ≡ length seats_after + length (posts_of (reverse more)))
