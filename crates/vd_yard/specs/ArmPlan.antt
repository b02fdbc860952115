-- The calls of a store's arms that are to fail.
use Rattle.std.specs.Prelude.{ℕ, ◌==◌, Bool, List, [], map, Option, Some, None}
use Rattle.std.specs.List.{filter}
use Rattle.vd_outside.specs.Streams.{is_empty}
use Rattle.vd_arm.specs.Arm.{ArmSeen}
use Rattle.vd_yard.specs.declared.arm_plan.ArmPlan.{ArmPlan}

-- of calls listed by arm, call and sectors those of one arm
abbrev pub calls_of_number : ℕ → List (ℕ × ℕ × ℕ) → List (ℕ × ℕ)
calls_of_number number failing = map (λ call. (call.1, call.2)) (filter (λ call. call.0 == number) failing)

-- An arm is handed out with counts of 0, and is sure where no call at its path is listed.
abbrev pub new_arm_seen : List (ℕ × ℕ × ℕ) → ArmSeen
new_arm_seen failing = record { faults = 0; good_reads = 0; good_writes = 0; sure = is_empty failing }

-- the listed calls of the arms of a path
abbrev pub listed : Option ArmPlan → List (ℕ × ℕ × ℕ)
listed None = []
listed (Some plan) = plan.failing.items

abbrev pub arms_sure : Option ArmPlan → Bool
arms_sure plan = is_empty (listed plan)
