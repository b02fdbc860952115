-- The weights of a run's workloads.
use Rattle.std.specs.Prelude.{ℕ, zero, suc, List, [], ◌∷◌, ◌+◌, ◌-◌, ◌/◌, ◌%◌, ◌==◌, nat_le, Bool, if◌then◌else◌, Option, Some, None, Result, Ok}
use Rattle.run_plan.specs.declared.fault.PlanFault.{PlanFault}
use Rattle.run_plan.specs.declared.fault.PlanKind.{PlanKind}
use Rattle.run_plan.specs.declared.fault.PlanKind.TheVariants.{SkewSum}
use Rattle.run_plan.specs.Outcomes.{unless}

-- the sum of those that are given
abbrev pub given : List (Option ℕ) → ℕ
given [] = 0
given (None ∷ skews) = given skews
given (Some skew ∷ skews) = skew + given skews

-- how many aren't given
abbrev pub open_many : List (Option ℕ) → ℕ
open_many [] = 0
open_many (None ∷ skews) = 1 + open_many skews
open_many (Some skew ∷ skews) = open_many skews

-- where all are given they add up to 100, else each other one gets at least 1 of the rest
abbrev pub have_weights : List (Option ℕ) → Bool
have_weights skews = if open_many skews == 0 then given skews == 100 else nat_le (given skews + open_many skews) 100

-- those that are given, and for each other one the same, the first ones one more
abbrev pub shared_out : ℕ → ℕ → List (Option ℕ) → List ℕ
shared_out each more [] = []
shared_out each more (Some skew ∷ skews) = skew ∷ shared_out each more skews
shared_out each zero (None ∷ skews) = each ∷ shared_out each zero skews
shared_out each (suc more) (None ∷ skews) = (each + 1) ∷ shared_out each more skews

abbrev pub skew_kind : Bool → Option PlanKind
skew_kind b = if b then None else Some SkewSum

abbrev pub weights_of : List (Option ℕ) → List ℕ
weights_of skews = shared_out ((100 - given skews) / open_many skews) ((100 - given skews) % open_many skews) skews

-- the weights, or SkewSum where there are none
abbrev pub weights_at : ℕ → List (Option ℕ) → Result (List ℕ) PlanFault
weights_at line skews = unless line (skew_kind (have_weights skews)) (Ok (weights_of skews))
