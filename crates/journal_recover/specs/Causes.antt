-- What a count of faults says of an answer that may also be another fault.
use Rattle.std.specs.Prelude.{◌≡◌, ℕ, ◌≤◌, Result, IsErrOf}
use Rattle.vd_outside.specs.Causes.{Rose}

-- One answer comes only with a rise, and each other one leaves the count.
pub record FailsOnly {T E : Type 0} (before now : ℕ) (result : Result T E) (fault : E) : Type 0 where
  pub later : before ≤ now
  pub failed : IsErrOf result fault → Rose before now
  pub kept : (IsErrOf result fault → ⊥) → now ≡ before
