-- Room for the counts of a schedule: no step of fewer than 2^32 makes one too great.
use Rattle.std.specs.Prelude.{ℕ, ◌+◌, ◌*◌, ◌^◌, ◌<◌, ◌≤◌}
use Rattle.interleave_core.specs.declared.summary.Summary.{Summary}

-- One step more can be counted.
pub record HasRoom (counts : Summary) : Type 0 where
  pub taken : counts.taken + 1 < 2 ^ 64
  pub idle : counts.idle + 1 < 2 ^ 64
  pub ends : counts.ends + 1 < 2 ^ 64
  pub stops : counts.stops + 1 < 2 ^ 64
  pub wrong : counts.wrong + 2 ^ 32 < 2 ^ 64

-- what one step may add
pub record Grew (before after : Summary) : Type 0 where
  pub taken : after.taken ≤ before.taken + 1
  pub idle : after.idle ≤ before.idle + 1
  pub ends : after.ends ≤ before.ends + 1
  pub stops : after.stops ≤ before.stops + 1
  pub wrong : after.wrong ≤ before.wrong + 2 ^ 32

-- after so many steps
pub record AreFew (steps : ℕ) (counts : Summary) : Type 0 where
  pub taken : counts.taken ≤ steps
  pub idle : counts.idle ≤ steps
  pub ends : counts.ends ≤ steps
  pub stops : counts.stops ≤ steps
  pub wrong : counts.wrong ≤ steps * 2 ^ 32
