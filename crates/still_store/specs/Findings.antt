-- Counts of findings, and how counts add up.
use Rattle.std.specs.Prelude.{ℕ, ◌+◌, ◌≤◌, Bool, true, false}
use Rattle.block_verdict.specs.declared.finding.Finding.{Finding}
use Rattle.block_verdict.specs.declared.finding.Finding.TheVariants.{Corrupt, Pending, ReadFault, WriteFault}
use Rattle.run_report.specs.declared.finding.Verified.{Verified}

abbrev pub are_corrupt : Finding → Bool
are_corrupt (Corrupt block known sector part) = true
are_corrupt (Pending block old new holds) = false
are_corrupt (ReadFault block) = false
are_corrupt (WriteFault block) = false

abbrev pub are_unread : Finding → Bool
are_unread (Corrupt block known sector part) = false
are_unread (Pending block old new holds) = false
are_unread (ReadFault block) = true
are_unread (WriteFault block) = false

-- two parts of a store counted together
abbrev pub plus : Verified → Verified → Verified
plus a b = record {
  blocks = a.blocks + b.blocks;
  corrupt = a.corrupt + b.corrupt;
  pending = a.pending + b.pending;
  bad = a.bad + b.bad;
  faults = a.faults + b.faults;
}

-- No count is above the number of blocks.
pub record AreSmall (counted : Verified) (blocks : ℕ) : Type 0 where
  pub seen : counted.blocks ≤ blocks
  pub corrupt : counted.corrupt ≤ blocks
  pub pending : counted.pending ≤ blocks
  pub bad : counted.bad ≤ blocks
  pub faults : counted.faults ≤ blocks
