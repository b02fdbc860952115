-- All that a contract sees of a pass and of an arm.
use Rattle.std.specs.Prelude.{◌≡◌, ℕ, ◌+◌, ◌%◌, ◌^◌, Bool, List, Option, Result, OnOk, OnErr}

-- the block, how many bytes it has, and these, where they are told
pub record PassSeen : Type 0 where
  pub block : ℕ
  pub size : ℕ
  pub told : Option (List ℕ)

-- how often a call failed, the blocks that were read and written well, and whether it tells that no call fails
pub record ArmSeen : Type 0 where
  pub faults : ℕ
  pub good_reads : ℕ
  pub good_writes : ℕ
  pub sure : Bool

-- a good count rose by so many, modulo 2^64
abbrev pub Counted : ℕ → ℕ → ℕ → Type 0
Counted many before now = now % 2 ^ 64 ≡ (before + many) % 2 ^ 64

-- A read of so many blocks adds them to the good reads where it answers Ok; the good writes stay.
pub record Reads {E : Type 0} (many : ℕ) (old new : ArmSeen) (result : Result (Unit {0}) E) : Type 0 where
  pub good : OnOk result (Counted many old.good_reads new.good_reads)
  pub bad : OnErr result (new.good_reads ≡ old.good_reads)
  pub writes : new.good_writes ≡ old.good_writes
