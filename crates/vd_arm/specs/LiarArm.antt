-- What contracts see of an arm that answers Ok and lies, and of its passes.
use Rattle.std.specs.Prelude.{◌≡◌, ℕ, ◌+◌, ◌-◌, ◌*◌, ◌/◌, ◌^◌, ◌<◌, ◌==◌, min, true, List, length, Option, Some, None, option_map, MatchOption}
use Rattle.std.specs.List.{find}
use Rattle.vd_arm.specs.Addressed.{addressed}
use Rattle.vd_arm.specs.Arm.{ArmSeen, PassSeen}
use Rattle.vd_arm.specs.Held.{Held, TookSectors, telling}
use Rattle.vd_arm.specs.MemArm.{mem_pass_held}
use Rattle.vd_arm.specs.Transfers.{EachTold, TookParts, part_of, sector_in}
use Rattle.vd_arm.specs.declared.liar.LiarArm.{LiarArm}
use Rattle.vd_arm.specs.declared.liar.LiarPass.{LiarPass}
use Rattle.vd_arm.specs.declared.liar.Lie.{Lie}
use Rattle.vd_arm.specs.declared.liar.Lie.TheVariants as lie

abbrev pub liar_pass_held : LiarPass → Held
liar_pass_held pass = mem_pass_held pass.inner

-- It tells no bytes.
abbrev pub liar_pass_seen : LiarPass → PassSeen
liar_pass_seen pass = record { block = (liar_pass_held pass).block; size = length (liar_pass_held pass).bytes; told = None }

none_told : (bytes : List ℕ) → ◌≡◌ {A = Option (List ℕ)} None (Some bytes) → ⊥
none_told bytes is = cc

pub liar_pass_tells : (pass : LiarPass) (bytes : List ℕ) → (liar_pass_seen pass).told ≡ Some bytes → length bytes ≡ (liar_pass_seen pass).size
liar_pass_tells pass bytes is = absurd (none_told bytes is)

-- what it would tell
abbrev pub inner_seen : LiarPass → PassSeen
inner_seen pass = telling (liar_pass_held pass)

-- No call of it fails.
abbrev pub liar_arm_seen : LiarArm → ArmSeen
liar_arm_seen arm = record { faults = 0; good_reads = arm.good_reads; good_writes = arm.good_writes; sure = true }

-- the writes that lie, and how many writes were made
pub record LiarWrites : Type 0 where
  pub lies : List (ℕ × Lie)
  pub made : ℕ

abbrev pub writes_of : LiarArm → LiarWrites
writes_of arm = record { lies = arm.lies.items; made = arm.writes }

-- the lie of the next write, where its number is listed: what the first pair of that number says
abbrev pub lie_now : LiarWrites → Option Lie
lie_now writes = option_map (λ pair. pair.1) (find (λ pair. pair.0 == writes.made) writes.lies)

-- one write was made
abbrev pub one_more_write : LiarWrites → LiarWrites
one_more_write writes = record { lies = writes.lies; made = min (writes.made + 1) (2 ^ 64 - 1) }

-- Each sector is that of its part of the bytes, but for the address: those of the blocks from another one on.
abbrev pub TookAddresses : ℕ → List ℕ → List PassSeen → List PassSeen → Type 0
TookAddresses other bytes = EachTold (λ i pass was now.
    (j : ℕ) → j < pass.size / 512 → sector_in now j ≡ addressed ((other + i) * pass.size + 512 * j) (sector_in (part_of bytes pass.size i) j))

-- what a write of these bytes did by a lie
abbrev pub Lied : List ℕ → List PassSeen → List PassSeen → Lie → Type 0
Lied bytes old new lie.Drop = new ≡ old
Lied bytes old new (lie.Swap other) = TookAddresses other bytes old new
Lied bytes old new (lie.Tear many) = TookSectors many bytes old new

-- what it did, by the lie that was listed for it, if any
abbrev pub DidWrite : Option Lie → List ℕ → List PassSeen → List PassSeen → Type 0
DidWrite listed bytes old new = MatchOption listed (TookParts bytes old new) (Lied bytes old new)
