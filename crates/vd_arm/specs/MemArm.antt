-- What contracts see of a pass and of an arm in memory.
use Rattle.std.specs.Prelude.{◌&&◌, ◌≡◌, ℕ, ◌+◌, ◌-◌, ◌^◌, ◌==◌, min, Bool, List, length, Some, option_map, unwrap_or}
use Rattle.std.specs.List.{find, list_any}
use Rattle.std.proofs.Common.{ap, sym}
use Rattle.vd_outside.specs.Streams.{is_empty}
use Rattle.vd_arm.specs.Arm.{ArmSeen, PassSeen}
use Rattle.vd_arm.specs.Held.{Held, telling}
use Rattle.vd_arm.specs.declared.memory.MemArm.{MemArm}
use Rattle.vd_arm.specs.declared.memory.MemPass.{MemPass}

abbrev pub mem_arm_seen : MemArm → ArmSeen
mem_arm_seen arm = record { faults = arm.faults; good_reads = arm.good_reads; good_writes = arm.good_writes; sure = arm.tells_sure && is_empty arm.failing.items }

-- the calls that fail, each with the number of first sectors that a failed write changes, and how many calls were made
pub record ArmCalls : Type 0 where
  pub failing : List (ℕ × ℕ)
  pub made : ℕ

abbrev pub calls_of : MemArm → ArmCalls
calls_of arm = record { failing = arm.failing.items; made = arm.calls }

-- The next call fails where its number is listed.
abbrev pub fails_now : ArmCalls → Bool
fails_now calls = list_any (λ call. call.0 == calls.made) calls.failing

-- how many first sectors the next call changes where it is a write and fails: what the first pair of its number says
abbrev pub torn_now : ArmCalls → ℕ
torn_now calls = unwrap_or (option_map (λ call. call.1) (find (λ call. call.0 == calls.made) calls.failing)) 0

-- one call was made
abbrev pub one_more : ArmCalls → ArmCalls
one_more calls = record { failing = calls.failing; made = min (calls.made + 1) (2 ^ 64 - 1) }

abbrev pub mem_pass_held : MemPass → Held
mem_pass_held pass = record { block = pass.block.0; bytes = pass.bytes.items }

-- A pass in memory tells the bytes of its block.
abbrev pub mem_pass_seen : MemPass → PassSeen
mem_pass_seen pass = telling (mem_pass_held pass)

as_many : (held bytes : List ℕ) → Some held ≡ Some bytes → length bytes ≡ length held
as_many held bytes is =
    let same : held ≡ bytes = cc in
    ap (λ (l : List ℕ). length l) (sym same)

pub mem_pass_tells : (pass : MemPass) (bytes : List ℕ) → (mem_pass_seen pass).told ≡ Some bytes → length bytes ≡ (mem_pass_seen pass).size
mem_pass_tells pass bytes is = as_many pass.bytes.items bytes is
