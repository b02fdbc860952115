use Rattle.std.proofs.Common.{◌≡◌, map, take}
use Rattle.vd_arm.specs.MemArm.{mem_pass_seen}
use Rattle.vd_yard.specs.Contents.{told_bytes}
use Rattle.vd_yard.proofs.data.joined.Given as goal

abbrev pub invariant-loop-pass : goal.invariant-loop-pass
invariant-loop-pass l = l.bytes.items ≡ told_bytes (map mem_pass_seen (take l.pass-index l.passes))
