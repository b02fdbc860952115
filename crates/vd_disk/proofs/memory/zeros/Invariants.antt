use Rattle.std.proofs.Common.{◌≡◌, replicate}
use Rattle.vd_disk.proofs.memory.zeros.Given as goal

abbrev pub invariant-loop-i : goal.invariant-loop-i
invariant-loop-i l = l.all.items ≡ replicate l._i (replicate 512 0)
