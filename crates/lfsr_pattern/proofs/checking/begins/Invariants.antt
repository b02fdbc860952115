use Rattle.std.proofs.Common.{◌≡◌, ◌*◌, ◌↔◌}
use Rattle.lfsr_pattern.specs.Pattern.{AreLater}
use Rattle.lfsr_pattern.proofs.checking.begins.Given as goal

abbrev pub invariant-loop-j : goal.invariant-loop-j
invariant-loop-j l = l.bad ≡ 0 ↔ AreLater l.bytes (32 * l.j)
