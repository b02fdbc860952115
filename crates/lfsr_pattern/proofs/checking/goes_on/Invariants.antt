use Rattle.std.proofs.Common.{◌≡◌, ◌*◌, ◌↔◌, length}
use Rattle.lfsr_pattern.specs.Recurrences.{AreFar}
use Rattle.lfsr_pattern.proofs.FarBytes.{AreZeros}
use Rattle.lfsr_pattern.proofs.checking.goes_on.Given as goal

abbrev pub invariant-loop-j : goal.invariant-loop-j
invariant-loop-j l = record {
  long : length l.bad ≡ 32;
  far : AreZeros l.bad ↔ AreFar l.bytes (256 * l.j);
}
