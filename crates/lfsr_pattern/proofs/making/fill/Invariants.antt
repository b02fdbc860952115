use Rattle.std.proofs.Common.{◌≡◌, ◌*◌, ◌++◌, take, length, w32}
use Rattle.std.specs.Int.{to_le_bytes}
use Rattle.lfsr_pattern.specs.Pattern.{IsFront}
use Rattle.lfsr_pattern.proofs.making.fill.Given as goal

abbrev pub invariant-loop-j : goal.invariant-loop-j
invariant-loop-j l = record {
  long : length l.out ≡ 480;
  front : IsFront l.seed (take l.j l.out ++ to_le_bytes w32 l.state) (8 * l.j);
}
