use Rattle.std.proofs.Common.{◌≡◌, ◌≤◌, ℕ, slice_get}
use Rattle.block_ops.proofs.Judging.{AreJudged}
use Rattle.block_ops.proofs.bytes.judge_run.Given as goal

abbrev pub invariant-loop-i : goal.invariant-loop-i
invariant-loop-i l = record {
  judged : AreJudged l.store l.first.0 l.entries l.bytes l.i l.verdicts;
  others : (k : ℕ) → l.i ≤ k → slice_get l.verdicts k ≡ slice_get l.fn.verdicts k;
}
