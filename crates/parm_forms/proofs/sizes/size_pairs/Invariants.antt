use Rattle.std.proofs.Common.{length}
use Rattle.parm_forms.proofs.Pairs.{PairsSoFar}
use Rattle.parm_forms.proofs.sizes.size_pairs.Given as goal

abbrev pub invariant-loop-rest : goal.invariant-loop-rest
invariant-loop-rest l = PairsSoFar l.bytes l.items l.rest l.numbers.items

abbrev pub decreases-loop-rest : goal.decreases-loop-rest
decreases-loop-rest l = length l.rest
