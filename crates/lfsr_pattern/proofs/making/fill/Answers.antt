use Rattle.std.proofs.Common.{◌%◌, arith, length-set}
use Rattle.lfsr_pattern.proofs.Fronts.{front_at_start, front_step, pattern_at_end}
use Rattle.lfsr_pattern.proofs.making.fill.Goals as goal

pub loop-j-init : goal.loop-j-init
loop-j-init c = record { long = c.told-out; front = front_at_start c.args.seed (omega arith) }

pub loop-j-preserved : goal.loop-j-preserved
loop-j-preserved c =
    record {
      long = omega (arith, length-set c.loop-j.out c.loop-j.j (c.loop-j.state % 256), c.loop-j.invariant.long);
      front = front_step c.args.seed c.loop-j.state _ c.loop-j.j c.loop-j.out (omega (arith, c.loop-j.invariant.long)) (omega arith) c.stepped-state.ensures c.loop-j.invariant.front;
    }

pub returns : goal.returns
returns c = pattern_at_end c.args.seed c.loop-j.state c.loop-j.j c.loop-j.out (omega arith) c.loop-j.invariant.long c.loop-j.invariant.front
