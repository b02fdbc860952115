use Rattle.std.proofs.Common.{ap, length, ◌∷◌, [], arith}
use Rattle.std.proofs.lemmas.List.{length-append}
use Rattle.run_plan.specs.Workers.{worker_of}
use Rattle.run_plan.proofs.Steps.{made_more}
use Rattle.run_plan.proofs.workers.push_workers.Goals as goal

pub loop-i-preserved : goal.loop-i-preserved
loop-i-preserved c = record {
  value =
      made_more (worker_of c.args.plan.now c.args.store c.args.slaves c.or_else-many.result c.len-number.result) c.loop-i.i
      c.args.workers.now.items c.loop-i.workers.items _ c.worker_of.result c.loop-i.invariant.value c.worker_of.ensures c.in_ok-push.ensures.items;
  many = omega (arith, ap length c.in_ok-push.ensures.items, length-append c.loop-i.workers.items (c.worker_of.result ∷ []), c.loop-i.invariant.many);
}
