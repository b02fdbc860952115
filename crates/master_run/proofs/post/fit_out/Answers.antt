use Rattle.std.proofs.Common.{arith}
use Rattle.master_run.proofs.Fitting.{can_draw, few_shares, intervals_fit, run_is}
use Rattle.master_run.proofs.post.fit_out.Goals as goal

pub new-requires-clause-task : goal.new-requires-clause-task
new-requires-clause-task g c = can_draw c.args.plan.now c.args.run.now c.args.worker.now c.args.store.now c.runs_can_draw.ensures.workers c.requires

pub new-requires-clause-shares : goal.new-requires-clause-shares
new-requires-clause-shares g c = few_shares c.args.plan.now c.args.run.now c.args.worker.now c.args.store.now c.runs_can_draw.ensures.shares c.requires

pub overflow_add-rows : goal.overflow_add-rows
overflow_add-rows g c = let run = run_is c.args.plan.now c.args.run.now c.args.worker.now c.args.store.now c.requires in omega (arith, run.elapsed.at_most, run.interval.at_most)

pub overflow_sub-rows : goal.overflow_sub-rows
overflow_sub-rows g c = let run = run_is c.args.plan.now c.args.run.now c.args.worker.now c.args.store.now c.requires in omega (arith, run.elapsed.at_least)

pub nonzero_div-rows : goal.nonzero_div-rows
nonzero_div-rows g c = let run = run_is c.args.plan.now c.args.run.now c.args.worker.now c.args.store.now c.requires in omega (arith, run.interval.at_least)

pub returns-clause-rows : goal.returns-clause-rows
returns-clause-rows g c = intervals_fit c.args.plan.now c.args.run.now c.args.worker.now c.args.store.now 0 c.in_ok-tally.tally c.requires c.in_ok-tally.ensures.rows.0 c.in_ok-tally.ensures.rows.1
