use Rattle.std.proofs.Common.{◌≡◌, suc, ◌+◌, ◌-◌, arith}
use Rattle.interleave_core.specs.Schedule.{no_counts, seeded}
use Rattle.interleave_core.specs.World.{first_world}
use Rattle.interleave_core.proofs.Wrong.{none_wrong, all_counted, turns_more, few_more, turns_from, turns_end, none_counted}
use Rattle.interleave_core.proofs.schedule.simulate.Goals as goal

pub loop-i-init : goal.loop-i-init
loop-i-init c = record {
  runs = λ new after turns. turns_from (c.args.n - 0) c.args.n c.in_ok-world.world (first_world 64 8 4) new c.seeded-generator.result (seeded c.args.n) no_counts after (omega arith) c.in_ok-world.ensures c.seeded-generator.ensures turns;
  few = none_counted;
}

pub loop-i-preserved : goal.loop-i-preserved
loop-i-preserved c =
    let is : c.args.n - c.loop-i._i ≡ suc (c.args.n - (c.loop-i._i + 1)) = omega (arith, c.loop-i-test.true) in
    record {
      runs = λ new after rest. c.loop-i.invariant.runs new after
          (turns_more (c.args.n - (c.loop-i._i + 1)) (c.args.n - c.loop-i._i) _ _ _ c.loop-i.world c.turn.new.world new c.loop-i.generator c.next_words-words.new.generator c.loop-i.counts c.turn.new.counts after
          c.next_words-words.ensures.x c.next_words-words.ensures.y c.next_words-words.ensures.z c.next_words-words.ensures.rest is c.in_ok-turn.ensures.ok rest);
      few = few_more c.loop-i._i c.loop-i.counts c.turn.new.counts c.loop-i.invariant.few c.turn.ensures.grew;
    }

pub returns-clause-counts : goal.returns-clause-counts
returns-clause-counts c =
    (c.loop-i.world, c.loop-i.invariant.runs c.loop-i.world c.loop-i.counts (turns_end (c.args.n - c.loop-i._i) c.loop-i.world c.loop-i.generator c.loop-i.counts (omega (arith, c.loop-i-test.false))))

pub returns-clause-wrong : goal.returns-clause-wrong
returns-clause-wrong c = none_wrong c.args.n c.loop-i.counts (returns-clause-counts c)

pub returns-clause-steps : goal.returns-clause-steps
returns-clause-steps c = all_counted c.args.n c.loop-i.counts (returns-clause-counts c)
