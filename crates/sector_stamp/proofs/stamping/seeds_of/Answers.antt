use Rattle.std.proofs.Common.{◌+◌, ◌∙◌, ap, arith, length-set, ℕ}
use Rattle.vd_base.specs.Geometry.{address_of}
use Rattle.lfsr_pattern.specs.Pattern.{seed_of}
use Rattle.sector_stamp.proofs.Blocks.{written_more}
use Rattle.sector_stamp.proofs.stamping.seeds_of.Goals as goal

pub loop-lane-preserved : goal.loop-lane-preserved
loop-lane-preserved c =
    let geometry = c.args.store.now.geometry in
    let lane = c.loop-lane.lane in
    let seeds = c.loop-lane.seeds in
    record {
      long = length-set seeds lane c.seed.result ∙ c.loop-lane.invariant.long;
      seeds = written_more (λ (k : ℕ). seed_of (address_of geometry c.args.block.0 (c.args.first + k)) c.args.key) seeds lane c.seed.result (omega (arith, c.loop-lane.invariant.long)) c.loop-lane.invariant.seeds
          (c.seed.ensures.value
          ∙ (ap (λ (a : ℕ). seed_of a c.get.result) c.address.ensures.value
          ∙ ap (λ (k : ℕ). seed_of (address_of geometry c.args.block.0 (c.args.first + lane)) k) c.get.ensures.value));
    }
